-- Lines of a radio frame that has the same parts.
use Rattle.std.proofs.Common.{◌≡◌, ℕ, List}
use Rattle.dch_bits.specs.declared.bit.Bit.{Bit}
use Rattle.dch_bits.specs.declared.bit.Trit.{Trit}
use Rattle.dch_types.specs.declared.channel.Dir.{Dir}
use Rattle.dch_stages.specs.FrameLines.{sent_line}

pub sent_same : (dir : Dir) (count counts size sizes : ℕ) (tfci bits : List Bit) (joined all cells sent : List Trit) (k : ℕ) → count ≡ counts → size ≡ sizes → tfci ≡ bits → joined ≡ all → cells ≡ sent → sent_line dir count size tfci joined cells k ≡ sent_line dir counts sizes bits all sent k
sent_same dir count counts size sizes tfci bits joined all cells sent k a b c d e = cc
