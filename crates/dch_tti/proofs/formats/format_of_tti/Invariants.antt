use Rattle.std.proofs.Common.{◌≡◌, ◌<◌, ℕ}
use Rattle.std.specs.Prelude.{Some}
use Rattle.dch_tti.specs.Formats.{tti_format}
use Rattle.dch_tti.proofs.formats.format_of_tti.Given as goal

abbrev pub invariant-loop-n : goal.invariant-loop-n
invariant-loop-n l = (m : ℕ) → m < l.n → tti_format l.side l.rx_frames l.channel m ≡ Some l.format
