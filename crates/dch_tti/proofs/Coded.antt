-- The coded bits of a TTI are determined by its blocks, and as many as its format wants.
use Rattle.std.proofs.Common.{◌≡◌, ◌+◌, ℕ, List, length, ap, sym, ◌∙◌}
use Rattle.dch_bits.specs.declared.bit.Bit.{Bit}
use Rattle.dch_types.specs.declared.channel.Format.{Format}
use Rattle.dch_types.specs.declared.channel.Trch.{Trch}
use Rattle.dch_types.specs.Lengths.{coded_bits, crc_size, tti_bits}
use Rattle.dch_coding.specs.Segments.{plan_of}
use Rattle.dch_coding.proofs.Attached.{attached_one}
use Rattle.dch_coding.specs.Chain.{coded_of}
use Rattle.dch_coding.specs.Ttis.{IsCodedTti, part}
use Rattle.dch_accept.proofs.Parts.{same_parts}
use Rattle.dch_tti.proofs.Blocks.{length-coded_blocks}

pub coded_one : (channel : Trch) (format : Format) (blocks one other : List Bit) → IsCodedTti channel format blocks one → IsCodedTti channel format blocks other → one ≡ other
coded_one channel format blocks one other a b =
    let w : ℕ = format.size + crc_size channel.crc in
    let same : a.joined ≡ b.joined = same_parts a.joined b.joined format.number w a.are.whole b.are.whole (λ r inside. attached_one channel.crc (part r format.size blocks) (part r w a.joined) (part r w b.joined) (a.are.parts r inside) (b.are.parts r inside)) in
    a.coded ∙ ap (coded_of channel.coding) same ∙ sym b.coded

pub coded_long : (channel : Trch) (format : Format) (blocks out : List Bit) → IsCodedTti channel format blocks out → length out ≡ tti_bits channel format
unfolding tti_bits
coded_long channel format blocks out c =
    let n : ℕ = length c.joined in
    ap length c.coded ∙ length-coded_blocks channel.coding (plan_of n channel.coding) c.joined (plan_of n channel.coding).blocks ∙ ap (coded_bits channel.coding) c.are.whole
