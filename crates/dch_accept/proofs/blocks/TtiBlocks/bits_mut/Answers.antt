use Rattle.std.proofs.Common.{◌≡◌, ◌≤◌, ◌*◌, ap, refl, ◌∙◌, take, length, arith, List, ℕ}
use Rattle.std.proofs.lemmas.Slice.{between_from_start}
use Rattle.dch_bits.specs.declared.bit.Bit.{Bit}
use Rattle.dch_accept.specs.Blocks.{Held}
use Rattle.dch_accept.specs.BlockLending.{with_bits}
use Rattle.dch_accept.proofs.Overwritten.{front_written}
use Rattle.dch_accept.proofs.blocks.TtiBlocks.bits_mut.Goals as goal

pub returns : goal.returns
returns c =
    let inside = c.self.inside in
    let n : ℕ = inside.count * inside.size in
    let long : inside.bits.len ≡ length inside.bits.items = inside.bits.ok.0 in
    let within : n ≤ inside.bits.len = omega (arith, long, c.self.invariant.within, c.self.invariant.whole) in (
      (
        refl,
        λ w. ap (λ (bits : List Bit). record { format = inside.format; size = inside.size; bits = bits; good = take inside.count inside.marks.items; room = inside.room })
            (front_written n inside.bits.len inside.bits.items w long within)
            ∙ ap (λ (held : Held). with_bits held w) c.self.view_is,
      ),
      record {
        writes_back = tt;
        value = c.slice_mut.ensures.value ∙ between_from_start inside.bits.items n ∙ ap (λ (held : Held). held.bits) c.self.view_is;
      },
    )
