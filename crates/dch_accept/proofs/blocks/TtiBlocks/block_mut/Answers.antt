use Rattle.std.proofs.Common.{◌≡◌, ◌<◌, ◌≤◌, ◌*◌, ◌+◌, ◌-◌, suc, ap, refl, ◌∙◌, take, drop, length, arith, List, ℕ}
use Rattle.std.proofs.lemmas.List.{length-take-le, length-drop}
use Rattle.std.proofs.Math.Nat.{mul-le-mul_right}
use Rattle.dch_bits.specs.declared.bit.Bit.{Bit}
use Rattle.dch_accept.specs.Blocks.{Held, block_at}
use Rattle.dch_accept.specs.BlockLending.{with_block}
use Rattle.dch_accept.proofs.Overwritten.{part_shown, part_written}
use Rattle.dch_accept.proofs.blocks.TtiBlocks.block_mut.Goals as goal

pub returns : goal.returns
returns c =
    let inside = c.self.inside in
    let n : ℕ = inside.count * inside.size in
    let from : ℕ = c.args.i * inside.size in
    let long : inside.bits.len ≡ length inside.bits.items = inside.bits.ok.0 in
    let within : n ≤ inside.bits.len = omega (arith, long, c.self.invariant.within, c.self.invariant.whole) in
    let marks : length (take inside.count inside.marks.items) ≡ inside.count = length-take-le inside.count inside.marks.items (omega (arith, c.self.invariant.few, c.self.invariant.marked)) in
    let there : c.args.i < inside.count = omega (arith, c.requires, marks, ap (λ (held : Held). length held.good) c.self.view_is) in
    let next : suc c.args.i * inside.size ≤ n = mul-le-mul_right inside.size there in
    let end : (c.args.i + 1) * inside.size ≡ from + inside.size = omega arith in
    let fits : from + inside.size ≤ n = omega arith in
    let wide : (c.args.i + 1) * inside.size - from ≡ inside.size = omega arith in
    let part : c.slice_mut.result.now ≡ take inside.size (drop from inside.bits.items) = c.slice_mut.ensures.value ∙ ap (λ m. take m (drop from inside.bits.items)) wide in
    let enough : inside.size ≤ length (drop from inside.bits.items) = omega (arith, long, length-drop from inside.bits.items) in (
      (
        refl,
        λ w. ap (λ (bits : List Bit). record { format = inside.format; size = inside.size; bits = bits; good = take inside.count inside.marks.items; room = inside.room })
            (part_written from n inside.bits.len inside.bits.items w long within (omega arith))
            ∙ ap (λ (held : Held). with_block held c.args.i w) c.self.view_is,
      ),
      record {
        writes_back = tt;
        value = part ∙ part_shown from inside.size n inside.bits.items fits ∙ ap (λ (held : Held). block_at held c.args.i) c.self.view_is;
        long = ap length part ∙ length-take-le inside.size (drop from inside.bits.items) enough ∙ ap (λ (held : Held). held.size) c.self.view_is;
      },
    )
