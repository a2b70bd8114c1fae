use Rattle.std.proofs.Common.{◌≡◌, ◌≤◌, ◌*◌, ◌+◌, ◌∙◌, ◌++◌, ap, sym, subst, take, drop, length, arith, List, ℕ}
use Rattle.std.specs.Prelude.{replicate, true, Bool}
use Rattle.std.specs.Int.{div_ceil}
use Rattle.std.proofs.lemmas.List.{length-take-le}
use Rattle.std.proofs.lemmas.Nat.{row_fits}
use Rattle.dch_bits.specs.declared.bit.Bit.{Bit}
use Rattle.dch_types.specs.declared.channel.Format.{Format}
use Rattle.dch_accept.specs.Blocks.{Held}
use Rattle.dch_accept.specs.Padded.{bits_from, IsUnpacked}
use Rattle.dch_accept.proofs.Overwritten.{part_shown, whole_written}
use Rattle.dch_accept.proofs.blocks.TtiBlocks.unpack.Goals as goal

pub returns-clause-unpacked : goal.returns-clause-unpacked
returns-clause-unpacked c =
    let inside = c.self.inside in
    let format : Format = c.args.format.now in
    let octets : List ℕ = c.args.octets.now in
    let out : List Bit = c.unpack_blocks.new.out in
    let n : ℕ = inside.count * inside.size in
    let sized : inside.size ≡ format.size = ap (λ (held : Held). held.size) c.self.view_is ∙ c.resize.ensures.size in
    let marks : length (take inside.count inside.marks.items) ≡ inside.count = length-take-le inside.count inside.marks.items (omega (arith, c.self.invariant.few, c.self.invariant.marked)) in
    let counted : inside.count ≡ format.number = sym marks ∙ ap (λ (held : Held). length held.good) c.self.view_is ∙ c.resize.ensures.count in
    let list : List Bool = c.clear.new.list in
    let whole : length out ≡ length inside.bits.items = c.unpack_blocks.auto.out ∙ ap length c.deref_mut-2.ensures.value in
    let whole_marks : length list ≡ length inside.marks.items = c.clear.auto.list ∙ ap length c.deref_mut.ensures.value in
    let room : n ≤ length out = omega (arith, whole, c.self.invariant.within, c.self.invariant.whole) in
    let shown : List Bit → List Bool → Held = λ bits good. record { format = inside.format; size = inside.size; bits = take n bits; good = take inside.count good; room = inside.room } in
    let plain : IsUnpacked c.args.number format octets (shown out list) = record {
      numbered = ap (λ (held : Held). held.format) c.self.view_is ∙ c.resize.ensures.format;
      sized = sized;
      long = length-take-le n out room ∙ ap (λ k. k * inside.size) counted ∙ ap (λ k. format.number * k) sized;
      good = c.clear.ensures.front ∙ ap (λ k. replicate k true) counted;
      blocks = λ b there.
          let fits : b * inside.size + inside.size ≤ n = row_fits b inside.size inside.count inside.size (omega (arith, there, counted)) (omega arith) in
          sym (part_shown (b * inside.size) inside.size n out fits)
          ∙ c.unpack_blocks.ensures b (omega (arith, there, counted))
          ∙ ap (λ size. bits_from octets (8 * (b * div_ceil size 8)) size) sized;
    } in
    subst (λ (bits : List Bit). IsUnpacked c.args.number format octets (shown bits (take inside.marks.len (list ++ drop (length list) inside.marks.items))))
    (sym (whole_written inside.bits.len inside.bits.items out inside.bits.ok.0 whole))
    (subst (λ (good : List Bool). IsUnpacked c.args.number format octets (shown out good)) (sym (whole_written inside.marks.len inside.marks.items list inside.marks.ok.0 whole_marks)) plain)
