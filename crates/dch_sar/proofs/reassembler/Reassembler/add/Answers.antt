use Rattle.std.proofs.Common.{◌≡◌, ◌++◌, ◌∙◌, arith, ap, length, take, sym}
use Rattle.dch_sar.specs.Taking.{added, held}
use Rattle.dch_sar.specs.Stored.{stored}
use Rattle.dch_sar.proofs.Cuts.{grown, held_is, stored_more, write_is}
use Rattle.dch_sar.proofs.reassembler.Reassembler.add.Goals as goal

-- the row with the octets that are added
row : (c : goal.After-self-1) → c.fill_from_slice-self-inside.new.self.items ≡ c.self.inside.octets.items ++ take c.min-count.result c.args.octets.now
row c =
    let known : held c.args.self.now ≡ length c.self.inside.octets.items = ap held (sym c.self.view_is) ∙ held_is c.self.inside.sizes.items c.self.inside.octets.items (omega (arith, c.self.invariant.0.whole)) in
    ap (λ b. b.items) c.fill_from_slice-self-inside.ensures.items
    ∙ ap (λ xs. c.self.inside.octets.items ++ xs) (write_is c.self.inside.octets.items c.args.octets.now c.self.inside.octets.capacity c.min-count.result c.fill_from_slice-self-inside.result (omega (arith, c.min-count.ensures)) (omega (arith, c.requires, c.self.invariant.1)) c.fill_from_slice-self-inside.ensures.count)

pub invariant_of-self : goal.invariant_of-self
invariant_of-self c =
    (rw (row c) (stored_more c.self.inside.sizes.items c.self.inside.octets.items c.args.octets.now c.self.inside.part c.min-count.result c.self.invariant.0 c.min-count.ensures), ap (λ b. b.capacity) c.fill_from_slice-self-inside.ensures.items ∙ c.self.invariant.1, c.self.invariant.2)

pub returns : goal.returns
returns c =
    ap (stored c.self.inside.sizes.items) (row c)
    ∙ (grown c.self.inside.sizes.items c.self.inside.octets.items c.args.octets.now c.self.inside.part c.min-count.result c.self.invariant.0 c.min-count.ensures
    ∙ ap (added c.args.octets.now) c.self.view_is)
