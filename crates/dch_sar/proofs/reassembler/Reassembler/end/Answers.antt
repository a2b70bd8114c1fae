use Rattle.std.proofs.Common.{◌≡◌, ◌++◌, ◌∷◌, [], ◌∙◌, arith, ap, length, sym}
use Rattle.dch_sar.specs.Taking.{ended}
use Rattle.dch_sar.specs.Stored.{stored}
use Rattle.dch_sar.proofs.Cuts.{pushed, stored_end, ended_is, length-cut}
use Rattle.dch_sar.proofs.reassembler.Reassembler.end.Goals as goal

-- the sizes with one more
sizes : (c : goal.After-self-1) → c.push_back.new.self.items ≡ c.self.inside.sizes.items ++ c.self.inside.part ∷ []
sizes c =
    let count : length c.args.self.now.waiting ≡ length c.self.inside.sizes.items = ap (λ r. length r.waiting) (sym c.self.view_is) ∙ length-cut c.self.inside.sizes.items c.self.inside.octets.items in
    ap (λ b. b.items) c.push_back.ensures.items ∙ pushed c.self.inside.sizes.items c.self.inside.part c.self.inside.sizes.capacity (omega (arith, c.requires, c.self.invariant.2))

pub invariant_of-self : goal.invariant_of-self
invariant_of-self c =
    (rw (sizes c) (stored_end c.self.inside.sizes.items c.self.inside.octets.items c.self.inside.part c.self.invariant.0), c.self.invariant.1, ap (λ b. b.capacity) c.push_back.ensures.items ∙ c.self.invariant.2)

pub returns-then-self-gt0 : goal.returns-then-self-gt0
returns-then-self-gt0 c =
    ap (λ ns. stored ns c.self.inside.octets.items) (sizes c)
    ∙ (ended_is c.self.inside.sizes.items c.self.inside.octets.items c.self.inside.part c.self.invariant.0 c.if-self-gt0.true
    ∙ ap ended c.self.view_is)
