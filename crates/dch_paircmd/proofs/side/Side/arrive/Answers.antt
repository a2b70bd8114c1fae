use Rattle.std.proofs.Common.{◌≡◌, ◌≤◌, ◌∙◌, ◌∷◌, ℕ, List, All, ap, length, arith, subst, sym}
use Rattle.std.proofs.lemmas.List.Elements.{All-head, All-tail}
use Rattle.dch_reset.specs.Answers.{came_read}
use Rattle.dch_reset.specs.Standing.{size_in, size_of}
use Rattle.dch_rlcpdu.specs.Am.{am_reading}
use Rattle.dch_paircmd.specs.Queues.{octets_of}
use Rattle.dch_paircmd.specs.Handlers.{AreShort, IsSide, SideValue}
use Rattle.dch_paircmd.specs.contracts.side.Side.{the_view}
use Rattle.dch_paircmd.proofs.Arriving.{arrived}
use Rattle.dch_paircmd.proofs.side.Side.arrive.Goals as goal

pub pdu-got-requires-clause-size : goal.pdu-got-requires-clause-size
pdu-got-requires-clause-size g c =
    let v : SideValue = the_view c.self.inside in
    let short : AreShort v.end (octets_of c.in-Some.pdu ∷ c.pop.new.self) = subst (AreShort v.end) c.in-Some.ensures.first.0 c.self.invariant.short in
    subst (λ o. length o ≤ size_in v.end) (sym c.octets.ensures) (All-head (λ (p : List ℕ). length p ≤ size_in v.end) (octets_of c.in-Some.pdu) c.pop.new.self short)

pub invariant_of-self : goal.invariant_of-self
invariant_of-self g c =
    let v : SideValue = the_view c.self.inside in
    let short : AreShort v.end (octets_of c.in-Some.pdu ∷ c.pop.new.self) = subst (AreShort v.end) c.in-Some.ensures.first.0 c.self.invariant.short in
    let comes : size_in c.hand_up.new.end ≡ size_in v.end = c.hand_up.ensures.sizes.in_ ∙ c.pdu-got.ensures.sizes.in_ in
    record {
      size_is = c.self.invariant.size_is ∙ sym (c.hand_up.ensures.sizes.out ∙ c.pdu-got.ensures.sizes.out);
      least = c.self.invariant.least;
      most = c.self.invariant.most;
      comes = omega (arith, comes, c.self.invariant.comes);
      settled = c.hand_up.ensures.settled;
      few = omega (arith, c.self.invariant.few, ap length c.in-Some.ensures.first.0);
      short = subst (λ n. All (λ (p : List ℕ). length p ≤ n) c.pop.new.self) (sym comes) (All-tail (λ (p : List ℕ). length p ≤ size_in v.end) (octets_of c.in-Some.pdu) c.pop.new.self short);
    }

pub returns-in-Some-clause-arrives : goal.returns-in-Some-clause-arrives
returns-in-Some-clause-arrives g c rules s is =
    let v : SideValue = the_view c.self.inside in
    let here : IsSide rules v s = subst (λ (x : SideValue). IsSide rules x s) (sym c.self.view_is) is in
    let coming : v.coming ≡ c.octets.result.now ∷ c.pop.new.self = c.in-Some.ensures.first.0 ∙ ap (λ o. o ∷ c.pop.new.self) (sym c.octets.ensures) in
    let came = c.pdu-got.ensures.stands rules s.state here.end in
    arrived g.P.Page.writes c.args.number rules v c.pdu-got.new.self c.hand_up.new.end c.pop.new.self c.octets.result.now s c.pdu-got.result c.args.page.now c.put_got.new.page c.hand_up.new.page g.met.P.Page.joined here coming c.self.invariant.size_is
    (c.pdu-got.ensures.answer rules s.state here.end) came (c.hand_up.ensures.history rules (came_read rules (size_of v.end) s.state (am_reading c.octets.result.now)) came) c.put_got.ensures c.hand_up.ensures.told
