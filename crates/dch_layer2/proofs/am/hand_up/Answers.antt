use Rattle.std.proofs.Common.{◌≡◌, ◌∙◌, ℕ, List, None, ap, length, nat_eq, sym}
use Rattle.dch_pair.specs.EntityStanding.{size_of, waiting_in}
use Rattle.dch_pair.proofs.Peers.{none_waits, one_handed}
use Rattle.dch_sar.specs.Taking.{handed_of}
use Rattle.dch_layer2.proofs.AmSides.{last_handed, none_left, sizes_on, some_waits}
use Rattle.dch_layer2.proofs.Lines.{going_end, going_step}
use Rattle.dch_layer2.proofs.am.hand_up.Goals as goal

pub loop-handed-preserved : goal.loop-handed-preserved
loop-handed-preserved g c = record {
  going = going_step g.U.Indications.shows c.args.dir c.args.bearer (waiting_in c.args.entity.now) (waiting_in c.loop-handed.entity) (waiting_in c.next_unit.new.self) c.args.user.now c.loop-handed.user c.tell_handed.new.user c.in-Some.handed c.loop-handed.unit c.next_unit.new.out
      c.loop-handed.invariant.going c.in-Some.ensures.first c.in-Some.ensures.written c.in-Some.ensures.rest c.tell_handed.ensures;
  sizes = sizes_on c.args.entity.now c.loop-handed.entity c.next_unit.new.self c.loop-handed.invariant.sizes c.in-Some.ensures.sizes;
  history = λ rules e is. one_handed rules c.loop-handed.entity c.next_unit.new.self e (some_waits (waiting_in c.loop-handed.entity) c.in-Some.handed c.in-Some.ensures.first) c.in-Some.ensures.rest (c.loop-handed.invariant.history rules e is) (c.in-Some.ensures.stands rules);
}

pub returns-clause-told : goal.returns-clause-told
returns-clause-told g c = going_end g.U.Indications.shows c.args.dir c.args.bearer (waiting_in c.args.entity.now) (waiting_in c.loop-handed.entity) c.args.user.now c.loop-handed.user c.loop-handed.invariant.going (sym c.next_unit.ensures.first ∙ c.in_default.is)

pub returns-clause-settled : goal.returns-clause-settled
returns-clause-settled g c = ap (λ (us : List (List ℕ)). nat_eq (length us) 0) (c.next_unit.ensures.rest ∙ none_left (waiting_in c.loop-handed.entity) (sym c.next_unit.ensures.first ∙ c.in_default.is))

pub returns-clause-history : goal.returns-clause-history
returns-clause-history g c rules e is =
    let none : handed_of (waiting_in c.loop-handed.entity) ≡ None = sym c.next_unit.ensures.first ∙ c.in_default.is in
    last_handed rules (size_of c.loop-handed.entity) c.loop-handed.entity c.next_unit.new.self e none (λ settled. none_waits rules c.loop-handed.entity e settled (c.loop-handed.invariant.history rules e is)) (c.next_unit.ensures.stands rules)
