use Rattle.std.proofs.Common.{◌≡◌, ◌∙◌, ℕ, List, None, ap, length, nat_eq, refl, sym}
use Rattle.dch_reset.specs.Standing.{waiting_in}
use Rattle.dch_sar.specs.Taking.{handed_of}
use Rattle.dch_paircmd.proofs.Handing.{going_begun, going_end, going_step, last_handed, none_left, now_handed, one_handed, sizes_on}
use Rattle.dch_paircmd.proofs.side.hand_up.Goals as goal

pub loop-handed-init : goal.loop-handed-init
loop-handed-init g c = record {
  going = going_begun g.P.Page.writes c.args.number (waiting_in c.args.end.now) c.args.page.now (g.met.P.Page.nothing c.args.page.now);
  sizes = record { out = refl; in_ = refl };
  history = λ rules e is. now_handed rules c.args.end.now e is;
}

pub loop-handed-preserved : goal.loop-handed-preserved
loop-handed-preserved g c = record {
  going = going_step g.P.Page.writes c.args.number (waiting_in c.args.end.now) (waiting_in c.loop-handed.end) (waiting_in c.next_unit.new.self) c.args.page.now c.loop-handed.page c.put_handed.new.page c.in-Some.handed c.loop-handed.unit c.next_unit.new.out g.met.P.Page.joined
      c.loop-handed.invariant.going c.in-Some.ensures.first c.in-Some.ensures.written c.in-Some.ensures.rest c.put_handed.ensures;
  sizes = sizes_on c.args.end.now c.loop-handed.end c.next_unit.new.self c.loop-handed.invariant.sizes c.in-Some.ensures.sizes;
  history = λ rules e is. one_handed rules c.loop-handed.end c.next_unit.new.self e c.in-Some.handed c.in-Some.ensures.first c.in-Some.ensures.rest (c.loop-handed.invariant.history rules e is) (c.in-Some.ensures.stands rules);
}

pub returns-clause-told : goal.returns-clause-told
returns-clause-told g c = going_end g.P.Page.writes c.args.number (waiting_in c.args.end.now) (waiting_in c.loop-handed.end) c.args.page.now c.loop-handed.page c.loop-handed.invariant.going (sym c.next_unit.ensures.first ∙ c.in_default.is)

pub returns-clause-settled : goal.returns-clause-settled
returns-clause-settled g c = ap (λ (us : List (List ℕ)). nat_eq (length us) 0) (c.next_unit.ensures.rest ∙ none_left (waiting_in c.loop-handed.end) (sym c.next_unit.ensures.first ∙ c.in_default.is))

pub returns-clause-history : goal.returns-clause-history
returns-clause-history g c rules e is =
    let none : handed_of (waiting_in c.loop-handed.end) ≡ None = sym c.next_unit.ensures.first ∙ c.in_default.is in
    last_handed rules c.loop-handed.end c.next_unit.new.self e none (c.loop-handed.invariant.history rules e is) (c.next_unit.ensures.stands rules)
