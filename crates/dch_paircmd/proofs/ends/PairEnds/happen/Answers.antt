use Rattle.std.proofs.Common.{◌≡◌, ◌∙◌, true, false, ap, subst, sym}
use Rattle.std.specs.Prelude.{◌==◌}
use Rattle.std.proofs.lemmas.Bool.{ne_eqb}
use Rattle.dch_script.specs.Pair.{pair_of}
use Rattle.dch_paircmd.specs.Rules.{end_in}
use Rattle.dch_paircmd.specs.Handlers.{AreEnds, EndsValue}
use Rattle.dch_paircmd.specs.contracts.ends.PairEnds.{the_view}
use Rattle.dch_paircmd.proofs.Handling.{first_answers, first_sides, second_answers, second_sides}
use Rattle.dch_paircmd.proofs.ends.PairEnds.happen.Goals as goal

pub returns-then-end_in-eq0-clause-answers : goal.returns-then-end_in-eq0-clause-answers
returns-then-end_in-eq0-clause-answers g c e is =
    let v : EndsValue = the_view c.self.inside in
    let are : AreEnds v e = subst (λ x. AreEnds x e) (sym c.self.view_is) is in
    let same : (end_in (pair_of c.args.line) == 0) ≡ true = ap (λ n. n == 0) (sym c.end_in.ensures ∙ c.if-end_in-eq0.true) in
    first_answers g.P.Page.writes c.happen.result e (pair_of c.args.line) c.happen.new.near c.happen.new.far c.args.page.now c.happen.new.page same (c.happen.ensures.answers e.rules (record { near = e.first; far = e.second }) (first_sides v e are))

pub returns-else-end_in-eq0-clause-answers : goal.returns-else-end_in-eq0-clause-answers
returns-else-end_in-eq0-clause-answers g c e is =
    let v : EndsValue = the_view c.self.inside in
    let are : AreEnds v e = subst (λ x. AreEnds x e) (sym c.self.view_is) is in
    let same : (end_in (pair_of c.args.line) == 0) ≡ false = ne_eqb (end_in (pair_of c.args.line)) 0 (λ q. c.if-end_in-eq0.false (c.end_in.ensures ∙ q)) in
    second_answers g.P.Page.writes c.happen-else-end_in-eq0.result e (pair_of c.args.line) c.happen-else-end_in-eq0.new.near c.happen-else-end_in-eq0.new.far c.args.page.now c.happen-else-end_in-eq0.new.page same
    (c.happen-else-end_in-eq0.ensures.answers e.rules (record { near = e.second; far = e.first }) (second_sides v e are))
