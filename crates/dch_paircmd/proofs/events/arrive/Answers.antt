use Rattle.std.proofs.Common.{◌≡◌, ◌∙◌, false, length}
use Rattle.std.specs.Prelude.{◌==◌}
use Rattle.std.proofs.lemmas.Bool.{ne_eqb}
use Rattle.dch_paircmd.proofs.Leading.{brought}
use Rattle.dch_paircmd.proofs.events.arrive.Goals as goal

pub returns-clause-answers : goal.returns-clause-answers
returns-clause-answers g c rules s far are =
    let some : (length c.args.near.now.coming == 0) ≡ false = ne_eqb (length c.args.near.now.coming) 0 (λ q. c.if-coming-eq0.false (c.coming.ensures.value ∙ q)) in
    brought g.P.Page.writes rules s c.args.end c.args.near.now far c.arrive.new.self c.args.page.now c.arrive.new.page are some (c.arrive.ensures.arrives rules s.near are.one)
