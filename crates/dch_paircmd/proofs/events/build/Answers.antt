use Rattle.std.proofs.Common.{◌<◌, length, arith, subst, sym}
use Rattle.std.proofs.lemmas.Bool.Decides.{nat_tests}
use Rattle.dch_script.specs.Pair.{build}
use Rattle.dch_paircmd.specs.Handlers.{LeadsTo, SideValue}
use Rattle.dch_paircmd.proofs.Leading.{built}
use Rattle.dch_paircmd.proofs.events.build.Goals as goal

pub returns-clause-answers : goal.returns-clause-answers
returns-clause-answers g c rules s are =
    let value = c.coming.ensures.value in
    let room = c.if-coming-ge-MOST_PDUS.false in
    let few : length c.args.far.now.coming < 1024 = grind (arith, nat_tests) in
    subst (λ (v : SideValue). LeadsTo g.P.Page.writes rules s (build c.args.end) c.build.new.self v c.args.page.now c.put_octets.new.page) (sym c.send.ensures)
    (built g.P.Page.writes rules s c.args.end c.args.near.now c.args.far.now c.build.new.self c.build.new.out c.args.page.now c.put_octets.new.page are (c.if-not-due.ensures.answer rules s.near are.one) few c.build.ensures.long
    (c.build.ensures.written rules s.near are.one) (c.build.ensures.stands rules s.near are.one) c.put_octets.ensures)
