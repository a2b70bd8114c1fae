use Rattle.std.proofs.Common.{arith, refl, subst, sym}
use Rattle.dch_accept.specs.Reports.{step_bytes}
use Rattle.dch_link.proofs.SteptextReporting.{few_less}
use Rattle.dch_link.specs.Events.{Happens}
use Rattle.dch_link.specs.LinkNodes.{event_of}
use Rattle.dch_gen.specs.Counting.{ShowsCounts}
use Rattle.dch_gen.specs.Generators.{Advances, IsReady, MayCount, Parts, stage_bytes}
use Rattle.dch_gen.specs.contracts.generator.Generator.{the_view}
use Rattle.dch_gen.proofs.Stepping.{stepped}
use Rattle.dch_gen.proofs.generator.Generator.happen.Goals as goal

pub returns : goal.returns
returns c =
    let old : Parts = the_view c.self.inside in
    let ready : IsReady old = subst IsReady (sym c.self.view_is) c.requires.ready in
    let may : MayCount old 1 = subst (λ (p : Parts). MayCount p 1) (sym c.self.view_is) c.requires.room in
    let new : Parts = record { accepted = old.accepted; link = c.happen.new.self; counts = c.happen.new.user } in
    subst (λ (p : Parts). Advances 1 (λ link next lines. Happens link (event_of c.args.event) next lines) p new) c.self.view_is
    (stepped (λ link next lines. Happens link (event_of c.args.event) next lines) old new ready may c.happen.ensures.happens c.happen.ensures.opened refl (few_less ShowsCounts (step_bytes old.accepted.config) (stage_bytes old.accepted.config) old.counts c.happen.new.user (omega arith) c.happen.ensures.few))
