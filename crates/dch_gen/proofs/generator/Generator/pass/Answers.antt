use Rattle.std.proofs.Common.{refl, subst, sym}
use Rattle.dch_link.specs.Stages.{AtStage}
use Rattle.dch_gen.specs.Generators.{Advances, IsReady, MayCount, Parts}
use Rattle.dch_gen.specs.contracts.generator.Generator.{the_view}
use Rattle.dch_gen.proofs.Stepping.{stepped}
use Rattle.dch_gen.proofs.generator.Generator.pass.Goals as goal

pub returns : goal.returns
returns c =
    let old : Parts = the_view c.self.inside in
    let ready : IsReady old = subst IsReady (sym c.self.view_is) c.requires.ready in
    let may : MayCount old 1 = subst (λ (p : Parts). MayCount p 1) (sym c.self.view_is) c.requires.room in
    let new : Parts = record { accepted = old.accepted; link = c.pass.new.self; counts = c.pass.new.user } in
    subst (λ (p : Parts). Advances 1 (AtStage c.args.stage) p new) c.self.view_is
    (stepped (AtStage c.args.stage) old new ready may c.pass.ensures.passes c.pass.ensures.opened refl c.pass.ensures.few)
