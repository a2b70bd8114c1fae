use Rattle.std.proofs.Common.{◌+◌, ◌≤◌, Option, Some, None, IfSome, arith, refl, subst, sym}
use Rattle.dch_link.specs.Passing.{IsStage}
use Rattle.dch_link.specs.declared.stage.Stage.{Stage}
use Rattle.dch_link.specs.declared.stage.Stage.TheVariants.{RncTick}
use Rattle.dch_gen.specs.Run.{PassFrom}
use Rattle.dch_gen.specs.Generators.{Advances, Parts}
use Rattle.dch_gen.specs.contracts.generator.Generator.{the_view}
use Rattle.dch_gen.proofs.Advancing.{IsUnderWay, arrives, goes_on, left_next, may_less, none_is, passes_all, starts_off}
use Rattle.dch_gen.proofs.generator.Generator.pass_stages.Goals as goal

pub loop-next-init : goal.loop-next-init
loop-next-init c = starts_off c.args.self.now c.requires.ready

pub pass-requires-clause-room : goal.pass-requires-clause-room
pass-requires-clause-room c =
    let way : IsUnderWay (Some c.in-Some.stage) c.args.self.now c.loop-next.self = subst (λ (o : Option Stage). IsUnderWay o c.args.self.now c.loop-next.self) c.in-Some.is c.loop-next.invariant in
    let few : way.steps + 1 ≤ 20 = omega (arith, way.sum, left_next c.in-Some.stage way.stage) in
    way.advances.counts 1 (may_less c.args.self.now (way.steps + 1) 20 few c.requires.room)

pub loop-next-preserved : goal.loop-next-preserved
loop-next-preserved c =
    let way : IsUnderWay (Some c.in-Some.stage) c.args.self.now c.loop-next.self = subst (λ (o : Option Stage). IsUnderWay o c.args.self.now c.loop-next.self) c.in-Some.is c.loop-next.invariant in
    let later = subst (λ (o : Option Stage). IfSome o IsStage) c.next-next.ensures.value c.next-next.ensures.stage in
    subst (λ (o : Option Stage). IsUnderWay o c.args.self.now c.pass.new.self) (sym c.next-next.ensures.value) (goes_on c.in-Some.stage c.args.self.now c.loop-next.self c.pass.new.self way c.pass.ensures later)

pub returns : goal.returns
returns c =
    let mid : Parts = the_view c.self.inside in
    let new : Parts = record mid { link = c.end_frame.new.self } in
    let way : IsUnderWay None c.args.self.now c.loop-next.self = subst (λ (o : Option Stage). IsUnderWay o c.args.self.now c.loop-next.self) (none_is c.loop-next.next c.in_default.not-Some) c.loop-next.invariant in
    let passed : Advances 20 (PassFrom 20 (Some RncTick)) c.args.self.now mid = subst (λ (p : Parts). Advances 20 (PassFrom 20 (Some RncTick)) c.args.self.now p) (sym c.self.view_is) (arrives c.args.self.now c.loop-next.self way) in
    passes_all c.args.self.now mid new passed (c.end_frame.ensures.clear mid.accepted) c.end_frame.ensures.opened refl
