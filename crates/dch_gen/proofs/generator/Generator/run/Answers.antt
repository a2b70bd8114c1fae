use Rattle.std.proofs.Common.{◌≡◌, ◌+◌, ◌-◌, ◌*◌, ◌∙◌, ℕ, suc, arith, subst}
use Rattle.dch_gen.specs.Generators.{HasPassed, MayCount}
use Rattle.dch_gen.proofs.Advancing.{may_less, passed_next}
use Rattle.dch_gen.proofs.generator.Generator.run.Goals as goal

pub pass_frame-requires-clause-room : goal.pass_frame-requires-clause-room
pass_frame-requires-clause-room c = may_less c.loop-frame.self 32 (3200000 - 32 * c.loop-frame.frame) (omega arith) c.loop-frame.invariant.room

pub loop-frame-preserved : goal.loop-frame-preserved
loop-frame-preserved c =
    let f : ℕ = c.loop-frame.frame in
    let next : suc f ≡ f + 1 = omega arith in
    let left : 3200000 - 32 * f ≡ 32 + (3200000 - 32 * (f + 1)) = omega arith in
    record {
      passed = λ first was. subst (λ (k : ℕ). HasPassed first c.args.frames k c.pass_frame.new.self) next (passed_next first c.args.frames f c.loop-frame.self c.pass_frame.new.self c.pass_frame.ensures (c.loop-frame.invariant.passed first was));
      ready = c.pass_frame.ensures.ready;
      same = c.pass_frame.ensures.same ∙ c.loop-frame.invariant.same;
      room = c.pass_frame.ensures.counts (3200000 - 32 * (f + 1)) (subst (λ (k : ℕ). MayCount c.loop-frame.self k) left c.loop-frame.invariant.room);
    }
