use Rattle.std.proofs.Common.{◌≡◌, ◌∙◌, length, arith, refl, rules}
use Rattle.dch_lines.specs.Processor.{standing}
use Rattle.dch_lines.proofs.Steps.{all_followed, follows_step, follows_stop, none_followed}
use Rattle.dch_lines.proofs.processor.LineProcessor.follow.Goals as goal

pub loop-remaining-init : goal.loop-remaining-init
loop-remaining-init g c = record {
  followed = λ state is. (state, is, none_followed g.C.LineHandler.semantics _ _ (standing state c.args.self.now) c.args.bytes.now c.requires.short);
  counted = refl;
  short = c.requires.short;
  later = omega arith;
}

pub loop-remaining-preserved : goal.loop-remaining-preserved
loop-remaining-preserved g c = record {
  followed = λ state is.
      let so = c.loop-remaining.invariant.followed state is in
      let next = c.in-Ok.ensures.steps so.0 so.1 in
      (next.0, next.1, follows_step g.C.LineHandler.semantics _ _ _ _ _ _ (standing state c.args.self.now) (standing so.0 c.loop-remaining.self) (standing next.0 c.step.new.self) c.args.bytes.now c.loop-remaining.remaining.now c.in-Ok.rest.now so.2 next.2);
  counted = c.in-Ok.ensures.counted ∙ c.loop-remaining.invariant.counted;
  short = c.in-Ok.ensures.short;
  later = omega arith;
}

pub returns-in-Err-clause-follows : goal.returns-in-Err-clause-follows
returns-in-Err-clause-follows g c = λ state is.
    let so = c.loop-remaining.invariant.followed state is in
    let next = c.in-Err.ensures.steps so.0 so.1 in
    (next.0, next.1, follows_stop g.C.LineHandler.semantics _ _ _ _ _ _ (standing state c.args.self.now) (standing so.0 c.loop-remaining.self) (standing next.0 c.step.new.self) c.args.bytes.now so.2.done c.loop-remaining.remaining.now c.in-Err.stop c.loop-remaining.invariant.later so.2.cut so.2.takes next.2)

pub returns-clause-follows : goal.returns-clause-follows
returns-clause-follows g c =
    let none : length c.loop-remaining.remaining.now ≡ 0 = search rules in
    λ state is.
    let so = c.loop-remaining.invariant.followed state is in
    (so.0, so.1, all_followed g.C.LineHandler.semantics _ (standing state c.args.self.now) (standing so.0 c.loop-remaining.self) c.args.bytes.now c.loop-remaining.remaining.now so.2 none)
