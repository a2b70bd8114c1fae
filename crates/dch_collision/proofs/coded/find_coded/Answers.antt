use Rattle.std.proofs.Common.{refl, length}
use Rattle.dch_collision.proofs.Collide.{none-lost-step}
use Rattle.dch_collision.proofs.coded.find_coded.Goals as goal

pub returns-then-not-has_punctured_step-clause-none : goal.returns-then-not-has_punctured_step-clause-none
returns-then-not-has_punctured_step-clause-none c = λ same.
    none-lost-step c.args.rate c.args.sent_flags.now (length c.args.out.now) c.args.filler (c.if-not-has_punctured_step.ensures.none refl)
