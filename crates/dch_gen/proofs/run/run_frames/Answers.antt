use Rattle.std.specs.Prelude.{◌*◌}
use Rattle.dch_gen.proofs.run.run_frames.Goals as goal

pub returns-clause-passed : goal.returns-clause-passed
returns-clause-passed c = c.run.ensures.passed (8 * c.args.start) (c.in_ok-generator.ensures.stands c.args.frames)
