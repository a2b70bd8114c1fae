use Rattle.std.proofs.Common.{arith, length-drop, length-take}
use Rattle.dch_coding.proofs.Sizes.{plan_whole}
use Rattle.dch_coding.proofs.cutting.join.Goals as goal

pub copy_from_slice-requires : goal.copy_from_slice-requires
copy_from_slice-requires c = simp (length-take, length-drop) (omega (arith, plan_whole c.args.plan.now c.requires.plan))
