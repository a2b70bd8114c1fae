use Rattle.std.proofs.Common.{◌∙◌, arith, below_more, refl}
use Rattle.dch_collision.specs.Collisions.{copies_kept}
use Rattle.dch_collision.specs.Clear.{IsClearBlock}
use Rattle.dch_collision.proofs.blocks.first_block.Goals as goal

pub loop-r-preserved : goal.loop-r-preserved
loop-r-preserved c = record {
  none = below_more (λ r. IsClearBlock c.args.coding c.args.plan.now (copies_kept c.args.sent_flags.now) r) c.loop-r.r c.loop-r.invariant.none (c.if-collides.ensures.none refl);
  kept = c.collides.ensures.kept ∙ c.loop-r.invariant.kept;
}

pub returns-clause-none : goal.returns-clause-none
returns-clause-none c = λ same r inside. c.loop-r.invariant.none r (omega arith)
