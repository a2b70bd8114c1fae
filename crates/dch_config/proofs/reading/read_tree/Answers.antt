use Rattle.toml.specs.View.{table_view}
use Rattle.dch_tree.proofs.Kept.{few_bearers}
use Rattle.dch_config.proofs.Outcomes.{kept}
use Rattle.dch_config.proofs.GoodBearers.{good_if}
use Rattle.dch_config.proofs.reading.read_tree.Goals as goal

pub within_limits-requires : goal.within_limits-requires
within_limits-requires c = rw c.in-Ok.ensures.1 (few_bearers (table_view c.args.table.now) c.in-Ok.ensures.0)

pub returns-in-Ok-clause-reads : goal.returns-in-Ok-clause-reads
returns-in-Ok-clause-reads c = kept (table_view c.args.table.now) c.in-Ok.config c.within_limits.result c.in-Ok.ensures.0 c.in-Ok.ensures.1 c.within_limits.ensures

pub returns-in-Ok-clause-good : goal.returns-in-Ok-clause-good
returns-in-Ok-clause-good c =
    good_if (table_view c.args.table.now) c.within_limits.result
    (kept (table_view c.args.table.now) c.in-Ok.config c.within_limits.result c.in-Ok.ensures.0 c.in-Ok.ensures.1 c.within_limits.ensures)
