use Rattle.toml.specs.View.{table_view}
use Rattle.dch_tree.proofs.First.{reads}
use Rattle.dch_tree.proofs.document.configuration.Goals as goal

pub returns : goal.returns
returns c = rw c.unless.ensures (reads (table_view c.args.document.now) _ c.in-Ok.config c.in-Ok.ensures.first c.in-Ok.ensures.value)
