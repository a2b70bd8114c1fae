use Rattle.dch_coding.specs.declared.rate.Rate.TheVariants.{Half, Third}
use Rattle.dch_trellis.proofs.Told.{outputs_read}
use Rattle.dch_trellis.proofs.table.Tables.new.Goals as goal

pub returns-clause-half_outputs : goal.returns-clause-half_outputs
returns-clause-half_outputs c = outputs_read Half c.table_of-half.result c.outputs_of.result c.table_of-half.ensures c.outputs_of.ensures

pub returns-clause-third_outputs : goal.returns-clause-third_outputs
returns-clause-third_outputs c = outputs_read Third c.table_of-third.result c.outputs_of-2.result c.table_of-third.ensures c.outputs_of-2.ensures
