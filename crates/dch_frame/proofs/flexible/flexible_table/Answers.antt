use Rattle.std.proofs.Common.{◌∙◌, sym}
use Rattle.dch_frame.proofs.Lowered.{after-zero}
use Rattle.dch_frame.proofs.flexible.flexible_table.Goals as goal

pub loop-c-init : goal.loop-c-init
loop-c-init c i f inside format = c.first_table-table.ensures i f inside format ∙ sym (after-zero c.args.side.now c.args.ndata i f)
