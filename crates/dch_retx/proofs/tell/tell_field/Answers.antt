use Rattle.std.proofs.Common.{◌∙◌, sym}
use Rattle.dch_retx.specs.StatusItems.{first_of}
use Rattle.dch_retx.proofs.Limits.{tell_obeyed}
use Rattle.dch_retx.proofs.tell.tell_field.Goals as goal

pub returns-in-MrwAck : goal.returns-in-MrwAck
returns-in-MrwAck c = tell_obeyed c.args.told c.args.sent.window c.args.sent.first c.args.sent.count (first_of c.args.cursor.now) c.in-MrwAck.n c.in-MrwAck.sn (sym c.in-MrwAck.is ∙ c.requires.field)
