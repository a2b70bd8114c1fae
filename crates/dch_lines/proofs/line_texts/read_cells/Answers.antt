use Rattle.std.proofs.Common.{◌∙◌, ap}
use Rattle.dch_bits.specs.Text.{is_no_cell, reading}
use Rattle.dch_lines.proofs.Letters.{cells_unread}
use Rattle.dch_lines.proofs.line_texts.read_cells.Goals as goal

pub returns-in-Err : goal.returns-in-Err
returns-in-Err c = cells_unread c.args.text.now 57600 c.in-Err.field-0 c.requires.text (c.in-Err.ensures.answer ∙ ap (reading is_no_cell c.args.text.now) c.requires.room)
