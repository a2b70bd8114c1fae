use Rattle.std.proofs.Common.{◌∙◌, ap}
use Rattle.dch_bits.specs.Text.{is_no_bit, reading}
use Rattle.dch_lines.proofs.Letters.{bits_unread}
use Rattle.dch_lines.proofs.line_texts.read_bits.Goals as goal

pub returns-in-Err : goal.returns-in-Err
returns-in-Err c = bits_unread c.args.text.now 5000 c.in-Err.field-0 c.requires.text (c.in-Err.ensures.answer ∙ ap (reading is_no_bit c.args.text.now) c.requires.room)
