use Rattle.std.proofs.Common.{◌≡◌, length, arith, length-take}
use Rattle.dch_lines.proofs.Letters.{tfci_count, tfci_read}
use Rattle.dch_lines.proofs.line_texts.read_tfci.Goals as goal

pub unreachable-requires : goal.unreachable-requires
unreachable-requires c = tfci_read c.args.text.now (length c.args.tfci.now) c.in-Err.field-0 c.requires c.in-Err.ensures.answer

pub returns-clause-all : goal.returns-clause-all
returns-clause-all c =
    let count : c.in-Ok.count ≡ length c.args.tfci.now = tfci_count c.args.text.now (length c.args.tfci.now) c.in-Ok.count c.requires c.in-Ok.ensures.answer in
    omega (arith, count, c.read_bits_text.auto.out, length-take c.in-Ok.count c.read_bits_text.new.out)
