use Rattle.dch_lines.proofs.Units.{unit_of_bits, unit_of_octets}
use Rattle.dch_lines.proofs.line_texts.read_unit.Goals as goal

pub read_bits-requires-clause-text : goal.read_bits-requires-clause-text
read_bits-requires-clause-text c = unit_of_bits c.mode_at.result c.args.text.now c.in-Tm.is (rw (← c.mode_at.ensures) at c.requires.text)

pub read_octets-requires : goal.read_octets-requires
read_octets-requires c = record { within = unit_of_octets c.mode_at.result c.args.text.now c.in-Um.is (rw (← c.mode_at.ensures) at c.requires.text); room = c.requires.octets }
