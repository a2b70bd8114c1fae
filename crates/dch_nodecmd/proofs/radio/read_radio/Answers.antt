use Rattle.dch_nodecmd.proofs.Texts.{cells_good, tfci_good}
use Rattle.dch_nodecmd.proofs.radio.read_radio.Goals as goal

pub read_tfci-requires : goal.read_tfci-requires
read_tfci-requires c = tfci_good c.args.accepted.now.config c.args.dir c.args.tfci.now c.args.bits.now c.tfci_bits.result c.requires.bits c.tfci_bits.ensures.value c.tfci_bits.ensures.small c.requires.texts.0

pub read_cells-requires-clause-text : goal.read_cells-requires-clause-text
read_cells-requires-clause-text c = cells_good c.args.dir c.args.letters.now c.requires.texts.1
