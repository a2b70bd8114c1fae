use Rattle.dch_layer2.proofs.Small.{um_small}
use Rattle.dch_layer2.proofs.um.hear.Goals as goal

pub pdu-requires-clause-small : goal.pdu-requires-clause-small
pdu-requires-clause-small g c = um_small c.args.pdu.now c.in-Ok.view c.in-Ok.ensures.text c.requires.few
