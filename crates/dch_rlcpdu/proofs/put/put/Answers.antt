use Rattle.dch_rlcpdu.proofs.Texts.{text_more}
use Rattle.dch_rlcpdu.proofs.put.put.Goals as goal

pub returns : goal.returns
returns c text long is = text_more c.args.out.now c.set_half.new.out text c.args.at c.args.value c.set_half.ensures long c.requires.place is
