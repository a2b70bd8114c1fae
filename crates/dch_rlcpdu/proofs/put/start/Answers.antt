use Rattle.std.proofs.Common.{length}
use Rattle.dch_rlcpdu.proofs.Texts.{text_start}
use Rattle.dch_rlcpdu.proofs.put.start.Goals as goal

pub returns : goal.returns
returns c = text_start c.fill.new.self (length c.args.out.now) c.requires c.fill.ensures.len (c.fill.ensures.after (λ y same. same))
