use Rattle.dch_coding.proofs.Computed.{header_words}
use Rattle.dch_coding.proofs.iub_words.header_words.Goals as goal

pub returns : goal.returns
returns c = header_words
