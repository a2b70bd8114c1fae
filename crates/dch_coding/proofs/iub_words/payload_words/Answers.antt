use Rattle.dch_coding.proofs.Computed.{payload_words}
use Rattle.dch_coding.proofs.iub_words.payload_words.Goals as goal

pub returns : goal.returns
returns c = payload_words
