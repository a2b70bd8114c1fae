use Rattle.std.proofs.Common.{sym, subst}
use Rattle.dch_coding.specs.Register.{AreWords, aligned_terms}
use Rattle.dch_coding.specs.declared.crc_words.TheConstants.{NO_CRC, CRC8, CRC12, CRC16, CRC24}
use Rattle.dch_coding.proofs.Computed.{no_crc_words, crc8_words, crc12_words, crc16_words, crc24_words}
use Rattle.dch_coding.proofs.crc_words.crc_words.Goals as goal

pub returns-in-C0 : goal.returns-in-C0
returns-in-C0 c = subst (λ kind. AreWords (aligned_terms kind) NO_CRC 1024) (sym c.in-C0.is) no_crc_words

pub returns-in-C8 : goal.returns-in-C8
returns-in-C8 c = subst (λ kind. AreWords (aligned_terms kind) CRC8 1024) (sym c.in-C8.is) crc8_words

pub returns-in-C12 : goal.returns-in-C12
returns-in-C12 c = subst (λ kind. AreWords (aligned_terms kind) CRC12 1024) (sym c.in-C12.is) crc12_words

pub returns-in-C16 : goal.returns-in-C16
returns-in-C16 c = subst (λ kind. AreWords (aligned_terms kind) CRC16 1024) (sym c.in-C16.is) crc16_words

pub returns-in-C24 : goal.returns-in-C24
returns-in-C24 c = subst (λ kind. AreWords (aligned_terms kind) CRC24 1024) (sym c.in-C24.is) crc24_words
