use Rattle.std.proofs.Common.{subst, sym}
use Rattle.dch_rlcpdu.specs.Fields.{bits_of}
use Rattle.dch_retx.specs.StatusItems.{bits_from, first_of}
use Rattle.dch_retx.specs.declared.tell.Told.{Told}
use Rattle.dch_retx.specs.Telling.{IsPassed}
use Rattle.dch_retx.proofs.Limits.{tell_bits}
use Rattle.dch_retx.proofs.tell.tell_bits.Goals as goal

pub returns : goal.returns
returns c = subst (λ (now : Told). IsPassed now c.args.told c.args.sent.window c.args.sent.first c.args.sent.count (bits_from c.args.first (bits_of (first_of c.args.cursor.now)))) (sym c.tell_more.ensures) (tell_bits c.args.told c.args.sent.window c.args.sent.first c.args.sent.count c.limit_bits-limit.result c.args.first c.args.bits (bits_of (first_of c.args.cursor.now)) c.requires.bits c.limit_bits-limit.ensures)
