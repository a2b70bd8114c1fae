use Rattle.std.proofs.Common.{subst, sym}
use Rattle.std.specs.Prelude.{map}
use Rattle.dch_rlcpdu.specs.Fields.{pairs_of}
use Rattle.dch_am.specs.Names.{named}
use Rattle.dch_retx.specs.StatusItems.{first_of, missing_of}
use Rattle.dch_retx.specs.declared.tell.Told.{Told}
use Rattle.dch_retx.specs.Telling.{IsPassed}
use Rattle.dch_retx.proofs.Limits.{tell_list}
use Rattle.dch_retx.proofs.tell.tell_list.Goals as goal

pub returns : goal.returns
returns c = subst (λ (now : Told). IsPassed now c.args.told c.args.sent.window c.args.sent.first c.args.sent.count (map missing_of (named (pairs_of (first_of c.args.cursor.now))))) (sym c.tell_more.ensures) (tell_list c.args.told c.args.sent.window c.args.sent.first c.args.sent.count c.limit_list-limit.result c.args.pairs (pairs_of (first_of c.args.cursor.now)) c.requires.pairs c.limit_list-limit.ensures)
