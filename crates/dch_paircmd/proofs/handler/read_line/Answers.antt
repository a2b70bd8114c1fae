use Rattle.std.proofs.Common.{rules}
use Rattle.dch_paircmd.specs.Rules.{pair_meaning_at}
use Rattle.dch_paircmd.proofs.Handling.{placed}
use Rattle.dch_paircmd.proofs.handler.read_line.Goals as goal

pub returns-in-false-true-clause-place : goal.returns-in-false-true-clause-place
unfolding pair_meaning_at
returns-in-false-true-clause-place c = placed c.args.opened c.args.line.now c.parse_pair.result (search rules)
