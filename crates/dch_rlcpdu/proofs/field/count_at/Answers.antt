use Rattle.std.proofs.Common.{drop, arith, sym, length-drop}
use Rattle.std.proofs.lemmas.List.{get_or_past}
use Rattle.dch_rlcpdu.specs.Halves.{halves}
use Rattle.dch_rlcpdu.proofs.Halves.{length-halves}
use Rattle.dch_rlcpdu.proofs.field.count_at.Goals as goal

pub returns-else-at-octets-clause-value : goal.returns-else-at-octets-clause-value
returns-else-at-octets-clause-value c =
    sym (get_or_past (drop c.args.at (halves c.args.octets.now)) 1 0 (omega (arith, length-drop c.args.at (halves c.args.octets.now), length-halves c.args.octets.now)))
