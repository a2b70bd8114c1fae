use Rattle.std.proofs.Common.{drop, arith, length-drop}
use Rattle.dch_rlcpdu.specs.Halves.{halves}
use Rattle.dch_rlcpdu.proofs.Halves.{length-halves}
use Rattle.dch_rlcpdu.proofs.Walks.{size_empty, size_short, size_whole}
use Rattle.dch_rlcpdu.proofs.field.whole_size_at.Goals as goal

pub returns-then-size-eq0 : goal.returns-then-size-eq0
returns-then-size-eq0 c = size_empty (drop c.args.at (halves c.args.octets.now)) c.size_at-size.result c.size_at-size.ensures.value (omega arith)

pub returns-then-octets-at : goal.returns-then-octets-at
returns-then-octets-at c =
    size_short (drop c.args.at (halves c.args.octets.now)) c.size_at-size.result c.size_at-size.ensures.value
    (omega (arith, length-drop c.args.at (halves c.args.octets.now), length-halves c.args.octets.now))

pub returns-else-octets-at : goal.returns-else-octets-at
returns-else-octets-at c =
    size_whole (drop c.args.at (halves c.args.octets.now)) c.size_at-size.result c.size_at-size.ensures.value (omega arith)
    (omega (arith, length-drop c.args.at (halves c.args.octets.now), length-halves c.args.octets.now))
