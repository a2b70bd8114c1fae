use Rattle.std.proofs.Common.{◌≡◌, ◌+◌, ◌∙◌, arith, length, map}
use Rattle.dch_rlcpdu.specs.Indicators.{indicator_of}
use Rattle.dch_rlcpdu.specs.Parts.{ends_of}
use Rattle.dch_rlcpdu.proofs.Ends.{byte_of, closed-indicators, ends_count}
use Rattle.dch_rlcpdu.proofs.body.Body.new.Goals as goal
use Rattle.dch_rlcpdu.proofs.body.Body.new.Goals.{After-from}

count : (c : After-from) → c.count_leading-before.result + length (ends_of (map indicator_of c.args.indicators.now)) + c.from.result ≡ length c.args.indicators.now
count c =
    ends_count c.args.indicators.now (length c.args.octets.now) c.count_leading-before.result c.from.result c.requires c.count_leading-before.ensures
    (c.from.ensures ∙ byte_of _ _ (closed-indicators c.args.indicators.now c.has_last.result c.has_last.ensures))

pub overflow_sub-ends-2 : goal.overflow_sub-ends-2
overflow_sub-ends-2 c = omega (arith, count c)

pub invariant_of-result : goal.invariant_of-result
invariant_of-result c = (c.requires, c.count_leading-before.ensures, omega (arith, count c))
