use Rattle.std.proofs.Common.{arith, ap, ◌∙◌}
use Rattle.std.specs.Prelude.{count_by}
use Rattle.std.proofs.lemmas.List.{take_all}
use Rattle.std.proofs.lemmas.List.Sums.{count_by-le-length}
use Rattle.dch_check.proofs.Taking.{is_feed, lines_by_feeds}
use Rattle.dch_check.proofs.taken_config.lines_in.Goals as goal

pub returns-clause-value : goal.returns-clause-value
returns-clause-value c = c.loop-byte.invariant ∙ ap (count_by is_feed) (take_all c.loop-byte.byte-index c.args.text.now (omega (arith, c.loop-byte-test.false))) ∙ lines_by_feeds c.args.text.now

pub returns-clause-few : goal.returns-clause-few
returns-clause-few c = omega (arith, c.loop-byte.invariant, ap (count_by is_feed) (take_all c.loop-byte.byte-index c.args.text.now (omega (arith, c.loop-byte-test.false))), count_by-le-length is_feed c.args.text.now)
