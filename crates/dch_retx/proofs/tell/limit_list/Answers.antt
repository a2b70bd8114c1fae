use Rattle.std.proofs.Common.{◌+◌, ◌∙◌, arith, ap, drop, sym}
use Rattle.std.specs.Prelude.{map, min}
use Rattle.dch_rlcpdu.specs.Fields.{pairs_of}
use Rattle.dch_am.specs.Names.{named}
use Rattle.dch_am.specs.Numbers.{range}
use Rattle.dch_retx.specs.StatusItems.{first_of, missing_of}
use Rattle.dch_retx.specs.StatusItem.{limit_in}
use Rattle.dch_retx.proofs.Fields.{numbers_of}
use Rattle.dch_retx.proofs.Limits.{limit_low, limit_part}
use Rattle.dch_retx.proofs.tell.limit_list.Goals as goal

pub loop-j-init : goal.loop-j-init
loop-j-init c = record {
  so_far = omega (arith, limit_low c.args.sent.window c.args.sent.first c.args.sent.count (map missing_of (named (pairs_of (first_of c.args.cursor.now)))));
  small = omega arith;
}

pub loop-j-preserved : goal.loop-j-preserved
loop-j-preserved c = record {
  so_far =
      limit_part c.args.sent.window c.args.sent.first c.args.sent.count c.loop-j.limit c.limit_run.result (map missing_of (named (pairs_of (first_of c.args.cursor.now)))) (map missing_of (named (drop c.loop-j.j (pairs_of (first_of c.args.cursor.now))))) (map missing_of (range c.pair-run.result.0 (c.pair-run.result.1 + 1))) (map missing_of (named (drop (c.loop-j.j + 1) (pairs_of (first_of c.args.cursor.now)))))
      c.loop-j.invariant.so_far (numbers_of (pairs_of (first_of c.args.cursor.now)) c.loop-j.j c.pair-run.result (omega arith) (sym c.pair-run.ensures.value)) c.limit_run.ensures
      ∙ ap (λ k. min k (limit_in c.args.sent.window c.args.sent.first c.args.sent.count (map missing_of (named (drop (c.loop-j.j + 1) (pairs_of (first_of c.args.cursor.now))))))) (sym c.min-limit.ensures);
  small = omega (arith, c.loop-j.invariant.small);
}
