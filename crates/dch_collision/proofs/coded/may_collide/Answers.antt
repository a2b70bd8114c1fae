use Rattle.std.proofs.Common.{◌≤◌, length, arith, ap, sym, ◌∙◌, ◌+◌}
use Rattle.std.specs.Prelude.{nat_lt}
use Rattle.dch_collision.proofs.Costs.{removed-le}
use Rattle.dch_collision.proofs.Collide.{short-code, few-votes, none-cheaper}
use Rattle.dch_collision.proofs.coded.may_collide.Goals as goal

pub overflow_add-removed : goal.overflow_add-removed
overflow_add-removed c = omega (arith, removed-le c.args.sent_flags.now, c.removed-removed.ensures, c.requires.coded, short-code c.args.rate (length c.args.out.now) c.requires.short)

pub nearest-requires-clause-few : goal.nearest-requires-clause-few
nearest-requires-clause-few c =
    let short : length c.args.sent_flags.now ≤ 1536 = omega (arith, c.requires.coded, short-code c.args.rate (length c.args.out.now) c.requires.short) in
    omega (arith, few-votes (c.removed-removed.result + 1) 1 c.args.sent_flags.now c.fill.new.votes (omega arith) c.fill.ensures (omega (arith, removed-le c.args.sent_flags.now, c.removed-removed.ensures)) (omega arith))

pub returns-clause-none : goal.returns-clause-none
returns-clause-none c = λ dear.
    none-cheaper c.args.rate c.args.sent_flags.now (length c.args.out.now) c.args.filler (c.removed-removed.result + 1) c.nearest.result c.fill.new.votes c.nearest.new.out (omega arith) c.requires.coded c.fill.ensures c.nearest.ensures.nearest c.nearest.ensures.copies
    (ap (nat_lt c.nearest.result) (sym c.removed-removed.ensures) ∙ dear)
