use Rattle.std.proofs.Common.{arith, sym, ◌∙◌}
use Rattle.dch_rlcpdu.proofs.Walks.{walk_last, walk_next, walk_no, walk_past, walk_room, walk_start}
use Rattle.dch_rlcpdu.proofs.view.count_fields.Goals as goal

pub loop-at-init : goal.loop-at-init
loop-at-init c = walk_start c.args.octets.now

pub returns-in_default-clause-fields : goal.returns-in_default-clause-fields
returns-in_default-clause-fields c = walk_no c.args.octets.now c.loop-at.at c.loop-at.fields c.loop-at.invariant (sym c.whole_size_at.ensures ∙ c.in_default.is)

pub returns-then-ends_at-clause-fields : goal.returns-then-ends_at-clause-fields
returns-then-ends_at-clause-fields c =
    (walk_last c.args.octets.now c.loop-at.at c.loop-at.fields c.in-Some.size c.loop-at.invariant (omega arith) (sym c.whole_size_at.ensures ∙ c.in-Some.is) (sym c.ends_at.ensures ∙ c.if-ends_at.true)).is

pub returns-then-ends_at-clause-whole : goal.returns-then-ends_at-clause-whole
returns-then-ends_at-clause-whole c =
    (walk_last c.args.octets.now c.loop-at.at c.loop-at.fields c.in-Some.size c.loop-at.invariant (omega arith) (sym c.whole_size_at.ensures ∙ c.in-Some.is) (sym c.ends_at.ensures ∙ c.if-ends_at.true)).whole

pub overflow_add-at : goal.overflow_add-at
overflow_add-at c =
    let r = walk_room c.args.octets.now c.loop-at.at c.in-Some.size (omega arith) (sym c.whole_size_at.ensures ∙ c.in-Some.is) in
    omega (arith, r.0)

pub loop-at-preserved : goal.loop-at-preserved
loop-at-preserved c =
    walk_next c.args.octets.now c.loop-at.at c.loop-at.fields c.in-Some.size c.loop-at.invariant (omega arith) (sym c.whole_size_at.ensures ∙ c.in-Some.is) (sym c.ends_at.ensures ∙ c.if-ends_at.false)

pub loop-at-smaller : goal.loop-at-smaller
loop-at-smaller c =
    let r = walk_room c.args.octets.now c.loop-at.at c.in-Some.size (omega arith) (sym c.whole_size_at.ensures ∙ c.in-Some.is) in
    omega (arith, r.1)

pub returns-clause-fields : goal.returns-clause-fields
returns-clause-fields c = walk_past c.args.octets.now c.loop-at.at c.loop-at.fields c.loop-at.invariant (omega arith)
