use Rattle.std.proofs.Common.{◌≡◌, ◌≢◌, ◌/◌, ◌%◌, ap, ◌∙◌, sym, arith, below_more, w64}
use Rattle.std.proofs.lemmas.Int.{to_z-of_z}
use Rattle.dch_frame.specs.Shifts.{q_multiple, column_shift}
use Rattle.dch_frame.proofs.Turns.{one_turn, each_column, shift_is}
use Rattle.dch_frame.proofs.shifts.column_shift.Goals as goal

pub loop-x-preserved : goal.loop-x-preserved
loop-x-preserved c =
    let same = to_z-of_z w64 c.args.q c.ranges.q in
    let is = rw same at c.q_multiple-q_multiple.ensures.value in
    let missed = rw same at c.loop-x.invariant in
    rw same (below_more (λ y. q_multiple c.args.q c.args.frames y % c.args.frames ≢ c.args.column) c.loop-x.x missed (λ e. c.if-q_multiple-frames.false (ap (λ t. t % c.args.frames) is ∙ e)))

pub returns-then-q_multiple-frames-clause-value : goal.returns-then-q_multiple-frames-clause-value
returns-then-q_multiple-frames-clause-value c =
    let is = rw (to_z-of_z w64 c.args.q c.ranges.q) at c.q_multiple-q_multiple.ensures.value in
    let column : q_multiple c.args.q c.args.frames c.loop-x.x % c.args.frames ≡ c.args.column = ap (λ t. t % c.args.frames) (sym is) ∙ c.if-q_multiple-frames.true in
    ap (λ t. t / c.args.frames) is ∙ sym (shift_is c.args.q c.args.frames c.loop-x.x c.requires.frames c.loop-x-test.true) ∙ ap (column_shift c.args.q c.args.frames) column

pub returns-then-q_multiple-frames-clause-some : goal.returns-then-q_multiple-frames-clause-some
returns-then-q_multiple-frames-clause-some c =
    let found = each_column c.args.q c.args.frames c.args.column c.requires.frames c.requires.column in
    (found.0, (found.1, found.2))

pub returns-then-q_multiple-frames-clause-alone : goal.returns-then-q_multiple-frames-clause-alone
returns-then-q_multiple-frames-clause-alone c x y here there = one_turn c.args.q c.args.frames x y c.requires.frames here.0 there.0 (here.1 ∙ sym there.1)

pub returns-then-q_multiple-frames-clause-turned : goal.returns-then-q_multiple-frames-clause-turned
returns-then-q_multiple-frames-clause-turned c x here =
    returns-then-q_multiple-frames-clause-value c ∙ ap (column_shift c.args.q c.args.frames) (sym here.1) ∙ shift_is c.args.q c.args.frames x c.requires.frames here.0

pub unreachable-requires : goal.unreachable-requires
unreachable-requires c =
    let missed = rw (to_z-of_z w64 c.args.q c.ranges.q) at c.loop-x.invariant in
    let found = each_column c.args.q c.args.frames c.args.column c.requires.frames c.requires.column in
    missed found.0 (omega (arith, found.1)) found.2
