use Rattle.std.proofs.Common.{◌≡◌, ◌+◌, ◌∙◌, arith, ap, subst, sym, true, false}
use Rattle.dch_am.specs.Bodies.{is_left}
use Rattle.dch_txbuf.specs.declared.taken.Start.{Start}
use Rattle.dch_txbuf.specs.Cuts.{cut_of, left_at}
use Rattle.dch_amsend.specs.TxBuffer.{unsent_at}
use Rattle.dch_amsend.proofs.Fills.{Counts, counts_all, counts_end, counts_on}
use Rattle.dch_amsend.proofs.left.count_pdus.Goals as goal

pub returns-then-not-is_left_at : goal.returns-then-not-is_left_at
returns-then-not-is_left_at c =
    let none : is_left (unsent_at c.loop-count.start c.loop-count.owed c.args.sdus.now.items) ≡ false = sym c.is_left_at.ensures ∙ c.if-not-is_left_at.true in
    counts_end c.args.sdus.now.items c.args.first c.args.first_owed c.args.octets c.loop-count.start c.loop-count.owed c.loop-count.count c.loop-count.invariant none

pub loop-count-preserved : goal.loop-count-preserved
loop-count-preserved c =
    let some : is_left (unsent_at c.loop-count.start c.loop-count.owed c.args.sdus.now.items) ≡ true = sym c.is_left_at.ensures ∙ c.if-not-is_left_at.false in
    subst (λ (a : Start). Counts c.args.sdus.now.items c.args.first c.args.first_owed c.args.octets a c.next_cut-cut.result.owed (c.loop-count.count + 1)) (sym c.next_start-start.ensures)
    (counts_on c.args.sdus.now.items c.args.first c.args.first_owed c.args.octets c.loop-count.start c.loop-count.owed c.loop-count.count c.next_cut-cut.result c.loop-count.invariant c.loop-count-test.true some
    (c.next_cut-cut.ensures.cut ∙ ap (λ n. cut_of n (left_at c.loop-count.start c.args.sdus.now.items)) c.room_for.ensures.value))

pub returns : goal.returns
returns c = counts_all c.args.sdus.now.items c.args.first c.args.first_owed c.args.octets c.loop-count.start c.loop-count.owed c.loop-count.count c.loop-count.invariant (omega (arith, c.loop-count-test.false, c.loop-count.auto.count-end))
