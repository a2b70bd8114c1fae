use Rattle.std.proofs.Common.{◌+◌, ◌∙◌, ℕ, ap, arith, cond, subst, sym}
use Rattle.dch_txbuf.specs.declared.taken.Start.{Start}
use Rattle.dch_rlcum.proofs.Following.{Follows, follows_all, follows_end, follows_from, follows_on}
use Rattle.dch_rlcum.proofs.Placing.{byte_is, ready}
use Rattle.dch_rlcum.proofs.send.count_pdus.Goals as goal

pub loop-count-init : goal.loop-count-init
loop-count-init c = follows_from c.args.pdu c.args.mark_start c.args.sdus.now.items c.args.first c.args.first_owed c.requires.place

pub returns-then-not-is_left : goal.returns-then-not-is_left
returns-then-not-is_left c = follows_end c.args.pdu c.args.mark_start c.args.sdus.now.items c.args.first c.args.first_owed c.loop-count.start c.loop-count.owed c.loop-count.count c.loop-count.invariant (sym c.is_left.ensures ∙ c.if-not-is_left.true)

pub loop-count-preserved : goal.loop-count-preserved
loop-count-preserved c =
    let r = ready c.args.pdu c.args.mark_start c.args.sdus.now.items c.loop-count.start c.loop-count.owed c.lead-lead.result c.next_cut-cut.result c.from.result c.requires.from c.loop-count.invariant.next c.lead-lead.ensures.lead c.lead-lead.ensures.few (c.from.ensures ∙ (byte_is c.is_some.result ∙ ap (λ b. cond {A = ℕ} b 1 0) c.is_some.ensures)) c.next_cut-cut.ensures.cut in
    subst (λ (a : Start). Follows c.args.pdu c.args.mark_start c.args.sdus.now.items c.args.first c.args.first_owed a c.next_cut-cut.result.owed (c.loop-count.count + 1)) (sym c.next_start-start.ensures)
    (follows_on c.args.pdu c.args.mark_start c.args.sdus.now.items c.args.first c.args.first_owed c.loop-count.start c.loop-count.owed c.loop-count.count _ c.next_cut-cut.result.owed c.loop-count.invariant c.loop-count-test.true (sym c.is_left.ensures ∙ c.if-not-is_left.false) r.taken.place r.taken.units)

pub returns : goal.returns
returns c = follows_all c.args.pdu c.args.mark_start c.args.sdus.now.items c.args.first c.args.first_owed c.loop-count.start c.loop-count.owed c.loop-count.count c.loop-count.invariant (omega (arith, c.loop-count-test.false, c.loop-count.auto.count-end))
