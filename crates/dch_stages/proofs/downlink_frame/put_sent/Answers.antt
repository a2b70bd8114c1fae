use Rattle.std.proofs.Common.{◌∙◌, List, ℕ, ap, subst, take}
use Rattle.std.proofs.lemmas.List.{with_items_is}
use Rattle.dch_types.specs.declared.channel.Dir.TheVariants.{Down}
use Rattle.dch_stages.proofs.SentCells.{sent_shown}
use Rattle.dch_stages.proofs.SentSame.{sent_same}
use Rattle.dch_stages.proofs.downlink_frame.put_sent.Goals as goal

pub returns-clause-text : goal.returns-clause-text
returns-clause-text g c =
    let planned = c.args.accepted.now in
    let written = c.write.ensures.written in
    subst (λ (line : List ℕ). g.P.Page.writes c.args.page.now line c.put_sent_line.new.page)
    (sent_same Down _ _ _ _ _ _ _ _ _ _ c.args.k c.of-codes.ensures.count c.of-codes.ensures.size (c.view.ensures.tfci ∙ written.tfci) (ap (take c.multiplex_downlink-len.result) (c.deref.ensures.value ∙ with_items_is c.args.room.now.cells c.multiplex_downlink-len.new.out (c.multiplex_downlink-len.auto.out ∙ c.deref_mut.ensures.len)) ∙ c.multiplex_downlink-len.ensures.cells)
    (c.view.ensures.cells ∙ sent_shown planned Down c.args.tti.now c.args.at.cfn c.args.at.combination c.write.new.out written)) c.put_sent_line.ensures.text
