use Rattle.std.proofs.Common.{◌≡◌, ◌∙◌, List, length, ap, subst, sym}
use Rattle.std.specs.Prelude.{codes, slice_index}
use Rattle.dch_bits.specs.declared.bit.Trit.{Trit}
use Rattle.dch_types.specs.Sums.{total}
use Rattle.dch_types.specs.declared.channel.Dir.TheVariants.{Up}
use Rattle.dch_accept.specs.Cells.{frame_cells}
use Rattle.dch_frame.specs.declared.uplink_plan.UplinkPlan.{UplinkPlan}
use Rattle.dch_script.specs.Report.{cells_shown}
use Rattle.dch_stages.specs.FrameLines.{channel_cells, multiplexed_cells}
use Rattle.dch_stages.specs.Texts.{named_text}
use Rattle.dch_stages.proofs.uplink_frame.put_all.Goals as goal

pub returns : goal.returns
returns g c = record {
  text = λ tti whole.
      let planned = c.args.accepted.now in
      let comb = c.args.at.combination in
      let channels = length planned.config.uplink.side.channels in
      let all : frame_cells planned Up comb ≡ total (channel_cells planned Up comb) channels =
      sym (subst (λ (p : UplinkPlan). total (slice_index p.sent) channels ≡ p.ndata) c.uplink_plan-plan.ensures.value c.uplink_plan-plan.ensures.plan.all_sent) in
      subst (λ (xs : List Trit). g.P.Page.writes c.args.page.now (named_text (codes "multiplexed") (cells_shown xs)) c.put_multiplexed.new.page)
      (whole ∙ ap (multiplexed_cells planned Up tti c.args.at.cfn comb) all) c.put_multiplexed.ensures.text;
}
