use Rattle.std.proofs.Common.{◌≡◌, ◌+◌, length, ap, subst, sym, ◌∙◌, arith}
use Rattle.std.proofs.lemmas.List.{length_push}
use Rattle.dch_types.specs.declared.config.Downlink.{Downlink}
use Rattle.dch_types.specs.Parts.{channel_at}
use Rattle.dch_frame.specs.Downlinks.{IsRow, row_at}
use Rattle.dch_frame.proofs.Fits.{rows_more, plan_is}
use Rattle.dch_frame.proofs.downlink_plan.downlink.Goals as goal

pub loop-i-preserved : goal.loop-i-preserved
loop-i-preserved c =
    let config : Downlink = c.args.config.now in
    let pushed = c.in_ok-push.ensures.ok in
    record {
      width = ap length pushed ∙ length_push c.loop-i.rows c.in_ok-row.field-0 ∙ ap (λ n. n + 1) c.loop-i.invariant.width;
      rows = λ k inside. subst (λ rows. IsRow config k (length (channel_at config.side k).formats) (row_at rows k)) (sym pushed) (rows_more config c.loop-i.i c.loop-i.rows c.in_ok-row.field-0 c.loop-i.invariant.width c.loop-i.invariant.rows c.in_ok-row.ensures k inside);
    }

pub returns : goal.returns
returns c =
    let config : Downlink = c.args.config.now in
    let width : length c.loop-i.rows ≡ length config.side.channels = omega (arith, c.loop-i.invariant.width) in
    plan_is config c.loop-i.rows c.requires width (λ i inside. c.loop-i.invariant.rows i (omega arith))
