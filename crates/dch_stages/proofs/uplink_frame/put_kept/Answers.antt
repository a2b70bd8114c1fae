use Rattle.std.proofs.Common.{◌≡◌, ◌∙◌, ℕ, List, take, drop, ap, subst}
use Rattle.std.specs.Prelude.{◌%◌, codes, slice_index}
use Rattle.dch_bits.specs.declared.bit.Trit.{Trit}
use Rattle.dch_types.specs.declared.channel.Dir.TheVariants.{Up}
use Rattle.dch_accept.specs.Cells.{frame_cells}
use Rattle.dch_collision.specs.Plans.{plan_at}
use Rattle.dch_ulphy.specs.Frames.{bits_before}
use Rattle.dch_script.specs.Report.{cells_shown}
use Rattle.dch_stages.specs.FrameLines.{matched_cells}
use Rattle.dch_stages.specs.Texts.{placed_text}
use Rattle.dch_stages.proofs.Matched.{matched_is}
use Rattle.dch_stages.proofs.uplink_frame.put_kept.Goals as goal

pub returns : goal.returns
returns g c = record {
  text = λ tti whole.
      let planned = c.args.accepted.now in
      let comb = c.args.at.combination in
      let cfn = c.args.at.cfn in
      let i = c.args.i in
      let size : ℕ = slice_index (plan_at planned.uplink comb).sent i in
      let before : ℕ = bits_before (plan_at planned.uplink comb) i in
      let kept : c.kept_of-kept.result.now ≡ matched_cells planned tti cfn comb i =
      c.kept_of-kept.ensures.kept ∙ ap (λ (xs : List Trit). take size (drop before xs)) whole ∙ matched_is planned tti cfn comb i (frame_cells planned Up comb) c.requires.channel c.kept_of-kept.ensures.inside in
      subst (λ (n : ℕ). g.P.Page.writes c.args.page.now (placed_text (codes "matched") i (cfn % n) (cells_shown (matched_cells planned tti cfn comb i))) c.put_matched_segment.new.page) c.frames_of.ensures.value
      (subst (λ (xs : List Trit). g.P.Page.writes c.args.page.now (placed_text (codes "matched") i (cfn % c.frames_of.result) (cells_shown xs)) c.put_matched_segment.new.page) kept c.put_matched_segment.ensures.text);
}
