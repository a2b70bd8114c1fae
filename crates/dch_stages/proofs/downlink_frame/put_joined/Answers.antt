use Rattle.std.proofs.Common.{◌≡◌, ◌≤◌, ◌∙◌, ℕ, List, length, take, arith, ap, subst, sym}
use Rattle.std.proofs.lemmas.Grind.{common_steps}
use Rattle.std.specs.Prelude.{codes}
use Rattle.dch_bits.specs.declared.bit.Trit.{Trit}
use Rattle.dch_types.specs.declared.channel.Dir.TheVariants.{Down}
use Rattle.dch_accept.specs.Cells.{frame_cells}
use Rattle.dch_script.specs.Report.{cells_shown}
use Rattle.dch_stages.specs.FrameLines.{joining_line, multiplexed, multiplexed_cells}
use Rattle.dch_stages.specs.Texts.{named_text}
use Rattle.dch_stages.proofs.SentCells.{first_cells}
use Rattle.dch_stages.proofs.downlink_frame.put_joined.Goals as goal

front : (m n : ℕ) (xs : List Trit) → m ≤ n → take m xs ≡ take m (take n xs)
front m n xs few = grind (arith, common_steps)

pub returns-then-k-eq0-clause-text : goal.returns-then-k-eq0-clause-text
unfolding joining_line multiplexed_cells
returns-then-k-eq0-clause-text g c =
    let planned = c.args.accepted.now in
    let tti = c.args.tti.now in
    let cfn = c.args.at.cfn in
    let comb = c.args.at.combination in
    let places = c.places_of_frame-places.result in
    let few : places ≤ frame_cells planned Down comb = c.places_of_frame-places.ensures.inside in
    let shown : take places c.multiplex_downlink-len.new.out ≡ multiplexed_cells planned Down tti cfn comb places =
    front places c.multiplex_downlink-len.result c.multiplex_downlink-len.new.out (omega (arith, few, c.multiplex_downlink-len.ensures.long))
    ∙ ap (take places) c.multiplex_downlink-len.ensures.cells ∙ first_cells (multiplexed planned Down tti cfn comb) places (frame_cells planned Down comb) few in
    subst (λ (k : ℕ). g.P.Page.writes c.args.page.now (joining_line planned Down tti cfn comb (length planned.config.downlink.side.channels) k) c.put_multiplexed.new.page) (sym c.if-k-eq0.true)
    (subst (λ (xs : List Trit). g.P.Page.writes c.args.page.now (named_text (codes "multiplexed") (cells_shown xs)) c.put_multiplexed.new.page)
    (shown ∙ ap (multiplexed_cells planned Down tti cfn comb) c.places_of_frame-places.ensures.value) c.put_multiplexed.ensures.text)
