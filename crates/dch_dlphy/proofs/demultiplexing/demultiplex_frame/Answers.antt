use Rattle.std.proofs.Common.{◌≡◌, ◌+◌, ◌*◌, ◌<◌, ℕ, length, get_or, arith, ap, sym, ◌∙◌}
use Rattle.std.specs.Prelude.{Some}
use Rattle.dch_bits.specs.declared.bit.Trit.TheVariants.{Off}
use Rattle.dch_types.specs.Parts.{channel_at}
use Rattle.dch_inter.specs.Places.{frame_of, place_of}
use Rattle.dch_frame.proofs.Carried.{place_inside}
use Rattle.dch_dlphy.specs.Frames.{bits_before}
use Rattle.dch_dlphy.specs.Read.{received_cell}
use Rattle.dch_dlphy.proofs.demultiplexing.demultiplex_frame.Goals as goal

pub returns-clause-carried : goal.returns-clause-carried
returns-clause-carried c p inside of =
    let planned = c.args.accepted.now in
    let i : ℕ = c.args.channel in
    let comb : ℕ = c.in-Some.combination in
    let f : ℕ = c.frames_of-frames.result in
    let len : ℕ = length c.put_segment.new.tti in
    let rows : ℕ = length c.channel_cells-segment.result.now in
    let same : f ≡ (channel_at planned.config.downlink.side i).frames = c.frames_of-frames.ensures.value in
    let found : c.args.kept.now.combination ≡ Some comb = sym c.combination.ensures ∙ c.in-Some.is in
    let whole : len ≡ rows * f = c.put_segment.auto.tti ∙ c.requires.whole comb found ∙ ap (λ rows. rows * (channel_at planned.config.downlink.side i).frames) (sym c.channel_cells-segment.ensures.long) ∙ ap (λ f. rows * f) (sym same) in
    let low : place_of f len p < rows = place_inside f rows len p c.frames_of-frames.ensures.frames (omega (arith, c.requires.frame, same)) whole inside in
    c.put_segment.ensures.carried p Off inside (ap (λ f. frame_of f len p) same ∙ of)
    ∙ c.channel_cells-segment.ensures.cells (place_of f len p) low
    ∙ ap (λ cells. get_or cells (bits_before planned comb i + place_of f len p) Off) c.cells.ensures
    ∙ ap (λ f. get_or c.args.kept.now.cells (bits_before planned comb i + place_of f len p) Off) same
    ∙ ap (λ combination. received_cell planned i combination c.args.kept.now.cells (place_of (channel_at planned.config.downlink.side i).frames len p)) (sym found)
