use Rattle.std.proofs.Common.{◌≡◌, ◌≤◌, ℕ, length, arith, ap, ◌∙◌, subst, length-take}
use Rattle.std.proofs.lemmas.List.FromFn.{fill_by_all}
use Rattle.dch_bits.specs.declared.bit.Trit.TheVariants.{Off}
use Rattle.dch_types.specs.declared.channel.Dir.{Dir}
use Rattle.dch_accept.specs.Cells.{frame_cells}
use Rattle.dch_accept.specs.Frames.{most_cells}
use Rattle.dch_dlphy.proofs.Filled.{take_whole}
use Rattle.dch_stages.proofs.frame.multiplex_front.Goals as goal

pub returns-clause-list : goal.returns-clause-list
returns-clause-list g c =
    let planned = c.args.accepted.now in
    let comb : ℕ = c.args.combination in
    let dir : Dir = g.T.MultiplexFrame.dir in
    let len : ℕ = c.frame_cells-len.result in
    let same : c.dir-dir.result ≡ dir = c.dir-dir.ensures in
    let value : len ≡ frame_cells planned dir comb = c.frame_cells-len.ensures.value ∙ ap (λ (d : Dir). frame_cells planned d comb) same in
    let few : len ≤ most_cells planned.config dir = subst (λ (d : Dir). len ≤ most_cells planned.config d) same c.frame_cells-len.ensures.fits in
    let long : length c.multiplex.new.out ≡ len = omega (arith, c.multiplex.auto.out, length-take len c.args.out.now, few, c.requires.room) in
    take_whole len c.multiplex.new.out _ long
    ∙ fill_by_all (g.T.MultiplexFrame.cell planned c.args.tti_buffers.now c.args.cfn comb) c.multiplex.new.out (frame_cells planned dir comb) Off (long ∙ value)
    (λ p inside. c.multiplex.ensures p (omega (arith, inside, long, value)))
