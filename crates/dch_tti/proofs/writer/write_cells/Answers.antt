use Rattle.std.proofs.Common.{◌≡◌, ◌<◌, ◌%◌, ℕ, length, arith, ap, ◌∙◌, subst}
use Rattle.dch_bits.specs.declared.bit.Trit.TheVariants.{Off}
use Rattle.dch_types.specs.declared.channel.Dir.{Dir}
use Rattle.dch_accept.specs.Cells.{code_cells, frame_cells}
use Rattle.dch_tti.proofs.Frames.{cell_is}
use Rattle.dch_tti.proofs.writer.write_cells.Goals as goal

pub returns : goal.returns
returns g c k inside =
    let planned = c.args.accepted.now in
    let dir : Dir = g.T.MultiplexFrame.dir in
    let comb : ℕ = c.args.combination in
    let n : ℕ = frame_cells planned dir comb in
    let len : ℕ = c.interleaver.result.now in
    let same : c.dir-dir.result ≡ dir = c.dir-dir.ensures in
    let count : c.frame_cells.result ≡ n = c.frame_cells.ensures.value ∙ ap (λ (dir : Dir). frame_cells planned dir comb) same in
    let codes : n % len ≡ 0 = subst (λ (dir : Dir). frame_cells planned dir comb % len ≡ 0) same c.interleaver.ensures.codes in
    let code : len ≡ code_cells planned dir n = subst (λ (dir : Dir). 0 < frame_cells planned dir comb → len ≡ code_cells planned dir (frame_cells planned dir comb)) same c.interleaver.ensures.value (omega (arith, inside)) in
    let front : length c.write.new.out ≡ n = omega (arith, c.write.auto.out, c.split_at_mut-cells.ensures.front_len, count) in
    let long : length c.multiplex.new.out ≡ n = omega (arith, c.multiplex.auto.out, c.split_at_mut-cells.ensures.back_len, c.requires.room, count) in
    cell_is n len (code_cells planned dir n) k c.write.new.out c.multiplex.new.out (g.T.MultiplexFrame.cell planned c.args.tti_buffers.now c.args.cfn comb) codes c.interleaver.ensures.some code front long
    (λ k inside. c.write.ensures k Off inside) c.multiplex.ensures inside
