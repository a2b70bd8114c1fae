use Rattle.std.proofs.Common.{◌≡◌, ◌+◌, ◌-◌, ◌*◌, ◌<◌, ◌≤◌, ◌++◌, ◌∙◌, ℕ, List, [], ap, arith, drop, get_or, length, length-append, length-drop, take}
use Rattle.std.proofs.lemmas.List.{length-take-le}
use Rattle.dch_txbuf.specs.Chunks.{joined}
use Rattle.dch_txbuf.proofs.Chunks.{block_long, copied_more, piece_at}
use Rattle.dch_txbuf.proofs.octets.copy_octets.Goals as goal

pub copy_piece-requires-clause-piece : goal.copy_piece-requires-clause-piece
copy_piece-requires-clause-piece c =
    let inside : c.args.block + c.loop-i.i < length c.args.row.now.items = omega (arith, c.requires.inside, c.loop-i.invariant.0, c.loop-i.invariant.1, c.loop-i-test.true, c.loop-i.auto.i) in
    omega (arith, block_long c.args.row.now.items (c.args.block + c.loop-i.i) inside c.requires.whole, c.min-count.ensures, c.loop-i.invariant.0, c.loop-i.auto.i)

pub loop-i-preserved : goal.loop-i-preserved
loop-i-preserved c =
    let inside : c.args.block + c.loop-i.i < length c.args.row.now.items = omega (arith, c.requires.inside, c.loop-i.invariant.0, c.loop-i.invariant.1, c.loop-i-test.true, c.loop-i.auto.i) in
    let place : c.args.from + c.loop-i.done ≡ 64 * c.loop-i.i + (c.args.from + c.loop-i.done - 64 * c.loop-i.i) = omega (arith, c.loop-i.invariant.0, c.loop-i.invariant.1, c.loop-i-test.true, c.loop-i.auto.i) in
    let fits : c.args.from + c.loop-i.done - 64 * c.loop-i.i + c.min-count.result ≤ 64 = omega (arith, c.min-count.ensures, c.loop-i.invariant.0, c.loop-i.auto.i) in
    let room : c.loop-i.done + c.min-count.result ≤ length c.loop-i.out = omega (arith, c.min-count.ensures, c.loop-i.invariant.0) in
    let long : length (take c.min-count.result (drop (c.args.from + c.loop-i.done - 64 * c.loop-i.i) (get_or c.args.row.now.items (c.args.block + c.loop-i.i) []))) ≡ c.min-count.result = length-take-le c.min-count.result (drop (c.args.from + c.loop-i.done - 64 * c.loop-i.i) (get_or c.args.row.now.items (c.args.block + c.loop-i.i) [])) (omega (arith, fits, block_long c.args.row.now.items (c.args.block + c.loop-i.i) inside c.requires.whole, length-drop (c.args.from + c.loop-i.done - 64 * c.loop-i.i) (get_or c.args.row.now.items (c.args.block + c.loop-i.i) []))) in
    let same : length c.copy_piece.new.out ≡ length c.loop-i.out = omega (arith, ap (λ (xs : List ℕ). length xs) c.copy_piece.ensures, room, long, length-take-le c.loop-i.done c.loop-i.out (omega (arith, room)), length-append (take c.loop-i.done c.loop-i.out) (take c.min-count.result (drop (c.args.from + c.loop-i.done - 64 * c.loop-i.i) (get_or c.args.row.now.items (c.args.block + c.loop-i.i) [])) ++ drop (c.loop-i.done + c.min-count.result) c.loop-i.out), length-append (take c.min-count.result (drop (c.args.from + c.loop-i.done - 64 * c.loop-i.i) (get_or c.args.row.now.items (c.args.block + c.loop-i.i) []))) (drop (c.loop-i.done + c.min-count.result) c.loop-i.out), length-drop (c.loop-i.done + c.min-count.result) c.loop-i.out) in (
      omega (arith, same, c.min-count.ensures, c.loop-i.invariant.0, c.loop-i.invariant.1, c.loop-i-test.true, c.loop-i.auto.i),
      same ∙ c.loop-i.invariant.1,
      copied_more c.loop-i.out c.copy_piece.new.out (drop c.args.from (joined (drop c.args.block c.args.row.now.items))) (take c.min-count.result (drop (c.args.from + c.loop-i.done - 64 * c.loop-i.i) (get_or c.args.row.now.items (c.args.block + c.loop-i.i) []))) c.loop-i.done c.min-count.result c.copy_piece.ensures room long c.loop-i.invariant.2
          (piece_at c.args.row.now.items c.args.block c.args.from c.loop-i.done c.loop-i.i (c.args.from + c.loop-i.done - 64 * c.loop-i.i) c.min-count.result c.requires.whole inside place fits),
    )
