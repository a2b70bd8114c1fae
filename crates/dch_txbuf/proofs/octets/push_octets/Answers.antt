use Rattle.std.proofs.Common.{◌*◌, ◌-◌, ◌≤◌, ◌++◌, ◌∙◌, ℕ, List, [], ◌∷◌, ap, append_assoc, arith, drop, length, length-append, sym, take}
use Rattle.circular_buffer.specs.Buffer.{Buffer, buffer}
use Rattle.dch_txbuf.specs.Chunks.{chunked}
use Rattle.dch_txbuf.specs.Rows.{padded}
use Rattle.dch_txbuf.proofs.Chunks.{chunked_next, length-chunked, piece_is}
use Rattle.dch_txbuf.proofs.octets.push_octets.Goals as goal

pub push-requires-clause-room : goal.push-requires-clause-room
push-requires-clause-room c = omega (arith, c.requires.room, c.blocks_for-i-end.ensures, length-chunked c.loop-i.i c.args.octets.now, length-append c.args.row.now.items (chunked c.loop-i.i c.args.octets.now), ap (λ (b : Buffer (List ℕ)). length b.items) c.loop-i.invariant, ap (λ (b : Buffer (List ℕ)). b.capacity) c.loop-i.invariant)

pub loop-i-preserved : goal.loop-i-preserved
loop-i-preserved c =
    let from : 64 * c.loop-i.i ≤ length c.args.octets.now = omega (arith, c.blocks_for-i-end.ensures) in
    let piece = piece_is c.args.octets.now (64 * c.loop-i.i) (c.min-to.result - 64 * c.loop-i.i) from (ap (λ n. n - 64 * c.loop-i.i) c.min-to.ensures) in
    c.push.ensures
    ∙ (ap (λ xs. buffer (c.loop-i.row.items ++ padded xs ∷ []) c.loop-i.row.capacity) piece
    ∙ (ap (λ (b : Buffer (List ℕ)). buffer (b.items ++ padded (take 64 (drop (64 * c.loop-i.i) c.args.octets.now)) ∷ []) b.capacity) c.loop-i.invariant
    ∙ ap (λ xs. buffer xs c.args.row.now.capacity) (append_assoc c.args.row.now.items (chunked c.loop-i.i c.args.octets.now) (padded (take 64 (drop (64 * c.loop-i.i) c.args.octets.now)) ∷ []) ∙ ap (λ cs. c.args.row.now.items ++ cs) (sym (chunked_next c.loop-i.i c.args.octets.now)))))
