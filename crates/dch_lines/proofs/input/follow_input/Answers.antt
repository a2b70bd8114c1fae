use Rattle.std.proofs.Common.{◌≡◌, ◌≤◌, ◌+◌, ◌-◌, length, drop, take, arith, ap, sym, ◌∙◌, length-take}
use Rattle.std.specs.Prelude.{slice_range}
use Rattle.dch_io.specs.Pieces.{LIMIT, PIECE}
use Rattle.dch_lines.specs.Processor.{standing}
use Rattle.dch_lines.proofs.Runs.{begins, goes_on, part_ends, piece_ends, too_long, ends_by}
use Rattle.dch_lines.proofs.input.follow_input.Goals as goal

pub returns-in-Err : goal.returns-in-Err
returns-in-Err g c =
    let within : c.args.processor.now.bytes + length (slice_range c.args.piece.now c.args.pending.from c.args.pending.to) ≤ LIMIT = omega (arith, length-take (c.args.pending.to - c.args.pending.from) (drop c.args.pending.from c.args.piece.now)) in
    let small : length (slice_range c.args.piece.now c.args.pending.from c.args.pending.to) ≤ PIECE = omega (arith, length-take (c.args.pending.to - c.args.pending.from) (drop c.args.pending.from c.args.piece.now)) in
    λ state is.
    let so = c.in-Err.ensures.taken state is in
    (so.0, so.1, part_ends g.C.LineHandler.semantics _ _ _ _ _ _ (standing state c.args.processor.now) (standing so.0 c.take_piece.new.processor) _ c.in-Err.outcome c.requires.short within small so.2)

pub pieces-init : goal.pieces-init
pieces-init g c = record {
  going = λ state is.
      let so = c.in-Ok.ensures.taken state is in
      (so.0, so.1, begins g.C.LineHandler.semantics _ _ _ _ _ _ (standing state c.args.processor.now) (standing so.0 c.take_piece.new.processor) _ so.2.0 so.2.1 c.take_piece.ensures.later);
  short = c.in-Ok.ensures.short;
}

pub pieces-preserved : goal.pieces-preserved
pieces-preserved g c = record {
  going = λ state is.
      let so = c.pieces.invariant.going state is in
      let next = c.in-Ok-take_piece.ensures.taken so.0 so.1 in
      (next.0, next.1, goes_on g.C.LineHandler.semantics _ _ _ _ _ _ _ _ _ _ _ _ (standing state c.args.processor.now) (standing so.0 c.pieces.processor) (standing next.0 c.take_piece-in-pieces.new.processor) _ _ so.2 c.in-Ok-read_next.ensures.reads.0.takes next.2.0 next.2.1 c.read_next.ensures.later c.take_piece-in-pieces.ensures.later);
  short = c.in-Ok-take_piece.ensures.short;
}

pub returns-in-Err-take_piece : goal.returns-in-Err-take_piece
returns-in-Err-take_piece g c =
    let next_piece = c.in-Ok-read_next.ensures.reads.0 in
    λ state is.
    let so = c.pieces.invariant.going state is in
    let next = c.in-Err-take_piece.ensures.taken so.0 so.1 in
    (next.0, next.1, piece_ends g.C.LineHandler.semantics _ _ _ _ _ _ _ _ _ _ _ _ (standing state c.args.processor.now) (standing so.0 c.pieces.processor) (standing next.0 c.take_piece-in-pieces.new.processor) _ _ c.in-Err-take_piece.outcome so.2 next_piece.takes (omega (arith, next_piece.within, c.bytes.ensures.value)) next_piece.small next.2)

pub returns-in-Err-TooLong : goal.returns-in-Err-TooLong
returns-in-Err-TooLong g c =
    let reads = rw c.in-Err-TooLong.field-0-is at c.in-Err-TooLong.ensures.reads in
    λ state is.
    let so = c.pieces.invariant.going state is in
    (so.0, so.1, too_long g.C.LineHandler.semantics _ _ _ _ _ _ _ _ _ _ (standing state c.args.processor.now) (standing so.0 c.pieces.processor) _ reads.piece so.2 reads.takes (sym c.bytes.ensures.value ∙ reads.full) reads.one)

pub returns-then-read-eq0 : goal.returns-then-read-eq0
returns-then-read-eq0 g c =
    let next = c.in-Ok-read_next.ensures.reads.0 in
    let none : length (take c.in-Ok-read_next.read c.read_next.new.room) ≡ 0 = ap (λ n. length (take n c.read_next.new.room)) c.if-read-eq0.true in
    λ state is.
    let so = c.pieces.invariant.going state is in
    let last = c.end_input.ensures.ended so.0 so.1 in
    (last.0, last.1, ends_by g.C.LineHandler.semantics _ _ _ _ _ _ _ _ _ _ _ _ (standing state c.args.processor.now) (standing so.0 c.pieces.processor) (standing last.0 c.end_input.new.processor) _ _ c.end_input.result so.2 next.takes none (next.end none) (omega arith) last.2)
