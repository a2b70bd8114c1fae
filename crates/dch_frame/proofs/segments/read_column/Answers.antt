use Rattle.std.proofs.Common.{◌≡◌, ◌+◌, ◌*◌, ◌/◌, ◌∙◌, ℕ, length, get_or, ap, sym, arith}
use Rattle.dch_frame.specs.Stages.{segment_place}
use Rattle.dch_frame.proofs.Carried.{rows_of, segment_place-row}
use Rattle.dch_frame.proofs.segments.read_column.Goals as goal

pub returns : goal.returns
returns g c m d inside =
    let f : ℕ = c.args.frames in
    let len : ℕ = length c.args.tti.now in
    let rows : len / f ≡ length c.args.out.now = rows_of f (length c.args.out.now) len (omega arith) c.requires.whole in
    let place : segment_place f len c.args.frame m ≡ m * f + c.column-column.result = segment_place-row f len c.args.frame m (omega (arith, rows)) ∙ ap (λ column. m * f + column) (sym c.column-column.ensures.value) in
    c.loop-m.invariant m d (omega arith) ∙ ap (λ place. get_or c.args.tti.now place d) (sym place)
