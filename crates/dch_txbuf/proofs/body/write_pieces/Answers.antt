use Rattle.std.proofs.Common.{◌≡◌, ◌+◌, ◌-◌, ◌++◌, ◌∙◌, [], ap, take, arith, drop, get_or, length, length-drop, ℕ, List}
use Rattle.dch_txbuf.specs.Cuts.{left_at}
use Rattle.dch_txbuf.proofs.Cutting.{all_carried, carries_on, next_piece, none_carried, rest_there}
use Rattle.dch_txbuf.proofs.Marking.{counts_of, length-indicators, placed_on}
use Rattle.dch_txbuf.proofs.body.write_pieces.Goals as goal
use Rattle.dch_txbuf.proofs.body.write_pieces.Goals.{then-rest-gt0, else-rest-gt0}

pub copy_part-requires-clause-room : goal.copy_part-requires-clause-room
copy_part-requires-clause-room c =
    let is = next_piece c.args.sdus.now.items c.args.start.now c.args.cut.now c.args.octets.now c.loop-i.octets c.loop-i.at c.loop-i.used c.loop-i.i c.loop-i.invariant.0 c.loop-i-test.true c.requires.there c.requires.room in
    omega (arith, is.room, c.octets.ensures)

pub write_indicator-requires-clause-inside : goal.write_indicator-requires-clause-inside
write_indicator-requires-clause-inside c = omega (arith, c.loop-i.invariant.1.same, length-indicators c.args.lead (length c.args.indicators.now + length c.args.octets.now) c.args.cut.now (left_at c.args.start.now c.args.sdus.now.items) c.requires.there, c.write_lead-before.ensures.count, c.loop-i-test.true, c.loop-i.invariant.0.from)

pub loop-i-preserved : goal.loop-i-preserved
loop-i-preserved c =
    let is = next_piece c.args.sdus.now.items c.args.start.now c.args.cut.now c.args.octets.now c.loop-i.octets c.loop-i.at c.loop-i.used c.loop-i.i c.loop-i.invariant.0 c.loop-i-test.true c.requires.there c.requires.room in (
      carries_on c.args.sdus.now.items c.args.start.now c.args.octets.now c.loop-i.octets c.copy_part.new.octets c.loop-i.at c.loop-i.used c.loop-i.i (c.octets.result - c.loop-i.used) c.loop-i.invariant.0 is.inside (ap (λ n. n - c.loop-i.used) c.octets.ensures) (omega (arith, is.room, c.octets.ensures)) c.copy_part.ensures,
      placed_on c.args.sdus.now.items c.args.start.now c.args.lead (length c.args.indicators.now + length c.args.octets.now) c.args.cut.now c.loop-i.indicators c.write_indicator.new.indicators c.loop-i.at c.loop-i.used c.loop-i.i (c.octets.result - c.loop-i.used) c.write_lead-before.result (counts_of c.loop-i.invariant.0) c.loop-i.invariant.1 c.requires.there c.loop-i-test.true (ap (λ n. n - c.loop-i.used) c.octets.ensures) c.write_lead-before.ensures.count c.write_indicator.ensures,
    )

pub copy_part-requires-then-rest-gt0-clause-inside : goal.copy_part-requires-then-rest-gt0-clause-inside
copy_part-requires-then-rest-gt0-clause-inside c =
    let at : c.loop-i.i ≡ c.args.start.now.sdu + c.args.cut.now.pieces = omega (arith, c.loop-i-test.false, c.loop-i.auto.i-end) in
    let is = rest_there c.args.sdus.now.items c.args.start.now c.args.cut.now c.loop-i.used c.loop-i.i c.loop-i.invariant.0.left at c.if-rest-gt0.true c.requires.there in
    omega (arith, c.requires.there.rest, ap (λ (xs : List ℕ). length xs) is.same, length-drop c.loop-i.used (get_or c.args.sdus.now.items c.loop-i.i []), c.loop-i.invariant.0.used_is, ap (λ i. length (get_or c.args.sdus.now.items i [])) at, c.if-rest-gt0.true)

pub returns-clause-octets : goal.returns-clause-octets
returns-clause-octets c =
    let at : c.loop-i.i ≡ c.args.start.now.sdu + c.args.cut.now.pieces = omega (arith, c.loop-i-test.false, c.loop-i.auto.i-end) in
    elim c.if-rest-gt0.branch [
      | then-rest-gt0 w ↦ ap (λ (xs : List ℕ). take (c.loop-i.at + c.args.cut.now.rest) xs) w.octets-is ∙ all_carried c.args.sdus.now.items c.args.start.now c.args.cut.now c.args.octets.now c.loop-i.octets w.copy_part-then-rest-gt0.new.octets c.loop-i.at c.loop-i.used c.loop-i.i c.loop-i.invariant.0 at c.requires.there c.requires.room w.if-rest-gt0.true
          (w.copy_part-then-rest-gt0.ensures ∙ ap (λ i. take c.loop-i.at c.loop-i.octets ++ (take c.args.cut.now.rest (drop c.loop-i.used (get_or c.args.sdus.now.items i [])) ++ drop (c.loop-i.at + c.args.cut.now.rest) c.loop-i.octets)) (omega (arith, at)))
      | else-rest-gt0 w ↦ ap (λ (xs : List ℕ). take (c.loop-i.at + c.args.cut.now.rest) xs) w.octets-is ∙ none_carried c.args.sdus.now.items c.args.start.now c.args.cut.now c.args.octets.now c.loop-i.octets c.loop-i.at c.loop-i.used c.loop-i.i c.loop-i.invariant.0 at (omega (arith, w.if-rest-gt0.false))
    ]
