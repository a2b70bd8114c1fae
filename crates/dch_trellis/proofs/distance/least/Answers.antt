use Rattle.std.proofs.Common.{◌≡◌, ◌+◌, ℕ, sym, subst, arith}
use Rattle.dch_trellis.proofs.Away.{IsLeastAway, away-row, row_room, least_first, least_more, least_away}
use Rattle.dch_trellis.proofs.distance.least.Goals as goal

pub fill-requires-clause-steps : goal.fill-requires-clause-steps
fill-requires-clause-steps c = omega (arith, c.new.ensures)

pub away_from-least-requires-clause-room : goal.away_from-least-requires-clause-room
away_from-least-requires-clause-room c =
    row_room c.args.rate c.args.votes.now c.args.size c.args.filler c.args.filler c.fill.result c.fill.new.rows c.requires.filler (omega (arith, c.fill.ensures.within, c.new.ensures)) c.fill.ensures.path_metrics c.requires.coded

pub loop-k-init : goal.loop-k-init
loop-k-init c =
    least_first c.args.rate c.args.votes.now c.args.size c.args.filler c.away_from-least.result
    (away-row c.args.rate c.args.votes.now c.args.size c.args.filler c.args.filler c.fill.result c.away_from-least.result c.fill.new.rows c.requires.filler (omega (arith, c.fill.ensures.within, c.new.ensures)) c.fill.ensures.path_metrics c.away_from-least.ensures)

pub away_from-requires-clause-room : goal.away_from-requires-clause-room
away_from-requires-clause-room c =
    row_room c.args.rate c.args.votes.now c.args.size c.args.filler c.loop-k.k c.fill.result c.fill.new.rows (omega arith) (omega (arith, c.fill.ensures.within, c.new.ensures)) c.fill.ensures.path_metrics c.requires.coded

pub loop-k-preserved : goal.loop-k-preserved
loop-k-preserved c =
    let P : ℕ → Type 0 = λ least. IsLeastAway c.args.rate c.args.votes.now c.args.size c.args.filler (c.loop-k.k + 1) least in
    subst P (sym c.lesser_of-least.ensures)
    (least_more c.args.rate c.args.votes.now c.args.size c.args.filler c.loop-k.k c.loop-k.least c.away_from.result (omega arith)
    (away-row c.args.rate c.args.votes.now c.args.size c.args.filler c.loop-k.k c.fill.result c.away_from.result c.fill.new.rows (omega arith) (omega (arith, c.fill.ensures.within, c.new.ensures)) c.fill.ensures.path_metrics c.away_from.ensures)
    c.loop-k.invariant)

pub returns-clause-least : goal.returns-clause-least
returns-clause-least c =
    let end : c.loop-k.k ≡ c.args.size = omega arith in
    let P : ℕ → Type 0 = λ k. IsLeastAway c.args.rate c.args.votes.now c.args.size c.args.filler k c.loop-k.least in
    least_away c.args.rate c.args.votes.now c.args.size c.args.filler c.loop-k.least c.requires.coded c.requires.zeros (subst P end c.loop-k.invariant)
