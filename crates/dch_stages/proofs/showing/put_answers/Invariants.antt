use Rattle.dch_stages.specs.Rules.{answer_line}
use Rattle.dch_stages.specs.Handlers.{HaveRooms, asks}
use Rattle.dch_stages.specs.Texts.{lines_to}
use Rattle.dch_stages.proofs.showing.put_answers.Given as goal

abbrev pub invariant-loop-k : goal.invariant-loop-k
invariant-loop-k g l = g.P.Page.writes l.initial.page (lines_to (answer_line l.showing.accepted (asks l.showing l.showing.asked)) l.k) l.page
    × HaveRooms l.showing.accepted.config l.rooms
