use Rattle.dch_stages.specs.Answers.{places_text}
use Rattle.dch_stages.proofs.answers.put_places.Given as goal

abbrev pub invariant-loop-place : goal.invariant-loop-place
invariant-loop-place g l = g.P.Page.writes l.initial.page (places_text l.accepted l.tti.dir l.tti.channel l.tti.format l.bit l.place) l.page
