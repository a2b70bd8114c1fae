-- A run of a command whose lines stand alone is what following them does.
use Rattle.std.proofs.Common.{◌≡◌, ℕ, List, [], inl, subst, sym}
use Rattle.dch_io.specs.Ends.{End}
use Rattle.dch_lines.specs.Followed.{FollowsInput}
use Rattle.dch_lines.specs.Processor.{LeadsOn, Progress, standing}
use Rattle.dch_lines.specs.Semantics.{Semantics}
use Rattle.dch_lines.specs.declared.stop.Outcome.{Outcome}
use Rattle.dch_check.specs.Configured.{outcome_status}
use Rattle.dch_check.specs.declared.status.Status.{Status}
use Rattle.dch_top.specs.LineRuns.{RunsLines, beginning}

pub lines_ran : {S C : Type 0} (semantics : Semantics S) (represents : S → C → Type 0) (source sink : End) (handler : C) (old new : Progress C) (part : List ℕ) (outcome : Outcome) (status : Status) → old ≡ beginning handler
    → LeadsOn represents old new (λ before after. FollowsInput semantics source sink before after.handler part outcome) → part ≡ [] → status ≡ outcome_status outcome → (state : S) → represents state handler → RunsLines semantics state source sink status
lines_ran {S} {C} semantics represents source sink handler old new part outcome status is leads none same state stands =
    let led = leads state (subst (λ (p : Progress C). represents state p.handler) (sym is) stands) in
    let run : FollowsInput semantics source sink (standing state old) led.0 part outcome = led.2 in
    let at : FollowsInput semantics source sink (beginning state) led.0 part outcome = subst (λ (p : Progress C). FollowsInput semantics source sink (standing state p) led.0 part outcome) is run in
    inl (outcome, (same, (led.0, subst (λ l. FollowsInput semantics source sink (beginning state) led.0 l outcome) none at)))
