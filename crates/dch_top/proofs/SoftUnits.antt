-- A run of `soft` that went well carries the blocks of its legs and the units of its bearers.
use Rattle.std.proofs.Common.{◌≡◌, ◌<◌, ◌≤◌, ◌^◌, ◌∙◌, ◌%◌, ◌*◌, ℕ, List, [], ◌∷◌, Bool, cond, length, arith, refl, ap, ap₂, sym, subst, ⊎_elim}
use Rattle.std.proofs.lemmas.Bool.{le-ltb}
use Rattle.dch_types.specs.declared.channel.Dir.{Dir}
use Rattle.dch_types.specs.declared.channel.Dir.TheVariants.{Up, Down}
use Rattle.dch_accept.specs.Plans.{IsPlanned, Planned}
use Rattle.dch_io.specs.Ends.{End}
use Rattle.dch_check.specs.declared.both.Configurations.{Configurations}
use Rattle.dch_script.specs.Lines.{lines_of}
use Rattle.dch_check.specs.ConfigSection.{script_of}
use Rattle.dch_lines.specs.LineTexts.{HandlesLines}
use Rattle.dch_lines.specs.declared.stop.Outcome.TheVariants.{Ok as Done}
use Rattle.dch_node.specs.Lines.{Got, Line, Overlong}
use Rattle.dch_runlaw.specs.AmlawPair.{Pair}
use Rattle.dch_runlaw.proofs.AmlawShort.{AreShort, BothRead, always_short}
use Rattle.dch_runlaw.specs.Bearings.{pdu_octets, rules_in}
use Rattle.dch_runlaw.specs.UnitLines.{unit_lines}
use Rattle.dch_runlaw.specs.Directions.{lines_on}
use Rattle.dch_runlaw.specs.History.{IsAmBearer, pair_after}
use Rattle.dch_runlaw.specs.HonestBearers.{IsAcknowledged}
use Rattle.dch_runlaw.specs.Rows.{got_rows, gots, rows_of}
use Rattle.dch_runlaw.specs.SoftEndEvents.{EndEvent, HandsUp, end_events}
use Rattle.dch_gen.specs.LinkSoft.{SoftState}
use Rattle.dch_runlaw.specs.SoftRules.{soft_lines}
use Rattle.dch_runlaw.specs.SoftRun.{Run, opened_run}
use Rattle.dch_runlaw.specs.SoftRuns.{Point, opened_point}
use Rattle.dch_runlaw.specs.SoftScripts.{IsRunOf, point_of}
use Rattle.dch_runlaw.specs.UmHistory.{got_lines}
use Rattle.dch_runlaw.proofs.Bearers.{is_am_bearer}
use Rattle.dch_runlaw.proofs.EndEvents.{run_hands_up, run_listed}
use Rattle.dch_runlaw.proofs.HeadlineHandedUp.{low}
use Rattle.dch_runlaw.proofs.Scripting.{lines_run}
use Rattle.dch_runlaw.proofs.Small.{gots_on, gots_units}
use Rattle.dch_runlaw.proofs.Taking.{leg_takes}
use Rattle.dch_runlaw.proofs.Telling.{run_told}
use Rattle.dch_runlaw.proofs.Unharmed.{unharmed_gets}
use Rattle.dch_top.specs.Benches.{Nodes}
use Rattle.dch_check.specs.Configured.{EndsLate, FollowsScript}
use Rattle.dch_top.specs.SoftRuns.{RunsSoft}
use Rattle.dch_top.specs.SoftUnits.{CarriesHandover, CarriesSoft, HandsUpRows, ShowsUnits}
use Rattle.dch_check.specs.declared.status.Status.TheVariants.{Ok as Well}
use Rattle.dch_check.specs.declared.front.FrontKind.TheVariants.{Single}
use Rattle.dch_check.proofs.Outcomes.{only_well}
use Rattle.dch_top.proofs.SoftRows.{run_rows}

-- units that are not too long
got_short : (dir : Dir) (b : ℕ) (units : List (List ℕ)) → AreShort units → unit_lines dir b units ≡ got_lines dir b units
got_short dir b [] short = refl
got_short dir b (unit ∷ units) short = ap₂ (λ x l. x ∷ l) (ap (λ t. cond t (Overlong dir b) (Got dir b unit)) (le-ltb 1500 (length unit) short.0)) (got_short dir b units short.1)

one_side : (dir : Dir) (b : ℕ) (reported : List Line) (text : List ℕ) (units : List (List ℕ)) → b < 2 ^ 64 → ShowsUnits reported text → AreShort units → lines_on dir b reported ≡ unit_lines dir b units → got_rows dir b (lines_of text) ≡ rows_of (got_lines dir b units)
one_side dir b reported text units small read short are =
    read dir b small ∙ ap rows_of (gots_on dir b reported ∙ ap (gots dir b) (are ∙ got_short dir b units short) ∙ gots_units dir b units)

-- the rows of an acknowledged bearer
hands_up_rows : (planned : Planned) (first b up down : ℕ) (happened : List EndEvent) (soft : SoftState) (reported : List Line) (text : List ℕ) → IsAcknowledged planned b up down → ShowsUnits reported text → HandsUp planned first b happened soft reported → HandsUpRows planned first b happened soft reported text
hands_up_rows planned first b up down happened soft reported text is read units =
    let pair : Pair = pair_after planned.config Up Down b units.history.events in
    let bearer : IsAmBearer planned.config Up Down b up down = is_am_bearer planned.config b up down is.good is.there is.mode is.up_is is.down_is in
    let short : BothRead pair = always_short (rules_in planned.config b) (pdu_octets planned.config Up b) (pdu_octets planned.config Down b) units.history.events bearer.window in
    let small : b < 2 ^ 64 = low (length planned.config.bearers) b is.there is.good.few in
    record {
      units = units;
      up = one_side Up b reported text pair.far.entity.receiver.reading.units small read short.far units.up;
      down = one_side Down b reported text pair.near.entity.receiver.reading.units small read short.near units.down;
    }

-- the lines of a script
script_carries : (planned : Planned) (first legs : ℕ) (quiet : Bool) (script : List (List ℕ)) (new : Run) (text : List ℕ) → IsPlanned planned → first % 8 ≡ 0 → 1 ≤ legs → HandlesLines soft_lines (opened_run planned first legs quiet) script new text
    → CarriesSoft planned first legs quiet script text
script_carries planned first legs quiet script new text good eighth some handles =
    let is : IsRunOf (opened_run planned first legs quiet) script new text = lines_run (opened_run planned first legs quiet) script new text some (record { stage = refl; left = refl }) handles in
    let opened : Point = opened_point planned first legs in
    let read : ShowsUnits is.reported text =
    λ dir b small. ap (λ t. got_rows dir b (lines_of t)) is.shows ∙ (run_rows quiet dir b is.moves opened (point_of new) is.reported is.run small (record { ue = good.good.few; rnc = good.good.few })).got in
    record {
      moves = is.moves;
      said = is.said;
      new = point_of new;
      reported = is.reported;
      run = is.run;
      shows = is.shows;
      received = λ k i moves mid last after lines own run inside there. leg_takes planned first legs k i moves mid last after lines own run good eighth inside there;
      unharmed = unharmed_gets;
      told = run_told opened is.moves (point_of new) is.reported is.run;
      read = read;
      listed = run_listed planned first legs is.moves (point_of new) is.reported is.run;
      acknowledged = λ b up down bearer faithful. hands_up_rows planned first b up down (end_events is.moves opened (point_of new) is.reported is.run) new.soft is.reported text bearer read
          (run_hands_up planned first legs b up down is.moves (point_of new) is.reported is.run bearer faithful);
    }

pub soft_carries : (legs start : ℕ) (quiet : Bool) (source sink : End) (nodes : Nodes) → (1 ≤ legs) × (legs ≤ 6) → RunsSoft legs start quiet source sink nodes Well → CarriesHandover legs start quiet source sink
soft_carries legs start quiet source sink nodes some runs = ⊎_elim (λ early. absurd early) (λ late. well late.0 late.1.0) runs.runs.answers
  where
    opened : Configurations → Run
    opened accepted = opened_run accepted.first (8 * start) legs quiet

    well : (after : Run) → EndsLate Single soft_lines opened source sink runs.runs.taken runs.runs.written after Well → CarriesHandover legs start quiet source sink
    well after late =
        let done = only_well late.outcome late.same in
        let follows : FollowsScript Single soft_lines opened source sink runs.runs.taken runs.runs.written after Done = subst (FollowsScript Single soft_lines opened source sink runs.runs.taken runs.runs.written after) done late.follows in
        let handles : HandlesLines soft_lines (opened follows.accepted) (lines_of (script_of runs.runs.taken)) after follows.answers.text =
        subst (λ (bytes : List ℕ). HandlesLines soft_lines (opened follows.accepted) (lines_of bytes) after follows.answers.text) (sym follows.script) follows.answers.handles in
        let begins : (8 * start) % 8 ≡ 0 = omega arith in
        record {
          taken = runs.runs.taken;
          written = runs.runs.written;
          takes = runs.runs.takes;
          writes = runs.runs.writes;
          accepted = follows.accepted;
          is = follows.is;
          text = follows.answers.text;
          frames = after.frames;
          all = follows.answers.all;
          carries = script_carries follows.accepted.first (8 * start) legs quiet (lines_of (script_of runs.runs.taken)) after follows.answers.text follows.is.plans begins some.0 handles;
        }
