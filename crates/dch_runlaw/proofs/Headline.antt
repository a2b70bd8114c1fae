-- What the lines of a script carry.
use Rattle.std.proofs.Common.{◌≡◌, ◌%◌, ◌+◌, ◌<◌, ◌≤◌, ◌^◌, ◌∙◌, ◌++◌, ℕ, List, ◌∷◌, Bool, Option, None, Some, length, arith, refl, ap, sym, subst, inl, inr}
use Rattle.std.specs.Prelude.{IfSome}
use Rattle.dch_types.specs.declared.channel.Dir.TheVariants.{Up, Down}
use Rattle.dch_config.specs.Good.{IsGood}
use Rattle.dch_accept.specs.Plans.{IsPlanned, Planned}
use Rattle.dch_lines.specs.LineTexts.{HandlesLines}
use Rattle.dch_node.specs.Lines.{Differs, Line}
use Rattle.dch_script.specs.LineText.{text_of}
use Rattle.dch_lines.specs.Shown.{shown}
use Rattle.dch_lines.specs.declared.later.Later.{Later}
use Rattle.dch_linkcmd.specs.RncState.{State as RncState}
use Rattle.dch_linkcmd.specs.LinkChanging.{Changes}
use Rattle.dch_linkcmd.specs.LinkLink.{LinkState, opened_link}
use Rattle.dch_linkcmd.specs.Rules.{link_lines}
use Rattle.dch_linkcmd.specs.Run.{Run, opened_run}
use Rattle.dch_runlaw.specs.Intervals.{frames_in}
use Rattle.dch_runlaw.specs.Parts.{Begins, GoesOver, KeepsAll}
use Rattle.dch_runlaw.specs.Runs.{Event, Frame, Runs}
use Rattle.dch_runlaw.specs.Scripts.{ChangesWithin, IsRunOf, RunsOver}
use Rattle.dch_runlaw.specs.EndEvents.{end_events}
use Rattle.dch_runlaw.specs.HonestSilent.{Lacks}
use Rattle.dch_runlaw.specs.TextTold.{IsRead, TellsFalse}
use Rattle.dch_runlaw.specs.Headline.{Carries, CarriesAlone, CarriesBoth, CarriesFirst, CarriesSecond, IsLater, IsSilentOn, MayCarryBoth}
use Rattle.dch_runlaw.proofs.Changing.{changed_is}
use Rattle.dch_runlaw.proofs.CountedFrames.{eighth_over}
use Rattle.dch_runlaw.proofs.HeadlineHandedUp.{am_rows, am_rows_over, tm_rows_down, tm_rows_down_over, tm_rows_up, tm_rows_up_over, um_rows_down, um_rows_down_over, um_rows_up, um_rows_up_over}
use Rattle.dch_runlaw.proofs.HeadlineSilence.{silent, silent_on}
use Rattle.dch_runlaw.proofs.HonestHanded.{silent_history, tm_silent_down, tm_silent_up, um_silent_down, um_silent_up}
use Rattle.dch_runlaw.proofs.HonestOver.{silent_over, tm_down_silent_over, tm_up_silent_over, um_down_silent_over, um_up_silent_over}
use Rattle.dch_runlaw.proofs.IntervalDown.{down_interval}
use Rattle.dch_runlaw.proofs.IntervalSets.{up_interval}
use Rattle.dch_runlaw.proofs.Scripts.{lines_run}
use Rattle.dch_runlaw.proofs.Shown.{shown-append}
use Rattle.dch_runlaw.proofs.TextTold.{over_shown, run_false, run_shown}
use Rattle.dch_runlaw.proofs.Undamaged.{clear_carries, clear_carries_over}

-- the channels of a good configuration have small numbers
up_low : (planned : Planned) (i : ℕ) → IsGood planned.config → i < length planned.config.uplink.side.channels → i < 2 ^ 64
up_low planned i good inside = omega (arith, inside, good.uplink.side.few)

down_low : (planned : Planned) (i : ℕ) → IsGood planned.config → i < length planned.config.downlink.side.channels → i < 2 ^ 64
down_low planned i good inside = omega (arith, inside, good.downlink.side.few)

-- a part whose text is silent on a channel has no line on it
lacks_up : (planned : Planned) (i : ℕ) (lines : List Line) (text : List ℕ) → IsGood planned.config → i < length planned.config.uplink.side.channels → TellsFalse lines text → IsSilentOn Up i text → Lacks lines (Differs Up i)
lacks_up planned i lines text good inside tells none = silent_on Up i lines text (up_low planned i good inside) tells none

lacks_down : (planned : Planned) (i : ℕ) (lines : List Line) (text : List ℕ) → IsGood planned.config → i < length planned.config.downlink.side.channels → TellsFalse lines text → IsSilentOn Down i text → Lacks lines (Differs Down i)
lacks_down planned i lines text good inside tells none = silent_on Down i lines text (down_low planned i good inside) tells none

-- a run of one part
part_tells : (quiet : Bool) (planned : Planned) (events : List Event) (start new : LinkState) (lines : List Line) (text : List ℕ) → Runs start events new lines → text ≡ shown quiet (text_of lines) → IsGood planned.config → start.rnc.state.planned ≡ planned → TellsFalse lines text
part_tells quiet planned events start new lines text run shows good active = subst (TellsFalse lines) (sym shows) (run_false quiet planned events start new lines run good active)

first_carried : (planned : Planned) (first : ℕ) (quiet : Bool) (events : List Event) (link : LinkState) (reported : List Line) (run : Runs (opened_link planned first) events link reported) (text : List ℕ) → IsPlanned planned → first % 8 ≡ 0 → text ≡ shown quiet (text_of reported)
    → CarriesFirst planned first events link reported run text
first_carried planned first quiet events link reported run text good eighth shows =
    let opened : LinkState = opened_link planned first in
    let begins : Begins planned opened = inl (record { first = first; is = refl }) in
    let read : IsRead link text = subst (IsRead link) (sym shows) (run_shown quiet planned first events link reported run good.good) in
    let tells : TellsFalse reported text = part_tells quiet planned events opened link reported text run shows good.good refl in
    record {
      received_down = λ i before mid last lines run_before inside t arrives. down_interval planned i before opened mid last lines good begins run_before inside t arrives;
      received_up = λ set before mid last lines run_before few t arrives. up_interval planned set before opened mid last lines good begins eighth run_before few t arrives;
      undamaged = λ clear. clear_carries planned first events link reported run good eighth clear;
      acknowledged = λ b up down bearer no_up no_down.
          let here = (bearer.good.bearers b bearer.there).up.there up bearer.up_is in
          let there = (bearer.good.bearers b bearer.there).down.there down bearer.down_is in
          am_rows planned first b up down (end_events events (opened_link planned first) link reported run) link text bearer (silent_history planned first b up down events link reported run bearer (silent up down reported text (up_low planned up good.good here) (down_low planned down good.good there) tells no_up no_down)) read;
      unacknowledged_up = λ b up bearer none.
          let there = (bearer.good.bearers b bearer.there).up.there up bearer.channel in
          um_rows_up planned first b up (end_events events (opened_link planned first) link reported run) link text bearer (um_silent_up planned first b up events link reported run bearer (lacks_up planned up reported text good.good there tells none)) read;
      unacknowledged_down = λ b down bearer none.
          let there = (bearer.good.bearers b bearer.there).down.there down bearer.channel in
          um_rows_down planned first b down (end_events events (opened_link planned first) link reported run) link text bearer (um_silent_down planned first b down events link reported run bearer (lacks_down planned down reported text good.good there tells none)) read;
      transparent_up = λ b up bearer none.
          let there = (bearer.good.bearers b bearer.there).up.there up bearer.channel in
          tm_rows_up planned first b up (end_events events (opened_link planned first) link reported run) link text bearer (tm_silent_up planned first b up events link reported run bearer (lacks_up planned up reported text good.good there tells none)) read;
      transparent_down = λ b down bearer none.
          let there = (bearer.good.bearers b bearer.there).down.there down bearer.channel in
          tm_rows_down planned first b down (end_events events (opened_link planned first) link reported run) link text bearer (tm_silent_down planned first b down events link reported run bearer (lacks_down planned down reported text good.good there tells none)) read;
    }

-- and one of two
second_carried : (planned second : Planned) (first : ℕ) (quiet : Bool) (before : List Event) (early : List Line) (start : LinkState) (over : GoesOver planned second first before early start) (after : List Event) (link : LinkState) (late : List Line) (run : Runs start after link late) (one two : List ℕ)
    → IsPlanned planned → IsPlanned second → KeepsAll planned second → first % 8 ≡ 0 → start.rnc.state.cfn % 8 ≡ 0 → one ≡ shown quiet (text_of early) → two ≡ shown quiet (text_of late) → CarriesSecond planned second first before early start over after link late run one two
second_carried planned second first quiet before early start over after link late run one two good later kept eighth whole one_shows two_shows =
    let opened : LinkState = opened_link planned first in
    let begins : Begins second start = inr (record { before = planned; good = good; kept = kept; first = first; events = before; lines = early; over = over }) in
    let shows : one ++ two ≡ shown quiet (text_of (early ++ late)) = ap (λ (t : List ℕ). t ++ two) one_shows ∙ ap (λ (t : List ℕ). shown quiet (text_of early) ++ t) two_shows ∙ sym (shown-append quiet early late) in
    let read : IsRead link (one ++ two) = subst (IsRead link) (sym shows) (over_shown quiet planned second first before after start link early late over run good.good later.good) in
    let tells : TellsFalse early one = part_tells quiet planned before opened over.last early one over.run one_shows good.good refl in
    let tells_later : TellsFalse late two = part_tells quiet second after start link late two run two_shows later.good (ap (λ (x : RncState). x.planned) (changed_is second over.last start over.changes).rnc) in
    record {
      received_down = λ i events mid last lines run_before inside t arrives. down_interval second i events start mid last lines later begins run_before inside t arrives;
      received_up = λ set events mid last lines run_before few t arrives. up_interval second set events start mid last lines later begins whole run_before few t arrives;
      undamaged = λ clear clear_later. clear_carries_over planned second first before after start link early late over run good later kept eighth whole clear clear_later;
      acknowledged = λ b up down up_later down_later bearer bearer_later no_up no_down no_up_later no_down_later.
          let here = (bearer.good.bearers b bearer.there).up.there up bearer.up_is in
          let there = (bearer.good.bearers b bearer.there).down.there down bearer.down_is in
          let here_later = (bearer_later.good.bearers b bearer_later.there).up.there up_later bearer_later.up_is in
          let there_later = (bearer_later.good.bearers b bearer_later.there).down.there down_later bearer_later.down_is in
          am_rows_over planned second first b up_later down_later (end_events before (opened_link planned first) over.last early over.run) (end_events after start link late run) over.last link (one ++ two) bearer_later
          (silent_over planned second first b up down up_later down_later before after start link early late over run (kept b) bearer bearer_later
          (silent up down early one (up_low planned up good.good here) (down_low planned down good.good there) tells no_up no_down)
          (silent up_later down_later late two (up_low second up_later later.good here_later) (down_low second down_later later.good there_later) tells_later no_up_later no_down_later)) read;
      unacknowledged_up = λ b up up_later bearer bearer_later none none_later.
          let there = (bearer.good.bearers b bearer.there).up.there up bearer.channel in
          let there_later = (bearer_later.good.bearers b bearer_later.there).up.there up_later bearer_later.channel in
          um_rows_up_over planned second first b up up_later (end_events before (opened_link planned first) over.last early over.run) (end_events after start link late run) over.last link (one ++ two) bearer_later (um_up_silent_over planned second first b up up_later before after start link early late over run bearer bearer_later
          (lacks_up planned up early one good.good there tells none) (lacks_up second up_later late two later.good there_later tells_later none_later)) read;
      unacknowledged_down = λ b down down_later bearer bearer_later none none_later.
          let there = (bearer.good.bearers b bearer.there).down.there down bearer.channel in
          let there_later = (bearer_later.good.bearers b bearer_later.there).down.there down_later bearer_later.channel in
          um_rows_down_over planned second first b down down_later (end_events before (opened_link planned first) over.last early over.run) (end_events after start link late run) over.last link (one ++ two) bearer_later (um_down_silent_over planned second first b down down_later before after start link early late over run bearer bearer_later
          (lacks_down planned down early one good.good there tells none) (lacks_down second down_later late two later.good there_later tells_later none_later)) read;
      transparent_up = λ b up up_later bearer bearer_later none none_later.
          let there = (bearer.good.bearers b bearer.there).up.there up bearer.channel in
          let there_later = (bearer_later.good.bearers b bearer_later.there).up.there up_later bearer_later.channel in
          tm_rows_up_over planned second first b up up_later (end_events before (opened_link planned first) over.last early over.run) (end_events after start link late run) over.last link (one ++ two) bearer_later (tm_up_silent_over planned second first b up up_later before after start link early late over run bearer bearer_later
          (lacks_up planned up early one good.good there tells none) (lacks_up second up_later late two later.good there_later tells_later none_later)) read;
      transparent_down = λ b down down_later bearer bearer_later none none_later.
          let there = (bearer.good.bearers b bearer.there).down.there down bearer.channel in
          let there_later = (bearer_later.good.bearers b bearer_later.there).down.there down_later bearer_later.channel in
          tm_rows_down_over planned second first b down down_later (end_events before (opened_link planned first) over.last early over.run) (end_events after start link late run) over.last link (one ++ two) bearer_later (tm_down_silent_over planned second first b down down_later before after start link early late over run bearer bearer_later
          (lacks_down planned down early one good.good there tells none) (lacks_down second down_later late two later.good there_later tells_later none_later)) read;
    }

some_is : (a b : Later) → ◌≡◌ {A = Option Later} (Some a) (Some b) → b ≡ a
some_is a b same = cc

alone : (planned : Planned) (first : ℕ) (quiet : Bool) (events : List Event) (link : LinkState) (reported : List Line) (text : List ℕ) → IsPlanned planned → first % 8 ≡ 0 → Runs (opened_link planned first) events link reported → text ≡ shown quiet (text_of reported) → CarriesAlone planned first quiet events text
alone planned first quiet events link reported text good eighth run shows = record { link = link; reported = reported; run = run; shows = shows; carries = first_carried planned first quiet events link reported run text good eighth shows }

both : (planned : Planned) (later : Later) (first : ℕ) (quiet : Bool) (events : List Event) (link : LinkState) (reported : List Line) (left : Option Later) (text : List ℕ) → IsPlanned planned → IsLater planned later → first % 8 ≡ 0
    → ChangesWithin (Some later) 0 (opened_link planned first) events link reported left → text ≡ shown quiet (text_of reported) → CarriesBoth planned later first quiet events text
both planned later first quiet events link reported left text good is eighth c shows =
    let same : c.later ≡ later = some_is later c.later c.was in
    let over : GoesOver planned later.accepted first c.before c.early c.start = record { last = c.last; run = c.run; changes = subst (λ (l : Later). Changes l.accepted c.last c.start) same c.changes } in
    let moved : c.later.frame ≡ later.frame = ap (λ (l : Later). l.frame) same in
    let count : frames_in c.before ≡ later.frame = (let now : 0 + frames_in c.before ≡ c.later.frame = c.now in omega (arith, now, moved)) in
    let whole : c.start.rnc.state.cfn % 8 ≡ 0 = eighth_over planned later.accepted first c.before c.early c.start over good eighth (ap (λ n. n % 8) count ∙ is.follows.whole) in
    let one : List ℕ = shown quiet (text_of c.early) in
    let two : List ℕ = shown quiet (text_of c.late) in
    record {
      before = c.before;
      after = c.after;
      all = c.all;
      now = count;
      early = c.early;
      start = c.start;
      over = over;
      link = link;
      late = c.late;
      run = c.rest;
      one = one;
      two = two;
      one_shows = refl;
      two_shows = refl;
      shows = shows ∙ ap (λ (l : List Line). shown quiet (text_of l)) c.reported ∙ shown-append quiet c.early c.late;
      first_part = first_carried planned first quiet c.before c.last c.early c.run one good eighth refl;
      both_parts = second_carried planned later.accepted first quiet c.before c.early c.start over (Frame ∷ c.after) link c.late c.rest one two good is.good is.follows.kept eighth whole refl refl;
    }

parts : (planned : Planned) (second : Option Later) (first : ℕ) (quiet : Bool) (events : List Event) (link : LinkState) (reported : List Line) (left : Option Later) (text : List ℕ) → IsPlanned planned → IfSome second (IsLater planned) → first % 8 ≡ 0
    → RunsOver second 0 (opened_link planned first) events link reported left → text ≡ shown quiet (text_of reported) → MayCarryBoth planned second first quiet events text
parts planned None first quiet events link reported left text good is eighth (inl one) shows = alone planned first quiet events link reported text good eighth one.run shows
parts planned None first quiet events link reported left text good is eighth (inr two) shows = let never : None ≡ Some two.later = two.was in absurd (cc)
parts planned (Some later) first quiet events link reported left text good is eighth (inl one) shows =
    inl ((let soon : 0 + frames_in events ≤ later.frame = one.soon later refl in omega (arith, soon)), alone planned first quiet events link reported text good eighth one.run shows)
parts planned (Some later) first quiet events link reported left text good is eighth (inr two) shows = inr (both planned later first quiet events link reported left text good is eighth two shows)

-- the lines of a script carry the units of the bearers
pub carried : (planned : Planned) (second : Option Later) (first : ℕ) (quiet : Bool) (script : List (List ℕ)) (new : Run) (text : List ℕ) → IsPlanned planned → IfSome second (IsLater planned) → first % 8 ≡ 0 → HandlesLines link_lines (opened_run planned second first quiet) script new text
    → Carries planned second first quiet script text
carried planned second first quiet script new text good later eighth handles =
    let is : IsRunOf (opened_run planned second first quiet) script new text = lines_run (opened_run planned second first quiet) script new text (record { stage = refl; left = refl; soon = λ other was. omega arith }) handles in
    record {
      events = is.events;
      said = is.said;
      parts = parts planned second first quiet is.events new.link is.reported new.second text good later eighth is.run is.shows;
    }
