-- What a run tells, in which no damage has an effect.
use Rattle.std.proofs.Common.{◌≡◌, ◌%◌, ◌∙◌, ◌++◌, ℕ, List, refl, inl, inr}
use Rattle.dch_accept.specs.Plans.{IsPlanned, Planned}
use Rattle.dch_node.specs.Lines.{Line}
use Rattle.dch_script.specs.LineText.{text_of}
use Rattle.dch_lines.specs.Shown.{shown}
use Rattle.dch_linkcmd.specs.LinkLink.{LinkState, opened_link}
use Rattle.dch_runlaw.specs.Runs.{Event, Runs}
use Rattle.dch_runlaw.specs.Parts.{Begins, GoesOver, KeepsAll}
use Rattle.dch_runlaw.specs.Clear.{AreHarmless, IsClear}
use Rattle.dch_runlaw.proofs.Changing.{changed_is}
use Rattle.dch_runlaw.proofs.ClearHarmless.{clear_from, none_left}
use Rattle.dch_runlaw.proofs.ClearRuns.{clear_on}
use Rattle.dch_runlaw.proofs.Handed.{IsHanded, TakesAll, handed, handed_over}
use Rattle.dch_runlaw.proofs.PlainClear.{clear_plain, level_over, part_plain, plain-append}
use Rattle.dch_runlaw.proofs.PlainLevels.{Level, changed_level, opened_level}
use Rattle.dch_runlaw.specs.EndEvents.{end_events}
use Rattle.dch_runlaw.specs.HonestBearers.{Alone, Both, Parts, active}
use Rattle.dch_runlaw.specs.TextTold.{IsRead}
use Rattle.dch_runlaw.proofs.TextTold.{over_shown, run_shown}
use Rattle.dch_runlaw.specs.Undamaged.{CarriesAll, HandsUpAll}
use Rattle.dch_runlaw.proofs.UndamagedHandedUp.{am_rows, tm_rows_down, tm_rows_up, um_rows_down, um_rows_up}

-- where just what was given is taken of every channel
all_handed : (parts : Parts) (new : LinkState) (text : List ℕ) → IsHanded parts new → IsRead new text → HandsUpAll parts new text
all_handed parts new text h read = record {
  acknowledged = λ b up down is. am_rows parts b up down new text is (h.acknowledged b up down is) read;
  unacknowledged_up = λ b i is. um_rows_up (active parts) b i new text is (h.unacknowledged_up b i is) read;
  unacknowledged_down = λ b i is. um_rows_down (active parts) b i new text is (h.unacknowledged_down b i is) read;
  transparent_up = λ b i is. tm_rows_up (active parts) b i new text is (h.transparent_up b i is) read;
  transparent_down = λ b i is. tm_rows_down (active parts) b i new text is (h.transparent_down b i is) read;
}

-- a run of one part
first_takes : (planned : Planned) (first : ℕ) (events : List Event) (new : LinkState) (lines : List Line) (run : Runs (opened_link planned first) events new lines) → IsPlanned planned → first % 8 ≡ 0 → IsClear events (opened_link planned first) new lines run
    → TakesAll planned events (opened_link planned first) new lines run
first_takes planned first events new lines run good eighth clear = λ dir i inside. clear_on planned dir i events (opened_link planned first) new lines run good (inl (record { first = first; is = refl })) eighth clear inside

pub clear_carries : (planned : Planned) (first : ℕ) (events : List Event) (new : LinkState) (lines : List Line) (run : Runs (opened_link planned first) events new lines)
    → IsPlanned planned → first % 8 ≡ 0 → IsClear events (opened_link planned first) new lines run → CarriesAll (Alone planned first (end_events events (opened_link planned first) new lines run)) new lines
clear_carries planned first events new lines run good eighth clear =
    let parts : Parts = Alone planned first (end_events events (opened_link planned first) new lines run) in
    let all : IsHanded parts new = handed planned first events new lines run (first_takes planned first events new lines run good eighth clear) in
    record {
      plain = clear_plain planned first events new lines run good eighth clear;
      told = λ quiet. all_handed parts new (shown quiet (text_of lines)) all (run_shown quiet planned first events new lines run good.good);
    }

pub harmless_carries : (planned : Planned) (first : ℕ) (events : List Event) (new : LinkState) (lines : List Line) (run : Runs (opened_link planned first) events new lines)
    → IsPlanned planned → first % 8 ≡ 0 → AreHarmless events → CarriesAll (Alone planned first (end_events events (opened_link planned first) new lines run)) new lines
harmless_carries planned first events new lines run good eighth harmless =
    clear_carries planned first events new lines run good eighth (clear_from events (opened_link planned first) new lines run refl harmless)

-- and one of two
pub clear_carries_over : (planned second : Planned) (first : ℕ) (before after : List Event) (start new : LinkState) (xs ys : List Line) (o : GoesOver planned second first before xs start) (run : Runs start after new ys)
    → IsPlanned planned → IsPlanned second → KeepsAll planned second → first % 8 ≡ 0 → start.rnc.state.cfn % 8 ≡ 0 → IsClear before (opened_link planned first) o.last xs o.run → IsClear after start new ys run → CarriesAll (Both planned second first (end_events before (opened_link planned first) o.last xs o.run) (end_events after start new ys run) o.last) new (xs ++ ys)
clear_carries_over planned second first before after start new xs ys o run good later kept eighth whole clear clear_later =
    let opened : LinkState = opened_link planned first in
    let begins : Begins second start = inr (record { before = planned; good = good; kept = kept; first = first; events = before; lines = xs; over = o }) in
    let takes : TakesAll planned before opened o.last xs o.run = first_takes planned first before o.last xs o.run good eighth clear in
    let takes_later : TakesAll second after start new ys run = λ dir i inside. clear_on second dir i after start new ys run later begins whole clear_later inside in
    let parts : Parts = Both planned second first (end_events before (opened_link planned first) o.last xs o.run) (end_events after start new ys run) o.last in
    let all : IsHanded parts new = handed_over planned second first before after start new xs ys o run good.good kept whole takes takes_later in
    let level : Level planned o.last = level_over planned before opened o.last xs o.run good.good takes (opened_level planned first) in
    let level_later : Level second new = level_over second after start new ys run later.good takes_later (changed_level planned second o.last start kept o.changes level) in
    record {
      plain = plain-append xs ys (clear_plain planned first before o.last xs o.run good eighth clear) (part_plain parts after start new ys run later begins whole clear_later level_later all);
      told = λ quiet. all_handed parts new (shown quiet (text_of (xs ++ ys))) all (over_shown quiet planned second first before after start new xs ys o run good.good later.good);
    }

pub harmless_carries_over : (planned second : Planned) (first : ℕ) (before after : List Event) (start new : LinkState) (xs ys : List Line) (o : GoesOver planned second first before xs start) (run : Runs start after new ys)
    → IsPlanned planned → IsPlanned second → KeepsAll planned second → first % 8 ≡ 0 → start.rnc.state.cfn % 8 ≡ 0 → AreHarmless before → AreHarmless after → CarriesAll (Both planned second first (end_events before (opened_link planned first) o.last xs o.run) (end_events after start new ys run) o.last) new (xs ++ ys)
harmless_carries_over planned second first before after start new xs ys o run good later kept eighth whole harmless harmless_later =
    clear_carries_over planned second first before after start new xs ys o run good later kept eighth whole
    (clear_from before (opened_link planned first) o.last xs o.run refl harmless)
    (clear_from after start new ys run ((changed_is second o.last start o.changes).damage ∙ none_left before (opened_link planned first) o.last xs o.run refl harmless) harmless_later)
