-- Runs of three nodes in which no damage has an effect, and events that do none.
use Rattle.std.specs.Prelude.{◌≡◌, ◌<◌, ℕ, List, [], ◌∷◌}
use Rattle.dch_types.specs.declared.channel.Dir.TheVariants.{Up, Down}
use Rattle.dch_damage.specs.Damage.{iub_after, radio_after}
use Rattle.dch_node.specs.Lines.{Line}
use Rattle.dch_linkcmd.specs.Events.{BlockedCombination, Damages, Event as LinkEvent, OfferedUnit}
use Rattle.dch_linkcmd.specs.LinkLink.{LinkState}
use Rattle.dch_runlaw.specs.Frames.{IsFrame}
use Rattle.dch_runlaw.specs.Runs.{Between, Event, Frame, Runs, Steps}

-- each frame that the nodes send in a radio frame of 10 ms arrives as it was sent
pub record FrameClear (old new : LinkState) (lines : List Line) (f : IsFrame old new lines) : Type 0 where
  pub iub_down : (s : ℕ) → s < 8 → iub_after old.damage Down s (f.rnc_output.iub s) ≡ f.rnc_output.iub s
  pub radio_down : radio_after old.damage Down f.down_output.sent ≡ f.down_output.sent
  pub radio_up : radio_after old.damage Up f.ue_output.sent ≡ f.ue_output.sent
  pub iub_up : (s : ℕ) → s < 8 → iub_after old.damage Up s (f.up_output.iub s) ≡ f.up_output.iub s

-- in the radio frame that an event is, if it is one
abbrev pub EventClear : (old : LinkState) → (event : Event) → (new : LinkState) → (lines : List Line)
    → Steps old event new lines → Type 0
EventClear old (Between event) new lines step = Unit {0}
EventClear old Frame new lines step = FrameClear old new lines step.frame

-- in each radio frame of a run no damage has an effect: what each node sends arrives as it was sent
abbrev pub IsClear : (events : List Event) → (old new : LinkState) → (lines : List Line) → Runs old events new lines
    → Type 0
IsClear [] old new lines run = Unit {0}
IsClear (event ∷ events) old new lines run = EventClear old event run.next run.own run.step
    × IsClear events run.next new run.rest run.later

-- an event between two radio frames does no damage
abbrev pub IsHarmless : LinkEvent → Type 0
IsHarmless (OfferedUnit dir b octets bits) = Unit {0}
IsHarmless (BlockedCombination dir c on) = Unit {0}
IsHarmless (Damages damage) = ⊥

-- and so do all events
abbrev pub AreHarmless : List Event → Type 0
AreHarmless [] = Unit {0}
AreHarmless (Between event ∷ events) = IsHarmless event × AreHarmless events
AreHarmless (Frame ∷ events) = AreHarmless events
