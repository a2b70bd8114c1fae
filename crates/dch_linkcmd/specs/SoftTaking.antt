-- What taking a line does.
use Rattle.std.specs.Prelude.{◌≡◌, ◌≤◌, ℕ, List, Bool, Option, Some, None, length}
use Rattle.dch_accept.specs.Plans.{Planned}
use Rattle.dch_link.specs.SoftEvents.{Event, Happens}
use Rattle.dch_link.specs.Soft.{SoftState}
use Rattle.dch_link.specs.SoftNodes.{Represents}
use Rattle.dch_link.specs.SoftValues.{Parts}
use Rattle.dch_lines.specs.Shown.{shown}
use Rattle.dch_linkcmd.specs.SoftLineEvents.{Frames, OneEvent, Says}
use Rattle.dch_linkcmd.specs.SoftHandlers.{Shows}

-- a line says that something happens, and it has happened
pub record TakesEvent {P : Type 0} (writes : P → List ℕ → P → Type 0) (planned : Planned) (line : List ℕ) (quiet : Bool)
    (old new : Parts) (before after : P) : Type 0 where
  pub event : Event
  pub says : Says (length old.legs) planned.config line (OneEvent event)
  pub happens : (first : ℕ) (soft : SoftState) → Represents planned first soft old
      → Shows writes planned first (shown quiet) (Happens soft event) new before after

-- a line asks for radio frames, and nothing has happened yet
pub record AsksFrames {P : Type 0} (planned : Planned) (line : List ℕ) (count : ℕ) (old new : Parts)
    (before after : P) : Type 0 where
  pub says : Says (length old.legs) planned.config line (Frames count)
  pub some : 1 ≤ count
  pub few : count ≤ 100000
  pub same : new ≡ old
  pub unsaid : after ≡ before

abbrev pub Tells : {P : Type 0} → (P → List ℕ → P → Type 0) → Planned → List ℕ → Option ℕ → Bool → Parts → Parts → P → P
    → Type 0
Tells writes planned line None quiet old new before after = TakesEvent writes planned line quiet old new before after
Tells writes planned line (Some count) quiet old new before after = AsksFrames planned line count old new before after
