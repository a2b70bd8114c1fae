-- What taking a line does.
use Rattle.std.specs.Prelude.{◌≡◌, ◌≤◌, ℕ, List, Bool, Option, Some, None}
use Rattle.dch_accept.specs.Plans.{Planned}
use Rattle.dch_link.specs.Events.{Event, Happens}
use Rattle.dch_link.specs.Link.{LinkState}
use Rattle.dch_link.specs.LinkNodes.{Represents}
use Rattle.dch_link.specs.Values.{Nodes}
use Rattle.dch_linkcmd.specs.LineEvents.{Frames, OneEvent, Says}
use Rattle.dch_linkcmd.specs.Handlers.{Shows}

-- a line says that something happens, and it has happened
pub record TakesEvent {P : Type 0} (writes : P → List ℕ → P → Type 0) (planned : Planned) (line : List ℕ) (quiet : Bool)
    (old new : Nodes) (before after : P) : Type 0 where
  pub event : Event
  pub says : Says planned.config line (OneEvent event)
  pub happens : (began : Planned) (first : ℕ) (link : LinkState) → Represents began planned first link old
      → Shows writes began planned first quiet (Happens link event) new before after

-- a line asks for radio frames, and nothing has happened yet
pub record AsksFrames {P : Type 0} (planned : Planned) (line : List ℕ) (count : ℕ) (old new : Nodes)
    (before after : P) : Type 0 where
  pub says : Says planned.config line (Frames count)
  pub some : 1 ≤ count
  pub few : count ≤ 100000
  pub same : new ≡ old
  pub unsaid : after ≡ before

abbrev pub Tells : {P : Type 0} → (P → List ℕ → P → Type 0) → Planned → List ℕ → Option ℕ → Bool → Nodes → Nodes → P → P
    → Type 0
Tells writes planned line None quiet old new before after = TakesEvent writes planned line quiet old new before after
Tells writes planned line (Some count) quiet old new before after = AsksFrames planned line count old new before after
