-- What a command makes of its lines.
use Rattle.std.specs.Prelude.{◌≡◌, ◌<◌, ◌⊎◌, ℕ, List, Bool, true, length}
use Rattle.dch_script.specs.Code.{longest, content}
use Rattle.dch_script.specs.declared.event.LineError.{LineError}
use Rattle.dch_script.specs.declared.event.LineError.TheVariants.{Long}
use Rattle.dch_lines.specs.declared.stop.LineFault.{LineFault}
use Rattle.dch_lines.specs.declared.stop.LineFault.TheVariants.{Malformed, NoMemory}

-- the rules of a command whose states are S, for lines that aren't empty: a good line takes one state to another and
-- adds a text; a part of it does, where it may be left off there; another line is malformed for a reason; some lines
-- may want memory; the last line of the report tells of so many lines
pub record Semantics (S : Type 0) : Type 1 where
  pub handles : S → List ℕ → S → List ℕ → Type 0
  pub begins : S → List ℕ → S → List ℕ → Type 0
  pub refuses : S → List ℕ → LineError → Type 0
  pub wants_memory : S → List ℕ → Type 0
  pub closing : S → ℕ → List ℕ

-- the rules of a command whose lines are done whole and want no memory
abbrev pub one_step : {S : Type 0} → (S → List ℕ → S → List ℕ → Type 0) → (S → List ℕ → LineError → Type 0)
    → (S → ℕ → List ℕ) → Semantics S
one_step handles refuses closing = record {
  handles = handles;
  begins = λ _ _ _ _. ⊥;
  refuses = refuses;
  wants_memory = λ _ _. ⊥;
  closing = closing;
}

-- for each state that a handler stands for before, there is one that it stands for afterwards, and this holds of the
-- two
abbrev pub Leads : {S C : Type 0} → (S → C → Type 0) → C → C → (S → S → Type 0) → Type 0
Leads {S} represents old new Holds = (before : S) → represents before old → (after : S) × represents after new
    × Holds before after

-- a good line is done; or a part of it, where no more can be written
abbrev pub Does : {S : Type 0} → Semantics S → Bool → S → List ℕ → S → List ℕ → Type 0
Does semantics broken old line new text = semantics.handles old line new text
    ⊎ ((broken ≡ true) × semantics.begins old line new text)

-- why a line that isn't empty is not handled in a state
abbrev pub IsFault : {S : Type 0} → Semantics S → S → List ℕ → LineFault → Type 0
IsFault semantics state line (Malformed why) = semantics.refuses state line why
IsFault semantics state line NoMemory = semantics.wants_memory state line

-- a line of more bytes than a line may have is malformed, for that reason
abbrev pub RefusesLong : {S : Type 0} → Semantics S → Type 0
RefusesLong {S} semantics = (state : S) (line : List ℕ) → longest < length (content line)
    → semantics.refuses state line Long

-- what is kept at any time is kept of some state
abbrev pub StandsForOne : {S C : Type 0} → (C → Type 0) → (S → C → Type 0) → Type 0
StandsForOne {S} {C} stands represents = (handler : C) → stands handler → (state : S) × represents state handler

-- a text of this kind is written to a page
pub record Adds {P : Type 0} (writes : P → List ℕ → P → Type 0) (Handles : List ℕ → Type 0) (before now : P) : Type 0 where
  pub more : List ℕ
  pub handles : Handles more
  pub wrote : writes before more now
