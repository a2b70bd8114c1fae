-- What the handler of `pair` has, and the ends that it stands for.
use Rattle.std.specs.Prelude.{◌≡◌, ◌≤◌, ℕ, List, true, false, All, Option, Some, None, Result, Ok, Err, length}
use Rattle.dch_am.specs.Rules.{Rules}
use Rattle.dch_reset.specs.Standing.{Represents, Running, is_settled, size_in, size_of}
use Rattle.dch_script.specs.Pair.{IsOfPair, ParsedPair, is_opening}
use Rattle.dch_script.specs.declared.event.LineError.{LineError}
use Rattle.dch_script.specs.declared.event.LineError.TheVariants.{When}
use Rattle.dch_paircmd.specs.Ends.{Ends, PairEnd, Sides, sides_at}
use Rattle.dch_paircmd.specs.Rules.{Happened, Happens, HappensAs, Told, arrives_at, end_in, is_early}

-- an end that runs, the PDUs in flight to it, and the octets of those that it builds
pub record SideValue : Type 0 where
  pub end : Running
  pub coming : List (List ℕ)
  pub size : ℕ

-- both ends
pub record EndsValue : Type 0 where
  pub first : SideValue
  pub second : SideValue

-- no PDU is longer than those that come to this end
abbrev pub AreShort : Running → List (List ℕ) → Type 0
AreShort end pdus = All (λ pdu. length pdu ≤ size_in end) pdus

-- what an end keeps
pub record IsKept (end : Running) (coming : List (List ℕ)) (size : ℕ) : Type 0 where
  pub size_is : size ≡ size_of end
  pub least : 6 ≤ size
  pub most : size ≤ 126
  pub comes : size_in end ≤ 126
  pub settled : is_settled end ≡ true
  pub few : length coming ≤ 1024
  pub short : AreShort end coming

-- what one end builds has the size of what comes to the other
pub record Match (near far : SideValue) : Type 0 where
  pub out : near.size ≡ size_in far.end
  pub in_ : far.size ≡ size_in near.end

-- the sizes of PDUs stay
pub record StaysSide (old new : SideValue) : Type 0 where
  pub size : new.size ≡ old.size
  pub comes : size_in new.end ≡ size_in old.end

-- a running end stands for this end
pub record IsSide (rules : Rules) (v : SideValue) (s : PairEnd) : Type 0 where
  pub end : Represents rules v.end s.state
  pub size : v.size ≡ s.size
  pub coming : v.coming ≡ s.coming

-- two running ends stand for these
pub record AreSides (rules : Rules) (near far : SideValue) (s : Sides) : Type 0 where
  pub one : IsSide rules near s.near
  pub other : IsSide rules far s.far

pub record AreEnds (v : EndsValue) (e : Ends) : Type 0 where
  pub first : IsSide e.rules v.first e.first
  pub second : IsSide e.rules v.second e.second

abbrev pub AreKnown : EndsValue → Type 0
AreKnown v = (e : Ends) × AreEnds v e

-- it tells this, and stands for the end after that
pub record IsTold {P : Type 0} (writes : P → List ℕ → P → Type 0) (rules : Rules) (told : Told) (v : SideValue)
    (before now : P) : Type 0 where
  pub side : IsSide rules v told.side
  pub wrote : writes before told.text now

-- the first PDU in flight to it arrived
abbrev pub Arrives : {P : Type 0} → (P → List ℕ → P → Type 0) → Rules → ℕ → PairEnd → SideValue → P → P → Type 0
Arrives writes rules n side v before now = IsTold writes rules (arrives_at rules n side) v before now

-- what a line says has happened, and its text is written
pub record LeadsTo {P : Type 0} (writes : P → List ℕ → P → Type 0) (rules : Rules) (s : Sides) (line : ParsedPair)
    (near far : SideValue) (before now : P) : Type 0 where
  pub timely : is_early rules s line ≡ false
  pub after : Happened
  pub happens : HappensAs rules s line after
  pub sides : AreSides rules near far after.sides
  pub wrote : writes before after.text now

-- or it comes too early
abbrev pub Answers : {P : Type 0} → (P → List ℕ → P → Type 0) → Result (Unit {0}) LineError → Rules → Sides → ParsedPair
    → SideValue → SideValue → P → P → Type 0
Answers writes (Ok done) rules s line near far before now = LeadsTo writes rules s line near far before now
Answers writes (Err why) rules s line near far before now = (why ≡ When) × (is_early rules s line ≡ true)

-- the same of both ends
pub record LeadsOn {P : Type 0} (writes : P → List ℕ → P → Type 0) (old : Ends) (line : ParsedPair) (v : EndsValue)
    (before now : P) : Type 0 where
  pub after : Ends
  pub text : List ℕ
  pub happens : Happens old line after text
  pub ends : AreEnds v after
  pub wrote : writes before text now

abbrev pub AnswersEvent : {P : Type 0} → (P → List ℕ → P → Type 0) → Result (Unit {0}) LineError → Ends → ParsedPair →
    EndsValue
    → P → P → Type 0
AnswersEvent writes (Ok done) old line v before now = LeadsOn writes old line v before now
AnswersEvent writes (Err why) old line v before now = (why ≡ When)
    × (is_early old.rules (sides_at (end_in line) old) line ≡ true)

-- an event at one of the ends, with good words
pub record IsEvent (line : ParsedPair) : Type 0 where
  pub later : is_opening line ≡ false
  pub good : IsOfPair line

-- a handler stands for these ends, where they are open
abbrev pub RepresentsRun : Option Ends → Option EndsValue → Type 0
RepresentsRun None None = Unit {0}
RepresentsRun None (Some v) = ⊥
RepresentsRun (Some e) None = ⊥
RepresentsRun (Some e) (Some v) = AreEnds v e

-- what it keeps at any time
abbrev pub IsReady : Option EndsValue → Type 0
IsReady None = Unit {0}
IsReady (Some v) = AreKnown v

-- at any time it stands for some
pub ready_stands : (handler : Option EndsValue) → IsReady handler → (run : Option Ends) × RepresentsRun run handler
ready_stands None ready = (None, tt)
ready_stands (Some v) ready = (Some ready.0, ready.1)
