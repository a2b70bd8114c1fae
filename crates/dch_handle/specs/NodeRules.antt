-- What is known of a node behind a handle, whose states are S, whose events are E and whose values are V.
use Rattle.std.specs.Prelude.{◌≡◌, ◌+◌, ◌%◌, ℕ, List, Bool, false, if◌then◌else◌}
use Rattle.dch_accept.specs.Plans.{Planned}
use Rattle.dch_indication.specs.Lines.{Line}
use Rattle.dch_node.specs.Standing.{HasHistory, HasLongerHistory, TakesStep}
use Rattle.dch_node.specs.Values.{Output}

-- the state at opening for a configuration and the CFN of the first radio frame; the CFN of a state; the steps; the
-- event that makes a configuration active; whether a radio frame of 10 ms passes with an event. A value is open for a
-- configuration, has its parts for a second one behind a first one, stands for states where a configuration is active,
-- and shows what the last step sent
pub record NodeRules (S E V : Type 0) : Type 1 where
  pub opened : Planned → ℕ → S
  pub cfn : S → ℕ
  pub steps : S → E → S → Output → Type 0
  pub change : Planned → E
  pub passes : E → Bool
  pub is_opened : Planned → V → Type 0
  pub has_next : Planned → Planned → V → Type 0
  pub represents : Planned → S → V → Type 0
  pub shows : Output → V → Type 0

-- the CFN after an event with which a radio frame passes, or none
abbrev pub cfn_after : Bool → ℕ → ℕ
cfn_after passed cfn = if passed then (cfn + 1) % 256 else cfn

-- the CFN is that of the opening, and goes on by the radio frames that pass; with a change none does
pub record KeepsTime {S E V : Type 0} (rules : NodeRules S E V) : Type 0 where
  pub opens_at : (planned : Planned) (first : ℕ) → rules.cfn (rules.opened planned first) ≡ first
  pub turns : (old new : S) (event : E) (output : Output) → rules.steps old event new output
      → rules.cfn new ≡ cfn_after (rules.passes event) (rules.cfn old)
  pub unpassed : (planned : Planned) → rules.passes (rules.change planned) ≡ false

-- a node stands for what happened since it was opened for the configuration began, where planned is active
abbrev pub RepresentsHistory : {S E V : Type 0} → NodeRules S E V → Planned → Planned → ℕ → List E → List Line → V
    → Type 0
RepresentsHistory rules began planned first events lines node =
    HasHistory rules.steps (rules.represents planned) rules.shows (rules.opened began first) events lines node

-- from every state that the node stood for it took the step of an event, whose lines are told; it stands for what
-- happened since opening with this event behind it
pub record Goes {S E V : Type 0} (rules : NodeRules S E V) (event : E) (before planned : Planned) (old new : V)
    (Says : List Line → Type 0) : Type 0 where
  pub step : (state : S) → rules.represents before state old
      → TakesStep rules.steps (rules.represents planned) rules.shows state event new Says
  pub history : (began : Planned) (first : ℕ) (events : List E) (lines : List Line)
      → RepresentsHistory rules began before first events lines old
      → HasLongerHistory rules.steps (rules.represents planned) rules.shows (rules.opened began first) events lines
      event new Says

-- a node that is open for a first configuration has its parts for this second one, and stands for a state in which all
-- TTIs have ended
pub record CanChange {S E V : Type 0} (rules : NodeRules S E V) (second : Planned) (node : V) : Type 0 where
  pub first : Planned
  pub opened : rules.is_opened first node
  pub next : rules.has_next first second node
  pub state : S
  pub stands : rules.represents first state node
  pub whole : rules.cfn state % 8 ≡ 0

-- an event is no change: a node that is open for a configuration is ready for it, that is active before it, and what
-- the node has for a second one stays
pub record IsPlain {V : Type 0} (IsOpened IsReady IsActive : V → Type 0) (Keeps : V → V → Type 0)
    (HasNext : Planned → V → Type 0) : Type 0 where
  pub ready : (node : V) → IsOpened node → IsReady node
  pub active : (node : V) → IsActive node
  pub keeps : (old new : V) → Keeps old new → (second : Planned) → HasNext second old → HasNext second new
