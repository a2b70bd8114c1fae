-- Radio frames of 10 ms through three nodes, before each of which units are offered.
use Rattle.std.specs.Prelude.{◌≡◌, ◌++◌, ℕ, zero, suc, List, [], ◌∷◌, Option, Some, None}
use Rattle.dch_accept.specs.Plans.{Planned}
use Rattle.dch_node.specs.Lines.{Line}
use Rattle.dch_link.specs.Events.{Event, Happens}
use Rattle.dch_link.specs.Link.{LinkState, opened_link}
use Rattle.dch_link.specs.Passing.{next_stage}
use Rattle.dch_link.specs.Stages.{AtStage}
use Rattle.dch_link.specs.declared.stage.Stage.{Stage}
use Rattle.dch_link.specs.declared.stage.Stage.TheVariants.{RncTick}
use Rattle.dch_gen.specs.Units.{offered}

-- one thing is done after another, and the lines are those of both
pub record Follows (First Then : LinkState → LinkState → List Line → Type 0) (old new : LinkState)
    (lines : List Line) : Type 0 where
  pub mid : LinkState
  pub front : List Line
  pub back : List Line
  pub first : First old mid front
  pub then : Then mid new back
  pub all : lines ≡ front ++ back

-- events happen one after another
abbrev pub HappenAll : List Event → LinkState → LinkState → List Line → Type 0
HappenAll [] old new lines = (new ≡ old) × (lines ≡ [])
HappenAll (event ∷ events) old new lines = Follows (λ from to own. Happens from event to own)
    (HappenAll events) old new lines

-- the next stages of a radio frame pass, of which so many are left
abbrev pub PassFrom : ℕ → Option Stage → LinkState → LinkState → List Line → Type 0
PassFrom left None old new lines = (new ≡ old) × (lines ≡ [])
PassFrom zero (Some stage) old new lines = ⊥
PassFrom (suc left) (Some stage) old new lines = Follows (AtStage stage)
    (PassFrom left (next_stage stage)) old new lines

-- all 20 stages pass, and then no damage waits
pub record PassesAll (old new : LinkState) (lines : List Line) : Type 0 where
  pub last : LinkState
  pub passes : PassFrom 20 (Some RncTick) old last lines
  pub over : new ≡ record last { damage = [] }

-- frame f of n: the units are offered, and the radio frame passes
abbrev pub PassesFrame : ℕ → ℕ → LinkState → LinkState → List Line → Type 0
PassesFrame n f old new lines = Follows (HappenAll (offered n f)) PassesAll old new lines

-- the first so many radio frames of a run of n pass, each with the SDUs before it
abbrev pub PassFrames : ℕ → ℕ → LinkState → LinkState → List Line → Type 0
PassFrames n zero old new lines = (new ≡ old) × (lines ≡ [])
PassFrames n (suc f) old new lines = Follows (PassFrames n f) (PassesFrame n f) old new lines

-- nodes that are opened for a configuration and a first CFN run through all n frames
abbrev pub Runs : Planned → ℕ → ℕ → LinkState → List Line → Type 0
Runs planned first n link lines = PassFrames n n (opened_link planned first) link lines
