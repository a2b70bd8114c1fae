-- What the calls of a combiner do.
use Rattle.std.specs.Prelude.{◌≡◌, ◌≢◌, ◌≤◌, ℕ, List, Option, Some, None, length, take, drop}
use Rattle.dch_types.specs.declared.channel.Dir.TheVariants.{Up}
use Rattle.dch_types.specs.declared.config.Config.{Config}
use Rattle.dch_accept.specs.HeldSets.{HeldSet}
use Rattle.dch_iub.specs.Answers.{IsCause}
use Rattle.dch_iub.specs.Forms.{IsReadForm}
use Rattle.dch_combine.specs.declared.error.CombineError.{CombineError}
use Rattle.dch_combine.specs.declared.error.CombineError.TheVariants.{Cfn, Frame}
use Rattle.dch_combine.specs.Combined.{IsBest, IsCombinedFrame, IsLowest}
use Rattle.dch_combine.specs.Legs.{LegFrame}

-- a frame of the set is valid, and has another CFN than was asked for
pub record IsOtherCfn (config : Config) (set cfn : ℕ) (octets : List ℕ) (other : ℕ) : Type 0 where
  pub held : HeldSet
  pub qe : ℕ
  pub read : IsReadForm config Up set octets other qe held
  pub differs : other ≢ cfn

-- the cause of each refusal of the frame of a leg
abbrev pub IsRefusal : Config → ℕ → ℕ → List ℕ → CombineError → Type 0
IsRefusal config set cfn octets (Frame error) = IsCause config Up set octets error
IsRefusal config set cfn octets (Cfn other) = IsOtherCfn config set cfn octets other

-- a frame of the set with this CFN was taken
pub record IsTakenFrame (config : Config) (set cfn : ℕ) (octets : List ℕ) (taken : Option LegFrame) : Type 0 where
  pub frame : LegFrame
  pub is : taken ≡ Some frame
  pub read : IsReadForm config Up set octets cfn frame.qe frame.held

-- a leg has the frame, and the other legs have what they had
pub record TakesLeg (config : Config) (set leg cfn : ℕ) (octets : List ℕ) (old new : ℕ → Option LegFrame) : Type 0 where
  pub taken : IsTakenFrame config set cfn octets (new leg)
  pub others : (k : ℕ) → k ≢ leg → new k ≡ old k

-- the first number of which a fact holds, or that there is none
abbrev pub FindsLowest : (ℕ → Type 0) → Option ℕ → Type 0
FindsLowest P None = (k : ℕ) → ¬ P k
FindsLowest P (Some k) = IsLowest P k

-- the best quality estimate, or that there is no frame
abbrev pub FindsBest : (ℕ → Option LegFrame) → Option ℕ → Type 0
FindsBest legs None = (k : ℕ) → legs k ≡ None
FindsBest legs (Some qe) = IsBest legs qe

-- the combined frame stands at the front, and what is behind it is as it was
pub record IsGiven (config : Config) (set cfn : ℕ) (legs : ℕ → Option LegFrame) (len : ℕ)
    (old new : List ℕ) : Type 0 where
  pub fits : len ≤ length new
  pub frame : IsCombinedFrame config set legs cfn (take len new)
  pub rest : drop len new ≡ drop len old

-- no leg has a frame, and nothing was written; or the combined frame was
abbrev pub Gives : Config → ℕ → ℕ → (ℕ → Option LegFrame) → List ℕ → List ℕ → Option ℕ → Type 0
Gives config set cfn legs old new None = ((k : ℕ) → legs k ≡ None) × (new ≡ old)
Gives config set cfn legs old new (Some len) = IsGiven config set cfn legs len old new
