-- Lines that are done step by step.
use Rattle.std.specs.Prelude.{◌≡◌, ◌<◌, ◌+◌, ℕ, zero, suc, List, [], ◌++◌, Option, Some, None}

-- the first step of a line takes one state to another and adds a text; so many steps of it are left then, and each does
-- so too
pub record Stepped (S : Type 0) : Type 1 where
  pub handles : S → List ℕ → S → List ℕ → Type 0
  pub remaining : S → ℕ
  pub resumes : S → S → List ℕ → Type 0

-- so many steps, one after another
abbrev pub Resumes : {S : Type 0} → Stepped S → ℕ → S → S → List ℕ → Type 0
Resumes steps zero old new text = (new ≡ old) × (text ≡ [])
Resumes {S} steps (suc count) old new text = (mid : S)
    × ((front : List ℕ) × ((last : List ℕ) × (Resumes steps count old mid front × steps.resumes mid new last
    × (text ≡ front ++ last))))

-- all steps of a line
pub record LineSteps {S : Type 0} (steps : Stepped S) (old : S) (line : List ℕ) (new : S) (text : List ℕ) : Type 0 where
  pub mid : S
  pub first : List ℕ
  pub handles : steps.handles old line mid first
  pub rest : List ℕ
  pub resumes : Resumes steps (steps.remaining mid) mid new rest
  pub whole : text ≡ first ++ rest

-- a part of a line: its first step, and some of those that are left then but not all, behind which it is left off
pub record LineFront {S : Type 0} (steps : Stepped S) (LeavesOff : S → S → Type 0) (old : S) (line : List ℕ) (new : S)
    (text : List ℕ) : Type 0 where
  pub mid : S
  pub first : List ℕ
  pub handles : steps.handles old line mid first
  pub count : ℕ
  pub few : count < steps.remaining mid
  pub last : S
  pub rest : List ℕ
  pub resumes : Resumes steps count mid last rest
  pub front : text ≡ first ++ rest
  pub ends : LeavesOff last new

-- behind a stage of a radio frame the next one is on; or else the first one of the next radio frame, and one less is
-- left
abbrev pub GoesBy : {A : Type 0} → A → Option A → ℕ → A → ℕ → Type 0
GoesBy first (Some next) left stage now = (stage ≡ next) × (now ≡ left)
GoesBy first None left stage now = (stage ≡ first) × (now + 1 ≡ left)
