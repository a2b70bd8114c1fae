-- A text in which no second configuration may stand.
use Rattle.std.specs.Prelude.{◌≡◌, ◌≤◌, ◌⊎◌, ◌==◌, ◌&&◌, ◌||◌, ℕ, List, [], ◌∷◌, Bool, true, false, codes, length, take, nat_eq, string_bytes, if◌then◌else◌}
use Rattle.std.specs.List.{starts_with}
use Rattle.dch_check.specs.Verdicts.{IsAccepted, IsAcceptedAs, Refuses}
use Rattle.dch_check.specs.declared.verdict.Verdict.{Verdict}
use Rattle.dch_check.specs.declared.verdict.Verdict.TheVariants.{Accepted, Refused}

-- a line that sets a second configuration apart begins with `--- `; it begins here, where a line begins here at all
abbrev pub sets_apart : Bool → List ℕ → Bool
sets_apart begins text = begins && starts_with nat_eq text (codes "--- ")

-- the text before such a line
abbrev pub before_second : Bool → List ℕ → List ℕ
before_second begins [] = []
before_second begins (c ∷ text) = if sets_apart begins (c ∷ text) then [] else c ∷ before_second (c == 10) text

abbrev pub meets_second : Bool → List ℕ → Bool
meets_second begins [] = false
meets_second begins (c ∷ text) = sets_apart begins (c ∷ text) || meets_second (c == 10) text

-- the first configuration: all of the text, where no line sets a second one apart
abbrev pub first_of : List ℕ → List ℕ
first_of text = before_second true text

abbrev pub has_second : List ℕ → Bool
has_second text = meets_second true text

-- the first line that sets a second configuration apart begins at this byte
pub record IsSecondAt (text : List ℕ) (at : ℕ) : Type 0 where
  pub within : at ≤ length text
  pub first : first_of text ≡ take at text
  pub second : has_second text ≡ true

-- the first configuration is accepted, a second one stands behind it, and this line refuses that
pub record IsSecondRefused (text line : List ℕ) : Type 0 where
  pub second : has_second text ≡ true
  pub first : List ℕ
  pub accepted : IsAccepted (first_of text) first
  pub shown : line ≡ codes "refused 28\n"

-- a text is refused by this line: for its first configuration, or for the second
abbrev pub RefusesSingle : List ℕ → List ℕ → Type 0
RefusesSingle text line = Refuses (first_of text) line ⊎ IsSecondRefused text line

-- the judgement of a text in which no second configuration may stand
abbrev pub JudgesSingle : List ℕ → Verdict → Type 0
JudgesSingle text (Accepted accepted) = IsAcceptedAs text accepted × (has_second text ≡ false)
JudgesSingle text (Refused line) = RefusesSingle text (string_bytes line)
