-- A text with a configuration, and maybe a second one behind it that is active from a radio frame on.
use Rattle.std.specs.Prelude.{◌≡◌, ◌≤◌, ◌⊎◌, ◌%◌, ◌==◌, ℕ, List, [], ◌∷◌, Bool, true, false, Option, Some, None, codes, decimal, drop, option_map, string_bytes, if◌then◌else◌}
use Rattle.std.specs.List.{before_first, after_first}
use Rattle.dch_config.specs.Changes.{KeepsBearer, IsFirstChanged}
use Rattle.dch_accept.specs.Answers.{count_of}
use Rattle.dch_accept.specs.Plans.{Planned}
use Rattle.dch_check.specs.Acceptance.{accepted_lines}
use Rattle.dch_check.specs.Refusals.{of_bearer}
use Rattle.dch_check.specs.Singles.{first_of, has_second, sets_apart}
use Rattle.dch_check.specs.Verdicts.{IsAcceptedAs, Refuses, RefusesAs}
use Rattle.dch_check.specs.declared.both.Configurations.{Configurations}
use Rattle.dch_check.specs.declared.both.Judgement.{Judgement}
use Rattle.dch_check.specs.declared.both.Judgement.TheVariants.{Accepted, Refused}
use Rattle.dch_check.specs.declared.both.Second.{Second}
use Rattle.dch_check.specs.declared.which.Which.TheVariants as which

-- what stands behind `--- ` in the line that sets a second configuration apart, and in the lines after it
abbrev pub behind_mark : Bool → List ℕ → List ℕ
behind_mark begins [] = []
behind_mark begins (c ∷ text) = if sets_apart begins (c ∷ text) then drop 4 (c ∷ text) else behind_mark (c == 10) text

abbrev pub is_feed : ℕ → Bool
is_feed c = c == 10

-- the word in that line, and the second configuration: all lines after it
abbrev pub frame_word : List ℕ → List ℕ
frame_word text = before_first is_feed (behind_mark true text)

abbrev pub second_of : List ℕ → List ℕ
second_of text = after_first is_feed (behind_mark true text)

-- a word names a radio frame from which a second configuration may be active
pub record IsChangeFrame (word : List ℕ) (frame : ℕ) : Type 0 where
  pub text : word ≡ decimal frame
  pub least : 8 ≤ frame
  pub most : frame ≤ 100000
  pub whole : frame % 8 ≡ 0

-- a second configuration stands behind the first one, and is to be active from this frame on
pub record IsFrom (text : List ℕ) (frame : ℕ) : Type 0 where
  pub there : has_second text ≡ true
  pub named : IsChangeFrame (frame_word text) frame

-- a text is accepted as a configuration that can follow the first one
pub record CanFollow (text : List ℕ) (first accepted : Planned) : Type 0 where
  pub good : IsAcceptedAs text accepted
  pub kept : (b : ℕ) → KeepsBearer first.config accepted.config b

-- the second configuration of a text, if there is one
abbrev pub IsSecond : List ℕ → Planned → Option Second → Type 0
IsSecond text first None = has_second text ≡ false
IsSecond text first (Some second) = IsFrom text second.frame × CanFollow (second_of text) first second.accepted

-- the configurations of a text are accepted, and these are they
pub record AreAcceptedAs (text : List ℕ) (accepted : Configurations) : Type 0 where
  pub first : IsAcceptedAs (first_of text) accepted.first
  pub second : IsSecond text accepted.first accepted.second

-- both configurations of a text are accepted, where it has two, and these are the lines that say so
pub record AreAccepted (text lines : List ℕ) : Type 0 where
  pub configurations : Configurations
  pub accepted : AreAcceptedAs text configurations
  pub shown : lines ≡ accepted_lines (count_of configurations.first.config)
      (option_map (λ second. count_of second.accepted.config) configurations.second)

-- a text is accepted as a configuration in which a bearer doesn't go on, and this line names the first one
pub record IsChangeRefused (text : List ℕ) (first : Planned) (line : List ℕ) : Type 0 where
  pub second : Planned
  pub accepted : IsAcceptedAs text second
  pub bearer : ℕ
  pub changes : IsFirstChanged first.config second.config bearer
  pub shown : line ≡ of_bearer which.First 29 bearer

-- a text is refused by this line as the second configuration: for itself, or behind the first one
abbrev pub RefusesSecond : List ℕ → Planned → List ℕ → Type 0
RefusesSecond text first line = RefusesAs which.Second text line ⊎ IsChangeRefused text first line

-- a second configuration stands behind the first one, but from no frame
pub record LacksFrame (text line : List ℕ) : Type 0 where
  pub there : has_second text ≡ true
  pub none : (frame : ℕ) → ¬ IsChangeFrame (frame_word text) frame
  pub shown : line ≡ codes "refused 28\n"

-- it is to be active from a frame, and is refused
pub record IsSecondRefusedFrom (text : List ℕ) (first : Planned) (line : List ℕ) : Type 0 where
  pub frame : ℕ
  pub from : IsFrom text frame
  pub refuses : RefusesSecond (second_of text) first line

-- what stands behind a first configuration that is accepted is refused by this line
pub record IsRefusedBehind (text line : List ℕ) : Type 0 where
  pub first : Planned
  pub accepted : IsAcceptedAs (first_of text) first
  pub refuses : LacksFrame text line ⊎ IsSecondRefusedFrom text first line

-- a text is refused by this line: for its first configuration, or for what stands behind it
abbrev pub RefusesBoth : List ℕ → List ℕ → Type 0
RefusesBoth text line = Refuses (first_of text) line ⊎ IsRefusedBehind text line

-- the judgement of a text that may have a second configuration: what is accepted, or the line that refuses it
abbrev pub JudgesBoth : List ℕ → Judgement → Type 0
JudgesBoth text (Accepted accepted) = AreAcceptedAs text accepted
JudgesBoth text (Refused line) = RefusesBoth text (string_bytes line)

-- the judgement of the text of a second configuration, behind a first one that is accepted
abbrev pub JudgesSecond : List ℕ → Planned → ℕ → Judgement → Type 0
JudgesSecond text first frame (Accepted accepted) = (second : Planned)
    × (accepted ≡ record { first = first; second = Some (record { frame = frame; accepted = second }) })
    × CanFollow text first second
JudgesSecond text first frame (Refused line) = RefusesSecond text first (string_bytes line)
