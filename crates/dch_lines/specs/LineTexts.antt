-- The text that lines add to a report, and the line that refuses one.
use Rattle.std.specs.Prelude.{◌≡◌, ◌⊎◌, ◌+◌, ℕ, List, [], ◌∷◌, ◌++◌, Bool, false, not, MatchBool, codes, count_by, decimal}
use Rattle.std.specs.Str.{bytes_eq}
use Rattle.dch_script.specs.declared.event.LineError.{LineError}
use Rattle.dch_script.specs.declared.event.LineError.TheVariants.{Long, Cut, Word, Count, Number, Text, Bearer, When}
use Rattle.dch_lines.specs.Semantics.{Semantics, IsFault}
use Rattle.dch_lines.specs.declared.stop.LineFault.{LineFault}

-- a line without words, which is passed over
abbrev pub is_empty : List ℕ → Bool
is_empty line = bytes_eq line (codes "\n")

-- what a good line does to the state, and adds to the text
abbrev pub HandlesLine : {S : Type 0} → Semantics S → S → List ℕ → S → List ℕ → Type 0
HandlesLine semantics old line new text = MatchBool (is_empty line) ((new ≡ old) × (text ≡ []))
    (semantics.handles old line new text)

-- what good lines do, one after another
abbrev pub HandlesLines : {S : Type 0} → Semantics S → S → List (List ℕ) → S → List ℕ → Type 0
HandlesLines semantics old [] new text = (new ≡ old) × (text ≡ [])
HandlesLines {S} semantics old (line ∷ lines) new text = (mid : S)
    × ((first : List ℕ) × ((rest : List ℕ) × (HandlesLine semantics old line mid first
    × HandlesLines semantics mid lines new rest × (text ≡ first ++ rest))))

-- a part of what a line that isn't empty does
pub record BeginsLine {S : Type 0} (semantics : Semantics S) (old : S) (line : List ℕ) (new : S) (text : List ℕ) : Type 0 where
  pub words : is_empty line ≡ false
  pub begins : semantics.begins old line new text

-- what good lines do up to the last one, and a part of what that one does
pub record BeginsLast {S : Type 0} (semantics : Semantics S) (old : S) (lines : List (List ℕ)) (new : S) (text : List ℕ) : Type 0 where
  pub before : List (List ℕ)
  pub line : List ℕ
  pub ends : lines ≡ before ++ (line ∷ [])
  pub state : S
  pub done : List ℕ
  pub handles : HandlesLines semantics old before state done
  pub more : List ℕ
  pub begins : BeginsLine semantics state line new more
  pub whole : text ≡ done ++ more

-- what good lines do, the last of them maybe done in part
abbrev pub HandlesFront : {S : Type 0} → Semantics S → S → List (List ℕ) → S → List ℕ → Type 0
HandlesFront semantics old lines new text = HandlesLines semantics old lines new text
    ⊎ BeginsLast semantics old lines new text

-- how many lines aren't empty
abbrev pub nonempty_lines : List (List ℕ) → ℕ
nonempty_lines lines = count_by (λ line. not (is_empty line)) lines

-- a line that isn't empty and is not handled in this state, for this fault
pub record IsFaulty {S : Type 0} (semantics : Semantics S) (state : S) (line : List ℕ) (fault : LineFault) : Type 0 where
  pub words : is_empty line ≡ false
  pub cause : IsFault semantics state line fault

abbrev pub reason : LineError → List ℕ
reason Long = codes "long"
reason Cut = codes "cut"
reason Word = codes "word"
reason Count = codes "count"
reason Number = codes "number"
reason Text = codes "text"
reason Bearer = codes "bearer"
reason When = codes "when"

-- the line `refused` for a malformed line after so many others
unfoldable pub refusal : ℕ → LineError → List ℕ
refusal before why = codes "refused 50 line=" ++ decimal (before + 1) ++ codes " why=" ++ reason why ++ codes "\n"

-- the last line of a run whose lines were all good, in which so many radio frames have passed
unfoldable pub closing : ℕ → List ℕ
closing count = codes "end frames=" ++ decimal count ++ codes "\n"
