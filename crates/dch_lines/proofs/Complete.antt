-- An input without faults, of good lines, is followed to its end.
use Rattle.std.proofs.Common.{◌≡◌, ◌⊎◌, ◌+◌, ◌≤◌, ◌++◌, ℕ, List, [], ◌∷◌, length, get_or, refl, ap, sym, ◌∙◌, inl, inr, append-nil, append_assoc, length-append, true, arith, IfSome, None, Some, ⊎_elim}
use Rattle.std.specs.Prelude.{All}
use Rattle.std.proofs.lemmas.Bool.{false≢true}
use Rattle.std.proofs.Math.Seq.{get_or-append_seam}
use Rattle.std.specs.declared.option.Option.{Option}
use Rattle.std.specs.Io.KnownBytes.{Consumes, IsAtEnd}
use Rattle.dch_io.specs.Causes.{Rose}
use Rattle.dch_io.specs.Ends.{End, span}
use Rattle.dch_script.specs.Lines.{lines_after, rest_after}
use Rattle.dch_script.specs.declared.event.LineError.{LineError}
use Rattle.dch_script.specs.declared.event.LineError.TheVariants.{Long}
use Rattle.dch_io.specs.Pieces.{LIMIT}
use Rattle.dch_lines.specs.Semantics.{Semantics, RefusesLong}
use Rattle.dch_lines.specs.Processor.{Progress}
use Rattle.dch_lines.specs.Followed.{FollowsInput, IsRefused}
use Rattle.dch_lines.specs.LineTexts.{IsFaulty, is_empty}
use Rattle.dch_lines.specs.declared.stop.LineFault.TheVariants.{Malformed}
use Rattle.dch_lines.specs.declared.stop.Outcome.{Outcome}
use Rattle.dch_lines.specs.declared.stop.Outcome.TheVariants.{Ok, Refused, ReadFault, WriteFault, NoMemory as Lacking, TooLong}
use Rattle.dch_lines.proofs.Parts.{lines_on, rest_on}
use Rattle.dch_lines.proofs.Steps.{overlong}

-- no state refuses a line that is good in this sense
abbrev pub TakesAll : {S : Type 0} → Semantics S → (List ℕ → Type 0) → Type 0
TakesAll {S} semantics IsGood = (state : S) (line : List ℕ) (why : LineError) → IsGood line → semantics.refuses state line why → ⊥

-- this state refuses no line that is good in this sense
abbrev pub TakesIn : {S : Type 0} → Semantics S → S → (List ℕ → Type 0) → Type 0
TakesIn semantics state IsGood = (line : List ℕ) (why : LineError) → IsGood line → semantics.refuses state line why → ⊥

-- what was taken of an input that is known
pub consumed : (input taken : List ℕ) (now : Option (List ℕ)) → Consumes (Some input) now taken → (rest : List ℕ) × (input ≡ taken ++ rest)
consumed input taken None takes = absurd takes
consumed input taken (Some rest) takes = (rest, takes)

pub all_consumed : (input taken : List ℕ) (now : Option (List ℕ)) → Consumes (Some input) now taken → IsAtEnd now → input ≡ taken
all_consumed input taken None takes end = absurd takes
all_consumed input taken (Some rest) takes end = takes ∙ ap (λ l. taken ++ l) end ∙ append-nil taken

-- a good list has no line that this state refuses
none_malformed : {S : Type 0} (semantics : Semantics S) (IsGood : List ℕ → Type 0) (state : S) (lines before later : List (List ℕ)) (line : List ℕ) (why : LineError) → TakesIn semantics state IsGood → All (λ line. (is_empty line ≡ true) ⊎ IsGood line) lines → lines ≡ before ++ (line ∷ later)
    → IsFaulty semantics state line (Malformed why) → ⊥
none_malformed semantics IsGood state lines before later line why takes good same faulty =
    let there : All (λ line. (is_empty line ≡ true) ⊎ IsGood line) (before ++ (line ∷ later)) = rw same at good in
    let here = there (length before) [] (omega (arith, length-append before (line ∷ later))) in
    let at : get_or (before ++ (line ∷ later)) (length before) [] ≡ line = get_or-append_seam before line later [] in
    let this : (is_empty line ≡ true) ⊎ IsGood line = rw at at here in
    ⊎_elim (λ empty. false≢true (sym faulty.words ∙ empty)) (λ ok. takes line why ok faulty.cause) this

-- an input of whole lines is refused for none, where no line of it that follows the good ones is refused in their state
pub none_refused : {S : Type 0} (semantics : Semantics S) (source : End) (state : S) (begun input taken more : List ℕ) (good : List (List ℕ)) (why : LineError) → RefusesLong semantics → input ≡ taken ++ more → (IsAtEnd source.now → input ≡ taken) → rest_after begun input ≡ []
    → ((later : List (List ℕ)) (line : List ℕ) (reason : LineError) → lines_after begun input ≡ good ++ (line ∷ later) → IsFaulty semantics state line (Malformed reason) → ⊥)
    → IsRefused semantics source state begun taken good why → ⊥
none_refused semantics source state begun input taken more good why strict cut all ended none refused =
    let held : List ℕ = rest_after begun taken in
    let before : List (List ℕ) = lines_after begun taken in
    let lines : lines_after begun input ≡ before ++ lines_after held more = ap (λ l. lines_after begun l) cut ∙ lines_on begun held taken more refl in
    let rest : rest_after begun input ≡ rest_after held more = ap (λ l. rest_after begun l) cut ∙ rest_on begun held taken more refl in
    ⊎_elim
    (λ meets. ⊎_elim
    (λ m. none (m.later ++ lines_after held more) m.line why (lines ∙ ap (λ l. l ++ lines_after held more) m.lines ∙ append_assoc good (m.line ∷ m.later) (lines_after held more)) m.faulty)
    (λ over. ⊎_elim
    (λ m. none m.later m.line Long (lines ∙ ap (λ l. before ++ l) m.lines ∙ ap (λ l. l ++ (m.line ∷ m.later)) over.1.lines) m.faulty)
    (λ m. let empty : rest_after held more ≡ [] = sym rest ∙ ended in absurd (omega (arith, m.long, ap length empty)))
    (overlong semantics state held more strict over.1.long))
    meets)
    (λ off. let empty : held ≡ [] = sym (ap (λ l. rest_after begun l) (all off.1.end)) ∙ ended in absurd (omega (arith, off.1.some, ap length empty)))
    refused

pub refused_none : {S : Type 0} (semantics : Semantics S) (IsGood : List ℕ → Type 0) (source : End) (state : S) (begun input taken more : List ℕ) (good : List (List ℕ)) (why : LineError) → RefusesLong semantics → TakesIn semantics state IsGood → input ≡ taken ++ more → (IsAtEnd source.now → input ≡ taken)
    → All (λ line. (is_empty line ≡ true) ⊎ IsGood line) (lines_after begun input) → rest_after begun input ≡ [] → IsRefused semantics source state begun taken good why → ⊥
refused_none semantics IsGood source state begun input taken more good why strict takes cut all lines_good ended refused =
    none_refused semantics source state begun input taken more good why strict cut all ended (λ later line reason lines faulty. none_malformed semantics IsGood state (lines_after begun input) good later line reason takes lines_good lines faulty) refused

pub completes : {S : Type 0} (semantics : Semantics S) (IsGood : List ℕ → Type 0) (before now k l : Option (List ℕ)) (f g h i : ℕ) (old : Progress S) (state : S) (part : List ℕ) (outcome : Outcome) → RefusesLong semantics → TakesAll semantics IsGood
    → FollowsInput semantics (span before now f g) (span k l h i) old state part outcome
    → IfSome before (λ input. All (λ line. (is_empty line ≡ true) ⊎ IsGood line) (lines_after old.line (part ++ input)) → rest_after old.line (part ++ input) ≡ [] → old.bytes + length (part ++ input) ≤ LIMIT → ¬ Rose f g → ¬ Rose h i → (outcome ≡ Ok) ⊎ (outcome ≡ Lacking))
completes semantics IsGood None now k l f g h i old state part outcome strict takes run = tt
completes semantics IsGood (Some input) now k l f g h i old state part Ok strict takes run = λ good rest size s t. inl refl
completes semantics IsGood (Some input) now k l f g h i old state part Lacking strict takes run = λ good rest size s t. inr refl
completes semantics IsGood (Some input) now k l f g h i old state part ReadFault strict takes run = λ good rest size s t. absurd (s run.answers.fails)
completes semantics IsGood (Some input) now k l f g h i old state part WriteFault strict takes run = λ good rest size s t. absurd (t run.answers.fails)
completes semantics IsGood (Some input) now k l f g h i old state part TooLong strict takes run = λ good rest size s t.
    let more = consumed input run.taken now run.takes in
    absurd (omega (arith, run.answers.long, ap length more.1, length-append run.taken more.0, length-append part input, length-append part run.taken))
completes semantics IsGood (Some input) now k l f g h i old state part Refused strict takes run = λ good rest size s t.
    let more = consumed input run.taken now run.takes in
    let cut : part ++ input ≡ part ++ run.taken ++ more.0 = ap (λ l. part ++ l) more.1 ∙ sym (append_assoc part run.taken more.0) in
    let all : IsAtEnd now → part ++ input ≡ part ++ run.taken = λ end. ap (λ l. part ++ l) (all_consumed input run.taken now run.takes end) in
    absurd (refused_none semantics IsGood (span (Some input) now f g) run.answers.state old.line (part ++ input) (part ++ run.taken) more.0 run.answers.good run.answers.why strict (takes run.answers.state) cut all good rest run.answers.refused)

-- no line wants memory
pub never_lacks : {S : Type 0} (semantics : Semantics S) (source sink : End) (old : Progress S) (state : S) (part : List ℕ) → ((state : S) (line : List ℕ) → semantics.wants_memory state line → ⊥) → FollowsInput semantics source sink old state part Lacking → ⊥
never_lacks semantics source sink old state part none run = none run.answers.state run.answers.lacks.line run.answers.lacks.faulty.cause
