-- What has come of a configuration, piece by piece.
use Rattle.std.proofs.Common.{◌≡◌, ◌+◌, ℕ, zero, suc, arith, List, [], ◌∷◌, ◌++◌, Bool, true, false, None, Some, take, drop, refl, ap, sym, ◌∙◌, append_assoc, append-nil}
use Rattle.std.specs.Prelude.{◌==◌, ◌||◌, if◌then◌else◌}
use Rattle.std.proofs.lemmas.Bool.{false_from_ne_true}
use Rattle.std.proofs.lemmas.List.{take-append-drop}
use Rattle.memchr.specs.Find.{IsFirstByte, is_byte}
use Rattle.dch_script.specs.Lines.{lines_after, rest_after, lines_of, rest_of}
use Rattle.dch_script.proofs.Lines.{lines_after-append, rest_after-append, no_feed, one_feed}
use Rattle.dch_check.specs.ConfigSection.{Gathered, behind, behind_separator, configuration_of, section_of, gathered, has_separator, is_complete, is_separator, nothing, settled, with_line}

-- the text before the line `---` of some lines and others
pub section_of-append : (a b : List (List ℕ)) → section_of (a ++ b) ≡ section_of a ++ (if has_separator a then [] else section_of b)
section_of-append [] b = refl
section_of-append (line ∷ a) b =
    elim (is_separator line) as (λ t. (if t then [] else line ++ section_of (a ++ b)) ≡ (if t then [] else line ++ section_of a) ++ (if (t || has_separator a) then [] else section_of b))
    [ true ↦ refl | false ↦ ap (λ l. line ++ l) (section_of-append a b) ∙ sym (append_assoc line (section_of a) (if has_separator a then [] else section_of b)) ]

pub has_separator-append : (a b : List (List ℕ)) → has_separator (a ++ b) ≡ (has_separator a || has_separator b)
has_separator-append [] b = refl
has_separator-append (line ∷ a) b =
    elim (is_separator line) as (λ t. (t || has_separator (a ++ b)) ≡ ((t || has_separator a) || has_separator b))
    [ true ↦ refl | false ↦ has_separator-append a b ]

-- what comes after some lines, where the line `---` is among them or not
lines_later : (text front rest bytes : List ℕ) (marked : Bool)
    → gathered (record { text = text ++ front; line = if marked then [] else rest; complete = marked }) bytes
    ≡ record {
      text = text ++ front ++ (if marked then [] else section_of (lines_after rest bytes));
      line = if (marked || has_separator (lines_after rest bytes)) then [] else rest_after rest bytes;
      complete = marked || has_separator (lines_after rest bytes);
    }
lines_later text front rest bytes true =
    let with_text : List ℕ → Gathered = λ l. record { text = l; line = []; complete = true } in
    ap with_text (sym (append-nil (text ++ front)))
lines_later text front rest bytes false = refl

gathered_parts : (text line : List ℕ) (complete : Bool) (a b : List ℕ)
    → gathered (gathered (record { text = text; line = line; complete = complete }) a) b
    ≡ gathered (record { text = text; line = line; complete = complete }) (a ++ b)
gathered_parts text line true a b = refl
gathered_parts text line false a b =
    let first : List (List ℕ) = lines_after line a in
    let rest : List ℕ = rest_after line a in
    let next : List (List ℕ) = lines_after rest b in
    rw (lines_after-append line a b, rest_after-append line a b, section_of-append first next, has_separator-append first next)
    (rw (← append_assoc text (section_of first) (if has_separator first then [] else section_of next)) (lines_later text (section_of first) rest b (has_separator first)))

-- some bytes and then others
pub gathered_on : (old : Gathered) (a b : List ℕ) → gathered (gathered old a) b ≡ gathered old (a ++ b)
gathered_on old a b = gathered_parts old.text old.line old.complete a b

-- nothing more counts
pub gathered_done : (old : Gathered) (left : List ℕ) → old.complete ≡ true → gathered old left ≡ old
gathered_done old left done = rw done refl

pub gathered_nil : (old : Gathered) → gathered old [] ≡ old
gathered_nil old = nil old.text old.line old.complete
  where
    nil : (text line : List ℕ) (complete : Bool) → gathered (record { text = text; line = line; complete = complete }) [] ≡ record { text = text; line = line; complete = complete }
    nil text line true = refl
    nil text line false =
        let with_text : List ℕ → Gathered = λ l. record { text = l; line = line; complete = false } in
        ap with_text (append-nil text)

-- the line that has begun ends
abbrev ended : (text line : List ℕ) (marked : Bool) → Gathered
ended text line marked = if marked then record { text = text; line = []; complete = true } else record { text = text ++ line; line = []; complete = false }

one_line : (text line : List ℕ) (marked : Bool)
    → ended text line marked ≡ record { text = text ++ (if marked then [] else line ++ []); line = if (marked || false) then [] else []; complete = marked || false }
one_line text line true =
    let with_text : List ℕ → Gathered = λ l. record { text = l; line = []; complete = true } in
    ap with_text (sym (append-nil text))
one_line text line false =
    let with_text : List ℕ → Gathered = λ l. record { text = text ++ l; line = []; complete = false } in
    ap with_text (sym (append-nil line))

-- a part that ends the line that has begun
pub gathered_feed : (old : Gathered) (bytes : List ℕ) (at : ℕ) → old.complete ≡ false → IsFirstByte (is_byte 10) bytes (Some at)
    → gathered (with_line (record old { line = old.line ++ take (at + 1) bytes })) (drop (at + 1) bytes) ≡ gathered old bytes
gathered_feed old bytes at going first =
    let part : List ℕ = take (at + 1) bytes in
    let ends = one_feed old.line bytes at first in
    let line : List ℕ = old.line ++ part in
    let whole : gathered old part ≡ with_line (record old { line = line }) = rw (going, ends.0, ends.1) (sym (one_line old.text line (is_separator line))) in
    let left : List ℕ = drop (at + 1) bytes in
    ap (λ (s : Gathered). gathered s left) (sym whole) ∙ gathered_on old part left ∙ ap (gathered old) (take-append-drop (at + 1) bytes)

-- bytes in which the line that has begun goes on
pub gathered_rest : (old : Gathered) (bytes : List ℕ) → old.complete ≡ false → IsFirstByte (is_byte 10) bytes None
    → gathered (record old { line = old.line ++ bytes }) [] ≡ gathered old bytes
gathered_rest old bytes going none =
    let goes = no_feed old.line bytes none in
    rw (going, goes.0, goes.1) refl

-- the text of the configuration, where all bytes have come
pub settled_all : (bytes : List ℕ) → settled (gathered nothing bytes) ≡ configuration_of bytes
settled_all bytes = rw (section_of-append (lines_of bytes) (rest_of bytes ∷ [])) (same (section_of (lines_of bytes)) (rest_of bytes) (has_separator (lines_of bytes)))
  where
    same : (front rest : List ℕ) (marked : Bool) → front ++ section_of ((if marked then [] else rest) ∷ []) ≡ front ++ (if marked then [] else section_of (rest ∷ []))
    same front rest true = refl
    same front rest false = refl

-- what follows the line `---` is no part of the configuration
pub complete_more : (a b : List ℕ) → is_complete a ≡ true → is_complete (a ++ b) ≡ true
complete_more a b done =
    let first : List (List ℕ) = lines_of a in
    let next : List (List ℕ) = lines_after (rest_of a) b in
    rw (lines_after-append [] a b, has_separator-append first next, done) refl

pub configuration_more : (a b : List ℕ) → is_complete a ≡ true → configuration_of (a ++ b) ≡ configuration_of a
configuration_more a b done =
    let first : List (List ℕ) = lines_of a in
    let next : List (List ℕ) = lines_after (rest_of a) b in
    let last : List (List ℕ) = rest_of (a ++ b) ∷ [] in
    let whole : configuration_of (a ++ b) ≡ section_of (first ++ (next ++ last)) = ap (λ l. section_of (l ++ last)) (lines_after-append [] a b) ∙ ap section_of (append_assoc first next last) in
    whole ∙ section_of-append first (next ++ last) ∙ rw (section_of-append first (rest_of a ∷ []), done) refl

-- a part that ends the line that has begun: what follows it is left, where that line is `---`
behind_end : (text line left : List ℕ) (marked : Bool) → behind (ended text line marked) left ≡ (if marked then left else behind_separator [] left)
behind_end text line left true = refl
behind_end text line left false = refl

behind_part : (begun bytes : List ℕ) (at : ℕ) → IsFirstByte (is_byte 10) bytes (Some at)
    → behind_separator begun bytes ≡ (if is_separator (begun ++ take (at + 1) bytes) then drop (at + 1) bytes else behind_separator [] (drop (at + 1) bytes))
behind_part begun [] at first = absurd (omega (arith, first.0.high))
behind_part begun (c ∷ bytes) zero first = rw first.1 refl
behind_part begun (c ∷ bytes) (suc at) first =
    let miss : (c == 10) ≡ false = false_from_ne_true (c == 10) (first.0.before 0 (omega arith) (omega arith)) in
    let here : IsFirstByte (is_byte 10) bytes (Some at) = (record { low = omega arith; high = omega (arith, first.0.high); before = λ k low high. first.0.before (suc k) (omega arith) (omega arith) }, first.1) in
    let step : suc at + 1 ≡ suc (at + 1) = omega arith in
    rw (miss, step) (behind_part (begun ++ c ∷ []) bytes at here ∙ ap (λ l. if is_separator l then drop (at + 1) bytes else behind_separator [] (drop (at + 1) bytes)) (append_assoc begun (c ∷ []) (take (at + 1) bytes)))

pub behind_feed : (old : Gathered) (bytes : List ℕ) (at : ℕ) → old.complete ≡ false → IsFirstByte (is_byte 10) bytes (Some at)
    → behind (with_line (record old { line = old.line ++ take (at + 1) bytes })) (drop (at + 1) bytes) ≡ behind old bytes
behind_feed old bytes at going first =
    let line : List ℕ = old.line ++ take (at + 1) bytes in
    rw going (behind_end old.text line (drop (at + 1) bytes) (is_separator line) ∙ sym (behind_part old.line bytes at first))

-- bytes in which the line that has begun goes on
behind_none : (begun bytes : List ℕ) → IsFirstByte (is_byte 10) bytes None → behind_separator begun bytes ≡ []
behind_none begun [] none = refl
behind_none begun (c ∷ bytes) none =
    let miss : (c == 10) ≡ false = false_from_ne_true (c == 10) (none 0 (omega arith) (omega arith)) in
    rw miss (behind_none (begun ++ c ∷ []) bytes (λ k low high. none (suc k) (omega arith) (omega arith)))

pub behind_rest : (old : Gathered) (bytes : List ℕ) → old.complete ≡ false → IsFirstByte (is_byte 10) bytes None
    → behind (record old { line = old.line ++ bytes }) [] ≡ behind old bytes
behind_rest old bytes going none = rw going (sym (behind_none old.line bytes none))
