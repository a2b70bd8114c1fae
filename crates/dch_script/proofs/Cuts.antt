-- A text cut at its first space.
use Rattle.std.proofs.Common.{◌≡◌, ◌+◌, ℕ, zero, suc, List, [], ◌∷◌, ◌++◌, Option, None, Some, true, false, take, drop, arith, refl, ap, ◌∙◌, append_assoc, append-nil}
use Rattle.std.specs.Prelude.{◌==◌, Err, if◌then◌else◌}
use Rattle.std.proofs.lemmas.Bool.{false_from_ne_true}
use Rattle.memchr.specs.Find.{IsFirstByte, is_byte}
use Rattle.dch_script.specs.declared.event.LineError.TheVariants.{Count}
use Rattle.dch_script.specs.Code.{code_words}
use Rattle.dch_script.specs.Forms.{alone, one}
use Rattle.dch_script.specs.ParsedLine.{ParsedLine}
use Rattle.dch_script.specs.LineWords.{words_from, words_of}

-- the words of a text after the front of its first word, cut at its first space
abbrev cut_at : List ℕ → List ℕ → Option ℕ → List (List ℕ)
cut_at front text None = (front ++ text) ∷ []
cut_at front text (Some at) = (front ++ take at text) ∷ words_of (drop (at + 1) text)

pub words_cut : (front text : List ℕ) (r : Option ℕ) → IsFirstByte (is_byte 32) text r → words_from front text ≡ cut_at front text r
words_cut front [] None first = rw append-nil refl
words_cut front [] (Some at) first = absurd (omega (arith, first.0.high))
words_cut front (c ∷ text) None first =
    let miss : (c == 32) ≡ false = false_from_ne_true (c == 32) (first 0 (omega arith) (omega arith)) in
    rw miss (words_cut (front ++ c ∷ []) text None (λ k low high. first (suc k) (omega arith) (omega arith)) ∙ ap (λ l. l ∷ []) (append_assoc front (c ∷ []) text))
words_cut front (c ∷ text) (Some zero) first = rw (first.1, append-nil) refl
words_cut front (c ∷ text) (Some (suc at)) first =
    let miss : (c == 32) ≡ false = false_from_ne_true (c == 32) (first.0.before 0 (omega arith) (omega arith)) in
    let here : IsFirstByte (is_byte 32) text (Some at) = (record { low = omega arith; high = omega (arith, first.0.high); before = λ k low high. first.0.before (suc k) (omega arith) (omega arith) }, first.1) in
    let step : suc at + 1 ≡ suc (at + 1) = omega arith in
    rw (miss, step) (words_cut (front ++ c ∷ []) text (Some at) here ∙ ap (λ l. l ∷ words_of (drop (at + 1) text)) (append_assoc front (c ∷ []) (take at text)))

-- a text has a word, so that with three words before it there are too many
pub too_many : (a b d front text : List ℕ) → code_words (a ∷ (b ∷ (d ∷ words_from front text))) ≡ Err Count
too_many a b d front [] = refl
too_many a b d front (c ∷ text) =
    elim (c == 32) as (λ t. code_words (a ∷ (b ∷ (d ∷ (if t then front ∷ words_from [] text else words_from (front ++ c ∷ []) text)))) ≡ Err Count)
    [ true ↦ refl | false ↦ too_many a b d (front ++ c ∷ []) text ]

-- a text has a word, so that a form without further words is refused before it, and one of one word after another
pub not_alone : (parsed : ParsedLine) (front text : List ℕ) → alone parsed (words_from front text) ≡ Err Count
not_alone parsed front [] = refl
not_alone parsed front (c ∷ text) =
    elim (c == 32) as (λ t. alone parsed (if t then front ∷ words_from [] text else words_from (front ++ c ∷ []) text) ≡ Err Count)
    [ true ↦ refl | false ↦ not_alone parsed (front ++ c ∷ []) text ]

pub not_one : (a front text : List ℕ) → one (a ∷ words_from front text) ≡ Err Count
not_one a front [] = refl
not_one a front (c ∷ text) =
    elim (c == 32) as (λ t. one (a ∷ (if t then front ∷ words_from [] text else words_from (front ++ c ∷ []) text)) ≡ Err Count)
    [ true ↦ refl | false ↦ not_one a (front ++ c ∷ []) text ]
