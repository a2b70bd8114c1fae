-- The lines of bytes in parts.
use Rattle.std.proofs.Common.{◌≡◌, ◌+◌, ℕ, zero, suc, List, [], ◌∷◌, ◌++◌, None, Some, true, false, take, arith, refl, ap, sym, ◌∙◌, append_assoc, append-nil}
use Rattle.std.specs.Prelude.{◌==◌, if◌then◌else◌}
use Rattle.std.proofs.lemmas.Bool.{false_from_ne_true}
use Rattle.memchr.specs.Find.{IsFirstByte, is_byte}
use Rattle.dch_script.specs.Lines.{lines_after, rest_after}

-- bytes after others
pub lines_after-append : (begun xs ys : List ℕ) → lines_after begun (xs ++ ys) ≡ lines_after begun xs ++ lines_after (rest_after begun xs) ys
lines_after-append begun [] ys = refl
lines_after-append begun (x ∷ xs) ys =
    elim (x == 10) as (λ t. (if t then (begun ++ x ∷ []) ∷ lines_after [] (xs ++ ys) else lines_after (begun ++ x ∷ []) (xs ++ ys)) ≡ (if t then (begun ++ x ∷ []) ∷ lines_after [] xs else lines_after (begun ++ x ∷ []) xs) ++ lines_after (if t then rest_after [] xs else rest_after (begun ++ x ∷ []) xs) ys)
    [ true ↦ ap (λ l. (begun ++ x ∷ []) ∷ l) (lines_after-append [] xs ys) | false ↦ lines_after-append (begun ++ x ∷ []) xs ys ]

pub rest_after-append : (begun xs ys : List ℕ) → rest_after begun (xs ++ ys) ≡ rest_after (rest_after begun xs) ys
rest_after-append begun [] ys = refl
rest_after-append begun (x ∷ xs) ys =
    elim (x == 10) as (λ t. (if t then rest_after [] (xs ++ ys) else rest_after (begun ++ x ∷ []) (xs ++ ys)) ≡ rest_after (if t then rest_after [] xs else rest_after (begun ++ x ∷ []) xs) ys)
    [ true ↦ rest_after-append [] xs ys | false ↦ rest_after-append (begun ++ x ∷ []) xs ys ]

-- bytes without a line feed
pub no_feed : (begun text : List ℕ) → IsFirstByte (is_byte 10) text None → (lines_after begun text ≡ []) × (rest_after begun text ≡ begun ++ text)
no_feed begun [] none = (refl, sym (append-nil begun))
no_feed begun (c ∷ text) none =
    let miss : (c == 10) ≡ false = false_from_ne_true (c == 10) (none 0 (omega arith) (omega arith)) in
    let later = no_feed (begun ++ c ∷ []) text (λ k low high. none (suc k) (omega arith) (omega arith)) in
    rw miss (later.0, later.1 ∙ append_assoc begun (c ∷ []) text)

-- bytes up to their first line feed
pub one_feed : (begun text : List ℕ) (at : ℕ) → IsFirstByte (is_byte 10) text (Some at) → (lines_after begun (take (at + 1) text) ≡ (begun ++ take (at + 1) text) ∷ []) × (rest_after begun (take (at + 1) text) ≡ [])
one_feed begun [] at first = absurd (omega (arith, first.0.high))
one_feed begun (c ∷ text) zero first = rw first.1 (refl, refl)
one_feed begun (c ∷ text) (suc at) first =
    let miss : (c == 10) ≡ false = false_from_ne_true (c == 10) (first.0.before 0 (omega arith) (omega arith)) in
    let here : IsFirstByte (is_byte 10) text (Some at) = (record { low = omega arith; high = omega (arith, first.0.high); before = λ k low high. first.0.before (suc k) (omega arith) (omega arith) }, first.1) in
    let step : suc at + 1 ≡ suc (at + 1) = omega arith in
    let later = one_feed (begun ++ c ∷ []) text at here in
    rw (step, miss) (later.0 ∙ ap (λ l. l ∷ []) (append_assoc begun (c ∷ []) (take (at + 1) text)), later.1)
