-- Which combinations fit after one another.
use Rattle.std.proofs.Common.{◌≡◌, ◌<◌, ◌%◌, ℕ, zero, suc, Bool, true, false, length, refl, sym, ap, ◌∙◌, arith, inl, inr}
use Rattle.std.specs.Prelude.{◌==◌, ◌||◌}
use Rattle.std.proofs.lemmas.Bool.{and_from, and_parts, cases_Bool, cases_lt, cases_eq, eq-eqb, ne_eqb, both_ways}
use Rattle.std.proofs.lemmas.Bool.Decides.{nat_tests}
use Rattle.dch_types.specs.declared.channel.Side.{Side}
use Rattle.dch_types.specs.Parts.{format_number}
use Rattle.dch_collision.specs.Sequences.{frames_of}
use Rattle.dch_collision.specs.Steps.{all_below, stays, fits}

-- a test of all numbers below n
pub below_true : (test : ℕ → Bool) (n : ℕ) → ((k : ℕ) → k < n → test k ≡ true) → all_below test n ≡ true
unfolding all_below
below_true test zero each = refl
below_true test (suc n) each = and_from (all_below test n) (test n) (below_true test n (λ k less. each k (omega arith))) (each n (omega arith))

pub below_at : (test : ℕ → Bool) (n k : ℕ) → all_below test n ≡ true → k < n → test k ≡ true
unfolding all_below
below_at test zero k all less = absurd (omega arith)
below_at test (suc n) k all less =
    let parts : (all_below test n ≡ true) × (test n ≡ true) = and_parts (all_below test n) (test n) all in
    elim (cases_lt k n) [
      | inl before ↦ below_at test n k parts.0 before
      | inr last ↦ let here : k ≡ n = omega arith in ap test here ∙ parts.1
    ]

pub below_false : (test : ℕ → Bool) (n k : ℕ) → k < n → test k ≡ false → all_below test n ≡ false
below_false test n k less wrong = elim (cases_Bool (all_below test n)) [
  | inl all ↦ absurd (both_ways (test k) wrong (below_at test n k all less))
  | inr not_all ↦ not_all
]

-- what a fit is made of
pub fits_from : (side : Side) (i f n previous c : ℕ) → format_number side c i ≡ f
    → ((j : ℕ) → j < length side.channels → stays side n previous c j ≡ true) → fits side i f n previous c ≡ true
unfolding fits
fits_from side i f n previous c format each =
    and_from (format_number side c i == f) (all_below (stays side n previous c) (length side.channels)) (eq-eqb (format_number side c i) f format)
    (below_true (stays side n previous c) (length side.channels) each)

pub fits_format : (side : Side) (i f n previous c : ℕ) → fits side i f n previous c ≡ true → format_number side c i ≡ f
unfolding fits
fits_format side i f n previous c fit =
    let parts : ((format_number side c i == f) ≡ true) × (all_below (stays side n previous c) (length side.channels) ≡ true)
    = and_parts (format_number side c i == f) (all_below (stays side n previous c) (length side.channels)) fit in
    let same : (format_number side c i == f) ≡ true = parts.0 in
    grind (arith, nat_tests)

pub fits_stays : (side : Side) (i f n previous c j : ℕ) → fits side i f n previous c ≡ true → j < length side.channels → stays side n previous c j ≡ true
unfolding fits
fits_stays side i f n previous c j fit inside =
    below_at (stays side n previous c) (length side.channels) j
    (and_parts (format_number side c i == f) (all_below (stays side n previous c) (length side.channels)) fit).1 inside

-- what spoils a fit
pub other_format : (side : Side) (i f n previous c : ℕ) → (format_number side c i ≡ f → ⊥) → false ≡ fits side i f n previous c
other_format side i f n previous c other = elim (cases_Bool (fits side i f n previous c)) [
  | inl fit ↦ absurd (other (fits_format side i f n previous c fit))
  | inr misfit ↦ sym misfit
]

pub one_changes : (side : Side) (i f n previous c j : ℕ) → j < length side.channels → stays side n previous c j ≡ false → false ≡ fits side i f n previous c
one_changes side i f n previous c j inside changes = elim (cases_Bool (fits side i f n previous c)) [
  | inl fit ↦ absurd (both_ways (stays side n previous c j) changes (fits_stays side i f n previous c j fit inside))
  | inr misfit ↦ sym misfit
]

-- a channel stays as it is where its TTI starts, or where its format is the same; and only there
pub stays_from : (a b u v : ℕ) → ((a ≡ b → ⊥) → u ≡ v) → ((a == b) || (u == v)) ≡ true
stays_from a b u v same = elim (cases_eq a b) [
  | inl start ↦ let one : (a == b) ≡ true = eq-eqb a b start in rw one refl
  | inr going ↦ let one : (a == b) ≡ false = ne_eqb a b going in rw one (eq-eqb u v (same going))
]

pub stays_same : (a b u v : ℕ) → ((a == b) || (u == v)) ≡ true → (a ≡ b → ⊥) → u ≡ v
stays_same a b u v stays going = grind (arith, nat_tests)

-- a combination fits after itself
pub fits_itself : (side : Side) (i f n c : ℕ) → format_number side c i ≡ f → fits side i f n c c ≡ true
fits_itself side i f n c format = fits_from side i f n c c format (λ j inside. stays_from (n % frames_of side j) 0 (format_number side c j) (format_number side c j) (λ going. refl))
