-- What holds at each place of a list that passes a test nowhere.
use Rattle.std.proofs.Common.{◌≡◌, ◌<◌, ℕ, zero, suc, Bool, true, false, not, ◌&&◌, ◌||◌, List, [], ◌∷◌, length, get_or, nat_lt, nat_eq, Option, Some, None, option_map, refl, ap₂, sym, ◌∙◌, subst, ⊎_elim, arith}
use Rattle.std.specs.Prelude.{position, IsSome, is_none}
use Rattle.std.specs.List.{list_any, range_with_len, prefix_len}
use Rattle.std.specs.Cmp.Lexicographic.{pointwise}
use Rattle.std.proofs.lemmas.Bool.{cases_Bool}
use Rattle.std.proofs.lemmas.Bool.Decides.{nat_tests}
use Rattle.std.proofs.lemmas.List.FromFn.{length-range_with_len, get_or-range_with_len}
use Rattle.dch_config.specs.declared.error.ConfigError.{ConfigError}
use Rattle.dch_config.specs.Refusals.{first_refusal, refused_if}

-- no refusal among some
abbrev pub AllNone : List (Option ConfigError) → Type 0
AllNone [] = Unit {0}
AllNone (o ∷ os) = (o ≡ None) × AllNone os

pub all_none : (os : List (Option ConfigError)) → first_refusal os ≡ None → AllNone os
all_none [] e = tt
all_none (None ∷ os) e = (refl, all_none os e)
all_none (Some x ∷ os) e = cc

pub none_test : (wrong : Bool) (x : ConfigError) → refused_if wrong x ≡ None → wrong ≡ false
none_test true x e = cc
none_test false x e = refl

pub none_place : (f : ℕ → ConfigError) (o : Option ℕ) → option_map f o ≡ None → o ≡ None
none_place f None e = refl
none_place f (Some i) e = cc

pub not_true : (b : Bool) → not b ≡ false → b ≡ true
not_true true e = refl
not_true false e = sym e

at_more : {A : Type 0} (p : A → Bool) (x : A) (xs : List A) → p x ≡ false → ((i : ℕ) (d : A) → i < length xs → p (get_or xs i d) ≡ false)
    → (i : ℕ) (d : A) → i < length (x ∷ xs) → p (get_or (x ∷ xs) i d) ≡ false
at_more p x xs here later zero d inside = here
at_more p x xs here later (suc i) d inside = later i d (omega arith)

passes_none : {A : Type 0} (p : A → Bool) (xs : List A) → nat_lt (prefix_len (λ x. not (p x)) xs) (length xs) ≡ false → (i : ℕ) (d : A) → i < length xs → p (get_or xs i d) ≡ false
passes_none p [] none i d inside = absurd (omega arith)
passes_none p (x ∷ xs) none i d inside =
    ⊎_elim
    (λ here. let no = rw here at none in absurd (grind (arith, nat_tests)))
    (λ not_here.
    let rest = rw not_here at none in
    let shorter : nat_lt (prefix_len (λ y. not (p y)) xs) (length xs) ≡ false = grind (arith, nat_tests) in
    at_more p x xs not_here (passes_none p xs shorter) i d inside)
    (cases_Bool (p x))

-- a test that no place passes
pub position_none : {A : Type 0} (p : A → Bool) (xs : List A) → position p xs ≡ None → (i : ℕ) (d : A) → i < length xs → p (get_or xs i d) ≡ false
position_none p xs none =
    ⊎_elim (λ found. let no = rw found at none in cc no) (λ nothing. passes_none p xs nothing) (cases_Bool (nat_lt (prefix_len (λ x. not (p x)) xs) (length xs)))

pub position_none_below : (p : ℕ → Bool) (n : ℕ) → position p (range_with_len 0 n) ≡ None → (i : ℕ) → i < n → p i ≡ false
position_none_below p n none i inside =
    let within : i < length (range_with_len 0 n) = rw length-range_with_len inside in
    subst (λ j. p j ≡ false) (get_or-range_with_len 0 n i 0 inside ∙ omega arith) (position_none p (range_with_len 0 n) none i 0 within)

pub any_none : {A : Type 0} (p : A → Bool) (xs : List A) → list_any p xs ≡ false → (i : ℕ) (d : A) → i < length xs → p (get_or xs i d) ≡ false
any_none p [] none i d inside = absurd (omega arith)
any_none p (x ∷ xs) none zero d inside = ⊎_elim (λ here. let no = rw here at none in cc no) (λ not_here. not_here) (cases_Bool (p x))
any_none p (x ∷ xs) none (suc i) d inside =
    ⊎_elim (λ here. let no = rw here at none in cc no) (λ not_here. any_none p xs (rw not_here at none) i d (omega arith)) (cases_Bool (p x))

-- a test that some place passes
pub any_some : {A : Type 0} (p : A → Bool) (xs : List A) → list_any p xs ≡ true → (k : ℕ) × (k < length xs) × ((d : A) → p (get_or xs k d) ≡ true)
any_some p [] e = cc
any_some p (x ∷ xs) e =
    ⊎_elim
    (λ here. (0, omega arith, λ d. here))
    (λ not_here. let (k, inside, at) = any_some p xs (rw not_here at e) in (suc k, omega arith, at))
    (cases_Bool (p x))

-- lists of numbers that are the same
pub same_numbers : (xs ys : List ℕ) → pointwise nat_eq xs ys ≡ true → xs ≡ ys
same_numbers [] [] e = refl
same_numbers [] (y ∷ ys) e = cc
same_numbers (x ∷ xs) [] e = cc
same_numbers (x ∷ xs) (y ∷ ys) e =
    ⊎_elim
    (λ here. let head : x ≡ y = grind (arith, nat_tests) in ap₂ (λ a b. a ∷ b) head (same_numbers xs ys (rw here at e)))
    (λ not_here. let no = rw not_here at e in cc no)
    (cases_Bool (nat_eq x y))

pub numbers_same : (xs : List ℕ) → pointwise nat_eq xs xs ≡ true
numbers_same [] = refl
numbers_same (x ∷ xs) = let here : nat_eq x x ≡ true = grind (arith, nat_tests) in rw here (numbers_same xs)

pub or_first : (a b : Bool) → (a || b) ≡ false → a ≡ false
or_first true b e = e
or_first false b e = refl

pub or_second : (a b : Bool) → (a || b) ≡ false → b ≡ false
or_second true b e = cc
or_second false b e = e

pub and_first : (a b : Bool) → (a && b) ≡ true → a ≡ true
and_first true b e = refl
and_first false b e = e

pub and_second : (a b : Bool) → (a && b) ≡ true → b ≡ true
and_second true b e = e
and_second false b e = cc

pub not_none : {A : Type 0} (o : Option A) → is_none o ≡ false → IsSome o
not_none None e = cc
not_none (Some x) e = refl
