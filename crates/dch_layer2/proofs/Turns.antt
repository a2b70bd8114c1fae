-- The bearers of a channel in their turns.
use Rattle.std.proofs.Common.{◌≡◌, ◌<◌, ◌≤◌, ◌++◌, ◌∙◌, ℕ, zero, suc, List, [], ◌∷◌, Bool, true, false, cond, ◌&&◌, ◌||◌, length, arith, refl, sym, ap, ap₂, append_assoc}
use Rattle.std.specs.Prelude.{◌==◌, nat_lt}
use Rattle.std.proofs.lemmas.Bool.Decides.{nat_tests}
use Rattle.dch_bits.specs.declared.bit.Bit.{Bit}
use Rattle.dch_mac.specs.Asked.{Asked, priority_of}
use Rattle.dch_layer2.specs.Starting.{in_turn, is_on, joined, of_priority}
use Rattle.dch_layer2.proofs.Serving.{before, turns_to}
use Rattle.dch_layer2.proofs.Sums.{both_true}

pub joined-append : (f : ℕ → List (List Bit)) (xs ys : List ℕ) → joined f (xs ++ ys) ≡ joined f xs ++ joined f ys
joined-append f [] ys = refl
joined-append f (x ∷ xs) ys = ap (λ zs. f x ++ zs) (joined-append f xs ys) ∙ sym (append_assoc (f x) (joined f xs) (joined f ys))

-- equal blocks of the bearers that have a turn are equal in all
some_same : (asked : Asked) (i p n : ℕ) (f g : ℕ → List (List Bit)) → ((x : ℕ) → x < n → (priority_of asked x == p) ≡ true → is_on asked i x ≡ true → f x ≡ g x) → joined f (of_priority asked i p n) ≡ joined g (of_priority asked i p n)
some_same asked i p zero f g each = refl
some_same asked i p (suc n) f g each =
    joined-append f (of_priority asked i p n) (cond (priority_of asked n == p && is_on asked i n) (n ∷ []) [])
    ∙ (ap₂ (λ xs ys. xs ++ ys) (some_same asked i p n f g (λ x l. each x (omega (arith, l)))) (last (priority_of asked n == p && is_on asked i n) refl)
    ∙ sym (joined-append g (of_priority asked i p n) (cond (priority_of asked n == p && is_on asked i n) (n ∷ []) [])))
  where
    last : (c : Bool) → (priority_of asked n == p && is_on asked i n) ≡ c → joined f (cond c (n ∷ []) []) ≡ joined g (cond c (n ∷ []) [])
    last true e = let both = both_true (priority_of asked n == p) (is_on asked i n) e in ap (λ xs. xs ++ []) (each n (omega arith) both.0 both.1)
    last false e = refl

turns_same : (asked : Asked) (i q : ℕ) (f g : ℕ → List (List Bit)) → ((x : ℕ) → nat_lt (priority_of asked x) (suc q) ≡ true → is_on asked i x ≡ true → f x ≡ g x) → joined f (in_turn asked i q) ≡ joined g (in_turn asked i q)
turns_same asked i zero f g each = refl
turns_same asked i (suc q) f g each =
    joined-append f (in_turn asked i q) (of_priority asked i (suc q) (length asked.bearers))
    ∙ (ap₂ (λ xs ys. xs ++ ys)
    (turns_same asked i q f g (λ x l on. each x (later (priority_of asked x) l) on))
    (some_same asked i (suc q) (length asked.bearers) f g (λ x l e on. each x (here (priority_of asked x) e) on))
    ∙ sym (joined-append g (in_turn asked i q) (of_priority asked i (suc q) (length asked.bearers))))
  where
    later : (p : ℕ) → nat_lt p (suc q) ≡ true → nat_lt p (suc (suc q)) ≡ true
    later p l = grind (arith, nat_tests, l)

    here : (p : ℕ) → (p == suc q) ≡ true → nat_lt p (suc (suc q)) ≡ true
    here p e = grind (arith, nat_tests, e)

pub all_same : (asked : Asked) (i : ℕ) (f g : ℕ → List (List Bit)) → ((x : ℕ) → is_on asked i x ≡ true → f x ≡ g x) → joined f (in_turn asked i 8) ≡ joined g (in_turn asked i 8)
all_same asked i f g each = turns_same asked i 8 f g (λ x l on. each x on)

pub before_same : (asked : Asked) (i q b : ℕ) (f g : ℕ → List (List Bit)) → ((x : ℕ) → before asked q b x ≡ true → f x ≡ g x) → joined f (turns_to asked i q b) ≡ joined g (turns_to asked i q b)
before_same asked i q b f g each =
    joined-append f (in_turn asked i q) (of_priority asked i (suc q) b)
    ∙ (ap₂ (λ xs ys. xs ++ ys)
    (turns_same asked i q f g (λ x l on. each x (ap (λ c. c || (priority_of asked x == suc q && nat_lt x b)) l)))
    (some_same asked i (suc q) b f g (λ x l e on. each x (at_turn (priority_of asked x) x l e)))
    ∙ sym (joined-append g (in_turn asked i q) (of_priority asked i (suc q) b)))
  where
    or_true : (c : Bool) → (c || true) ≡ true
    or_true true = refl
    or_true false = refl

    at_turn : (p x : ℕ) → x < b → (p == suc q) ≡ true → (nat_lt p (suc q) || (p == suc q && nat_lt x b)) ≡ true
    at_turn p x l e = let t : nat_lt x b ≡ true = grind (arith, nat_tests) in rw (e, t) (or_true (nat_lt p (suc q)))

-- who comes before
pub before_self : (asked : Asked) (q b : ℕ) → (priority_of asked b == suc q) ≡ true → (before asked q b b ≡ false) × (before asked q (suc b) b ≡ true)
before_self asked q b e = go (priority_of asked b) e
  where
    go : (p : ℕ) → (p == suc q) ≡ true → ((nat_lt p (suc q) || (p == suc q && nat_lt b b)) ≡ false) × ((nat_lt p (suc q) || (p == suc q && nat_lt b (suc b))) ≡ true)
    go p e =
        let x : nat_lt p (suc q) ≡ false = grind (arith, nat_tests) in
        let y : nat_lt b (suc b) ≡ true = grind (arith, nat_tests) in
        let z : nat_lt b b ≡ false = grind (arith, nat_tests) in
        (rw (x, e, z) refl, rw (x, e, y) refl)

pub before_none : (asked : Asked) (a : ℕ) → 1 ≤ priority_of asked a → before asked 0 0 a ≡ false
before_none asked a least = none (priority_of asked a) least
  where
    never : (x : Bool) → (x && false) ≡ false
    never true = refl
    never false = refl

    none : (p : ℕ) → 1 ≤ p → (nat_lt p 1 || (p == 1 && nat_lt a 0)) ≡ false
    none p l =
        let x : nat_lt p 1 ≡ false = grind (arith, nat_tests) in
        let y : nat_lt a 0 ≡ false = grind (arith, nat_tests) in
        rw (x, y) (never (p == 1))

pub before_all : (asked : Asked) (a : ℕ) → priority_of asked a ≤ 8 → before asked 8 0 a ≡ true
before_all asked a most = all (priority_of asked a) most
  where
    all : (p : ℕ) → p ≤ 8 → (nat_lt p 9 || (p == 9 && nat_lt a 0)) ≡ true
    all p l = let x : nat_lt p 9 ≡ true = grind (arith, nat_tests) in rw x refl
