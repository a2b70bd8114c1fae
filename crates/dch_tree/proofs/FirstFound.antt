-- The first of some faults, a part of the faults after another.
use Rattle.std.proofs.Common.{◌≡◌, ℕ, Bool, List, [], ◌∷◌, ◌++◌, map, Option, Some, None, option_map, is_some, refl, ap, sym, ◌∙◌, ◌||◌, Bor}
use Rattle.std.specs.List.{list_any}
use Rattle.std.proofs.lemmas.List.Sums.{fold-append}
use Rattle.toml.specs.Data.{Data, Members, member}
use Rattle.dch_tree.specs.declared.fault.Fault.{Fault}
use Rattle.dch_tree.specs.Faults.{earlier, first_found}
use Rattle.dch_tree.specs.Rules.{is_word}
use Rattle.dch_tree.specs.Tables.{unknown, unknown_key, required, optional}

pub first_found-append : (found : Option Fault) (xs ys : List Fault) → first_found found (xs ++ ys) ≡ first_found (first_found found xs) ys
unfolding first_found
first_found-append found xs ys = fold-append earlier found xs ys

-- a part of the faults, and then the rest
pub then : (a b c : Option Fault) (xs ys : List Fault) → b ≡ first_found a xs → c ≡ first_found b ys → c ≡ first_found a (xs ++ ys)
then a b c xs ys first second = second ∙ (ap (λ o. first_found o ys) first ∙ sym (first_found-append a xs ys))

-- a key that must be there, as it was read
pub first_required : {A : Type 0} (a b : Option Fault) (path : List ℕ) (found read : Option (Option A))
    → found ≡ read → b ≡ first_found a (required path found) → b ≡ first_found a (required path read)
first_required a b path found read same first = first ∙ ap (λ r. first_found a (required path r)) same

-- one more key that must be there, as it was read
pub then_required : {A : Type 0} (a b c : Option Fault) (xs : List Fault) (path : List ℕ) (found read : Option (Option A))
    → b ≡ first_found a xs → found ≡ read → c ≡ first_found b (required path found) → c ≡ first_found a (xs ++ required path read)
then_required a b c xs path found read first same second = then a b c xs (required path read) first (second ∙ ap (λ r. first_found b (required path r)) same)

-- a part, from a value that is known by an equation
pub first_of : {M : Type 0} (a b : Option Fault) (faults : M → List Fault) (m n : M) → m ≡ n → b ≡ first_found a (faults m) → b ≡ first_found a (faults n)
first_of a b faults m n same first = first ∙ ap (λ x. first_found a (faults x)) same

-- one more part, from a value that is known by an equation
pub then_of : {M : Type 0} (a b c : Option Fault) (xs : List Fault) (faults : M → List Fault) (m n : M)
    → b ≡ first_found a xs → m ≡ n → c ≡ first_found b (faults m) → c ≡ first_found a (xs ++ faults n)
then_of a b c xs faults m n first same second = then a b c xs (faults n) first (second ∙ ap (λ x. first_found b (faults x)) same)

pub is_some-option_map : {A B : Type 0} (f : A → B) (o : Option A) (p : Option B) → option_map f o ≡ p → is_some o ≡ is_some p
is_some-option_map f None p e = ap is_some e
is_some-option_map f (Some x) p e = ap is_some e

-- a key that may be missing, as it was read
pub first_optional : {A : Type 0} (a b : Option Fault) (path : List ℕ) (found read : Option (Option A))
    → found ≡ read → b ≡ first_found a (optional path found) → b ≡ first_found a (optional path read)
first_optional a b path found read same first = first ∙ ap (λ r. first_found a (optional path r)) same

-- one more key that may be missing
pub then_optional : {A : Type 0} (a b c : Option Fault) (xs : List Fault) (path : List ℕ) (found read : Option (Option A))
    → b ≡ first_found a xs → found ≡ read → c ≡ first_found b (optional path found) → c ≡ first_found a (xs ++ optional path read)
then_optional a b c xs path found read first same second = then a b c xs (optional path read) first (second ∙ ap (λ r. first_found b (optional path r)) same)

-- what is left of the faults after a part of them
pub after : (a b c : Option Fault) (xs ys : List Fault) → b ≡ first_found a xs → first_found a (xs ++ ys) ≡ c → first_found b ys ≡ c
after a b c xs ys first whole = ap (λ o. first_found o ys) first ∙ (sym (first_found-append a xs ys) ∙ whole)

pub list_any-map : {A B : Type 0} (test : B → Bool) (f : A → B) (xs : List A) → list_any test (map f xs) ≡ list_any (λ x. test (f x)) xs
list_any-map test f [] = refl
list_any-map test f (x ∷ xs) = ap (λ rest. test (f x) || rest) (list_any-map test f xs)

-- a key among the known ones that references show
pub known_by_reference : (key : List ℕ) (known : List (Bor (List ℕ))) → list_any (is_word key) (map (λ k. k.now) known) ≡ list_any (λ k. is_word key k.now) known
known_by_reference key known = list_any-map (is_word key) (λ k. k.now) known

-- one more key of a table
pub unknown_more : (a b c : Option Fault) (path : List ℕ) (known : List (List ℕ)) (key : List ℕ) (d : Data) (ms : Members) → b ≡ first_found a (unknown_key path known key)
    → first_found a (unknown path known (member key d ms)) ≡ c → first_found b (unknown path known ms) ≡ c
unfolding unknown
unknown_more a b c path known key d ms first whole = after a b c (unknown_key path known key) (unknown path known ms) first whole
