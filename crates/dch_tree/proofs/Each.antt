-- The values of a list by a rule, one after another.
use Rattle.std.proofs.Common.{◌≡◌, ◌+◌, ◌<◌, ◌≤◌, ℕ, List, [], ◌∷◌, ◌++◌, length, get_or, drop, Option, Some, None, option_map, option_and_then, refl, ap, sym, ◌∙◌, append_assoc}
use Rattle.std.proofs.lemmas.List.{append-nil}
use Rattle.std.proofs.Math.ListN.{drop_of_length-le}
use Rattle.toml.specs.Data.{Data, as_array}
use Rattle.toml.specs.View.{view, items_view}
use Rattle.toml.specs.declared.value.Value.{Value}
use Rattle.dch_tree.specs.Rules.{each, list_of}
use Rattle.dch_tree.proofs.Items.{at_place}

push_each : {A : Type 0} (done : List A) (x : A) (rest : Option (List A))
    → option_map (λ ys. (done ++ x ∷ []) ++ ys) rest ≡ option_map (λ ys. done ++ ys) (option_map (λ ys. x ∷ ys) rest)
push_each done x None = refl
push_each done x (Some ys) = ap Some (append_assoc done (x ∷ []) ys)

-- the value of the item at a place, and of those after it
each_here : {A : Type 0} (rule : Data → Option A) (xs : List Value) (i : ℕ) (v : Value) (r : Option A) → i < length xs → v ≡ get_or xs i v → r ≡ rule (view v)
    → each rule (items_view (drop i xs)) ≡ option_and_then (λ x. option_map (λ ys. x ∷ ys) (each rule (items_view (drop (i + 1) xs)))) r
each_here rule xs i v r inside here by =
    ap (λ items. each rule items) (at_place xs i v inside here) ∙ ap (λ o. option_and_then (λ x. option_map (λ ys. x ∷ ys) (each rule (items_view (drop (i + 1) xs)))) o) (sym by)

-- one more value
pub each_more : {A : Type 0} (rule : Data → Option A) (done : List A) (all : Option (List A)) (x : A) (xs : List Value) (i : ℕ) (v : Value)
    → i < length xs → v ≡ get_or xs i v → Some x ≡ rule (view v)
    → option_map (λ ys. done ++ ys) (each rule (items_view (drop i xs))) ≡ all → option_map (λ ys. (done ++ x ∷ []) ++ ys) (each rule (items_view (drop (i + 1) xs))) ≡ all
each_more rule done all x xs i v inside here by whole =
    push_each done x (each rule (items_view (drop (i + 1) xs))) ∙ (sym (ap (λ o. option_map (λ ys. done ++ ys) o) (each_here rule xs i v (Some x) inside here by)) ∙ whole)

-- an item without a value
pub each_fails : {A : Type 0} (rule : Data → Option A) (done : List A) (all : Option (List A)) (xs : List Value) (i : ℕ) (v : Value)
    → i < length xs → v ≡ get_or xs i v → None ≡ rule (view v) → option_map (λ ys. done ++ ys) (each rule (items_view (drop i xs))) ≡ all → None ≡ all
each_fails rule done all xs i v inside here by whole = sym (ap (λ o. option_map (λ ys. done ++ ys) o) (each_here rule xs i v None inside here by)) ∙ whole

-- no more items
pub each_done : {A : Type 0} (rule : Data → Option A) (done : List A) (all : Option (List A)) (xs : List Value) (i : ℕ)
    → length xs ≤ i → option_map (λ ys. done ++ ys) (each rule (items_view (drop i xs))) ≡ all → Some done ≡ all
each_done rule done all xs i past whole =
    ap Some (sym (append-nil done)) ∙ (sym (ap (λ rest. option_map (λ ys. done ++ ys) (each rule (items_view rest))) (drop_of_length-le xs past)) ∙ whole)

-- what a list says by the rule
pub list_said : {A : Type 0} (rule : Data → Option A) (d : Data) (items xs : List Value) (r : Option (List A))
    → Some (items_view items) ≡ as_array d → xs ≡ items → r ≡ each rule (items_view xs) → r ≡ list_of rule d
list_said rule d items xs r found same by = by ∙ (ap (λ ys. each rule (items_view ys)) same ∙ ap (λ o. option_and_then (each rule) o) found)
