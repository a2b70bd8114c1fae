-- The members of a list of tables, one after another.
use Rattle.std.proofs.Common.{◌≡◌, ◌+◌, ◌<◌, ℕ, List, [], ◌∷◌, ◌++◌, length, get_or, drop, Option, ap, sym, ◌∙◌, append_assoc, add-one}
use Rattle.toml.specs.Data.{item, Members}
use Rattle.toml.specs.View.{view, items_view}
use Rattle.toml.specs.declared.value.Value.{Value}
use Rattle.toml.proofs.Views.{items_view-drop}
use Rattle.dch_tree.specs.declared.fault.Fault.{Fault}
use Rattle.dch_tree.specs.Faults.{first_found}
use Rattle.dch_tree.specs.Tables.{item_faults, items_faults, item_value, items_values, indexed}
use Rattle.dch_tree.proofs.FirstFound.{after, then}

-- the item at a place, and those after it
pub at_place : (xs : List Value) (i : ℕ) (v : Value) → i < length xs → v ≡ get_or xs i v → items_view (drop i xs) ≡ item (view v) (items_view (drop (i + 1) xs))
at_place xs i v inside here = items_view-drop xs i v inside ∙ ap (λ w. item (view w) (items_view (drop (i + 1) xs))) (sym here)

-- one more item
pub items_more : (faults : List ℕ → Members → List Fault) (path key : List ℕ) (a b c : Option Fault) (xs : List Value) (i : ℕ) (v : Value)
    → i < length xs → v ≡ get_or xs i v → b ≡ first_found a (item_faults faults path key i (view v))
    → first_found a (items_faults faults path key i (items_view (drop i xs))) ≡ c
    → first_found b (items_faults faults path key (i + 1) (items_view (drop (i + 1) xs))) ≡ c
unfolding items_faults
items_more faults path key a b c xs i v inside here step whole =
    after a b c (item_faults faults path key i (view v)) (items_faults faults path key (i + 1) (items_view (drop (i + 1) xs))) step
    (sym (ap (λ items. first_found a (items_faults faults path key i items)) (at_place xs i v inside here)) ∙ whole)

pub values_more : {A : Type 0} (value : Members → A) (done all : List A) (x : A) (xs : List Value) (i : ℕ) (v : Value)
    → i < length xs → v ≡ get_or xs i v → x ≡ item_value value (view v)
    → done ++ items_values value (items_view (drop i xs)) ≡ all → (done ++ x ∷ []) ++ items_values value (items_view (drop (i + 1) xs)) ≡ all
unfolding items_values
values_more value done all x xs i v inside here step whole =
    append_assoc done (x ∷ []) (items_values value (items_view (drop (i + 1) xs)))
    ∙ (ap (λ y. done ++ y ∷ items_values value (items_view (drop (i + 1) xs))) step
    ∙ (sym (ap (λ items. done ++ items_values value items) (at_place xs i v inside here)) ∙ whole))

-- one more place
pub indexed_more : (faults : ℕ → List Fault) (n : ℕ) (a b c : Option Fault) → b ≡ first_found a (indexed faults n) → c ≡ first_found b (faults n) → c ≡ first_found a (indexed faults (n + 1))
unfolding indexed
indexed_more faults n a b c first second = rw add-one (then a b c (indexed faults n) (faults n) first second)
