-- What a table says at a key, and the fault of the key.
use Rattle.std.specs.Prelude.{ℕ, zero, suc, ◌+◌, if◌then◌else◌, List, [], ◌∷◌, ◌++◌, Option, Some, None, option_map, option_and_then, unwrap_or, codes}
use Rattle.std.specs.Option.{option_map_or}
use Rattle.std.specs.List.{list_any}
use Rattle.toml.specs.Data.{Data, Items, no_items, item, Members, no_members, member, get_member, as_table, as_array}
use Rattle.dch_tree.specs.Faults.{element_path}
use Rattle.dch_tree.specs.Rules.{is_word}
use Rattle.dch_tree.specs.declared.fault.Fault.{Fault}
use Rattle.dch_tree.specs.declared.fault.Fault.TheVariants.{Key, Range}

-- what a table says at a key: nothing, a value that breaks the rule, or a value by the rule
abbrev pub reading : {A : Type 0} → (Data → Option A) → List ℕ → Members → Option (Option A)
reading rule key ms = option_map rule (get_member key ms)

-- the value, or another one where there is none
abbrev pub value_or : {A : Type 0} → A → Option (Option A) → A
value_or other None = other
value_or other (Some None) = other
value_or other (Some (Some x)) = x

-- the value, where there is one
abbrev pub value_of : {A : Type 0} → Option (Option A) → Option A
value_of None = None
value_of (Some found) = found

-- the faults of a key that must be there, and of one that may be missing
abbrev pub required : {A : Type 0} → List ℕ → Option (Option A) → List Fault
required path None = Key path ∷ []
required path (Some None) = Range path ∷ []
required path (Some (Some x)) = []

abbrev pub optional : {A : Type 0} → List ℕ → Option (Option A) → List Fault
optional path None = []
optional path (Some None) = Range path ∷ []
optional path (Some (Some x)) = []

-- the fault of a key that is none of these
abbrev pub unknown_key : List ℕ → List (List ℕ) → List ℕ → List Fault
unknown_key path known key = if list_any (is_word key) known then [] else Key (path ++ key) ∷ []

-- the faults of all keys of a table that are none of these
unfoldable pub unknown : List ℕ → List (List ℕ) → Members → List Fault
unknown path known no_members = []
unknown path known (member key d ms) = unknown_key path known key ++ unknown path known ms

-- the faults of a key that must be there, by its rule, and of one that may be missing
abbrev pub need : {A : Type 0} → (Data → Option A) → List ℕ → List ℕ → Members → List Fault
need rule path key ms = required (path ++ key) (reading rule key ms)

abbrev pub may : {A : Type 0} → (Data → Option A) → List ℕ → List ℕ → Members → List Fault
may rule path key ms = optional (path ++ key) (reading rule key ms)

-- the value of a key by its rule, or another one where there is none
abbrev pub field : {A : Type 0} → A → (Data → Option A) → List ℕ → Members → A
field other rule key ms = value_or other (reading rule key ms)

-- the faults of a member of a list of tables, from the faults of a table
abbrev pub item_faults : (List ℕ → Members → List Fault) → List ℕ → List ℕ → ℕ → Data → List Fault
item_faults faults path key i d = option_map_or (λ ms. faults (element_path path key i) ms) (as_table d)
    (Range (path ++ key) ∷ [])

-- the faults of the members of a list of tables, from a place on
unfoldable pub items_faults : (List ℕ → Members → List Fault) → List ℕ → List ℕ → ℕ → Items → List Fault
items_faults faults path key i no_items = []
items_faults faults path key i (item d ds) = item_faults faults path key i d ++ items_faults faults path key (i + 1) ds

-- the values of a list of tables; a member that is none counts as an empty one
abbrev pub item_value : {A : Type 0} → (Members → A) → Data → A
item_value value d = value (unwrap_or (as_table d) no_members)

unfoldable pub items_values : {A : Type 0} → (Members → A) → Items → List A
items_values value no_items = []
items_values value (item d ds) = item_value value d ∷ items_values value ds

-- the items of a list at a key, where there is one
abbrev pub list_at : List ℕ → Members → Items
list_at key ms = unwrap_or (option_and_then as_array (get_member key ms)) no_items

-- the table at a key, where there is one
abbrev pub table_at : List ℕ → Members → Option Members
table_at key ms = option_and_then as_table (get_member key ms)

abbrev pub members_at : List ℕ → Members → Members
members_at key ms = unwrap_or (table_at key ms) no_members

-- the faults of a table at a key of the document, which must be there, and of the table's own keys
abbrev pub table_faults : (List ℕ → Members → List Fault) → List ℕ → Members → List Fault
table_faults faults key ms = required key (reading as_table key ms)
    ++ option_map_or (faults (key ++ codes ".")) (table_at key ms) []

-- the faults at each place below n
unfoldable pub indexed : (ℕ → List Fault) → ℕ → List Fault
indexed faults zero = []
indexed faults (suc n) = indexed faults n ++ faults n
