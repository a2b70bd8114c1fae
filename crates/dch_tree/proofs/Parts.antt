-- The tables of a document, one after another.
use Rattle.std.proofs.Common.{◌≡◌, ◌++◌, ℕ, List, [], Option, Some, None, option_map, unwrap_or, ap, sym, ◌∙◌}
use Rattle.std.specs.Prelude.{codes}
use Rattle.std.specs.Option.{option_map_or}
use Rattle.toml.specs.Data.{Members, no_members, as_table}
use Rattle.dch_tree.specs.declared.fault.Fault.{Fault}
use Rattle.dch_tree.specs.Faults.{first_found}
use Rattle.dch_tree.specs.Tables.{required, reading, table_at, members_at, table_faults}
use Rattle.dch_tree.proofs.FirstFound.{then}

-- a table that was found, from what a reference shows
pub found_table : {T : Type 0} (f : T → Members) (found : Option T) (key : List ℕ) (tree : Members) (t : T) → option_map f found ≡ table_at key tree → found ≡ Some t → table_at key tree ≡ Some (f t)
found_table f found key tree t shown is = sym shown ∙ ap (option_map f) is

pub no_table : {T : Type 0} (f : T → Members) (found : Option T) (key : List ℕ) (tree : Members) → option_map f found ≡ table_at key tree → found ≡ None → table_at key tree ≡ None
no_table f found key tree shown is = sym shown ∙ ap (option_map f) is

-- the faults of a table that is there
pub table_there : (a b c : Option Fault) (faults : List ℕ → Members → List Fault) (key : List ℕ) (tree ms : Members) → table_at key tree ≡ Some ms
    → b ≡ first_found a (required key (reading as_table key tree)) → c ≡ first_found b (faults (key ++ codes ".") ms) → c ≡ first_found a (table_faults faults key tree)
table_there a b c faults key tree ms there first second =
    then a b c (required key (reading as_table key tree)) (option_map_or (faults (key ++ codes ".")) (table_at key tree) []) first
    (second ∙ ap (λ o. first_found b (option_map_or (faults (key ++ codes ".")) o [])) (sym there))

-- what a table that is not there says
pub table_missing : {A : Type 0} (value : Members → A) (key : List ℕ) (tree : Members) → table_at key tree ≡ None → value no_members ≡ value (members_at key tree)
table_missing value key tree none = ap (λ o. value (unwrap_or o no_members)) (sym none)
