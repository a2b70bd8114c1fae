-- Keys whose values are seen through references.
use Rattle.std.proofs.Common.{◌≡◌, ℕ, List, Option, Some, None, option_map, unwrap_or, refl, ap, ◌∙◌}
use Rattle.std.specs.Prelude.{option_and_then}
use Rattle.toml.specs.Data.{Data}
use Rattle.dch_tree.specs.declared.fault.Fault.{Fault}
use Rattle.dch_tree.specs.Faults.{first_found}
use Rattle.dch_tree.specs.Tables.{required, optional, value_or}

required_shown : {A B : Type 0} (f : A → B) (path : List ℕ) (found : Option (Option A)) → required path found ≡ required path (option_map (λ o. option_map f o) found)
required_shown f path None = refl
required_shown f path (Some None) = refl
required_shown f path (Some (Some x)) = refl

optional_shown : {A B : Type 0} (f : A → B) (path : List ℕ) (found : Option (Option A)) → optional path found ≡ optional path (option_map (λ o. option_map f o) found)
optional_shown f path None = refl
optional_shown f path (Some None) = refl
optional_shown f path (Some (Some x)) = refl

value_shown : {A B : Type 0} (f : A → B) (other : A) (found : Option (Option A)) → f (value_or other found) ≡ value_or (f other) (option_map (λ o. option_map f o) found)
value_shown f other None = refl
value_shown f other (Some None) = refl
value_shown f other (Some (Some x)) = refl

value_there : {A : Type 0} (other : A) (o : Option A) → value_or other (Some o) ≡ unwrap_or o other
value_there other None = refl
value_there other (Some x) = refl

value_read : {A : Type 0} (other : A) (rule : Data → Option A) (o : Option Data) → value_or other (option_map rule o) ≡ unwrap_or (option_and_then rule o) other
value_read other rule None = refl
value_read other rule (Some d) = value_there other (rule d)

-- a key that must be there, and one that may be missing
pub required_seen : {A B : Type 0} (f : A → B) (a b : Option Fault) (path : List ℕ) (found : Option (Option A)) (read : Option (Option B))
    → option_map (λ o. option_map f o) found ≡ read → b ≡ first_found a (required path found) → b ≡ first_found a (required path read)
required_seen f a b path found read same first = first ∙ ap (λ faults. first_found a faults) (required_shown f path found ∙ ap (λ r. required path r) same)

pub optional_seen : {A B : Type 0} (f : A → B) (a b : Option Fault) (path : List ℕ) (found : Option (Option A)) (read : Option (Option B))
    → option_map (λ o. option_map f o) found ≡ read → b ≡ first_found a (optional path found) → b ≡ first_found a (optional path read)
optional_seen f a b path found read same first = first ∙ ap (λ faults. first_found a faults) (optional_shown f path found ∙ ap (λ r. optional path r) same)

-- the value of a key by its rule
pub value_seen : {A B : Type 0} (f : A → B) (other x : A) (found : Option (Option A)) (rule : Data → Option B) (o : Option Data)
    → option_map (λ s. option_map f s) found ≡ option_map rule o → x ≡ value_or other found → f x ≡ unwrap_or (option_and_then rule o) (f other)
value_seen f other x found rule o same value =
    ap f value ∙ (value_shown f other found ∙ (ap (λ r. value_or (f other) r) same ∙ value_read (f other) rule o))
