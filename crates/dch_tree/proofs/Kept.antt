-- What a configuration keeps where no key has a fault.
use Rattle.std.proofs.Common.{◌≡◌, ◌≤◌, ℕ, List, [], ◌∷◌, ◌++◌, length, refl, arith, nat_lt, ⊎_elim}
use Rattle.std.proofs.lemmas.Bool.{cases_Bool}
use Rattle.std.proofs.lemmas.Bool.Decides.{nat_tests}
use Rattle.toml.specs.Data.{Members}
use Rattle.dch_types.specs.declared.bearer.Bearer.{Bearer}
use Rattle.dch_tree.specs.Bearers.{bearers_of, bearers_faults, together_faults}
use Rattle.dch_tree.specs.Documents.{uplink_channels, downlink_channels, document_faults, config_of}

-- parts of no faults
pub front_none : {A : Type 0} (xs ys : List A) → xs ++ ys ≡ [] → xs ≡ []
front_none [] ys e = refl
front_none (x ∷ xs) ys e = cc

pub back_none : {A : Type 0} (xs ys : List A) → xs ++ ys ≡ [] → ys ≡ []
back_none [] ys e = e
back_none (x ∷ xs) ys e = cc

bearers_none : (tree : Members) → document_faults tree ≡ [] → bearers_faults (uplink_channels tree) (downlink_channels tree) tree ≡ []
unfolding document_faults
bearers_none tree none = back_none _ _ none

together_none : (ups downs : ℕ) (tree : Members) → bearers_faults ups downs tree ≡ [] → together_faults (bearers_of ups downs tree) ≡ []
unfolding bearers_faults
together_none ups downs tree none = back_none _ _ none

few : (bearers : List Bearer) → together_faults bearers ≡ [] → length bearers ≤ 16
few bearers none =
    ⊎_elim (λ more. let no = rw more at none in cc no) (λ enough. grind (arith, nat_tests)) (cases_Bool (nat_lt 16 (length bearers)))

pub few_bearers : (tree : Members) → document_faults tree ≡ [] → length (config_of tree).bearers ≤ 16
unfolding config_of
few_bearers tree none = few (bearers_of (uplink_channels tree) (downlink_channels tree) tree) (together_none (uplink_channels tree) (downlink_channels tree) tree (bearers_none tree none))
