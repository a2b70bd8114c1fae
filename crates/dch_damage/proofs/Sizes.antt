-- Tables that were opened for a configuration stay so while they keep their sizes.
use Rattle.std.proofs.Common.{◌≡◌, ◌≢◌, ◌<◌, ◌≤◌, ◌∙◌, ℕ, List, Bool, true, false, ap, inl, inr, length, refl, subst, sym, get_or-set_same, get_or-set_other}
use Rattle.std.proofs.Math.ListN.{length-set}
use Rattle.std.proofs.lemmas.Bool.Decides.{eqb_tells}
use Rattle.std.proofs.lemmas.List.{length-replicate}
use Rattle.std.specs.Prelude.{Option}
use Rattle.dch_types.specs.declared.channel.Dir.{Dir}
use Rattle.dch_types.specs.declared.channel.Dir.TheVariants.{Up, Down}
use Rattle.dch_accept.specs.Plans.{Planned}
use Rattle.dch_node.specs.Values.{Radio}
use Rattle.dch_accept.specs.Frames.{tfci_bits}
use Rattle.dch_damage.specs.Opened.{AreClearedTo, HoldsCells, HoldsOctets, IsDamageOf}
use Rattle.dch_damage.specs.Tables.{IubTables, RadioTables, Tables, flipped, masked, radio_at, radio_cleared, set_at, set_in, sets_at, with_radio, with_set, with_sets}
use Rattle.dch_damage.specs.declared.turned.Turned.TheVariants.{Not}

-- tables with as many places as others
pub record AreAsLong (old new : Tables) : Type 0 where
  pub tfci : (dir : Dir) → length (radio_at new dir).tfci ≡ length (radio_at old dir).tfci
  pub cells : (dir : Dir) → length (radio_at new dir).cells ≡ length (radio_at old dir).cells
  pub masks : (dir : Dir) (set : ℕ) → set < 8 → length (set_at new dir set).masks ≡ length (set_at old dir set).masks

pub still_opened : (planned : Planned) (old new : Tables) → AreAsLong old new → IsDamageOf planned old → IsDamageOf planned new
still_opened planned old new long is = record {
  radio = λ dir. record {
    tfci = subst (λ n. tfci_bits planned.config dir ≤ n) (sym (long.tfci dir)) (is.radio dir).tfci;
    cells = subst (HoldsCells planned dir) (sym (long.cells dir)) (is.radio dir).cells;
  };
  iub = λ dir set few. subst (HoldsOctets planned dir set) (sym (long.masks dir set few)) (is.iub dir set few);
}

-- a direction's radio tables have changed
pub radio_as_long : (tables : Tables) (dir : Dir) (radio : RadioTables) → length radio.tfci ≡ length (radio_at tables dir).tfci → length radio.cells ≡ length (radio_at tables dir).cells
    → AreAsLong tables (with_radio tables dir radio)
radio_as_long tables Up radio tfci cells = record {
  tfci = λ other. elim other as (λ o. length (radio_at (with_radio tables Up radio) o).tfci ≡ length (radio_at tables o).tfci) [ Up ↦ tfci | Down ↦ refl ];
  cells = λ other. elim other as (λ o. length (radio_at (with_radio tables Up radio) o).cells ≡ length (radio_at tables o).cells) [ Up ↦ cells | Down ↦ refl ];
  masks = λ other set few. elim other as (λ o. length (set_at (with_radio tables Up radio) o set).masks ≡ length (set_at tables o set).masks) [ Up ↦ refl | Down ↦ refl ];
}
radio_as_long tables Down radio tfci cells = record {
  tfci = λ other. elim other as (λ o. length (radio_at (with_radio tables Down radio) o).tfci ≡ length (radio_at tables o).tfci) [ Up ↦ refl | Down ↦ tfci ];
  cells = λ other. elim other as (λ o. length (radio_at (with_radio tables Down radio) o).cells ≡ length (radio_at tables o).cells) [ Up ↦ refl | Down ↦ cells ];
  masks = λ other set few. elim other as (λ o. length (set_at (with_radio tables Down radio) o set).masks ≡ length (set_at tables o set).masks) [ Up ↦ refl | Down ↦ refl ];
}

-- a direction's sets have changed
pub sets_as_long : (tables : Tables) (dir : Dir) (sets : List IubTables) → ((s : ℕ) → s < 8 → length (set_in sets s).masks ≡ length (set_at tables dir s).masks)
    → AreAsLong tables (with_sets tables dir sets)
sets_as_long tables Up sets masks = record {
  tfci = λ other. elim other as (λ o. length (radio_at (with_sets tables Up sets) o).tfci ≡ length (radio_at tables o).tfci) [ Up ↦ refl | Down ↦ refl ];
  cells = λ other. elim other as (λ o. length (radio_at (with_sets tables Up sets) o).cells ≡ length (radio_at tables o).cells) [ Up ↦ refl | Down ↦ refl ];
  masks = λ other set few. elim other as (λ o. length (set_at (with_sets tables Up sets) o set).masks ≡ length (set_at tables o set).masks) [ Up ↦ masks set few | Down ↦ refl ];
}
sets_as_long tables Down sets masks = record {
  tfci = λ other. elim other as (λ o. length (radio_at (with_sets tables Down sets) o).tfci ≡ length (radio_at tables o).tfci) [ Up ↦ refl | Down ↦ refl ];
  cells = λ other. elim other as (λ o. length (radio_at (with_sets tables Down sets) o).cells ≡ length (radio_at tables o).cells) [ Up ↦ refl | Down ↦ refl ];
  masks = λ other set few. elim other as (λ o. length (set_at (with_sets tables Down sets) o set).masks ≡ length (set_at tables o set).masks) [ Up ↦ refl | Down ↦ masks set few ];
}

-- a flip changes no size
pub flip_as_long : (tables : Tables) (dir : Dir) (tfci : Bool) (place : ℕ) → AreAsLong tables (with_radio tables dir (flipped (radio_at tables dir) tfci place))
flip_as_long tables dir true place = radio_as_long tables dir _ (length-set (radio_at tables dir).tfci place _) refl
flip_as_long tables dir false place = radio_as_long tables dir _ refl (length-set (radio_at tables dir).cells place _)

-- the set that has changed
pub set_same : (sets : List IubTables) (s : ℕ) (change : IubTables → IubTables) → s < length sets → set_in (with_set sets s change) s ≡ change (set_in sets s)
set_same sets s change inside = get_or-set_same sets s _ _ inside

-- and the others
pub set_other : (sets : List IubTables) (s : ℕ) (change : IubTables → IubTables) (t : ℕ) → t ≢ s → set_in (with_set sets s change) t ≡ set_in sets t
set_other sets s change t apart = get_or-set_other sets s t _ _ apart

-- a change of a set that keeps its size
pub set_as_long : (tables : Tables) (dir : Dir) (s : ℕ) (change : IubTables → IubTables) → s < length (sets_at tables dir) → ((set : IubTables) → length (change set).masks ≡ length set.masks)
    → AreAsLong tables (with_sets tables dir (with_set (sets_at tables dir) s change))
set_as_long tables dir s change inside keeps =
    sets_as_long tables dir (with_set (sets_at tables dir) s change) (λ t few. elim (eqb_tells t s) [
      | inl same ↦ ap (λ n. length (set_in (with_set (sets_at tables dir) s change) n).masks) same.1 ∙ ap (λ (set : IubTables). length set.masks) (set_same (sets_at tables dir) s change inside)
          ∙ keeps (set_at tables dir s) ∙ ap (λ n. length (set_at tables dir n).masks) (sym same.1)
      | inr other ↦ ap (λ (set : IubTables). length set.masks) (set_other (sets_at tables dir) s change t other.1)
    ])

-- the loss of a radio frame changes no size
pub lose_as_long : (tables : Tables) (dir : Dir) → AreAsLong tables (with_radio tables dir (record (radio_at tables dir) { lost = true }))
lose_as_long tables dir = radio_as_long tables dir _ refl refl

-- nor does that of an Iub frame
pub lose_set_as_long : (tables : Tables) (dir : Dir) (s : ℕ) → s < length (sets_at tables dir)
    → AreAsLong tables (with_sets tables dir (with_set (sets_at tables dir) s (λ set. record set { lost = true })))
lose_set_as_long tables dir s inside = set_as_long tables dir s (λ set. record set { lost = true }) inside (λ set. refl)

-- nor a mask
pub spoil_set_as_long : (tables : Tables) (dir : Dir) (s octet mask : ℕ) → s < length (sets_at tables dir)
    → AreAsLong tables (with_sets tables dir (with_set (sets_at tables dir) s (λ set. record set { masks = masked set.masks octet mask })))
spoil_set_as_long tables dir s octet mask inside =
    set_as_long tables dir s (λ set. record set { masks = masked set.masks octet mask }) inside (λ set. length-set set.masks octet _)

-- nor what arrives
pub arrived_as_long : (tables : Tables) (radio : Option (Option Radio)) (iub : Option (Option (List ℕ))) → AreAsLong tables (record tables { radio = radio; iub = iub })
arrived_as_long tables radio iub = record {
  tfci = λ dir. elim dir as (λ d. length (radio_at (record tables { radio = radio; iub = iub }) d).tfci ≡ length (radio_at tables d).tfci) [ Up ↦ refl | Down ↦ refl ];
  cells = λ dir. elim dir as (λ d. length (radio_at (record tables { radio = radio; iub = iub }) d).cells ≡ length (radio_at tables d).cells) [ Up ↦ refl | Down ↦ refl ];
  masks = λ dir set few. elim dir as (λ d. length (set_at (record tables { radio = radio; iub = iub }) d set).masks ≡ length (set_at tables d set).masks) [ Up ↦ refl | Down ↦ refl ];
}

-- a direction's sets that are cleared
masks_as_long : (old new : List IubTables) (s : ℕ) → AreClearedTo 8 old new → s < 8 → length (set_in new s).masks ≡ length (set_in old s).masks
masks_as_long old new s cleared few = ap (λ (set : IubTables). length set.masks) (cleared.each s few) ∙ length-replicate (length (set_in old s).masks) 0

-- nor that nothing waits any more
pub cleared_as_long : (old : Tables) (up_sets down_sets : List IubTables) → AreClearedTo 8 old.up_sets up_sets → AreClearedTo 8 old.down_sets down_sets
    → AreAsLong old (record old { up = radio_cleared old.up; down = radio_cleared old.down; up_sets = up_sets; down_sets = down_sets })
cleared_as_long old up_sets down_sets up down = let new : Tables = record old { up = radio_cleared old.up; down = radio_cleared old.down; up_sets = up_sets; down_sets = down_sets } in record {
  tfci = λ dir. elim dir as (λ d. length (radio_at new d).tfci ≡ length (radio_at old d).tfci) [ Up ↦ length-replicate (length old.up.tfci) Not | Down ↦ length-replicate (length old.down.tfci) Not ];
  cells = λ dir. elim dir as (λ d. length (radio_at new d).cells ≡ length (radio_at old d).cells) [ Up ↦ length-replicate (length old.up.cells) Not | Down ↦ length-replicate (length old.down.cells) Not ];
  masks = λ dir set few. elim dir as (λ d. length (set_at new d set).masks ≡ length (set_at old d set).masks) [
    | Up ↦ masks_as_long old.up_sets up_sets set up few
    | Down ↦ masks_as_long old.down_sets down_sets set down few
  ];
}
