-- What a channel keeps by its keys.
use Rattle.std.proofs.Common.{◌≡◌, ◌<◌, ◌≤◌, ◌+◌, ◌==◌, ℕ, zero, suc, Bool, true, false, List, [], ◌∷◌, length, get_or, take, Option, Some, None, refl, ap, ap₂, sym, ◌∙◌, subst, ⊎_elim, arith, inl, inr, ◌⊎◌, eq-eqb, length-take}
use Rattle.std.proofs.lemmas.List.{get_or-take}
use Rattle.std.proofs.lemmas.Bool.Decides.{eqb_tells}
use Rattle.std.specs.Prelude.{codes, unwrap_or}
use Rattle.std.specs.List.{list_any}
use Rattle.std.specs.Option.{option_map_or}
use Rattle.std.proofs.lemmas.Bool.{cases_Bool}
use Rattle.toml.specs.Data.{Items, no_items, item, Members, no_members, as_table}
use Rattle.dch_types.specs.declared.channel.Trch.{Trch}
use Rattle.dch_types.specs.Limits.{IsFrames}
use Rattle.dch_tree.specs.declared.fault.Fault.{Fault}
use Rattle.dch_tree.specs.declared.side.SetTti.{SetTti}
use Rattle.dch_tree.specs.Faults.{element_path}
use Rattle.dch_tree.specs.Rules.{number_within, frames_of_tti}
use Rattle.dch_tree.specs.Tables.{reading, value_of, field, items_faults, items_values, indexed}
use Rattle.dch_tree.specs.Channels.{channel_faults, channel_of}
use Rattle.dch_tree.specs.Sides.{both, sets_and_ttis, clashes, clashes_with, set_faults, set_fault}
use Rattle.dch_tree.proofs.Kept.{front_none, back_none}
use Rattle.dch_tree.proofs.Ranges.{field_keeps, required_some, number_within_keeps, frames_keep}

-- the ranges of a channel's keys, whatever its table says
pub record KeepsRanges (channel : Trch) : Type 0 where
  pub frames : IsFrames channel.frames
  pub rm : (1 ≤ channel.rm) × (channel.rm ≤ 256)
  pub set : channel.set ≤ 7

pub channel_keeps : (ms : Members) → KeepsRanges (channel_of ms)
unfolding channel_of
channel_keeps ms = record {
  frames = field_keeps IsFrames 1 frames_of_tti (codes "tti") ms (inl refl) frames_keep;
  rm = field_keeps (λ n. (1 ≤ n) × (n ≤ 256)) 1 (number_within 1 256) (codes "rm") ms (omega arith, omega arith) (number_within_keeps 1 256);
  set = field_keeps (λ n. n ≤ 7) 0 (number_within 0 7) (codes "set") ms (omega arith) (λ d x e. (number_within_keeps 0 7 d x e).1);
}

-- a member of a list of tables is what some table says
pub values_at : {A : Type 0} (value : Members → A) (items : Items) (i : ℕ) (d : A) → i < length (items_values value items) → (ms : Members) × (get_or (items_values value items) i d ≡ value ms)
unfolding items_values
values_at value no_items i d inside = absurd (omega arith)
values_at value (item x xs) zero d inside = (unwrap_or (as_table x) no_members, refl)
values_at value (item x xs) (suc i) d inside = values_at value xs i d (omega arith)

-- a member without faults is a table without faults
table_of : (faults : List ℕ → Members → List Fault) (path key : List ℕ) (i : ℕ) (o : Option Members) (f : Fault) → option_map_or (λ ms. faults (element_path path key i) ms) o (f ∷ []) ≡ []
    → (ms : Members) × (o ≡ Some ms) × (faults (element_path path key i) ms ≡ [])
table_of faults path key i None f e = cc
table_of faults path key i (Some ms) f e = (ms, refl, e)

pub record IsClean (faults : List ℕ → Members → List Fault) (ms : Members) : Type 0 where
  pub path : List ℕ
  pub none : faults path ms ≡ []

pub clean_at : {A : Type 0} (faults : List ℕ → Members → List Fault) (value : Members → A) (path key : List ℕ) (k : ℕ) (items : Items) → items_faults faults path key k items ≡ []
    → (i : ℕ) (d : A) → i < length (items_values value items) → (ms : Members) × IsClean faults ms × (get_or (items_values value items) i d ≡ value ms)
unfolding items_faults items_values
clean_at faults value path key k no_items none i d inside = absurd (omega arith)
clean_at faults value path key k (item x xs) none zero d inside =
    let (ms, is, clean) = table_of faults path key k (as_table x) _ (front_none _ _ none) in
    (ms, record { path = element_path path key k; none = clean }, ap (λ o. value (unwrap_or o no_members)) is)
clean_at faults value path key k (item x xs) none (suc i) d inside = clean_at faults value path key (k + 1) xs (back_none _ _ none) i d (omega arith)

-- the set and the TTI of a channel without faults
pair_of : (path : List ℕ) (ms : Members) → channel_faults path ms ≡ []
    → both (value_of (reading (number_within 0 7) (codes "set") ms)) (value_of (reading frames_of_tti (codes "tti") ms)) ≡ Some (record { set = (channel_of ms).set; frames = (channel_of ms).frames })
unfolding channel_faults channel_of
pair_of path ms none =
    let to_set = front_none _ _ none in
    let to_rm = front_none _ _ to_set in
    let to_crc = front_none _ _ to_rm in
    let to_code = front_none _ _ to_crc in
    let to_tti = front_none _ _ to_code in
    let set : reading (number_within 0 7) (codes "set") ms ≡ Some (Some (field 0 (number_within 0 7) (codes "set") ms)) = required_some _ _ 0 (back_none _ _ to_set) in
    let tti : reading frames_of_tti (codes "tti") ms ≡ Some (Some (field 1 frames_of_tti (codes "tti") ms)) = required_some _ _ 1 (back_none _ _ to_tti) in
    ap₂ (λ s f. both (value_of s) (value_of f)) set tti

pub pairs_at : (path key : List ℕ) (k : ℕ) (items : Items) → items_faults channel_faults path key k items ≡ [] → (i : ℕ) (d : Trch) → i < length (items_values channel_of items)
    → get_or (sets_and_ttis items) i None ≡ Some (record { set = (get_or (items_values channel_of items) i d).set; frames = (get_or (items_values channel_of items) i d).frames })
unfolding items_faults items_values sets_and_ttis
pairs_at path key k no_items none i d inside = absurd (omega arith)
pairs_at path key k (item x xs) none zero d inside =
    let (ms, is, clean) = table_of channel_faults path key k (as_table x) _ (front_none _ _ none) in
    rw is (pair_of (element_path path key k) ms clean)
pairs_at path key k (item x xs) none (suc i) d inside = pairs_at path key (k + 1) xs (back_none _ _ none) i d (omega arith)

pub length-pairs : (items : Items) → length (sets_and_ttis items) ≡ length (items_values channel_of items)
unfolding sets_and_ttis items_values
length-pairs no_items = refl
length-pairs (item x xs) = ap (λ n. suc n) (length-pairs xs)

-- a test that no place passes
pub none_listed : {A : Type 0} (p : A → Bool) (xs : List A) → list_any p xs ≡ false → (i : ℕ) (d : A) → i < length xs → p (get_or xs i d) ≡ false
none_listed p [] none i d inside = absurd (omega arith)
none_listed p (x ∷ xs) none zero d inside = ⊎_elim (λ here. let no = rw here at none in cc no) (λ not_here. not_here) (cases_Bool (p x))
none_listed p (x ∷ xs) none (suc i) d inside =
    ⊎_elim (λ here. let no = rw here at none in cc no) (λ not_here. none_listed p xs (rw not_here at none) i d (omega arith)) (cases_Bool (p x))

no_fault : (path : List ℕ) (i : ℕ) (clash : Bool) → set_fault path i clash ≡ [] → clash ≡ false
no_fault path i true e = cc
no_fault path i false e = refl

no_clash : (a b : SetTti) → clashes_with a (Some b) ≡ false → a.set ≡ b.set → a.frames ≡ b.frames
no_clash a b e same =
    ⊎_elim (λ (told, equal). equal)
    (λ (told, other). let sets : (a.set == b.set) ≡ true = eq-eqb a.set b.set same in let no = rw (sets, told) at e in cc no)
    (eqb_tells a.frames b.frames)

-- no fault at any place
pub indexed_none : (faults : ℕ → List Fault) (n : ℕ) → indexed faults n ≡ [] → (i : ℕ) → i < n → faults i ≡ []
unfolding indexed
indexed_none faults zero none i inside = absurd (omega arith)
indexed_none faults (suc n) none i inside =
    ⊎_elim (λ before. indexed_none faults n (front_none _ _ none) i before) (λ here. subst (λ j. faults j ≡ []) (sym here) (back_none _ _ none)) (split i n inside)
  where
    split : (i n : ℕ) → i < suc n → (i < n) ⊎ (i ≡ n)
    split i n inside = ⊎_elim (λ (told, equal). inr equal) (λ (told, other). inl (omega arith)) (eqb_tells i n)

-- channels of one set have one TTI
pub sets_kept : (path key : List ℕ) (items : Items) → items_faults channel_faults path key 0 items ≡ []
    → indexed (set_faults path (sets_and_ttis items)) (length (sets_and_ttis items)) ≡ []
    → (i j : ℕ) (d : Trch) → i < j → j < length (items_values channel_of items)
    → (get_or (items_values channel_of items) i d).set ≡ (get_or (items_values channel_of items) j d).set
    → (get_or (items_values channel_of items) i d).frames ≡ (get_or (items_values channel_of items) j d).frames
sets_kept path key items clean apart i j d before inside same =
    let channels : List Trch = items_values channel_of items in
    let pairs : List (Option SetTti) = sets_and_ttis items in
    let a : SetTti = record { set = (get_or channels i d).set; frames = (get_or channels i d).frames } in
    let b : SetTti = record { set = (get_or channels j d).set; frames = (get_or channels j d).frames } in
    let within : j < length pairs = rw length-pairs inside in
    let at_i : get_or pairs i None ≡ Some a = pairs_at path key 0 items clean i d (omega arith) in
    let at_j : get_or pairs j None ≡ Some b = pairs_at path key 0 items clean j d inside in
    let free : clashes (get_or pairs j None) (take j pairs) ≡ false = no_fault path j _ (indexed_none (set_faults path pairs) (length pairs) apart j within) in
    let none : list_any (clashes_with b) (take j pairs) ≡ false = subst (λ o. clashes o (take j pairs) ≡ false) at_j free in
    let short : i < length (take j pairs) = rw length-take (omega arith) in
    let here : clashes_with b (get_or (take j pairs) i None) ≡ false = none_listed (clashes_with b) (take j pairs) none i None short in
    let there : get_or (take j pairs) i None ≡ Some a = get_or-take j pairs i None before ∙ at_i in
    sym (no_clash b a (subst (λ o. clashes_with b o ≡ false) there here) (sym same))
