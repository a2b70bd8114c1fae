-- What waits after one damage more.
use Rattle.std.proofs.Common.{◌≡◌, ◌≢◌, ◌<◌, ◌∙◌, ℕ, suc, List, ◌∷◌, Bool, true, false, cond, not, ◌||◌, ◌&&◌, eqb, get_or, arith, ap, inl, inr, length, refl, subst, sym, get_or-set_same, get_or-set_other}
use Rattle.std.proofs.Math.ListN.{length-set}
use Rattle.std.proofs.lemmas.Bool.Decides.{eqb_tells}
use Rattle.std.proofs.lemmas.Nat.{xor_comm}
use Rattle.std.specs.Prelude.{bit_xor, Option}
use Rattle.dch_types.specs.declared.channel.Dir.{Dir}
use Rattle.dch_types.specs.declared.channel.Dir.TheVariants.{Up, Down}
use Rattle.dch_node.specs.Values.{Radio}
use Rattle.dch_damage.specs.Damage.{Damage, Flip, Lose, LoseIub, Spoil, flips, flips_at, is_iub_lost, is_lost, loses, loses_iub, mask_of, mask_on, same_dir}
use Rattle.dch_damage.specs.Tables.{IubTables, RadioTables, Tables, flipped, masked, radio_at, set_at, set_in, sets_at, turned_at, with_radio, with_set, with_sets}
use Rattle.dch_damage.specs.Turns.{next_turned, turned_of}
use Rattle.dch_damage.specs.Waiting.{AreTurns, IubWaits, RadioWaits, Waits}
use Rattle.dch_damage.specs.declared.turned.Turned.{Turned}
use Rattle.dch_damage.specs.declared.turned.Turned.TheVariants.{Not}
use Rattle.dch_damage.proofs.Sizes.{set_other, set_same}

dir_itself : (dir : Dir) → same_dir dir dir ≡ true
dir_itself Up = refl
dir_itself Down = refl

number_itself : (n : ℕ) → eqb n n ≡ true
number_itself n = elim (eqb_tells n n) [ inl same ↦ same.0 | inr other ↦ absurd (other.1 refl) ]

-- a damage that neither takes the radio frame away nor turns a place of it
radio_elsewhere : (one : Damage) (damage : List Damage) (dir : Dir) (tables : RadioTables) → loses one dir ≡ false → ((tfci : Bool) (place : ℕ) → flips_at one dir tfci place ≡ false)
    → RadioWaits damage dir tables → RadioWaits (one ∷ damage) dir tables
radio_elsewhere one damage dir tables keeps turns_none waits = record {
  lost = waits.lost ∙ sym (ap (λ b. b || is_lost damage dir) keeps);
  tfci = λ place early. waits.tfci place early ∙ sym (ap (λ b. turned_of (cond b (suc (flips damage dir true place)) (flips damage dir true place))) (turns_none true place));
  cells = λ place early. waits.cells place early ∙ sym (ap (λ b. turned_of (cond b (suc (flips damage dir false place)) (flips damage dir false place))) (turns_none false place));
}

-- a damage that neither takes the Iub frame away nor spoils an octet of it
iub_elsewhere : (one : Damage) (damage : List Damage) (dir : Dir) (set : ℕ) (tables : IubTables) → loses_iub one dir set ≡ false → ((k : ℕ) → mask_of one dir set k ≡ 0)
    → IubWaits damage dir set tables → IubWaits (one ∷ damage) dir set tables
iub_elsewhere one damage dir set tables keeps none waits = record {
  lost = waits.lost ∙ sym (ap (λ b. b || is_iub_lost damage dir set) keeps);
  masks = λ k early. waits.masks k early ∙ sym (ap (λ mask. bit_xor mask (mask_on damage dir set k)) (none k));
}

-- one turn more of a place
turns_more : (table : List Turned) (place : ℕ) (turns more : ℕ → ℕ) → AreTurns table turns → more place ≡ suc (turns place) → ((other : ℕ) → other ≢ place → more other ≡ turns other)
    → AreTurns (turned_at table place) more
turns_more table place turns more are here elsewhere = λ k early. elim (eqb_tells k place) [
  | inl same ↦ (
      let inside : place < length table = omega (arith, same.1, length-set table place (next_turned (get_or table place Not))) in
      ap (λ n. get_or (turned_at table place) n Not) same.1 ∙ get_or-set_same table place _ Not inside
      ∙ ap next_turned (are place inside) ∙ sym (ap turned_of here) ∙ ap (λ n. turned_of (more n)) (sym same.1)
      )
  | inr other ↦ (
      let inside : k < length table = omega (arith, length-set table place (next_turned (get_or table place Not))) in
      get_or-set_other table place k _ Not other.1 ∙ are k inside ∙ ap turned_of (sym (elsewhere k other.1))
      )
]

-- another place than this one
place_other : (place other : ℕ) → other ≢ place → eqb place other ≡ false
place_other place other apart = elim (eqb_tells place other) [ inl same ↦ absurd (apart (sym same.1)) | inr differ ↦ differ.0 ]

-- the turns of a part after a flip of a place of it
here_turned : (damage : List Damage) (dir : Dir) (tfci : Bool) (place : ℕ) → flips (Flip dir tfci place ∷ damage) dir tfci place ≡ suc (flips damage dir tfci place)
here_turned damage dir true place = rw (dir_itself dir, number_itself place) refl
here_turned damage dir false place = rw (dir_itself dir, number_itself place) refl

else_turned : (damage : List Damage) (dir : Dir) (tfci : Bool) (place other : ℕ) → other ≢ place → flips (Flip dir tfci place ∷ damage) dir tfci other ≡ flips damage dir tfci other
else_turned damage dir true place other apart = rw (dir_itself dir, place_other place other apart) refl
else_turned damage dir false place other apart = rw (dir_itself dir, place_other place other apart) refl

-- the turns of the other part
part_turned : (damage : List Damage) (dir : Dir) (tfci : Bool) (place other : ℕ) → flips (Flip dir tfci place ∷ damage) dir (not tfci) other ≡ flips damage dir (not tfci) other
part_turned damage dir true place other = rw (dir_itself dir) refl
part_turned damage dir false place other = rw (dir_itself dir) refl

-- a place of a direction's radio frame is turned over once more
flipped_waits : (damage : List Damage) (dir : Dir) (tfci : Bool) (place : ℕ) (tables : RadioTables) → RadioWaits damage dir tables → RadioWaits (Flip dir tfci place ∷ damage) dir (flipped tables tfci place)
flipped_waits damage dir true place tables waits = record {
  lost = waits.lost;
  tfci = turns_more tables.tfci place (flips damage dir true) (flips (Flip dir true place ∷ damage) dir true) waits.tfci (here_turned damage dir true place) (else_turned damage dir true place);
  cells = λ other early. waits.cells other early ∙ ap turned_of (sym (part_turned damage dir true place other));
}
flipped_waits damage dir false place tables waits = record {
  lost = waits.lost;
  tfci = λ other early. waits.tfci other early ∙ ap turned_of (sym (part_turned damage dir false place other));
  cells = turns_more tables.cells place (flips damage dir false) (flips (Flip dir false place ∷ damage) dir false) waits.cells (here_turned damage dir false place) (else_turned damage dir false place);
}

-- a direction's radio frame is lost
lost_waits : (damage : List Damage) (dir : Dir) (tables : RadioTables) → RadioWaits damage dir tables → RadioWaits (Lose dir ∷ damage) dir (record tables { lost = true })
lost_waits damage dir tables waits = record {
  lost = rw (dir_itself dir) refl;
  tfci = waits.tfci;
  cells = waits.cells;
}

-- a damage to one direction's radio frame alone
radio_waits : (one : Damage) (damage : List Damage) (dir : Dir) (radio : RadioTables) (tables : Tables)
    → ((other : Dir) → same_dir dir other ≡ false → RadioWaits (one ∷ damage) other (radio_at tables other))
    → ((other : Dir) (set : ℕ) → loses_iub one other set ≡ false) → ((other : Dir) (set k : ℕ) → mask_of one other set k ≡ 0)
    → RadioWaits (one ∷ damage) dir radio → Waits damage tables → Waits (one ∷ damage) (with_radio tables dir radio)
radio_waits one damage Up radio tables elsewhere keeps none here waits = record {
  radio = λ other. elim other as (λ o. RadioWaits (one ∷ damage) o (radio_at (with_radio tables Up radio) o)) [ Up ↦ here | Down ↦ elsewhere Down refl ];
  iub = λ other set few. elim other as (λ o. IubWaits (one ∷ damage) o set (set_at (with_radio tables Up radio) o set)) [
    | Up ↦ iub_elsewhere one damage Up set _ (keeps Up set) (none Up set) (waits.iub Up set few)
    | Down ↦ iub_elsewhere one damage Down set _ (keeps Down set) (none Down set) (waits.iub Down set few)
  ];
}
radio_waits one damage Down radio tables elsewhere keeps none here waits = record {
  radio = λ other. elim other as (λ o. RadioWaits (one ∷ damage) o (radio_at (with_radio tables Down radio) o)) [ Up ↦ elsewhere Up refl | Down ↦ here ];
  iub = λ other set few. elim other as (λ o. IubWaits (one ∷ damage) o set (set_at (with_radio tables Down radio) o set)) [
    | Up ↦ iub_elsewhere one damage Up set _ (keeps Up set) (none Up set) (waits.iub Up set few)
    | Down ↦ iub_elsewhere one damage Down set _ (keeps Down set) (none Down set) (waits.iub Down set few)
  ];
}

-- the damage that waits after a flip
pub waits_flip : (dir : Dir) (tfci : Bool) (place : ℕ) (damage : List Damage) (tables : Tables) → Waits damage tables
    → Waits (Flip dir tfci place ∷ damage) (with_radio tables dir (flipped (radio_at tables dir) tfci place))
waits_flip dir tfci place damage tables waits =
    radio_waits (Flip dir tfci place) damage dir _ tables
    (λ other apart. radio_elsewhere (Flip dir tfci place) damage other (radio_at tables other) refl (λ part p. rw apart refl) (waits.radio other))
    (λ other set. refl) (λ other set k. refl)
    (flipped_waits damage dir tfci place (radio_at tables dir) (waits.radio dir)) waits

-- the damage that waits after the loss of a radio frame
pub waits_lose : (dir : Dir) (damage : List Damage) (tables : Tables) → Waits damage tables
    → Waits (Lose dir ∷ damage) (with_radio tables dir (record (radio_at tables dir) { lost = true }))
waits_lose dir damage tables waits =
    radio_waits (Lose dir) damage dir _ tables
    (λ other apart. radio_elsewhere (Lose dir) damage other (radio_at tables other) apart (λ part p. refl) (waits.radio other))
    (λ other set. refl) (λ other set k. refl)
    (lost_waits damage dir (radio_at tables dir) (waits.radio dir)) waits

-- what waits for the sets of a direction, where one of them has changed
one_set_waits : (damage : List Damage) (dir : Dir) (s : ℕ) (change : IubTables → IubTables) (sets : List IubTables) (t : ℕ) → s < length sets
    → IubWaits damage dir s (change (set_in sets s)) → (t ≢ s → IubWaits damage dir t (set_in sets t)) → IubWaits damage dir t (set_in (with_set sets s change) t)
one_set_waits damage dir s change sets t inside here rest = elim (eqb_tells t s) [
  | inl same ↦ subst (λ n. IubWaits damage dir n (set_in (with_set sets s change) n)) (sym same.1)
      (subst (λ (set : IubTables). IubWaits damage dir s set) (sym (set_same sets s change inside)) here)
  | inr other ↦ subst (λ (set : IubTables). IubWaits damage dir t set) (sym (set_other sets s change t other.1)) (rest other.1)
]

-- a damage to the Iub frame of one direction's set alone
set_waits : (one : Damage) (damage : List Damage) (dir : Dir) (s : ℕ) (change : IubTables → IubTables) (tables : Tables) → s < length (sets_at tables dir)
    → ((other : Dir) → loses one other ≡ false) → ((other : Dir) (tfci : Bool) (place : ℕ) → flips_at one other tfci place ≡ false)
    → ((other : Dir) (set : ℕ) → (same_dir dir other && eqb s set) ≡ false → loses_iub one other set ≡ false)
    → ((other : Dir) (set k : ℕ) → (same_dir dir other && eqb s set) ≡ false → mask_of one other set k ≡ 0)
    → IubWaits (one ∷ damage) dir s (change (set_at tables dir s)) → Waits damage tables → Waits (one ∷ damage) (with_sets tables dir (with_set (sets_at tables dir) s change))
set_waits one damage Up s change tables inside keeps turns_none keeps_iub none here waits = record {
  radio = λ other. elim other as (λ o. RadioWaits (one ∷ damage) o (radio_at (with_sets tables Up (with_set tables.up_sets s change)) o)) [
    | Up ↦ radio_elsewhere one damage Up _ (keeps Up) (turns_none Up) (waits.radio Up)
    | Down ↦ radio_elsewhere one damage Down _ (keeps Down) (turns_none Down) (waits.radio Down)
  ];
  iub = λ other set few. elim other as (λ o. IubWaits (one ∷ damage) o set (set_at (with_sets tables Up (with_set tables.up_sets s change)) o set)) [
    | Up ↦ one_set_waits (one ∷ damage) Up s change tables.up_sets set inside here
        (λ apart. iub_elsewhere one damage Up set _ (keeps_iub Up set (place_other s set apart)) (λ k. none Up set k (place_other s set apart)) (waits.iub Up set few))
    | Down ↦ iub_elsewhere one damage Down set _ (keeps_iub Down set refl) (λ k. none Down set k refl) (waits.iub Down set few)
  ];
}
set_waits one damage Down s change tables inside keeps turns_none keeps_iub none here waits = record {
  radio = λ other. elim other as (λ o. RadioWaits (one ∷ damage) o (radio_at (with_sets tables Down (with_set tables.down_sets s change)) o)) [
    | Up ↦ radio_elsewhere one damage Up _ (keeps Up) (turns_none Up) (waits.radio Up)
    | Down ↦ radio_elsewhere one damage Down _ (keeps Down) (turns_none Down) (waits.radio Down)
  ];
  iub = λ other set few. elim other as (λ o. IubWaits (one ∷ damage) o set (set_at (with_sets tables Down (with_set tables.down_sets s change)) o set)) [
    | Up ↦ iub_elsewhere one damage Up set _ (keeps_iub Up set refl) (λ k. none Up set k refl) (waits.iub Up set few)
    | Down ↦ one_set_waits (one ∷ damage) Down s change tables.down_sets set inside here
        (λ apart. iub_elsewhere one damage Down set _ (keeps_iub Down set (place_other s set apart)) (λ k. none Down set k (place_other s set apart)) (waits.iub Down set few))
  ];
}

-- the damage that waits after the loss of an Iub frame
pub waits_lose_iub : (dir : Dir) (s : ℕ) (damage : List Damage) (tables : Tables) → s < 8 → s < length (sets_at tables dir) → Waits damage tables
    → Waits (LoseIub dir s ∷ damage) (with_sets tables dir (with_set (sets_at tables dir) s (λ set. record set { lost = true })))
waits_lose_iub dir s damage tables few inside waits =
    set_waits (LoseIub dir s) damage dir s (λ set. record set { lost = true }) tables inside (λ other. refl) (λ other tfci place. refl) (λ other set differ. differ) (λ other set k differ. refl)
    (record { lost = rw (dir_itself dir, number_itself s) refl; masks = (waits.iub dir s few).masks })
    waits

-- a mask more of an octet
masks_more : (masks : List ℕ) (octet mask : ℕ) (on more : ℕ → ℕ) → ((k : ℕ) → k < length masks → get_or masks k 0 ≡ on k) → more octet ≡ bit_xor mask (on octet)
    → ((k : ℕ) → k ≢ octet → more k ≡ on k) → (k : ℕ) → k < length (masked masks octet mask) → get_or (masked masks octet mask) k 0 ≡ more k
masks_more masks octet mask on more are here elsewhere k early = elim (eqb_tells k octet) [
  | inl same ↦ (
      let inside : octet < length masks = omega (arith, same.1, length-set masks octet (bit_xor (get_or masks octet 0) mask)) in
      ap (λ n. get_or (masked masks octet mask) n 0) same.1 ∙ get_or-set_same masks octet _ 0 inside
      ∙ xor_comm (get_or masks octet 0) mask ∙ ap (bit_xor mask) (are octet inside) ∙ sym here ∙ ap more (sym same.1)
      )
  | inr other ↦ (
      let inside : k < length masks = omega (arith, length-set masks octet (bit_xor (get_or masks octet 0) mask)) in
      get_or-set_other masks octet k _ 0 other.1 ∙ are k inside ∙ sym (elsewhere k other.1)
      )
]

-- the damage that waits after an octet of an Iub frame was spoiled
pub waits_spoil : (dir : Dir) (s octet mask : ℕ) (damage : List Damage) (tables : Tables) → s < 8 → s < length (sets_at tables dir) → Waits damage tables
    → Waits (Spoil dir s octet mask ∷ damage) (with_sets tables dir (with_set (sets_at tables dir) s (λ set. record set { masks = masked set.masks octet mask })))
waits_spoil dir s octet mask damage tables few inside waits =
    let was : IubWaits damage dir s (set_at tables dir s) = waits.iub dir s few in
    set_waits (Spoil dir s octet mask) damage dir s (λ set. record set { masks = masked set.masks octet mask }) tables inside (λ other. refl) (λ other tfci place. refl) (λ other set differ. refl)
    (λ other set k differ. rw differ refl)
    (record {
      lost = was.lost;
      masks = masks_more (set_at tables dir s).masks octet mask (mask_on damage dir s) (mask_on (Spoil dir s octet mask ∷ damage) dir s) was.masks
          (rw (dir_itself dir, number_itself s, number_itself octet) refl)
          (λ k apart. rw (dir_itself dir, number_itself s, place_other octet k apart) refl);
    })
    waits

-- what waits doesn't depend on what arrived
pub waits_arrived : (damage : List Damage) (tables : Tables) (radio : Option (Option Radio)) (iub : Option (Option (List ℕ))) → Waits damage tables → Waits damage (record tables { radio = radio; iub = iub })
waits_arrived damage tables radio iub waits = record {
  radio = λ dir. elim dir as (λ d. RadioWaits damage d (radio_at (record tables { radio = radio; iub = iub }) d)) [ Up ↦ waits.radio Up | Down ↦ waits.radio Down ];
  iub = λ dir set few. elim dir as (λ d. IubWaits damage d set (set_at (record tables { radio = radio; iub = iub }) d set)) [ Up ↦ waits.iub Up set few | Down ↦ waits.iub Down set few ];
}
