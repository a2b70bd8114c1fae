-- What bearers keep that share a channel.
use Rattle.std.proofs.Common.{◌≡◌, ◌≢◌, ◌<◌, ◌≤◌, ◌+◌, ◌-◌, ◌==◌, ◌&&◌, ◌||◌, ℕ, zero, suc, Bool, true, false, List, [], ◌⊎◌, inl, inr, length, get_or, take, drop, Option, Some, None, refl, ap, ap₂, sym, ◌∙◌, subst, ⊎_elim, arith, eq-eqb, nat_lt, length-take, length-drop}
use Rattle.std.specs.List.{list_any}
use Rattle.std.proofs.lemmas.Bool.{cases_Bool}
use Rattle.std.proofs.lemmas.Bool.Decides.{nat_tests}
use Rattle.std.proofs.lemmas.List.{get_or-take, get_or-drop}
use Rattle.std.proofs.lemmas.List.Folds.{list_any_at}
use Rattle.dch_types.specs.declared.bearer.Mode.{Mode}
use Rattle.dch_types.specs.declared.bearer.Mode.TheVariants.{Tm, Um, Am}
use Rattle.dch_types.specs.declared.bearer.Bearer.{Bearer}
use Rattle.dch_tree.specs.Bearers.{same_channel, shares, repeats, is_transparent, bearer_at, has_partner, fault_if, sharing_faults, together_faults}
use Rattle.dch_tree.proofs.Kept.{front_none, back_none}
use Rattle.dch_tree.proofs.Channels.{indexed_none, none_listed}

-- two bearers that name one channel are not transparent, and have logical channels that differ
pub record KeepsSharing (a b : Bearer) : Type 0 where
  pub mode : a.mode ≢ Tm
  pub logical : 1 ≤ a.logical
  pub other : a.logical ≢ b.logical

no_fault : (wrong : Bool) (key : List ℕ) (b : ℕ) → fault_if wrong key b ≡ [] → wrong ≡ false
no_fault true key b e = cc
no_fault false key b e = refl

no_fault_at : (bearers : List Bearer) → together_faults bearers ≡ [] → (b : ℕ) → b < length bearers → sharing_faults bearers b ≡ []
no_fault_at bearers none b inside =
    ⊎_elim (λ more. let no = rw more at none in cc no) (λ few. indexed_none (sharing_faults bearers) (length bearers) (rw few at none) b inside) (cases_Bool (nat_lt 16 (length bearers)))

abbrev none : Bearer
none = bearer_at [] 0

or_true : (a b : Bool) → (a ≡ true) ⊎ (b ≡ true) → (a || b) ≡ true
or_true true b e = refl
or_true false b e = ⊎_elim (λ no. cc no) (λ here. here) e

same_channel-sym : (a b : Option ℕ) → same_channel a b ≡ same_channel b a
same_channel-sym None None = refl
same_channel-sym None (Some j) = refl
same_channel-sym (Some i) None = refl
same_channel-sym (Some i) (Some j) = let e : (i == j) ≡ (j == i) = grind (arith, nat_tests) in e

shares-sym : (a b : Bearer) → shares a b ≡ shares b a
shares-sym a b = ap₂ (λ u d. u || d) (same_channel-sym a.up b.up) (same_channel-sym a.down b.down)

order : (b c : ℕ) → b ≢ c → (c < b) ⊎ (b < c)
order b c other = ⊎_elim (λ before. let h : c < b = grind (arith, nat_tests) in inl h) (λ after. let h : b ≤ c = grind (arith, nat_tests) in inr (omega arith)) (cases_Bool (nat_lt c b))

-- a bearer that shares a channel has a partner
partner : (bearers : List Bearer) (b c : ℕ) → c < length bearers → b ≢ c → shares (bearer_at bearers b) (bearer_at bearers c) ≡ true → has_partner bearers b ≡ true
partner bearers b c inside other shared =
    or_true (list_any (shares (bearer_at bearers b)) (take b bearers)) (list_any (shares (bearer_at bearers b)) (drop (b + 1) bearers))
    (⊎_elim
    (λ (before : c < b).
    let short : c < length (take b bearers) = rw length-take (omega arith) in
    let there : get_or (take b bearers) c none ≡ bearer_at bearers c = get_or-take b bearers c none before in
    inl (list_any_at (shares (bearer_at bearers b)) (take b bearers) c none short (subst (λ x. shares (bearer_at bearers b) x ≡ true) (sym there) shared)))
    (λ (after : b < c).
    let place : b + 1 + (c - (b + 1)) ≡ c = omega arith in
    let short : c - (b + 1) < length (drop (b + 1) bearers) = rw length-drop (omega arith) in
    let there : get_or (drop (b + 1) bearers) (c - (b + 1)) none ≡ bearer_at bearers c = get_or-drop (b + 1) bearers (c - (b + 1)) none ∙ ap (bearer_at bearers) place in
    inr (list_any_at (shares (bearer_at bearers b)) (drop (b + 1) bearers) (c - (b + 1)) none short (subst (λ x. shares (bearer_at bearers b) x ≡ true) (sym there) shared)))
    (order b c other))

unshared_mode : (partner : Bool) (mode : Mode) → (partner && is_transparent mode) ≡ false → partner ≡ true → mode ≢ Tm
unshared_mode true Tm e is same = cc
unshared_mode true Um e is same = cc
unshared_mode true Am e is same = cc
unshared_mode false mode e is same = cc

some_logical : (partner : Bool) (n : ℕ) → (partner && n == 0) ≡ false → partner ≡ true → 1 ≤ n
some_logical true zero e is = cc
some_logical true (suc n) e is = omega arith
some_logical false n e is = cc

not_repeated : (a b : Bearer) → repeats a b ≡ false → shares a b ≡ true → 1 ≤ a.logical → a.logical ≢ b.logical
not_repeated a b e shared some same =
    let equal : (a.logical == b.logical) ≡ true = eq-eqb a.logical b.logical same in
    let above : nat_lt 0 a.logical ≡ true = grind (arith, nat_tests) in
    let no = rw (shared, equal, above) at e in cc no

logical_of : (bearers : List Bearer) → together_faults bearers ≡ [] → (b c : ℕ) → b < length bearers → c < length bearers → b ≢ c → shares (bearer_at bearers b) (bearer_at bearers c) ≡ true → 1 ≤ (bearer_at bearers b).logical
logical_of bearers clean b c inside within other shared =
    some_logical (has_partner bearers b) (bearer_at bearers b).logical
    (no_fault _ _ b (front_none _ _ (front_none _ _ (no_fault_at bearers clean b inside)))) (partner bearers b c within other shared)

later_differs : (bearers : List Bearer) → together_faults bearers ≡ [] → (b c : ℕ) → b < length bearers → c < b → shares (bearer_at bearers b) (bearer_at bearers c) ≡ true
    → 1 ≤ (bearer_at bearers b).logical → (bearer_at bearers b).logical ≢ (bearer_at bearers c).logical
later_differs bearers clean b c inside before shared some =
    let short : c < length (take b bearers) = rw length-take (omega arith) in
    let there : get_or (take b bearers) c none ≡ bearer_at bearers c = get_or-take b bearers c none before in
    let free : list_any (repeats (bearer_at bearers b)) (take b bearers) ≡ false = no_fault _ _ b (back_none _ _ (front_none _ _ (no_fault_at bearers clean b inside))) in
    let here : repeats (bearer_at bearers b) (get_or (take b bearers) c none) ≡ false = none_listed (repeats (bearer_at bearers b)) (take b bearers) free c none short in
    not_repeated (bearer_at bearers b) (bearer_at bearers c) (subst (λ x. repeats (bearer_at bearers b) x ≡ false) there here) shared some

pub sharing_kept : (bearers : List Bearer) → together_faults bearers ≡ [] → (b c : ℕ) → b < length bearers → c < length bearers → b ≢ c
    → shares (bearer_at bearers b) (bearer_at bearers c) ≡ true → KeepsSharing (bearer_at bearers b) (bearer_at bearers c)
sharing_kept bearers clean b c inside within other shared =
    let back : shares (bearer_at bearers c) (bearer_at bearers b) ≡ true = shares-sym (bearer_at bearers c) (bearer_at bearers b) ∙ shared in
    let logical : 1 ≤ (bearer_at bearers b).logical = logical_of bearers clean b c inside within other shared in
    let logical_back : 1 ≤ (bearer_at bearers c).logical = logical_of bearers clean c b within inside (λ same. other (sym same)) back in
    record {
      mode = unshared_mode (has_partner bearers b) (bearer_at bearers b).mode (no_fault _ _ b (back_none _ _ (no_fault_at bearers clean b inside))) (partner bearers b c within other shared);
      logical = logical;
      other = ⊎_elim
          (λ (before : c < b). later_differs bearers clean b c inside before shared logical)
          (λ (after : b < c). λ same. later_differs bearers clean c b within after back logical_back (sym same))
          (order b c other);
    }
