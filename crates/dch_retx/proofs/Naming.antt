-- What a status leaves of each PDU in flight.
use Rattle.std.proofs.Common.{◌≡◌, ◌<◌, ℕ, zero, suc, List, [], ◌∷◌, Bool, true, false, cond, not, ◌&&◌, ◌||◌, length, set, arith, refl, sym, ap, ap₂, ◌∙◌, subst}
use Rattle.std.specs.Prelude.{nat_lt, nat_le, min, ◌==◌}
use Rattle.std.proofs.lemmas.Bool.{both_ways, cond_both, eqb-true, eqb-false, lt-ltb, le-ltb}
use Rattle.std.proofs.lemmas.Bool.Decides.{nat_tests}
use Rattle.std.proofs.lemmas.List.{get_or-set_same, get_or-set_other}
use Rattle.dch_retx.specs.declared.sent_pdu.SentPdu.{SentPdu}
use Rattle.dch_retx.specs.Flights.{at, acknowledged, blank, changed_below, named_as, named_from}
use Rattle.dch_am.specs.Numbers.{less}
use Rattle.dch_retx.specs.StatusItems.{StatusItem}
use Rattle.dch_retx.specs.StatusItems.{Missing, Unset, Set, Below, Obeyed}
use Rattle.dch_retx.specs.StatusItem.{changed_at, is_named, names_place, place_of, with_name, with_names}
use Rattle.dch_retx.specs.RetxBuffer.{RetxBuffer, first_number, floor_of, named_line, told_line}
use Rattle.dch_retx.proofs.Lengths.{length-with_name, length-with_names}

-- one place is changed
at-changed_at : (change : SentPdu → SentPdu) (i : ℕ) (xs : List SentPdu) (j : ℕ) → j < length xs → at (changed_at change i xs) j ≡ cond (i == j) (change (at xs j)) (at xs j)
at-changed_at change i xs j l = go (i == j) refl
  where
    go : (b : Bool) → (i == j) ≡ b → at (changed_at change i xs) j ≡ cond b (change (at xs j)) (at xs j)
    go true e = let q : i ≡ j = eqb-true i j e in subst (λ k. at (changed_at change k xs) j ≡ change (at xs j)) (sym q) (ap (λ b. at (cond b (set xs j (change (at xs j))) xs) j) (lt-ltb j (length xs) l) ∙ get_or-set_same xs j (change (at xs j)) blank l)
    go false e = cond_both {A = List SentPdu} (nat_lt i (length xs)) (set xs i (change (at xs i))) xs (λ ys. at ys j ≡ at xs j) (λ _. get_or-set_other xs i j (change (at xs i)) blank (λ (q : j ≡ i). eqb-false i j e (sym q))) (λ _. refl)

-- the same where the change knows its place
at-named_at : (from to i : ℕ) (xs : List SentPdu) (j : ℕ) → j < length xs → at (changed_at (named_from from to i) i xs) j ≡ cond (i == j) (named_from from to j (at xs j)) (at xs j)
at-named_at from to i xs j l = at-changed_at (named_from from to i) i xs j l ∙ go (i == j) refl
  where
    go : (b : Bool) → (i == j) ≡ b → cond b (named_from from to i (at xs j)) (at xs j) ≡ cond b (named_from from to j (at xs j)) (at xs j)
    go true e = ap (λ k. named_from from to k (at xs j)) (eqb-true i j e)
    go false e = refl

at-with_name : (first from to : ℕ) (s : StatusItem) (xs : List SentPdu) (j : ℕ) → j < length xs → at (with_name first from to s xs) j ≡ cond (names_place first j s) (named_from from to j (at xs j)) (at xs j)
at-with_name first from to (Missing x) xs j l = at-named_at from to (place_of first x) xs j l
at-with_name first from to (Unset x) xs j l = at-named_at from to (place_of first x) xs j l
at-with_name first from to (Set x) xs j l = refl
at-with_name first from to (Below x) xs j l = refl
at-with_name first from to (Obeyed n sn) xs j l = refl

or_twice : (w c : Bool) → ((w || c) || c) ≡ (w || c)
or_twice true c = refl
or_twice false true = refl
or_twice false false = refl

named_twice : (high under : Bool) (f : SentPdu) → named_as high under (named_as high under f) ≡ named_as high under f
named_twice high under f = go f.acked refl
  where
    go : (a : Bool) → f.acked ≡ a → named_as high under (cond a f (record f { named = f.named || under; requested = f.requested || high })) ≡ cond a f (record f { named = f.named || under; requested = f.requested || high })
    go true e = ap (λ b. cond b f (record f { named = f.named || under; requested = f.requested || high })) e
    go false e =
        ap (λ b. cond b (record f { named = f.named || under; requested = f.requested || high }) (record f { named = (f.named || under) || under; requested = (f.requested || high) || high })) e
        ∙ ap₂ (λ n w. record f { named = n; requested = w }) (or_twice f.named under) (or_twice f.requested high)

both_named : (a b : Bool) (from to j : ℕ) (f : SentPdu) → cond b (named_from from to j (cond a (named_from from to j f) f)) (cond a (named_from from to j f) f) ≡ cond (a || b) (named_from from to j f) f
both_named true true from to j f = named_twice (nat_le from j) (nat_lt j to) f
both_named true false from to j f = refl
both_named false true from to j f = refl
both_named false false from to j f = refl

pub at-with_names : (first from to : ℕ) (said : List StatusItem) (xs : List SentPdu) (j : ℕ) → j < length xs → at (with_names first from to said xs) j ≡ cond (is_named first j said) (named_from from to j (at xs j)) (at xs j)
at-with_names first from to [] xs j l = refl
at-with_names first from to (s ∷ said) xs j l =
    at-with_names first from to said (with_name first from to s xs) j (omega (arith, length-with_name first from to s xs))
    ∙ (ap (λ f. cond (is_named first j said) (named_from from to j f) f) (at-with_name first from to s xs j l)
    ∙ both_named (names_place first j s) (is_named first j said) from to j (at xs j))

pub at-changed_below : (change : SentPdu → SentPdu) (k : ℕ) (xs : List SentPdu) (j : ℕ) → j < length xs → at (changed_below change k xs) j ≡ cond (nat_lt j k) (change (at xs j)) (at xs j)
at-changed_below change zero xs j l = sym (ap (λ b. cond b (change (at xs j)) (at xs j)) (le-ltb j 0 (omega arith)))
at-changed_below change (suc k) [] j l = absurd (omega arith)
at-changed_below change (suc k) (f ∷ xs) zero l = sym (ap (λ b. cond b (change f) f) (lt-ltb 0 (suc k) (omega arith)))
at-changed_below change (suc k) (f ∷ xs) (suc j) l = at-changed_below change k xs j (omega arith) ∙ ap (λ b. cond b (change (at xs j)) (at xs j)) (same j k)
  where
    same : (a b : ℕ) → nat_lt a b ≡ nat_lt (suc a) (suc b)
    same a b = grind (arith, nat_tests)

-- what is heard of one PDU: it was named or not, and stood at or behind a running discard's, and below the LSN
abbrev pub heard_one : Bool → Bool → Bool → SentPdu → SentPdu
heard_one high named under f = cond under (acknowledged (cond named (named_as high under f) f)) (cond named (named_as high under f) f)

pub at-told : (below : ℕ) (said : List StatusItem) (l : RetxBuffer) (j : ℕ) → j < length l.in_flight → at (told_line below said l) j ≡ heard_one (nat_le (floor_of l.running) j) (is_named (first_number l) j said) (nat_lt j (min below (length l.in_flight))) (at l.in_flight j)
at-told below said l j less =
    let named : length (named_line below said l) ≡ length l.in_flight = length-with_names (first_number l) (floor_of l.running) (min below (length l.in_flight)) said l.in_flight in
    at-changed_below acknowledged (min below (length l.in_flight)) (named_line below said l) j (omega arith)
    ∙ ap (λ f. cond (nat_lt j (min below (length l.in_flight))) (acknowledged f) f) (at-with_names (first_number l) (floor_of l.running) (min below (length l.in_flight)) said l.in_flight j less)

-- the facts of one PDU
pub record IsOne (f : SentPdu) (high a w named under low : Bool) : Type 0 where
  pub acked : (heard_one high named under f).acked ≡ ((under && not named) || a)
  pub requested : (heard_one high named under f).requested ≡ (((named || w) && not ((under && not named) || a)) && not low)
  pub named_is : (heard_one high named under f).named ≡ false
  pub builds : (heard_one high named under f).builds ≡ f.builds

one_of : (f : SentPdu) (a w named under low : Bool) → (w ≡ true → (a ≡ false) × (low ≡ false)) → IsOne (record f { acked = a; requested = w; named = false }) (not low) a w named under low
one_of f true true named under low is = absurd (both_ways true (is refl).0 refl)
one_of f false true named under true is = absurd (both_ways true (is refl).1 refl)
one_of f true false true true low is = record { acked = refl; requested = refl; named_is = refl; builds = refl }
one_of f true false true false low is = record { acked = refl; requested = refl; named_is = refl; builds = refl }
one_of f true false false true low is = record { acked = refl; requested = refl; named_is = refl; builds = refl }
one_of f true false false false low is = record { acked = refl; requested = refl; named_is = refl; builds = refl }
one_of f false false true true low is = record { acked = refl; requested = refl; named_is = refl; builds = refl }
one_of f false false true false low is = record { acked = refl; requested = refl; named_is = refl; builds = refl }
one_of f false false false true low is = record { acked = refl; requested = refl; named_is = refl; builds = refl }
one_of f false false false false low is = record { acked = refl; requested = refl; named_is = refl; builds = refl }
one_of f false true true true false is = record { acked = refl; requested = refl; named_is = refl; builds = refl }
one_of f false true true false false is = record { acked = refl; requested = refl; named_is = refl; builds = refl }
one_of f false true false true false is = record { acked = refl; requested = refl; named_is = refl; builds = refl }
one_of f false true false false false is = record { acked = refl; requested = refl; named_is = refl; builds = refl }

pub one_is : (f : SentPdu) (high a w named under low : Bool) → f.acked ≡ a → f.requested ≡ w → f.named ≡ false → high ≡ not low → (w ≡ true → (a ≡ false) × (low ≡ false)) → IsOne f high a w named under low
one_is f high a w named under low ea ew en eh is =
    subst (λ h. IsOne f h a w named under low) (sym eh)
    (subst (λ x. IsOne (record f { acked = x; requested = f.requested; named = f.named }) (not low) a w named under low) (sym ea)
    (subst (λ x. IsOne (record f { acked = a; requested = x; named = f.named }) (not low) a w named under low) (sym ew)
    (subst (λ x. IsOne (record f { acked = a; requested = w; named = x }) (not low) a w named under low) (sym en)
    (one_of f a w named under low is))))
