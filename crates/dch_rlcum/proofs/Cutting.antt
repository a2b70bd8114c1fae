-- What a PDU takes of SDUs in blocks is what placing their lengths gives.
use Rattle.std.proofs.Common.{◌≡◌, ◌+◌, ◌-◌, ◌<◌, ◌≤◌, ℕ, suc, List, [], ◌∷◌, ◌++◌, Bool, true, false, cond, length, drop, take, arith, refl, sym, ap, ap₂, ◌∙◌, subst, append_assoc, length-append, length-drop}
use Rattle.std.specs.Prelude.{◌==◌, Option, nat_lt}
use Rattle.std.proofs.lemmas.Bool.{eqb-false, eqb-true, le-ltb, lt-ltb, ltb-false, ltb-true}
use Rattle.std.proofs.lemmas.List.{length-take-le, take-append-drop, take_all}
use Rattle.dch_sar.specs.Filling.{AreSome, IsCarried, indicators_of}
use Rattle.dch_sar.specs.Pdus.{padding}
use Rattle.dch_sar.proofs.Placing.{IsPlaced, Placed, place, place_is, with_indicators}
use Rattle.dch_am.specs.Bodies.{TxQueue, ends_at, joined, sizes}
use Rattle.dch_am.specs.Cuts.{AllFull}
use Rattle.dch_txbuf.specs.declared.taken.Cut.{Cut}
use Rattle.dch_txbuf.specs.Cuts.{IsThere, after_cut, cut_of, first_of, led_by, indicators_with, octets_of, trimmed, with_pieces}
use Rattle.dch_txbuf.proofs.Cutting.{placed_cut}
use Rattle.dch_rlcum.specs.Sending.{Units, carried, closing, ends_in, leading, left_by, indicators_in}
use Rattle.dch_rlcum.proofs.Marking.{place_octets}

-- how many octets of the unit in progress were sent behind such a PDU, or the size of the one whose length indicator is owed
abbrev pub sent_after : ℕ → Cut → ℕ
sent_after sent c = cond (nat_lt 0 c.pieces) c.rest (sent + c.rest)

abbrev pub units_behind : ℕ → Cut → List (List ℕ) → Units
units_behind sent c us = record { lengths = sizes us; sent = cond c.owed 0 (sent_after sent c); owed = cond c.owed (sent_after sent c) 0 }

-- placing the lengths of SDUs is this cut of them
pub record IsCutOf (free sent at : ℕ) (us : List (List ℕ)) (c : Cut) : Type 0 where
  pub octets : (place free at (sizes us)).octets ≡ at + length (octets_of c us)
  pub indicators : (place free at (sizes us)).indicators ≡ ends_at at (take c.pieces us)
  pub row : joined us ≡ octets_of c us ++ joined (after_cut c us).units
  pub left : left_by free sent (sizes us) ≡ units_behind sent c (after_cut c us).units
  pub full : AllFull (after_cut c us).units
  pub fits : length (octets_of c us) + c.pieces ≤ free
  pub owed : c.owed ≡ true → (c.rest ≡ length (first_of (drop c.pieces us))) × (0 < c.rest)

none_more : (b : Bool) (r : ℕ) → cond b r (0 + r) ≡ r
none_more true r = refl
none_more false r = omega arith

one_piece : (free sent at : ℕ) (u : List ℕ) (us : List (List ℕ)) (c : Cut) → length u < free → IsCutOf (free - length u - 1) 0 (at + length u) us c → IsCutOf free sent at (u ∷ us) (with_pieces 1 c)
one_piece free sent at u us c less is = subst (IsCutOf free sent at (u ∷ us)) (sym q) (record {
  octets = ap (λ b. (cond {A = Placed} b (with_indicators ((at + length u) ∷ []) (place (free - length u - 1) (at + length u) (sizes us))) (cond (length u == free) (record { octets = at + length u; indicators = []; owed = true }) (record { octets = at + free; indicators = []; owed = false }))).octets) t
      ∙ omega (arith, is.octets, length-append (u ++ joined (take c.pieces us)) (take c.rest (first_of (drop c.pieces us))), length-append u (joined (take c.pieces us)), length-append (joined (take c.pieces us)) (take c.rest (first_of (drop c.pieces us))));
  indicators = ap (λ b. (cond {A = Placed} b (with_indicators ((at + length u) ∷ []) (place (free - length u - 1) (at + length u) (sizes us))) (cond (length u == free) (record { octets = at + length u; indicators = []; owed = true }) (record { octets = at + free; indicators = []; owed = false }))).indicators) t
      ∙ ap (λ ms. (at + length u) ∷ ms) is.indicators;
  row = ap (λ xs. u ++ xs) is.row ∙ (sym (append_assoc u (octets_of c us) (joined (after_cut c us).units)) ∙ ap₂ (λ xs (a : TxQueue). xs ++ joined a.units) (sym (append_assoc u (joined (take c.pieces us)) (take c.rest (first_of (drop c.pieces us))))) later);
  left = ap (λ b. cond {A = Units} b (left_by (free - length u - 1) 0 (sizes us)) (cond (length u == free) (record { lengths = sizes us; sent = 0; owed = sent + length u }) (record { lengths = (length u - free) ∷ sizes us; sent = sent + free; owed = 0 }))) t
      ∙ (is.left ∙ ap₂ (λ (a : TxQueue) n. record { lengths = sizes a.units; sent = cond c.owed 0 n; owed = cond c.owed n 0 }) later sent_same);
  full = subst (λ (a : TxQueue). AllFull a.units) later is.full;
  fits = omega (arith, is.fits, less, length-append (u ++ joined (take c.pieces us)) (take c.rest (first_of (drop c.pieces us))), length-append u (joined (take c.pieces us)), length-append (joined (take c.pieces us)) (take c.rest (first_of (drop c.pieces us))));
  owed = is.owed;
})
  where
    t : nat_lt (length u) free ≡ true
    t = lt-ltb (length u) free less

    e : 1 + c.pieces ≡ suc c.pieces
    e = omega arith

    q : with_pieces 1 c ≡ record { pieces = suc c.pieces; rest = c.rest; owed = c.owed; padded = c.padded }
    q = ap (λ p. record { pieces = p; rest = c.rest; owed = c.owed; padded = c.padded }) e

    later : after_cut c us ≡ after_cut (record { pieces = suc c.pieces; rest = c.rest; owed = c.owed; padded = c.padded }) (u ∷ us)
    later = let n : suc c.pieces + 1 ≡ suc (c.pieces + 1) = omega arith in ap (λ n. record { owed = c.owed; units = cond c.owed (drop n (u ∷ us)) (trimmed c.rest (drop c.pieces us)) }) (sym n)

    sent_same : sent_after 0 c ≡ sent_after sent (record { pieces = suc c.pieces; rest = c.rest; owed = c.owed; padded = c.padded })
    sent_same = none_more (nat_lt 0 c.pieces) c.rest ∙ sym (ap (λ b. cond b c.rest (sent + c.rest)) (lt-ltb 0 (suc c.pieces) (omega arith)))

last_full : (free sent at : ℕ) (u : List ℕ) (us : List (List ℕ)) → AllFull (u ∷ us) → length u ≡ free → IsCutOf free sent at (u ∷ us) (record { pieces = 0; rest = free; owed = true; padded = false })
last_full free sent at u us full e =
    let big : nat_lt (length u) free ≡ false = le-ltb (length u) free (omega (arith, e)) in
    let same : (length u == free) ≡ true = eqb-back (length u) free e in
    let all : take free u ≡ u = take_all free u (omega (arith, e)) in
    let zero_is : nat_lt 0 0 ≡ false = refl in
    record {
      octets = rw (big, same) (omega (arith, ap (λ (xs : List ℕ). length xs) all));
      indicators = rw (big, same) refl;
      row = ap (λ xs. xs ++ joined us) (sym all);
      left = rw (big, same) (ap (λ n. record { lengths = sizes us; sent = 0; owed = sent + n }) e);
      full = full.1;
      fits = omega (arith, e, ap (λ (xs : List ℕ). length xs) all);
      owed = λ o. (sym e, omega (arith, e, full.0));
    }
  where
    eqb-back : (n m : ℕ) → n ≡ m → (n == m) ≡ true
    eqb-back n m q = grind arith

last_part : (free sent at : ℕ) (u : List ℕ) (us : List (List ℕ)) → AllFull (u ∷ us) → free < length u → IsCutOf free sent at (u ∷ us) (record { pieces = 0; rest = free; owed = false; padded = false })
last_part free sent at u us full less =
    let big : nat_lt (length u) free ≡ false = le-ltb (length u) free (omega (arith, less)) in
    let other : (length u == free) ≡ false = eqb-differ (length u) free less in
    let long : length (take free u) ≡ free = length-take-le free u (omega (arith, less)) in
    record {
      octets = rw (big, other) (omega (arith, long));
      indicators = rw (big, other) refl;
      row = ap (λ xs. xs ++ joined us) (sym (take-append-drop free u)) ∙ append_assoc (take free u) (drop free u) (joined us);
      left = rw (big, other) (ap (λ n. record { lengths = n ∷ sizes us; sent = sent + free; owed = 0 }) (sym (length-drop free u)));
      full = (omega (arith, less, length-drop free u), full.1);
      fits = omega (arith, long);
      owed = λ o. absurd (cc);
    }
  where
    eqb-differ : (n m : ℕ) → m < n → (n == m) ≡ false
    eqb-differ n m l = grind arith

pub cuts_are : (free sent at : ℕ) (us : List (List ℕ)) → AllFull us → (length us ≡ 0 → sent ≡ 0) → IsCutOf free sent at us (cut_of free us)
cuts_are free sent at [] full none = record {
  octets = omega arith;
  indicators = refl;
  row = refl;
  left = ap (λ n. record { lengths = []; sent = n; owed = 0 }) (sym (empty (none refl)));
  full = tt;
  fits = omega arith;
  owed = λ o. absurd (cc);
}
  where
    empty : sent ≡ 0 → sent + 0 ≡ 0
    empty e = omega (arith, e)
cuts_are free sent at (u ∷ us) full none = go (nat_lt (length u) free) refl (cuts_are (free - length u - 1) 0 (at + length u) us full.1 (λ e. refl))
  where
    last : (b : Bool) → (length u == free) ≡ b → free ≤ length u → IsCutOf free sent at (u ∷ us) (record { pieces = 0; rest = free; owed = b; padded = false })
    last true e le = last_full free sent at u us full (eqb-true (length u) free e)
    last false e le = last_part free sent at u us full (differ (eqb-false (length u) free e))
      where
        differ : (length u ≡ free → ⊥) → free < length u
        differ ne = grind arith

    go : (b : Bool) → nat_lt (length u) free ≡ b → IsCutOf (free - length u - 1) 0 (at + length u) us (cut_of (free - length u - 1) us) → IsCutOf free sent at (u ∷ us) (cut_of free (u ∷ us))
    go true e is = subst (IsCutOf free sent at (u ∷ us)) (sym (rw e refl)) (one_piece free sent at u us (cut_of (free - length u - 1) us) (ltb-true _ _ e) is)
    go false e is = subst (IsCutOf free sent at (u ∷ us)) (sym (rw e refl)) (last (length u == free) refl (ltb-false _ _ e))

pub some_sizes : (us : List (List ℕ)) → AllFull us → AreSome (sizes us)
some_sizes [] full = tt
some_sizes (u ∷ us) full = (full.0, some_sizes us full.1)

-- the octets that are carried
pub octets_are : (free : ℕ) (us : List (List ℕ)) → AllFull us → carried free (sizes us) ≡ length (octets_of (cut_of free us) us)
octets_are free us full = omega (arith, (cuts_are free 0 0 us full (λ e. refl)).octets, place_octets free 0 (sizes us))

pub ends_are : (free : ℕ) (us : List (List ℕ)) → AllFull us → indicators_of free 0 (sizes us) (carried free (sizes us)) ≡ ends_at 0 (take (cut_of free us).pieces us)
ends_are free us full =
    let is : IsPlaced free 0 (sizes us) (place free 0 (sizes us)) = place_is free 0 (sizes us) (some_sizes us full) in
    let o : carried free (sizes us) ≡ (place free 0 (sizes us)).octets = omega (arith, place_octets free 0 (sizes us)) in
    ap (indicators_of free 0 (sizes us)) o ∙ (sym is.indicators ∙ (cuts_are free 0 0 us full (λ e. refl)).indicators)

pub most_are : (free : ℕ) (us : List (List ℕ)) → AllFull us → IsCarried free 0 (sizes us) (carried free (sizes us))
most_are free us full =
    let is : IsPlaced free 0 (sizes us) (place free 0 (sizes us)) = place_is free 0 (sizes us) (some_sizes us full) in
    let o : (place free 0 (sizes us)).octets ≡ carried free (sizes us) = omega (arith, place_octets free 0 (sizes us)) in
    subst (IsCarried free 0 (sizes us)) o is.octets

length-ends : (at : ℕ) (ps : List (List ℕ)) → length (ends_at at ps) ≡ length ps
length-ends at [] = refl
length-ends at (p ∷ ps) = ap suc (length-ends (at + length p) ps)

-- the length indicators
pub indicators_are : (pdu : ℕ) (mark_start : Bool) (u : Units) (lead : Option ℕ) (us : List (List ℕ)) → u.lengths ≡ sizes us → AllFull us → length (led_by lead) ≤ pdu - 1 → led_by lead ≡ leading mark_start u → indicators_with lead (pdu - 1) (cut_of (pdu - 1 - length (led_by lead)) us) us ≡ indicators_in pdu mark_start u
indicators_are pdu mark_start u lead us lengths full few e =
    let free : ℕ = pdu - 1 - length (led_by lead) in
    let c : Cut = cut_of (pdu - 1 - length (led_by lead)) us in
    let there : IsThere c us = (placed_cut (pdu - 1 - length (led_by lead)) us).there in
    let pieces : length (indicators_of free 0 (sizes us) (carried free (sizes us))) ≡ c.pieces = ap (λ (xs : List ℕ). length xs) (ends_are free us full) ∙ (length-ends 0 (take c.pieces us) ∙ length-take-le c.pieces us there.pieces) in
    let tail : padding (pdu - 1) (length (led_by lead) + length (octets_of c us) + c.pieces) ≡ closing (carried free (sizes us) + length (indicators_of free 0 (sizes us) (carried free (sizes us)))) free = same_tail (length (led_by lead)) (length (octets_of c us)) c.pieces (carried free (sizes us) + length (indicators_of free 0 (sizes us) (carried free (sizes us)))) (pdu - 1) few (omega (arith, pieces, octets_are free us full)) in
    ap₂ (λ ends xs. led_by lead ++ (ends ++ xs)) (sym (ends_are free us full)) tail
    ∙ (ap (λ xs. xs ++ ends_in free (sizes us)) e
    ∙ ap₂ (λ xs ns. leading mark_start u ++ ends_in (pdu - 1 - length xs) ns) e (sym lengths))
  where
    same_tail : (l o p s m : ℕ) → l ≤ m → s ≡ o + p → cond {A = List ℕ} (nat_lt (l + o + p) m) (127 ∷ []) [] ≡ cond (nat_lt s (m - l)) (127 ∷ []) []
    same_tail l o p s m few q = go (nat_lt (l + o + p) m) refl
      where
        go : (b : Bool) → nat_lt (l + o + p) m ≡ b → cond {A = List ℕ} b (127 ∷ []) [] ≡ cond (nat_lt s (m - l)) (127 ∷ []) []
        go true t = ap (λ b. cond {A = List ℕ} b (127 ∷ []) []) (sym (lt-ltb s (m - l) (omega (arith, q, ltb-true _ _ t))))
        go false t = ap (λ b. cond {A = List ℕ} b (127 ∷ []) []) (sym (le-ltb s (m - l) (omega (arith, q, few, ltb-false _ _ t))))
