-- Where the PDUs of the list begin, and that units that come later don't change those before.
use Rattle.std.proofs.Common.{◌≡◌, ◌+◌, ◌-◌, ◌<◌, ◌≤◌, ℕ, zero, suc, List, [], ◌∷◌, ◌++◌, Bool, true, false, cond, length, take, drop, arith, refl, sym, ap, ◌∙◌, subst, ⊎_elim, length-append}
use Rattle.std.specs.Prelude.{◌&&◌, ◌||◌, ◌==◌, nat_le, nat_lt}
use Rattle.std.proofs.lemmas.Bool.{lt-ltb, cases_lt, cond_both}
use Rattle.std.proofs.lemmas.Bool.Decides.{nat_tests}
use Rattle.std.proofs.lemmas.List.{take-append-le, take-append-drop}
use Rattle.dch_sar.specs.Filling.{total, is_end, AreSome}
use Rattle.dch_sar.specs.Pdus.{AreCuts, Front, begun_by, cost_to, ended_at, greatest, first_front, front_from, has_pdu, lead, left_from, next_front, pdu_at, pdus_from, reach}
use Rattle.dch_sar.proofs.Placing.{IsPlaced, place, place_is, end_none}
use Rattle.dch_sar.proofs.Joined.{IsNext, left_in, left_past, left_none, left_some, left_total, next_is, room_at}

pub total_more : (ms ns : List ℕ) → total (ms ++ ns) ≡ total ms + total ns
total_more [] ns = omega arith
total_more (m ∷ ms) ns = omega (arith, total_more ms ns)

pub some_more : (ms ns : List ℕ) → AreSome ms → AreSome ns → AreSome (ms ++ ns)
some_more [] ns some more = more
some_more (m ∷ ms) ns some more = (some.0, some_more ms ns some.1 more)

pub some_take : (k : ℕ) (ns : List ℕ) → AreSome ns → AreSome (take k ns)
some_take zero ns some = tt
some_take (suc k) [] some = tt
some_take (suc k) (n ∷ ns) some = (some.0, some_take k ns some.1)

pub some_drop : (k : ℕ) (ns : List ℕ) → AreSome ns → AreSome (drop k ns)
some_drop zero ns some = some
some_drop (suc k) [] some = tt
some_drop (suc k) (n ∷ ns) some = some_drop k ns some.1

pub left_more : (o : ℕ) (ms ns : List ℕ) → o ≤ total ms → AreSome ns → left_from o (ms ++ ns) ≡ left_from o ms ++ ns
left_more o [] ns within some = let e : o ≡ 0 = omega arith in ap (λ k. left_from k ns) e ∙ left_none ns some
left_more o (m ∷ ms) ns within some =
    ⊎_elim
    (λ (less : o < m). left_in o m (ms ++ ns) less ∙ ap (λ ks. ks ++ ns) (sym (left_in o m ms less)))
    (λ (more : m ≤ o). left_past o m (ms ++ ns) more ∙ (left_more (o - m) ms ns (omega arith) some ∙ ap (λ ks. ks ++ ns) (sym (left_past o m ms more))))
    (cases_lt o m)

begun_none : (ns : List ℕ) → AreSome ns → begun_by 0 0 ns ≡ 0
begun_none [] some = refl
begun_none (n ∷ ns) some = rw (lt-ltb 0 n some.0) refl

pub begun_more : (o : ℕ) (ms ns : List ℕ) → o ≤ total ms → AreSome ns → begun_by 0 o (ms ++ ns) ≡ begun_by 0 o ms
begun_more o [] ns within some = let e : o ≡ 0 = omega arith in ap (λ k. begun_by 0 k ns) e ∙ begun_none ns some
begun_more o (m ∷ ms) ns within some =
    cond_both {A = ℕ} (nat_lt o m) (0 + o) (begun_by 0 (o - m) ms) (λ k. begun_by 0 o (m ∷ ms ++ ns) ≡ k)
    (λ less. rw less refl)
    (λ more. rw more (begun_more (o - m) ms ns (omega arith) some))

ended_none : (s : ℕ) (ns : List ℕ) → AreSome ns → ended_at s 0 ns ≡ 0
ended_none s [] some = refl
ended_none s (n ∷ ns) some = let e : 0 - n ≡ 0 = omega arith in rw (other n some.0, e) (ended_none 0 ns some.1)
  where
    other : (n : ℕ) → 0 < n → (0 == n) ≡ false
    other n less = grind (arith, nat_tests)

pub ended_more : (s o : ℕ) (ms ns : List ℕ) → o ≤ total ms → AreSome ns → ended_at s o (ms ++ ns) ≡ ended_at s o ms
ended_more s o [] ns within some = let e : o ≡ 0 = omega arith in ap (λ k. ended_at s k ns) e ∙ ended_none s ns some
ended_more s o (m ∷ ms) ns within some = ap (λ k. cond (o == m) (s + m) k) (ended_more 0 (o - m) ms ns (omega arith) some)

-- an end has a unit
pub ended_some : (at s o : ℕ) (ns : List ℕ) → AreSome ns → is_end at ns (at + o) ≡ true → 0 < ended_at s o ns
ended_some at s o [] some is = absurd (cc)
ended_some at s o (n ∷ ns) some is =
    cond_both {A = ℕ} (o == n) (s + n) (ended_at 0 (o - n) ns) (λ k. 0 < k)
    (λ same. omega (arith, some.0))
    (λ other. ⊎_elim
    (λ (less : o < n). absurd (none less (end_none (at + n) ns (at + o) some.1 (omega arith)) is))
    (λ (more : n ≤ o). let e : at + o ≡ at + n + (o - n) = omega arith in ended_some (at + n) 0 (o - n) ns some.1 (ap (is_end (at + n) ns) (sym e) ∙ later (at + n == at + o) (differ (omega (arith)) other) is))
    (cases_lt o n))
  where
    later : (b : Bool) → b ≡ false → (b || is_end (at + n) ns (at + o)) ≡ true → is_end (at + n) ns (at + o) ≡ true
    later true e is = absurd (cc)
    later false e is = is

    differ : 0 ≤ o → (o == n) ≡ false → (at + n == at + o) ≡ false
    differ z other = grind (arith, nat_tests)

    none : o < n → is_end (at + n) ns (at + o) ≡ false → ((at + n == at + o) || is_end (at + n) ns (at + o)) ≡ true → ⊥
    none less no_end is = let e : (at + n == at + o) ≡ false = grind (arith, nat_tests) in absurd (cc)

-- a place that PDUs reach: within the units, and where an end is to be marked a unit ends
pub record IsReached (ns : List ℕ) (f : Front) : Type 0 where
  pub within : f.from ≤ total ns
  pub owed : f.owed ≡ true → 0 < ended_at 0 f.from ns

pub reached_first : (ns : List ℕ) → IsReached ns first_front
reached_first ns = record { within = omega arith; owed = λ is. absurd (cc) }

pub reached_more : (ms ns : List ℕ) (f : Front) → AreSome ns → IsReached ms f → IsReached (ms ++ ns) f
reached_more ms ns f some is = record {
  within = omega (arith, is.within, total_more ms ns);
  owed = λ owed. omega (arith, is.owed owed, ended_more 0 f.from ms ns is.within some);
}

pub lead_few : (starts : Bool) (ns : List ℕ) (f : Front) → length (lead starts ns f) ≤ 1
lead_few starts ns f =
    cond_both {A = List ℕ} f.owed (0 ∷ []) _ (λ ms. length ms ≤ 1) (λ owed. omega arith)
    (λ none. cond_both {A = List ℕ} _ (124 ∷ []) [] (λ ms. length ms ≤ 1) (λ starts. omega arith) (λ other. omega arith))

both_true : (a b : Bool) → (a && b) ≡ true → (a ≡ true) × (b ≡ true)
both_true true b is = (refl, is)
both_true false b is = absurd (cc)

pub reached_next : (size : ℕ) (starts : Bool) (ns : List ℕ) (f : Front) → 1 ≤ size → AreSome ns → IsReached ns f → IsReached ns (next_front size starts ns f)
reached_next size starts ns f room some is =
    record {
      within = omega (arith, next.reach, p.octets.within, left_total f.from ns, is.within);
      owed = λ owed. ended_some 0 0 (reach size starts ns f) ns some (ap (is_end 0 ns) zero_more ∙ (both_true _ _ (both_true _ _ owed).0).1);
    }
  where
    left : List ℕ
    left = left_from f.from ns

    p : IsPlaced (room_at size starts ns f) 0 left (place (room_at size starts ns f) 0 left)
    p = place_is (room_at size starts ns f) 0 left (left_some f.from ns some)

    next : IsNext size starts ns f (place (room_at size starts ns f) 0 left).octets
    next = next_is size starts ns f _ (record { some = some; within = is.within; room = omega (arith, lead_few starts ns f) }) p.octets

    zero_more : 0 + reach size starts ns f ≡ reach size starts ns f
    zero_more = omega arith

-- the cut of a PDU is part of the later ones
pub take_take : (low cut : ℕ) (ns : List ℕ) → low ≤ cut → take cut ns ≡ take low ns ++ drop low (take cut ns)
take_take low cut ns le = sym (take-append-drop low (take cut ns)) ∙ ap (λ ms. ms ++ drop low (take cut ns)) (short low cut ns le)
  where
    short : (low cut : ℕ) (ns : List ℕ) → low ≤ cut → take low (take cut ns) ≡ take low ns
    short zero cut ns le = refl
    short (suc low) zero ns le = absurd (omega arith)
    short (suc low) (suc cut) [] le = refl
    short (suc low) (suc cut) (n ∷ ns) le = ap (λ ms. n ∷ ms) (short low cut ns (omega arith))

pub reached_cut : (low cut : ℕ) (ns : List ℕ) (f : Front) → low ≤ cut → AreSome ns → IsReached (take low ns) f → IsReached (take cut ns) f
reached_cut low cut ns f le some is = subst (λ ms. IsReached ms f) (sym (take_take low cut ns le)) (reached_more (take low ns) (drop low (take cut ns)) f (some_drop low (take cut ns) (some_take cut ns some)) is)

pub reached_cuts : (size : ℕ) (starts : Bool) (ns : List ℕ) (low : ℕ) (f : Front) (cuts : List ℕ) → 1 ≤ size → AreSome ns → AreCuts size starts ns low f cuts → IsReached (take low ns) f → IsReached ns (front_from size starts ns f cuts)
reached_cuts size starts ns low f [] room some cuts is = subst (λ ms. IsReached ms f) (take-append-drop low ns) (reached_more (take low ns) (drop low ns) f (some_drop low ns some) is)
reached_cuts size starts ns low f (cut ∷ cuts) room some are is = reached_cuts size starts ns cut (next_front size starts (take cut ns) f) cuts room some are.1.1 (reached_next size starts (take cut ns) f room (some_take cut ns some) (reached_cut low cut ns f are.0 some is))

-- units that come later
pub cuts_within : (size : ℕ) (starts : Bool) (ns : List ℕ) (low : ℕ) (f : Front) (cuts : List ℕ) → AreCuts size starts ns low f cuts → low ≤ length ns
cuts_within size starts ns low f [] are = are
cuts_within size starts ns low f (cut ∷ cuts) are = omega (arith, are.0, cuts_within size starts ns cut (next_front size starts (take cut ns) f) cuts are.1.1)

pub front_more : (size : ℕ) (starts : Bool) (ns more : List ℕ) (low : ℕ) (f : Front) (cuts : List ℕ) → AreCuts size starts ns low f cuts → front_from size starts (ns ++ more) f cuts ≡ front_from size starts ns f cuts
front_more size starts ns more low f [] are = refl
front_more size starts ns more low f (cut ∷ cuts) are =
    rw (take-append-le cut ns more (cuts_within size starts ns cut _ cuts are.1.1)) (front_more size starts ns more cut (next_front size starts (take cut ns) f) cuts are.1.1)

pub pdus_more : (size : ℕ) (starts : Bool) (ns more : List ℕ) (low : ℕ) (f : Front) (cuts : List ℕ) → AreCuts size starts ns low f cuts → pdus_from size starts (ns ++ more) f cuts ≡ pdus_from size starts ns f cuts
pdus_more size starts ns more low f [] are = refl
pdus_more size starts ns more low f (cut ∷ cuts) are =
    rw (take-append-le cut ns more (cuts_within size starts ns cut _ cuts are.1.1)) (ap (λ ps. pdu_at size starts (take cut ns) f ∷ ps) (pdus_more size starts ns more cut (next_front size starts (take cut ns) f) cuts are.1.1))

pub cuts_more : (size : ℕ) (starts : Bool) (ns more : List ℕ) (low : ℕ) (f : Front) (cuts : List ℕ) → AreCuts size starts ns low f cuts → AreCuts size starts (ns ++ more) low f cuts
cuts_more size starts ns more low f [] are = omega (arith, are, length-append ns more)
cuts_more size starts ns more low f (cut ∷ cuts) are =
    rw (take-append-le cut ns more (cuts_within size starts ns cut _ cuts are.1.1)) (are.0, (are.1.0, cuts_more size starts ns more cut (next_front size starts (take cut ns) f) cuts are.1.1))

-- one PDU more
pub front_next : (size : ℕ) (starts : Bool) (ns : List ℕ) (f : Front) (cuts : List ℕ) (cut : ℕ) → front_from size starts ns f (cuts ++ cut ∷ []) ≡ next_front size starts (take cut ns) (front_from size starts ns f cuts)
front_next size starts ns f [] cut = refl
front_next size starts ns f (c ∷ cuts) cut = front_next size starts ns (next_front size starts (take c ns) f) cuts cut

pub pdus_next : (size : ℕ) (starts : Bool) (ns : List ℕ) (f : Front) (cuts : List ℕ) (cut : ℕ) → pdus_from size starts ns f (cuts ++ cut ∷ []) ≡ pdus_from size starts ns f cuts ++ pdu_at size starts (take cut ns) (front_from size starts ns f cuts) ∷ []
pdus_next size starts ns f [] cut = refl
pdus_next size starts ns f (c ∷ cuts) cut = ap (λ ps. pdu_at size starts (take c ns) f ∷ ps) (pdus_next size starts ns (next_front size starts (take c ns) f) cuts cut)

pub length-pdus : (size : ℕ) (starts : Bool) (ns : List ℕ) (f : Front) (cuts : List ℕ) → length (pdus_from size starts ns f cuts) ≡ length cuts
length-pdus size starts ns f [] = refl
length-pdus size starts ns f (cut ∷ cuts) = ap suc (length-pdus size starts ns (next_front size starts (take cut ns) f) cuts)

pub cuts_next : (size : ℕ) (starts : Bool) (ns : List ℕ) (low : ℕ) (f : Front) (cuts : List ℕ) → AreCuts size starts ns low f cuts → has_pdu (take (length ns) ns) (front_from size starts ns f cuts) ≡ true → AreCuts size starts ns low f (cuts ++ length ns ∷ [])
cuts_next size starts ns low f [] are some = (are, (some, omega arith))
cuts_next size starts ns low f (cut ∷ cuts) are some = (are.0, (are.1.0, cuts_next size starts ns cut (next_front size starts (take cut ns) f) cuts are.1.1 some))

-- each PDU reaches no further than its units
greatest_within : (passes : ℕ → Bool) (n : ℕ) → greatest passes n ≤ n
greatest_within passes zero = omega arith
greatest_within passes (suc n) = cond_both {A = ℕ} (passes (suc n)) (suc n) (greatest passes n) (λ g. g ≤ suc n) (λ here. omega arith) (λ below. omega (arith, greatest_within passes n))

pub total_take : (k : ℕ) (ns : List ℕ) → total (take k ns) ≤ total ns
total_take zero ns = omega arith
total_take (suc k) [] = omega arith
total_take (suc k) (n ∷ ns) = omega (arith, total_take k ns)

pub reach_within : (size : ℕ) (starts : Bool) (ns : List ℕ) (cut : ℕ) (f : Front) → reach size starts (take cut ns) f ≤ total ns
reach_within size starts ns cut f = omega (arith, greatest_within (λ o. nat_le (cost_to starts (take cut ns) f o) size) (total (take cut ns)), total_take cut ns)
