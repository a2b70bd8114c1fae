-- Where just the first PDUs arrive, the known units are those whose length indicators lie in them.
use Rattle.std.proofs.Common.{◌≡◌, ◌+◌, ◌-◌, ◌<◌, ◌≤◌, ℕ, zero, suc, List, [], ◌∷◌, ◌++◌, Bool, true, false, cond, length, take, arith, refl, ap, ap₂, ◌∙◌, ⊎_elim}
use Rattle.std.specs.Prelude.{◌&&◌, ◌||◌, ◌==◌, not, nat_lt}
use Rattle.std.specs.List.{list_all, list_any}
use Rattle.std.proofs.lemmas.Bool.{cases_lt, le-ltb, lt-ltb}
use Rattle.dch_sar.specs.Pdus.{AreCuts, Pdu, first_front, pdus}
use Rattle.dch_rlcum.specs.Handing.{AreFewLost, AreUnits, Sent, brings_end, carries, ends_in, is_known, known_units, sent_from, serves}
use Rattle.dch_rlcum.specs.History.{joined, sizes}
use Rattle.dch_rlcum.proofs.Handed.{pdus_chained}
use Rattle.dch_rlcum.proofs.Known.{AreChained, IsPdu, last_of, later_serve, none_high, pdu_high, pdu_up}
use Rattle.dch_runlaw.specs.Ended.{has_end, marked_units}

-- just so many PDUs from a number on arrive
pub record AreFirst (arrives : ℕ → Bool) (k m : ℕ) : Type 0 where
  pub arrived : (j : ℕ) → k ≤ j → j < k + m → arrives j ≡ true
  pub lost : (j : ℕ) → k + m ≤ j → arrives j ≡ false

pub next_first : (arrives : ℕ → Bool) (k m : ℕ) → AreFirst arrives k (suc m) → AreFirst arrives (k + 1) m
next_first arrives k m a = record { arrived = λ j l h. a.arrived j (omega (arith, l)) (omega (arith, h)); lost = λ j l. a.lost j (omega (arith, l)) }

pub next_none : (arrives : ℕ → Bool) (k : ℕ) → AreFirst arrives k zero → AreFirst arrives (k + 1) zero
next_none arrives k a = record { arrived = λ j l h. absurd (omega (arith, l, h)); lost = λ j l. a.lost j (omega (arith, l)) }

pub first_below : (n : ℕ) → AreFirst (λ j. nat_lt j n) 0 n
first_below n = record { arrived = λ j l h. lt-ltb j n (omega (arith, h)); lost = λ j l. le-ltb j n (omega (arith, l)) }

-- the indicators that are brought
brings_first : (arrives : ℕ → Bool) (k m : ℕ) (before : Bool) (e : ℕ) (ps : List Pdu) → AreFirst arrives k m → list_any (brings_end e) (sent_from arrives k before ps) ≡ list_any (has_end e) (take m ps)
brings_first arrives k zero before e [] a = refl
brings_first arrives k (suc m) before e [] a = refl
brings_first arrives k zero before e (p ∷ ps) a = rw (a.lost k (omega arith)) (brings_first arrives (k + 1) zero false e ps (next_none arrives k a))
brings_first arrives k (suc m) before e (p ∷ ps) a = rw (a.arrived k (omega arith) (omega arith)) (ap (λ b. has_end e p || b) (brings_first arrives (k + 1) m true e ps (next_first arrives k m a)))

-- a PDU that arrived behind one that arrived
serves_here : (t e : ℕ) (p : Pdu) → serves t e (record { pdu = p; arrived = true; before = true }) ≡ true
serves_here t e p = plain (carries t e (record { pdu = p; arrived = true; before = true })) (p.from == t)
  where
    plain : (c q : Bool) → (not c || (not q || true)) ≡ true
    plain true true = refl
    plain true false = refl
    plain false q = refl

or_second : (a b : Bool) → (a || b) ≡ true → a ≡ false → b ≡ true
or_second true b e f = absurd (cc)
or_second false b e f = e

either : {A : Type 0} (a : Bool) → (a ≡ true → A) → (a ≡ false → A) → A
either true f g = f refl
either false f g = g refl

-- an end that a PDU marks is no further than its octets
end_within : (pdu : ℕ) (row : List ℕ) (s f e : ℕ) (p : Pdu) → IsPdu pdu row s f p → has_end e p ≡ true → e ≤ p.to
end_within pdu row s f e p is has = ⊎_elim
    (λ (high : last_of s (ends_in p) < e). let none : has_end e p ≡ false = none_high s e (ends_in p) (pdu_up pdu row s f p is) high in absurd (cc))
    (λ (low : e ≤ last_of s (ends_in p)). omega (arith, low, pdu_high pdu row s f p is))
    (cases_lt (last_of s (ends_in p)) e)

all_serve : (pdu : ℕ) (row : List ℕ) (arrives : ℕ → Bool) (k m s f t e : ℕ) (ps : List Pdu) → AreChained pdu row s f ps → AreFirst arrives k m → list_any (has_end e) (take m ps) ≡ true → list_all (serves t e) (sent_from arrives k true ps) ≡ true
all_serve pdu row arrives k m s f t e [] are a has = refl
all_serve pdu row arrives k zero s f t e (p ∷ ps) are a has = absurd (cc)
all_serve pdu row arrives k (suc m) s f t e (p ∷ ps) are a has = rw (a.arrived k (omega arith) (omega arith), serves_here t e p) (either (has_end e p)
    (λ yes. later_serve pdu row arrives (k + 1) true (last_of s (ends_in p)) p.to t e ps are.1 (end_within pdu row s f e p are.0 yes))
    (λ none. all_serve pdu row arrives (k + 1) m (last_of s (ends_in p)) p.to t e ps are.1 (next_first arrives k m a) (or_second (has_end e p) (list_any (has_end e) (take m ps)) has none)))

is_marked : (pdu : ℕ) (row : List ℕ) (arrives : ℕ → Bool) (m t e : ℕ) (ps : List Pdu) → AreChained pdu row 0 0 ps → AreFirst arrives 0 m → is_known (sent_from arrives 0 true ps) t e ≡ list_any (has_end e) (take m ps)
is_marked pdu row arrives m t e ps are a = ap (λ b. list_all (serves t e) (sent_from arrives 0 true ps) && b) (brings_first arrives 0 m true e ps a) ∙ both (list_all (serves t e) (sent_from arrives 0 true ps)) (list_any (has_end e) (take m ps)) (all_serve pdu row arrives 0 m 0 0 t e ps are a)
  where
    both : (x y : Bool) → (y ≡ true → x ≡ true) → (x && y) ≡ y
    both true y h = refl
    both false true h = absurd (let f : ◌≡◌ {A = Bool} false true = h refl in cc)
    both false false h = refl

units_marked : (xs : List Sent) (ps : List Pdu) (at : ℕ) (units : List (List ℕ)) → ((t e : ℕ) → is_known xs t e ≡ list_any (has_end e) ps) → known_units xs at units ≡ marked_units ps at units
units_marked xs ps at [] h = refl
units_marked xs ps at (unit ∷ units) h = ap₂ (λ b us. cond b (unit ∷ []) [] ++ us) (h at (at + length unit)) (units_marked xs ps (at + length unit) units h)

-- where just the first of all PDUs arrive
pub first_known : (pdu : ℕ) (starts : Bool) (units : List (List ℕ)) (cuts : List ℕ) (arrives : ℕ → Bool) (n : ℕ) → 3 ≤ pdu → pdu ≤ 125 → AreUnits units → AreCuts (pdu - 1) starts (sizes units) 0 first_front cuts → AreFirst arrives 0 n → known_units (sent_from arrives 0 true (pdus (pdu - 1) starts (sizes units) cuts)) 0 units ≡ marked_units (take n (pdus (pdu - 1) starts (sizes units) cuts)) 0 units
first_known pdu starts units cuts arrives n from most are cut a =
    units_marked (sent_from arrives 0 true (pdus (pdu - 1) starts (sizes units) cuts)) (take n (pdus (pdu - 1) starts (sizes units) cuts)) 0 units
    (λ t e. is_marked pdu (joined units) arrives n t e (pdus (pdu - 1) starts (sizes units) cuts) (pdus_chained pdu starts units cuts from most are cut) a)

-- none is lost before one that arrives
pub none_before : (arrives : ℕ → Bool) (k m : ℕ) (before : Bool) (ps : List Pdu) → AreFirst arrives k m → AreFewLost 0 (sent_from arrives k before ps)
none_before arrives k m before [] a = tt
none_before arrives k zero before (p ∷ ps) a = none_more arrives k 0 before (p ∷ ps) a
  where
    none_more : (arrives : ℕ → Bool) (k lost : ℕ) (before : Bool) (ps : List Pdu) → AreFirst arrives k zero → AreFewLost lost (sent_from arrives k before ps)
    none_more arrives k lost before [] a = tt
    none_more arrives k lost before (p ∷ ps) a = rw (a.lost k (omega arith)) ((λ is. absurd (cc)), none_more arrives (k + 1) (lost + 1) false ps (next_none arrives k a))
none_before arrives k (suc m) before (p ∷ ps) a = rw (a.arrived k (omega arith) (omega arith)) ((λ is. omega arith), none_before arrives (k + 1) m true ps (next_first arrives k m a))
