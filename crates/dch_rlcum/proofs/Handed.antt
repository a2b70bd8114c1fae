-- The known units of the list of PDUs are handed up.
use Rattle.std.proofs.Common.{◌≡◌, ◌+◌, ◌-◌, ◌<◌, ◌≤◌, ℕ, List, [], ◌∷◌, ◌++◌, Bool, true, false, cond, length, take, drop, arith, refl, sym, ap, ap₂, ◌∙◌, subst}
use Rattle.std.specs.Prelude.{⊤, ◌&&◌, nat_lt, slice_range}
use Rattle.std.specs.List.{list_all, list_any}
use Rattle.std.proofs.lemmas.Bool.{cond_both}
use Rattle.std.proofs.lemmas.List.{drop-drop, take_at}
use Rattle.dch_sar.specs.Filling.{ends_before, AreSome}
use Rattle.dch_sar.specs.Pdus.{AreCuts, Pdu, first_front, front, pdus}
use Rattle.dch_sar.proofs.Fronts.{reached_first}
use Rattle.dch_rlcum.specs.Handing.{AreFewLost, AreRead, AreUnits, Sent, brings_end, ends_in, handed_up, is_known, known_units, sent_from, serves}
use Rattle.dch_rlcum.specs.History.{joined, sizes}
use Rattle.dch_rlcum.specs.Receiving.{opened}
use Rattle.dch_rlcum.proofs.Chained.{IsChain, chained}
use Rattle.dch_rlcum.proofs.Ends.{AreShort, last_append}
use Rattle.dch_rlcum.proofs.Histories.{total-sizes}
use Rattle.dch_rlcum.proofs.Known.{AreChained, Stand, Up, all_ends, and_false, brings_none, hands_known, known_from, last_low, last_of, none_high, pdu_up}

up_append : (s : ℕ) (es fs : List ℕ) → Up s es → Up (last_of s es) fs → Up s (es ++ fs)
up_append s [] fs up more = more
up_append s (e ∷ es) fs up more = (up.0, up_append e es fs up.1 more)

chain_up : (pdu : ℕ) (row : List ℕ) (s f : ℕ) (ps : List Pdu) → AreChained pdu row s f ps → Up s (all_ends ps)
chain_up pdu row s f [] are = tt
chain_up pdu row s f (p ∷ ps) are = up_append s (ends_in p) (all_ends ps) (pdu_up pdu row s f p are.0) (chain_up pdu row (last_of s (ends_in p)) p.to ps are.1)

-- no PDU marks an end behind the last
unmarked : (pdu : ℕ) (row : List ℕ) (arrives : ℕ → Bool) (k : ℕ) (before : Bool) (s f e : ℕ) (ps : List Pdu) → AreChained pdu row s f ps → last_of s (all_ends ps) < e → list_any (brings_end e) (sent_from arrives k before ps) ≡ false
unmarked pdu row arrives k before s f e [] are less = refl
unmarked pdu row arrives k before s f e (p ∷ ps) are less =
    let behind : last_of (last_of s (ends_in p)) (all_ends ps) < e = omega (arith, last_append s (ends_in p) (all_ends ps)) in
    rw (brings_none e (arrives k) (ends_in p) (none_high s e (ends_in p) (pdu_up pdu row s f p are.0) (omega (arith, last_low (last_of s (ends_in p)) (all_ends ps) (chain_up pdu row (last_of s (ends_in p)) p.to ps are.1)))))
    (unmarked pdu row arrives (k + 1) (arrives k) (last_of s (ends_in p)) p.to e ps are.1 behind)

-- the first ends of units
abbrev AreFirst : ℕ → List ℕ → List ℕ → Type 0
AreFirst at [] ns = ⊤
AreFirst at (e ∷ es) [] = ⊥
AreFirst at (e ∷ es) (n ∷ ns) = (e ≡ at + n) × AreFirst (at + n) es ns

first_ends : (at : ℕ) (ns : List ℕ) (o : ℕ) → AreFirst at (ends_before at ns o) ns
first_ends at [] o = tt
first_ends at (n ∷ ns) o = cond_both {A = List ℕ} (nat_lt (at + n) o) ((at + n) ∷ ends_before (at + n) ns o) [] (λ es. AreFirst at es (n ∷ ns)) (λ before. (refl, first_ends (at + n) ns o)) (λ past. tt)

first_front_of : (at : ℕ) (es fs ns : List ℕ) → AreFirst at (es ++ fs) ns → AreFirst at es ns
first_front_of at [] fs ns are = tt
first_front_of at (e ∷ es) fs [] are = are
first_front_of at (e ∷ es) fs (n ∷ ns) are = (are.0, first_front_of (at + n) es fs ns are.1)

row_here : (row unit rest : List ℕ) (at : ℕ) → drop at row ≡ unit ++ rest → slice_range row at (at + length unit) ≡ unit
row_here row unit rest at is = let e : at + length unit - at ≡ length unit = omega arith in ap₂ (λ k xs. take k xs) e is ∙ take_at unit rest (length unit) refl

row_next : (row unit rest : List ℕ) (at : ℕ) → drop at row ≡ unit ++ rest → drop (at + length unit) row ≡ rest
row_next row unit rest at is = sym (drop-drop (length unit) at row) ∙ (ap (drop (length unit)) is ∙ drop_all unit rest)
  where
    drop_all : (xs ys : List ℕ) → drop (length xs) (xs ++ ys) ≡ ys
    drop_all [] ys = refl
    drop_all (x ∷ xs) ys = drop_all xs ys

units_known : (xs : List Sent) (row : List ℕ) (at : ℕ) (units : List (List ℕ)) (es : List ℕ) → AreFirst at es (sizes units) → drop at row ≡ joined units → AreSome (sizes units) → ((t e : ℕ) → last_of at es < e → is_known xs t e ≡ false) → known_units xs at units ≡ known_from row xs at es
units_known xs row at [] [] are is some never = refl
units_known xs row at [] (e ∷ es) are is some never = absurd are
units_known xs row at (unit ∷ units) [] are is some never =
    ap₂ (λ k us. cond k (unit ∷ []) [] ++ us) (never at (at + length unit) (omega (arith, some.0)))
    (units_known xs row (at + length unit) units [] tt (row_next row unit (joined units) at is) some.1 (λ t e less. never t e (omega arith)))
units_known xs row at (unit ∷ units) (e ∷ es) are is some never =
    let here : at + length unit ≡ e = sym are.0 in
    ap (λ u. cond (is_known xs at (at + length unit)) (u ∷ []) [] ++ known_units xs (at + length unit) units) (sym (row_here row unit (joined units) at is))
    ∙ (ap (λ us. cond (is_known xs at (at + length unit)) (slice_range row at (at + length unit) ∷ []) [] ++ us) (units_known xs row (at + length unit) units es are.1 (row_next row unit (joined units) at is) some.1 (λ t q less. never t q (subst (λ j. last_of j es < q) here less)))
    ∙ ap (λ j. cond (is_known xs at j) (slice_range row at j ∷ []) [] ++ known_from row xs j es) here)

some_units : (units : List (List ℕ)) → AreUnits units → AreSome (sizes units)
some_units [] are = tt
some_units (u ∷ us) are = (are.0, some_units us are.1.1)

short_units : (units : List (List ℕ)) → AreUnits units → AreShort (sizes units)
short_units [] are = tt
short_units (u ∷ us) are = (are.1.0, short_units us are.1.1)

pub known_handed : (pdu : ℕ) (starts : Bool) (units : List (List ℕ)) (cuts : List ℕ) (arrives : ℕ → Bool) → 3 ≤ pdu → pdu ≤ 125 → AreUnits units → AreCuts (pdu - 1) starts (sizes units) 0 first_front cuts → AreFewLost 0 (sent_from arrives 0 true (pdus (pdu - 1) starts (sizes units) cuts)) → handed_up pdu (joined units) 0 opened (sent_from arrives 0 true (pdus (pdu - 1) starts (sizes units) cuts)) ≡ known_units (sent_from arrives 0 true (pdus (pdu - 1) starts (sizes units) cuts)) 0 units
known_handed pdu starts units cuts arrives from most are cut few =
    let ps : List Pdu = pdus (pdu - 1) starts (sizes units) cuts in
    let some : AreSome (sizes units) = some_units units are in
    let chain : IsChain pdu (joined units) (sizes units) first_front (front (pdu - 1) starts (sizes units) cuts) [] (pdus (pdu - 1) starts (sizes units) cuts) = chained pdu (pdu - 1) starts (joined units) (sizes units) 0 first_front [] cuts refl (omega arith) (omega arith) some (short_units units are) (omega (arith, total-sizes units)) cut (reached_first []) refl in
    let stand : Stand (joined units) [] 0 0 0 0 true true opened = record {
      heard = record { low = omega arith; begun = λ less e le. absurd (omega arith); fresh = λ le. refl; free = λ t e le. refl; unmarked = λ e less. refl };
      some = omega arith;
      vr_us = refl;
      waiting = refl;
      here = λ none. refl;
      none_known = λ more. absurd (omega arith);
    } in
    let first : AreFirst 0 (all_ends (pdus (pdu - 1) starts (sizes units) cuts)) (sizes units) = first_front_of 0 (all_ends (pdus (pdu - 1) starts (sizes units) cuts)) _ (sizes units) (subst (λ es. AreFirst 0 es (sizes units)) (sym chain.ends) (first_ends 0 (sizes units) _)) in
    hands_known pdu (joined units) arrives [] 0 0 0 0 true true opened ps chain.pdus few stand
    ∙ sym (units_known (sent_from arrives 0 true ps) (joined units) 0 units (all_ends ps) first refl some (λ t e less. ap (λ b. list_all (serves t e) (sent_from arrives 0 true ps) && b) (unmarked pdu (joined units) arrives 0 true 0 0 e ps chain.pdus less) ∙ and_false (list_all (serves t e) (sent_from arrives 0 true ps))))

-- each PDU is read as it was written
chain_read : (pdu : ℕ) (units : List (List ℕ)) (s f k : ℕ) (ps : List Pdu) → AreChained pdu (joined units) s f ps → AreRead pdu units k ps
chain_read pdu units s f k [] are = tt
chain_read pdu units s f k (p ∷ ps) are = (are.0.text k, chain_read pdu units (last_of s (ends_in p)) p.to (k + 1) ps are.1)

-- the PDUs of a list of units carry them one after another
pub pdus_chained : (pdu : ℕ) (starts : Bool) (units : List (List ℕ)) (cuts : List ℕ) → 3 ≤ pdu → pdu ≤ 125 → AreUnits units → AreCuts (pdu - 1) starts (sizes units) 0 first_front cuts → AreChained pdu (joined units) 0 0 (pdus (pdu - 1) starts (sizes units) cuts)
pdus_chained pdu starts units cuts from most are cut = (chained pdu (pdu - 1) starts (joined units) (sizes units) 0 first_front [] cuts refl (omega arith) (omega arith) (some_units units are) (short_units units are) (omega (arith, total-sizes units)) cut (reached_first []) refl).pdus

pub pdus_read : (pdu : ℕ) (starts : Bool) (units : List (List ℕ)) (cuts : List ℕ) → 3 ≤ pdu → pdu ≤ 125 → AreUnits units → AreCuts (pdu - 1) starts (sizes units) 0 first_front cuts → AreRead pdu units 0 (pdus (pdu - 1) starts (sizes units) cuts)
pdus_read pdu starts units cuts from most are cut =
    chain_read pdu units 0 0 0 (pdus (pdu - 1) starts (sizes units) cuts) (pdus_chained pdu starts units cuts from most are cut)
