-- What a restart keeps and drops: the units of which an octet was built are those that the PDUs end, and perhaps one more.
use Rattle.std.proofs.Common.{◌≡◌, ◌+◌, ◌-◌, ◌<◌, ◌≤◌, ℕ, zero, suc, List, [], ◌∷◌, ◌++◌, Bool, true, false, cond, length, take, drop, arith, refl, sym, ap, ◌∙◌, subst, length-append}
use Rattle.std.specs.Prelude.{nat_lt}
use Rattle.std.proofs.lemmas.Bool.{lt-ltb, le-ltb, cond_both, cond-false, cond-true}
use Rattle.dch_sar.specs.Filling.{AreSome}
use Rattle.dch_sar.specs.Pdus.{left_from}
use Rattle.dch_am.specs.Bodies.{Body, TxQueue, Reading, carried, joined, ended, ends, read_pieces, read_full, read_body, read_bodies, sizes}
use Rattle.dch_am.specs.Cuts.{AllFull, unread, Fits, empty_reading, IsCut}
use Rattle.dch_am.specs.Listed.{IsListed}
use Rattle.dch_am.specs.Restart.{octets_in, begun, begun_below, restarted_sender, whole_of}
use Rattle.dch_am.specs.Sender.{Sender}
use Rattle.dch_am.proofs.Reading.{full_push, ends_split}

-- All units are full, read or not.
ended_all_full : (units : List (List ℕ)) (u : List ℕ) → AllFull units → AllFull (ended units u).units
ended_all_full units [] f = f
ended_all_full units (x ∷ xs) f = full_push units (x ∷ xs) (omega arith) f

pieces_all_full : (r : Reading) (ps : List (List ℕ)) → AllFull r.units → AllFull (read_pieces r ps).units
pieces_all_full r [] f = f
pieces_all_full r (p ∷ ps) f = pieces_all_full (ended r.units (r.part ++ p)) ps (ended_all_full r.units (r.part ++ p) f)

full_all_full : (r : Reading) (t : Bool) → AllFull r.units → AllFull (read_full r t).units
full_all_full r true f = ended_all_full r.units r.part f
full_all_full r false f = f

bodies_all_full : (r : Reading) (bs : List Body) → AllFull r.units → AllFull (read_bodies r bs).units
bodies_all_full r [] f = f
bodies_all_full r (b ∷ bs) f = bodies_all_full (read_body r b) bs (pieces_all_full (read_full r b.full) b.pieces (full_all_full r b.full f))

unread_full : (part : List ℕ) (owed : Bool) (us : List (List ℕ)) → Fits part owed us → AllFull (unread part owed us)
unread_full part true us f = (f.0, f.1)
unread_full part false [] f = tt
unread_full part false (u ∷ us) f = (omega (arith, length-append part u, f.0), f.1)

full-append : (xs ys : List (List ℕ)) → AllFull xs → AllFull ys → AllFull (xs ++ ys)
full-append [] ys f g = g
full-append (x ∷ xs) ys f g = (f.0, full-append xs ys f.1 g)

pub cut_full : (accepted : List (List ℕ)) (q : TxQueue) (bodies : List Body) → IsCut accepted q bodies → AllFull accepted
cut_full accepted q bodies c =
    let r = read_bodies empty_reading bodies in
    subst AllFull c.goes.same (full-append r.units (unread r.part q.owed q.units) (bodies_all_full empty_reading bodies tt) (unread_full r.part q.owed q.units c.goes.fits))

pub full_drop : (n : ℕ) (us : List (List ℕ)) → AllFull us → AllFull (drop n us)
full_drop zero us f = f
full_drop (suc n) [] f = f
full_drop (suc n) (u ∷ us) f = full_drop n us f.1

pub cut_fresh : (us : List (List ℕ)) → AllFull us → IsCut us (record { owed = false; units = us }) []
cut_fresh [] f = record { full = tt; goes = record { same = refl; fits = refl; count = refl } }
cut_fresh (u ∷ us) f = record { full = tt; goes = record { same = refl; fits = f; count = refl } }

-- Octets: those of the PDUs are those of the units that were read, and of the part.
total : List (List ℕ) → ℕ
total [] = 0
total (u ∷ us) = length u + total us

total-append : (xs ys : List (List ℕ)) → total (xs ++ ys) ≡ total xs + total ys
unfolding total
total-append [] ys = omega arith
total-append (x ∷ xs) ys = omega (arith, total-append xs ys)

ended_octets : (units : List (List ℕ)) (u : List ℕ) → total (ended units u).units + length (ended units u).part ≡ total units + length u
unfolding total
ended_octets units [] = refl
ended_octets units (x ∷ xs) = omega (arith, total-append units ((x ∷ xs) ∷ []))

pieces_octets : (r : Reading) (ps : List (List ℕ)) → total (read_pieces r ps).units + length (read_pieces r ps).part ≡ total r.units + length r.part + length (joined ps)
pieces_octets r [] = omega arith
pieces_octets r (p ∷ ps) = omega (arith, pieces_octets (ended r.units (r.part ++ p)) ps, ended_octets r.units (r.part ++ p), length-append r.part p, length-append p (joined ps))

full_octets : (r : Reading) (t : Bool) → total (read_full r t).units + length (read_full r t).part ≡ total r.units + length r.part
full_octets r true = ended_octets r.units r.part
full_octets r false = refl

body_octets : (r : Reading) (b : Body) → total (read_body r b).units + length (read_body r b).part ≡ total r.units + length r.part + length (carried b)
body_octets r b = omega (arith, pieces_octets (read_full r b.full) b.pieces, full_octets r b.full, length-append (read_pieces (read_full r b.full) b.pieces).part b.rest, length-append (joined b.pieces) b.rest)

bodies_octets : (r : Reading) (bs : List Body) → total (read_bodies r bs).units + length (read_bodies r bs).part ≡ total r.units + length r.part + octets_in bs
bodies_octets r [] = omega arith
bodies_octets r (b ∷ bs) = omega (arith, bodies_octets (read_body r b) bs, body_octets r b)

unread_octets : (part : List ℕ) (owed : Bool) (us : List (List ℕ)) → Fits part owed us → total (unread part owed us) ≡ length part + total us
unfolding total
unread_octets part true us f = refl
unread_octets part false [] f = omega (arith, ap length f)
unread_octets part false (u ∷ us) f = omega (arith, length-append part u)

octets_few : (accepted : List (List ℕ)) (q : TxQueue) (bodies : List Body) → IsCut accepted q bodies → octets_in bodies ≤ total accepted
unfolding total
octets_few accepted q bodies c =
    let r = read_bodies empty_reading bodies in
    omega (arith, bodies_octets empty_reading bodies, unread_octets r.part q.owed q.units c.goes.fits, total-append r.units (unread r.part q.owed q.units), ap total c.goes.same)

-- How many units were begun.
pub begun_few : (n : ℕ) (us : List (List ℕ)) → begun_below n us ≤ length us
begun_few n [] = omega arith
begun_few n (u ∷ us) = cond_both (nat_lt 0 n) (1 + begun_below (n - length u) us) 0 (λ m. m ≤ suc (length us)) (λ _. omega (arith, begun_few (n - length u) us)) (λ _. omega arith)

begun_push_by : (n : ℕ) (us : List (List ℕ)) (u : List ℕ) → n ≤ total us → begun_below n (us ++ u ∷ []) ≡ begun_below n us
unfolding total
begun_push_by n [] u le = cond-false (nat_lt 0 n) _ _ (le-ltb 0 n le)
begun_push_by n (v ∷ us) u le = ap (λ m. cond (nat_lt 0 n) (1 + m) 0) (begun_push_by (n - length v) us u (omega arith))

pub begun_push : (accepted : List (List ℕ)) (q : TxQueue) (bodies : List Body) (u : List ℕ) → IsCut accepted q bodies → begun_below (octets_in bodies) (accepted ++ u ∷ []) ≡ begun_below (octets_in bodies) accepted
begun_push accepted q bodies u c = begun_push_by (octets_in bodies) accepted u (octets_few accepted q bodies c)

begun_all : (n : ℕ) (us vs : List (List ℕ)) → AllFull us → total us ≤ n → length us ≤ begun_below n (us ++ vs)
unfolding total
begun_all n [] vs f le = omega arith
begun_all n (u ∷ us) vs f le = let t : nat_lt 0 n ≡ true = lt-ltb 0 n (omega (arith, f.0)) in rw t (omega (arith, begun_all (n - length u) us vs f.1 (omega arith)))

pub ends_begun : (accepted : List (List ℕ)) (q : TxQueue) (bodies : List Body) → IsCut accepted q bodies → ends bodies ≤ begun_below (octets_in bodies) accepted
unfolding total
ends_begun accepted q bodies c =
    let r = read_bodies empty_reading bodies in
    subst (λ us. ends bodies ≤ begun_below (octets_in bodies) us) c.goes.same (omega (arith, c.goes.count, begun_all (octets_in bodies) r.units (unread r.part q.owed q.units) (bodies_all_full empty_reading bodies tt) (omega (arith, bodies_octets empty_reading bodies))))

pub front_begun : (accepted : List (List ℕ)) (q : TxQueue) (bodies : List Body) (g : ℕ) → IsCut accepted q bodies → ends (take g bodies) ≤ begun_below (octets_in bodies) accepted
front_begun accepted q bodies g c = omega (arith, ends_begun accepted q bodies c, ends_split g bodies)

-- Those that were not begun are the whole ones of what is unsent.
begun_past : (m n : ℕ) (us vs : List (List ℕ)) → AllFull us → n ≡ total us + m → begun_below n (us ++ vs) ≡ length us + begun_below m vs
unfolding total
begun_past m n [] vs f e = let s : n ≡ m = omega arith in ap (λ k. begun_below k vs) s ∙ omega arith
begun_past m n (u ∷ us) vs f e = let t : nat_lt 0 n ≡ true = lt-ltb 0 n (omega (arith, f.0)) in rw t (omega (arith, begun_past m (n - length u) us vs f.1 (omega arith)))

begun_zero : (n : ℕ) (us : List (List ℕ)) → n ≡ 0 → begun_below n us ≡ 0
begun_zero n [] e = refl
begun_zero n (u ∷ us) e = cond-false (nat_lt 0 n) _ _ (le-ltb 0 n (omega arith))

begun_one : (n : ℕ) (u : List ℕ) (us : List (List ℕ)) → 0 < n → n ≤ length u → begun_below n (u ∷ us) ≡ 1
begun_one n u us l le = cond-true (nat_lt 0 n) _ _ (lt-ltb 0 n l) ∙ ap (λ k. 1 + k) (begun_zero (n - length u) us (omega arith))

drop_past : (us vs : List (List ℕ)) (k : ℕ) → drop (length us + k) (us ++ vs) ≡ drop k vs
drop_past [] vs k = let e : 0 + k ≡ k = omega arith in ap (λ n. drop n vs) e
drop_past (u ∷ us) vs k = let e : suc (length us) + k ≡ suc (length us + k) = omega arith in ap (λ n. drop n (u ∷ (us ++ vs))) e ∙ drop_past us vs k

unread_whole : (part : List ℕ) (owed : Bool) (us : List (List ℕ)) → Fits part owed us → drop (begun_below (length part) (unread part owed us)) (unread part owed us) ≡ whole_of part (record { owed = owed; units = us })
unread_whole part true us f = ap (λ n. drop n (part ∷ us)) (begun_one (length part) part us f.0 (omega arith))
unread_whole [] false [] f = refl
unread_whole (x ∷ xs) false [] f = refl
unread_whole [] false (u ∷ us) f = refl
unread_whole (x ∷ xs) false (u ∷ us) f = ap (λ n. drop n (((x ∷ xs) ++ u) ∷ us)) (begun_one (length (x ∷ xs)) ((x ∷ xs) ++ u) us (omega arith) (omega (arith, length-append xs u)))

pub kept_is : (accepted : List (List ℕ)) (q : TxQueue) (bodies : List Body) → IsCut accepted q bodies → drop (begun_below (octets_in bodies) accepted) accepted ≡ whole_of (read_bodies empty_reading bodies).part q
unfolding total
kept_is accepted q bodies c =
    let r = read_bodies empty_reading bodies in
    let left = unread r.part q.owed q.units in
    let e : begun_below (octets_in bodies) (r.units ++ left) ≡ length r.units + begun_below (length r.part) left = begun_past (length r.part) (octets_in bodies) r.units left (bodies_all_full empty_reading bodies tt) (omega (arith, bodies_octets empty_reading bodies)) in
    ap (λ us. drop (begun_below (octets_in bodies) us) us) (sym c.goes.same) ∙ ap (λ n. drop n (r.units ++ left)) e ∙ drop_past r.units left (begun_below (length r.part) left) ∙ unread_whole r.part q.owed q.units c.goes.fits

-- The list of PDUs begins anew.
some_drop : (n : ℕ) (us : List (List ℕ)) → AreSome (sizes us) → AreSome (sizes (drop n us))
some_drop zero us f = f
some_drop (suc n) [] f = f
some_drop (suc n) (u ∷ us) f = some_drop n us f.1

left_all : (us : List (List ℕ)) → AreSome (sizes us) → sizes us ≡ left_from 0 (sizes us)
left_all [] f = refl
left_all (u ∷ us) f =
    let t : nat_lt 0 (length u) ≡ true = lt-ltb 0 (length u) (omega (arith, f.0)) in
    let e : length u ≡ length u - 0 = omega arith in
    ap (λ n. n ∷ sizes us) e ∙ sym (cond-true (nat_lt 0 (length u)) _ _ t)

pub listed_restarts : (d : ℕ) (s : Sender) → IsListed d s → IsListed d (restarted_sender s)
listed_restarts d s l = record {
  some = some_drop (begun s) s.accepted l.some;
  cuts = omega arith;
  bodies = tt;
  owed = refl;
  lengths = left_all (drop (begun s) s.accepted) (some_drop (begun s) s.accepted l.some);
  row = refl;
}
