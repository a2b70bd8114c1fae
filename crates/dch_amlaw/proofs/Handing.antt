-- What a receiver hands up, PDU by PDU, where MRWs may have passed units.
use Rattle.std.proofs.Common.{◌≡◌, ◌+◌, ◌-◌, ◌<◌, ◌≤◌, ◌⊎◌, ℕ, zero, suc, List, [], ◌∷◌, ◌++◌, Bool, true, false, cond, ◌&&◌, length, take, drop, get_or, Option, Some, None, max, arith, refl, sym, ap, ◌∙◌, subst, inl, ⊎_elim, append_assoc, length-append}
use Rattle.std.specs.Prelude.{◌==◌, nat_lt}
use Rattle.std.proofs.lemmas.Bool.{eqb-true, eqb-false, ltb-true, ltb-false, cond_both}
use Rattle.std.proofs.lemmas.List.{append-nil, take_more, drop_at, drop-drop}
use Rattle.dch_am.specs.Bodies.{Body, TxQueue, ends_of, ends, Reading, ended, read_pieces, read_rest, read_body, read_bodies, no_body}
use Rattle.dch_am.specs.Discards.{place_from}
use Rattle.dch_am.specs.Receiver.{body_of, dead_pieces, read_trimmed, read_one, read_run}
use Rattle.dch_am.specs.Cuts.{AllFull, empty_reading, AllBodiesFull, IsCut}
use Rattle.dch_am.proofs.Reading.{ended_full, read-append, ends-append, cut_front, cut_long}
use Rattle.dch_amlaw.proofs.Direction.{HasPlace}

-- how many units the PDUs below n end, and what a reader of these has
abbrev pub up_to : List Body → ℕ → ℕ
up_to bodies n = ends (take n bodies)

abbrev pub reading_at : List Body → ℕ → Reading
reading_at bodies n = read_bodies empty_reading (take n bodies)

take_one_more : (bodies : List Body) (n : ℕ) → n < length bodies → take (n + 1) bodies ≡ take n bodies ++ get_or bodies n no_body ∷ []
take_one_more bodies n l = take_more bodies n no_body l

pub up_to_more : (bodies : List Body) (n : ℕ) → n < length bodies → up_to bodies (n + 1) ≡ up_to bodies n + ends_of (get_or bodies n no_body)
up_to_more bodies n l = ap ends (take_one_more bodies n l) ∙ ends-append (take n bodies) (get_or bodies n no_body ∷ []) ∙ omega arith

reading_more : (bodies : List Body) (n : ℕ) → n < length bodies → reading_at bodies (n + 1) ≡ read_body (reading_at bodies n) (get_or bodies n no_body)
reading_more bodies n l = ap (read_bodies empty_reading) (take_one_more bodies n l) ∙ read-append empty_reading (take n bodies) (get_or bodies n no_body ∷ [])

-- units that are handed up already change nothing of the reading
abbrev onto : List (List ℕ) → Reading → Reading
onto done r = record { units = done ++ r.units; part = r.part }

ended_onto : (done units : List (List ℕ)) (u : List ℕ) → ended (done ++ units) u ≡ onto done (ended units u)
ended_onto done units [] = refl
ended_onto done units (x ∷ xs) = ap (λ us. record { units = us; part = [] }) (append_assoc done units ((x ∷ xs) ∷ []))

pieces_onto : (done units : List (List ℕ)) (part : List ℕ) (ps : List (List ℕ)) → read_pieces (record { units = done ++ units; part = part }) ps ≡ onto done (read_pieces (record { units = units; part = part }) ps)
pieces_onto done units part [] = refl
pieces_onto done units part (p ∷ ps) = ap (λ (r : Reading). read_pieces r ps) (ended_onto done units (part ++ p)) ∙ pieces_onto done (ended units (part ++ p)).units (ended units (part ++ p)).part ps

body_onto_by : (done units : List (List ℕ)) (part : List ℕ) (full : Bool) (ps : List (List ℕ)) (rest : List ℕ) → read_body (record { units = done ++ units; part = part }) (record { full = full; pieces = ps; rest = rest }) ≡ onto done (read_body (record { units = units; part = part }) (record { full = full; pieces = ps; rest = rest }))
body_onto_by done units part true ps rest = ap (λ (r : Reading). read_rest (read_pieces r ps) rest) (ended_onto done units part) ∙ ap (λ (r : Reading). read_rest r rest) (pieces_onto done (ended units part).units (ended units part).part ps)
body_onto_by done units part false ps rest = ap (λ (r : Reading). read_rest r rest) (pieces_onto done units part ps)

body_onto : (done : List (List ℕ)) (part : List ℕ) (b : Body) → read_body (record { units = done; part = part }) b ≡ onto done (read_body (record { units = []; part = part }) b)
body_onto done part b = ap (λ us. read_body (record { units = us; part = part }) b) (sym (append-nil done)) ∙ body_onto_by done [] part b.full b.pieces b.rest

-- whole pieces are units
pieces_whole : (done ps : List (List ℕ)) → AllFull ps → read_pieces (record { units = done; part = [] }) ps ≡ record { units = done ++ ps; part = [] }
pieces_whole done [] f = ap (λ us. record { units = us; part = [] }) (sym (append-nil done))
pieces_whole done (p ∷ ps) f = ap (λ (r : Reading). read_pieces r ps) (ended_full done p f.0) ∙ pieces_whole (done ++ p ∷ []) ps f.1 ∙ ap (λ us. record { units = us; part = [] }) (append_assoc done (p ∷ []) ps)

full_drop : (n : ℕ) (ps : List (List ℕ)) → AllFull ps → AllFull (drop n ps)
full_drop zero ps f = f
full_drop (suc n) [] f = f
full_drop (suc n) (p ∷ ps) f = full_drop n ps f.1

full_at : (bodies : List Body) (n : ℕ) → n < length bodies → AllBodiesFull bodies → AllFull (get_or bodies n no_body).pieces
full_at [] n l f = absurd (omega arith)
full_at (b ∷ bodies) zero l f = f.0
full_at (b ∷ bodies) (suc n) l f = full_at bodies n (omega arith) f.1

drop_past : (xs ys : List (List ℕ)) (n m : ℕ) → length xs ≡ n → drop (n + m) (xs ++ ys) ≡ drop m ys
drop_past xs ys n m e = sym (drop-drop m n (xs ++ ys)) ∙ ap (drop m) (drop_at xs ys n e)

-- where a unit's length indicator stands
abbrev pub indicator : Bool → ℕ → ℕ
indicator full j = cond (full && (j == 0)) 0 (j + 1)

pub record IsAt (bodies : List Body) (k n i : ℕ) : Type 0 where
  pub low : up_to bodies k ≤ i
  pub high : i < up_to bodies k + ends_of (get_or bodies k no_body)
  pub at : n ≡ indicator (get_or bodies k no_body).full (i - up_to bodies k)
  pub sent : k < length bodies

same_pair : (p q : ℕ × ℕ) → Some p ≡ Some q → p ≡ q
same_pair p q e = cc

both_of : (p q : ℕ × ℕ) → Some p ≡ Some q → (p.0 ≡ q.0) × (p.1 ≡ q.1)
both_of p q e = (ap (λ (x : ℕ × ℕ). x.0) (same_pair p q e), ap (λ (x : ℕ × ℕ). x.1) (same_pair p q e))

place_at : (bodies : List Body) (from i k n : ℕ) → place_from bodies from i ≡ Some (k, n) → (m : ℕ) × (k ≡ from + m) × IsAt bodies m n i
place_at [] from i k n e = absurd (cc)
place_at (b ∷ bodies) from i k n e = go (nat_lt i (ends_of b)) refl e (λ q. place_at bodies (from + 1) (i - ends_of b) k n q)
  where
    go : (t : Bool) → nat_lt i (ends_of b) ≡ t → cond t (Some (from, indicator b.full i)) (place_from bodies (from + 1) (i - ends_of b)) ≡ Some (k, n) → (place_from bodies (from + 1) (i - ends_of b) ≡ Some (k, n) → (m : ℕ) × (k ≡ from + 1 + m) × IsAt bodies m n (i - ends_of b)) → (m : ℕ) × (k ≡ from + m) × IsAt (b ∷ bodies) m n i
    go true t q rest =
        let s = both_of (from, indicator b.full i) (k, n) q in
        let z : i ≡ i - 0 = omega arith in
        (0, omega (arith, s.0), record { low = omega arith; high = omega (arith, ltb-true _ _ t); at = sym s.1 ∙ ap (indicator b.full) z; sent = omega arith })
    go false t q rest =
        let r = rest q in
        let le : ends_of b ≤ i = ltb-false _ _ t in
        let z : i - ends_of b - up_to bodies r.0 ≡ i - (ends_of b + up_to bodies r.0) = omega arith in
        (suc r.0, omega (arith, r.1), record { low = omega (arith, r.2.low); high = omega (arith, r.2.high); at = r.2.at ∙ ap (indicator (get_or bodies r.0 no_body).full) z; sent = omega (arith, r.2.sent) })

pub has_place_at : (bodies : List Body) (k n end_of_discard : ℕ) (h : HasPlace bodies k n end_of_discard) → IsAt bodies k n h.0
has_place_at bodies k n end_of_discard h =
    let p = place_at bodies 0 h.0 k n h.2 in
    let e : p.0 ≡ k = omega (arith, p.1) in
    subst (λ m. IsAt bodies m n h.0) e p.2

-- a reader at a number: it has what is before it of the unit in progress, or it begins behind a discarded unit
abbrev pub Earlier : Option (ℕ × ℕ) → ℕ → Type 0
Earlier None n = Unit {0}
Earlier (Some t) n = t.0 < n

pub record Aligned (bodies : List Body) (part : List ℕ) (trim : Option (ℕ × ℕ)) (past n : ℕ) : Type 0 where
  pub part_is : part ≡ (reading_at bodies n).part
  pub past_le : past ≤ up_to bodies n
  pub earlier : Earlier trim n

pub record Cut (bodies : List Body) (part : List ℕ) (trim : Option (ℕ × ℕ)) (past n : ℕ) : Type 0 where
  pub part_is : part ≡ []
  pub place : ℕ
  pub trim_is : trim ≡ Some (n, place)
  pub has : HasPlace bodies n place past

abbrev pub Stands : List Body → List ℕ → Option (ℕ × ℕ) → ℕ → ℕ → Type 0
Stands bodies part trim past n = Aligned bodies part trim past n ⊎ Cut bodies part trim past n

pub record Reads (bodies : List Body) (accepted : List (List ℕ)) (trim : Option (ℕ × ℕ)) (past from : ℕ) (before after : Reading) : Type 0 where
  pub aligned : Aligned bodies after.part trim past (from + 1)
  pub units : after.units ≡ before.units ++ drop (max (up_to bodies from) past) (take (up_to bodies (from + 1)) accepted)

one_aligned : (bodies : List Body) (accepted : List (List ℕ)) (q : TxQueue) (trim : Option (ℕ × ℕ)) (past n : ℕ) (r : Reading) → IsCut accepted q bodies → n < length bodies → Aligned bodies r.part trim past n → read_one trim r n (get_or bodies n no_body) ≡ read_body r (get_or bodies n no_body) → Reads bodies accepted trim past n r (read_one trim r n (get_or bodies n no_body))
one_aligned bodies accepted q trim past n r c l a plain = subst (Reads bodies accepted trim past n r) (sym plain) (record {
  aligned = record {
    part_is = ap (λ (x : Reading). x.part) mine ∙ sym (ap (λ (x : Reading). x.part) theirs);
    past_le = omega (arith, a.past_le, up_to_more bodies n l);
    earlier = later trim n a.earlier;
  };
  units = ap (λ (x : Reading). x.units) mine ∙ ap (λ us. r.units ++ us) (sym (drop_at (reading_at bodies n).units more (up_to bodies n) (cut_long accepted q bodies n c)) ∙ ap (drop (up_to bodies n)) (sym (ap (λ (x : Reading). x.units) theirs) ∙ cut_front accepted q bodies (n + 1) c) ∙ ap (λ m. drop m (take (up_to bodies (n + 1)) accepted)) start);
})
  where
    b : Body
    b = get_or bodies n no_body

    part : List ℕ
    part = (reading_at bodies n).part

    more : List (List ℕ)
    more = (read_body (record { units = []; part = part }) b).units

    mine : read_body r b ≡ onto r.units (read_body (record { units = []; part = part }) b)
    mine = body_onto r.units r.part b ∙ ap (λ p. onto r.units (read_body (record { units = []; part = p }) b)) a.part_is

    theirs : reading_at bodies (n + 1) ≡ onto (reading_at bodies n).units (read_body (record { units = []; part = part }) b)
    theirs = reading_more bodies n l ∙ body_onto (reading_at bodies n).units part b

    start : up_to bodies n ≡ max (up_to bodies n) past
    start = omega (arith, a.past_le)

    later : (t : Option (ℕ × ℕ)) (n : ℕ) → Earlier t n → Earlier t (n + 1)
    later None n e = tt
    later (Some t) n e = omega arith

-- what a PDU gives a reader that has all before it: a first unit, and then whole pieces
pub record Given (done : List (List ℕ)) (part : List ℕ) (b : Body) (n j : ℕ) : Type 0 where
  pub first : List ℕ
  pub tail : List (List ℕ)
  pub read : read_body (record { units = done; part = part }) b ≡ record { units = done ++ first ∷ tail; part = b.rest }
  pub left : drop (dead_pieces n b) b.pieces ≡ drop j tail

given : (done : List (List ℕ)) (part : List ℕ) (full : Bool) (ps : List (List ℕ)) (rest : List ℕ) (n j total : ℕ) → AllFull ps → n ≡ indicator full j → j < ends_of (record { full = full; pieces = ps; rest = rest }) → length (read_body (record { units = done; part = part }) (record { full = full; pieces = ps; rest = rest })).units ≡ length done + ends_of (record { full = full; pieces = ps; rest = rest }) → Given done part (record { full = full; pieces = ps; rest = rest }) n j
given done [] true ps rest n j total f e l long = absurd (omega (arith, ap (λ (r : Reading). length r.units) (pieces_whole done ps f), length-append done ps, long))
given done (x ∷ xs) true ps rest n j total f e l long = record {
  first = x ∷ xs;
  tail = ps;
  read = ap (λ (r : Reading). read_rest r rest) (pieces_whole (done ++ (x ∷ xs) ∷ []) ps f) ∙ ap (λ us. record { units = us; part = rest }) (append_assoc done ((x ∷ xs) ∷ []) ps);
  left = ap (λ m. drop (m - 1) ps) e ∙ ap (λ m. drop m ps) (dead j);
}
  where
    dead : (j : ℕ) → indicator true j - 1 ≡ j
    dead j = cond_both (j == 0) 0 (j + 1) (λ (m : ℕ). m - 1 ≡ j) (λ e. omega (arith, eqb-true j 0 e)) (λ _. omega arith)
given done part false [] rest n j total f e l long = absurd (omega arith)
given done part false (p ∷ ps) rest n j total f e l long = record {
  first = part ++ p;
  tail = ps;
  read = ap (λ (r : Reading). read_rest (read_pieces r ps) rest) (ended_full done (part ++ p) full) ∙ ap (λ (r : Reading). read_rest r rest) (pieces_whole (done ++ (part ++ p) ∷ []) ps f.1) ∙ ap (λ us. record { units = us; part = rest }) (append_assoc done ((part ++ p) ∷ []) ps);
  left = let s : n ≡ suc j = e ∙ omega arith in ap (λ m. drop m (p ∷ ps)) s;
}
  where
    full : 0 < length (part ++ p)
    full = omega (arith, length-append part p, f.0)

one_cut : (bodies : List Body) (accepted : List (List ℕ)) (q : TxQueue) (trim : Option (ℕ × ℕ)) (past n : ℕ) (r : Reading) → IsCut accepted q bodies → (a : Cut bodies r.part trim past n) → read_one trim r n (get_or bodies n no_body) ≡ read_trimmed r a.place (get_or bodies n no_body) → Reads bodies accepted trim past n r (read_one trim r n (get_or bodies n no_body))
one_cut bodies accepted q trim past n r c a plain = subst (Reads bodies accepted trim past n r) (sym plain) (record {
  aligned = record {
    part_is = ap (λ (x : Reading). x.part) mine ∙ sym (ap (λ (x : Reading). x.part) theirs);
    past_le = omega (arith, a.has.1, is.high, up_to_more bodies n is.sent);
    earlier = subst (λ t. Earlier t (n + 1)) (sym a.trim_is) (omega arith);
  };
  units = ap (λ (x : Reading). x.units) mine ∙ ap (λ us. r.units ++ us) (g.left ∙ sym (drop_past done (g.first ∷ g.tail) (up_to bodies n) (suc j) (cut_long accepted q bodies n c)) ∙ ap (λ m. drop m (done ++ g.first ∷ g.tail)) start ∙ ap (drop (max (up_to bodies n) past)) (sym (ap (λ (x : Reading). x.units) theirs) ∙ cut_front accepted q bodies (n + 1) c));
})
  where
    b : Body
    b = get_or bodies n no_body

    is : IsAt bodies n a.place a.has.0
    is = has_place_at bodies n a.place past a.has

    j : ℕ
    j = a.has.0 - up_to bodies n

    done : List (List ℕ)
    done = (reading_at bodies n).units

    full : AllFull b.pieces
    full = full_at bodies n is.sent c.full

    long : length (read_body (reading_at bodies n) b).units ≡ length done + ends_of b
    long = ap (λ (x : Reading). length x.units) (sym (reading_more bodies n is.sent)) ∙ omega (arith, cut_long accepted q bodies (n + 1) c, cut_long accepted q bodies n c, up_to_more bodies n is.sent)

    g : Given done (reading_at bodies n).part b a.place j
    g = given done (reading_at bodies n).part b.full b.pieces b.rest a.place j 0 full is.at (omega (arith, is.high, is.low)) long

    theirs : reading_at bodies (n + 1) ≡ record { units = done ++ g.first ∷ g.tail; part = b.rest }
    theirs = reading_more bodies n is.sent ∙ g.read

    mine : read_trimmed r a.place b ≡ record { units = r.units ++ drop (dead_pieces a.place b) b.pieces; part = b.rest }
    mine = ap (λ (x : Reading). read_rest x b.rest) (pieces_whole r.units (drop (dead_pieces a.place b) b.pieces) (full_drop (dead_pieces a.place b) b.pieces full))

    start : up_to bodies n + suc j ≡ max (up_to bodies n) past
    start = omega (arith, a.has.1, is.low)

one_trim : (trim : Option (ℕ × ℕ)) (r : Reading) (n : ℕ) (b : Body) → Earlier trim n → read_one trim r n b ≡ read_body r b
one_trim None r n b e = refl
one_trim (Some t) r n b e = cond_both (n == t.0) _ _ (λ (x : Reading). x ≡ read_body r b) (λ q. absurd (omega (arith, eqb-true n t.0 q))) (λ _. refl)

one_trim_here : (trim : Option (ℕ × ℕ)) (r : Reading) (n place : ℕ) (b : Body) → trim ≡ Some (n, place) → read_one trim r n b ≡ read_trimmed r place b
one_trim_here trim r n place b e = ap (λ t. read_one t r n b) e ∙ cond_both (n == n) _ _ (λ (x : Reading). x ≡ read_trimmed r place b) (λ _. refl) (λ q. absurd (eqb-false n n q refl))

one : (bodies : List Body) (accepted : List (List ℕ)) (q : TxQueue) (trim : Option (ℕ × ℕ)) (past n : ℕ) (r : Reading) → IsCut accepted q bodies → n < length bodies → Stands bodies r.part trim past n → Reads bodies accepted trim past n r (read_one trim r n (get_or bodies n no_body))
one bodies accepted q trim past n r c l st = ⊎_elim
    (λ (a : Aligned bodies r.part trim past n). one_aligned bodies accepted q trim past n r c l a (one_trim trim r n (get_or bodies n no_body) a.earlier))
    (λ (a : Cut bodies r.part trim past n). one_cut bodies accepted q trim past n r c a (one_trim_here trim r n a.place (get_or bodies n no_body) a.trim_is))
    st

-- the middle of a list, in two parts
drop_both : (xs : List (List ℕ)) (a b c : ℕ) → a ≤ b → b ≤ c → drop a (take b xs) ++ drop b (take c xs) ≡ drop a (take c xs)
drop_both [] zero zero c l m = refl
drop_both [] zero (suc b) zero l m = absurd (omega arith)
drop_both [] zero (suc b) (suc c) l m = refl
drop_both [] (suc a) zero c l m = absurd (omega arith)
drop_both [] (suc a) (suc b) zero l m = absurd (omega arith)
drop_both [] (suc a) (suc b) (suc c) l m = refl
drop_both (x ∷ xs) zero zero c l m = refl
drop_both (x ∷ xs) zero (suc b) zero l m = absurd (omega arith)
drop_both (x ∷ xs) zero (suc b) (suc c) l m = ap (λ ys. x ∷ ys) (drop_both xs 0 b c (omega arith) (omega arith))
drop_both (x ∷ xs) (suc a) zero c l m = absurd (omega arith)
drop_both (x ∷ xs) (suc a) (suc b) zero l m = absurd (omega arith)
drop_both (x ∷ xs) (suc a) (suc b) (suc c) l m = drop_both xs a b c (omega arith) (omega arith)

pub drop_none : (xs : List (List ℕ)) (a b : ℕ) → b ≤ a → drop a (take b xs) ≡ []
drop_none [] zero zero l = refl
drop_none [] zero (suc b) l = absurd (omega arith)
drop_none [] (suc a) zero l = refl
drop_none [] (suc a) (suc b) l = refl
drop_none (x ∷ xs) zero zero l = refl
drop_none (x ∷ xs) zero (suc b) l = absurd (omega arith)
drop_none (x ∷ xs) (suc a) zero l = refl
drop_none (x ∷ xs) (suc a) (suc b) l = drop_none xs a b (omega arith)

-- a run of PDUs
pub record Ran (bodies : List Body) (accepted : List (List ℕ)) (trim : Option (ℕ × ℕ)) (past from now : ℕ) (before after : Reading) : Type 0 where
  pub stands : Stands bodies after.part trim past now
  pub units : after.units ≡ before.units ++ drop (max (up_to bodies from) past) (take (up_to bodies now) accepted)
  pub more : up_to bodies from ≤ up_to bodies now

pub ran : (bodies : List Body) (accepted : List (List ℕ)) (q : TxQueue) (trim : Option (ℕ × ℕ)) (arrived : List (ℕ × Body)) (past n from now : ℕ) (r : Reading) → IsCut accepted q bodies → from + n ≡ now → now ≤ length bodies → ((j : ℕ) → from ≤ j → j < now → body_of arrived j ≡ get_or bodies j no_body) → Stands bodies r.part trim past from → Ran bodies accepted trim past from now r (read_run trim arrived r from n)
ran bodies accepted q trim arrived past zero from now r c e le all st =
    let s : from ≡ now = omega arith in
    record {
      stands = subst (Stands bodies r.part trim past) s st;
      units = sym (append-nil r.units) ∙ ap (λ us. r.units ++ us) (sym (drop_none accepted (max (up_to bodies from) past) (up_to bodies now) (omega (arith, ap (up_to bodies) s))));
      more = omega (arith, ap (up_to bodies) s);
    }
ran bodies accepted q trim arrived past (suc n) from now r c e le all st =
    let l : from < length bodies = omega arith in
    let o = one bodies accepted q trim past from r c l st in
    let b : body_of arrived from ≡ get_or bodies from no_body = all from (omega arith) (omega arith) in
    let o' : Reads bodies accepted trim past from r (read_one trim r from (body_of arrived from)) = subst (λ x. Reads bodies accepted trim past from r (read_one trim r from x)) (sym b) o in
    let rest = ran bodies accepted q trim arrived past n (from + 1) now (read_one trim r from (body_of arrived from)) c (omega arith) le (λ j m k. all j (omega arith) k) (inl o'.aligned) in
    let grow : up_to bodies from ≤ up_to bodies (from + 1) = omega (arith, up_to_more bodies from l) in
    let start : max (up_to bodies (from + 1)) past ≡ up_to bodies (from + 1) = omega (arith, o'.aligned.past_le) in
    record {
      stands = rest.stands;
      units =
          rest.units
          ∙ ap (λ us. us ++ drop (max (up_to bodies (from + 1)) past) (take (up_to bodies now) accepted)) o'.units
          ∙ append_assoc r.units (drop (max (up_to bodies from) past) (take (up_to bodies (from + 1)) accepted)) (drop (max (up_to bodies (from + 1)) past) (take (up_to bodies now) accepted))
          ∙ ap (λ us. r.units ++ us) (ap (λ m. drop (max (up_to bodies from) past) (take (up_to bodies (from + 1)) accepted) ++ drop m (take (up_to bodies now) accepted)) start
          ∙ drop_both accepted (max (up_to bodies from) past) (up_to bodies (from + 1)) (up_to bodies now) (omega (arith, o'.aligned.past_le)) rest.more);
      more = omega (arith, rest.more);
    }
