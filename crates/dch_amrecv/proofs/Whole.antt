-- Units of which no more than 1,501 octets are kept, beside the whole ones.
use Rattle.std.proofs.Common.{◌≡◌, ◌+◌, ◌<◌, ◌≤◌, ℕ, zero, suc, List, [], ◌∷◌, ◌++◌, Bool, true, false, Option, Some, None, length, take, drop, map, arith, refl, sym, ap, ap₂, ◌∙◌, length-append, length-take}
use Rattle.std.specs.Prelude.{◌==◌}
use Rattle.std.proofs.lemmas.Bool.{eq-eqb, eqb-true, eqb-false}
use Rattle.std.proofs.lemmas.List.{drop-append-le}
use Rattle.dch_am.specs.Bodies.{Body, Reading, ended as end_unit, read_body, read_full, read_pieces, read_rest}
use Rattle.dch_am.specs.Receiver.{body_of, dead_pieces, read_one, read_run, read_trimmed}
use Rattle.dch_sar.specs.Taking.{Waiting, added, dropped, ended, ended_units, took_full}
use Rattle.dch_amrecv.specs.Reading.{took_one, took_pieces}
use Rattle.dch_amrecv.specs.Lines.{took_run, trim_left}
use Rattle.dch_amrecv.specs.Standing.{AreUnits, IsPast, live, place}

take_again : (n : ℕ) (xs ys : List ℕ) → take n (take n xs ++ ys) ≡ take n (xs ++ ys)
take_again zero xs ys = refl
take_again (suc n) [] ys = refl
take_again (suc n) (x ∷ xs) ys = ap (λ zs. x ∷ zs) (take_again n xs ys)

map_push : (f : List ℕ → List ℕ) (xs : List (List ℕ)) (x : List ℕ) → map f (xs ++ x ∷ []) ≡ map f xs ++ f x ∷ []
map_push f [] x = refl
map_push f (y ∷ xs) x = ap (λ ys. f y ∷ ys) (map_push f xs x)

pub units_added : (given : ℕ) (u : Waiting) (r : Reading) (xs : List ℕ) → AreUnits given u r → AreUnits given (added xs u) (read_rest r xs)
units_added given u r xs a = record { waiting = a.waiting; part = ap (λ p. take 1501 (p ++ xs)) a.part ∙ take_again 1501 r.part xs; within = a.within }

pub units_dropped : (given : ℕ) (u : Waiting) (r : Reading) → AreUnits given u r → AreUnits given (dropped u) (record { units = r.units; part = [] })
units_dropped given u r a = record { waiting = a.waiting; part = refl; within = a.within }

none_taken : length (take {A = ℕ} 1501 []) ≡ 0
none_taken = refl

ended_here : (given : ℕ) (ws : List (List ℕ)) (p : List ℕ) (units : List (List ℕ)) (part : List ℕ) → ws ≡ map (take 1501) (drop given units) → p ≡ take 1501 part → given ≤ length units → AreUnits given (record { waiting = ended_units ws p; part = [] }) (end_unit units part)
ended_here given ws [] units [] w e l = record { waiting = w; part = refl; within = l }
ended_here given ws (y ∷ p) units [] w e l = absurd (omega (arith, ap length e, none_taken))
ended_here given ws [] units (x ∷ part) w e l = absurd (omega (arith, ap length e, length-take 1501 (x ∷ part)))
ended_here given ws (y ∷ p) units (x ∷ part) w e l = record {
  waiting = ap₂ (λ (vs : List (List ℕ)) q. vs ++ q ∷ []) w e ∙ sym (ap (map (take 1501)) (drop-append-le given units ((x ∷ part) ∷ []) l) ∙ map_push (take 1501) (drop given units) (x ∷ part));
  part = refl;
  within = omega (arith, l, length-append units ((x ∷ part) ∷ []));
}

pub units_ended : (given : ℕ) (u : Waiting) (r : Reading) → AreUnits given u r → AreUnits given (ended u) (end_unit r.units r.part)
units_ended given u r a = ended_here given u.waiting u.part r.units r.part a.waiting a.part a.within

units_pieces : (given : ℕ) (ps : List (List ℕ)) (u : Waiting) (r : Reading) → AreUnits given u r → AreUnits given (took_pieces ps u) (read_pieces r ps)
units_pieces given [] u r a = a
units_pieces given (p ∷ ps) u r a = units_pieces given ps (ended (added p u)) (end_unit r.units (r.part ++ p)) (units_ended given (added p u) (read_rest r p) (units_added given u r p a))

units_full : (given : ℕ) (b : Bool) (u : Waiting) (r : Reading) → AreUnits given u r → AreUnits given (took_full b u) (read_full r b)
units_full given true u r a = units_ended given u r a
units_full given false u r a = a

pub units_body : (given : ℕ) (b : Body) (u : Waiting) (r : Reading) → AreUnits given u r → AreUnits given (took_one None b u) (read_body r b)
units_body given b u r a = units_added given (took_pieces b.pieces (took_full b.full u)) (read_pieces (read_full r b.full) b.pieces) b.rest (units_pieces given b.pieces (took_full b.full u) (read_full r b.full) (units_full given b.full u r a))

pub units_trimmed : (given n : ℕ) (b : Body) (u : Waiting) (r : Reading) → AreUnits given u r → AreUnits given (took_one (Some n) b u) (read_trimmed r n b)
units_trimmed given n b u r a = units_added given (took_pieces (drop (dead_pieces n b) b.pieces) (dropped u)) (read_pieces (record { units = r.units; part = [] }) (drop (dead_pieces n b) b.pieces)) b.rest (units_pieces given (drop (dead_pieces n b) b.pieces) (dropped u) (record { units = r.units; part = [] }) (units_dropped given u r a))

same_test : (a b : ℕ) (c : Bool) → (a == b) ≡ c → (b == a) ≡ c
same_test a b true e = eq-eqb b a (sym (eqb-true a b e))
same_test a b false e = not_same (b == a) refl
  where
    not_same : (d : Bool) → (b == a) ≡ d → (b == a) ≡ false
    not_same true q = absurd (eqb-false a b e (sym (eqb-true b a q)))
    not_same false q = q

-- the trim of a PDU
pub units_one : (given k : ℕ) (trim : Option (ℕ × ℕ)) (b : Body) (u : Waiting) (r : Reading) → AreUnits given u r → AreUnits given (took_one (live k trim) b u) (read_one trim r k b)
units_one given k None b u r a = units_body given b u r a
units_one given k (Some t) b u r a = go (k == t.0) refl
  where
    go : (c : Bool) → (k == t.0) ≡ c → AreUnits given (took_one (live k (Some t)) b u) (read_one (Some t) r k b)
    go true e = rw (e, same_test k t.0 true e) (units_trimmed given t.1 b u r a)
    go false e = rw (e, same_test k t.0 false e) (units_body given b u r a)

-- behind a number that is not behind the trim there is none
pub live_none : (k : ℕ) (trim : Option (ℕ × ℕ)) → IsPast k trim → live (k + 1) trim ≡ None
live_none k None past = refl
live_none k (Some t) past = go (t.0 == k + 1) refl
  where
    go : (c : Bool) → (t.0 == k + 1) ≡ c → live (k + 1) (Some t) ≡ None
    go true e = let same : t.0 ≡ k + 1 = eqb-true t.0 (k + 1) e in absurd (omega (arith, same, past))
    go false e = rw e refl

pub past_more : (k : ℕ) (trim : Option (ℕ × ℕ)) → IsPast k trim → IsPast (k + 1) trim
past_more k None past = past
past_more k (Some t) past = omega (arith, past)

-- a run of PDUs that have come
pub units_run : (given n : ℕ) (trim : Option (ℕ × ℕ)) (arrived : List (ℕ × Body)) (from : ℕ) (ps : List (Option Body)) (now : Option ℕ) (u : Waiting) (r : Reading) → ((j : ℕ) → j < n → place ps j ≡ Some (body_of arrived (from + j))) → IsPast from trim → now ≡ live from trim → AreUnits given u r → AreUnits given (took_run now (take n ps) u) (read_run trim arrived r from n)
units_run given zero trim arrived from ps now u r all past e a = a
units_run given (suc n) trim arrived from [] now u r all past e a = let none : ◌≡◌ {A = Option Body} None (Some (body_of arrived (from + 0))) = all 0 (omega arith) in absurd (cc)
units_run given (suc n) trim arrived from (None ∷ ps) now u r all past e a = let none : ◌≡◌ {A = Option Body} None (Some (body_of arrived (from + 0))) = all 0 (omega arith) in absurd (cc)
units_run given (suc n) trim arrived from (Some b ∷ ps) now u r all past e a =
    let none : ◌≡◌ {A = Option Body} (Some b) (Some (body_of arrived (from + 0))) = all 0 (omega arith) in
    let at : from + 0 ≡ from = omega arith in
    let here : b ≡ body_of arrived from = some_same b (body_of arrived (from + 0)) none ∙ ap (body_of arrived) at in
    rw (e, here) (units_run given n trim arrived (from + 1) ps None (took_one (live from trim) (body_of arrived from) u) (read_one trim r from (body_of arrived from))
    (λ j l. let next : from + suc j ≡ from + 1 + j = omega arith in all (suc j) (omega arith) ∙ ap (λ k. Some (body_of arrived k)) next)
    (past_more from trim past) (sym (live_none from trim past)) (units_one given from trim (body_of arrived from) u r a))
  where
    some_same : (x y : Body) → ◌≡◌ {A = Option Body} (Some x) (Some y) → x ≡ y
    some_same x y e = cc

pub trim_run : (n : ℕ) (trim : Option (ℕ × ℕ)) (from : ℕ) (ps : List (Option Body)) (now : Option ℕ) → n ≤ length ps → IsPast from trim → now ≡ live from trim → trim_left now (take n ps) ≡ live (from + n) trim
trim_run zero trim from ps now l past e = let at : from + 0 ≡ from = omega arith in e ∙ ap (λ k. live k trim) (sym at)
trim_run (suc n) trim from [] now l past e = absurd (omega arith)
trim_run (suc n) trim from (p ∷ ps) now l past e = let at : from + suc n ≡ from + n + 1 = omega arith in sym (ap (λ k. live k trim) at ∙ live_none (from + n) trim (past_by n from trim past))
  where
    past_by : (n k : ℕ) (trim : Option (ℕ × ℕ)) → IsPast k trim → IsPast (k + n) trim
    past_by n k None past = past
    past_by n k (Some t) past = omega (arith, past)
