-- The parts of a PDU, one after another.
use Rattle.std.proofs.Common.{◌≡◌, ◌+◌, ◌<◌, ◌≤◌, ℕ, zero, suc, List, [], ◌∷◌, ◌++◌, Bool, true, false, Some, length, drop, slice_get, arith, refl, sym, ap, ◌∙◌, length-append, length-take}
use Rattle.std.proofs.lemmas.List.{drop_all, length-drop}
use Rattle.dch_rlcpdu.specs.Parts.{Content, cut_at, ends_of, is_closed, parts_of, total_of}
use Rattle.dch_sar.specs.Taking.{Waiting, added, ended, ended_units, held, took_full, took_parts}

pub length-parts : (c : Content) → length (parts_of c) ≡ length (ends_of c.indicators) + 1
length-parts c = count (is_closed c.indicators) 0 (ends_of c.indicators) c.octets
  where
    count : (closed : Bool) (from : ℕ) (es octets : List ℕ) → length (cut_at closed from es octets) ≡ length es + 1
    count closed from [] octets = refl
    count closed from (e ∷ es) octets = omega (arith, count closed e es octets)

part_here : (parts : List (List ℕ)) (i : ℕ) (p : List ℕ) → slice_get parts i ≡ Some p → drop i parts ≡ p ∷ drop (i + 1) parts
part_here [] i p is = absurd (cc)
part_here (q ∷ qs) zero p is = let e : q ≡ p = cc in ap (λ x. x ∷ qs) e
part_here (q ∷ qs) (suc i) p is = let e : suc i + 1 ≡ suc (i + 1) = omega arith in rw e (part_here qs i p is)

total-more : (ws : List (List ℕ)) (p : List ℕ) → total_of (ws ++ p ∷ []) ≡ total_of ws + length p
total-more [] p = omega arith
total-more (w ∷ ws) p = omega (arith, total-more ws p)

total-drop : (n : ℕ) (ps : List (List ℕ)) → total_of (drop n ps) ≤ total_of ps
total-drop zero ps = omega arith
total-drop (suc n) [] = omega arith
total-drop (suc n) (p ∷ ps) = omega (arith, total-drop n ps)

held_added : (p : List ℕ) (u : Waiting) → held (added p u) ≤ held u + length p
held_added p u = omega (arith, length-take 1501 (u.part ++ p), length-append u.part p)

held_units : (ws : List (List ℕ)) (p : List ℕ) → total_of (ended_units ws p) ≤ total_of ws + length p
held_units ws [] = omega arith
held_units ws (x ∷ xs) = omega (arith, total-more ws (x ∷ xs))

held_ended : (u : Waiting) → held (ended u) ≤ held u
held_ended u = omega (arith, held_units u.waiting u.part)

more_units : (ws : List (List ℕ)) (p : List ℕ) → length (ended_units ws p) ≤ length ws + 1
more_units ws [] = omega arith
more_units ws (x ∷ xs) = omega (arith, length-append ws ((x ∷ xs) ∷ []))

waiting_ended : (u : Waiting) → length (ended u).waiting ≤ length u.waiting + 1
waiting_ended u = more_units u.waiting u.part

pub held_full : (b : Bool) (u : Waiting) → held (took_full b u) ≤ held u
held_full true u = held_ended u
held_full false u = omega arith

pub waiting_full : (b : Bool) (u : Waiting) → length (took_full b u).waiting ≤ length u.waiting + 1
waiting_full true u = waiting_ended u
waiting_full false u = omega arith

more_parts : (p : List ℕ) (ps : List (List ℕ)) (u : Waiting) → 0 < length ps → took_parts (p ∷ ps) u ≡ took_parts ps (ended (added p u))
more_parts p [] u some = absurd (omega arith)
more_parts p (q ∷ ps) u some = refl

-- the parts from a place on up to another are taken, and there is room for the others
pub record Taken (parts : List (List ℕ)) (dead i : ℕ) (first now : Waiting) : Type 0 where
  pub same : took_parts (drop i parts) now ≡ took_parts (drop dead parts) first
  pub octets : held now + total_of (drop i parts) ≤ 1625
  pub units : length now.waiting + length (drop i parts) ≤ 128

pub room_here : (parts : List (List ℕ)) (dead i : ℕ) (first now : Waiting) (p : List ℕ) → Taken parts dead i first now → slice_get parts i ≡ Some p → held now + length p ≤ 1625
room_here parts dead i first now p taken is = omega (arith, taken.octets, ap total_of (part_here parts i p is))

pub wait_here : (parts : List (List ℕ)) (dead i : ℕ) (first now : Waiting) (p : List ℕ) → Taken parts dead i first now → i < length parts → length (added p now).waiting < 128
wait_here parts dead i first now p taken inside = omega (arith, taken.units, length-drop i parts)

pub one_taken : (parts : List (List ℕ)) (dead i : ℕ) (first now : Waiting) (p : List ℕ) → Taken parts dead i first now → slice_get parts i ≡ Some p → i + 1 < length parts → Taken parts dead (i + 1) first (ended (added p now))
one_taken parts dead i first now p taken is inside =
    let here : drop i parts ≡ p ∷ drop (i + 1) parts = part_here parts i p is in
    record {
      same = sym (more_parts p (drop (i + 1) parts) now (omega (arith, length-drop (i + 1) parts))) ∙ (ap (λ ps. took_parts ps now) (sym here) ∙ taken.same);
      octets = omega (arith, taken.octets, ap total_of here, held_ended (added p now), held_added p now);
      units = omega (arith, taken.units, ap length here, waiting_ended (added p now));
    }

pub last_taken : (parts : List (List ℕ)) (dead i : ℕ) (first now : Waiting) (p : List ℕ) → Taken parts dead i first now → slice_get parts i ≡ Some p → length parts ≤ i + 1 → added p now ≡ took_parts (drop dead parts) first
last_taken parts dead i first now p taken is last =
    let here : drop i parts ≡ p ∷ [] = part_here parts i p is ∙ ap (λ ps. p ∷ ps) (drop_all (i + 1) parts last) in
    ap (λ ps. took_parts ps now) (sym here) ∙ taken.same

pub none_taken : (c : Content) (dead : ℕ) (u : Waiting) → held u + length c.octets ≤ 1625 → length u.waiting + length c.indicators < 128 → length (ends_of c.indicators) ≤ length c.indicators → total_of (parts_of c) ≤ length c.octets → Taken (parts_of c) dead dead u u
none_taken c dead u room units few within = record { same = refl; octets = omega (arith, total-drop dead (parts_of c)); units = omega (arith, length-parts c, length-drop dead (parts_of c)) }
