-- What a PDU holds, by its parts.
use Rattle.std.proofs.Common.{◌≡◌, ◌+◌, ◌-◌, ◌<◌, ℕ, zero, suc, List, [], ◌∷◌, Bool, true, false, length, drop, min, cond, arith, refl, sym, ap, ◌∙◌}
use mir.Val.{bool_byte}
use Rattle.dch_rlcpdu.specs.Parts.{Content, begins_with, cut_at, ends_of, is_closed, parts_of}
use Rattle.dch_am.specs.Receiver.{dead_pieces}
use Rattle.dch_am.specs.Contents.{all_but_last, body_in, last_of}
use Rattle.dch_sar.specs.Taking.{Waiting, added, ended, took_parts}
use Rattle.dch_amrecv.specs.Reading.{took_pieces}

pub length-parts : (c : Content) → length (parts_of c) ≡ length (ends_of c.indicators) + 1
length-parts c = count (is_closed c.indicators) 0 (ends_of c.indicators) c.octets
  where
    count : (closed : Bool) (from : ℕ) (es octets : List ℕ) → length (cut_at closed from es octets) ≡ length es + 1
    count closed from [] octets = refl
    count closed from (e ∷ es) octets = omega (arith, count closed e es octets)

-- parts are pieces that end a unit, and the rest
pub parts_all : (ps : List (List ℕ)) (u : Waiting) → 0 < length ps → took_parts ps u ≡ added (last_of ps) (took_pieces (all_but_last ps) u)
parts_all [] u some = absurd (omega arith)
parts_all (p ∷ []) u some = refl
parts_all (p ∷ q ∷ ps) u some = parts_all (q ∷ ps) (ended (added p u)) (omega arith)

last_drop : (n : ℕ) (ps : List (List ℕ)) → n < length ps → (last_of (drop n ps) ≡ last_of ps) × (all_but_last (drop n ps) ≡ drop n (all_but_last ps))
last_drop zero ps inside = (refl, refl)
last_drop (suc n) [] inside = absurd (omega arith)
last_drop (suc n) (p ∷ []) inside = absurd (omega arith)
last_drop (suc n) (p ∷ q ∷ ps) inside = last_drop n (q ∷ ps) (omega arith)

length-all_but_last : (ps : List (List ℕ)) → length (all_but_last ps) ≡ length ps - 1
length-all_but_last [] = refl
length-all_but_last (p ∷ []) = refl
length-all_but_last (p ∷ q ∷ ps) = omega (arith, length-all_but_last (q ∷ ps))

drop_past : {A : Type 0} (n m : ℕ) (xs : List A) → m ≡ min n (length xs) → drop m xs ≡ drop n xs
drop_past n m [] e = none m ∙ sym (none n)
  where
    none : {A : Type 0} (k : ℕ) → drop {A = A} k [] ≡ []
    none zero = refl
    none (suc k) = refl
drop_past zero m (x ∷ xs) e = let z : m ≡ 0 = omega arith in ap (λ k. drop k (x ∷ xs)) z
drop_past (suc n) zero (x ∷ xs) e = absurd (omega arith)
drop_past (suc n) (suc m) (x ∷ xs) e = drop_past n m xs (omega arith)

-- pieces up to a place are left out, at most all
pub parts_behind : (c : Content) (n dead : ℕ) (u : Waiting) → dead ≡ min n (length (ends_of c.indicators)) → took_parts (drop dead (parts_of c)) u ≡ added (last_of (parts_of c)) (took_pieces (drop n (all_but_last (parts_of c))) u)
parts_behind c n dead u e =
    let ps = parts_of c in
    let size : length ps ≡ length (ends_of c.indicators) + 1 = length-parts c in
    let cut = last_drop dead ps (omega arith) in
    let all : drop dead (all_but_last ps) ≡ drop n (all_but_last ps) = drop_past n dead (all_but_last ps) (omega (arith, length-all_but_last ps)) in
    parts_all (drop dead ps) u (omega (arith, left dead ps (omega arith)))
    ∙ (ap (λ r. added r (took_pieces (all_but_last (drop dead ps)) u)) cut.0
    ∙ ap (λ qs. added (last_of ps) (took_pieces qs u)) (cut.1 ∙ all))
  where
    left : {A : Type 0} (k : ℕ) (xs : List A) → k < length xs → 0 < length (drop k xs)
    left zero xs inside = inside
    left (suc k) [] inside = absurd (omega arith)
    left (suc k) (x ∷ xs) inside = left k xs (omega arith)

-- how many pieces a trim leaves out
pub dead_is : (n : ℕ) (c : Content) (full : Bool) (byte less dead : ℕ) → full ≡ begins_with 0 c.indicators → byte ≡ bool_byte full → less ≡ n - byte → dead ≡ min less (length (ends_of c.indicators)) → dead ≡ min (dead_pieces n (body_in c)) (length (ends_of c.indicators))
dead_is n c full byte less dead first is fewer most = most ∙ ap (λ k. min k (length (ends_of c.indicators))) (fewer ∙ (ap (λ b. n - b) is ∙ (cases full ∙ ap (λ b. cond b (n - 1) n) first)))
  where
    cases : (b : Bool) → n - bool_byte b ≡ cond b (n - 1) n
    cases true = refl
    cases false = omega arith
