-- The contents of a pool by its region and flags.
use Rattle.std.proofs.Common.{◌≡◌, ℕ, zero, suc, ◌+◌, ◌*◌, ◌<◌, ◌≤◌, List, [], ◌∷◌, ◌++◌, length, get_or, take, drop, Bool, true, false, not, cond, Option, Some, None, arith, refl, ap, sym, ◌∙◌, append_assoc}
use Rattle.std.specs.Prelude.{IsSome, unwrap_or, count_by, is_none, replicate, if◌then◌else◌}
use Rattle.std.proofs.Math.ListN.{set}
use Rattle.std.proofs.Math.Nat.{mul-le-mul_right}
use Rattle.std.proofs.Math.Seq.{take-add, take-append_seam, drop-append_seam}
use Rattle.std.proofs.lemmas.List.{drop-drop, take-append-le, drop-append-le, take-append-drop, length-append, length-take-le, length-drop}
use Rattle.std.proofs.lemmas.List.Sums.{sum_by-cons}
use Rattle.dch_pool.specs.Blocks.{Blocks, IsLent, octets_of, overwritten}
use Rattle.dch_pool.specs.Held.{contents_of, IsHeld}

pub length-contents_of : (size : ℕ) (region : List ℕ) (lent : List Bool) → length (contents_of size region lent) ≡ length lent
length-contents_of size region [] = refl
length-contents_of size region (l ∷ ls) = ap (λ n. suc n) (length-contents_of size (drop size region) ls)

-- the block at a place is lent exactly where it is marked, and holds its part of the region
pub get_or-contents_of : (size : ℕ) (region : List ℕ) (lent : List Bool) (i : ℕ) → get_or (contents_of size region lent) i None ≡ (if get_or lent i false then Some (take size (drop (i * size) region)) else None)
get_or-contents_of size region [] i = refl
get_or-contents_of size region (l ∷ ls) zero = let e : 0 * size ≡ 0 = omega arith in rw e refl
get_or-contents_of size region (l ∷ ls) (suc i) =
    let e : suc i * size ≡ size + i * size = omega arith in
    rw (e, ← drop-drop (i * size) size region) (get_or-contents_of size (drop size region) ls i)

pub count_by-contents_of : (size : ℕ) (region : List ℕ) (lent : List Bool) → count_by is_none (contents_of size region lent) ≡ count_by not lent
count_by-contents_of size region [] = refl
count_by-contents_of size region (true ∷ ls) = count_by-contents_of size (drop size region) ls
count_by-contents_of size region (false ∷ ls) =
    sum_by-cons (λ x. cond (is_none x) 1 0) None (contents_of size (drop size region) ls)
    ∙ ap (λ n. 1 + n) (count_by-contents_of size (drop size region) ls)
    ∙ sym (sum_by-cons (λ x. cond (not x) 1 0) false ls)

pub contents_of-replicate : (size : ℕ) (region : List ℕ) (n : ℕ) → contents_of size region (replicate n false) ≡ replicate n None
contents_of-replicate size region zero = refl
contents_of-replicate size region (suc n) = ap (λ rest. None ∷ rest) (contents_of-replicate size (drop size region) n)

-- a block that is given back
pub contents_of-given : (size : ℕ) (region : List ℕ) (lent : List Bool) (i : ℕ) → contents_of size region (set lent i false) ≡ set (contents_of size region lent) i None
contents_of-given size region [] i = refl
contents_of-given size region (l ∷ ls) zero = refl
contents_of-given size region (l ∷ ls) (suc i) = ap (λ rest. (if l then Some (take size region) else None) ∷ rest) (contents_of-given size (drop size region) ls i)

-- a block that is written, between what stands before it and after it
contents_of-between : (size : ℕ) (before old after octets : List ℕ) (lent : List Bool) (i : ℕ) → length before ≡ i * size → length old ≡ size → length octets ≡ size → i < length lent
    → contents_of size (before ++ (octets ++ after)) (set lent i true) ≡ set (contents_of size (before ++ (old ++ after)) lent) i (Some octets)
contents_of-between size before old after octets [] i at was sized inside = absurd (omega arith)
contents_of-between size [] old after octets (l ∷ ls) zero at was sized inside =
    let same : length octets ≡ length old = omega arith in
    rw (← sized, take-append_seam octets after, drop-append_seam octets after, same, drop-append_seam old after) refl
contents_of-between size (x ∷ before) old after octets (l ∷ ls) zero at was sized inside = absurd (omega arith)
contents_of-between size before old after octets (l ∷ ls) (suc i) at was sized inside =
    let fits : size ≤ length before = omega arith in
    let rest : length (drop size before) ≡ i * size = omega (arith, length-drop size before) in
    rw (take-append-le size before (octets ++ after) fits, take-append-le size before (old ++ after) fits, drop-append-le size before (octets ++ after) fits, drop-append-le size before (old ++ after) fits)
    (ap (λ more. (if l then Some (take size before) else None) ∷ more) (contents_of-between size (drop size before) old after octets ls i rest was sized (omega arith)))

-- a list is what stands before a part, the part, and what follows it
parts_of : (at size : ℕ) (region : List ℕ) → region ≡ take at region ++ (take size (drop at region) ++ drop (at + size) region)
parts_of at size region = rw (← drop-drop size at region, take-append-drop size (drop at region), take-append-drop at region) refl

-- a block that is written
pub contents_of-written : (size : ℕ) (region : List ℕ) (lent : List Bool) (i : ℕ) (octets : List ℕ) → length octets ≡ size → i < length lent → i * size + size ≤ length region
    → contents_of size (take (i * size) region ++ (octets ++ drop (i * size + size) region)) (set lent i true) ≡ set (contents_of size region lent) i (Some octets)
contents_of-written size region lent i octets sized inside within =
    let at = i * size in
    let before : length (take at region) ≡ at = length-take-le at region (omega arith) in
    let old : length (take size (drop at region)) ≡ size = length-take-le size (drop at region) (omega (arith, length-drop at region)) in
    contents_of-between size (take at region) (take size (drop at region)) (drop (at + size) region) octets lent i before old sized inside
    ∙ ap (λ r. set (contents_of size r lent) i (Some octets)) (sym (parts_of at size region))

-- a block lies within the region
pub block-within : (i count size : ℕ) → i < count → i * size + size ≤ count * size
block-within i count size h = let up : suc i * size ≤ count * size = mul-le-mul_right size h in omega arith

choose_some : {X : Type 0} (b : Bool) (x y : X) → (if b then Some x else None) ≡ Some y → b ≡ true
choose_some true x y h = refl
choose_some false x y h = cc

-- a block is lent and holds these octets
abbrev pub Holds : Blocks → ℕ → List ℕ → Type 0
Holds pool block octets = get_or pool.contents block None ≡ Some octets

some-of : {X : Type 0} (o : Option X) (d : X) → IsSome o → o ≡ Some (unwrap_or o d)
some-of None d h = cc
some-of (Some x) d h = refl

pub Holds-octets_of : (pool : Blocks) (block : ℕ) → IsLent pool block → Holds pool block (octets_of pool block)
Holds-octets_of pool block lent = some-of (get_or pool.contents block None) [] lent

pub octets_of-Holds : (pool : Blocks) (block : ℕ) (octets : List ℕ) → Holds pool block octets → octets_of pool block ≡ octets
octets_of-Holds pool block octets h = rw h refl

-- a block that is lent is marked
pub marked-of : (size : ℕ) (region : List ℕ) (lent : List Bool) (i : ℕ) → IsLent (record { size = size; contents = contents_of size region lent }) i → get_or lent i false ≡ true
marked-of size region lent i is_lent =
    let pool : Blocks = record { size = size; contents = contents_of size region lent } in
    choose_some (get_or lent i false) (take size (drop (i * size) region)) (octets_of pool i) (sym (get_or-contents_of size region lent i) ∙ Holds-octets_of pool i is_lent)

-- the same of a pool that looks so
pub lent-marked : (size : ℕ) (region : List ℕ) (lent : List Bool) (number : ℕ) {pool : Blocks} {block : ℕ} → record { size = size; contents = contents_of size region lent } ≡ pool → number ≡ block → IsLent pool block → get_or lent number false ≡ true
lent-marked size region lent number view same is_lent = let so = rw (← view, ← same) at is_lent in marked-of size region lent number so

-- a block that is marked holds its part of the region
pub Holds-marked : (size : ℕ) (region : List ℕ) (lent : List Bool) (i : ℕ) → get_or lent i false ≡ true → Holds (record { size = size; contents = contents_of size region lent }) i (take size (drop (i * size) region))
Holds-marked size region lent i marked = get_or-contents_of size region lent i ∙ rw marked refl

-- and one that isn't marked is not lent
pub spare-at : (size : ℕ) (region : List ℕ) (lent : List Bool) (i : ℕ) → get_or lent i false ≡ false → get_or (contents_of size region lent) i None ≡ None
spare-at size region lent i free = get_or-contents_of size region lent i ∙ rw free refl

-- the block lies in the region
pub lent-within : (size room : ℕ) (region : List ℕ) (lent : List Bool) (spare : List ℕ) (i : ℕ) → IsHeld size region lent spare room → i < length lent → i * size + size ≤ length region
lent-within size room region lent spare i held inside = rw held.whole (block-within i (length lent) size inside)

-- a region that was written whole
pub whole-written : (len : ℕ) (old new : List ℕ) → length old ≡ len → length new ≡ length old → take len (new ++ drop (length new) old) ≡ new
whole-written len old new sized same = let e : len ≡ length new = omega arith in rw (e, take-append_seam new (drop (length new) old)) refl

-- a block of zeros in the region
pub length-cleared : (at size : ℕ) (region octets : List ℕ) → length octets ≡ size → at + size ≤ length region → length (take at region ++ (octets ++ drop (at + size) region)) ≡ length region
length-cleared at size region octets sized within =
    omega (arith, length-append (take at region) (octets ++ drop (at + size) region), length-append octets (drop (at + size) region), length-take-le at region (omega arith), length-drop (at + size) region)

-- what a marked block holds
pub held-is : (size : ℕ) (region : List ℕ) (lent : List Bool) (i : ℕ) (held : List ℕ) → get_or lent i false ≡ true → Holds (record { size = size; contents = contents_of size region lent }) i held → held ≡ take size (drop (i * size) region)
held-is size region lent i held marked holds = let e : Some held ≡ Some (take size (drop (i * size) region)) = sym holds ∙ Holds-marked size region lent i marked in cc

-- octets written within a block are a block that is written
pub within-block : (size at i : ℕ) (region octets : List ℕ) → at + length octets ≤ size → i * size + size ≤ length region
    → overwritten region (i * size + at) octets ≡ take (i * size) region ++ (overwritten (take size (drop (i * size) region)) at octets ++ drop (i * size + size) region)
within-block size at i region octets inside within =
    let b = i * size in
    let rest = drop b region in
    let long : size ≤ length rest = omega (arith, length-drop b region) in
    let sized : length (take size rest) ≡ size = length-take-le size rest long in
    let whole : rest ≡ take size rest ++ drop size rest = sym (take-append-drop size rest) in
    let front : take at rest ≡ take at (take size rest) = ap (take at) whole ∙ take-append-le at (take size rest) (drop size rest) (omega arith) in
    let back : drop (at + length octets) rest ≡ drop (at + length octets) (take size rest) ++ drop size rest = ap (drop (at + length octets)) whole ∙ drop-append-le (at + length octets) (take size rest) (drop size rest) (omega arith) in
    let after : drop (b + at + length octets) region ≡ drop (at + length octets) rest = let e : b + at + length octets ≡ b + (at + length octets) = omega arith in rw e (sym (drop-drop (at + length octets) b region)) in
    rw (take-add b at region, after, back, front, ← drop-drop size b region) (simp append_assoc)

pub length-overwritten : (held octets : List ℕ) (at : ℕ) → at + length octets ≤ length held → length (overwritten held at octets) ≡ length held
length-overwritten held octets at inside = length-cleared at (length octets) held octets refl inside
