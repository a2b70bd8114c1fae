-- What is known of a pool as it lends the block of its last spare number.
use Rattle.std.proofs.Common.{◌≡◌, ℕ, ◌+◌, ◌*◌, ◌<◌, ◌≤◌, ◌++◌, ◌∷◌, [], List, Bool, Some, true, false, length, get_or, take, drop, arith, ap, ◌∙◌, subst, length-append}
use Rattle.std.specs.Prelude.{replicate}
use Rattle.std.proofs.lemmas.List.{length-replicate, length-take-le, length-drop, set-get_or}
use Rattle.std.proofs.Math.ListN.{set}
use Rattle.std.proofs.Math.Seq.{get_or-append_seam}
use Rattle.dch_pool.specs.Blocks.{Takes, overwritten}
use Rattle.dch_pool.specs.Held.{contents_of, IsHeld}
use Rattle.dch_pool.proofs.Contents.{Holds, length-contents_of, contents_of-written, lent-within, spare-at, whole-written, length-cleared, length-overwritten, held-is}
use Rattle.dch_pool.proofs.Flags.{spare-inside, same-flag, IsHeld-taken}

-- the block of the last spare number is marked as spare, and is there
pub record IsSpare (size : ℕ) (region : List ℕ) (lent : List Bool) (n : ℕ) : Type 0 where
  pub marked : get_or lent n true ≡ false
  pub inside : n < length lent
  pub within : n * size + size ≤ length region

pub IsSpare-last : (size room : ℕ) (region : List ℕ) (lent : List Bool) (all spare : List ℕ) (n : ℕ) → IsHeld size region lent all room → all ≡ spare ++ n ∷ [] → IsSpare size region lent n
IsSpare-last size room region lent all spare n held items =
    let last : get_or all (length spare) 0 ≡ n = rw items (get_or-append_seam spare n [] 0) in
    let before : length spare < length all = omega (arith, ap length items, length-append spare (n ∷ [])) in
    let marked : get_or lent n true ≡ false = subst (λ m. get_or lent m true ≡ false) last (held.free (length spare) before) in
    let inside : n < length lent = spare-inside lent n marked in
    record { marked = marked; inside = inside; within = lent-within size room region lent all n held inside }

-- the region with zeros in block n
abbrev pub cleared : ℕ → List ℕ → ℕ → List ℕ
cleared size region n = take (n * size) region ++ (replicate size 0 ++ drop (n * size + size) region)

pub length-cleared_block : (size : ℕ) (region : List ℕ) (lent : List Bool) (n : ℕ) → IsSpare size region lent n → length (cleared size region n) ≡ length region
length-cleared_block size region lent n at = length-cleared (n * size) size region (replicate size 0) (length-replicate size 0) at.within

-- the region is written whole
pub whole-cleared : (size len : ℕ) (region : List ℕ) (lent : List Bool) (n : ℕ) → IsSpare size region lent n → length region ≡ len
    → take len (cleared size region n ++ drop (length (cleared size region n)) region) ≡ cleared size region n
whole-cleared size len region lent n at sized = whole-written len region (cleared size region n) sized (length-cleared_block size region lent n at)

pub IsHeld-lent : (size room more : ℕ) (region : List ℕ) (lent : List Bool) (all spare : List ℕ) (n : ℕ) → IsHeld size region lent all room → all ≡ spare ++ n ∷ [] → more ≡ room → IsHeld size (cleared size region n) (set lent n true) spare more
IsHeld-lent size room more region lent all spare n held items same =
    let at = IsSpare-last size room region lent all spare n held items in
    let ended = subst (λ numbers. IsHeld size region lent numbers room) items held in
    rw same (IsHeld-taken size region (cleared size region n) lent spare room n ended (length-cleared_block size region lent n at))

pub Takes-lent : (size : ℕ) (region : List ℕ) (lent : List Bool) (n : ℕ) → IsSpare size region lent n
    → Takes (record { size = size; contents = contents_of size region lent }) (record { size = size; contents = contents_of size (cleared size region n) (set lent n true) }) n
Takes-lent size region lent n at = record {
  there = rw (length-contents_of size region lent) at.inside;
  was = spare-at size region lent n (same-flag lent n false true at.inside ∙ at.marked);
  now = ap (λ contents. record { size = size; contents = contents }) (contents_of-written size region lent n (replicate size 0) (length-replicate size 0) at.inside at.within);
}

-- a marked block with octets written over it
pub contents_of-overwritten : (size len : ℕ) (region : List ℕ) (lent : List Bool) (n at : ℕ) (octets held new : List ℕ) → get_or lent n false ≡ true → n < length lent → n * size + size ≤ length region → at + length octets ≤ size → length region ≡ len
    → Holds (record { size = size; contents = contents_of size region lent }) n held
    → new ≡ take (n * size) region ++ (overwritten (take size (drop (n * size) region)) at octets ++ drop (n * size + size) region)
    → contents_of size (take len (new ++ drop (length new) region)) lent ≡ set (contents_of size region lent) n (Some (overwritten held at octets))
contents_of-overwritten size len region lent n at octets held new marked there within inside sized holds written =
    let part = take size (drop (n * size) region) in
    let is_part : held ≡ part = held-is size region lent n held marked holds in
    let long : length part ≡ size = length-take-le size (drop (n * size) region) (omega (arith, length-drop (n * size) region)) in
    let as_long : length (overwritten part at octets) ≡ size = length-overwritten part octets at (omega arith) ∙ long in
    let same : length new ≡ length region = ap length written ∙ length-cleared (n * size) size region (overwritten part at octets) as_long within in
    let again : set lent n true ≡ lent = subst (λ b. set lent n b ≡ lent) marked (set-get_or lent n false) in
    let block = contents_of-written size region lent n (overwritten part at octets) as_long there within in
    rw (whole-written len region new sized same, is_part, written) (subst (λ flags. contents_of size (take (n * size) region ++ (overwritten part at octets ++ drop (n * size + size) region)) flags ≡ set (contents_of size region lent) n (Some (overwritten part at octets))) again block)
