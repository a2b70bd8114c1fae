-- Octets that are written over blocks from one of them on.
use Rattle.std.proofs.Common.{◌≡◌, ℕ, zero, suc, ◌+◌, ◌-◌, ◌*◌, ◌<◌, ◌≤◌, ◌++◌, ◌∷◌, [], List, Bool, true, false, cond, Some, None, length, get_or, take, drop, set, arith, refl, sym, ap, ap₂, ◌∙◌, take_at, ⊎_elim}
use Rattle.std.specs.Prelude.{if◌then◌else◌}
use Rattle.std.proofs.Math.Nat.{mul-le-mul_right}
use Rattle.std.specs.List.{refill}
use Rattle.std.proofs.lemmas.Bool.{cases_lt}
use Rattle.std.proofs.lemmas.List.{drop_all, drop-drop, drop-take, drop-append-le, length-append, length-take-le, length-drop, take-append-le, take-take}
use Rattle.std.proofs.Math.Seq.{take-append-add, drop-append_seam}
use Rattle.dch_pool.specs.Held.{contents_of}
use Rattle.dch_pool.specs.Lending.{spread}

-- the first block of it
first_over : (size len : ℕ) (row ws : List ℕ) → size ≤ len → len ≡ length row → take size (refill len row ws) ≡ refill size (take size row) ws
first_over size len row ws within whole = take-take size len (ws ++ drop (length ws) row) within ∙ ⊎_elim
    (λ (l : length ws < size).
    let split : size ≡ length ws + (size - length ws) = omega arith in
    ap (λ k. take k (ws ++ drop (length ws) row)) split ∙ (take-append-add ws (drop (length ws) row) (size - length ws)
    ∙ (ap (λ r. ws ++ r) (inner (size - length ws) ∙ ap (λ k. take (size - length ws) (drop (length ws) (take k row))) (sym split))
    ∙ (sym (take-append-add ws (drop (length ws) (take size row)) (size - length ws)) ∙ ap (λ k. take k (ws ++ drop (length ws) (take size row))) (sym split)))))
    (λ (l : size ≤ length ws). take-append-le size ws (drop (length ws) row) l ∙ sym (take-append-le size ws (drop (length ws) (take size row)) l))
    (cases_lt (length ws) size)
  where
    inner : (k : ℕ) → take k (drop (length ws) row) ≡ take k (drop (length ws) (take (length ws + k) row))
    inner k = sym (ap (take k) (drop-take (length ws) k row) ∙ take-take k k (drop (length ws) row) (omega arith))

-- the others
rest_over : (size len more : ℕ) (row ws : List ℕ) → len ≡ size + more → drop size (refill len row ws) ≡ refill more (drop size row) (drop size ws)
rest_over size len more row ws split = ap (λ k. drop size (take k (ws ++ drop (length ws) row))) split ∙ (drop-take size more (ws ++ drop (length ws) row) ∙ ap (take more) (behind))
  where
    behind : drop size (ws ++ drop (length ws) row) ≡ drop size ws ++ drop (length (drop size ws)) (drop size row)
    behind = ⊎_elim
        (λ (l : length ws < size).
        let none : drop size ws ≡ [] = drop_all size ws (omega arith) in
        let far : size ≡ length ws + (size - length ws) = omega arith in
        ap (λ k. drop k (ws ++ drop (length ws) row)) far ∙ (past (size - length ws) ∙ (ap (λ k. drop k row) (sym far) ∙ sym (ap (λ r. r ++ drop (length r) (drop size row)) none))))
        (λ (l : size ≤ length ws).
        let left : length (drop size ws) ≡ length ws - size = length-drop size ws in
        let back : size + (length ws - size) ≡ length ws = omega arith in
        drop-append-le size ws (drop (length ws) row) l ∙ ap (λ r. drop size ws ++ r) (sym (ap (λ k. drop k (drop size row)) left ∙ (drop-drop (length ws - size) size row ∙ ap (λ k. drop k row) back))))
        (cases_lt (length ws) size)
      where
        past : (k : ℕ) → drop (length ws + k) (ws ++ drop (length ws) row) ≡ drop (length ws + k) row
        past k = sym (drop-drop k (length ws) (ws ++ drop (length ws) row)) ∙ (ap (drop k) (drop-append_seam ws (drop (length ws) row)) ∙ drop-drop k (length ws) row)

-- blocks from the first on
spread_is : (size len : ℕ) (row : List ℕ) (lent : List Bool) (ws : List ℕ) → length row ≡ length lent * size → len ≡ length row → contents_of size (refill len row ws) lent ≡ spread size ws (contents_of size row lent)
spread_is size len row [] ws whole all = refl
spread_is size len row (l ∷ ls) ws whole all =
    let some : size ≤ len = omega arith in
    let split : len ≡ size + (len - size) = omega arith in
    let rest : contents_of size (drop size (refill len row ws)) ls ≡ spread size (drop size ws) (contents_of size (drop size row) ls) =
    ap (λ r. contents_of size r ls) (rest_over size len (len - size) row ws split) ∙ spread_is size (len - size) (drop size row) ls (drop size ws) (omega (arith, length-drop size row)) (omega (arith, length-drop size row)) in
    cases l (first_over size len row ws some all) rest
  where
    cases : (b : Bool) → take size (refill len row ws) ≡ refill size (take size row) ws → contents_of size (drop size (refill len row ws)) ls ≡ spread size (drop size ws) (contents_of size (drop size row) ls)
        → contents_of size (refill len row ws) (b ∷ ls) ≡ spread size ws (contents_of size row (b ∷ ls))
    cases true first rest = ap₂ (λ x r. Some x ∷ r) first rest
    cases false first rest = ap (λ r. None ∷ r) rest

-- a part of the region from a place on is written
pub region_written : (len at : ℕ) (region ws : List ℕ) → len ≡ length region → at ≤ len
    → take len ((take at region ++ (ws ++ drop (length ws) (drop at region))) ++ drop (length (take at region ++ (ws ++ drop (length ws) (drop at region)))) region) ≡ take len (take at region ++ (ws ++ drop (length ws) (drop at region)))
region_written len at region ws whole inside =
    let row = take at region ++ (ws ++ drop (length ws) (drop at region)) in
    take-append-le len row (drop (length row) region)
    (omega (arith, length-append (take at region) (ws ++ drop (length ws) (drop at region)), length-append ws (drop (length ws) (drop at region)), length-take-le at region (omega arith), length-drop (length ws) (drop at region), length-drop at region))

-- the blocks where a part of the region from a block on is written
pub written_from : (size len : ℕ) (region : List ℕ) (lent : List Bool) (n : ℕ) (ws : List ℕ) → length region ≡ length lent * size → len ≡ length region → n < length lent
    → contents_of size (take len (take (n * size) region ++ (ws ++ drop (length ws) (drop (n * size) region)))) lent ≡ take n (contents_of size region lent) ++ spread size ws (drop n (contents_of size region lent))
written_from size len region [] n ws whole all inside = absurd (omega arith)
written_from size len region (l ∷ ls) zero ws whole all inside = let none : 0 * size ≡ 0 = omega arith in rw none (spread_is size len region (l ∷ ls) ws whole all)
written_from size len region (l ∷ ls) (suc n) ws whole all inside =
    let more : suc n * size ≡ size + n * size = omega arith in
    let front : size ≤ length region = omega arith in
    let long : length (take (size + n * size) region) ≡ size + n * size = length-take-le (size + n * size) region (omega (arith, block_below n (length ls) size (omega arith))) in
    let split : len ≡ size + (len - size) = omega arith in
    let row = take (size + n * size) region ++ (ws ++ drop (length ws) (drop (size + n * size) region)) in
    let first : take size (take len row) ≡ take size region = take-take size len row (omega arith) ∙ (take-append-le size (take (size + n * size) region) (ws ++ drop (length ws) (drop (size + n * size) region)) (omega arith) ∙ take-take size (size + n * size) region (omega arith)) in
    let rest : drop size (take len row) ≡ take (len - size) (take (n * size) (drop size region) ++ (ws ++ drop (length ws) (drop (n * size) (drop size region)))) =
    ap (λ k. drop size (take k row)) split ∙ (drop-take size (len - size) row ∙ ap (take (len - size)) (drop-append-le size (take (size + n * size) region) (ws ++ drop (length ws) (drop (size + n * size) region)) (omega arith)
    ∙ ap₂ (λ a b. a ++ (ws ++ drop (length ws) b)) (drop-take size (n * size) region) (sym (drop-drop (n * size) size region) ∙ refl))) in
    let ih = written_from size (len - size) (drop size region) ls n ws (omega (arith, length-drop size region)) (omega (arith, length-drop size region)) (omega arith) in
    rw (more, first, rest) (ap (λ r. cond l (Some (take size region)) None ∷ r) ih)
  where
    block_below : (i count size : ℕ) → i < count → size + i * size ≤ suc count * size
    block_below i count size h = let up : suc i * size ≤ count * size = mul-le-mul_right size h in omega arith

drop_none : (n : ℕ) → drop {A = ℕ} n [] ≡ []
drop_none zero = refl
drop_none (suc n) = refl

none_spread : (size : ℕ) (region : List ℕ) (lent : List Bool) → spread size [] (contents_of size region lent) ≡ contents_of size region lent
none_spread size region [] = refl
none_spread size region (l ∷ ls) = cases l (ap (λ r. spread size r (contents_of size (drop size region) ls)) (drop_none size) ∙ none_spread size (drop size region) ls)
  where
    cases : (b : Bool) → spread size (drop size []) (contents_of size (drop size region) ls) ≡ contents_of size (drop size region) ls → spread size [] (contents_of size region (b ∷ ls)) ≡ contents_of size region (b ∷ ls)
    cases true rest = ap₂ (λ x r. Some x ∷ r) (take-take size size region (omega arith)) rest
    cases false rest = ap (λ r. None ∷ r) rest

-- just the block is written where the octets are as many as it has
pub written_alone : (size : ℕ) (region : List ℕ) (lent : List Bool) (n : ℕ) (ws : List ℕ) → get_or lent n false ≡ true → length ws ≡ size → take n (contents_of size region lent) ++ spread size ws (drop n (contents_of size region lent)) ≡ set (contents_of size region lent) n (Some ws)
written_alone size region [] n ws marked sized = absurd (cc)
written_alone size region (false ∷ ls) zero ws marked sized = absurd (cc)
written_alone size region (true ∷ ls) zero ws marked sized =
    let none : drop size ws ≡ [] = drop_all size ws (omega arith) in
    ap₂ (λ x r. Some x ∷ r) (take_at ws (drop (length ws) (take size region)) size sized) (ap (λ r. spread size r (contents_of size (drop size region) ls)) none ∙ none_spread size (drop size region) ls)
written_alone size region (l ∷ ls) (suc n) ws marked sized = ap (λ r. (if l then Some (take size region) else None) ∷ r) (written_alone size (drop size region) ls n ws marked sized)
