-- The flags of lent blocks and the numbers of spare ones, as blocks are lent and given back.
use Rattle.std.proofs.Common.{◌≡◌, ◌≢◌, ℕ, zero, suc, ◌+◌, ◌*◌, ◌^◌, ◌<◌, ◌≤◌, List, [], ◌∷◌, ◌++◌, length, get_or, Bool, true, false, not, cond, arith, refl, ap, sym, ◌∙◌, subst, inl, inr, ◌⊎◌, length-append}
use Rattle.std.specs.Prelude.{count_by, replicate}
use Rattle.std.specs.List.{range_with_len}
use Rattle.std.proofs.lemmas.List.Folds.{sum_by-replicate}
use Rattle.std.proofs.lemmas.List.FromFn.{get_or-range_with_len, length-range_with_len}
use Rattle.std.proofs.Math.ListN.{set}
use Rattle.std.proofs.Math.Seq.{get_or-append_seam}
use Rattle.std.proofs.lemmas.Bool.{cases_lt}
use Rattle.std.proofs.lemmas.List.{length-set, length-replicate, get_or-replicate, get_or-set_same, get_or-set_other, get_or_append_left}
use Rattle.std.proofs.lemmas.List.Sums.{sum_by-set, count_by-le-length}
use Rattle.dch_pool.specs.Held.{IsHeld}

-- a marked block is there
pub marked-inside : (lent : List Bool) (n : ℕ) → get_or lent n false ≡ true → n < length lent
marked-inside [] n h = cc
marked-inside (l ∷ ls) zero h = omega arith
marked-inside (l ∷ ls) (suc n) h = let ih = marked-inside ls n h in omega arith

-- so is one that is marked as spare
pub spare-inside : (lent : List Bool) (n : ℕ) → get_or lent n true ≡ false → n < length lent
spare-inside [] n h = cc
spare-inside (l ∷ ls) zero h = omega arith
spare-inside (l ∷ ls) (suc n) h = let ih = spare-inside ls n h in omega arith

-- the flag of a block that is there is the same for both defaults
pub same-flag : (lent : List Bool) (n : ℕ) (a b : Bool) → n < length lent → get_or lent n a ≡ get_or lent n b
same-flag [] n a b h = absurd (omega arith)
same-flag (l ∷ ls) zero a b h = refl
same-flag (l ∷ ls) (suc n) a b h = same-flag ls n a b (omega arith)

-- a number of a list with one more at its end: one of the list, or the last
one-of : (numbers : List ℕ) (n i : ℕ) → i < length (numbers ++ n ∷ [])
    → ((i < length numbers) × (get_or (numbers ++ n ∷ []) i 0 ≡ get_or numbers i 0)) ⊎ ((i ≡ length numbers) × (get_or (numbers ++ n ∷ []) i 0 ≡ n))
one-of numbers n i h =
    let longer : length (numbers ++ n ∷ []) ≡ length numbers + 1 = length-append numbers (n ∷ []) in
    elim (cases_lt i (length numbers)) [
      | inl before ↦ inl (before, get_or_append_left numbers (n ∷ []) 0 i before)
      | inr not_before ↦ let e : i ≡ length numbers = omega arith in inr (e, rw e (get_or-append_seam numbers n [] 0))
    ]

-- a spare number is not that of a lent block
spare-ne : (lent : List Bool) (n m : ℕ) → get_or lent n true ≡ true → get_or lent m true ≡ false → m ≢ n
spare-ne lent n m marked free e = let bad : get_or lent n true ≡ false = subst (λ k. get_or lent k true ≡ false) e free in cc

-- one more is spare where a lent block is given back
count-given : (lent : List Bool) (n : ℕ) → n < length lent → get_or lent n true ≡ true → count_by not (set lent n false) ≡ count_by not lent + 1
count-given lent n inside marked =
    let step : count_by not (set lent n false) + cond (not (get_or lent n true)) 1 0 ≡ count_by not lent + 1 = sum_by-set (λ l. cond (not l) 1 0) lent n false true inside in
    let simpler = rw marked at step in
    omega arith

-- and one less where a spare one is lent
count-taken : (lent : List Bool) (n : ℕ) → n < length lent → get_or lent n true ≡ false → count_by not (set lent n true) + 1 ≡ count_by not lent
count-taken lent n inside free =
    let step : count_by not (set lent n true) + cond (not (get_or lent n true)) 1 0 ≡ count_by not lent + 0 = sum_by-set (λ l. cond (not l) 1 0) lent n true true inside in
    let simpler = rw free at step in
    omega arith

-- where a block is lent, there is room for one more spare number
pub room-given : (lent : List Bool) (n : ℕ) → get_or lent n false ≡ true → count_by not lent < length lent
room-given lent n marked =
    let inside : n < length lent = marked-inside lent n marked in
    let more = count-given lent n inside (same-flag lent n true false inside ∙ marked) in
    let most = count_by-le-length not (set lent n false) in
    omega (arith, length-set lent n false)

free-given : (lent : List Bool) (spare : List ℕ) (n : ℕ) → n < length lent → get_or lent n true ≡ true
    → ((i : ℕ) → i < length spare → get_or lent (get_or spare i 0) true ≡ false)
    → (i : ℕ) → i < length (spare ++ n ∷ []) → get_or (set lent n false) (get_or (spare ++ n ∷ []) i 0) true ≡ false
free-given lent spare n inside marked free i h = elim (one-of spare n i h) [
  | inl old ↦ let ne = spare-ne lent n (get_or spare i 0) marked (free i old.0) in rw old.1 (get_or-set_other lent n (get_or spare i 0) false true ne ∙ free i old.0)
  | inr new ↦ rw new.1 (get_or-set_same lent n false true inside)
]

distinct-given : (lent : List Bool) (spare : List ℕ) (n : ℕ) → get_or lent n true ≡ true
    → ((i : ℕ) → i < length spare → get_or lent (get_or spare i 0) true ≡ false)
    → ((i j : ℕ) → i < length spare → j < length spare → get_or spare i 0 ≡ get_or spare j 0 → i ≡ j)
    → (i j : ℕ) → i < length (spare ++ n ∷ []) → j < length (spare ++ n ∷ []) → get_or (spare ++ n ∷ []) i 0 ≡ get_or (spare ++ n ∷ []) j 0 → i ≡ j
distinct-given lent spare n marked free distinct i j hi hj e = elim (one-of spare n i hi) [
  | inl a ↦ elim (one-of spare n j hj) [
    | inl b ↦ distinct i j a.0 b.0 (sym a.1 ∙ e ∙ b.1)
    | inr b ↦ absurd (spare-ne lent n (get_or spare i 0) marked (free i a.0) (sym a.1 ∙ e ∙ b.1))
  ]
  | inr a ↦ elim (one-of spare n j hj) [
    | inl b ↦ absurd (spare-ne lent n (get_or spare j 0) marked (free j b.0) (sym b.1 ∙ sym e ∙ a.1))
    | inr b ↦ a.0 ∙ sym b.0
  ]
]

-- a block is given back
pub IsHeld-given : (size : ℕ) (region : List ℕ) (lent : List Bool) (spare : List ℕ) (room more n : ℕ) → IsHeld size region lent spare room → room ≤ more → get_or lent n false ≡ true
    → IsHeld size region (set lent n false) (spare ++ n ∷ []) more
IsHeld-given size region lent spare room more n held wider marked =
    let inside : n < length lent = marked-inside lent n marked in
    let marked_so : get_or lent n true ≡ true = same-flag lent n true false inside ∙ marked in
    let one_more : length (spare ++ n ∷ []) ≡ length spare + 1 = length-append spare (n ∷ []) in
    let counted = count-given lent n inside marked_so in
    let same_length : length (set lent n false) ≡ length lent = length-set lent n false in
    record {
      whole = rw same_length held.whole;
      small = held.small;
      free = free-given lent spare n inside marked_so held.free;
      distinct = distinct-given lent spare n marked_so held.free held.distinct;
      count = one_more ∙ ap (λ k. k + 1) held.count ∙ sym counted;
      numbers = omega arith;
    }

-- a spare block is lent
pub IsHeld-taken : (size : ℕ) (region other : List ℕ) (lent : List Bool) (spare : List ℕ) (room n : ℕ) → IsHeld size region lent (spare ++ n ∷ []) room → length other ≡ length region
    → IsHeld size other (set lent n true) spare room
IsHeld-taken size region other lent spare room n held same =
    let one_more : length (spare ++ n ∷ []) ≡ length spare + 1 = length-append spare (n ∷ []) in
    let last : get_or (spare ++ n ∷ []) (length spare) 0 ≡ n = get_or-append_seam spare n [] 0 in
    let here : (i : ℕ) → i < length spare → get_or (spare ++ n ∷ []) i 0 ≡ get_or spare i 0 = λ i h. get_or_append_left spare (n ∷ []) 0 i h in
    let free : get_or lent n true ≡ false = subst (λ m. get_or lent m true ≡ false) last (held.free (length spare) (omega arith)) in
    let inside : n < length lent = spare-inside lent n free in
    let counted = count-taken lent n inside free in
    let same_length : length (set lent n true) ≡ length lent = length-set lent n true in
    let old_count : length spare + 1 ≡ count_by not lent = sym one_more ∙ held.count in
    record {
      whole = rw same_length (same ∙ held.whole);
      small = rw same held.small;
      free = λ i h.
          let ne : get_or spare i 0 ≢ n = λ e. let clash : i ≡ length spare = held.distinct i (length spare) (omega arith) (omega arith) (here i h ∙ e ∙ sym last) in omega arith in
          get_or-set_other lent n (get_or spare i 0) true true ne ∙ subst (λ m. get_or lent m true ≡ false) (here i h) (held.free i (omega arith));
      distinct = λ i j hi hj e. held.distinct i j (omega arith) (omega arith) (here i hi ∙ e ∙ sym (here j hj));
      count = omega arith;
      numbers = omega arith;
    }

count_by-replicate : (n : ℕ) → count_by not (replicate n false) ≡ n
count_by-replicate n = sum_by-replicate (λ l. cond (not l) 1 0) n false ∙ omega arith

-- all blocks are spare at first
pub IsHeld-opened : (size count room : ℕ) (region : List ℕ) → length region ≡ count * size → length region < 2 ^ 64 → count ≤ room
    → IsHeld size region (replicate count false) (range_with_len 0 count) room
IsHeld-opened size count room region whole small enough =
    let flags : length (replicate count false) ≡ count = length-replicate count false in
    let many : length (range_with_len 0 count) ≡ count = length-range_with_len 0 count in
    let at : (i : ℕ) → i < length (range_with_len 0 count) → get_or (range_with_len 0 count) i 0 ≡ i = λ i h. get_or-range_with_len 0 count i 0 (omega arith) ∙ omega arith in
    record {
      whole = rw flags whole;
      small = small;
      free = λ i h. rw (at i h) (get_or-replicate count i false true (omega arith));
      distinct = λ i j hi hj e. sym (at i hi) ∙ e ∙ at j hj;
      count = many ∙ sym (count_by-replicate count);
      numbers = omega arith;
    }

-- one more number of a range, at its end
pub range_with_len-more : (a n : ℕ) → range_with_len a (suc n) ≡ range_with_len a n ++ (a + n) ∷ []
range_with_len-more a zero = let e : a ≡ a + 0 = omega arith in ap (λ x. x ∷ []) e
range_with_len-more a (suc n) = let e : a + 1 + n ≡ a + suc n = omega arith in ap (λ xs. a ∷ xs) (rw (← e) (range_with_len-more (a + 1) n))
