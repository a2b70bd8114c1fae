-- Whether blocks are some of others, found block by block.
use Rattle.std.proofs.Common.{◌≡◌, ◌<◌, ◌≤◌, ◌+◌, ◌-◌, ◌↔◌, ◌∙◌, ℕ, zero, suc, List, [], ◌∷◌, length, true, false, arith, refl, ap, sym, subst, inl, inr}
use Rattle.std.specs.Prelude.{slice_index_or}
use Rattle.std.proofs.lemmas.Bool.Decides.{leb_tells}
use Rattle.std.specs.Cmp.Lexicographic.{pointwise}
use Rattle.dch_bits.specs.contracts.bit.BitPartialEq.TheImpl.{eq-value}
use Rattle.dch_bits.specs.declared.bit.Bit.{Bit}
use Rattle.dch_bits.specs.declared.bit.Bit.TheVariants.{Zero, One}
use Rattle.dch_accept.specs.Blocks.{Held, block_at}
use Rattle.dch_link.specs.Checks.{IsSublist, good_from}
use Rattle.dch_link.specs.Comparing.{FindsNext, IsNextGood, blocks_from}

-- with one more that may be left out
sub_more : (xs ys : List (List Bit)) (y : List Bit) → IsSublist xs ys → IsSublist xs (y ∷ ys)
sub_more [] ys y sub = tt
sub_more (x ∷ xs) ys y sub = inr sub

-- without the first one
sub_tail : (x : List Bit) (xs ys : List (List Bit)) → IsSublist (x ∷ xs) ys → IsSublist xs ys
sub_tail x xs [] sub = absurd sub
sub_tail x xs (y ∷ ys) (inl (same, rest)) = sub_more xs ys y rest
sub_tail x xs (y ∷ ys) (inr rest) = sub_more xs ys y (sub_tail x xs ys rest)

-- the first one may as well be the first that is the same
sub_same : (x : List Bit) (xs : List (List Bit)) (y : List Bit) (ys : List (List Bit)) → x ≡ y → IsSublist (x ∷ xs) (y ∷ ys) ↔ IsSublist xs ys
sub_same x xs y ys same = (λ sub. here x xs y ys sub, λ rest. inl (same, rest))
  where
    here : (x : List Bit) (xs : List (List Bit)) (y : List Bit) (ys : List (List Bit)) → IsSublist (x ∷ xs) (y ∷ ys) → IsSublist xs ys
    here x xs y ys (inl (is, rest)) = rest
    here x xs y ys (inr rest) = sub_tail x xs ys rest

sub_other : (x : List Bit) (xs : List (List Bit)) (y : List Bit) (ys : List (List Bit)) → ¬ (x ≡ y) → IsSublist (x ∷ xs) (y ∷ ys) ↔ IsSublist (x ∷ xs) ys
sub_other x xs y ys other = (λ sub. here x xs y ys other sub, λ rest. inr rest)
  where
    here : (x : List Bit) (xs : List (List Bit)) (y : List Bit) (ys : List (List Bit)) → ¬ (x ≡ y) → IsSublist (x ∷ xs) (y ∷ ys) → IsSublist (x ∷ xs) ys
    here x xs y ys other (inl (is, rest)) = absurd (other is)
    here x xs y ys other (inr rest) = rest

-- bad blocks are passed over
passed : (held : Held) (i skip count : ℕ) → ((k : ℕ) → i ≤ k → k < i + skip → slice_index_or held.good k false ≡ false) → good_from held i (skip + count) ≡ good_from held (i + skip) count
passed held i zero count bad = let here : i + zero ≡ i = omega arith in let same : zero + count ≡ count = omega arith in rw (here, same) refl
passed held i (suc skip) count bad =
    let here : suc skip + count ≡ suc (skip + count) = omega arith in
    let there : i + suc skip ≡ (i + 1) + skip = omega arith in
    let first : slice_index_or held.good i false ≡ false = bad i (omega arith) (omega arith) in
    rw (here, there, first) (passed held (i + 1) skip count (λ k from early. bad k (omega (arith, from)) (omega (arith, early))))

pub to_next : (held : Held) (i next : ℕ) → IsNextGood held i next → good_from held i (length held.good - i) ≡ good_from held next (length held.good - next)
to_next held i next is =
    let skip : ℕ = next - i in
    let count : ℕ = length held.good - next in
    let all : length held.good - i ≡ skip + count = omega (arith, is.from, is.within) in
    let there : i + skip ≡ next = omega (arith, is.from) in
    rw all (passed held i skip count (λ k from early. is.bad k from (omega (arith, early, there))) ∙ ap (λ n. good_from held n count) there)

-- the next good block is the first one
first_is : (held : Held) (i : ℕ) → IsNextGood held i i → i < length held.good → good_from held i (length held.good - i) ≡ block_at held i ∷ good_from held (i + 1) (length held.good - (i + 1))
first_is held i is inside =
    let all : length held.good - i ≡ suc (length held.good - (i + 1)) = omega (arith, inside) in
    rw (all, is.good inside) refl

none_left : (held : Held) (i : ℕ) → length held.good ≤ i → good_from held i (length held.good - i) ≡ []
none_left held i out = let none : length held.good - i ≡ zero = omega (arith, out) in rw none refl

-- one more of those that were given
one_more : (given : Held) (k count : ℕ) → k < count → blocks_from given k (count - k) ≡ block_at given k ∷ blocks_from given (k + 1) (count - (k + 1))
one_more given k count inside =
    let all : count - k ≡ suc (count - (k + 1)) = omega (arith, inside) in
    rw all refl

-- where a block stands
pub stands_at : (held : Held) (i next : ℕ) → IsNextGood held i next → IsNextGood held next next
stands_at held i next is = record {
  from = omega arith;
  within = is.within;
  bad = λ k from early. absurd (omega (arith, from, early));
  good = is.good;
}

abbrev pub AreLeft : Held → Held → ℕ → ℕ → ℕ → Type 0
AreLeft taken given count i k = IsSublist (good_from taken i (length taken.good - i)) (blocks_from given k (count - k))

-- one step of the search
pub found : (taken given : Held) (count i k next : ℕ) → k < count → IsNextGood taken i i → FindsNext taken i (block_at given k) next → IsNextGood taken next next × (AreLeft taken given count i k ↔ AreLeft taken given count next (k + 1))
found taken given count i k next inside is (inl (early, same, on)) =
    let step : AreLeft taken given count i k ↔ IsSublist (good_from taken (i + 1) (length taken.good - (i + 1))) (blocks_from given (k + 1) (count - (k + 1))) =
    rw (first_is taken i is early, one_more given k count inside) (sub_same (block_at taken i) (good_from taken (i + 1) (length taken.good - (i + 1))) (block_at given k) (blocks_from given (k + 1) (count - (k + 1))) same) in
    (stands_at taken (i + 1) next on, subst (λ (l : List (List Bit)). AreLeft taken given count i k ↔ IsSublist l (blocks_from given (k + 1) (count - (k + 1)))) (to_next taken (i + 1) next on) step)
found taken given count i k next inside is (inr (other, stays)) =
    elim (leb_tells (length taken.good) i) [
      | inr (_, early) ↦ (
          let step : AreLeft taken given count i k ↔ AreLeft taken given count i (k + 1) =
          rw (first_is taken i is early, one_more given k count inside) (sub_other (block_at taken i) (good_from taken (i + 1) (length taken.good - (i + 1))) (block_at given k) (blocks_from given (k + 1) (count - (k + 1))) (other early)) in
          (rw stays is, rw stays step)
          )
      | inl (_, out) ↦ (rw stays is, rw (stays, none_left taken i out) (λ u. tt, λ u. tt))
    ]

-- at the end of those that were given
pub ended : (taken given : Held) (count i : ℕ) → IsNextGood taken i i → (i ≡ length taken.good) ↔ AreLeft taken given count i count
ended taken given count i is =
    let none : count - count ≡ zero = omega arith in (
      λ same. rw (none_left taken i (omega (arith, same))) tt,
      λ sub. elim (leb_tells (length taken.good) i) [
        | inr (_, early) ↦ absurd (subst (λ (l : List (List Bit)). IsSublist l []) (first_is taken i is early) (subst (λ n. IsSublist (good_from taken i (length taken.good - i)) (blocks_from given count n)) none sub))
        | inl (_, out) ↦ omega (arith, out, is.within)
      ],
    )

-- bits are the same where each is
pub same_bits : (xs ys : List Bit) → pointwise eq-value.it xs ys ≡ true → xs ≡ ys
same_bits [] [] same = refl
same_bits [] (y ∷ ys) same = cc
same_bits (x ∷ xs) [] same = cc
same_bits (Zero ∷ xs) (Zero ∷ ys) same = ap (λ (l : List Bit). Zero ∷ l) (same_bits xs ys same)
same_bits (Zero ∷ xs) (One ∷ ys) same = cc
same_bits (One ∷ xs) (Zero ∷ ys) same = cc
same_bits (One ∷ xs) (One ∷ ys) same = ap (λ (l : List Bit). One ∷ l) (same_bits xs ys same)

pub bits_same : (xs : List Bit) → pointwise eq-value.it xs xs ≡ true
bits_same [] = refl
bits_same (Zero ∷ xs) = bits_same xs
bits_same (One ∷ xs) = bits_same xs

-- and are others where they are found to be
pub other_bits : (xs ys : List Bit) → pointwise eq-value.it xs ys ≡ false → ¬ (xs ≡ ys)
other_bits xs ys other = λ same. (let is : pointwise eq-value.it xs xs ≡ false = subst (λ (l : List Bit). pointwise eq-value.it xs l ≡ false) (sym same) other in let all = bits_same xs in cc (is, all))
