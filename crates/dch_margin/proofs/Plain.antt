-- Blocks that are not coded.
use Rattle.std.proofs.Common.{◌≡◌, ◌≢◌, ◌<◌, ◌≤◌, ◌+◌, inl, inr, below_more, ℕ, zero, suc, List, [], ◌∷◌, length, arith, refl, ap, sym, ◌∙◌}
use Rattle.std.specs.Prelude.{min, replicate}
use Rattle.std.proofs.lemmas.Bool.{cases_lt}
use Rattle.std.proofs.lemmas.List.{length-replicate}
use Rattle.std.proofs.Math.ListN.{set}
use Rattle.std.proofs.Math.Nat.{mul-le-mul_left}
use Rattle.dch_bits.specs.declared.bit.Bit.{Bit}
use Rattle.dch_bits.specs.declared.bit.Bit.TheVariants.{Zero, One}
use Rattle.dch_bits.specs.Bits.{distance}
use Rattle.dch_types.specs.declared.channel.Coding.TheVariants.{Uncoded}
use Rattle.dch_coding.specs.Chain.{coded_as}
use Rattle.dch_trellis.specs.Distance.{copies_between}
use Rattle.dch_trellis.proofs.Damage.{copies-distance}
use Rattle.dch_margin.specs.Differ.{DifferIn, IsFromZeros, IsLeast}

-- a One among zeros
one_at : ℕ → ℕ → List Bit
one_at zero j = []
one_at (suc n) zero = One ∷ replicate n Zero
one_at (suc n) (suc j) = Zero ∷ one_at n j

length-one_at : (n j : ℕ) → length (one_at n j) ≡ n
unfolding one_at
length-one_at zero j = refl
length-one_at (suc n) zero = ap suc (length-replicate n Zero)
length-one_at (suc n) (suc j) = ap suc (length-one_at n j)

between_own : (sent : ℕ → ℕ) (xs : List Bit) → copies_between sent xs xs ≡ 0
between_own sent [] = refl
between_own sent (Zero ∷ xs) = omega (arith, between_own (λ j. sent (suc j)) xs)
between_own sent (One ∷ xs) = omega (arith, between_own (λ j. sent (suc j)) xs)

between-one_at : (sent : ℕ → ℕ) (n j : ℕ) → j < n → copies_between sent (replicate n Zero) (one_at n j) ≡ sent j
unfolding one_at
between-one_at sent zero j inside = absurd (omega arith)
between-one_at sent (suc n) zero inside = omega (arith, between_own (λ j. sent (suc j)) (replicate n Zero))
between-one_at sent (suc n) (suc j) inside = omega (arith, between-one_at (λ j. sent (suc j)) n j (omega arith))

one_differs : (n j : ℕ) → j < n → replicate n Zero ≢ one_at n j
one_differs n j inside same = absurd (omega (arith, between-one_at (λ k. 1) n j inside, between_own (λ k. 1) (replicate n Zero), ap (λ xs. copies_between (λ k. 1) (replicate n Zero) xs) same))

distance_some : (xs ys : List Bit) → length xs ≡ length ys → xs ≢ ys → 1 ≤ distance xs ys
distance_some [] [] long differ = absurd (differ refl)
distance_some [] (y ∷ ys) long differ = absurd (omega arith)
distance_some (x ∷ xs) [] long differ = absurd (omega arith)
distance_some (Zero ∷ xs) (Zero ∷ ys) long differ = omega (arith, distance_some xs ys (omega arith) (λ same. differ (ap (λ zs. Zero ∷ zs) same)))
distance_some (Zero ∷ xs) (One ∷ ys) long differ = omega arith
distance_some (One ∷ xs) (Zero ∷ ys) long differ = omega arith
distance_some (One ∷ xs) (One ∷ ys) long differ = omega (arith, distance_some xs ys (omega arith) (λ same. differ (ap (λ zs. One ∷ zs) same)))

-- the fewest of the first copies
pub record IsFewest (sent : ℕ → ℕ) (count n : ℕ) : Type 0 where
  pub place : ℕ
  pub there : place < count
  pub is : sent place ≡ n
  pub fewest : (j : ℕ) → j < count → n ≤ sent j

pub fewest_first : (sent : ℕ → ℕ) (n : ℕ) → n ≡ sent 0 → IsFewest sent 1 n
fewest_first sent n is = record { place = 0; there = omega arith; is = sym is; fewest = λ j inside. only j inside }
  where
    only : (j : ℕ) → j < 1 → n ≤ sent j
    only zero inside = omega (arith, is)
    only (suc j) inside = absurd (omega arith)

pub fewest_more : (sent : ℕ → ℕ) (count n more least : ℕ) → more ≡ sent count → least ≡ min n more → IsFewest sent count n → IsFewest sent (count + 1) least
fewest_more sent count n more least is lesser before = elim (cases_lt more n) [
  | inl less ↦ record {
    place = count;
    there = omega arith;
    is = omega (arith, is, lesser);
    fewest = below_more (λ j. least ≤ sent j) count (λ j early. omega (arith, lesser, before.fewest j early)) (omega (arith, is, lesser));
  }
  | inr greater ↦ record {
    place = before.place;
    there = omega (arith, before.there);
    is = omega (arith, before.is, lesser);
    fewest = below_more (λ j. least ≤ sent j) count (λ j early. omega (arith, lesser, before.fewest j early)) (omega (arith, is, lesser));
  }
]

-- are the least in which two blocks of so many bits differ
pub fewest_differ : (sent : ℕ → ℕ) (size n : ℕ) → IsFewest sent size n → IsLeast (DifferIn (coded_as Uncoded) size 0 sent) n
fewest_differ sent size n fewest = record { has = there; least = none }
  where
    there : DifferIn (coded_as Uncoded) size 0 sent n
    there = record {
      first = replicate size Zero;
      second = one_at size fewest.place;
      shape = record { sized = length-replicate size Zero; filled = λ k none. absurd (omega arith) };
      other = record { sized = length-one_at size fewest.place; filled = λ k none. absurd (omega arith) };
      differ = one_differs size fewest.place fewest.there;
      between = between-one_at sent size fewest.place fewest.there ∙ fewest.is;
    }

    none : (m : ℕ) → DifferIn (coded_as Uncoded) size 0 sent m → n ≤ m
    none m pair =
        let some : 1 ≤ distance pair.first pair.second = distance_some pair.first pair.second (pair.shape.sized ∙ sym pair.other.sized) pair.differ in
        omega (arith, mul-le-mul_left n some, copies-distance sent pair.first pair.second n (λ j within. fewest.fewest j (omega (arith, within, pair.shape.sized))), pair.between)

set-one : (n j : ℕ) → set (replicate n Zero) j One ≡ one_at n j
unfolding one_at
set-one zero j = refl
set-one (suc n) zero = refl
set-one (suc n) (suc j) = ap (λ xs. Zero ∷ xs) (set-one n j)

-- one One among zeros differs from zeros in the cells of its bit
pub one_bit : (sent : ℕ → ℕ) (size k least : ℕ) (block : List Bit) → k < size → sent k ≡ least → set (replicate size Zero) k One ≡ block → IsFromZeros (coded_as Uncoded) size 0 sent least block
one_bit sent size k least block inside is set = record {
  pair = record {
    first = replicate size Zero;
    second = one_at size k;
    shape = record { sized = length-replicate size Zero; filled = λ k none. absurd (omega arith) };
    other = record { sized = length-one_at size k; filled = λ k none. absurd (omega arith) };
    differ = one_differs size k inside;
    between = between-one_at sent size k inside ∙ is;
  };
  zeros = refl;
  is = sym (set-one size k) ∙ set;
}

-- lists that differ do so at some bit, and so in all its cells
record DiffersAt (sent : ℕ → ℕ) (count cells : ℕ) : Type 0 where
  place : ℕ
  inside : place < count
  few : sent place ≤ cells

differs_at : (sent : ℕ → ℕ) (xs ys : List Bit) → length xs ≡ length ys → xs ≢ ys → DiffersAt sent (length xs) (copies_between sent xs ys)
differs_at sent [] [] long differ = absurd (differ refl)
differs_at sent [] (y ∷ ys) long differ = absurd (omega arith)
differs_at sent (x ∷ xs) [] long differ = absurd (omega arith)
differs_at sent (Zero ∷ xs) (Zero ∷ ys) long differ =
    let rest : DiffersAt (λ j. sent (suc j)) (length xs) (copies_between (λ j. sent (suc j)) xs ys) = differs_at (λ j. sent (suc j)) xs ys (omega arith) (λ same. differ (ap (λ zs. Zero ∷ zs) same)) in
    record { place = suc rest.place; inside = omega (arith, rest.inside); few = omega (arith, rest.few) }
differs_at sent (Zero ∷ xs) (One ∷ ys) long differ = record { place = 0; inside = omega arith; few = omega arith }
differs_at sent (One ∷ xs) (Zero ∷ ys) long differ = record { place = 0; inside = omega arith; few = omega arith }
differs_at sent (One ∷ xs) (One ∷ ys) long differ =
    let rest : DiffersAt (λ j. sent (suc j)) (length xs) (copies_between (λ j. sent (suc j)) xs ys) = differs_at (λ j. sent (suc j)) xs ys (omega arith) (λ same. differ (ap (λ zs. One ∷ zs) same)) in
    record { place = suc rest.place; inside = omega (arith, rest.inside); few = omega (arith, rest.few) }

-- some bit has just the least cells
pub some_bit : (sent : ℕ → ℕ) (size least k : ℕ) → size ≤ k → IsLeast (DifferIn (coded_as Uncoded) size 0 sent) least → ((j : ℕ) → j < k → sent j ≢ least) → ⊥
some_bit sent size least k all is none =
    let there : DiffersAt sent (length is.has.first) (copies_between sent is.has.first is.has.second) = differs_at sent is.has.first is.has.second (is.has.shape.sized ∙ sym is.has.other.sized) is.has.differ in
    let inside : there.place < size = omega (arith, there.inside, is.has.shape.sized) in
    let own : IsFromZeros (coded_as Uncoded) size 0 sent (sent there.place) (set (replicate size Zero) there.place One) = one_bit sent size there.place (sent there.place) (set (replicate size Zero) there.place One) inside refl refl in
    none there.place (omega (arith, inside, all)) (omega (arith, there.few, is.has.between, is.least (sent there.place) own.pair))
