-- Bits and octets gathered into words.
use Rattle.std.proofs.Common.{◌≡◌, ◌+◌, ◌-◌, ◌*◌, ◌/◌, ◌%◌, ◌^◌, ◌<◌, ◌≤◌, ℕ, zero, suc, List, [], ◌∷◌, ◌++◌, length, replicate, get_or, map, take, drop, arith, refl, ap, ap₂, sym, ◌∙◌, append-nil, append_assoc}
use Rattle.std.specs.Int.{bit_at}
use Rattle.std.specs.List.{range_with_len}
use Rattle.std.proofs.lemmas.List.{ext_get_or, get_or-drop, length-drop, take_all, take_more}
use Rattle.std.proofs.lemmas.List.FromFn.{map-range_with_len_more, get_or-map-range_with_len, length-map-range_with_len}
use Rattle.std.proofs.lemmas.Nat.{div_below, pow_pos}
use Rattle.std.proofs.lemmas.Nat.Bits.{bit_at_lowest}
use Rattle.dch_bits.specs.declared.bit.Bit.{Bit}
use Rattle.dch_bits.specs.declared.bit.Bit.TheVariants.{Zero}
use Rattle.dch_bits.specs.Bits.{bit_of_number, number_of}
use Rattle.dch_bits.specs.Octets.{bit_of_octets, octet_bit}
use Rattle.dch_bits.proofs.Places.{bit_of_number-is, number_below}
use Rattle.dch_coding.specs.Parity.{add, bits_of_octets}
use Rattle.dch_coding.specs.Register.{lowest_bits}
use Rattle.dch_coding.proofs.Registers.{length-lowest_bits, get_or-lowest_bits, lowest_bits-xor, lowest_bits-zero}
use Rattle.dch_coding.proofs.Products.{add_zeros}
use Rattle.dch_coding.proofs.Aligned.{lowest_bits-shifted, lowest_bits-split}
use Rattle.dch_coding.proofs.Tables.{xor_high}

pub lowest_bits-none : (n : ℕ) → lowest_bits 0 n ≡ []
unfolding lowest_bits
lowest_bits-none n = refl

-- the lowest bits are those of what stands below
lowest_bits-behind : (count v d : ℕ) → d < 2 ^ count → lowest_bits count (v * 2 ^ count + d) ≡ lowest_bits count d
lowest_bits-behind count v d low =
    let same : count ≡ 0 + count = omega arith in
    let none : lowest_bits count (v * 2 ^ count) ≡ replicate count Zero = ap (λ n. lowest_bits n (v * 2 ^ count)) same ∙ lowest_bits-shifted 0 count v ∙ ap (λ t. t ++ replicate count Zero) (lowest_bits-none v) in
    ap (lowest_bits count) (sym (xor_high d v count low)) ∙ lowest_bits-xor count d (v * 2 ^ count)
    ∙ ap (add (lowest_bits count d)) none ∙ add_zeros count (lowest_bits count d) (sym (length-lowest_bits count d))

pub octet_behind : (count v d : ℕ) → d < 256 → lowest_bits (count + 8) (v * 256 + d) ≡ lowest_bits count v ++ lowest_bits 8 d
octet_behind count v d low =
    let front : (v * 256 + d) / 256 ≡ v = omega arith in
    lowest_bits-split count 8 (v * 256 + d) ∙ ap₂ (λ n xs. lowest_bits count n ++ xs) front (lowest_bits-behind 8 v d low)

pub octets_joined : (a b c d : ℕ) → a < 256 → b < 256 → c < 256 → d < 256 → lowest_bits 32 (((a * 256 + b) * 256 + c) * 256 + d) ≡ ((lowest_bits 8 a ++ lowest_bits 8 b) ++ lowest_bits 8 c) ++ lowest_bits 8 d
octets_joined a b c d first second third fourth =
    octet_behind 24 ((a * 256 + b) * 256 + c) d fourth
    ∙ ap (λ xs. xs ++ lowest_bits 8 d) (octet_behind 16 (a * 256 + b) c third ∙ ap (λ xs. xs ++ lowest_bits 8 c) (octet_behind 8 a b second))

pub lowest_bits-first : (n : ℕ) → lowest_bits 1 n ≡ bit_of_number (n % 2) ∷ []
unfolding lowest_bits
lowest_bits-first n = ap (λ m. bit_of_number m ∷ []) (bit_at_lowest n)

-- the bits of a number, by those of its half
pub bits_behind : (count n : ℕ) → lowest_bits (suc count) n ≡ lowest_bits count (n / 2) ++ bit_of_number (n % 2) ∷ []
bits_behind count n =
    let one : suc count ≡ count + 1 = omega arith in
    ap (λ k. lowest_bits k n) one ∙ lowest_bits-split count 1 n ∙ ap (λ xs. lowest_bits count (n / 2) ++ xs) (lowest_bits-first n)

-- a number with one bit more
pub bit_behind : (bits : List Bit) (i v : ℕ) → i < length bits → lowest_bits i v ≡ take i bits → lowest_bits (i + 1) (v * 2 + number_of (get_or bits i Zero)) ≡ take (i + 1) bits
bit_behind bits i v inside before =
    let b : Bit = get_or bits i Zero in
    let n : ℕ = v * 2 + number_of b in
    let front : n / 2 ≡ v = omega (arith, number_below b) in
    let last : n % 2 ≡ number_of b = omega (arith, number_below b) in
    lowest_bits-split i 1 n ∙ ap₂ (λ (m : ℕ) (xs : List Bit). lowest_bits i m ++ xs) front (lowest_bits-first n ∙ ap (λ x. x ∷ []) (bit_of_number-is (n % 2) b last))
    ∙ ap (λ xs. xs ++ b ∷ []) before ∙ sym (take_more bits i Zero inside)

-- the bit at a place, as a number
abbrev pub place : List Bit → ℕ → ℕ
place bits i = number_of (get_or bits i Zero)

pub bits_joined : (bits : List Bit) → length bits ≡ 8
    → lowest_bits 8 (((((((place bits 0 * 2 + place bits 1) * 2 + place bits 2) * 2 + place bits 3) * 2 + place bits 4) * 2 + place bits 5) * 2 + place bits 6) * 2 + place bits 7) ≡ bits
bits_joined bits long =
    let n : ℕ → ℕ = λ i. number_of (get_or bits i Zero) in
    let v1 : ℕ = n 0 in
    let first : v1 ≡ 0 * 2 + n 0 = omega arith in
    let v2 : ℕ = v1 * 2 + n 1 in
    let v3 : ℕ = v2 * 2 + n 2 in
    let v4 : ℕ = v3 * 2 + n 3 in
    let v5 : ℕ = v4 * 2 + n 4 in
    let v6 : ℕ = v5 * 2 + n 5 in
    let v7 : ℕ = v6 * 2 + n 6 in
    bit_behind bits 7 v7 (omega arith)
    (bit_behind bits 6 v6 (omega arith)
    (bit_behind bits 5 v5 (omega arith)
    (bit_behind bits 4 v4 (omega arith)
    (bit_behind bits 3 v3 (omega arith)
    (bit_behind bits 2 v2 (omega arith)
    (bit_behind bits 1 v1 (omega arith)
    (ap (lowest_bits 1) first ∙ bit_behind bits 0 0 (omega arith) (lowest_bits-none 0)))))))) ∙ take_all 8 bits (omega arith)

-- what the factor makes of eight bits, each in an octet
pub gathered : (a b c d e f g h : ℕ) → a < 2 → b < 2 → c < 2 → d < 2 → e < 2 → f < 2 → g < 2 → h < 2
    → (a + b * 256 + c * 65536 + d * 16777216 + e * 4294967296 + f * 1099511627776 + g * 281474976710656 + h * 72057594037927936) * 9241421688590303745 % 18446744073709551616 / 72057594037927936
    ≡ ((((((a * 2 + b) * 2 + c) * 2 + d) * 2 + e) * 2 + f) * 2 + g) * 2 + h
gathered a b c d e f g h la lb lc ld le lf lg lh = omega arith

-- ---- octets
places_more : (f : ℕ → Bit) (n m : ℕ) → map f (range_with_len 0 (n + m)) ≡ map f (range_with_len 0 n) ++ map (λ j. f (n + j)) (range_with_len 0 m)
places_more f n zero = let same : n + 0 ≡ n = omega arith in ap (λ k. map f (range_with_len 0 k)) same ∙ sym (append-nil (map f (range_with_len 0 n)))
places_more f n (suc m) =
    let next : n + suc m ≡ n + m + 1 = omega arith in
    let one : suc m ≡ m + 1 = omega arith in
    let g : ℕ → Bit = λ j. f (n + j) in
    ap (λ k. map f (range_with_len 0 k)) next ∙ map-range_with_len_more f 0 (n + m) (n + m) (omega arith) ∙ ap (λ xs. xs ++ f (n + m) ∷ []) (places_more f n m)
    ∙ append_assoc (map f (range_with_len 0 n)) (map g (range_with_len 0 m)) (f (n + m) ∷ [])
    ∙ ap (λ xs. map f (range_with_len 0 n) ++ xs) (sym (map-range_with_len_more g 0 m m (omega arith)) ∙ ap (λ k. map g (range_with_len 0 k)) (sym one))

-- bit j of octet i, among the bits of all octets
pub bit_place : (octets : List ℕ) (i j : ℕ) → j < 8 → bit_of_octets octets (8 * i + j) ≡ bit_of_number (bit_at (get_or octets i 0) (7 - j))
bit_place octets i j inside =
    let octet : (8 * i + j) / 8 ≡ i = omega arith in
    let at : (8 * i + j) % 8 ≡ j = omega arith in
    ap₂ (λ i j. octet_bit (get_or octets i 0) j) octet at

octet_part : (octets : List ℕ) (i : ℕ) → map (λ j. bit_of_octets octets (8 * i + j)) (range_with_len 0 8) ≡ lowest_bits 8 (get_or octets i 0)
octet_part octets i =
    let f : ℕ → Bit = λ j. bit_of_octets octets (8 * i + j) in
    let long : length (map f (range_with_len 0 8)) ≡ 8 = length-map-range_with_len f 0 8 in
    ext_get_or Zero (map f (range_with_len 0 8)) (lowest_bits 8 (get_or octets i 0)) (long ∙ sym (length-lowest_bits 8 (get_or octets i 0)))
    (λ k h. let inside : k < 8 = omega (arith, h, long) in
    get_or-map-range_with_len f 0 8 k k Zero inside (omega arith) ∙ bit_place octets i k inside ∙ sym (get_or-lowest_bits 8 (get_or octets i 0) k inside))

-- the bits with one octet more
pub octet_more : (octets : List ℕ) (n : ℕ) → map (bit_of_octets octets) (range_with_len 0 (8 * (n + 1))) ≡ map (bit_of_octets octets) (range_with_len 0 (8 * n)) ++ lowest_bits 8 (get_or octets n 0)
octet_more octets n =
    let next : 8 * (n + 1) ≡ 8 * n + 8 = omega arith in
    ap (λ k. map (bit_of_octets octets) (range_with_len 0 k)) next ∙ places_more (bit_of_octets octets) (8 * n) 8 ∙ ap (λ xs. map (bit_of_octets octets) (range_with_len 0 (8 * n)) ++ xs) (octet_part octets n)

-- the bits with four octets more
pub word_more : (octets : List ℕ) (i : ℕ) → map (bit_of_octets octets) (range_with_len 0 (32 * (i + 1)))
    ≡ map (bit_of_octets octets) (range_with_len 0 (32 * i)) ++ (((lowest_bits 8 (get_or octets (4 * i) 0) ++ lowest_bits 8 (get_or octets (4 * i + 1) 0)) ++ lowest_bits 8 (get_or octets (4 * i + 2) 0)) ++ lowest_bits 8 (get_or octets (4 * i + 3) 0))
word_more octets i =
    let F : ℕ → List Bit = λ k. map (bit_of_octets octets) (range_with_len 0 k) in
    let o : ℕ → List Bit = λ k. lowest_bits 8 (get_or octets (4 * i + k) 0) in
    let zeroth : List Bit = lowest_bits 8 (get_or octets (4 * i) 0) in
    let start : 8 * (4 * i) ≡ 32 * i = omega arith in
    let end : 32 * (i + 1) ≡ 8 * (4 * i + 3 + 1) = omega arith in
    let one : 8 * (4 * i + 1) ≡ 8 * (4 * i + 0 + 1) = omega arith in
    let two : 8 * (4 * i + 2) ≡ 8 * (4 * i + 1 + 1) = omega arith in
    let three : 8 * (4 * i + 3) ≡ 8 * (4 * i + 2 + 1) = omega arith in
    let A : F (8 * (4 * i + 1)) ≡ F (32 * i) ++ zeroth = octet_more octets (4 * i) ∙ ap (λ k. F k ++ zeroth) start in
    let B : F (8 * (4 * i + 2)) ≡ F (32 * i) ++ (zeroth ++ o 1) = ap F two ∙ octet_more octets (4 * i + 1) ∙ ap (λ xs. xs ++ o 1) A ∙ append_assoc (F (32 * i)) zeroth (o 1) in
    let C : F (8 * (4 * i + 3)) ≡ F (32 * i) ++ ((zeroth ++ o 1) ++ o 2) = ap F three ∙ octet_more octets (4 * i + 2) ∙ ap (λ xs. xs ++ o 2) B ∙ append_assoc (F (32 * i)) (zeroth ++ o 1) (o 2) in
    ap F end ∙ octet_more octets (4 * i + 3) ∙ ap (λ xs. xs ++ o 3) C ∙ append_assoc (F (32 * i)) ((zeroth ++ o 1) ++ o 2) (o 3)

-- the bits of octets, by those of the first and of the rest
pub bits_of_octets-parts : (octets : List ℕ) (k : ℕ) → k ≤ length octets → map (bit_of_octets octets) (range_with_len 0 (8 * k)) ++ bits_of_octets (drop k octets) ≡ bits_of_octets octets
bits_of_octets-parts octets k inside =
    let n : ℕ = 8 * length (drop k octets) in
    let whole : 8 * length octets ≡ 8 * k + n = omega (arith, length-drop k octets) in
    let rest : (j : ℕ) → bit_of_octets (drop k octets) j ≡ bit_of_octets octets (8 * k + j) = λ j.
    let octet : k + j / 8 ≡ (8 * k + j) / 8 = omega arith in
    let place : j % 8 ≡ (8 * k + j) % 8 = omega arith in
    ap (λ o. octet_bit o (j % 8)) (get_or-drop k octets (j / 8) 0) ∙ ap₂ (λ i j. octet_bit (get_or octets i 0) j) octet place in
    ap (λ xs. map (bit_of_octets octets) (range_with_len 0 (8 * k)) ++ xs) (map-same (bit_of_octets (drop k octets)) (λ j. bit_of_octets octets (8 * k + j)) rest (range_with_len 0 n))
    ∙ sym (places_more (bit_of_octets octets) (8 * k) n) ∙ ap (λ m. map (bit_of_octets octets) (range_with_len 0 m)) (sym whole)
  where
    map-same : (f g : ℕ → Bit) → ((j : ℕ) → f j ≡ g j) → (js : List ℕ) → map f js ≡ map g js
    map-same f g same [] = refl
    map-same f g same (j ∷ js) = ap₂ (λ (b : Bit) (bs : List Bit). b ∷ bs) (same j) (map-same f g same js)

-- the bits of octets whose first ones are the same
pub octets_same : (xs ys : List ℕ) (m : ℕ) → ((n : ℕ) → n < m → get_or xs n 0 ≡ get_or ys n 0) → map (bit_of_octets xs) (range_with_len 0 (8 * m)) ≡ map (bit_of_octets ys) (range_with_len 0 (8 * m))
octets_same xs ys zero same = refl
octets_same xs ys (suc m) same =
    let one : 8 * suc m ≡ 8 * (m + 1) = omega arith in
    let F : List ℕ → List Bit = λ zs. map (bit_of_octets zs) (range_with_len 0 (8 * suc m)) in
    ap (λ k. map (bit_of_octets xs) (range_with_len 0 k)) one ∙ octet_more xs m
    ∙ ap₂ (λ bits o. bits ++ lowest_bits 8 o) (octets_same xs ys m (λ n below. same n (omega arith))) (same m (omega arith))
    ∙ sym (ap (λ k. map (bit_of_octets ys) (range_with_len 0 k)) one ∙ octet_more ys m)

-- a number below a power of two has zeros before its bits
pub lowest_bits-padded : (more count n : ℕ) → n < 2 ^ count → lowest_bits (more + count) n ≡ replicate more Zero ++ lowest_bits count n
lowest_bits-padded more count n small =
    let none : n / 2 ^ count ≡ 0 = omega (arith, div_below n (2 ^ count) 1 (pow_pos count) (omega (arith, small))) in
    lowest_bits-split more count n ∙ ap (λ m. lowest_bits more m ++ lowest_bits count n) none ∙ ap (λ xs. xs ++ lowest_bits count n) (lowest_bits-zero more)
