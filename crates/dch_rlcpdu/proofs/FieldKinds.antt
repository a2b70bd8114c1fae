-- The types of fields.
use Rattle.std.proofs.Common.{◌≡◌, ◌+◌, ◌*◌, ◌/◌, ◌%◌, ◌<◌, ◌≤◌, ℕ, zero, suc, List, Bool, true, false, length, get_or, drop, arith, refl, ap, ap₂, ◌∙◌, cond}
use Rattle.std.specs.Prelude.{◌==◌}
use Rattle.std.proofs.lemmas.Bool.Decides.{nat_tests}
use Rattle.std.proofs.lemmas.List.{get_or-drop}
use Rattle.dch_rlcpdu.specs.Fields.{Field, NoMoreField, WindowField, AckField, ListField, BitmapField, MrwField, MrwAckField, pairs_of, bits_of}
use Rattle.dch_rlcpdu.specs.Halves.{half_bit, number_at}
use Rattle.dch_rlcpdu.specs.Sufis.{bits_in, pairs_in, sufi_of}
use Rattle.dch_rlcpdu.specs.Reading.{bits_from, field_by, field_of, pairs_from, size_by, size_of}

pub length-pairs_from : (k : ℕ) (ns : List ℕ) → length (pairs_from k ns) ≡ k
length-pairs_from zero ns = refl
length-pairs_from (suc k) ns = ap suc (length-pairs_from k (drop 4 ns))

pub length-bits_from : (k : ℕ) (ns : List ℕ) (j : ℕ) → length (bits_from k ns j) ≡ k
length-bits_from zero ns j = refl
length-bits_from (suc k) ns j = ap suc (length-bits_from k ns (j + 1))

-- a field of a type
pub size_kind : (ns : List ℕ) (kind : ℕ) → get_or ns 0 0 ≡ kind → size_of ns ≡ size_by kind (get_or ns 1 0)
size_kind ns kind is = ap (λ k. size_by k (get_or ns 1 0)) is

pub field_kind : (ns : List ℕ) (kind : ℕ) → get_or ns 0 0 ≡ kind → field_of ns ≡ field_by kind (get_or ns 1 0) ns
field_kind ns kind is = ap (λ k. field_by k (get_or ns 1 0) ns) is

-- only a LIST has pairs, and only a BITMAP has bits
list_kind : (b0 b1 b2 b3 b4 b6 : Bool) (w a l m n o p q r : ℕ) (ps : List (ℕ × ℕ)) (bs : List Bool) → l < length (pairs_of (cond b0 NoMoreField (cond b1 (WindowField w) (cond b2 (AckField a) (cond b3 (ListField ps) (cond b4 (BitmapField m bs) (cond b6 (MrwField n o) (MrwAckField p q)))))))) → b3 ≡ true
list_kind true b1 b2 b3 b4 b6 w a l m n o p q r ps bs h = absurd (omega arith)
list_kind false true b2 b3 b4 b6 w a l m n o p q r ps bs h = absurd (omega arith)
list_kind false false true b3 b4 b6 w a l m n o p q r ps bs h = absurd (omega arith)
list_kind false false false true b4 b6 w a l m n o p q r ps bs h = refl
list_kind false false false false true b6 w a l m n o p q r ps bs h = absurd (omega arith)
list_kind false false false false false true w a l m n o p q r ps bs h = absurd (omega arith)
list_kind false false false false false false w a l m n o p q r ps bs h = absurd (omega arith)

bitmap_kind : (b0 b1 b2 b3 b4 b6 : Bool) (w a l m n o p q r : ℕ) (ps : List (ℕ × ℕ)) (bs : List Bool) → l < length (bits_of (cond b0 NoMoreField (cond b1 (WindowField w) (cond b2 (AckField a) (cond b3 (ListField ps) (cond b4 (BitmapField m bs) (cond b6 (MrwField n o) (MrwAckField p q)))))))) → b4 ≡ true
bitmap_kind true b1 b2 b3 b4 b6 w a l m n o p q r ps bs h = absurd (omega arith)
bitmap_kind false true b2 b3 b4 b6 w a l m n o p q r ps bs h = absurd (omega arith)
bitmap_kind false false true b3 b4 b6 w a l m n o p q r ps bs h = absurd (omega arith)
bitmap_kind false false false true b4 b6 w a l m n o p q r ps bs h = absurd (omega arith)
bitmap_kind false false false false true b6 w a l m n o p q r ps bs h = refl
bitmap_kind false false false false false true w a l m n o p q r ps bs h = absurd (omega arith)
bitmap_kind false false false false false false w a l m n o p q r ps bs h = absurd (omega arith)

is_three : (kind : ℕ) → (kind == 3) ≡ true → kind ≡ 3
is_three kind h = grind (arith, nat_tests)

is_four : (kind : ℕ) → (kind == 4) ≡ true → kind ≡ 4
is_four kind h = grind (arith, nat_tests)

pub pairs_kind : (ns : List ℕ) (j : ℕ) → j < length (pairs_of (field_of ns)) → get_or ns 0 0 ≡ 3
pairs_kind ns j inside =
    is_three (get_or ns 0 0) (list_kind (get_or ns 0 0 == 0) (get_or ns 0 0 == 1) (get_or ns 0 0 == 2) (get_or ns 0 0 == 3) (get_or ns 0 0 == 4) (get_or ns 0 0 == 6)
    _ _ j _ _ _ _ _ 0 _ _ inside)

pub bits_kind : (ns : List ℕ) (j : ℕ) → j < length (bits_of (field_of ns)) → get_or ns 0 0 ≡ 4
bits_kind ns j inside =
    is_four (get_or ns 0 0) (bitmap_kind (get_or ns 0 0 == 0) (get_or ns 0 0 == 1) (get_or ns 0 0 == 2) (get_or ns 0 0 == 3) (get_or ns 0 0 == 4) (get_or ns 0 0 == 6)
    _ _ j _ _ _ _ _ 0 _ _ inside)

-- the places of a pair and of a bit
pub pair_from : (k : ℕ) (ns : List ℕ) (j : ℕ) → j < k → get_or (pairs_from k ns) j (0, 0) ≡ (number_at ns (4 * j), get_or ns (4 * j + 3) 0)
pair_from zero ns j inside = absurd (omega arith)
pair_from (suc k) ns zero inside = refl
pair_from (suc k) ns (suc j) inside =
    let high : get_or (drop 4 ns) (4 * j) 0 ≡ get_or ns (4 * suc j) 0 = get_or-drop 4 ns (4 * j) 0 ∙ ap (λ i. get_or ns i 0) (omega arith) in
    let middle : get_or (drop 4 ns) (4 * j + 1) 0 ≡ get_or ns (4 * suc j + 1) 0 = get_or-drop 4 ns (4 * j + 1) 0 ∙ ap (λ i. get_or ns i 0) (omega arith) in
    let low : get_or (drop 4 ns) (4 * j + 2) 0 ≡ get_or ns (4 * suc j + 2) 0 = get_or-drop 4 ns (4 * j + 2) 0 ∙ ap (λ i. get_or ns i 0) (omega arith) in
    let more : get_or (drop 4 ns) (4 * j + 3) 0 ≡ get_or ns (4 * suc j + 3) 0 = get_or-drop 4 ns (4 * j + 3) 0 ∙ ap (λ i. get_or ns i 0) (omega arith) in
    pair_from k (drop 4 ns) j (omega arith)
    ∙ ap₂ (λ (a b : ℕ). (a, b)) (ap₂ (λ a b. a + b) (ap₂ (λ a b. 256 * a + 16 * b) high middle) low) more

pub bit_from : (k : ℕ) (ns : List ℕ) (b j : ℕ) → j < k → get_or (bits_from k ns b) j false ≡ half_bit (get_or ns ((b + j) / 4) 0) ((b + j) % 4)
bit_from zero ns b j inside = absurd (omega arith)
bit_from (suc k) ns b zero inside = let same : b + 0 ≡ b = omega arith in rw same refl
bit_from (suc k) ns b (suc j) inside =
    let same : b + 1 + j ≡ b + suc j = omega arith in
    bit_from k ns (b + 1) j (omega arith) ∙ ap (λ i. half_bit (get_or ns (i / 4) 0) (i % 4)) same

-- run j of a LIST at the front
pub record PairAt (ns : List ℕ) (j : ℕ) : Type 0 where
  pub inside : 4 * j + 6 ≤ size_of ns
  pub value : get_or (pairs_of (field_of ns)) j (0, 0) ≡ (number_at ns (4 * j + 2), get_or ns (4 * j + 5) 0)

pub pair_place : (ns : List ℕ) (j : ℕ) → j < length (pairs_of (field_of ns)) → PairAt ns j
pair_place ns j below =
    let kind : get_or ns 0 0 ≡ 3 = pairs_kind ns j below in
    let few : j < get_or ns 1 0 = rw (field_kind ns 3 kind, length-pairs_from) at below in
    let high : get_or (drop 2 ns) (4 * j) 0 ≡ get_or ns (4 * j + 2) 0 = get_or-drop 2 ns (4 * j) 0 ∙ ap (λ i. get_or ns i 0) (omega arith) in
    let middle : get_or (drop 2 ns) (4 * j + 1) 0 ≡ get_or ns (4 * j + 2 + 1) 0 = get_or-drop 2 ns (4 * j + 1) 0 ∙ ap (λ i. get_or ns i 0) (omega arith) in
    let low : get_or (drop 2 ns) (4 * j + 2) 0 ≡ get_or ns (4 * j + 2 + 2) 0 = get_or-drop 2 ns (4 * j + 2) 0 ∙ ap (λ i. get_or ns i 0) (omega arith) in
    let more : get_or (drop 2 ns) (4 * j + 3) 0 ≡ get_or ns (4 * j + 5) 0 = get_or-drop 2 ns (4 * j + 3) 0 ∙ ap (λ i. get_or ns i 0) (omega arith) in
    record {
      inside = rw (size_kind ns 3 kind) (long (get_or ns 1 0) few);
      value = ap (λ f. get_or (pairs_of f) j (0, 0)) (field_kind ns 3 kind) ∙ (pair_from (get_or ns 1 0) (drop 2 ns) j few ∙ ap₂ (λ (a b : ℕ). (a, b)) (ap₂ (λ a b. a + b) (ap₂ (λ a b. 256 * a + 16 * b) high middle) low) more);
    }
  where
    long : (count : ℕ) → j < count → 4 * j + 6 ≤ size_by 3 count
    long zero h = absurd (omega arith)
    long (suc count) h =
        let some : (suc count == 0) ≡ false = grind (arith, nat_tests) in
        rw some (omega arith)

-- bit j of a BITMAP at the front
pub record BitAt (ns : List ℕ) (j : ℕ) : Type 0 where
  pub inside : j / 4 + 5 < size_of ns
  pub value : get_or (bits_of (field_of ns)) j false ≡ half_bit (get_or ns (j / 4 + 5) 0) (j % 4)

pub bit_place : (ns : List ℕ) (j : ℕ) → j < length (bits_of (field_of ns)) → BitAt ns j
bit_place ns j below =
    let kind : get_or ns 0 0 ≡ 4 = bits_kind ns j below in
    let few : j < 8 + 8 * get_or ns 1 0 = rw (field_kind ns 4 kind, length-bits_from) at below in
    let here : get_or (drop 5 ns) ((0 + j) / 4) 0 ≡ get_or ns (j / 4 + 5) 0 = get_or-drop 5 ns ((0 + j) / 4) 0 ∙ ap (λ i. get_or ns i 0) (omega arith) in
    let same : (0 + j) % 4 ≡ j % 4 = omega arith in
    record {
      inside = rw (size_kind ns 4 kind) (omega arith);
      value = ap (λ f. get_or (bits_of f) j false) (field_kind ns 4 kind) ∙ (bit_from (8 + 8 * get_or ns 1 0) (drop 5 ns) 0 j few ∙ ap₂ half_bit here same);
    }

-- a field announces its pairs and bits
pub pairs_announced : (f : Field) → pairs_in (sufi_of f) ≡ length (pairs_of f)
pairs_announced NoMoreField = refl
pairs_announced (WindowField size) = refl
pairs_announced (AckField lsn) = refl
pairs_announced (ListField pairs) = refl
pairs_announced (BitmapField first bits) = refl
pairs_announced (MrwField last n) = refl
pairs_announced (MrwAckField n sn) = refl

pub bits_announced : (f : Field) → bits_in (sufi_of f) ≡ length (bits_of f)
bits_announced NoMoreField = refl
bits_announced (WindowField size) = refl
bits_announced (AckField lsn) = refl
bits_announced (ListField pairs) = refl
bits_announced (BitmapField first bits) = refl
bits_announced (MrwField last n) = refl
bits_announced (MrwAckField n sn) = refl
