-- A number is read exactly where the word is its decimal text.
use Rattle.std.proofs.Common.{◌≡◌, ◌≢◌, ◌^◌, ◌<◌, ◌≤◌, ◌==◌, ◌&&◌, ◌↔◌, ℕ, zero, suc, List, [], ◌∷◌, Bool, true, false, not, Some, None, if◌then◌else◌, refl, sym, ap, ◌∙◌, length, lit<, arith, rules}
use Rattle.std.specs.Prelude.{nat_le, slice_index, decimal}
use Rattle.std.specs.List.{list_all}
use Rattle.std.proofs.lemmas.Bool.{eq-eqb, eqb-true, le-leb, leb-true, false_from_ne_true}
use Rattle.std.proofs.lemmas.Fmt.{decimal-digits_value, decimal_digit, digits_decimal, digits_value-decimal, decimal_nonempty, first_decimal}
use Rattle.std.proofs.lemmas.Str.Parse.{IsNumeralModel, numerals_by_fold}
use Rattle.dch_script.specs.Numbers.{is_digit, is_numeral, number_of, value_after}
use Rattle.dch_script.proofs.Kept.{left_holds, right_holds}

-- the words of digits, and their values
digits : IsNumeralModel (λ word. list_all is_digit word ≡ true) (value_after 0)
digits = numerals_by_fold _ (search rules) value_after (search rules)

-- a word of digits without a leading zero
record IsPlain (word : List ℕ) : Type 0 where
  digits : list_all is_digit word ≡ true
  some : 0 < length word
  lead : slice_index word 0 ≡ 48 → length word ≡ 1

-- a first digit that is no 0
not_zero : (c : ℕ) → not (c == 48) ≡ true → c ≢ 48
not_zero c is same = let here : (c == 48) ≡ true = eq-eqb c 48 same in absurd (cc)

-- a numeral has no leading zero
plain : (word : List ℕ) → is_numeral word ≡ true → IsPlain word
plain [] is = absurd (cc)
plain (c ∷ []) is = record { digits = rw is refl; some = omega arith; lead = λ _. refl }
plain (c ∷ (d ∷ word)) is = record {
  digits = right_holds (not (c == 48)) (list_all is_digit (c ∷ (d ∷ word))) is;
  some = omega arith;
  lead = λ same. absurd (not_zero c (left_holds (not (c == 48)) (list_all is_digit (c ∷ (d ∷ word))) is) same);
}

-- and the other way round
numeral : (word : List ℕ) → IsPlain word → is_numeral word ≡ true
numeral [] h = absurd (omega (arith, h.some))
numeral (c ∷ []) h = left_holds (is_digit c) true h.digits
numeral (c ∷ (d ∷ word)) h =
    let other : (c == 48) ≡ false = false_from_ne_true (c == 48) (λ (same : (c == 48) ≡ true). absurd (omega (arith, h.lead (eqb-true c 48 same)))) in
    rw (other, h.digits) refl

-- what `decimal` writes has no leading zero
decimal_plain : (n : ℕ) → n < 2 ^ 64 → IsPlain (decimal n)
decimal_plain zero small = rw (decimal_digit 0 (lit< tt)) (record { digits = refl; some = omega arith; lead = λ _. refl })
decimal_plain (suc n) small = record {
  digits = digits_decimal digits (suc n) small;
  some = decimal_nonempty (suc n) small;
  lead = λ same. absurd (omega (arith, first_decimal (suc n) (omega arith) small, same));
}

-- a number that is read under a test
read_is : (good : Bool) (value n : ℕ) → (if good then Some value else None) ≡ Some n → (good ≡ true) × (value ≡ n)
read_is true value n is = (refl, cc)
read_is false value n is = absurd (cc)

-- a word that is read is the decimal text of its number
is_decimal : (most n : ℕ) (word : List ℕ) → most < 2 ^ 64 → number_of most word ≡ Some n → (word ≡ decimal n) × (n ≤ most)
unfolding number_of
is_decimal most n word small is =
    let value = value_after 0 word in
    let read = read_is (is_numeral word && nat_le value most) value n is in
    let form = plain word (left_holds (is_numeral word) (nat_le value most) read.0) in
    let few : value ≤ most = leb-true value most (right_holds (is_numeral word) (nat_le value most) read.0) in
    let same : decimal value ≡ word = decimal-digits_value digits word form.digits form.some form.lead (omega (arith, few)) in
    (sym same ∙ ap decimal read.1, omega (arith, few, read.1))

-- a decimal text is read as its number
from_decimal : (most n : ℕ) → most < 2 ^ 64 → n ≤ most → number_of most (decimal n) ≡ Some n
unfolding number_of
from_decimal most n small few =
    let below : n < 2 ^ 64 = omega arith in
    let value : value_after 0 (decimal n) ≡ n = digits_value-decimal digits n below in
    let form : is_numeral (decimal n) ≡ true = numeral (decimal n) (decimal_plain n below) in
    let fits : nat_le n most ≡ true = le-leb n most few in
    rw (form, value, fits) refl

-- both together
pub number_is_decimal : (most n : ℕ) (word : List ℕ) → most < 2 ^ 64 → (number_of most word ≡ Some n) ↔ ((word ≡ decimal n) × (n ≤ most))
number_is_decimal most n word small =
    (is_decimal most n word small, λ is. ap (number_of most) is.0 ∙ from_decimal most n small is.1)
