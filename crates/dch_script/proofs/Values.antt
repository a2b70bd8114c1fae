-- The value of digits.
use Rattle.std.proofs.Common.{◌≡◌, ◌+◌, ◌-◌, ◌*◌, ◌≤◌, ◌<◌, ℕ, List, [], ◌∷◌, false, None, length, drop, slice_index, arith, refl, ap, sym, ◌∙◌}
use Rattle.std.specs.Prelude.{nat_le}
use Rattle.std.proofs.lemmas.Bool.{lt-leb}
use Rattle.std.proofs.lemmas.List.{drop_more}
use Rattle.std.proofs.Math.Bool.{and-false}
use Rattle.dch_script.specs.Numbers.{is_numeral, number_of, value_after}

-- further digits never make a number less
pub value_grows : (number : ℕ) (word : List ℕ) → number ≤ value_after number word
value_grows number [] = omega arith
value_grows number (c ∷ word) =
    let later : 10 * number + (c - 48) ≤ value_after (10 * number + (c - 48)) word = value_grows (10 * number + (c - 48)) word in
    omega (arith, later)

-- a word whose first digits write too much already
pub too_great : (most number i : ℕ) (word : List ℕ) → i < length word → value_after number (drop i word) ≡ value_after 0 word → most < 10 * number + (slice_index word i - 48) → number_of most word ≡ None
unfolding number_of
too_great most number i word within same more =
    let next = 10 * number + (slice_index word i - 48) in
    let step : value_after next (drop (i + 1) word) ≡ value_after 0 word = sym (ap (value_after number) (drop_more word i 0 within)) ∙ same in
    let grows : next ≤ value_after next (drop (i + 1) word) = value_grows next (drop (i + 1) word) in
    let wrong : nat_le (value_after 0 word) most ≡ false = lt-leb (value_after 0 word) most (omega (arith, step, grows)) in
    rw (wrong, and-false (is_numeral word)) refl
