-- A line at the front of some bytes, and what follows it.
use Rattle.std.proofs.Common.{◌≡◌, ◌∙◌, ◌+◌, ◌-◌, ◌≤◌, ℕ, List, [], true, false, None, Some, length, take, drop, nat_lt, cond, ap, sym, ⊎_elim, length-drop, arith}
use Rattle.std.specs.Prelude.{position}
use Rattle.std.specs.List.{before_first, after_first, position_or_len}
use Rattle.std.proofs.lemmas.Bool.{cases_Bool, ltb-false}
use Rattle.std.proofs.lemmas.List.{drop_all, take_all}
use Rattle.std.proofs.lemmas.List.Quantifiers.{position-Some}
use Rattle.std.proofs.lemmas.List.Sums.{position_or_len_is}
use Rattle.dch_check.specs.Both.{is_feed}

place_is : (bytes : List ℕ) (at : ℕ) → position is_feed bytes ≡ Some at → position_or_len is_feed bytes ≡ at
place_is bytes at found =
    let first = position-Some is_feed bytes at 0 found in
    position_or_len_is is_feed bytes at 0 (omega (arith, first.0)) first.2 (λ inside. first.1)

-- where a line feed is
pub line_at : (bytes : List ℕ) (at : ℕ) → Some at ≡ position is_feed bytes → take at bytes ≡ before_first is_feed bytes
line_at bytes at found = ap (λ n. take n bytes) (sym (place_is bytes at (sym found)))

pub rest_at : (bytes : List ℕ) (at : ℕ) → Some at ≡ position is_feed bytes → take (length bytes - (at + 1)) (drop (at + 1) bytes) ≡ after_first is_feed bytes
rest_at bytes at found =
    take_all (length bytes - (at + 1)) (drop (at + 1) bytes) (omega (arith, length-drop (at + 1) bytes))
    ∙ ap (λ n. drop (n + 1) bytes) (sym (place_is bytes at (sym found)))

-- and where there is none
no_place : (bytes : List ℕ) → None ≡ position is_feed bytes → length bytes ≤ position_or_len is_feed bytes
no_place bytes none =
    ⊎_elim
    (λ (here : nat_lt (position_or_len is_feed bytes) (length bytes) ≡ true).
    let some : position is_feed bytes ≡ Some (position_or_len is_feed bytes) = ap (λ b. cond b (Some (position_or_len is_feed bytes)) None) here in
    let no : None ≡ Some (position_or_len is_feed bytes) = none ∙ some in
    absurd (cc))
    (λ (past : nat_lt (position_or_len is_feed bytes) (length bytes) ≡ false). ltb-false (position_or_len is_feed bytes) (length bytes) past)
    (cases_Bool (nat_lt (position_or_len is_feed bytes) (length bytes)))

pub line_all : (bytes : List ℕ) → None ≡ position is_feed bytes → bytes ≡ before_first is_feed bytes
line_all bytes none = sym (take_all (position_or_len is_feed bytes) bytes (no_place bytes none))

pub rest_none : (bytes : List ℕ) → None ≡ position is_feed bytes → [] ≡ after_first is_feed bytes
rest_none bytes none =
    let past : length bytes ≤ position_or_len is_feed bytes = no_place bytes none in
    sym (drop_all (position_or_len is_feed bytes + 1) bytes (omega (arith, past)))
