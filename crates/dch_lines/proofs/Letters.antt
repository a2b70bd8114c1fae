-- A text that was judged reads without an error.
use Rattle.std.proofs.Common.{◌≡◌, ◌<◌, ◌≤◌, ℕ, List, [], Bool, true, false, ◌∷◌, length, get_or, arith, refl, Option, None, Some}
use Rattle.std.specs.Prelude.{◌==◌, ◌||◌, ◌&&◌, not, Ok, Err, position, nat_le, nat_lt, codes}
use Rattle.std.specs.List.{list_all}
use Rattle.std.specs.Str.{bytes_eq}
use Rattle.std.proofs.lemmas.List.Folds.{list_all_at}
use Rattle.std.proofs.lemmas.List.Quantifiers.{position-Some}
use Rattle.std.proofs.lemmas.Bool.Decides.{nat_tests}
use Rattle.dch_bits.specs.declared.text.BitsError.{BitsError}
use Rattle.dch_bits.specs.Text.{is_no_bit, is_no_cell, unless_bad, reading}
use Rattle.dch_script.specs.Code.{is_bits}
use Rattle.dch_script.specs.Texts.{is_cells, is_word_of_bits}
use Rattle.dch_lines.specs.Texts.{bits_of, cells_of}

-- a letter is 0 or 1, or else it is none
no_bit : (a b : Bool) → (a || b) ≡ true → (not a && not b) ≡ true → ⊥
no_bit true b h k = cc
no_bit false true h k = cc
no_bit false false h k = cc

no_cell : (a b c : Bool) → (a || (b || c)) ≡ true → ((not a && not b) && not c) ≡ true → ⊥
no_cell true b c h k = cc
no_cell false true c h k = cc
no_cell false false true h k = cc
no_cell false false false h k = cc

-- where a test finds no other letter
letters_read : (good test : ℕ → Bool) → ((c : ℕ) → good c ≡ true → test c ≡ true → ⊥) → (text : List ℕ) (r : Option ℕ) → list_all good text ≡ true → position test text ≡ r
    → unless_bad r (length text) ≡ Ok (length text)
letters_read good test apart text None all e = refl
letters_read good test apart text (Some at) all e =
    let found = position-Some test text at 0 e in
    absurd (one (good (get_or text at 0)) refl found)
  where
    one : (b : Bool) → good (get_or text at 0) ≡ b → (at < length text) × (test (get_or text at 0) ≡ true) × ((k : ℕ) → k < at → test (get_or text k 0) ≡ false) → ⊥
    one true same found = apart (get_or text at 0) same found.1
    one false same found = let none : list_all good text ≡ false = list_all_at good text at 0 found.0 same in cc

reads : (good test : ℕ → Bool) → ((c : ℕ) → good c ≡ true → test c ≡ true → ⊥) → (text : List ℕ) (room : ℕ) → length text ≤ room → list_all good text ≡ true
    → reading test text room ≡ Ok (length text)
reads good test apart text room fits all =
    let short : nat_lt room (length text) ≡ false = grind (arith, nat_tests) in
    rw short (letters_read good test apart text (position test text) all refl)

abbrev is_bit : ℕ → Bool
is_bit c = c == 48 || c == 49

abbrev is_cell : ℕ → Bool
is_cell c = c == 48 || (c == 49 || c == 45)

both : (a b : Bool) → (a && b) ≡ true → (a ≡ true) × (b ≡ true)
both true true h = (refl, refl)
both true false h = cc
both false b h = cc

-- the TFCI bits are read
pub tfci_long : (text : List ℕ) (room : ℕ) → is_word_of_bits room text ≡ true → length text ≡ room
unfolding is_word_of_bits
tfci_long text room good =
    let tests = both (length text == room) (list_all is_bit text) good in
    let all : (length text == room) ≡ true = tests.0 in
    grind (arith, nat_tests)

tfci_reads : (text : List ℕ) (room : ℕ) → is_word_of_bits room text ≡ true → reading is_no_bit text room ≡ Ok (length text)
unfolding is_word_of_bits
tfci_reads text room good =
    let tests = both (length text == room) (list_all is_bit text) good in
    let long : length text ≡ room = tfci_long text room good in
    reads is_bit is_no_bit (λ c. no_bit (c == 48) (c == 49)) text room (omega (arith, long)) tests.1

pub tfci_read : (text : List ℕ) (room : ℕ) (error : BitsError) → is_word_of_bits room text ≡ true → Err error ≡ reading is_no_bit text room → ⊥
tfci_read text room error good answer = let read : reading is_no_bit text room ≡ Ok (length text) = tfci_reads text room good in cc

pub tfci_count : (text : List ℕ) (room count : ℕ) → is_word_of_bits room text ≡ true → Ok count ≡ reading is_no_bit text room → count ≡ room
tfci_count text room count good answer =
    let read : reading is_no_bit text room ≡ Ok (length text) = tfci_reads text room good in
    let long : length text ≡ room = tfci_long text room good in
    let same : count ≡ length text = cc in
    omega (arith, same, long)

-- the letters of a text of so many at most, where it is no dot
letters_in : (good : ℕ → Bool) (text : List ℕ) (room : ℕ) → bytes_eq text (codes ".") ≡ false → (bytes_eq text (codes ".") || (nat_lt 0 (length text) && (nat_le (length text) room && list_all good text))) ≡ true
    → (length text ≤ room) × (list_all good text ≡ true)
letters_in good text room other is =
    let tests = both (nat_lt 0 (length text)) (nat_le (length text) room && list_all good text) (rw other at is) in
    let more = both (nat_le (length text) room) (list_all good text) tests.1 in
    let small : nat_le (length text) room ≡ true = more.0 in
    (grind (arith, nat_tests), more.1)

-- the bits of a unit are read
pub bits_unread : (text : List ℕ) (room : ℕ) (error : BitsError) → is_bits room text ≡ true → Err error ≡ reading is_no_bit text room → [] ≡ bits_of text
unfolding bits_of
bits_unread text room error good answer = cases (bytes_eq text (codes ".")) refl
  where
    cases : (b : Bool) → bytes_eq text (codes ".") ≡ b → [] ≡ bits_of text
    cases true same = rw same refl
    cases false other =
        let letters = letters_in is_bit text room other good in
        let read : reading is_no_bit text room ≡ Ok (length text) = reads is_bit is_no_bit (λ c. no_bit (c == 48) (c == 49)) text room letters.0 letters.1 in
        cc

-- the cells are read
pub cells_unread : (text : List ℕ) (room : ℕ) (error : BitsError) → is_cells room text ≡ true → Err error ≡ reading is_no_cell text room → [] ≡ cells_of text
unfolding cells_of is_cells
cells_unread text room error good answer = cases (bytes_eq text (codes ".")) refl
  where
    cases : (b : Bool) → bytes_eq text (codes ".") ≡ b → [] ≡ cells_of text
    cases true same = rw same refl
    cases false other =
        let letters = letters_in is_cell text room other good in
        let read : reading is_no_cell text room ≡ Ok (length text) = reads is_cell is_no_cell (λ c. no_cell (c == 48) (c == 49) (c == 45)) text room letters.0 letters.1 in
        cc

-- letters of bits are letters of cells
letters_more : (good more : ℕ → Bool) → ((c : ℕ) → good c ≡ true → more c ≡ true) → (text : List ℕ) → list_all good text ≡ true → list_all more text ≡ true
letters_more good more on [] all = refl
letters_more good more on (c ∷ text) all =
    let parts = both (good c) (list_all good text) all in
    rw (on c parts.0, letters_more good more on text parts.1) refl

pub bits_are_cells : (text : List ℕ) (room : ℕ) → is_bits room text ≡ true → is_cells room text ≡ true
unfolding is_cells
bits_are_cells text room good = cases (bytes_eq text (codes ".")) refl
  where
    on : (a b c : Bool) → (a || b) ≡ true → (a || (b || c)) ≡ true
    on true b c h = refl
    on false true c h = refl
    on false false c h = cc

    cases : (b : Bool) → bytes_eq text (codes ".") ≡ b → is_cells room text ≡ true
    cases true same = rw same refl
    cases false other =
        let tests = both (nat_lt 0 (length text)) (nat_le (length text) room && list_all is_bit text) (rw other at good) in
        let more = both (nat_le (length text) room) (list_all is_bit text) tests.1 in
        rw (other, tests.0, more.0, letters_more is_bit is_cell (λ c. on (c == 48) (c == 49) (c == 45)) text more.1) refl
