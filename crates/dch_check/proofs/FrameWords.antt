-- The radio frame that a word names.
use Rattle.std.proofs.Common.{◌≡◌, ◌∙◌, ◌%◌, ◌≤◌, ℕ, List, None, Some, sym, subst, lit<}
use Rattle.dch_script.specs.Numbers.{number_of}
use Rattle.dch_script.proofs.Decimals.{number_is_decimal}
use Rattle.dch_check.specs.Both.{IsChangeFrame}

-- a number that is read, where it may be that of a frame
pub frame_named : (word : List ℕ) (frame : ℕ) → Some frame ≡ number_of 100000 word → 8 ≤ frame → frame % 8 ≡ 0 → IsChangeFrame word frame
frame_named word frame read least whole =
    let is = (number_is_decimal 100000 frame word (lit< tt)).0 (sym read) in
    record { text = is.0; least = least; most = is.1; whole = whole }

-- a frame is read where it is named
frame_read : (word : List ℕ) (frame : ℕ) → IsChangeFrame word frame → number_of 100000 word ≡ Some frame
frame_read word frame is = (number_is_decimal 100000 frame word (lit< tt)).1 (is.text, is.most)

-- no frame is named where another number is read, or none
pub other_number : (word : List ℕ) (number : ℕ) → Some number ≡ number_of 100000 word → (8 ≤ number → number % 8 ≡ 0 → ⊥) → (frame : ℕ) → IsChangeFrame word frame → ⊥
other_number word number read bad frame is =
    let both : Some number ≡ Some frame = read ∙ frame_read word frame is in
    let same : frame ≡ number = cc in
    bad (subst (λ n. 8 ≤ n) same is.least) (subst (λ n. n % 8 ≡ 0) same is.whole)

pub no_number : (word : List ℕ) → None ≡ number_of 100000 word → (frame : ℕ) → IsChangeFrame word frame → ⊥
no_number word none frame is = let both : None ≡ Some frame = none ∙ frame_read word frame is in cc
