-- A TTI that was padded and interleaved.
use Rattle.std.proofs.Common.{◌≡◌, ◌<◌, ◌≤◌, ◌+◌, ◌*◌, ◌/◌, ◌%◌, ℕ, List, length, take, get_or, arith, ap, sym, ◌∙◌, subst, inl, inr}
use Rattle.std.proofs.lemmas.List.{get_or-take, length-take-le}
use Rattle.std.proofs.lemmas.Nat.{div_below, div-add-mod', mod_below, mul-add-lt}
use Rattle.std.proofs.Math.Nat.{mod-eq_of_lt, mul-le-mul_right}
use Rattle.std.proofs.lemmas.Bool.{cases_eq}
use Rattle.dch_bits.specs.declared.bit.Bit.{Bit}
use Rattle.dch_bits.specs.declared.bit.Bit.TheVariants.{Zero}
use Rattle.dch_bits.specs.declared.bit.Trit.{Trit}
use Rattle.dch_bits.specs.declared.bit.Trit.TheVariants.{Off}
use Rattle.dch_inter.specs.Places.{first_column, first_of}
use Rattle.dch_types.specs.Limits.{IsFrames}
use Rattle.dch_inter.proofs.FirstColumns.{frame_of_column, frame_of-below}
use Rattle.dch_frame.specs.Stages.{as_cell}
use Rattle.dch_tti.specs.Loaded.{AreInterleaved as AreCellsInterleaved}
use Rattle.dch_types.specs.Lengths.{padded}
use Rattle.dch_ulphy.specs.Loaded.{AreInterleaved}

-- the first interleaver names places of its input
first_of-inside : (f len k : ℕ) → IsFrames f → len % f ≡ 0 → k < len → first_of f len k < len
unfolding first_of
first_of-inside f len k frames divides inside =
    let some : 0 < f = grind arith in
    let rows : ℕ = len / f in
    let whole : len ≡ rows * f = omega (arith, div-add-mod' len f) in
    let n : ℕ = k / rows in
    let high : 0 < rows = elim (cases_eq rows 0) [
      | inl none ↦ absurd (omega (arith, whole, ap (λ r. r * f) none))
      | inr other ↦ omega (arith, other)
    ] in
    let low : n < f = div_below k rows f high (omega (arith, whole, inside)) in
    let most : 1 * f ≤ rows * f = mul-le-mul_right f high in
    let here : n < len = omega (arith, low, most, whole) in
    let column : first_column f n < f = rw (sym (ap (first_column f) (mod-eq_of_lt low)), sym (frame_of_column f len n frames divides here)) (frame_of-below f len n frames divides here) in
    let below : k % rows * f + first_column f n < f * rows = mul-add-lt (k % rows) f (first_column f n) rows (mod_below k rows high) column in
    omega (arith, below, whole)

-- the cells of a padded TTI after the first interleaver
pub padded_is : (f len : ℕ) (coded : List Bit) (out cells : List Trit) → IsFrames f → len ≡ padded (length coded) f → len % f ≡ 0 → len ≤ length out → ((p : ℕ) → p < len → get_or out p Off ≡ as_cell (get_or coded p Zero)) → AreCellsInterleaved f (take len out) cells → AreInterleaved f coded cells
padded_is f len coded out cells frames size divides room shows is =
    let long : length cells ≡ len = is.long ∙ length-take-le len out room in
    record {
      long = long ∙ size;
      shown = λ k inside.
          let there : first_of f (length cells) k < len = subst (λ n. first_of f n k < len) (sym long) (first_of-inside f len k frames divides (omega (arith, inside, long))) in
          is.shown k inside
          ∙ get_or-take len out (first_of f (length cells) k) Off there
          ∙ shows (first_of f (length cells) k) there;
    }
