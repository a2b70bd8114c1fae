-- The radio frames of a TTI one after another.
use Rattle.std.proofs.Common.{◌≡◌, ◌+◌, ◌-◌, ◌*◌, ◌/◌, ◌%◌, ◌<◌, ◌≤◌, ℕ, List, length, get_or, arith, ap, ◌∙◌, inl, inr, refl}
use borrow.Rule.Slice.PartMut.{put_mid}
use Rattle.std.proofs.lemmas.Bool.{cases_lt}
use Rattle.dch_bits.specs.declared.bit.Trit.{Trit}
use Rattle.dch_bits.specs.declared.bit.Trit.TheVariants.{Off}
use Rattle.dch_inter.specs.Places.{first_of}
use Rattle.dch_frame.specs.Stages.{segment_place}
use Rattle.dch_frame.proofs.Codes.{part_before, part_here}

-- the first cells show the cells of a TTI after the first interleaver
abbrev pub ShowTti : ℕ → ℕ → List Trit → List Trit → ℕ → Type 0
ShowTti f len tti out n = (k : ℕ) → k < n → get_or out k Off ≡ get_or tti (first_of f len k) Off

-- whole rows
pub whole_rows : (f len : ℕ) → 0 < f → len % f ≡ 0 → len ≡ len / f * f
whole_rows f len some whole = omega arith

-- the cell of a radio frame by its place in the TTI
segment_is : (f len n m : ℕ) → segment_place f len n m ≡ first_of f len (n * (len / f) + m)
unfolding segment_place
segment_is f len n m = refl

-- one radio frame more
pub tti_more : (f rows n w len : ℕ) (tti out new : List Trit) → len / f ≡ rows → n * rows + rows ≤ length out → length new ≡ rows → ((m : ℕ) → m < length new → get_or new m Off ≡ get_or tti (segment_place f len n m) Off) → ShowTti f len tti out (n * rows) → ShowTti f len tti (put_mid (n * rows) w out new) ((n + 1) * rows)
tti_more f rows n w len tti out new height room long fresh before k inside = elim (cases_lt k (n * rows)) [
  | inl early ↦ part_before out new (n * rows) w k Off (omega (arith, room)) early ∙ before k early
  | inr here ↦
      let m : ℕ = k - n * rows in
      let low : m < rows = omega arith in
      let split : n * (len / f) + m ≡ k = rw height (omega arith) in
      part_here out new (n * rows) w k Off (omega (arith, room)) here (omega (arith, low, long))
      ∙ fresh m (omega (arith, low, long))
      ∙ ap (λ place. get_or tti place Off) (segment_is f len n m ∙ ap (first_of f len) split)
]
