-- The cells of a TTI before the first interleaver.
use Rattle.std.proofs.Common.{◌≡◌, ◌+◌, ◌-◌, ◌*◌, ◌<◌, ◌≤◌, ℕ, List, length, take, get_or, arith, ap, sym, ◌∙◌, inl, inr, refl}
use Rattle.std.specs.Prelude.{nat_lt, true, false, ◌++◌}
use Rattle.std.proofs.lemmas.Bool.{cases_lt}
use Rattle.std.proofs.lemmas.Bool.Decides.{nat_tests}
use Rattle.std.proofs.lemmas.List.{get_or_append_left, get_or-append_right, get_or-take, get_or_past, length-take, length-take-le}
use Rattle.std.proofs.Math.Seq.{take-append_seam}
use Rattle.dch_bits.specs.declared.bit.Bit.{Bit}
use Rattle.dch_bits.specs.declared.bit.Bit.TheVariants.{Zero}
use Rattle.dch_bits.specs.declared.bit.Trit.{Trit}
use Rattle.dch_bits.specs.declared.bit.Trit.TheVariants.{Off}
use Rattle.dch_frame.specs.declared.pattern.Pattern.{Pattern}
use Rattle.dch_frame.specs.Patterns.{copies_below}
use Rattle.dch_frame.specs.Stages.{as_cell, origin_of}
use Rattle.dch_frame.proofs.KeptBits.{origin_of-inside}
use Rattle.dch_inter.specs.Places.{first_of}
use Rattle.dch_tti.specs.Loaded.{AreInterleaved}
use Rattle.dch_dlphy.specs.Loaded.{AreFilled, filled_cell}

-- a place that rate matching keeps shows its bit
filled_kept : (pattern : Pattern) (coded : List Bit) (p : ℕ) → p < copies_below pattern.kind pattern.len → filled_cell pattern coded p ≡ as_cell (get_or coded (origin_of pattern p) Zero)
unfolding filled_cell
filled_kept pattern coded p inside =
    let test : nat_lt p (copies_below pattern.kind pattern.len) ≡ true = grind (arith, nat_tests) in
    rw test refl

-- and the others nothing
filled_past : (pattern : Pattern) (coded : List Bit) (p : ℕ) → copies_below pattern.kind pattern.len ≤ p → filled_cell pattern coded p ≡ Off
unfolding filled_cell
filled_past pattern coded p past =
    let test : nat_lt p (copies_below pattern.kind pattern.len) ≡ false = grind (arith, nat_tests) in
    rw test refl

-- the kept bits with places in which nothing is sent behind them
pub filled_is : (pattern : Pattern) (coded : List Bit) (shown front rest : List Trit) (p : ℕ) → length front ≡ copies_below pattern.kind pattern.len → length shown ≡ pattern.len → ((k : ℕ) → k < length shown → get_or shown k Off ≡ as_cell (get_or coded k Zero)) → ((k : ℕ) → k < length front → get_or front k Off ≡ get_or shown (origin_of pattern k) Off) → ((k : ℕ) → k < length rest → get_or rest k Off ≡ Off) → p < length front + length rest → get_or (front ++ rest) p Off ≡ filled_cell pattern coded p
filled_is pattern coded shown front rest p kept long shows matches off inside = elim (cases_lt p (length front)) [
  | inl early ↦
      let low : p < copies_below pattern.kind pattern.len = omega (arith, kept, early) in
      let origin : origin_of pattern p < pattern.len = origin_of-inside pattern p low in
      get_or_append_left front rest Off p early
      ∙ matches p early
      ∙ shows (origin_of pattern p) (omega (arith, origin, long))
      ∙ sym (filled_kept pattern coded p low)
  | inr late ↦
      get_or-append_right front rest (length front) p Off refl late
      ∙ off (p - length front) (omega (arith, late, inside))
      ∙ sym (filled_past pattern coded p (omega (arith, kept, late)))
]

-- the first cells of the room are those of the TTI; what stands behind them is not read
filled_front : (pattern : Pattern) (coded : List Bit) (tti : List Trit) (count p : ℕ) → copies_below pattern.kind pattern.len ≤ count → ((p : ℕ) → p < count → get_or tti p Off ≡ filled_cell pattern coded p) → get_or (take count tti) p Off ≡ filled_cell pattern coded p
filled_front pattern coded tti count p fits shown = elim (cases_lt p count) [
  | inl early ↦ get_or-take count tti p Off early ∙ shown p early
  | inr late ↦ get_or_past (take count tti) p Off (omega (arith, late, length-take count tti)) ∙ sym (filled_past pattern coded p (omega (arith, fits, late)))
]

-- a TTI that was filled and interleaved
pub are_filled : (frames places : ℕ) (pattern : Pattern) (coded : List Bit) (tti cells : List Trit) → frames * places ≤ length tti → copies_below pattern.kind pattern.len ≤ frames * places → ((p : ℕ) → p < frames * places → get_or tti p Off ≡ filled_cell pattern coded p) → AreInterleaved frames (take (frames * places) tti) cells → AreFilled frames (record { pattern = pattern; cells = places }) coded cells
are_filled frames places pattern coded tti cells room fits shown is = record {
  long = is.long ∙ length-take-le (frames * places) tti room;
  shown = λ k inside. is.shown k inside ∙ filled_front pattern coded tti (frames * places) (first_of frames (length cells) k) fits shown;
}

-- a TTI in which nothing is sent, where rate matching keeps no bit
pub are_silent : (frames places : ℕ) (pattern : Pattern) (coded : List Bit) (cells : List Trit) → copies_below pattern.kind pattern.len ≡ 0 → length cells ≡ frames * places → ((k : ℕ) → k < frames * places → get_or cells k Off ≡ Off) → AreFilled frames (record { pattern = pattern; cells = places }) coded cells
are_silent frames places pattern coded cells none long off = record {
  long = long;
  shown = λ k inside. off k (omega (arith, long, inside)) ∙ sym (filled_past pattern coded (first_of frames (length cells) k) (omega (arith, none)));
}

-- the front of two lists
pub take_whole : {X : Type 0} (n : ℕ) (xs ys : List X) → length xs ≡ n → take n (xs ++ ys) ≡ xs
take_whole n xs ys long = ap (λ n. take n (xs ++ ys)) (sym long) ∙ take-append_seam xs ys
