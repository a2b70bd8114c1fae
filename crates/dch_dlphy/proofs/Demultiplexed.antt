-- What is read of a TTI.
use Rattle.std.proofs.Common.{◌≡◌, ◌<◌, ◌≤◌, ℕ, List, length, take, get_or, arith, ap, ◌∙◌}
use Rattle.std.specs.Prelude.{◌++◌}
use Rattle.std.proofs.lemmas.List.{get_or-take, length-append, length-take, length-take-le, take-append-le, take-take}
use Rattle.dch_bits.specs.declared.bit.Trit.{Trit}
use Rattle.dch_bits.specs.declared.bit.Trit.TheVariants.{Off}
use Rattle.dch_frame.specs.declared.pattern.Pattern.{Pattern}
use Rattle.dch_frame.specs.Patterns.{copies_below}
use Rattle.dch_accept.specs.Plans.{Planned}
use Rattle.dch_tti.specs.RxFrames.{RxFrames}
use Rattle.dch_dlphy.specs.Loaded.{tti_cells}
use Rattle.dch_dlphy.specs.Read.{AreKeptCells, tti_cell, tti_pattern}

-- the front of a TTI, as far as bits are kept
pub kept_cells : (planned : Planned) (reader : RxFrames) (i f kept : ℕ) (pattern : Pattern) (rx_frames : List Trit) → pattern ≡ tti_pattern planned i f → kept ≡ copies_below pattern.kind pattern.len → length rx_frames ≡ tti_cells planned i f → kept ≤ length rx_frames
    → ((p : ℕ) → p < length rx_frames → get_or rx_frames p Off ≡ tti_cell planned reader i (length rx_frames) p) → AreKeptCells planned reader i f (take kept rx_frames)
kept_cells planned reader i f kept pattern rx_frames same is long fits cells =
    let front : length (take kept rx_frames) ≡ kept = length-take-le kept rx_frames fits in
    record {
      kept = front ∙ is ∙ ap (λ (pattern : Pattern). copies_below pattern.kind pattern.len) same;
      are = λ p inside.
          get_or-take kept rx_frames p Off (omega (arith, front, inside))
          ∙ cells p (omega (arith, front, inside, fits))
          ∙ ap (λ len. tti_cell planned reader i len p) long;
    }

-- the front of what was written to the front of a room
pub read_back : {X : Type 0} (k len : ℕ) (all xs ys zs : List X) → all ≡ take len ((xs ++ ys) ++ zs) → k ≤ length xs → k ≤ length all → take k all ≡ take k xs
read_back k len all xs ys zs same fits inside =
    ap (take k) same
    ∙ take-take k len ((xs ++ ys) ++ zs) (omega (arith, inside, ap length same, length-take len ((xs ++ ys) ++ zs)))
    ∙ take-append-le k (xs ++ ys) zs (omega (arith, fits, length-append xs ys))
    ∙ take-append-le k xs ys fits
