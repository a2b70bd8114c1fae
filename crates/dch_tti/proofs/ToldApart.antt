-- Code blocks that are not sent alike are told apart by a copy at least.
use Rattle.std.proofs.Common.{◌≡◌, ◌+◌, ◌*◌, ◌<◌, ◌≤◌, ◌⊎◌, ◌∙◌, ℕ, zero, suc, List, [], ◌∷◌, length, get_or, arith, refl, ap, sym, inl, inr}
use Rattle.dch_bits.specs.declared.bit.Bit.{Bit}
use Rattle.dch_bits.specs.declared.bit.Bit.TheVariants.{Zero, One}
use Rattle.dch_bits.specs.Bits.{number_of, plus}
use Rattle.dch_types.specs.declared.channel.Coding.{Coding}
use Rattle.dch_types.specs.Lengths.{coded_block}
use Rattle.dch_coding.specs.Chain.{coded_as}
use Rattle.dch_trellis.specs.Distance.{AreToldApart, copies_between}
use Rattle.dch_accept.specs.Collisions.{NoneCollide}
use Rattle.dch_tti.proofs.Blocks.{length-coded_as}

-- bits between which there is no copy are the same where there is one
same_bit : (n rest : ℕ) (x y : Bit) → n * number_of (plus x y) + rest ≡ 0 → 0 < n → x ≡ y
same_bit n rest Zero Zero none some = refl
same_bit n rest Zero One none some = absurd (omega arith)
same_bit n rest One Zero none some = absurd (omega arith)
same_bit n rest One One none some = refl

agreed : (sent : ℕ → ℕ) (xs ys : List Bit) → length xs ≡ length ys → copies_between sent xs ys ≡ 0 → (t : ℕ) → t < length xs → 0 < sent t → get_or xs t Zero ≡ get_or ys t Zero
agreed sent [] ys long none t within some = absurd (omega arith)
agreed sent (x ∷ xs) [] long none t within some = absurd (omega arith)
agreed sent (x ∷ xs) (y ∷ ys) long none zero within some = same_bit (sent 0) (copies_between (λ j. sent (suc j)) xs ys) x y none some
agreed sent (x ∷ xs) (y ∷ ys) long none (suc t) within some = agreed (λ j. sent (suc j)) xs ys (omega arith) (omega (arith, none)) t (omega arith) some

none_or_some : (n : ℕ) → (n ≡ 0) ⊎ (1 ≤ n)
none_or_some zero = inl refl
none_or_some (suc n) = inr (omega arith)

pub told_apart : (coding : Coding) (size filler : ℕ) (sent : ℕ → ℕ) → NoneCollide coding size filler sent → AreToldApart (coded_as coding) size filler sent 1
told_apart coding size filler sent none a b first second differ = elim (none_or_some (copies_between sent (coded_as coding a) (coded_as coding b))) [
  | inr some ↦ some
  | inl alike ↦
      let long : length (coded_as coding a) ≡ coded_block coding size = length-coded_as coding a ∙ ap (coded_block coding) first.sized in
      let longer : length (coded_as coding b) ≡ coded_block coding size = length-coded_as coding b ∙ ap (coded_block coding) second.sized in
      absurd (none a b (record {
        first = first;
        second = second;
        differ = differ;
        agree = λ t within some. agreed sent (coded_as coding a) (coded_as coding b) (long ∙ sym longer) alike t (omega (arith, within, long)) some;
      }))
]
