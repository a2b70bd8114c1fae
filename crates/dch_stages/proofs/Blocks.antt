-- The bits of the transport blocks that a line gives.
use Rattle.std.proofs.Common.{◌≡◌, ◌<◌, ◌≤◌, ◌*◌, ℕ, List, [], Bool, true, false, length, arith, refl, sym, subst}
use Rattle.std.specs.Prelude.{◌==◌, ◌&&◌, codes, map}
use Rattle.std.specs.Str.{bytes_eq}
use Rattle.std.proofs.Math.Nat.{mul-le-mul_left}
use Rattle.std.proofs.lemmas.Bool.Decides.{nat_tests}
use Rattle.std.proofs.lemmas.Slice.Eq.{bytes_eq-Decides}
use Rattle.dch_bits.specs.Text.{bit_of_letter}
use Rattle.dch_types.specs.declared.channel.Format.{Format}
use Rattle.dch_types.specs.declared.channel.Trch.{Trch}
use Rattle.dch_types.specs.Lengths.{joined_bits, tti_bits}
use Rattle.dch_types.specs.Limits.{IsChannel}
use Rattle.dch_types.specs.Parts.{format_at}
use Rattle.dch_coding.proofs.Lengths.{joined_short}
use Rattle.dch_script.specs.Stages.{is_all_bits}
use Rattle.dch_script.specs.Texts.{is_word_of_bits}
use Rattle.dch_lines.specs.Texts.{bits_of}

pub bits_few : (channel : Trch) (f : ℕ) → IsChannel channel → f < length channel.formats → (format_at channel f).number * (format_at channel f).size ≤ 131072
bits_few channel f good inside =
    let format : Format = format_at channel f in
    let long : joined_bits channel format ≤ tti_bits channel format = joined_short channel format in
    let more : format.number * format.size ≤ joined_bits channel format = mul-le-mul_left format.number (omega arith) in
    omega (arith, long, more, (good.formats f inside).bits)

-- a text of no bit is a dot
pub no_bits : (count : ℕ) (text : List ℕ) → count ≡ 0 → is_all_bits count text ≡ true → bits_of text ≡ []
unfolding is_all_bits bits_of
no_bits count text none good =
    let test : (count == 0) ≡ true = grind (arith, nat_tests, none) in
    let dot : bytes_eq text (codes ".") ≡ true = rw test at good in
    rw dot refl

-- that of some bits is no dot
word_of : (count : ℕ) (text : List ℕ) → 0 < count → is_all_bits count text ≡ true → is_word_of_bits count text ≡ true
unfolding is_all_bits
word_of count text some good = let test : (count == 0) ≡ false = grind (arith, nat_tests, some) in rw test at good

pub word_of_bits : (count n : ℕ) (text : List ℕ) → 0 < count → n ≡ count → is_all_bits count text ≡ true → is_word_of_bits n text ≡ true
word_of_bits count n text some same good = subst (λ n. is_word_of_bits n text ≡ true) (sym same) (word_of count text some good)

and_false : (b : Bool) → (b && false) ≡ true → ⊥
and_false true h = cc
and_false false h = cc

no_dot : (count : ℕ) → is_word_of_bits count (codes ".") ≡ true → ⊥
unfolding is_word_of_bits
no_dot count good = and_false (length (codes ".") == count) good

pub some_bits : (count : ℕ) (text : List ℕ) → 0 < count → is_all_bits count text ≡ true → map bit_of_letter text ≡ bits_of text
unfolding bits_of
some_bits count text some good = cases (bytes_eq text (codes ".")) refl
  where
    cases : (b : Bool) → bytes_eq text (codes ".") ≡ b → map bit_of_letter text ≡ bits_of text
    cases true same = absurd (no_dot count (subst (λ t. is_word_of_bits count t ≡ true) ((bytes_eq-Decides text (codes ".")).0 same) (word_of count text some good)))
    cases false other = rw other refl
