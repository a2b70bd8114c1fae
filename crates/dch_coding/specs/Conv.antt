-- The convolutional codes of TS 25.212, section 4.2.3.1: constraint length 9, rates 1/2 and 1/3.
use Rattle.std.specs.Prelude.{◌+◌, ◌-◌, ◌*◌, ◌/◌, ◌%◌, ℕ, List, [], ◌∷◌, if◌then◌else◌, nat_le, map, sum_by, length, slice_index_or}
use Rattle.std.specs.List.{range_with_len}
use Rattle.dch_bits.specs.declared.bit.Bit.{Bit}
use Rattle.dch_bits.specs.declared.bit.Bit.TheVariants.{Zero}
use Rattle.dch_bits.specs.Bits.{bit_of_number, number_of}
use Rattle.dch_coding.specs.declared.rate.Rate.{Rate}
use Rattle.dch_coding.specs.declared.rate.Rate.TheVariants.{Half, Third}

-- how many coded bits there are for each input
abbrev pub outputs : Rate → ℕ
outputs Half = 2
outputs Third = 3

-- the taps of generator t, as distances back from the current input: octal 561, 753 and 557, 663, 711
abbrev pub taps : Rate → ℕ → List ℕ
taps Half t = if nat_le t 0 then 0 ∷ 2 ∷ 3 ∷ 4 ∷ 8 ∷ [] else 0 ∷ 1 ∷ 2 ∷ 3 ∷ 5 ∷ 7 ∷ 8 ∷ []
taps Third t = if nat_le t 0 then 0 ∷ 2 ∷ 3 ∷ 5 ∷ 6 ∷ 7 ∷ 8 ∷ []
    else (if nat_le t 1 then 0 ∷ 1 ∷ 3 ∷ 4 ∷ 7 ∷ 8 ∷ [] else 0 ∷ 1 ∷ 2 ∷ 5 ∷ 8 ∷ [])

-- the bit at a place of the block as a number; 0 past its end, where the tail stands
abbrev pub bit_at : List Bit → ℕ → ℕ
bit_at block i = number_of (slice_index_or block i Zero)

-- the input d steps before step k; 0 before the first step
abbrev pub input : List Bit → ℕ → ℕ → ℕ
input block k d = if nat_le d k then bit_at block (k - d) else 0

-- coded bit t of step k as a number: the sum of the inputs at the taps, modulo 2
abbrev pub coded : Rate → List Bit → ℕ → ℕ → ℕ
coded rate block k t = sum_by (input block k) (taps rate t) % 2

-- the number of coded bits of a block of k bits, which eight tail bits follow
abbrev pub coded_length : Rate → ℕ → ℕ
coded_length rate k = outputs rate * (k + 8)

-- coded bit i: the outputs of each step stand side by side, in the order of the generators
abbrev pub coded_bit : Rate → List Bit → ℕ → Bit
coded_bit rate block i = bit_of_number (coded rate block (i / outputs rate) (i % outputs rate))

-- the coded bits of a block
unfoldable pub encoded : Rate → List Bit → List Bit
encoded rate block = map (coded_bit rate block) (range_with_len 0 (coded_length rate (length block)))
