-- The parity of each word of a table, computed bit by bit.
use Rattle.std.proofs.Common.{◌≡◌, ◌+◌, ◌*◌, ◌/◌, ◌%◌, ◌^◌, ◌<◌, ℕ, zero, suc, List, [], ◌∷◌, ◌++◌, map, arith, refl, ap, sym, subst, ◌∙◌}
use Rattle.std.specs.Int.Bits.{bit_xor}
use Rattle.std.specs.List.{range_with_len}
use Rattle.std.proofs.lemmas.List.FromFn.{get_or-map-range_with_len}
use Rattle.std.proofs.lemmas.Nat.{xor_lt}
use Rattle.dch_bits.specs.declared.bit.Bit.{Bit}
use Rattle.dch_types.specs.declared.channel.Crc.TheVariants.{C0, C8, C12, C16, C24}
use Rattle.dch_bits.specs.Bits.{bit_of_number}
use Rattle.dch_bits.proofs.Places.{number_of-bit_of_number}
use Rattle.dch_coding.specs.Register.{lowest_bits, HoldsParity, HoldsWord, AreWords, aligned_terms, word_at}
use Rattle.dch_coding.specs.declared.crc_words.TheConstants.{NO_CRC, CRC8, CRC12, CRC16, CRC24}
use Rattle.dch_coding.specs.declared.iub_words.TheConstants.{HEADER, PAYLOAD}
use Rattle.dch_coding.proofs.Aligned.{step_one, step_zero}
use Rattle.dch_coding.proofs.Gathered.{bits_behind}
use Rattle.dch_coding.proofs.Registers.{holds_none}
use Rattle.dch_coding.proofs.Tables.{first_term}

-- a register with an input bit at its top, moved up by a place
abbrev moved : ℕ → ℕ → ℕ → ℕ
moved terms zero raised = raised * 2 % 2 ^ 32
moved terms (suc top) raised = bit_xor (raised * 2 % 2 ^ 32) terms

abbrev after : ℕ → ℕ → ℕ
after terms raised = moved terms (raised / 2 ^ 31) raised

-- the parity of so many of the lowest bits of a number
abbrev pub parity_of : ℕ → ℕ → ℕ → ℕ
parity_of terms zero n = 0
parity_of terms (suc count) n = after terms (bit_xor (parity_of terms count (n / 2)) (n % 2 * 2 ^ 31))

holds_moved : (terms register b raised top : ℕ) (a : List Bit) → terms < 2 ^ 32 → b < 2 → raised ≡ bit_xor register (b * 2 ^ 31) → raised < 2 ^ 32 → raised / 2 ^ 31 ≡ top
    → HoldsParity 32 (2 ^ 32 + terms) a register → HoldsParity 32 (2 ^ 32 + terms) (a ++ bit_of_number b ∷ []) (moved terms top raised)
holds_moved terms register b raised zero a small bit is fits top known =
    step_zero terms register raised (bit_of_number b) a small (omega arith) (is ∙ ap (λ n. bit_xor register (n * 2 ^ 31)) (sym (number_of-bit_of_number b bit))) known
holds_moved terms register b raised (suc zero) a small bit is fits top known =
    step_one terms register raised (bit_of_number b) a small fits (is ∙ ap (λ n. bit_xor register (n * 2 ^ 31)) (sym (number_of-bit_of_number b bit))) top known
holds_moved terms register b raised (suc (suc t)) a small bit is fits top known = absurd (omega arith)

holds_parity_of : (terms : ℕ) → terms < 2 ^ 32 → (count n : ℕ) → HoldsParity 32 (2 ^ 32 + terms) (lowest_bits count n) (parity_of terms count n)
unfolding lowest_bits
holds_parity_of terms small zero n = holds_none 32 (2 ^ 32 + terms) (first_term terms small)
holds_parity_of terms small (suc count) n =
    let register : ℕ = parity_of terms count (n / 2) in
    let b : ℕ = n % 2 in
    let raised : ℕ = bit_xor register (b * 2 ^ 31) in
    let before : HoldsParity 32 (2 ^ 32 + terms) (lowest_bits count (n / 2)) register = holds_parity_of terms small count (n / 2) in
    let fits : raised < 2 ^ 32 = xor_lt 32 register (b * 2 ^ 31) before.small (omega arith) in
    subst (λ bits. HoldsParity 32 (2 ^ 32 + terms) bits (after terms raised)) (sym (bits_behind count n))
    (holds_moved terms register b raised (raised / 2 ^ 31) (lowest_bits count (n / 2)) small (omega arith) refl fits refl before)

-- a table of these parities
abbrev computed : ℕ → List ℕ
computed terms = map (λ k. parity_of terms 32 (word_at k)) (range_with_len 0 1024)

are_words : (terms : ℕ) (words : List ℕ) → terms < 2 ^ 32 → words ≡ computed terms → AreWords terms words 1024
are_words terms words small is =
    subst (λ words. AreWords terms words 1024) (sym is)
    (λ k inside. subst (λ r. HoldsWord terms (word_at k) r) (sym (get_or-map-range_with_len (λ k. parity_of terms 32 (word_at k)) 0 1024 k k 0 inside (omega arith)))
    (holds_parity_of terms small 32 (word_at k)))

pub header_words : AreWords 2315255808 HEADER 1024
header_words = are_words 2315255808 HEADER (omega arith) refl

pub payload_words : AreWords 2147811328 PAYLOAD 1024
payload_words = are_words 2147811328 PAYLOAD (omega arith) refl

pub no_crc_words : AreWords (aligned_terms C0) NO_CRC 1024
no_crc_words = are_words (aligned_terms C0) NO_CRC (omega arith) refl

pub crc8_words : AreWords (aligned_terms C8) CRC8 1024
crc8_words = are_words (aligned_terms C8) CRC8 (omega arith) refl

pub crc12_words : AreWords (aligned_terms C12) CRC12 1024
crc12_words = are_words (aligned_terms C12) CRC12 (omega arith) refl

pub crc16_words : AreWords (aligned_terms C16) CRC16 1024
crc16_words = are_words (aligned_terms C16) CRC16 (omega arith) refl

pub crc24_words : AreWords (aligned_terms C24) CRC24 1024
crc24_words = are_words (aligned_terms C24) CRC24 (omega arith) refl
