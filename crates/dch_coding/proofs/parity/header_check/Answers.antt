use Rattle.std.proofs.Common.{◌≡◌, ◌+◌, ◌-◌, ◌/◌, ◌%◌, ◌^◌, ◌≤◌, ◌++◌, ◌∷◌, [], ℕ, List, length, take, drop, get_or, map, replicate, arith, ap, ap₂, sym, subst, ◌∙◌, append_assoc}
use Rattle.std.specs.List.{range_with_len}
use Rattle.std.proofs.Math.Seq.{drop-append_seam}
use Rattle.std.proofs.lemmas.List.{length-drop, take_all}
use Rattle.dch_bits.specs.declared.bit.Bit.{Bit}
use Rattle.dch_bits.specs.declared.bit.Bit.TheVariants.{Zero}
use Rattle.dch_bits.specs.Bits.{bit_of_number}
use Rattle.dch_bits.specs.Octets.{bit_of_octets}
use Rattle.dch_coding.specs.Parity.{header_polynomial, bits_of_octets}
use Rattle.dch_coding.specs.Register.{lowest_bits, HoldsParity}
use Rattle.dch_coding.proofs.Aligned.{narrowed}
use Rattle.dch_coding.proofs.Attached.{checked, header_terms}
use Rattle.dch_coding.proofs.Gathered.{bits_behind, bits_of_octets-parts, octet_more}
use Rattle.dch_coding.proofs.Registers.{length-lowest_bits, lowest_bits-zero}
use Rattle.dch_coding.proofs.Tables.{fewer_zeros}
use Rattle.dch_coding.proofs.parity.header_check.Goals as goal

-- the bits of octets after the first seven
behind_seven : (octets : List ℕ) → 1 ≤ length octets → drop 7 (bits_of_octets octets) ≡ bit_of_number (get_or octets 0 0 % 2) ∷ bits_of_octets (drop 1 octets)
behind_seven octets some =
    let o : ℕ = get_or octets 0 0 in
    let front : List Bit = lowest_bits 7 (o / 2) in
    let first : map (bit_of_octets octets) (range_with_len 0 8) ≡ lowest_bits 8 o = octet_more octets 0 in
    let rest : List Bit = bit_of_number (o % 2) ∷ bits_of_octets (drop 1 octets) in
    let whole : bits_of_octets octets ≡ front ++ rest =
    sym (bits_of_octets-parts octets 1 some) ∙ ap (λ xs. xs ++ bits_of_octets (drop 1 octets)) (first ∙ bits_behind 7 o) ∙ append_assoc front (bit_of_number (o % 2) ∷ []) (bits_of_octets (drop 1 octets)) in
    ap (drop 7) whole ∙ ap (λ n. drop n (front ++ rest)) (sym (length-lowest_bits 7 (o / 2))) ∙ drop-append_seam front rest

pub returns-clause-check : goal.returns-clause-check
returns-clause-check c =
    let octets : List ℕ = c.args.octets.now in
    let o : ℕ = get_or octets 0 0 in
    let block : List Bit = drop 7 (bits_of_octets octets) in
    let register : ℕ = c.parity_of_octets.result in
    let terms : ℕ = 2315255808 in
    let rest : take (length octets - 1) (drop 1 octets) ≡ drop 1 octets = take_all (length octets - 1) (drop 1 octets) (omega (arith, length-drop 1 octets)) in
    let none : o % 2 / 2 ≡ 0 = omega arith in
    let same : o % 2 % 2 ≡ o % 2 = omega arith in
    let bits : lowest_bits 8 (o % 2) ++ bits_of_octets (drop 1 octets) ≡ replicate 7 Zero ++ block =
    ap (λ xs. xs ++ bits_of_octets (drop 1 octets)) (bits_behind 7 (o % 2) ∙ ap₂ (λ m b. lowest_bits 7 m ++ bit_of_number b ∷ []) none same ∙ ap (λ xs. xs ++ bit_of_number (o % 2) ∷ []) (lowest_bits-zero 7))
    ∙ append_assoc (replicate 7 Zero) (bit_of_number (o % 2) ∷ []) (bits_of_octets (drop 1 octets)) ∙ ap (λ xs. replicate 7 Zero ++ xs) (sym (behind_seven octets c.requires)) in
    let held : HoldsParity 32 (2 ^ 32 + terms) block register =
    fewer_zeros terms 7 register (lowest_bits 8 (o % 2) ++ bits_of_octets (drop 1 octets)) block (omega arith) bits
    (subst (λ xs. HoldsParity 32 (2 ^ 32 + terms) (lowest_bits 8 (o % 2) ++ bits_of_octets xs) register) rest (c.parity_of_octets.ensures terms (omega arith) c.header_words.ensures)) in
    let low : HoldsParity 7 197 block (register / 2 ^ 25) = narrowed 7 25 197 terms register block (omega arith) (omega arith) held in
    checked header_polynomial 7 197 (register / 2 ^ 25) block header_terms low
