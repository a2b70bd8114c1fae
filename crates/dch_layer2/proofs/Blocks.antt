-- The octets of a PDU as the bits of a block.
use Rattle.std.proofs.Common.{◌≡◌, ◌+◌, ◌*◌, ◌/◌, ◌%◌, ◌<◌, ◌++◌, ◌∙◌, ℕ, zero, suc, List, [], ◌∷◌, Option, Some, None, get_or, length, arith, refl, sym, ap, ap₂, subst}
use Rattle.std.specs.Prelude.{slice_index}
use Rattle.std.proofs.lemmas.List.{same_lists}
use Rattle.dch_bits.specs.declared.bit.Bit.{Bit}
use Rattle.dch_bits.specs.declared.bit.Bit.TheVariants.{Zero, One}
use Rattle.dch_bits.specs.Bits.{number_of}
use Rattle.dch_bits.specs.Octets.{bit_of_octets, octet_bit}
use Rattle.dch_mac.specs.Field.{Names, field_bits, field_of}
use Rattle.dch_layer2.specs.Octets.{AreOctets, bits_of, block_of, field_for}

pub bits_long : (xs : List ℕ) → length (bits_of xs) ≡ 8 * length xs
bits_long [] = refl
bits_long (x ∷ xs) = omega (arith, bits_long xs)

-- bit k of octets as a list of bits
pub bit_at_place : (xs : List ℕ) (k : ℕ) (d : Bit) → k < 8 * length xs → get_or (bits_of xs) k d ≡ bit_of_octets xs k
bit_at_place [] k d inside = absurd (omega arith)
bit_at_place (x ∷ xs) zero d inside = refl
bit_at_place (x ∷ xs) (suc zero) d inside = refl
bit_at_place (x ∷ xs) (suc (suc zero)) d inside = refl
bit_at_place (x ∷ xs) (suc (suc (suc zero))) d inside = refl
bit_at_place (x ∷ xs) (suc (suc (suc (suc zero)))) d inside = refl
bit_at_place (x ∷ xs) (suc (suc (suc (suc (suc zero))))) d inside = refl
bit_at_place (x ∷ xs) (suc (suc (suc (suc (suc (suc zero)))))) d inside = refl
bit_at_place (x ∷ xs) (suc (suc (suc (suc (suc (suc (suc zero))))))) d inside = refl
bit_at_place (x ∷ xs) (suc (suc (suc (suc (suc (suc (suc (suc k)))))))) d inside =
    let n : ℕ = suc (suc (suc (suc (suc (suc (suc (suc k))))))) in
    let place : n / 8 ≡ suc (k / 8) = omega arith in
    let rest : n % 8 ≡ k % 8 = omega arith in
    bit_at_place xs k d (omega arith) ∙ sym (ap₂ (λ i j. octet_bit (slice_index (x ∷ xs) i) j) place rest)

-- a place past the end isn't looked at
inside_or : (bits : List Bit) (k : ℕ) (d e : Bit) → k < length bits → get_or bits k d ≡ get_or bits k e
inside_or [] k d e inside = absurd (omega arith)
inside_or (b ∷ bits) zero d e inside = refl
inside_or (b ∷ bits) (suc k) d e inside = inside_or bits k d e (omega arith)

-- bits that are those of octets
pub bits_are : (bits : List Bit) (xs : List ℕ) → length bits ≡ 8 * length xs → ((k : ℕ) → k < 8 * length xs → get_or bits k Zero ≡ bit_of_octets xs k) → bits ≡ bits_of xs
bits_are bits xs long same = same_lists bits (bits_of xs) (long ∙ sym (bits_long xs)) (λ k d inside.
    inside_or bits k d Zero inside ∙ (same k (omega (arith, inside, long)) ∙ sym (bit_at_place xs k d (omega (arith, inside, long)))))

-- four bits that write a number
four_are : (a b c d : Bit) → field_for (Some (8 * number_of a + 4 * number_of b + 2 * number_of c + number_of d + 1)) ≡ a ∷ b ∷ c ∷ d ∷ []
four_are Zero Zero Zero Zero = refl
four_are Zero Zero Zero One = refl
four_are Zero Zero One Zero = refl
four_are Zero Zero One One = refl
four_are Zero One Zero Zero = refl
four_are Zero One Zero One = refl
four_are Zero One One Zero = refl
four_are Zero One One One = refl
four_are One Zero Zero Zero = refl
four_are One Zero Zero One = refl
four_are One Zero One Zero = refl
four_are One Zero One One = refl
four_are One One Zero Zero = refl
four_are One One Zero One = refl
four_are One One One Zero = refl
four_are One One One One = refl

field_then : (c : ℕ) (out : List Bit) (xs : List ℕ) → length out ≡ 4 + 8 * length xs → field_of out + 1 ≡ c → ((k : ℕ) → k < 8 * length xs → get_or out (4 + k) Zero ≡ bit_of_octets xs k) → out ≡ field_for (Some c) ++ bits_of xs
field_then c [] xs long names same = absurd (omega arith)
field_then c (a ∷ []) xs long names same = absurd (omega arith)
field_then c (a ∷ b ∷ []) xs long names same = absurd (omega arith)
field_then c (a ∷ b ∷ d ∷ []) xs long names same = absurd (omega arith)
field_then c (a ∷ b ∷ d ∷ e ∷ rest) xs long names same =
    let front : field_for (Some c) ≡ a ∷ b ∷ d ∷ e ∷ [] = subst (λ m. field_for (Some m) ≡ a ∷ b ∷ d ∷ e ∷ []) names (four_are a b d e) in
    let behind : rest ≡ bits_of xs = bits_are rest xs (omega arith) (λ k inside.
    let at : 4 + k ≡ suc (suc (suc (suc k))) = omega arith in
    sym (ap (λ m. get_or (a ∷ b ∷ d ∷ e ∷ rest) m Zero) at) ∙ same k inside) in
    ap (λ r. a ∷ b ∷ d ∷ e ∷ r) behind ∙ ap (λ f. f ++ bits_of xs) (sym front)

-- a block that begins with the field and has the bits of octets behind it
pub block_is : (ct : Option ℕ) (out : List Bit) (xs : List ℕ) → length out ≡ field_bits ct + 8 * length xs → Names ct out → ((k : ℕ) → k < 8 * length xs → get_or out (field_bits ct + k) Zero ≡ bit_of_octets xs k) → out ≡ block_of ct xs
block_is None out xs long names same = bits_are out xs (omega arith) (λ k inside. let at : 0 + k ≡ k = omega arith in sym (ap (λ m. get_or out m Zero) at) ∙ same k inside)
block_is (Some c) out xs long names same = field_then c out xs long names same

-- numbers that fit eight bits are octets
pub are_octets : (xs : List ℕ) → ((k : ℕ) → k < length xs → get_or xs k 0 < 256) → AreOctets xs
are_octets [] small = tt
are_octets (x ∷ xs) small = (small 0 (omega arith), are_octets xs (λ k inside. small (suc k) (omega arith)))
