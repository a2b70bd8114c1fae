-- The bits of octets, and of a part of them.
use Rattle.std.proofs.Common.{◌≡◌, ◌+◌, ◌*◌, ◌/◌, ◌%◌, ◌<◌, ◌≤◌, ℕ, List, length, take, drop, get_or, arith, ap, ap₂, sym, ◌∙◌}
use Rattle.std.proofs.lemmas.List.{ext_get_or, get_or-take, get_or-drop, drop-take}
use Rattle.std.proofs.lemmas.List.FromFn.{get_or-map-range_with_len, length-map-range_with_len}
use Rattle.std.proofs.lemmas.Nat.{row_fits}
use Rattle.dch_bits.specs.declared.bit.Bit.{Bit}
use Rattle.dch_bits.specs.declared.bit.Bit.TheVariants.{Zero}
use Rattle.dch_bits.specs.Octets.{bit_of_octets, octet_bit}
use Rattle.dch_accept.specs.Padded.{bits_from}
use Rattle.dch_accept.proofs.Overwritten.{take_twice}

-- bits that are those of octets, each at its place
pub bits_are : (bits : List Bit) (octets : List ℕ) (at n : ℕ) → length bits ≡ n → ((k : ℕ) → k < n → get_or bits k Zero ≡ bit_of_octets octets (at + k)) → bits ≡ bits_from octets at n
bits_are bits octets at n long shown =
    ext_get_or Zero bits (bits_from octets at n) (long ∙ sym (length-map-range_with_len (bit_of_octets octets) at n))
    (λ k h. let inside : k < n = omega (arith, h, long) in shown k inside ∙ sym (get_or-map-range_with_len (bit_of_octets octets) at n k (at + k) Zero inside (omega arith)))

pub length-bits_from : (octets : List ℕ) (at n : ℕ) → length (bits_from octets at n) ≡ n
length-bits_from octets at n = length-map-range_with_len (bit_of_octets octets) at n

pub get_or-bits_from : (octets : List ℕ) (at n k : ℕ) → k < n → get_or (bits_from octets at n) k Zero ≡ bit_of_octets octets (at + k)
get_or-bits_from octets at n k inside = get_or-map-range_with_len (bit_of_octets octets) at n k (at + k) Zero inside (omega arith)

-- a bit of a part of octets
pub bit_of_part : (octets : List ℕ) (from n k : ℕ) → k < 8 * n → bit_of_octets (take n (drop from octets)) k ≡ bit_of_octets octets (8 * from + k)
bit_of_part octets from n k inside =
    let octet : k / 8 < n = omega arith in
    let place : from + k / 8 ≡ (8 * from + k) / 8 = omega arith in
    let rest : k % 8 ≡ (8 * from + k) % 8 = omega arith in
    ap₂ octet_bit (get_or-take n (drop from octets) (k / 8) 0 octet ∙ get_or-drop from octets (k / 8) 0 ∙ ap (λ i. get_or octets i 0) place) rest

pub bits_from-part : (octets : List ℕ) (from n size : ℕ) → size ≤ 8 * n → bits_from (take n (drop from octets)) 0 size ≡ bits_from octets (8 * from) size
bits_from-part octets from n size room =
    bits_are (bits_from (take n (drop from octets)) 0 size) octets (8 * from) size (length-bits_from (take n (drop from octets)) 0 size)
    (λ k inside. get_or-bits_from (take n (drop from octets)) 0 size k inside
    ∙ ap (bit_of_octets (take n (drop from octets))) (omega arith)
    ∙ bit_of_part octets from n k (omega arith))

-- a part before a place, where all before that place is as it was
pub part_before : {X : Type 0} (xs ys : List X) (size q r : ℕ) → q < r → take (r * size) xs ≡ take (r * size) ys → take size (drop (q * size) xs) ≡ take size (drop (q * size) ys)
part_before {X} xs ys size q r earlier same =
    let fits : q * size + size ≤ r * size = row_fits q size r size earlier (omega arith) in
    let front : (zs : List X) → take size (drop (q * size) zs) ≡ drop (q * size) (take (q * size + size) (take (r * size) zs)) =
    λ (zs : List X). sym (drop-take (q * size) size zs) ∙ ap (drop (q * size)) (sym (take_twice (q * size + size) (r * size) zs fits)) in
    front xs ∙ ap (λ zs. drop (q * size) (take (q * size + size) zs)) same ∙ sym (front ys)
