-- Octets in hexadecimal, in parts.
use Rattle.std.proofs.Common.{◌≡◌, ◌<◌, ◌*◌, ◌/◌, ◌%◌, ◌++◌, ◌∙◌, slice_index, ℕ, suc, List, [], ◌∷◌, length, take, drop, get_or, refl, ap, sym, append_assoc}
use Rattle.std.proofs.Math.Seq.{drop-cons}
use Rattle.std.proofs.lemmas.List.{take-append-drop}
use Rattle.hex.specs.Hex.{encode_lower, encode_with, lower_digits}
use Rattle.hex.proofs.HexLemmas.{length-encode_with}

pub encode_lower_len : (xs : List ℕ) → length (encode_lower xs) ≡ 2 * length xs
encode_lower_len xs = length-encode_with lower_digits xs

pub encode_lower-append : (xs ys : List ℕ) → encode_lower (xs ++ ys) ≡ encode_lower xs ++ encode_lower ys
unfolding encode_with
encode_lower-append [] ys = refl
encode_lower-append (x ∷ xs) ys = ap (λ t. slice_index lower_digits (x / 16) ∷ slice_index lower_digits (x % 16) ∷ t) (encode_lower-append xs ys)

-- the octets before one, that one, and those behind it
pub encode_lower-cut : (xs : List ℕ) (n d : ℕ) → n < length xs → encode_lower xs ≡ encode_lower (take n xs) ++ encode_lower (get_or xs n d ∷ []) ++ encode_lower (drop (suc n) xs)
encode_lower-cut xs n d inside =
    let front = encode_lower (take n xs) in
    let one = encode_lower (get_or xs n d ∷ []) in
    let rest = encode_lower (drop (suc n) xs) in
    let parts : encode_lower (drop n xs) ≡ one ++ rest = ap encode_lower (drop-cons xs n d inside) ∙ encode_lower-append (get_or xs n d ∷ []) (drop (suc n) xs) in
    ap encode_lower (sym (take-append-drop n xs)) ∙ (encode_lower-append (take n xs) (drop n xs) ∙ (ap (λ t. front ++ t) parts ∙ sym (append_assoc front one rest)))
