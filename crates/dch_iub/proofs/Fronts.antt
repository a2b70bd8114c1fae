-- Octets whose front stayed as it was.
use Rattle.std.proofs.Common.{◌≡◌, ◌+◌, ◌*◌, ◌/◌, ◌%◌, ◌<◌, ◌≤◌, ℕ, List, take, drop, get_or, arith, ap, sym, ◌∙◌}
use Rattle.std.specs.Int.{div_ceil}
use Rattle.std.proofs.lemmas.List.{get_or-take}
use Rattle.std.proofs.lemmas.Nat.{row_fits}
use Rattle.dch_bits.specs.declared.bit.Bit.{Bit}
use Rattle.dch_bits.specs.declared.bit.Bit.TheVariants.{Zero}
use Rattle.dch_bits.specs.Octets.{bit_of_octets, octet_bit}
use Rattle.dch_accept.specs.Blocks.{Held, block_at}
use Rattle.dch_accept.specs.Padded.{bits_from}
use Rattle.dch_accept.proofs.Overwritten.{take_twice}
use Rattle.dch_accept.proofs.Unpacked.{bits_are, bit_of_part, length-bits_from, get_or-bits_from}
use Rattle.dch_iub.specs.Steps.{IsPacked, ArePacked, AreListed}

-- a shorter front
pub front_less : {X : Type 0} (m n : ℕ) (xs ys : List X) → m ≤ n → take n xs ≡ take n ys → take m xs ≡ take m ys
front_less m n xs ys less same = sym (take_twice m n xs less) ∙ ap (take m) same ∙ take_twice m n ys less

-- an element of the front
pub front_at : {X : Type 0} (n : ℕ) (xs ys : List X) (i : ℕ) (d : X) → i < n → take n xs ≡ take n ys → get_or xs i d ≡ get_or ys i d
front_at n xs ys i d inside same = sym (get_or-take n xs i d inside) ∙ ap (λ zs. get_or zs i d) same ∙ get_or-take n ys i d inside

-- a bit of the front
pub front_bit : (n : ℕ) (xs ys : List ℕ) (k : ℕ) → k < 8 * n → take n xs ≡ take n ys → bit_of_octets xs k ≡ bit_of_octets ys k
front_bit n xs ys k inside same = ap (λ octet. octet_bit octet (k % 8)) (front_at n xs ys (k / 8) 0 (omega arith) same)

pub packed_front : (n : ℕ) (xs ys : List ℕ) (at octets : ℕ) (bits : List Bit) → at + octets ≤ n → take n xs ≡ take n ys → IsPacked ys at octets bits → IsPacked xs at octets bits
packed_front n xs ys at octets bits inside same packed k here = front_bit n xs ys (8 * at + k) (omega arith) same ∙ packed k here

pub all_packed_front : (n : ℕ) (xs ys : List ℕ) (at blocks : ℕ) (held : Held) → at + blocks * div_ceil held.size 8 ≤ n → take n xs ≡ take n ys → ArePacked ys at blocks held → ArePacked xs at blocks held
all_packed_front n xs ys at blocks held inside same packed b here =
    let w : ℕ = div_ceil held.size 8 in
    let fits : b * w + w ≤ blocks * w = row_fits b w blocks w here (omega arith) in
    packed_front n xs ys (at + b * w) w (block_at held b) (omega arith) same (packed b here)

pub listed_front : (n : ℕ) (xs ys : List Bit) (at blocks : ℕ) (held : Held) → at + blocks ≤ n → take n xs ≡ take n ys → AreListed ys at blocks held → AreListed xs at blocks held
listed_front n xs ys at blocks held inside same listed b here = front_at n xs ys (at + b) Zero (omega arith) same ∙ listed b here

-- bits that are the same in two lists of octets
pub bits_from-same : (xs ys : List ℕ) (at n : ℕ) → ((k : ℕ) → k < n → bit_of_octets xs (at + k) ≡ bit_of_octets ys (at + k)) → bits_from xs at n ≡ bits_from ys at n
bits_from-same xs ys at n same =
    bits_are (bits_from xs at n) ys at n (length-bits_from xs at n) (λ k inside. get_or-bits_from xs at n k inside ∙ same k inside)

pub bits_from-front : (m : ℕ) (xs ys : List ℕ) (at n : ℕ) → at + n ≤ 8 * m → take m xs ≡ take m ys → bits_from xs at n ≡ bits_from ys at n
bits_from-front m xs ys at n room same = bits_from-same xs ys at n (λ k inside. front_bit m xs ys (at + k) (omega arith) same)

-- bits of a part of octets
pub bits_from-part_at : (octets : List ℕ) (from n p size : ℕ) → p + size ≤ 8 * n → bits_from (take n (drop from octets)) p size ≡ bits_from octets (8 * from + p) size
bits_from-part_at octets from n p size room =
    bits_are (bits_from (take n (drop from octets)) p size) octets (8 * from + p) size (length-bits_from (take n (drop from octets)) p size)
    (λ k inside. get_or-bits_from (take n (drop from octets)) p size k inside
    ∙ bit_of_part octets from n (p + k) (omega arith)
    ∙ ap (bit_of_octets octets) (omega arith))
