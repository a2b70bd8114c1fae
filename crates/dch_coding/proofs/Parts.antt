-- Parts of one size, written one after another.
use Rattle.std.proofs.Common.{◌≡◌, ◌+◌, ◌-◌, ◌*◌, ◌<◌, ◌≤◌, ℕ, List, length, drop, arith, ap, sym, ◌∙◌, subst, below_more}
use Rattle.std.specs.List.{between}
use borrow.Rule.Slice.PartMut.{put_mid}
use Rattle.std.proofs.lemmas.Slice.{between_is, between-put_mid, take-put_mid_below}
use Rattle.std.proofs.Math.Nat.{mul-le-mul_left}
use Rattle.dch_bits.specs.declared.bit.Bit.{Bit}
use Rattle.dch_types.specs.declared.channel.Crc.{Crc}
use Rattle.dch_types.specs.Lengths.{crc_size}
use Rattle.dch_coding.specs.Parity.{IsAttached}
use Rattle.dch_coding.specs.Ttis.{part, ArePartsUpTo}

part_between : (i w : ℕ) (xs : List Bit) → part i w xs ≡ between (i * w) (i * w + w) xs
part_between i w xs =
    let width : i * w + w - i * w ≡ w = omega arith in
    rw width

-- a part before the one that is written
part_before : (k i w n : ℕ) (xs ys : List Bit) → k < i → i * w ≤ length xs → part k w (put_mid (i * w) n xs ys) ≡ part k w xs
part_before k i w n xs ys before room =
    let times : w * (k + 1) ≤ w * i = mul-le-mul_left w (omega arith) in
    let past : k * w + w ≤ i * w = omega (arith, times) in
    part_between k w (put_mid (i * w) n xs ys)
    ∙ between_is (put_mid (i * w) n xs ys) (k * w) (k * w + w)
    ∙ ap (drop (k * w)) (take-put_mid_below (i * w) n xs ys (k * w + w) past room)
    ∙ sym (between_is xs (k * w) (k * w + w))
    ∙ sym (part_between k w xs)

-- and that one
part_here : (i w n : ℕ) (xs ys : List Bit) → i * w ≤ length xs → length ys ≡ w → part i w (put_mid (i * w) n xs ys) ≡ ys
part_here i w n xs ys room long =
    part_between i w (put_mid (i * w) n xs ys) ∙ between-put_mid (i * w) n xs ys (i * w + w) room (omega arith)

-- one block more is attached
pub parts_more : (crc : Crc) (size w i n : ℕ) (block blocks out new : List Bit) → w ≡ size + crc_size crc → ArePartsUpTo i crc size blocks out → block ≡ part i size blocks → IsAttached crc block new → i * w ≤ length out → length new ≡ w → ArePartsUpTo (i + 1) crc size blocks (put_mid (i * w) n out new)
parts_more crc size w i n block blocks out new is done same attached room long =
    below_more (λ k. IsAttached crc (part k size blocks) (part k (size + crc_size crc) (put_mid (i * w) n out new))) i
    (λ k before. subst (λ xs. IsAttached crc (part k size blocks) xs) (ap (λ m. part k m out) (sym is) ∙ sym (part_before k i w n out new before room) ∙ ap (λ m. part k m (put_mid (i * w) n out new)) is) (done k before))
    (subst (λ xs. IsAttached crc (part i size blocks) xs) (sym (part_here i w n out new room long) ∙ ap (λ m. part i m (put_mid (i * w) n out new)) is) (subst (λ b. IsAttached crc b new) same attached))
