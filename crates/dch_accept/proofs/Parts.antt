-- Parts of one size of a list of bits: one is written over, and all of them make the list.
use Rattle.std.proofs.Common.{◌≡◌, ◌<◌, ◌≤◌, ◌+◌, ◌*◌, ◌/◌, ◌%◌, ◌++◌, ◌∙◌, ℕ, zero, suc, List, length, take, drop, get_or, arith, sym, ap, subst, length-append, length-drop}
use Rattle.std.specs.Prelude.{min}
use Rattle.std.proofs.lemmas.Bool.Decides.{nat_tests}
use Rattle.std.proofs.lemmas.List.{drop-append-le, get_or-drop, get_or-take, length-take, length-take-le, same_lists, take-append-le}
use Rattle.std.proofs.lemmas.Nat.{div-add-mod', div_below, mod_below}
use Rattle.std.proofs.Math.Nat.{mul-zero}
use Rattle.std.proofs.Math.Seq.{drop-append_seam, take-length}
use Rattle.dch_bits.specs.declared.bit.Bit.{Bit}
use Rattle.dch_accept.specs.Frames.{overwritten}
use Rattle.dch_accept.proofs.Overwritten.{part_shown}

-- a part of a list is written over
pub record IsOver (from size : ℕ) (xs ys ws : List Bit) : Type 0 where
  pub long : length ys ≡ length xs
  pub there : take size (drop from ys) ≡ ws
  pub before : (k : ℕ) → k + size ≤ from → take size (drop k ys) ≡ take size (drop k xs)

pub over : (from size : ℕ) (xs ws : List Bit) → length ws ≡ size → from + size ≤ length xs → IsOver from size xs (overwritten xs (take from xs ++ ws)) ws
over from size xs ws long inside = record {
  long = length-take-le (length xs) all (subst (λ n. length xs ≤ n) (sym whole) (omega arith));
  there = sym (part_shown from size (length xs) all inside)
      ∙ (ap (take size) (drop-append-le from (take from xs ++ ws) rest (omega (arith, wide)))
      ∙ (ap (λ ys. take size (ys ++ rest)) (subst (λ n. drop n (take from xs ++ ws) ≡ ws) first (drop-append_seam (take from xs) ws))
      ∙ (take-append-le size ws rest (omega (arith, long)) ∙ (ap (λ n. take n ws) (sym long) ∙ take-length ws))));
  before = λ k room. sym (part_shown k size (length xs) all (omega (arith, room, inside)))
      ∙ (ap (take size) (drop-append-le k (take from xs ++ ws) rest (omega (arith, wide, room)))
      ∙ (take-append-le size (drop k (take from xs ++ ws)) rest (omega (arith, length-drop k (take from xs ++ ws), wide, room))
      ∙ (ap (take size) (drop-append-le k (take from xs) ws (omega (arith, first, room)))
      ∙ (take-append-le size (drop k (take from xs)) ws (omega (arith, length-drop k (take from xs), first, room))
      ∙ sym (part_shown k size from xs room)))));
}
  where
    rest : List Bit
    rest = drop (length (take from xs ++ ws)) xs

    all : List Bit
    all = (take from xs ++ ws) ++ drop (length (take from xs ++ ws)) xs

    first : length (take from xs) ≡ from
    first = length-take-le from xs (omega (arith, inside))

    wide : length (take from xs ++ ws) ≡ from + size
    wide = omega (arith, length-append (take from xs) ws, first, long)

    whole : length ((take from xs ++ ws) ++ drop (length (take from xs ++ ws)) xs) ≡ length xs
    whole = omega (arith, length-append (take from xs ++ ws) (drop (length (take from xs ++ ws)) xs), length-drop (length (take from xs ++ ws)) xs, wide, inside)

-- a block that has its size is there
pub within : (k size : ℕ) (xs : List Bit) → length (take size (drop (k * size) xs)) ≡ size → k * size + size ≤ length xs
within k zero xs e = omega (arith, mul-zero k)
within k (suc n) xs e =
    let room : suc n ≤ length (drop (k * suc n) xs) = least (suc n) (length (drop (k * suc n) xs)) (sym (length-take (suc n) (drop (k * suc n) xs)) ∙ e) in
    omega (arith, room, length-drop (k * suc n) xs)
  where
    least : (a b : ℕ) → min a b ≡ a → a ≤ b
    least a b e = grind (arith, nat_tests, e)

-- bits whose parts of one size are the same
pub same_parts : (xs ys : List Bit) (n size : ℕ) → length xs ≡ n * size → length ys ≡ n * size
    → ((r : ℕ) → r < n → take size (drop (r * size) xs) ≡ take size (drop (r * size) ys)) → xs ≡ ys
same_parts xs ys n size long longer same = same_lists xs ys (omega (arith, long, longer)) (λ k d inside.
    let within : k < n * size = omega (arith, long) in
    let some : 0 < size = some_size n size k within in
    let row : k / size < n = div_below k size n some within in
    let small : k % size < size = mod_below k size some in
    let place : k / size * size + k % size ≡ k = div-add-mod' k size in
    ap (λ j. get_or xs j d) (sym place)
    ∙ sym (part_at xs size (k / size) (k % size) d small)
    ∙ ap (λ (zs : List Bit). get_or zs (k % size) d) (same (k / size) row)
    ∙ part_at ys size (k / size) (k % size) d small
    ∙ ap (λ j. get_or ys j d) place)
  where
    some_size : (n size k : ℕ) → k < n * size → 0 < size
    some_size n zero k inside = absurd (omega arith)
    some_size n (suc size) k inside = omega arith

    part_at : (xs : List Bit) (size r t : ℕ) (d : Bit) → t < size → get_or (take size (drop (r * size) xs)) t d ≡ get_or xs (r * size + t) d
    part_at xs size r t d inside = get_or-take size (drop (r * size) xs) t d inside ∙ get_or-drop (r * size) xs t d
