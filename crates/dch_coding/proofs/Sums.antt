-- The parity of a sum of blocks, and of one block after another.
use Rattle.std.proofs.Common.{◌≡◌, ◌+◌, ◌-◌, ◌≤◌, ℕ, zero, suc, List, [], ◌∷◌, ◌++◌, length, replicate, arith, refl, ap, ap₂, sym, subst, ◌∙◌, append_assoc, append-nil, length-append}
use Rattle.std.proofs.lemmas.List.{length-replicate, replicate-append-replicate}
use Rattle.dch_bits.specs.declared.bit.Bit.{Bit}
use Rattle.dch_bits.specs.declared.bit.Bit.TheVariants.{Zero, One}
use Rattle.dch_bits.specs.Bits.{plus}
use Rattle.dch_coding.specs.Parity.{add, scale, times, IsParity}
use Rattle.dch_coding.proofs.Products.{plus_assoc, add_append, add_zeros, zeros_add, length-add, length-scale, length-times, quotient_long, times_more}
use Rattle.dch_coding.proofs.Unique.{parity_some, parity_one}

plus_comm : (x y : Bit) → plus x y ≡ plus y x
plus_comm Zero Zero = refl
plus_comm Zero One = refl
plus_comm One Zero = refl
plus_comm One One = refl

-- two sums added place by place
plus_four : (a b c d : Bit) → plus (plus a b) (plus c d) ≡ plus (plus a c) (plus b d)
plus_four Zero b Zero d = refl
plus_four Zero b One d = rw (plus_comm b (plus One d), plus_comm b d) (sym (plus_assoc One d b))
plus_four One b Zero d = sym (plus_assoc One b d)
plus_four One Zero One Zero = refl
plus_four One Zero One One = refl
plus_four One One One Zero = refl
plus_four One One One One = refl

add_four : (a b c d : List Bit) → length a ≡ length b → length a ≡ length c → length a ≡ length d → add (add a b) (add c d) ≡ add (add a c) (add b d)
add_four [] b c d h k m = refl
add_four (x ∷ a) [] c d h k m = absurd (omega arith)
add_four (x ∷ a) (y ∷ b) [] d h k m = absurd (omega arith)
add_four (x ∷ a) (y ∷ b) (z ∷ c) [] h k m = absurd (omega arith)
add_four (x ∷ a) (y ∷ b) (z ∷ c) (w ∷ d) h k m =
    ap₂ (λ (v : Bit) (vs : List Bit). v ∷ vs) (plus_four x y z w) (add_four a b c d (omega arith) (omega arith) (omega arith))

add_self : (xs : List Bit) → add xs xs ≡ replicate (length xs) Zero
add_self [] = refl
add_self (Zero ∷ xs) = ap (λ vs. Zero ∷ vs) (add_self xs)
add_self (One ∷ xs) = ap (λ vs. Zero ∷ vs) (add_self xs)

-- to add a list twice is to add nothing
add_front : (u v : List Bit) → length u ≡ length v → add u (add u v) ≡ v
add_front [] [] same = refl
add_front [] (y ∷ v) same = absurd (omega arith)
add_front (x ∷ u) [] same = absurd (omega arith)
add_front (Zero ∷ u) (y ∷ v) same = ap (λ vs. y ∷ vs) (add_front u v (omega arith))
add_front (One ∷ u) (Zero ∷ v) same = ap (λ vs. Zero ∷ vs) (add_front u v (omega arith))
add_front (One ∷ u) (One ∷ v) same = ap (λ vs. One ∷ vs) (add_front u v (omega arith))

scale-plus : (b c : Bit) (g : List Bit) → scale (plus b c) g ≡ add (scale b g) (scale c g)
scale-plus Zero c g = sym (zeros_add (length g) (scale c g) (sym (length-scale c g)))
scale-plus One Zero g = sym (add_zeros (length g) g refl)
scale-plus One One g = sym (add_self g)

-- the product with a sum
times-add : (g q r : List Bit) → 1 ≤ length g → length q ≡ length r → times g (add q r) ≡ add (times g q) (times g r)
times-add g [] [] some same = sym (add_zeros (length g - 1) (replicate (length g - 1) Zero) (sym (length-replicate (length g - 1) Zero)))
times-add g [] (c ∷ r) some same = absurd (omega arith)
times-add g (b ∷ q) [] some same = absurd (omega arith)
times-add g (b ∷ q) (c ∷ r) some same =
    let n : ℕ = length q in
    let zeros : List Bit = replicate n Zero in
    let B : List Bit = scale b g ++ zeros in
    let C : List Bit = scale c g ++ zeros in
    let Q : List Bit = Zero ∷ times g q in
    let R : List Bit = Zero ∷ times g r in
    let long : length r ≡ n = omega arith in
    let b_long : length B ≡ length g + n = omega (arith, length-append (scale b g) zeros, length-scale b g, length-replicate n Zero) in
    let c_long : length C ≡ length g + n = omega (arith, length-append (scale c g) zeros, length-scale c g, length-replicate n Zero) in
    let q_long : length Q ≡ length g + n = omega (arith, length-times g q some) in
    let r_long : length R ≡ length g + n = omega (arith, length-times g r some, long) in
    let twice : add zeros zeros ≡ zeros = add_zeros n zeros (sym (length-replicate n Zero)) in
    let first : scale (plus b c) g ++ zeros ≡ add B C =
    ap₂ (λ (x y : List Bit). x ++ y) (scale-plus b c g) (sym twice) ∙ sym (add_append (scale b g) (scale c g) zeros zeros (length-scale b g ∙ sym (length-scale c g))) in
    let left : times g (add (b ∷ q) (c ∷ r)) ≡ add (add B C) (add Q R) =
    ap₂ (λ (x y : List Bit). add x (Zero ∷ y)) (ap (λ k. scale (plus b c) g ++ replicate k Zero) (length-add q r) ∙ first) (times-add g q r some (sym long)) in
    let right : add (add B Q) (add C R) ≡ add (times g (b ∷ q)) (times g (c ∷ r)) = ap (λ k. add (add B Q) (add (scale c g ++ replicate k Zero) R)) (sym long) in
    left ∙ add_four B C Q R (b_long ∙ sym c_long) (b_long ∙ sym q_long) (b_long ∙ sym r_long) ∙ right

pub parity_sum : (g a b p q : List Bit) → 1 ≤ length g → length a ≡ length b → IsParity g a p → IsParity g b q → IsParity g (add a b) (add p q)
parity_sum g a b p q some same first second =
    let long : length first.quotient ≡ length second.quotient = quotient_long g a p some first ∙ same ∙ sym (quotient_long g b q some second) in
    record {
      size = length-add p q ∙ first.size;
      quotient = add first.quotient second.quotient;
      product = sym (add_append a b p q same) ∙ ap₂ add first.product second.product ∙ sym (times-add g first.quotient second.quotient some long);
    }

-- zeros before a block
parity_zero : (g b s : List Bit) → 1 ≤ length g → IsParity g b s → IsParity g (Zero ∷ b) s
parity_zero g b s some known =
    let q : List Bit = known.quotient in
    let none : scale Zero g ++ replicate (length q) Zero ≡ replicate (length g + length q) Zero = replicate-append-replicate (length g) (length q) Zero in
    let next : times g (Zero ∷ q) ≡ Zero ∷ times g q =
    ap (λ t. add t (Zero ∷ times g q)) none ∙ zeros_add (length g + length q) (Zero ∷ times g q) (omega (arith, length-times g q some)) in
    record {
      size = known.size;
      quotient = Zero ∷ q;
      product = ap (λ t. Zero ∷ t) known.product ∙ sym next;
    }

pub parity_zeros : (g b s : List Bit) (n : ℕ) → 1 ≤ length g → IsParity g b s → IsParity g (replicate n Zero ++ b) s
parity_zeros g b s zero some known = known
parity_zeros g b s (suc n) some known = parity_zero g (replicate n Zero ++ b) s some (parity_zeros g b s n some known)

-- and a block without the zero before it
pub parity_less : (low b s : List Bit) → IsParity (One ∷ low) (Zero ∷ b) s → IsParity (One ∷ low) b s
parity_less low b s known =
    let some : (p : List Bit) × IsParity (One ∷ low) b p = parity_some low b in
    let same : some.0 ≡ s = parity_one low (Zero ∷ b) some.0 s (parity_zero (One ∷ low) b some.0 (omega arith) some.1) known in
    rw same at some.1

pub parity_fewer : (low b s : List Bit) (n : ℕ) → IsParity (One ∷ low) (replicate n Zero ++ b) s → IsParity (One ∷ low) b s
parity_fewer low b s zero known = known
parity_fewer low b s (suc n) known = parity_fewer low b s n (parity_less low (replicate n Zero ++ b) s known)

times-zero : (g q : List Bit) → 1 ≤ length g → times g (q ++ Zero ∷ []) ≡ times g q ++ Zero ∷ []
times-zero g q some =
    let none : replicate (length q) Zero ++ scale Zero g ≡ replicate (length q + length g) Zero = replicate-append-replicate (length q) (length g) Zero in
    times_more g q Zero some ∙ ap (λ t. add (times g q ++ Zero ∷ []) t) none
    ∙ add_zeros (length q + length g) (times g q ++ Zero ∷ []) (omega (arith, length-append (times g q) (Zero ∷ []), length-times g q some))

times-zeros : (g q : List Bit) (n : ℕ) → 1 ≤ length g → times g (q ++ replicate n Zero) ≡ times g q ++ replicate n Zero
times-zeros g q zero some = ap (times g) (append-nil q) ∙ sym (append-nil (times g q))
times-zeros g q (suc n) some =
    ap (times g) (sym (append_assoc q (Zero ∷ []) (replicate n Zero))) ∙ times-zeros g (q ++ Zero ∷ []) n some
    ∙ ap (λ t. t ++ replicate n Zero) (times-zero g q some) ∙ append_assoc (times g q) (Zero ∷ []) (replicate n Zero)

-- a block with its parity has the parity zero
parity_closed : (g a p : List Bit) → 1 ≤ length g → IsParity g a p → IsParity g (a ++ p) (replicate (length p) Zero)
parity_closed g a p some known = record {
  size = length-replicate (length p) Zero ∙ known.size;
  quotient = known.quotient ++ replicate (length p) Zero;
  product = ap (λ t. t ++ replicate (length p) Zero) known.product ∙ sym (times-zeros g known.quotient (length p) some);
}

-- the parity of a longer block: that of the sum of the first parity and the rest
pub parity_after : (g a b p s : List Bit) → 1 ≤ length g → length p ≡ length b → IsParity g a p → IsParity g (add p b) s → IsParity g (a ++ b) s
parity_after g a b p s some same first second =
    let n : ℕ = length a in
    let zeros : List Bit = replicate n Zero in
    let front : IsParity g (a ++ p) (replicate (length p) Zero) = parity_closed g a p some first in
    let back : IsParity g (zeros ++ add p b) s = parity_zeros g (add p b) s n some second in
    let long : length (a ++ p) ≡ length (zeros ++ add p b) =
    omega (arith, length-append a p, length-append zeros (add p b), length-replicate n Zero, length-add p b) in
    let block : add (a ++ p) (zeros ++ add p b) ≡ a ++ b =
    add_append a zeros p (add p b) (sym (length-replicate n Zero)) ∙ ap₂ (λ (x y : List Bit). x ++ y) (add_zeros n a refl) (add_front p b same) in
    let parity : add (replicate (length p) Zero) s ≡ s = zeros_add (length p) s (first.size ∙ sym second.size) in
    subst (λ whole. IsParity g whole s) block
    (subst (λ rest. IsParity g (add (a ++ p) (zeros ++ add p b)) rest) parity
    (parity_sum g (a ++ p) (zeros ++ add p b) (replicate (length p) Zero) s some long front back))
