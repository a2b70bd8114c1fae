-- Products of polynomials, with one more coefficient at the end.
use Rattle.std.proofs.Common.{◌≡◌, ◌+◌, ◌-◌, ◌≤◌, ℕ, zero, suc, List, [], ◌∷◌, ◌++◌, length, replicate, arith, refl, ap, sym, ◌∙◌, append_assoc, append-nil, length-append}
use Rattle.std.proofs.lemmas.List.{length-replicate}
use Rattle.dch_bits.specs.declared.bit.Bit.{Bit}
use Rattle.dch_bits.specs.declared.bit.Bit.TheVariants.{Zero, One}
use Rattle.dch_bits.specs.Bits.{plus}
use Rattle.dch_coding.specs.Parity.{add, scale, times, IsParity}

pub plus_assoc : (a b c : Bit) → plus a (plus b c) ≡ plus (plus a b) c
plus_assoc Zero b c = refl
plus_assoc One Zero c = refl
plus_assoc One One Zero = refl
plus_assoc One One One = refl

pub plus_zero : (a : Bit) → plus a Zero ≡ a
plus_zero Zero = refl
plus_zero One = refl

pub plus_back : (a b : Bit) → plus (plus a b) b ≡ a
plus_back Zero Zero = refl
plus_back Zero One = refl
plus_back One Zero = refl
plus_back One One = refl

pub plus_around : (a b : Bit) → plus (plus a b) a ≡ b
plus_around Zero Zero = refl
plus_around Zero One = refl
plus_around One Zero = refl
plus_around One One = refl

pub length-add : (xs ys : List Bit) → length (add xs ys) ≡ length xs
length-add [] ys = refl
length-add (x ∷ xs) [] = refl
length-add (x ∷ xs) (y ∷ ys) = omega (arith, length-add xs ys)

pub length-scale : (b : Bit) (g : List Bit) → length (scale b g) ≡ length g
length-scale Zero g = simp length-replicate
length-scale One g = refl

pub length-times : (g q : List Bit) → 1 ≤ length g → length (times g q) ≡ length g - 1 + length q
length-times g [] h = omega (arith, length-replicate (length g - 1) Zero)
length-times g (b ∷ q) h = omega (arith, length-add (scale b g ++ replicate (length q) Zero) (Zero ∷ times g q), length-append (scale b g) (replicate (length q) Zero), length-scale b g, length-replicate (length q) Zero)

add_assoc : (xs ys zs : List Bit) → length xs ≡ length ys → length ys ≡ length zs → add xs (add ys zs) ≡ add (add xs ys) zs
add_assoc [] ys zs h k = refl
add_assoc (x ∷ xs) [] zs h k = absurd (omega arith)
add_assoc (x ∷ xs) (y ∷ ys) [] h k = absurd (omega arith)
add_assoc (x ∷ xs) (y ∷ ys) (z ∷ zs) h k = rw (plus_assoc x y z, add_assoc xs ys zs (omega arith) (omega arith)) refl

pub add_append : (xs ys us vs : List Bit) → length xs ≡ length ys → add (xs ++ us) (ys ++ vs) ≡ add xs ys ++ add us vs
add_append [] [] us vs h = refl
add_append [] (y ∷ ys) us vs h = absurd (omega arith)
add_append (x ∷ xs) [] us vs h = absurd (omega arith)
add_append (x ∷ xs) (y ∷ ys) us vs h = rw (add_append xs ys us vs (omega arith)) refl

pub add_zeros : (n : ℕ) (xs : List Bit) → n ≡ length xs → add xs (replicate n Zero) ≡ xs
add_zeros n [] h = refl
add_zeros n (x ∷ xs) h = rw h (rw (plus_zero x, add_zeros (length xs) xs refl) refl)

pub zeros_add : (n : ℕ) (ys : List Bit) → n ≡ length ys → add (replicate n Zero) ys ≡ ys
zeros_add n [] h = rw h refl
zeros_add n (y ∷ ys) h = rw h (rw (zeros_add (length ys) ys refl) refl)

pub zeros_more : (n : ℕ) → replicate n Zero ++ Zero ∷ [] ≡ Zero ∷ replicate n Zero
zeros_more zero = refl
zeros_more (suc n) = rw (zeros_more n) refl

grown : (q : List Bit) (b : Bit) → replicate (length (q ++ b ∷ [])) Zero ≡ replicate (length q) Zero ++ Zero ∷ []
grown [] b = refl
grown (x ∷ q) b = rw (grown q b) refl

zeros_of : (g : List Bit) → 1 ≤ length g → Zero ∷ replicate (length g - 1) Zero ≡ replicate (length g) Zero
zeros_of [] h = absurd (omega arith)
zeros_of (x ∷ g) h = let e : suc (length g) - 1 ≡ length g = omega arith in rw e refl

times_first : (g : List Bit) (b : Bit) → 1 ≤ length g → add (scale b g ++ []) (Zero ∷ replicate (length g - 1) Zero) ≡ add (replicate (length g - 1) Zero ++ Zero ∷ []) (scale b g)
times_first g b h =
    let left : add (scale b g) (replicate (length g) Zero) ≡ scale b g = add_zeros (length g) (scale b g) (sym (length-scale b g)) in
    let right : add (replicate (length g) Zero) (scale b g) ≡ scale b g = zeros_add (length g) (scale b g) (sym (length-scale b g)) in
    rw (append-nil, zeros_more (length g - 1), zeros_of g h) (left ∙ sym right)

pub times_more : (g q : List Bit) (b : Bit) → 1 ≤ length g → times g (q ++ b ∷ []) ≡ add (times g q ++ Zero ∷ []) (replicate (length q) Zero ++ scale b g)
times_more g [] b h = times_first g b h
times_more g (c ∷ q) b h =
    let A : List Bit = scale c g ++ replicate (length q) Zero in
    let B : List Bit = Zero ∷ times g q in
    let C : List Bit = replicate (length q) Zero ++ scale b g in
    let a_long : length A ≡ length g + length q = length-append (scale c g) (replicate (length q) Zero) ∙ rw (length-scale c g, length-replicate (length q) Zero) refl in
    let b_long : length B ≡ length g + length q = omega (arith, length-times g q h) in
    let c_long : length C ≡ length g + length q = omega (arith, length-append (replicate (length q) Zero) (scale b g), length-scale b g, length-replicate (length q) Zero) in
    let longer : scale c g ++ replicate (length (q ++ b ∷ [])) Zero ≡ A ++ Zero ∷ [] = rw (grown q b, append_assoc) refl in
    let split : add (A ++ Zero ∷ []) (add (B ++ Zero ∷ []) (Zero ∷ C)) ≡ add (add (A ++ Zero ∷ []) (B ++ Zero ∷ [])) (Zero ∷ C) =
    add_assoc (A ++ Zero ∷ []) (B ++ Zero ∷ []) (Zero ∷ C) (omega (arith, length-append A (Zero ∷ []), length-append B (Zero ∷ []))) (omega (arith, length-append B (Zero ∷ []))) in
    rw (longer, times_more g q b h) (split ∙ ap (λ front. add front (Zero ∷ C)) (add_append A B (Zero ∷ []) (Zero ∷ []) (a_long ∙ sym b_long)))

-- the quotient is as long as the block
pub quotient_long : (g a p : List Bit) → 1 ≤ length g → (parity : IsParity g a p) → length parity.quotient ≡ length a
quotient_long g a p some parity = omega (arith, ap length parity.product, length-times g parity.quotient some, length-append a p, parity.size)

pub scale_first : (b : Bit) (g : List Bit) → scale b (One ∷ g) ≡ b ∷ scale b g
scale_first Zero g = refl
scale_first One g = refl

-- no block has the parity of zeros
pub parity_none : (low : List Bit) → IsParity (One ∷ low) [] (replicate (length low) Zero)
parity_none low =
    let less : suc (length low) - 1 ≡ length low = omega arith in
    record {
      size = length-replicate (length low) Zero ∙ sym less;
      quotient = [];
      product = rw less refl;
    }

-- The parity with one more bit x: the old one moved up a place, less the polynomial where the term that left, plus x, is one.
pub parity_more : (low a p s : List Bit) (x c : Bit) → p ++ Zero ∷ [] ≡ plus c x ∷ s → IsParity (One ∷ low) a p → IsParity (One ∷ low) (a ++ x ∷ []) (add s (scale c low))
parity_more low a p s x c moved known =
    let g : List Bit = One ∷ low in
    let q : List Bit = known.quotient in
    let zeros : List Bit = replicate (length a) Zero in
    let p_long : length p ≡ length low = omega (arith, known.size) in
    let s_long : length s ≡ length low = omega (arith, ap length moved, length-append p (Zero ∷ [])) in
    let long : length q ≡ length a = quotient_long g a p (omega arith) known in
    let more : times g (q ++ c ∷ []) ≡ add (times g q ++ Zero ∷ []) (replicate (length q) Zero ++ scale c g) = times_more g q c (omega arith) in
    let front : times g q ++ Zero ∷ [] ≡ a ++ plus c x ∷ s = ap (λ t. t ++ Zero ∷ []) (sym known.product) ∙ rw append_assoc (ap (λ t. a ++ t) moved) in
    let back : replicate (length q) Zero ++ scale c g ≡ zeros ++ c ∷ scale c low = rw (long, scale_first c low) refl in
    let apart : add (a ++ plus c x ∷ s) (zeros ++ c ∷ scale c low) ≡ add a zeros ++ add (plus c x ∷ s) (c ∷ scale c low) =
    add_append a zeros (plus c x ∷ s) (c ∷ scale c low) (sym (length-replicate (length a) Zero)) in
    let next : times g (q ++ c ∷ []) ≡ a ++ x ∷ add s (scale c low) = more ∙ rw (front, back) (apart ∙ rw (add_zeros (length a) a refl, plus_around c x) refl) in
    record {
      size = omega (arith, length-add s (scale c low));
      quotient = q ++ c ∷ [];
      product = rw append_assoc (sym next);
    }
