-- Each block has one parity.
use Rattle.std.proofs.Common.{◌≡◌, ◌+◌, ◌≤◌, ℕ, zero, suc, List, [], ◌∷◌, ◌++◌, length, replicate, take, arith, refl, ap, ap₂, sym, ◌∙◌, append_assoc, append-nil, length-append}
use Rattle.std.proofs.Math.Seq.{take-append_seam}
use Rattle.std.proofs.lemmas.List.{length-replicate, append_cancel_left}
use Rattle.dch_bits.specs.declared.bit.Bit.{Bit}
use Rattle.dch_bits.specs.declared.bit.Bit.TheVariants.{Zero, One}
use Rattle.dch_bits.specs.Bits.{plus}
use Rattle.dch_coding.specs.Parity.{add, scale, times, IsParity}
use Rattle.dch_coding.proofs.Products.{plus_back, plus_zero, plus_around, length-scale, length-times, scale_first, quotient_long, parity_none, parity_more}

-- one more bit, whatever it is
parity_next : (low block p : List Bit) (x : Bit) → IsParity (One ∷ low) block p → (q : List Bit) × IsParity (One ∷ low) (block ++ x ∷ []) q
parity_next low block [] x known = (add [] (scale x low), parity_more low block [] [] x x (ap (λ b. b ∷ []) (sym (plus_back Zero x))) known)
parity_next low block (t ∷ p) x known =
    let rest : List Bit = p ++ Zero ∷ [] in
    (add rest (scale (plus t x) low), parity_more low block (t ∷ p) rest x (plus t x) (ap (λ b. b ∷ rest) (sym (plus_back t x))) known)

-- the parity of a block from that of its front
parity_longer : (low block p rest : List Bit) → IsParity (One ∷ low) block p → (q : List Bit) × IsParity (One ∷ low) (block ++ rest) q
parity_longer low block p [] known = (p, rw append-nil known)
parity_longer low block p (x ∷ rest) known =
    let next : (q : List Bit) × IsParity (One ∷ low) (block ++ x ∷ []) q = parity_next low block p x known in
    let longer : (q : List Bit) × IsParity (One ∷ low) ((block ++ x ∷ []) ++ rest) q = parity_longer low (block ++ x ∷ []) next.0 rest next.1 in
    (longer.0, rw append_assoc at longer.1)

pub parity_some : (low block : List Bit) → (p : List Bit) × IsParity (One ∷ low) block p
parity_some low block = parity_longer low [] (replicate (length low) Zero) block (parity_none low)

-- what two lists have in common after a third one is added to both
cancelled : (n : ℕ) (xs ys zs : List Bit) → length xs ≡ length ys → length xs ≡ length zs → take n (add xs ys) ≡ take n (add xs zs) → take n ys ≡ take n zs
cancelled zero xs ys zs h k same = refl
cancelled (suc n) [] [] [] h k same = refl
cancelled (suc n) [] (y ∷ ys) zs h k same = absurd (omega arith)
cancelled (suc n) [] [] (z ∷ zs) h k same = absurd (omega arith)
cancelled (suc n) (x ∷ xs) [] zs h k same = absurd (omega arith)
cancelled (suc n) (x ∷ xs) (y ∷ ys) [] h k same = absurd (omega arith)
cancelled (suc n) (x ∷ xs) (y ∷ ys) (z ∷ zs) h k same =
    let head : plus x y ≡ plus x z = cc in
    let tail : take n (add xs ys) ≡ take n (add xs zs) = cc in
    ap₂ (λ (b : Bit) (bs : List Bit). b ∷ bs) (sym (plus_around x y) ∙ ap (λ b. plus b x) head ∙ plus_around x z) (cancelled n xs ys zs (omega arith) (omega arith) tail)

-- what is added to the product with the rest of a quotient
shift : (low : List Bit) (b : Bit) (n : ℕ) → List Bit
shift low b n = scale b low ++ replicate n Zero

times_first : (low q : List Bit) (b : Bit) → times (One ∷ low) (b ∷ q) ≡ b ∷ add (shift low b (length q)) (times (One ∷ low) q)
unfolding shift
times_first low q b = rw scale_first (rw plus_zero refl)

length-shift : (low : List Bit) (b : Bit) (n : ℕ) → length (shift low b n) ≡ length low + n
unfolding shift
length-shift low b n = omega (arith, length-append (scale b low) (replicate n Zero), length-scale b low, length-replicate n Zero)

-- quotients whose products begin alike are the same
same_quotient : (low q r : List Bit) → length q ≡ length r → take (length q) (times (One ∷ low) q) ≡ take (length q) (times (One ∷ low) r) → q ≡ r
same_quotient low [] [] h same = refl
same_quotient low [] (c ∷ r) h same = absurd (omega arith)
same_quotient low (b ∷ q) [] h same = absurd (omega arith)
same_quotient low (b ∷ q) (c ∷ r) h same =
    let n : ℕ = length q in
    let long : n ≡ length r = omega arith in
    let fronts : take (suc n) (b ∷ add (shift low b n) (times (One ∷ low) q)) ≡ take (suc n) (c ∷ add (shift low c (length r)) (times (One ∷ low) r)) =
    ap (take (suc n)) (sym (times_first low q b)) ∙ same ∙ ap (take (suc n)) (times_first low r c) in
    let head : b ≡ c = cc in
    let tail : take n (add (shift low b n) (times (One ∷ low) q)) ≡ take n (add (shift low c (length r)) (times (One ∷ low) r)) = cc in
    let shifted : shift low c (length r) ≡ shift low b n = ap₂ (shift low) (sym head) (sym long) in
    let left : length (shift low b n) ≡ length (times (One ∷ low) q) = omega (arith, length-shift low b n, length-times (One ∷ low) q (omega arith)) in
    let right : length (shift low b n) ≡ length (times (One ∷ low) r) = omega (arith, length-shift low b n, length-times (One ∷ low) r (omega arith)) in
    let rest : take n (times (One ∷ low) q) ≡ take n (times (One ∷ low) r) = cancelled n (shift low b n) (times (One ∷ low) q) (times (One ∷ low) r) left right (rw shifted at tail) in
    ap₂ (λ (b : Bit) (bs : List Bit). b ∷ bs) head (same_quotient low q r long rest)

pub parity_one : (low block p other : List Bit) → IsParity (One ∷ low) block p → IsParity (One ∷ low) block other → p ≡ other
parity_one low block p other first second =
    let g : List Bit = One ∷ low in
    let some : 1 ≤ length g = omega arith in
    let long : length first.quotient ≡ length block = quotient_long g block p some first in
    let long_other : length second.quotient ≡ length block = quotient_long g block other some second in
    let front : take (length block) (times g first.quotient) ≡ block = ap (take (length block)) (sym first.product) ∙ take-append_seam block p in
    let front_other : take (length block) (times g second.quotient) ≡ block = ap (take (length block)) (sym second.product) ∙ take-append_seam block other in
    let same : first.quotient ≡ second.quotient = same_quotient low first.quotient second.quotient (long ∙ sym long_other) (rw long (front ∙ sym front_other)) in
    append_cancel_left block p other (first.product ∙ ap (times g) same ∙ sym second.product)
