-- A PDU comes to a place.
use Rattle.std.proofs.Common.{is_some, false, slice_get, ⊎_elim, sym, ◌≡◌, ◌+◌, ◌-◌, ◌<◌, ◌≤◌, ℕ, zero, suc, List, [], ◌∷◌, ◌++◌, Option, Some, None, length, set, drop, max, arith, refl, ap, ◌∙◌, length-append}
use Rattle.std.proofs.lemmas.Bool.{cases_lt}
use Rattle.circular_buffer.specs.Buffer.{keep_last}
use Rattle.dch_amrecv.specs.Places.{is_kept, pad, put}

pub set_put : {A : Type 0} (i : ℕ) (x : A) (ps : List (Option A)) → i < length ps → set ps i (Some x) ≡ put i x ps
set_put i x [] l = absurd (omega arith)
set_put zero x (p ∷ ps) l = refl
set_put (suc i) x (p ∷ ps) l = ap (λ xs. p ∷ xs) (set_put i x ps (omega arith))

pub padded_more : {A : Type 0} (i : ℕ) (x : A) (ps : List (Option A)) → length (pad i ps) ≤ i → pad i ps ++ Some x ∷ [] ≡ put i x ps
padded_more zero x [] l = refl
padded_more zero x (p ∷ ps) l = absurd (omega arith)
padded_more (suc i) x [] l = ap (λ xs. None ∷ xs) (padded_more i x [] (omega arith))
padded_more (suc i) x (p ∷ ps) l = ap (λ xs. p ∷ xs) (padded_more i x ps (omega arith))

pub length-pad : {A : Type 0} (i : ℕ) (ps : List (Option A)) → length (pad i ps) ≡ max i (length ps)
length-pad zero ps = omega arith
length-pad {A = A} (suc i) [] = omega (arith, length-pad {A = A} i [])
length-pad (suc i) (p ∷ ps) = omega (arith, length-pad i ps)

pub length-put : {A : Type 0} (i : ℕ) (x : A) (ps : List (Option A)) → length (put i x ps) ≡ max (i + 1) (length ps)
length-put zero x [] = omega arith
length-put zero x (p ∷ ps) = omega arith
length-put (suc i) x [] = omega (arith, length-put i x [])
length-put (suc i) x (p ∷ ps) = omega (arith, length-put i x ps)

pub pad_short : {A : Type 0} (i : ℕ) (ps : List (Option A)) → i ≤ length ps → pad i ps ≡ ps
pad_short zero ps l = refl
pad_short (suc i) [] l = absurd (omega arith)
pad_short (suc i) (p ∷ ps) l = ap (λ xs. p ∷ xs) (pad_short i ps (omega arith))

next : {A : Type 0} (i : ℕ) (ps : List (Option A)) → length ps ≤ i → pad i ps ++ None ∷ [] ≡ pad (suc i) ps
next zero [] l = refl
next zero (p ∷ ps) l = absurd (omega arith)
next (suc i) [] l = ap (λ xs. None ∷ xs) (next i [] (omega arith))
next (suc i) (p ∷ ps) l = ap (λ xs. p ∷ xs) (next i ps (omega arith))

pub pad_next : {A : Type 0} (i : ℕ) (ps : List (Option A)) → length ps ≤ i → pad i ps ++ None ∷ [] ≡ pad (i + 1) ps
pad_next i ps l = let more : suc i ≡ i + 1 = omega arith in next i ps l ∙ ap (λ k. pad k ps) more

pub pushed : {A : Type 0} (xs : List A) (x : A) (capacity : ℕ) → length xs < capacity → keep_last capacity (xs ++ x ∷ []) ≡ xs ++ x ∷ []
pushed xs x capacity room = ap (λ k. drop k (xs ++ x ∷ [])) (none (length-append xs (x ∷ [])))
  where
    none : length (xs ++ x ∷ []) ≡ length xs + 1 → length (xs ++ x ∷ []) - capacity ≡ 0
    none size = omega arith

-- up to a place, or as many as there are
pub pad_most : {A : Type 0} (to i : ℕ) (ps : List (Option A)) → i ≡ max to (length ps) → pad i ps ≡ pad to ps
pad_most to i ps e = ⊎_elim
    (λ (l : to < length ps). pad_short i ps (omega arith) ∙ sym (pad_short to ps (omega arith)))
    (λ (l : length ps ≤ to). let same : i ≡ to = omega arith in ap (λ k. pad k ps) same)
    (cases_lt to (length ps))

pub none_of : {A : Type 0} (p : Option A) → is_some p ≡ false → p ≡ None
none_of None e = refl
none_of (Some x) e = absurd (cc)

pub get_inside : {A : Type 0} (xs : List A) (i : ℕ) → i < length xs → slice_get xs i ≡ None → zero ≡ suc zero
get_inside [] i l e = absurd (omega arith)
get_inside (x ∷ xs) zero l e = absurd (cc)
get_inside (x ∷ xs) (suc i) l e = get_inside xs i (omega arith) e

pub is_kept-pad : {A : Type 0} (n i : ℕ) (ps : List (Option A)) → is_kept ps i ≡ false → is_kept (pad n ps) i ≡ false
is_kept-pad zero i ps e = e
is_kept-pad (suc n) zero [] e = refl
is_kept-pad {A = A} (suc n) (suc i) [] e = is_kept-pad {A = A} n i [] refl
is_kept-pad (suc n) zero (p ∷ ps) e = e
is_kept-pad (suc n) (suc i) (p ∷ ps) e = is_kept-pad n i ps e

set_padded : {A : Type 0} (i : ℕ) (x : A) (ps : List (Option A)) → set (pad (suc i) ps) i (Some x) ≡ put i x ps
set_padded zero x [] = refl
set_padded zero x (p ∷ ps) = refl
set_padded (suc i) x [] = ap (λ xs. None ∷ xs) (set_padded i x [])
set_padded (suc i) x (p ∷ ps) = ap (λ xs. p ∷ xs) (set_padded i x ps)

pub set_pad : {A : Type 0} (i : ℕ) (x : A) (ps : List (Option A)) → set (pad (i + 1) ps) i (Some x) ≡ put i x ps
set_pad i x ps = let next : i + 1 ≡ suc i = omega arith in ap (λ k. set (pad k ps) i (Some x)) next ∙ set_padded i x ps
