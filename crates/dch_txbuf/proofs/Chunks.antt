-- Octets in blocks are read again.
use Rattle.std.proofs.Common.{◌≡◌, ◌+◌, ◌-◌, ◌*◌, ◌<◌, ◌≤◌, ℕ, zero, suc, List, [], ◌∷◌, ◌++◌, length, get_or, drop, take, arith, refl, sym, ap, ap₂, ◌∙◌, append_assoc, length-append, length-drop, ⊎_elim}
use Rattle.std.specs.Prelude.{min, replicate}
use Rattle.std.proofs.lemmas.Bool.{cases_lt}
use Rattle.std.proofs.lemmas.List.{append-nil, drop-append-le, drop-drop, length-replicate, length-take-le, take-append-drop, take-append-le, take_all, take_at}
use Rattle.std.proofs.Math.Seq.{take-add}
use Rattle.dch_txbuf.specs.Chunks.{AreWhole, chunked, joined}
use Rattle.dch_txbuf.specs.Rows.{padded}

-- one block more
pub chunked_next : (n : ℕ) (octets : List ℕ) → chunked (n + 1) octets ≡ chunked n octets ++ padded (take 64 (drop (64 * n) octets)) ∷ []
chunked_next zero octets = refl
chunked_next (suc n) octets =
    let e : suc n + 1 ≡ suc (n + 1) = omega arith in
    let f : 64 * n + 64 ≡ 64 * suc n = omega arith in
    ap (λ k. chunked k octets) e
    ∙ ap (λ bs. padded (take 64 octets) ∷ bs) (chunked_next n (drop 64 octets) ∙ ap (λ xs. chunked n (drop 64 octets) ++ padded (take 64 xs) ∷ []) (drop-drop (64 * n) 64 octets ∙ ap (λ k. drop k octets) (g n)))
  where
    g : (n : ℕ) → 64 + 64 * n ≡ 64 * suc n
    g n = omega arith

behind : (b xs : List ℕ) → length b ≡ 64 → drop 64 (b ++ xs) ≡ xs
behind b xs l = ap (λ n. drop n (b ++ xs)) (sym l) ∙ at b xs
  where
    at : (b xs : List ℕ) → drop (length b) (b ++ xs) ≡ xs
    at [] xs = refl
    at (x ∷ b) xs = at b xs

drop_none : (k : ℕ) → drop {A = ℕ} k [] ≡ []
drop_none zero = refl
drop_none (suc k) = refl

-- octets behind whole blocks
pub drop_blocks : (n : ℕ) (bs : List (List ℕ)) → AreWhole bs → drop (64 * n) (joined bs) ≡ joined (drop n bs)
drop_blocks zero bs w = refl
drop_blocks (suc n) [] w = drop_none (64 * suc n)
drop_blocks (suc n) (b ∷ bs) w =
    let e : 64 * suc n ≡ 64 + 64 * n = omega arith in
    ap (λ k. drop k (b ++ joined bs)) e
    ∙ (sym (drop-drop (64 * n) 64 (b ++ joined bs))
    ∙ (ap (λ xs. drop (64 * n) xs) (behind b (joined bs) w.0) ∙ drop_blocks n bs w.1))

pub length-chunked : (n : ℕ) (octets : List ℕ) → length (chunked n octets) ≡ n
length-chunked zero octets = refl
length-chunked (suc n) octets = ap suc (length-chunked n (drop 64 octets))

-- what is left of octets, at most a block of them
pub piece_is : (octets : List ℕ) (from count : ℕ) → from ≤ length octets → count ≡ min (length octets) (from + 64) - from → take count (drop from octets) ≡ take 64 (drop from octets)
piece_is octets from count l e = ⊎_elim
    (λ (m : length octets < from + 64). take_all count (drop from octets) (omega (arith, e, length-drop from octets)) ∙ sym (take_all 64 (drop from octets) (omega (arith, m, length-drop from octets))))
    (λ (m : from + 64 ≤ length octets). let q : count ≡ 64 = omega (arith, e, m) in ap (λ n. take n (drop from octets)) q)
    (cases_lt (length octets) (from + 64))

-- so many octets of what blocks hold, where they stand in one block
pub piece_at : (rows : List (List ℕ)) (block from done i at count : ℕ) → AreWhole rows → block + i < length rows → from + done ≡ 64 * i + at → at + count ≤ 64 → take count (drop at (get_or rows (block + i) [])) ≡ take count (drop done (drop from (joined (drop block rows))))
piece_at rows block from done i at count whole inside place fits = sym (
    ap (λ xs. take count xs) (drop-drop done from (joined (drop block rows)) ∙ (ap (λ n. drop n (joined (drop block rows))) place ∙ (sym (other (64 * i) at (joined (drop block rows))) ∙ ap (λ xs. drop at xs) (drop_blocks i (drop block rows) (whole_drop block rows whole) ∙ ap joined (drop-drop i block rows ∙ ap (λ n. drop n rows) (swap i block))))))
    ∙ within rows (block + i) inside whole)
  where
    swap : (a b : ℕ) → b + a ≡ b + a
    swap a b = refl

    other : (a b : ℕ) (xs : List ℕ) → drop b (drop a xs) ≡ drop (a + b) xs
    other a b xs = drop-drop b a xs

    whole_drop : (n : ℕ) (bs : List (List ℕ)) → AreWhole bs → AreWhole (drop n bs)
    whole_drop zero bs w = w
    whole_drop (suc n) [] w = w
    whole_drop (suc n) (b ∷ bs) w = whole_drop n bs w.1

    within : (rows : List (List ℕ)) (k : ℕ) → k < length rows → AreWhole rows → take count (drop at (joined (drop k rows))) ≡ take count (drop at (get_or rows k []))
    within [] k l w = absurd (omega (arith, l))
    within (b ∷ bs) zero l w =
        let short : at ≤ length b = omega (arith, fits, w.0) in
        let long : count ≤ length (drop at b) = omega (arith, fits, w.0, length-drop at b) in
        ap (λ xs. take count xs) (drop-append-le at b (joined bs) short) ∙ take-append-le count (drop at b) (joined bs) long
    within (b ∷ bs) (suc k) l w = within bs k (omega (arith, l)) w.1

-- one piece more is copied
pub copied_more : (out now source piece : List ℕ) (done count : ℕ) → now ≡ take done out ++ (piece ++ drop (done + count) out) → done + count ≤ length out → length piece ≡ count → take done out ≡ take done source → piece ≡ take count (drop done source) → take (done + count) now ≡ take (done + count) source
copied_more out now source piece done count e fits long before here =
    ap (λ xs. take (done + count) xs) (e ∙ sym (append_assoc (take done out) piece (drop (done + count) out)))
    ∙ (take_at (take done out ++ piece) (drop (done + count) out) (done + count) (omega (arith, length-append (take done out) piece, length-take-le done out (omega (arith, fits)), long))
    ∙ (ap₂ (λ a b. a ++ b) before here ∙ sym (take-add done count source)))

-- how long a block is
pub block_long : (rows : List (List ℕ)) (k : ℕ) → k < length rows → AreWhole rows → length (get_or rows k []) ≡ 64
block_long [] k l w = absurd (omega (arith, l))
block_long (b ∷ bs) zero l w = w.0
block_long (b ∷ bs) (suc k) l w = block_long bs k (omega (arith, l)) w.1

-- a block of octets has 64
padded_long : (octets : List ℕ) → length octets ≤ 64 → length (padded octets) ≡ 64
padded_long octets l = omega (arith, l, length-append octets (replicate (64 - length octets) 0), length-replicate {A = ℕ} (64 - length octets) 0)

take_few : (k : ℕ) (xs : List ℕ) → length (take k xs) ≤ k
take_few zero xs = omega arith
take_few (suc k) [] = omega arith
take_few (suc k) (x ∷ xs) = omega (arith, take_few k xs)

pub chunked_whole : (n : ℕ) (octets : List ℕ) → AreWhole (chunked n octets)
chunked_whole zero octets = tt
chunked_whole (suc n) octets = (padded_long (take 64 octets) (take_few 64 octets), chunked_whole n (drop 64 octets))

-- what was put into blocks is read again
pub read_back : (n : ℕ) (octets : List ℕ) → length octets ≤ 64 * n → take (length octets) (joined (chunked n octets)) ≡ octets
read_back zero [] l = refl
read_back zero (x ∷ octets) l = absurd (omega (arith, l))
read_back (suc n) octets l = ⊎_elim (big (λ m. read_back n (drop 64 octets) (omega (arith, l, m, length-drop 64 octets)))) small (cases_lt 64 (length octets))
  where
    rest : List ℕ
    rest = joined (chunked n (drop 64 octets))

    small : length octets ≤ 64 → take (length octets) (padded (take 64 octets) ++ joined (chunked n (drop 64 octets))) ≡ octets
    small m =
        ap (λ b. take (length octets) (padded b ++ rest)) (take_all 64 octets m)
        ∙ (ap (λ xs. take (length octets) xs) (append_assoc octets (replicate (64 - length octets) 0) rest)
        ∙ take_at octets (replicate (64 - length octets) 0 ++ rest) (length octets) refl)

    big : (64 < length octets → take (length (drop 64 octets)) (joined (chunked n (drop 64 octets))) ≡ drop 64 octets) → 64 < length octets → take (length octets) (padded (take 64 octets) ++ joined (chunked n (drop 64 octets))) ≡ octets
    big again m =
        let long : length (take 64 octets) ≡ 64 = length-take-le 64 octets (omega (arith, m)) in
        let none : 64 - length (take 64 octets) ≡ 0 = omega (arith, long) in
        let split : length octets ≡ 64 + length (drop 64 octets) = omega (arith, m, length-drop 64 octets) in
        ap (λ k. take (length octets) ((take 64 octets ++ replicate k 0) ++ rest)) none
        ∙ (ap (λ b. take (length octets) (b ++ rest)) (append-nil (take 64 octets))
        ∙ (ap (λ k. take k (take 64 octets ++ rest)) split
        ∙ (take-add 64 (length (drop 64 octets)) (take 64 octets ++ rest)
        ∙ (ap₂ (λ a b. a ++ b) (take_at (take 64 octets) rest 64 long) (ap (λ xs. take (length (drop 64 octets)) xs) (behind (take 64 octets) rest long) ∙ again m)
        ∙ take-append-drop 64 octets))))
