-- What is left of a list whose front was lent and written over.
use Rattle.std.proofs.Common.{◌≡◌, ◌≤◌, ℕ, zero, suc, List, [], ◌∷◌, ◌++◌, length, take, drop, arith, refl, ap, sym, ◌∙◌, length-append, length-drop, append_assoc, append-nil, ◌+◌, ◌-◌}
use Rattle.std.proofs.Math.Seq.{take-length, drop-length}
use Rattle.std.specs.Prelude.{slice_set}
use Rattle.std.proofs.lemmas.List.{take-append-le, length-take-le, drop-drop, drop-take}
use Rattle.dch_accept.specs.Frames.{overwritten}

pub take_twice : {X : Type 0} (k n : ℕ) (xs : List X) → k ≤ n → take k (take n xs) ≡ take k xs
take_twice zero n xs most = refl
take_twice (suc k) zero xs most = absurd (omega arith)
take_twice (suc k) (suc n) [] most = refl
take_twice (suc k) (suc n) (x ∷ xs) most = ap (λ ys. x ∷ ys) (take_twice k n xs (omega arith))

front_alone : {X : Type 0} (k : ℕ) (xs ws : List X) → take k (ws ++ drop (length ws) xs) ≡ take k (ws ++ drop (length ws) (take k xs))
front_alone zero xs ws = refl
front_alone (suc k) xs [] = sym (take_twice (suc k) (suc k) xs (omega arith))
front_alone (suc k) [] (w ∷ ws) = refl
front_alone (suc k) (x ∷ xs) (w ∷ ws) = ap (λ ys. w ∷ ys) (front_alone k xs ws)

-- the front of n elements, of which k are shown: what is shown was written over
pub front_written : {X : Type 0} (k n : ℕ) (xs ws : List X) → n ≡ length xs → k ≤ n → let zs = ws ++ drop (length ws) xs in take k (take n (zs ++ drop (length zs) xs)) ≡ overwritten (take k xs) ws
front_written k n xs ws long room =
    let zs = ws ++ drop (length ws) xs in
    let enough : n ≤ length zs = omega (arith, length-append ws (drop (length ws) xs), length-drop (length ws) xs) in
    take_twice k n (zs ++ drop (length zs) xs) room
    ∙ take-append-le k zs (drop (length zs) xs) (omega arith)
    ∙ front_alone k xs ws
    ∙ ap (λ m. take m (ws ++ drop (length ws) (take k xs))) (sym (length-take-le k xs (omega arith)))

-- the same of a part of what is shown
pub part_written : {X : Type 0} (i k n : ℕ) (xs ws : List X) → n ≡ length xs → k ≤ n → i ≤ k
    → let zs = take i xs ++ (ws ++ drop (length ws) (drop i xs)) in take k (take n (zs ++ drop (length zs) xs)) ≡ overwritten (take k xs) (take i (take k xs) ++ ws)
part_written {X} i k n xs ws long room inside =
    let front : List X = take i xs ++ ws in
    let sized : length front ≡ i + length ws = length-append (take i xs) ws ∙ ap (λ m. m + length ws) (length-take-le i xs (omega arith)) in
    let whole : take i xs ++ (ws ++ drop (length ws) (drop i xs)) ≡ front ++ drop (length front) xs =
    rw (sized, ← drop-drop (length ws) i xs) (sym (append_assoc (take i xs) ws (drop (length ws) (drop i xs)))) in
    rw (whole, take_twice i k xs inside) (front_written k n xs front long room)

-- a part of what is shown of a list is a part of the list
pub part_shown : {X : Type 0} (from size k : ℕ) (xs : List X) → from + size ≤ k → take size (drop from xs) ≡ take size (drop from (take k xs))
part_shown {X} from size k xs inside =
    let more : k ≡ from + (k - from) = omega arith in
    let shown : drop from (take k xs) ≡ take (k - from) (drop from xs) = ap (λ n. drop from (take n xs)) more ∙ drop-take from (k - from) xs in
    sym (ap (take size) shown ∙ take_twice size (k - from) (drop from xs) (omega arith))

-- the front of a list with one element set
pub take-set : {X : Type 0} (k : ℕ) (xs : List X) (i : ℕ) (x : X) → take k (slice_set xs i x) ≡ slice_set (take k xs) i x
take-set zero xs i x = refl
take-set (suc k) [] i x = refl
take-set (suc k) (y ∷ xs) zero x = refl
take-set (suc k) (y ∷ xs) (suc i) x = ap (λ ys. y ∷ ys) (take-set k xs i x)

-- a list that was written over whole
pub whole_written : {X : Type 0} (n : ℕ) (xs ws : List X) → n ≡ length xs → length ws ≡ length xs → take n (ws ++ drop (length ws) xs) ≡ ws
whole_written n xs ws long same =
    let none : drop (length ws) xs ≡ [] = ap (λ k. drop k xs) same ∙ drop-length xs in
    ap (λ zs. take n (ws ++ zs)) none ∙ ap (take n) (append-nil ws) ∙ ap (λ k. take k ws) (long ∙ sym same) ∙ take-length ws
