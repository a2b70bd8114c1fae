-- Runs of missing numbers, and how many of them fit.
use Rattle.std.proofs.Common.{◌≡◌, ◌+◌, ◌<◌, ◌≤◌, ℕ, zero, suc, List, [], ◌∷◌, ◌++◌, Bool, true, false, cond, All, get_or, length, take, drop, map, set, arith, refl, sym, ap, ◌∙◌}
use Rattle.std.specs.Prelude.{◌==◌, ◌&&◌, nat_lt}
use Rattle.std.proofs.lemmas.Bool.{cond_both}
use Rattle.std.proofs.lemmas.Bool.Decides.{nat_tests}
use Rattle.std.proofs.lemmas.List.{drop-set-lt, length-take-le, drop_more, take_more, take_more_set}
use Rattle.dch_am.specs.Status.{fits, most, runs, runs_from}
use Rattle.dch_amrecv.specs.Places.{laid}

pub laid_front : {A : Type 0} (n : ℕ) (xs ys : List A) → n ≤ length xs → n ≤ length ys → take n (laid xs ys) ≡ take n xs
laid_front zero xs ys a b = refl
laid_front (suc n) [] ys a b = absurd (omega arith)
laid_front (suc n) (x ∷ xs) [] a b = absurd (omega arith)
laid_front (suc n) (x ∷ xs) (y ∷ ys) a b = ap (λ zs. x ∷ zs) (laid_front n xs ys (omega arith) (omega arith))

pub length-laid : {A : Type 0} (xs ys : List A) → length (laid xs ys) ≡ length ys
length-laid [] ys = refl
length-laid (x ∷ xs) [] = refl
length-laid (x ∷ xs) (y ∷ ys) = ap suc (length-laid xs ys)

-- so many runs follow each other
abbrev pub AreShort : List (ℕ × ℕ) → Type 0
AreShort ps = All (λ p. p.1 < 16) ps

most_here : (bits n : ℕ) (b : Bool) → fits bits (suc n) ≡ b → 20 ≤ bits → fits bits (most bits n) ≡ true → fits bits (cond b (suc n) (most bits n)) ≡ true
most_here bits n true e room f = e
most_here bits n false e room f = f

pub most_fits : (bits n : ℕ) → 20 ≤ bits → fits bits (most bits n) ≡ true
most_fits bits zero room = grind (arith, nat_tests)
most_fits bits (suc n) room = most_here bits n (fits bits (suc n)) refl room (most_fits bits n room)

runs_from_short : (first more : ℕ) (xs : List ℕ) → more < 16 → AreShort (runs_from first more xs)
runs_from_short first more [] l = λ k d b. one k d b
  where
    one : (k : ℕ) (d : ℕ × ℕ) → k < 1 → (get_or ((first, more) ∷ []) k d).1 < 16
    one zero d b = l
    one (suc k) d b = absurd (omega arith)
runs_from_short first more (x ∷ xs) l =
    cond_both ((x == first + more + 1) && nat_lt more 15) (runs_from first (more + 1) xs) ((first, more) ∷ runs_from x 0 xs) AreShort
    (λ (e : ((x == first + more + 1) && nat_lt more 15) ≡ true). let below : more < 15 = grind (arith, nat_tests) in runs_from_short first (more + 1) xs (omega arith))
    (λ e. short_more (first, more) (runs_from x 0 xs) l (runs_from_short x 0 xs (omega arith)))
  where
    short_more : (p : ℕ × ℕ) (ps : List (ℕ × ℕ)) → p.1 < 16 → AreShort ps → AreShort (p ∷ ps)
    short_more p ps a all zero d b = a
    short_more p ps a all (suc k) d b = all k d (omega arith)

pub runs_short : (xs : List ℕ) → AreShort (runs xs)
runs_short [] = λ k d b. absurd (omega arith)
runs_short (x ∷ xs) = runs_from_short x 0 xs (omega arith)

heads : {A : Type 0} (x y : A) (xs ys : List A) → (x ∷ xs) ≡ (y ∷ ys) → (x ≡ y) × (xs ≡ ys)
heads x y xs ys e = (cc, cc)

-- one pair more is changed
pub changed_more : (f : ℕ × ℕ → ℕ × ℕ) (i : ℕ) (ps first : List (ℕ × ℕ)) → i < length ps → i < length first → take i ps ≡ map f (take i first) → drop i ps ≡ drop i first → (take (i + 1) (set ps i (f (get_or ps i (0, 0)))) ≡ map f (take (i + 1) first)) × (drop (i + 1) (set ps i (f (get_or ps i (0, 0)))) ≡ drop (i + 1) first)
changed_more f i ps first l m front back =
    let here = heads (get_or ps i (0, 0)) (get_or first i (0, 0)) (drop (i + 1) ps) (drop (i + 1) first) (sym (drop_more ps i (0, 0) l) ∙ (back ∙ drop_more first i (0, 0) m)) in (
      take_more_set ps i (f (get_or ps i (0, 0))) l ∙ (ap (λ xs. xs ++ f (get_or ps i (0, 0)) ∷ []) front ∙ (ap (λ x. map f (take i first) ++ f x ∷ []) here.0 ∙ sym (more f i first m))),
      drop-set-lt (i + 1) ps i (f (get_or ps i (0, 0))) (omega arith) ∙ here.1,
    )
  where
    map_push : (f : ℕ × ℕ → ℕ × ℕ) (xs : List (ℕ × ℕ)) (x : ℕ × ℕ) → map f (xs ++ x ∷ []) ≡ map f xs ++ f x ∷ []
    map_push f [] x = refl
    map_push f (y ∷ xs) x = ap (λ ys. f y ∷ ys) (map_push f xs x)

    more : (f : ℕ × ℕ → ℕ × ℕ) (i : ℕ) (xs : List (ℕ × ℕ)) → i < length xs → map f (take (i + 1) xs) ≡ map f (take i xs) ++ f (get_or xs i (0, 0)) ∷ []
    more f i xs l = ap (map f) (take_more xs i (0, 0) l) ∙ map_push f (take i xs) (get_or xs i (0, 0))

pub take-numbered_short : (n : ℕ) (f : ℕ × ℕ → ℕ × ℕ) (ps : List (ℕ × ℕ)) → ((p : ℕ × ℕ) → ((f p).0 < 4096) × ((f p).1 ≡ p.1)) → AreShort ps → All (λ p. (p.0 < 4096) × (p.1 < 16)) (map f (take n ps))
take-numbered_short zero f ps small all k d b = absurd (omega arith)
take-numbered_short (suc n) f [] small all k d b = absurd (omega arith)
take-numbered_short (suc n) f (p ∷ ps) small all zero d b = ((small p).0, omega (arith, (small p).1, all 0 p (omega arith)))
take-numbered_short (suc n) f (p ∷ ps) small all (suc k) d b = take-numbered_short n f ps small (λ j e l. all (suc j) e (omega arith)) k d (omega arith)

take_exact : {A : Type 0} (n : ℕ) (xs ys : List A) → length xs ≡ n → take n (xs ++ ys) ≡ xs
take_exact zero [] ys e = refl
take_exact zero (x ∷ xs) ys e = absurd (omega arith)
take_exact (suc n) [] ys e = absurd (omega arith)
take_exact (suc n) (x ∷ xs) ys e = ap (λ zs. x ∷ zs) (take_exact n xs ys (omega arith))

-- the pairs that are written
pub told_pairs : (f : ℕ × ℕ → ℕ × ℕ) (n : ℕ) (rs zeros out now rest : List (ℕ × ℕ)) → out ≡ laid rs zeros → length zeros ≡ 62 → n ≤ 62 → n ≤ length rs → now ≡ map f (take n out) → take n (now ++ rest) ≡ map f (take n rs)
told_pairs f n rs zeros out now rest e size few all is =
    let front : take n out ≡ take n rs = ap (take n) e ∙ laid_front n rs zeros all (omega arith) in
    let these : now ≡ map f (take n rs) = is ∙ ap (map f) front in
    take_exact n now rest (ap length these ∙ (mapped f (take n rs) ∙ length-take-le n rs all)) ∙ these
  where
    mapped : (f : ℕ × ℕ → ℕ × ℕ) (xs : List (ℕ × ℕ)) → length (map f xs) ≡ length xs
    mapped f [] = refl
    mapped f (x ∷ xs) = ap suc (mapped f xs)
