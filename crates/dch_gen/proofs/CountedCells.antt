-- Cells that are counted part by part.
use Rattle.std.proofs.Common.{◌≡◌, ◌≤◌, ◌+◌, ◌-◌, ◌∙◌, ℕ, List, Bool, cond, take, drop, arith, ap, sym}
use Rattle.std.proofs.Math.Seq.{take-add}
use Rattle.std.proofs.lemmas.List.Sums.{sum_by-append, sum_by-take-drop}
use Rattle.std.specs.Prelude.{count_by, slice_range}

-- a part more
pub count_more : {X : Type 0} (p : X → Bool) (xs : List X) (a b : ℕ) → a ≤ b → count_by p (take b xs) ≡ count_by p (take a xs) + count_by p (slice_range xs a b)
count_more p xs a b after =
    let parts : b ≡ a + (b - a) = omega (arith, after) in
    ap (λ n. count_by p (take n xs)) parts ∙ ap (λ ys. count_by p ys) (take-add a (b - a) xs) ∙ sum_by-append (λ x. cond (p x) 1 0) (take a xs) (take (b - a) (drop a xs))

-- and what is left
pub count_rest : {X : Type 0} (p : X → Bool) (xs : List X) (a : ℕ) → count_by p xs ≡ count_by p (take a xs) + count_by p (drop a xs)
count_rest p xs a = sym (sum_by-take-drop (λ x. cond (p x) 1 0) xs a)
