-- The runs of vacant places, found one place after another.
use Rattle.std.proofs.Common.{◌≡◌, ◌+◌, ◌<◌, ◌≤◌, ℕ, zero, suc, List, [], ◌∷◌, Bool, true, false, cond, Option, Some, None, length, drop, take, set, arith, refl, sym, ap, ◌∙◌}
use Rattle.std.specs.Prelude.{◌&&◌, ◌==◌, nat_lt}
use Rattle.std.proofs.lemmas.Bool.Decides.{nat_tests}
use Rattle.std.proofs.lemmas.List.{drop_all}
use Rattle.dch_am.specs.Status.{runs, runs_from}
use Rattle.dch_amrecv.specs.Places.{front, is_kept, laid, vacant}
use Rattle.dch_amrecv.proofs.Fronts.{vacant_kept, vacant_none}

-- up to a place, so many runs are written, and one goes on
pub record Found {A : Type 0} (ps : List (Option A)) (old out : List (ℕ × ℕ)) (i count first more : ℕ) : Type 0 where
  pub rest : drop count (runs (vacant 0 ps)) ≡ runs_from first more (vacant i (drop i ps))
  pub written : out ≡ laid (take count (runs (vacant 0 ps))) old
  pub below : first + more < i
  pub few : more < 16
  pub within : count < i

pub found_first : {A : Type 0} (ps : List (Option A)) (old : List (ℕ × ℕ)) → front ps ≡ 0 → 0 < length ps → Found ps old old 1 0 0 0
found_first [] old e l = absurd (omega arith)
found_first (None ∷ ps) old e l = record { rest = refl; written = refl; below = omega arith; few = omega arith; within = omega arith }
found_first (Some x ∷ ps) old e l = absurd (omega arith)

pub found_kept : {A : Type 0} (ps : List (Option A)) (old out : List (ℕ × ℕ)) (i count first more : ℕ) → Found ps old out i count first more → is_kept ps i ≡ true → Found ps old out (i + 1) count first more
found_kept ps old out i count first more f e =
    record { rest = f.rest ∙ ap (runs_from first more) (vacant_kept i i ps e); written = f.written; below = omega (arith, f.below); few = f.few; within = omega (arith, f.within) }

here : {A : Type 0} (ps : List (Option A)) (i first more : ℕ) (b : Bool) → i < length ps → is_kept ps i ≡ false → ((i == first + more + 1) && nat_lt more 15) ≡ b → runs_from first more (vacant i (drop i ps)) ≡ cond b (runs_from first (more + 1) (vacant (i + 1) (drop (i + 1) ps))) ((first, more) ∷ runs_from i 0 (vacant (i + 1) (drop (i + 1) ps)))
here ps i first more b l e j =
    ap (runs_from first more) (vacant_none i i ps l e)
    ∙ ap (λ c. cond c (runs_from first (more + 1) (vacant (i + 1) (drop (i + 1) ps))) ((first, more) ∷ runs_from i 0 (vacant (i + 1) (drop (i + 1) ps)))) j

pub found_more : {A : Type 0} (ps : List (Option A)) (old out : List (ℕ × ℕ)) (i count first more : ℕ) → Found ps old out i count first more → i < length ps → is_kept ps i ≡ false → ((i == first + more + 1) && nat_lt more 15) ≡ true → Found ps old out (i + 1) count first (more + 1)
found_more ps old out i count first more f l e j =
    let bounds : (i ≡ first + more + 1) × (more < 15) = grind (arith, nat_tests) in
    record { rest = f.rest ∙ here ps i first more true l e j; written = f.written; below = omega (arith, f.below, bounds.0); few = omega (arith, bounds.1); within = omega (arith, f.within) }

next_of : (count : ℕ) (all : List (ℕ × ℕ)) (p : ℕ × ℕ) (rest : List (ℕ × ℕ)) → drop count all ≡ p ∷ rest → drop (suc count) all ≡ rest
next_of zero [] p rest e = absurd (cc)
next_of (suc count) [] p rest e = absurd (cc)
next_of zero (q ∷ all) p rest e = cc
next_of (suc count) (q ∷ all) p rest e = next_of count all p rest e

laid_next : (count : ℕ) (all old : List (ℕ × ℕ)) (p : ℕ × ℕ) (rest : List (ℕ × ℕ)) → drop count all ≡ p ∷ rest → set (laid (take count all) old) count p ≡ laid (take (suc count) all) old
laid_next zero [] old p rest e = absurd (cc)
laid_next (suc count) [] old p rest e = absurd (cc)
laid_next zero (q ∷ all) [] p rest e = refl
laid_next zero (q ∷ all) (o ∷ old) p rest e = let s : q ≡ p = cc in ap (λ x. x ∷ old) (sym s)
laid_next (suc count) (q ∷ all) [] p rest e = refl
laid_next (suc count) (q ∷ all) (o ∷ old) p rest e = ap (λ xs. q ∷ xs) (laid_next count all old p rest e)

next_more : (count : ℕ) (all : List (ℕ × ℕ)) (p : ℕ × ℕ) (rest : List (ℕ × ℕ)) → drop count all ≡ p ∷ rest → drop (count + 1) all ≡ rest
next_more count all p rest e = let more : count + 1 ≡ suc count = omega arith in ap (λ k. drop k all) more ∙ next_of count all p rest e

laid_more : (count : ℕ) (all old : List (ℕ × ℕ)) (p : ℕ × ℕ) (rest : List (ℕ × ℕ)) → drop count all ≡ p ∷ rest → set (laid (take count all) old) count p ≡ laid (take (count + 1) all) old
laid_more count all old p rest e = let more : suc count ≡ count + 1 = omega arith in laid_next count all old p rest e ∙ ap (λ k. laid (take k all) old) more

pub found_new : {A : Type 0} (ps : List (Option A)) (old out : List (ℕ × ℕ)) (i count first more : ℕ) → Found ps old out i count first more → i < length ps → is_kept ps i ≡ false → ((i == first + more + 1) && nat_lt more 15) ≡ false → Found ps old (set out count (first, more)) (i + 1) (count + 1) i 0
found_new ps old out i count first more f l e j =
    let split : drop count (runs (vacant 0 ps)) ≡ (first, more) ∷ runs_from i 0 (vacant (i + 1) (drop (i + 1) ps)) = f.rest ∙ here ps i first more false l e j in
    record {
      rest = next_more count (runs (vacant 0 ps)) _ _ split;
      written = ap (λ xs. set xs count (first, more)) f.written ∙ laid_more count (runs (vacant 0 ps)) old _ _ split;
      below = omega arith;
      few = omega arith;
      within = omega (arith, f.within);
    }

all_of : (count : ℕ) (all : List (ℕ × ℕ)) (p : ℕ × ℕ) → drop count all ≡ p ∷ [] → (suc count ≡ length all) × (take (suc count) all ≡ all)
all_of zero [] p e = absurd (cc)
all_of (suc count) [] p e = absurd (cc)
all_of zero (q ∷ all) p e = let none : all ≡ [] = cc in (rw none refl, rw none refl)
all_of (suc count) (q ∷ all) p e = let r = all_of count all p e in (omega (arith, r.0), ap (λ xs. q ∷ xs) r.1)

last_split : {A : Type 0} (ps : List (Option A)) (old out : List (ℕ × ℕ)) (i count first more : ℕ) → Found ps old out i count first more → length ps ≤ i → drop count (runs (vacant 0 ps)) ≡ (first, more) ∷ []
last_split ps old out i count first more f l = f.rest ∙ ap (λ xs. runs_from first more (vacant i xs)) (drop_all i ps l)

pub count_is : {A : Type 0} (ps : List (Option A)) (old out : List (ℕ × ℕ)) (i count first more : ℕ) → Found ps old out i count first more → length ps ≤ i → count + 1 ≡ length (runs (vacant 0 ps))
count_is ps old out i count first more f l = let next : count + 1 ≡ suc count = omega arith in next ∙ (all_of count (runs (vacant 0 ps)) _ (last_split ps old out i count first more f l)).0

pub written_is : {A : Type 0} (ps : List (Option A)) (old out : List (ℕ × ℕ)) (i count first more : ℕ) → Found ps old out i count first more → length ps ≤ i → set out count (first, more) ≡ laid (runs (vacant 0 ps)) old
written_is ps old out i count first more f l =
    let split : drop count (runs (vacant 0 ps)) ≡ (first, more) ∷ [] = last_split ps old out i count first more f l in
    ap (λ xs. set xs count (first, more)) f.written
    ∙ (laid_next count (runs (vacant 0 ps)) old _ _ split
    ∙ ap (λ xs. laid xs old) (all_of count (runs (vacant 0 ps)) _ split).1)
