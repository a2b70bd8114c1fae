-- The sets and TTIs of channels.
use Rattle.std.proofs.Common.{◌≡◌, ◌+◌, ◌<◌, zero, suc, ◌||◌, ◌&&◌, ◌==◌, Bool, true, false, ℕ, List, [], ◌∷◌, ◌++◌, length, get_or, take, map, Option, Some, None, refl, ap, sym, ◌∙◌, arith, ap₂, ⊎_elim, not}
use Rattle.std.proofs.lemmas.Bool.{cases_Bool}
use Rattle.dch_tree.proofs.FirstFound.{list_any-map}
use Rattle.std.proofs.lemmas.Bool.Decides.{nat_tests}
use Rattle.std.proofs.lemmas.List.{take_more}
use Rattle.std.proofs.lemmas.List.Folds.{list_any-append}
use Rattle.std.specs.List.{list_any}
use Rattle.toml.specs.Data.{Items}
use Rattle.toml.specs.View.{view, items_view}
use Rattle.toml.specs.declared.value.Value.{Value}
use Rattle.dch_tree.specs.declared.side.SetTti.{SetTti}
use Rattle.dch_tree.specs.Sides.{set_and_tti, sets_and_ttis, clashes, clashes_with, set_faults}
use Rattle.dch_tree.specs.Tables.{indexed}
use Rattle.dch_tree.specs.Faults.{first_found}
use Rattle.dch_tree.specs.declared.fault.Fault.{Fault}

pub length-sets_and_ttis : (xs : List Value) → length (sets_and_ttis (items_view xs)) ≡ length xs
unfolding sets_and_ttis
length-sets_and_ttis [] = refl
length-sets_and_ttis (x ∷ xs) = ap (λ n. suc n) (length-sets_and_ttis xs)

pub get_or-sets_and_ttis : (xs : List Value) (i : ℕ) (v : Value) → i < length xs → v ≡ get_or xs i v → get_or (sets_and_ttis (items_view xs)) i None ≡ set_and_tti (view v)
unfolding sets_and_ttis
get_or-sets_and_ttis [] i v inside here = absurd (omega arith)
get_or-sets_and_ttis (x ∷ xs) zero v inside here = ap (λ w. set_and_tti (view w)) (sym here)
get_or-sets_and_ttis (x ∷ xs) (suc i) v inside here = get_or-sets_and_ttis xs i v (omega arith) here

again_here : (a b c : Bool) → a ≡ c → (a || b) ≡ ((a || b) || c)
again_here true b c e = refl
again_here false true c e = refl
again_here false false c e = e

again_later : (a b c : Bool) → b ≡ (b || c) → (a || b) ≡ ((a || b) || c)
again_later true b c e = refl
again_later false b c e = e

same_pair : (y x : SetTti) → (y.set == x.set && y.frames == x.frames) ≡ true → y ≡ x
same_pair y x e =
    let sets : y.set ≡ x.set = grind (arith, nat_tests) in
    let frames : y.frames ≡ x.frames = grind (arith, nat_tests) in
    ap₂ (λ s f. let r : SetTti = record { set = s; frames = f } in r) sets frames

-- a pair that is there adds nothing to a test
pub found_again : (test : Option SetTti → Bool) (xs : List SetTti) (x : SetTti) → list_any (λ other. other.set == x.set && other.frames == x.frames) xs ≡ true
    → list_any test (map (λ other. Some other) xs) ≡ (list_any test (map (λ other. Some other) xs) || test (Some x))
found_again test [] x e = cc
found_again test (y ∷ ys) x e =
    ⊎_elim
    (λ same. again_here (test (Some y)) (list_any test (map (λ other. Some other) ys)) (test (Some x)) (ap (λ z. test (Some z)) (same_pair y x same)))
    (λ other. again_later (test (Some y)) (list_any test (map (λ other. Some other) ys)) (test (Some x)) (found_again test ys x (rw other at e)))
    (cases_Bool (y.set == x.set && y.frames == x.frames))

or_false : (b : Bool) → (b || false) ≡ b
or_false true = refl
or_false false = refl

-- the code's test of pairs
pub clashes_by_map : (a : SetTti) (seen : List SetTti) → list_any (clashes_with a) (map (λ other. Some other) seen) ≡ list_any (λ other. a.set == other.set && not (a.frames == other.frames)) seen
clashes_by_map a seen = list_any-map (clashes_with a) (λ other. Some other) seen

-- one more channel
pub seen_more : (test : Option SetTti → Bool) (seen more : List SetTti) (pairs : List (Option SetTti)) (i : ℕ) (x : Option SetTti)
    → i < length pairs → x ≡ get_or pairs i None
    → list_any test (map (λ other. Some other) more) ≡ (list_any test (map (λ other. Some other) seen) || test x)
    → list_any test (map (λ other. Some other) seen) ≡ list_any test (take i pairs)
    → list_any test (map (λ other. Some other) more) ≡ list_any test (take (i + 1) pairs)
seen_more test seen more pairs i x inside here step before =
    step ∙ (ap (λ b. b || test x) before ∙ (last ∙ sym (ap (list_any test) (take_more pairs i None inside))))
  where
    last : (list_any test (take i pairs) || test x) ≡ list_any test (take i pairs ++ get_or pairs i None ∷ [])
    last = ap (λ t. list_any test (take i pairs) || t) (sym (or_false (test x)) ∙ ap (λ y. test y || false) here) ∙ sym (list_any-append test (take i pairs) (get_or pairs i None ∷ []))

-- what clashes with the pairs so far
pub clashes-same : (x : Option SetTti) (xs ys : List (Option SetTti)) → ((test : Option SetTti → Bool) → test None ≡ false → list_any test xs ≡ list_any test ys) → clashes x xs ≡ clashes x ys
clashes-same None xs ys same = refl
clashes-same (Some a) xs ys same = same (clashes_with a) refl

pub sets_whole : (a b : Option Fault) (path : List ℕ) (xs : List Value) (items : Items) → items_view xs ≡ items
    → b ≡ first_found a (indexed (set_faults path (sets_and_ttis (items_view xs))) (length xs))
    → b ≡ first_found a (indexed (set_faults path (sets_and_ttis items)) (length (sets_and_ttis items)))
sets_whole a b path xs items same step =
    step ∙ (ap (λ n. first_found a (indexed (set_faults path (sets_and_ttis (items_view xs))) n)) (sym (length-sets_and_ttis xs))
    ∙ ap (λ y. first_found a (indexed (set_faults path (sets_and_ttis y)) (length (sets_and_ttis y)))) same)
