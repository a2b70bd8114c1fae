-- The expected number moves over the gap-free run.
use Rattle.std.proofs.Common.{◌≡◌, ◌+◌, ◌-◌, ◌<◌, ◌≤◌, ℕ, zero, suc, List, [], ◌∷◌, ◌++◌, Bool, true, false, ◌||◌, cond, Option, Some, None, is_some, length, drop, max, length-drop, arith, refl, sym, ap, ◌∙◌, ⊎_elim, subst}
use Rattle.std.specs.Prelude.{◌==◌, nat_lt}
use Rattle.std.proofs.lemmas.Bool.{both_ways, cases_lt}
use Rattle.std.proofs.lemmas.Bool.Decides.{nat_tests}
use Rattle.dch_am.specs.Bodies.{Body}
use Rattle.dch_am.specs.Numbers.{has, below, top, run_of}
use Rattle.dch_am.specs.Receiver.{Receiver, vr_h, body_of, vr_r, got, numbers, read_on}
use Rattle.dch_am.proofs.Lists.{Is, has-append, has-below, run_le, run_in, run_reaches}
use Rattle.dch_amrecv.specs.Places.{front, is_kept, put}
use Rattle.dch_amrecv.proofs.Fronts.{front_le}
use Rattle.dch_amrecv.specs.Lines.{Kept, run_on}
use Rattle.dch_amrecv.specs.Standing.{AreUnits, IsPast, came, live, place}
use Rattle.dch_amrecv.proofs.Whole.{units_run, trim_run}

run_is : (xs : List ℕ) (n m : ℕ) → m ≤ n → ((x : ℕ) → x < m → Is x xs) → (m < n → has m xs ≡ false) → run_of xs n ≡ m
run_is xs n m le all out = ⊎_elim
    (λ (l : m < run_of xs n). absurd (both_ways (has m xs) (out (omega (arith, run_le xs n))) (run_in xs n m l)))
    (λ (l : run_of xs n ≤ m). omega (arith, run_reaches xs n m le all))
    (cases_lt m (run_of xs n))

came_some : (b : Bool) (x : Body) → is_some (came b x) ≡ b
came_some true x = refl
came_some false x = refl

came_there : (b : Bool) (x : Body) → b ≡ true → came b x ≡ Some x
came_there true x e = refl
came_there false x e = absurd (cc)

pub kept_place : (ps : List (Option Body)) (i : ℕ) → is_kept ps i ≡ is_some (place ps i)
kept_place [] i = refl
kept_place (p ∷ ps) zero = refl
kept_place (p ∷ ps) (suc i) = kept_place ps i

front_kept : (ps : List (Option Body)) (i : ℕ) → i < front ps → is_kept ps i ≡ true
front_kept [] i l = absurd (omega arith)
front_kept (None ∷ ps) i l = absurd (omega arith)
front_kept (Some b ∷ ps) zero l = refl
front_kept (Some b ∷ ps) (suc i) l = front_kept ps i (omega arith)

front_gap : (ps : List (Option Body)) → is_kept ps (front ps) ≡ false
front_gap [] = refl
front_gap (None ∷ ps) = refl
front_gap (Some b ∷ ps) = front_gap ps

pub place-drop : (n i : ℕ) (ps : List (Option Body)) → place (drop n ps) i ≡ place ps (n + i)
place-drop zero i ps = let e : 0 + i ≡ i = omega arith in ap (place ps) (sym e)
place-drop (suc n) i [] = refl
place-drop (suc n) i (p ∷ ps) = let e : suc n + i ≡ suc (n + i) = omega arith in place-drop n i ps ∙ ap (place (p ∷ ps)) (sym e)

-- what is kept from a number on, of which the run isn't read yet
pub record Pending (places : List (Option Body)) (from : ℕ) (r : Receiver) : Type 0 where
  pub highest : vr_h r ≡ from + length places
  pub under : (x : ℕ) → x < from → Is x (got r)
  pub here : (i : ℕ) → place places i ≡ came (has (from + i) (got r)) (body_of r.arrived (from + i))
  pub passed : r.passed ≤ from
  pub past : IsPast from r.trim

there : (places : List (Option Body)) (from : ℕ) (r : Receiver) (i : ℕ) → Pending places from r → has (from + i) (got r) ≡ is_kept places i
there places from r i p = sym (kept_place places i ∙ (ap is_some (p.here i) ∙ came_some (has (from + i) (got r)) (body_of r.arrived (from + i))))

pub expected_is : (places : List (Option Body)) (from : ℕ) (r : Receiver) → Pending places from r → vr_r r ≡ from + front places
expected_is places from r p = run_is (got r) (vr_h r) (from + front places) (omega (arith, p.highest, front_le places)) all out
  where
    all : (x : ℕ) → x < from + front places → Is x (got r)
    all x l = ⊎_elim
        (λ (m : x < from). p.under x m)
        (λ (m : from ≤ x). let at : from + (x - from) ≡ x = omega arith in subst (λ k. Is k (got r)) at (there places from r (x - from) p ∙ front_kept places (x - from) (omega arith)))
        (cases_lt x from)

    out : from + front places < vr_h r → has (from + front places) (got r) ≡ false
    out l = there places from r (front places) p ∙ front_gap places

-- the run is read
pub record Settled (k : Kept) (given : ℕ) (r : Receiver) : Type 0 where
  pub highest : vr_h r ≡ vr_r r + length k.places
  pub places : (i : ℕ) → place k.places i ≡ came (has (vr_r r + i) (got r)) (body_of r.arrived (vr_r r + i))
  pub passed : r.passed ≤ vr_r r
  pub trim : k.trim ≡ live (vr_r r) r.trim
  pub past : IsPast (vr_r r) r.trim
  pub units : AreUnits given k.units r.reading

past_by : (n k : ℕ) (trim : Option (ℕ × ℕ)) → IsPast k trim → IsPast (k + n) trim
past_by n k None past = past
past_by n k (Some t) past = omega (arith, past)

pub settles : (k : Kept) (from given : ℕ) (r : Receiver) → Pending k.places from r → k.trim ≡ live from r.trim → AreUnits given k.units r.reading → Settled (run_on k) given (read_on r from)
settles k from given r p t a =
    let at : vr_r r ≡ from + front k.places = expected_is k.places from r p in
    let count : vr_r r - from ≡ front k.places = omega (arith, at) in
    record {
      highest = omega (arith, p.highest, at, length-drop (front k.places) k.places, front_le k.places);
      places = λ i. let e : from + (front k.places + i) ≡ vr_r r + i = omega (arith, at) in place-drop (front k.places) i k.places ∙ (p.here (front k.places + i) ∙ ap (λ x. came (has x (got r)) (body_of r.arrived x)) e);
      passed = omega (arith, p.passed, at);
      trim = trim_run (front k.places) r.trim from k.places k.trim (front_le k.places) p.past t ∙ ap (λ x. live x r.trim) (sym at);
      past = subst (λ x. IsPast x r.trim) (sym at) (past_by (front k.places) from r.trim p.past);
      units = rw count (units_run given (front k.places) r.trim r.arrived from k.places k.trim k.units r.reading
          (λ j l. p.here j ∙ came_there (has (from + j) (got r)) (body_of r.arrived (from + j)) (there k.places from r j p ∙ front_kept k.places j l)) p.past t a);
    }

top-append : (xs ys : List ℕ) → top (xs ++ ys) ≡ max (top xs) (top ys)
top-append [] ys = omega arith
top-append (x ∷ xs) ys = omega (arith, top-append xs ys)

top-below : (n : ℕ) → top (below n) ≡ n
top-below zero = refl
top-below (suc n) = omega (arith, top-below n)

pub highest_got : (r : Receiver) → vr_h r ≡ max r.passed (top (numbers r.arrived))
highest_got r = omega (arith, top-append (below r.passed) (numbers r.arrived), top-below r.passed)

pub has_got : (x : ℕ) (r : Receiver) → has x (got r) ≡ (nat_lt x r.passed || has x (numbers r.arrived))
has_got x r = has-append x (below r.passed) (numbers r.arrived) ∙ ap (λ b. b || has x (numbers r.arrived)) (has-below x r.passed)

pub has_from : (x : ℕ) (r : Receiver) → r.passed ≤ x → has x (got r) ≡ has x (numbers r.arrived)
has_from x r l = let e : nat_lt x r.passed ≡ false = grind (arith, nat_tests) in has_got x r ∙ ap (λ b. b || has x (numbers r.arrived)) e

pub place-put : (o : ℕ) (b : Body) (ps : List (Option Body)) (i : ℕ) → place (put o b ps) i ≡ cond (i == o) (Some b) (place ps i)
place-put zero b [] zero = refl
place-put zero b [] (suc i) = let e : (suc i == 0) ≡ false = grind (arith, nat_tests) in sym (ap (λ c. cond c (Some b) None) e)
place-put zero b (p ∷ ps) zero = refl
place-put zero b (p ∷ ps) (suc i) = let e : (suc i == 0) ≡ false = grind (arith, nat_tests) in sym (ap (λ c. cond c (Some b) (place ps i)) e)
place-put (suc o) b [] zero = let e : (0 == suc o) ≡ false = grind (arith, nat_tests) in sym (ap (λ c. cond c (Some b) None) e)
place-put (suc o) b [] (suc i) = let e : (i == o) ≡ (suc i == suc o) = grind (arith, nat_tests) in place-put o b [] i ∙ ap (λ c. cond c (Some b) None) e
place-put (suc o) b (p ∷ ps) zero = let e : (0 == suc o) ≡ false = grind (arith, nat_tests) in sym (ap (λ c. cond c (Some b) p) e)
place-put (suc o) b (p ∷ ps) (suc i) = let e : (i == o) ≡ (suc i == suc o) = grind (arith, nat_tests) in place-put o b ps i ∙ ap (λ c. cond c (Some b) (place ps i)) e
