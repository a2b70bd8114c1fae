-- Places that are taken, from the front on.
use Rattle.std.proofs.Common.{sym, ◌≡◌, ◌+◌, ◌<◌, ◌≤◌, ℕ, zero, suc, List, [], ◌∷◌, true, false, Option, Some, None, is_some, length, drop, slice_get, arith, refl, ap, ◌∙◌}
use Rattle.dch_amrecv.specs.Places.{front, is_kept, vacant}

pub kept_some : {A : Type 0} (ps : List (Option A)) (i : ℕ) (p : Option A) → slice_get ps i ≡ Some p → is_kept ps i ≡ is_some p
kept_some [] i p e = absurd (cc)
kept_some (q ∷ ps) zero p e = let s : q ≡ p = cc in ap is_some s
kept_some (q ∷ ps) (suc i) p e = kept_some ps i p e

pub kept_none : {A : Type 0} (ps : List (Option A)) (i : ℕ) → slice_get ps i ≡ None → is_kept ps i ≡ false
kept_none [] i e = refl
kept_none (q ∷ ps) zero e = absurd (cc)
kept_none (q ∷ ps) (suc i) e = kept_none ps i e

here : {A : Type 0} (ps : List (Option A)) (i : ℕ) → is_kept ps i ≡ true → front (drop i ps) ≡ 1 + front (drop (suc i) ps)
here [] i e = absurd (cc)
here (None ∷ ps) zero e = absurd (cc)
here (Some x ∷ ps) zero e = omega arith
here (p ∷ ps) (suc i) e = here ps i e

pub front_here : {A : Type 0} (ps : List (Option A)) (i : ℕ) → is_kept ps i ≡ true → front (drop i ps) ≡ 1 + front (drop (i + 1) ps)
front_here ps i e = let next : suc i ≡ i + 1 = omega arith in here ps i e ∙ ap (λ k. 1 + front (drop k ps)) next

pub front_none : {A : Type 0} (ps : List (Option A)) (i : ℕ) → is_kept ps i ≡ false → front (drop i ps) ≡ 0
front_none [] zero e = refl
front_none [] (suc i) e = refl
front_none (None ∷ ps) zero e = refl
front_none (Some x ∷ ps) zero e = absurd (cc)
front_none (p ∷ ps) (suc i) e = front_none ps i e

pub front_le : {A : Type 0} (ps : List (Option A)) → front ps ≤ length ps
front_le [] = omega arith
front_le (None ∷ ps) = omega arith
front_le (Some x ∷ ps) = omega (arith, front_le ps)

kept_here : {A : Type 0} (n i : ℕ) (ps : List (Option A)) → is_kept ps i ≡ true → vacant n (drop i ps) ≡ vacant (n + 1) (drop (suc i) ps)
kept_here n i [] e = absurd (cc)
kept_here n zero (None ∷ ps) e = absurd (cc)
kept_here n zero (Some x ∷ ps) e = refl
kept_here n (suc i) (p ∷ ps) e = kept_here n i ps e

none_here : {A : Type 0} (n i : ℕ) (ps : List (Option A)) → i < length ps → is_kept ps i ≡ false → vacant n (drop i ps) ≡ n ∷ vacant (n + 1) (drop (suc i) ps)
none_here n i [] l e = absurd (omega arith)
none_here n zero (None ∷ ps) l e = refl
none_here n zero (Some x ∷ ps) l e = absurd (cc)
none_here n (suc i) (p ∷ ps) l e = none_here n i ps (omega arith) e

pub vacant_kept : {A : Type 0} (n i : ℕ) (ps : List (Option A)) → is_kept ps i ≡ true → vacant n (drop i ps) ≡ vacant (n + 1) (drop (i + 1) ps)
vacant_kept n i ps e = let next : suc i ≡ i + 1 = omega arith in kept_here n i ps e ∙ ap (λ k. vacant (n + 1) (drop k ps)) next

pub vacant_none : {A : Type 0} (n i : ℕ) (ps : List (Option A)) → i < length ps → is_kept ps i ≡ false → vacant n (drop i ps) ≡ n ∷ vacant (n + 1) (drop (i + 1) ps)
vacant_none n i ps l e = let next : suc i ≡ i + 1 = omega arith in none_here n i ps l e ∙ ap (λ k. n ∷ vacant (n + 1) (drop k ps)) next

-- the first place is taken, where one can tell
pub first_some : {A : Type 0} (o : Option A) (ps : List A) → 0 < length ps → o ≡ slice_get ps 0 → is_some o ≡ true
first_some o [] l e = absurd (omega arith)
first_some o (p ∷ ps) l e = ap is_some e

pub kept_within : {A : Type 0} (ps : List (Option A)) (i : ℕ) → is_kept ps i ≡ true → i < length ps
kept_within [] i e = absurd (cc)
kept_within (p ∷ ps) zero e = omega arith
kept_within (p ∷ ps) (suc i) e = omega (arith, kept_within ps i e)

pub is_kept-drop : {A : Type 0} (n i : ℕ) (ps : List (Option A)) → is_kept (drop n ps) i ≡ is_kept ps (n + i)
is_kept-drop zero i ps = let none : 0 + i ≡ i = omega arith in ap (is_kept ps) (sym none)
is_kept-drop (suc n) i [] = refl
is_kept-drop (suc n) i (p ∷ ps) = let next : suc n + i ≡ suc (n + i) = omega arith in is_kept-drop n i ps ∙ ap (is_kept (p ∷ ps)) (sym next)
