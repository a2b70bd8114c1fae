-- Steps of a line, one after another.
use Rattle.std.proofs.Common.{◌≡◌, ◌+◌, ◌++◌, ◌∙◌, ℕ, zero, suc, List, [], arith, refl, ap, sym, subst, append-nil, append_assoc}
use Rattle.dch_linkcmd.specs.Stepping.{Resumes, Stepped}

-- steps, and then more
pub resumes_on : {S : Type 0} (steps : Stepped S) (n m : ℕ) (a b c : S) (x y : List ℕ) → Resumes steps n a b x → Resumes steps m b c y → Resumes steps (m + n) a c (x ++ y)
resumes_on {S} steps n zero a b c x y first (same, none) =
    let whole : n ≡ 0 + n = omega arith in
    subst (λ k. Resumes steps k a c (x ++ y)) whole
    (subst (λ t. Resumes steps n a c t) (sym (ap (λ l. x ++ l) none ∙ append-nil x)) (subst (λ (s : S). Resumes steps n a s x) (sym same) first))
resumes_on {S} steps n (suc m) a b c x y first (mid, (front, (last, (before, step, whole)))) =
    let one_more : suc (m + n) ≡ suc m + n = omega arith in
    subst (λ k. Resumes steps k a c (x ++ y)) one_more
    (mid, (x ++ front, (last, (resumes_on steps n m a b mid x front first before, step, ap (λ l. x ++ l) whole ∙ sym (append_assoc x front last)))))

-- the first of them, and those behind it
pub first_step : {S : Type 0} (steps : Stepped S) (n : ℕ) (a c : S) (text : List ℕ) → Resumes steps (suc n) a c text → (mid : S) × ((first : List ℕ) × ((rest : List ℕ) × (steps.resumes a mid first × Resumes steps n mid c rest × (text ≡ first ++ rest))))
first_step {S} steps zero a c text (mid, (front, (last, ((same, none), step, whole)))) =
    (c, (last, ([], (subst (λ (s : S). steps.resumes s c last) same step, (refl, refl), whole ∙ ap (λ l. l ++ last) none ∙ sym (append-nil last)))))
first_step {S} steps (suc n) a c text (mid, (front, (last, (before, step, whole)))) =
    let one = first_step steps n a mid front before in
    (one.0, (one.1.0, (one.1.1.0 ++ last, (one.1.1.1.0, (mid, (one.1.1.0, (last, (one.1.1.1.1, step, refl)))), whole ∙ ap (λ l. l ++ last) one.1.1.1.2 ∙ append_assoc one.1.0 one.1.1.0 last))))
