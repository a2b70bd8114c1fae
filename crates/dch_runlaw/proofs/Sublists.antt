-- Some blocks of a list, in order: what is left of the list behind the first places where they can be found.
use Rattle.std.proofs.Common.{◌≡◌, List, [], ◌∷◌, ◌++◌, Bool, true, false, cond, ◌&&◌, refl, sym, ap, ◌∙◌, subst, inl, inr, ⊎_elim}
use Rattle.std.specs.Prelude.{filter}
use Rattle.dch_bits.specs.declared.bit.Bit.{Bit}
use Rattle.dch_bits.specs.declared.bit.Bit.TheVariants.{Zero, One}
use Rattle.dch_linkcmd.specs.Checks.{IsSublist}
use Rattle.dch_runlaw.specs.Worlds.{IsFront}

abbrev same_bit : Bit → Bit → Bool
same_bit Zero Zero = true
same_bit Zero One = false
same_bit One Zero = false
same_bit One One = true

-- two blocks have the same bits
abbrev pub same : List Bit → List Bit → Bool
same [] [] = true
same [] (b ∷ bs) = false
same (a ∷ xs) [] = false
same (a ∷ xs) (b ∷ bs) = same_bit a b && same xs bs

same_refl : (x : List Bit) → same x x ≡ true
same_refl [] = refl
same_refl (Zero ∷ xs) = same_refl xs
same_refl (One ∷ xs) = same_refl xs

pub same_true : (x y : List Bit) → same x y ≡ true → x ≡ y
same_true [] [] e = refl
same_true [] (b ∷ bs) e = absurd (cc)
same_true (a ∷ xs) [] e = absurd (cc)
same_true (Zero ∷ xs) (Zero ∷ bs) e = ap (λ (l : List Bit). Zero ∷ l) (same_true xs bs e)
same_true (Zero ∷ xs) (One ∷ bs) e = absurd (cc)
same_true (One ∷ xs) (Zero ∷ bs) e = absurd (cc)
same_true (One ∷ xs) (One ∷ bs) e = ap (λ (l : List Bit). One ∷ l) (same_true xs bs e)

pub same_false : (x y : List Bit) → same x y ≡ false → x ≡ y → ⊥
same_false x y f e =
    let yes : same x y ≡ true = ap (same x) (sym e) ∙ same_refl x in
    absurd (cc)

-- what stands behind the first place of a block
abbrev pub past : List Bit → List (List Bit) → List (List Bit)
past x [] = []
past x (y ∷ ys) = cond (same x y) ys (past x ys)

abbrev pub behind : List (List Bit) → List (List Bit) → List (List Bit)
behind [] ys = ys
behind (x ∷ xs) ys = behind xs (past x ys)

pub sub_drop : (xs : List (List Bit)) (y : List Bit) (ys : List (List Bit)) → IsSublist xs ys → IsSublist xs (y ∷ ys)
sub_drop [] y ys h = tt
sub_drop (x ∷ xs) y ys h = inr h

pub sub_tail : (x : List Bit) (xs ys : List (List Bit)) → IsSublist (x ∷ xs) ys → IsSublist xs ys
sub_tail x xs [] h = absurd h
sub_tail x xs (y ∷ ys) h = ⊎_elim (λ (p : (x ≡ y) × IsSublist xs ys). sub_drop xs y ys p.1) (λ (p : IsSublist (x ∷ xs) ys). sub_drop xs y ys (sub_tail x xs ys p)) h

sub_above : (ys us vs : List (List Bit)) → IsSublist ys vs → IsSublist ys (us ++ vs)
sub_above [] us vs k = tt
sub_above (y ∷ ys) [] vs k = k
sub_above (y ∷ ys) (u ∷ us) vs k = inr (sub_above (y ∷ ys) us vs k)

pub sub_append : (xs ys us vs : List (List Bit)) → IsSublist xs us → IsSublist ys vs → IsSublist (xs ++ ys) (us ++ vs)
sub_append [] ys us vs h k = sub_above ys us vs k
sub_append (x ∷ xs) ys [] vs h k = absurd h
sub_append (x ∷ xs) ys (u ∷ us) vs h k = ⊎_elim (λ (p : (x ≡ u) × IsSublist xs us). inl (p.0, sub_append xs ys us vs p.1 k)) (λ (p : IsSublist (x ∷ xs) us). inr (sub_append (x ∷ xs) ys us vs p k)) h

-- a Bool is one of the two
pub either : {A : Type 0} (b : Bool) → (b ≡ true → A) → (b ≡ false → A) → A
either true f g = f refl
either false f g = g refl

pub sub_past : (x : List Bit) (xs ys : List (List Bit)) → IsSublist (x ∷ xs) ys → IsSublist xs (past x ys)
sub_past x xs [] h = absurd h
sub_past x xs (y ∷ ys) h = either (same x y)
    (λ e. rw e (⊎_elim (λ (p : (x ≡ y) × IsSublist xs ys). p.1) (λ (p : IsSublist (x ∷ xs) ys). sub_tail x xs ys p) h))
    (λ e. rw e (⊎_elim (λ (p : (x ≡ y) × IsSublist xs ys). absurd (same_false x y e p.0)) (λ (p : IsSublist (x ∷ xs) ys). sub_past x xs ys p) h))

pub sub_one : (x : List Bit) (xs ys : List (List Bit)) → IsSublist (x ∷ xs) ys → IsSublist (x ∷ []) ys
sub_one x xs [] h = h
sub_one x xs (y ∷ ys) h = ⊎_elim (λ (p : (x ≡ y) × IsSublist xs ys). inl (p.0, tt)) (λ (p : IsSublist (x ∷ xs) ys). inr (sub_one x xs ys p)) h

pub behind-append : (xs zs ys : List (List Bit)) → behind (xs ++ zs) ys ≡ behind zs (behind xs ys)
behind-append [] zs ys = refl
behind-append (x ∷ xs) zs ys = behind-append xs zs (past x ys)

pub sub_behind : (xs zs ys : List (List Bit)) → IsSublist (xs ++ zs) ys → IsSublist zs (behind xs ys)
sub_behind [] zs ys h = h
sub_behind (x ∷ xs) zs ys h = sub_behind xs zs (past x ys) (sub_past x (xs ++ zs) ys h)

past-append : (x : List Bit) (ys zs : List (List Bit)) → IsSublist (x ∷ []) ys → past x (ys ++ zs) ≡ past x ys ++ zs
past-append x [] zs h = absurd h
past-append x (y ∷ ys) zs h = either (same x y)
    (λ e. rw e refl)
    (λ e. rw e (past-append x ys zs (⊎_elim (λ (p : (x ≡ y) × Unit {0}). absurd (same_false x y e p.0)) (λ (p : IsSublist (x ∷ []) ys). p) h)))

pub behind_more : (xs ys zs : List (List Bit)) → IsSublist xs ys → behind xs (ys ++ zs) ≡ behind xs ys ++ zs
behind_more [] ys zs h = refl
behind_more (x ∷ xs) ys zs h = ap (behind xs) (past-append x ys zs (sub_one x xs ys h)) ∙ behind_more xs (past x ys) zs (sub_past x xs ys h)

pub sub_front : (xs zs ys : List (List Bit)) → IsSublist (xs ++ zs) ys → IsSublist xs ys
sub_front [] zs ys h = tt
sub_front (x ∷ xs) zs [] h = h
sub_front (x ∷ xs) zs (y ∷ ys) h = ⊎_elim (λ (p : (x ≡ y) × IsSublist (xs ++ zs) ys). inl (p.0, sub_front xs zs ys p.1)) (λ (p : IsSublist (x ∷ (xs ++ zs)) ys). inr (sub_front (x ∷ xs) zs ys p)) h

pub sub_more : (xs ys zs : List (List Bit)) → IsSublist xs ys → IsSublist xs (ys ++ zs)
sub_more [] ys zs h = tt
sub_more (x ∷ xs) [] zs h = absurd h
sub_more (x ∷ xs) (y ∷ ys) zs h = ⊎_elim (λ (p : (x ≡ y) × IsSublist xs ys). inl (p.0, sub_more xs ys zs p.1)) (λ (p : IsSublist (x ∷ xs) ys). inr (sub_more (x ∷ xs) ys zs p)) h

-- those that pass a test
filter_yes : (p : List Bit → Bool) (x : List Bit) (xs : List (List Bit)) → p x ≡ true → filter p (x ∷ xs) ≡ x ∷ filter p xs
filter_yes p x xs e = rw e refl

filter_no : (p : List Bit → Bool) (x : List Bit) (xs : List (List Bit)) → p x ≡ false → filter p (x ∷ xs) ≡ filter p xs
filter_no p x xs e = rw e refl

pub sub_filter : (p : List Bit → Bool) (xs ys : List (List Bit)) → IsSublist xs ys → IsSublist (filter p xs) (filter p ys)
sub_filter p [] ys h = tt
sub_filter p (x ∷ xs) [] h = absurd h
sub_filter p (x ∷ xs) (y ∷ ys) h = ⊎_elim
    (λ (q : (x ≡ y) × IsSublist xs ys). subst (λ z. IsSublist (filter p (x ∷ xs)) (filter p (z ∷ ys))) q.0 (either (p x)
    (λ e. subst (λ l. IsSublist l (filter p (x ∷ ys))) (sym (filter_yes p x xs e)) (subst (λ l. IsSublist (x ∷ filter p xs) l) (sym (filter_yes p x ys e)) (inl (refl, sub_filter p xs ys q.1))))
    (λ e. subst (λ l. IsSublist l (filter p (x ∷ ys))) (sym (filter_no p x xs e)) (subst (λ l. IsSublist (filter p xs) l) (sym (filter_no p x ys e)) (sub_filter p xs ys q.1)))))
    (λ (q : IsSublist (x ∷ xs) ys). either (p y)
    (λ e. subst (λ l. IsSublist (filter p (x ∷ xs)) l) (sym (filter_yes p y ys e)) (sub_drop (filter p (x ∷ xs)) y (filter p ys) (sub_filter p (x ∷ xs) ys q)))
    (λ e. subst (λ l. IsSublist (filter p (x ∷ xs)) l) (sym (filter_no p y ys e)) (sub_filter p (x ∷ xs) ys q)))
    h

-- those that begin it are some of it
pub front_sub : (xs ys : List (List Bit)) → IsFront xs ys → IsSublist xs ys
front_sub [] ys h = tt
front_sub (x ∷ xs) [] h = absurd h
front_sub (x ∷ xs) (y ∷ ys) h = inl (h.0, front_sub xs ys h.1)

pub front_first : (xs zs ys : List (List Bit)) → IsFront (xs ++ zs) ys → IsFront xs ys
front_first [] zs ys h = tt
front_first (x ∷ xs) zs [] h = absurd h
front_first (x ∷ xs) zs (y ∷ ys) h = (h.0, front_first xs zs ys h.1)

pub front_behind : (xs zs ys : List (List Bit)) → IsFront (xs ++ zs) ys → IsFront zs (behind xs ys)
front_behind [] zs ys h = h
front_behind (x ∷ xs) zs [] h = absurd h
front_behind (x ∷ xs) zs (y ∷ ys) h =
    let found : same x y ≡ true = ap (same x) (sym h.0) ∙ same_refl x in
    subst (λ c. IsFront zs (behind xs (cond c ys (past x ys)))) (sym found) (front_behind xs zs ys h.1)

pub front_filter : (p : List Bit → Bool) (xs ys : List (List Bit)) → IsFront xs ys → IsFront (filter p xs) (filter p ys)
front_filter p [] ys h = tt
front_filter p (x ∷ xs) [] h = absurd h
front_filter p (x ∷ xs) (y ∷ ys) h = subst (λ z. IsFront (filter p (x ∷ xs)) (filter p (z ∷ ys))) h.0 (either (p x)
    (λ e. subst (λ l. IsFront l (filter p (x ∷ ys))) (sym (filter_yes p x xs e)) (subst (λ l. IsFront (x ∷ filter p xs) l) (sym (filter_yes p x ys e)) (refl, front_filter p xs ys h.1)))
    (λ e. subst (λ l. IsFront l (filter p (x ∷ ys))) (sym (filter_no p x xs e)) (subst (λ l. IsFront (filter p xs) l) (sym (filter_no p x ys e)) (front_filter p xs ys h.1))))

pub behind_own : (xs ys : List (List Bit)) → behind xs (xs ++ ys) ≡ ys
behind_own [] ys = refl
behind_own (x ∷ xs) ys = ap (λ c. behind xs (cond c (xs ++ ys) (past x (xs ++ ys)))) (same_refl x) ∙ behind_own xs ys
