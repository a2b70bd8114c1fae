-- Where the next PDU begins.
use Rattle.std.proofs.Common.{◌≡◌, ◌+◌, ◌-◌, ◌<◌, ◌≤◌, ℕ, zero, suc, List, [], ◌∷◌, Bool, true, false, cond, length, get_or, drop, arith, refl, sym, ap, ap₂, ◌∙◌, subst, length-drop}
use Rattle.std.specs.Prelude.{nat_lt}
use Rattle.std.proofs.lemmas.Bool.{ltb-false, ltb-true}
use Rattle.std.proofs.lemmas.List.{drop-drop}
use Rattle.dch_txbuf.specs.declared.taken.Cut.{Cut}
use Rattle.dch_txbuf.specs.declared.taken.Start.{Start}
use Rattle.dch_txbuf.specs.Cuts.{IsSmall, IsStart, IsThere, after_cut, cut_of, first_of, left_at, next_start, trimmed}
use Rattle.dch_txbuf.proofs.Cutting.{length-trimmed, placed_cut, trimmed_none}

drop_trimmed : (n k : ℕ) (us : List (List ℕ)) → 0 < k → drop k (trimmed n us) ≡ drop k us
drop_trimmed n zero us l = absurd (omega (arith, l))
drop_trimmed n (suc k) [] l = refl
drop_trimmed n (suc k) (u ∷ us) l = refl

trimmed_twice : (n k : ℕ) (us : List (List ℕ)) → trimmed k (trimmed n us) ≡ trimmed (n + k) us
trimmed_twice n k [] = refl
trimmed_twice n k (u ∷ us) = let e : k + n ≡ n + k = omega arith in ap (λ xs. xs ∷ us) (drop-drop k n u)

drop_on : (a b : ℕ) (us : List (List ℕ)) → drop b (drop a us) ≡ drop (a + b) us
drop_on a b us = drop-drop b a us

-- what is left there
pub left_next : (items : List (List ℕ)) (start : Start) (c : Cut) → left_at (next_start start c) items ≡ (after_cut c (left_at start items)).units
left_next items start c = go c.owed refl (nat_lt 0 c.pieces) refl
  where
    go : (b : Bool) → c.owed ≡ b → (a : Bool) → nat_lt 0 c.pieces ≡ a → left_at (next_start start c) items ≡ (after_cut c (left_at start items)).units
    go true e a q =
        ap (λ b. left_at (cond {A = Start} b (record { sdu = start.sdu + c.pieces + 1; used = 0 }) (record { sdu = start.sdu + c.pieces; used = cond (nat_lt 0 c.pieces) c.rest (start.used + c.rest) })) items) e
        ∙ (trimmed_none (drop (start.sdu + c.pieces + 1) items)
        ∙ (sym (drop_trimmed start.used (c.pieces + 1) (drop start.sdu items) (omega arith) ∙ (drop_on start.sdu (c.pieces + 1) items ∙ ap (λ k. drop k items) (add start.sdu c.pieces)))
        ∙ ap (λ b. cond b (drop (c.pieces + 1) (left_at start items)) (trimmed c.rest (drop c.pieces (left_at start items)))) (sym e)))
      where
        add : (x y : ℕ) → x + (y + 1) ≡ x + y + 1
        add x y = omega arith
    go false e true q =
        ap₂ (λ b d. left_at (cond {A = Start} b (record { sdu = start.sdu + c.pieces + 1; used = 0 }) (record { sdu = start.sdu + c.pieces; used = cond d c.rest (start.used + c.rest) })) items) e q
        ∙ (ap (trimmed c.rest) (sym (drop_trimmed start.used c.pieces (drop start.sdu items) (ltb-true _ _ q) ∙ drop_on start.sdu c.pieces items))
        ∙ ap (λ b. cond b (drop (c.pieces + 1) (left_at start items)) (trimmed c.rest (drop c.pieces (left_at start items)))) (sym e))
    go false e false q =
        let none : c.pieces ≡ 0 = omega (arith, ltb-false _ _ q) in
        let same : start.sdu + c.pieces ≡ start.sdu = omega (arith, none) in
        ap₂ (λ b d. left_at (cond {A = Start} b (record { sdu = start.sdu + c.pieces + 1; used = 0 }) (record { sdu = start.sdu + c.pieces; used = cond d c.rest (start.used + c.rest) })) items) e q
        ∙ (ap (λ k. trimmed (start.used + c.rest) (drop k items)) same
        ∙ (sym (trimmed_twice start.used c.rest (drop start.sdu items))
        ∙ (ap (λ k. trimmed c.rest (drop k (left_at start items))) (sym none)
        ∙ ap (λ b. cond b (drop (c.pieces + 1) (left_at start items)) (trimmed c.rest (drop c.pieces (left_at start items)))) (sym e))))

-- an SDU whose length indicator is owed is there
pub owed_there : (free : ℕ) (us : List (List ℕ)) → (cut_of free us).owed ≡ true → (cut_of free us).pieces < length us
owed_there free [] e = absurd (cc)
owed_there free (u ∷ us) e = go (nat_lt (length u) free) refl (owed_there (free - length u - 1) us)
  where
    go : (b : Bool) → nat_lt (length u) free ≡ b → ((cut_of (free - length u - 1) us).owed ≡ true → (cut_of (free - length u - 1) us).pieces < length us) → (cut_of free (u ∷ us)).pieces < length (u ∷ us)
    go true less is =
        let o : (cut_of (free - length u - 1) us).owed ≡ true = sym (rw less refl) ∙ e in
        rw less (omega (arith, is o))
    go false most is = rw most (omega arith)

first_at : (us : List (List ℕ)) (k : ℕ) → first_of (drop k us) ≡ get_or us k []
first_at [] zero = refl
first_at [] (suc k) = refl
first_at (u ∷ us) zero = refl
first_at (u ∷ us) (suc k) = first_at us k

length-first : (n : ℕ) (us : List (List ℕ)) → length (first_of (trimmed n us)) ≡ length (first_of us) - n
length-first n [] = omega arith
length-first n (u ∷ us) = length-drop n u

used_next : (items : List (List ℕ)) (start : Start) (c : Cut) → IsStart items start → IsThere c (left_at start items) → (a : Bool) → nat_lt 0 c.pieces ≡ a → cond a c.rest (start.used + c.rest) ≤ length (get_or items (start.sdu + c.pieces) [])
used_next items start c is there true q =
    let e : first_of (drop c.pieces (left_at start items)) ≡ get_or items (start.sdu + c.pieces) [] = ap first_of (drop_trimmed start.used c.pieces (drop start.sdu items) (ltb-true _ _ q) ∙ drop_on start.sdu c.pieces items) ∙ first_at items (start.sdu + c.pieces) in
    omega (arith, there.rest, ap (λ (xs : List ℕ). length xs) e)
used_next items start c is there false q =
    let none : c.pieces ≡ 0 = omega (arith, ltb-false _ _ q) in
    let same : start.sdu + c.pieces ≡ start.sdu = omega (arith, none) in
    let e : length (first_of (drop c.pieces (left_at start items))) ≡ length (get_or items start.sdu []) - start.used = ap (λ k. length (first_of (drop k (left_at start items)))) none ∙ (length-first start.used (drop start.sdu items) ∙ ap (λ (xs : List ℕ). length xs - start.used) (first_at items start.sdu)) in
    omega (arith, there.rest, e, is.used, ap (λ k. length (get_or items k [])) same)

-- it stands at an SDU or behind all
pub start_next : (items : List (List ℕ)) (start : Start) (free : ℕ) → IsStart items start → IsStart items (next_start start (cut_of free (left_at start items)))
start_next items start free is = go (cut_of free (left_at start items)).owed refl (nat_lt 0 (cut_of free (left_at start items)).pieces) refl
  where
    c : Cut
    c = cut_of free (left_at start items)

    there : IsThere c (left_at start items)
    there = (placed_cut free (left_at start items)).there

    count : length (left_at start items) ≡ length items - start.sdu
    count = length-trimmed start.used (drop start.sdu items) ∙ length-drop start.sdu items

    go : (b : Bool) → c.owed ≡ b → (a : Bool) → nat_lt 0 c.pieces ≡ a → IsStart items (next_start start c)
    go true e a q = subst (λ b. IsStart items (cond {A = Start} b (record { sdu = start.sdu + c.pieces + 1; used = 0 }) (record { sdu = start.sdu + c.pieces; used = cond (nat_lt 0 c.pieces) c.rest (start.used + c.rest) }))) (sym e)
        (record { sdu = omega (arith, is.sdu, count, owed_there free (left_at start items) e); used = omega arith })
    go false e a q = subst (λ b. IsStart items (cond {A = Start} b (record { sdu = start.sdu + c.pieces + 1; used = 0 }) (record { sdu = start.sdu + c.pieces; used = cond (nat_lt 0 c.pieces) c.rest (start.used + c.rest) }))) (sym e)
        (record { sdu = omega (arith, is.sdu, count, there.pieces); used = used_next items start c is there (nat_lt 0 c.pieces) refl })

pub small_next : (items : List (List ℕ)) (start : Start) (free : ℕ) → IsStart items start → length items ≤ 65535 → ((i : ℕ) → length (get_or items i []) ≤ 1500) → IsSmall (next_start start (cut_of free (left_at start items)))
small_next items start free is few sized =
    let n = start_next items start free is in
    record { sdu = omega (arith, n.sdu, few); used = omega (arith, n.used, sized (next_start start (cut_of free (left_at start items))).sdu) }
