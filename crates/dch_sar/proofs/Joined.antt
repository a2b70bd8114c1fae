-- The PDUs of the list, and what is left of the units behind a place.
use Rattle.std.proofs.Common.{◌≡◌, ◌+◌, ◌-◌, ◌<◌, ◌≤◌, ℕ, zero, suc, List, [], ◌∷◌, ◌++◌, Bool, true, false, cond, length, map, arith, refl, sym, ap, ap₂, ◌∙◌, subst, ⊎_elim}
use Rattle.std.specs.Prelude.{◌&&◌, ◌||◌, ◌==◌, not, nat_lt, nat_le, filter}
use Rattle.std.proofs.lemmas.Bool.{eqb-true, ltb-false, lt-ltb, le-ltb, eq-eqb, le-leb, leb-true, cases_lt, cond_both, cond-true}
use Rattle.std.proofs.lemmas.Bool.Decides.{nat_tests}
use Rattle.std.proofs.lemmas.List.{map-append}
use Rattle.dch_sar.specs.Filling.{total, ends_before, is_end, cost, IsCarried, is_owed, is_marked, indicators_of, AreSome}
use Rattle.dch_sar.specs.Pdus.{Front, greatest, lead, ends_between, cost_to, reach, ends_unit, has_room, ends_marked, next_front, left_from, begun_by, ended_at}
use Rattle.dch_sar.proofs.Placing.{ends_none, end_none}

pub greatest_is : (passes : ℕ → Bool) (bound o : ℕ) → o ≤ bound → passes o ≡ true → ((p : ℕ) → p ≤ bound → passes p ≡ true → p ≤ o) → greatest passes bound ≡ o
greatest_is passes zero o within passed most = omega arith
greatest_is passes (suc n) o within passed most =
    ⊎_elim
    (λ (less : o < suc n). cond_both (passes (suc n)) (suc n) (greatest passes n) (λ g. g ≡ o)
    (λ yes. omega (arith, most (suc n) (omega arith) yes))
    (λ no. greatest_is passes n o (omega arith) passed (λ p le. most p (omega arith))))
    (λ (same : suc n ≤ o). let e : suc n ≡ o = omega arith in cond-true (passes (suc n)) _ _ (subst (λ k. passes k ≡ true) (sym e) passed) ∙ e)
    (cases_lt o (suc n))

-- what is left behind a place in the first unit, and behind one past it
pub left_in : (o n : ℕ) (ns : List ℕ) → o < n → left_from o (n ∷ ns) ≡ (n - o) ∷ ns
left_in o n ns less = rw (lt-ltb o n less) refl

pub left_past : (o n : ℕ) (ns : List ℕ) → n ≤ o → left_from o (n ∷ ns) ≡ left_from (o - n) ns
left_past o n ns more = rw (le-ltb o n more) refl

pub left_some : (o : ℕ) (ns : List ℕ) → AreSome ns → AreSome (left_from o ns)
left_some o [] some = some
left_some o (n ∷ ns) some =
    ⊎_elim
    (λ (less : o < n). rw (left_in o n ns less) (omega arith, some.1))
    (λ (more : n ≤ o). rw (left_past o n ns more) (left_some (o - n) ns some.1))
    (cases_lt o n)

pub left_total : (o : ℕ) (ns : List ℕ) → total (left_from o ns) ≡ total ns - o
left_total o [] = omega arith
left_total o (n ∷ ns) =
    ⊎_elim
    (λ (less : o < n). ap total (left_in o n ns less) ∙ omega arith)
    (λ (more : n ≤ o). ap total (left_past o n ns more) ∙ (left_total (o - n) ns ∙ omega arith))
    (cases_lt o n)

pub left_none : (ns : List ℕ) → AreSome ns → left_from 0 ns ≡ ns
left_none [] some = refl
left_none (n ∷ ns) some = let e : n - 0 ≡ n = omega arith in left_in 0 n ns some.0 ∙ ap (λ k. k ∷ ns) e

pub left_left : (a b : ℕ) (ns : List ℕ) → left_from (a + b) ns ≡ left_from b (left_from a ns)
left_left a b [] = refl
left_left a b (n ∷ ns) =
    ⊎_elim
    (λ (less : a < n). ⊎_elim
    (λ (short : a + b < n). let e : n - (a + b) ≡ n - a - b = omega arith in left_in (a + b) n ns short ∙ (ap (λ k. k ∷ ns) e ∙ (sym (left_in b (n - a) ns (omega arith)) ∙ ap (left_from b) (sym (left_in a n ns less)))))
    (λ (long : n ≤ a + b). let e : a + b - n ≡ b - (n - a) = omega arith in left_past (a + b) n ns long ∙ (ap (λ k. left_from k ns) e ∙ (sym (left_past b (n - a) ns (omega arith)) ∙ ap (left_from b) (sym (left_in a n ns less)))))
    (cases_lt (a + b) n))
    (λ (more : n ≤ a). let e : a + b - n ≡ a - n + b = omega arith in left_past (a + b) n ns (omega arith) ∙ (ap (λ k. left_from k ns) e ∙ (left_left (a - n) b ns ∙ ap (left_from b) (sym (left_past a n ns more)))))
    (cases_lt a n)

begun_in : (s o n : ℕ) (ns : List ℕ) → o < n → begun_by s o (n ∷ ns) ≡ s + o
begun_in s o n ns less = rw (lt-ltb o n less) refl

begun_past : (s o n : ℕ) (ns : List ℕ) → n ≤ o → begun_by s o (n ∷ ns) ≡ begun_by 0 (o - n) ns
begun_past s o n ns more = rw (le-ltb o n more) refl

pub begun_begun : (s a b : ℕ) (ns : List ℕ) → begun_by s (a + b) ns ≡ begun_by (begun_by s a ns) b (left_from a ns)
begun_begun s a b [] = refl
begun_begun s a b (n ∷ ns) =
    ⊎_elim
    (λ (less : a < n). ⊎_elim
    (λ (short : a + b < n). let e : s + (a + b) ≡ s + a + b = omega arith in begun_in s (a + b) n ns short ∙ (e ∙ (sym (begun_in (s + a) b (n - a) ns (omega arith)) ∙ ap₂ (λ t ms. begun_by t b ms) (sym (begun_in s a n ns less)) (sym (left_in a n ns less)))))
    (λ (long : n ≤ a + b). let e : a + b - n ≡ b - (n - a) = omega arith in begun_past s (a + b) n ns long ∙ (ap (λ k. begun_by 0 k ns) e ∙ (sym (begun_past (s + a) b (n - a) ns (omega arith)) ∙ ap₂ (λ t ms. begun_by t b ms) (sym (begun_in s a n ns less)) (sym (left_in a n ns less)))))
    (cases_lt (a + b) n))
    (λ (more : n ≤ a). let e : a + b - n ≡ a - n + b = omega arith in begun_past s (a + b) n ns (omega arith) ∙ (ap (λ k. begun_by 0 k ns) e ∙ (begun_begun 0 (a - n) b ns ∙ ap₂ (λ t ms. begun_by t b ms) (sym (begun_past s a n ns more)) (sym (left_past a n ns more)))))
    (cases_lt a n)

ended_here : (s o n : ℕ) (ns : List ℕ) → o ≡ n → ended_at s o (n ∷ ns) ≡ s + n
ended_here s o n ns is = rw (eq-eqb o n is) refl

ended_past : (s o n : ℕ) (ns : List ℕ) → (o == n) ≡ false → ended_at s o (n ∷ ns) ≡ ended_at 0 (o - n) ns
ended_past s o n ns other = rw other refl

differ : (a b n : ℕ) → n ≤ a → 0 < b → (a + b == n) ≡ false
differ a b n more some = grind (arith, nat_tests)

differ_in : (a b n : ℕ) → a < n → (b == n - a) ≡ false → (a + b == n) ≡ false
differ_in a b n less other = grind (arith, nat_tests)

pub ended_ended : (s a b : ℕ) (ns : List ℕ) → 0 < b → ended_at s (a + b) ns ≡ ended_at (begun_by s a ns) b (left_from a ns)
ended_ended s a b [] some = refl
ended_ended s a b (n ∷ ns) some =
    ⊎_elim
    (λ (less : a < n). inside less ∙ ap₂ (λ t ms. ended_at t b ms) (sym (begun_in s a n ns less)) (sym (left_in a n ns less)))
    (λ (more : n ≤ a). let e : a + b - n ≡ a - n + b = omega arith in ended_past s (a + b) n ns (differ a b n more some) ∙ (ap (λ k. ended_at 0 k ns) e ∙ (ended_ended 0 (a - n) b ns some ∙ ap₂ (λ t ms. ended_at t b ms) (sym (begun_past s a n ns more)) (sym (left_past a n ns more)))))
    (cases_lt a n)
  where
    inside : a < n → ended_at s (a + b) (n ∷ ns) ≡ ended_at (s + a) b ((n - a) ∷ ns)
    inside less =
        cond_both {A = ℕ} (b == n - a) (s + a + (n - a)) (ended_at 0 (b - (n - a)) ns) (λ k. ended_at s (a + b) (n ∷ ns) ≡ k)
        (λ same. let e : a + b ≡ n = omega (arith, eqb-true b (n - a) same) in ended_here s (a + b) n ns e ∙ omega arith)
        (λ other. let e : a + b - n ≡ b - (n - a) = omega arith in ended_past s (a + b) n ns (differ_in a b n less other) ∙ ap (λ k. ended_at 0 k ns) e)

-- ends behind a place
pub all_behind : (from at : ℕ) (ns : List ℕ) (o : ℕ) → AreSome ns → from ≤ at → filter (nat_lt from) (ends_before at ns o) ≡ ends_before at ns o
all_behind from at [] o some le = refl
all_behind from at (n ∷ ns) o some le =
    let here : nat_lt from (at + n) ≡ true = lt-ltb from (at + n) (omega (arith, some.0)) in
    cond_both {A = List ℕ} (nat_lt (at + n) o) ((at + n) ∷ ends_before (at + n) ns o) [] (λ es. filter (nat_lt from) es ≡ es)
    (λ before. rw here (ap (λ es. (at + n) ∷ es) (all_behind from (at + n) ns o some.1 (omega arith))))
    (λ past. refl)

pub ends_behind : (from at : ℕ) (ns : List ℕ) (o : ℕ) → AreSome ns → at ≤ from → filter (nat_lt from) (ends_before at ns o) ≡ ends_before from (left_from (from - at) ns) o
ends_behind from at [] o some le = refl
ends_behind from at (n ∷ ns) o some le =
    ⊎_elim first (λ (more : n ≤ from - at). later more (λ below. ends_behind from (at + n) ns o some.1 below)) (cases_lt (from - at) n)
  where
    first : from - at < n → filter (nat_lt from) (ends_before at (n ∷ ns) o) ≡ ends_before from (left_from (from - at) (n ∷ ns)) o
    first less =
        let e : from + (n - (from - at)) ≡ at + n = omega arith in
        let same : ends_before at (n ∷ ns) o ≡ ends_before from ((n - (from - at)) ∷ ns) o = rw e refl in
        let here : nat_lt from (at + n) ≡ true = lt-ltb from (at + n) (omega arith) in
        let all : filter (nat_lt from) (ends_before at (n ∷ ns) o) ≡ ends_before at (n ∷ ns) o =
        cond_both {A = List ℕ} (nat_lt (at + n) o) ((at + n) ∷ ends_before (at + n) ns o) [] (λ es. filter (nat_lt from) es ≡ es)
        (λ before. rw here (ap (λ es. (at + n) ∷ es) (all_behind from (at + n) ns o some.1 (omega arith))))
        (λ past. refl) in
        all ∙ (same ∙ ap (λ ms. ends_before from ms o) (sym (left_in (from - at) n ns less)))

    later : n ≤ from - at → (at + n ≤ from → filter (nat_lt from) (ends_before (at + n) ns o) ≡ ends_before from (left_from (from - (at + n)) ns) o) → filter (nat_lt from) (ends_before at (n ∷ ns) o) ≡ ends_before from (left_from (from - at) (n ∷ ns)) o
    later more behind =
        let e : from - at - n ≡ from - (at + n) = omega arith in
        let past_it : nat_lt from (at + n) ≡ false = le-ltb from (at + n) (omega arith) in
        let rest : ends_before from (left_from (from - (at + n)) ns) o ≡ ends_before from (left_from (from - at) (n ∷ ns)) o = ap (λ ms. ends_before from ms o) (sym (left_past (from - at) n ns more ∙ ap (λ k. left_from k ns) e)) in
        cond_both {A = List ℕ} (nat_lt (at + n) o) ((at + n) ∷ ends_before (at + n) ns o) [] (λ es. filter (nat_lt from) es ≡ ends_before from (left_from (from - at) (n ∷ ns)) o)
        (λ before. rw past_it (behind (omega arith) ∙ rest))
        (λ past. sym (ends_none from (left_from (from - at) (n ∷ ns)) o (omega (arith, ltb-false (at + n) o past))))

pub end_behind : (from at : ℕ) (ns : List ℕ) (o : ℕ) → at ≤ from → from < o → is_end at ns o ≡ is_end from (left_from (from - at) ns) o
end_behind from at [] o le less = refl
end_behind from at (n ∷ ns) o le less =
    ⊎_elim
    (λ (first : from - at < n). let e : from + (n - (from - at)) ≡ at + n = omega arith in sym (ap (λ ms. is_end from ms o) (left_in (from - at) n ns first) ∙ ap (λ k. (k == o) || is_end k ns o) e))
    (λ (more : n ≤ from - at).
    let e : from - at - n ≡ from - (at + n) = omega arith in
    ap (λ b. b || is_end (at + n) ns o) (other (omega arith)) ∙ (end_behind from (at + n) ns o (omega arith) less ∙ ap (λ ms. is_end from ms o) (sym (left_past (from - at) n ns more ∙ ap (λ k. left_from k ns) e))))
    (cases_lt (from - at) n)
  where
    other : at + n < o → (at + n == o) ≡ false
    other before = grind (arith, nat_tests)

-- the same, counted from another place
ends_shift : (k at : ℕ) (ns : List ℕ) (o : ℕ) → map (λ e. e - k) (ends_before (k + at) ns (k + o)) ≡ ends_before at ns o
ends_shift k at [] o = refl
ends_shift k at (n ∷ ns) o =
    let e : k + at + n ≡ k + (at + n) = omega arith in
    let less : nat_lt (k + at + n) (k + o) ≡ nat_lt (at + n) o = grind (arith, nat_tests) in
    let past_it : k + at + n - k ≡ at + n = omega arith in
    ap (λ b. map (λ p. p - k) (cond b ((k + at + n) ∷ ends_before (k + at + n) ns (k + o)) [])) less
    ∙ cond_both {A = List ℕ} (nat_lt (at + n) o) ((at + n) ∷ ends_before (at + n) ns o) [] (λ es. map (λ p. p - k) (cond (nat_lt (at + n) o) ((k + at + n) ∷ ends_before (k + at + n) ns (k + o)) []) ≡ es)
    (λ before. rw before (ap₂ (λ a b. a ∷ b) past_it (ap (λ j. map (λ p. p - k) (ends_before j ns (k + o))) e ∙ ends_shift k (at + n) ns o)))
    (λ past. rw past refl)

end_shift : (k at : ℕ) (ns : List ℕ) (o : ℕ) → is_end (k + at) ns (k + o) ≡ is_end at ns o
end_shift k at [] o = refl
end_shift k at (n ∷ ns) o =
    let e : k + at + n ≡ k + (at + n) = omega arith in
    let same : (k + at + n == k + o) ≡ (at + n == o) = grind (arith, nat_tests) in
    ap₂ (λ a b. a || b) same (ap (λ j. is_end j ns (k + o)) e ∙ end_shift k (at + n) ns o)

ends_from : (k : ℕ) (ns : List ℕ) (o : ℕ) → map (λ e. e - k) (ends_before k ns (k + o)) ≡ ends_before 0 ns o
ends_from k ns o = let e : k + 0 ≡ k = omega arith in ap (λ j. map (λ p. p - k) (ends_before j ns (k + o))) (sym e) ∙ ends_shift k 0 ns o

end_from : (k : ℕ) (ns : List ℕ) (o : ℕ) → is_end k ns (k + o) ≡ is_end 0 ns o
end_from k ns o = let e : k + 0 ≡ k = omega arith in ap (λ j. is_end j ns (k + o)) (sym e) ∙ end_shift k 0 ns o

cost_from : (k : ℕ) (ns : List ℕ) (o : ℕ) → cost k ns (k + o) ≡ cost 0 ns o
cost_from k ns o = omega (arith, size (ends_before k ns (k + o)), ap length (ends_from k ns o))
  where
    size : (es : List ℕ) → length (map (λ e. e - k) es) ≡ length es
    size [] = refl
    size (e ∷ es) = ap suc (size es)

-- the most octets, counted from another place
carried_from : (room k : ℕ) (ns : List ℕ) (o : ℕ) → IsCarried room 0 ns o → IsCarried room k ns (k + o)
carried_from room k ns o is = record {
  from = omega arith;
  within = omega (arith, is.within);
  fits = omega (arith, is.fits, cost_from k ns o);
  most = λ p low high costs. omega (arith, is.most (p - k) (omega arith) (omega arith) (below p low costs));
}
  where
    below : (p : ℕ) → k ≤ p → cost k ns p ≤ room → cost 0 ns (p - k) ≤ room
    below p low costs = let e : k + (p - k) ≡ p = omega arith in omega (arith, cost_from k ns (p - k), ap (cost k ns) e)

-- how many octets are left behind the indicator that stands first
abbrev pub room_at : ℕ → Bool → List ℕ → Front → ℕ
room_at size starts ns f = size - length (lead starts ns f)

-- what the PDU of the list is, where so many octets are carried of what is left of the units
pub record IsNext (size : ℕ) (starts : Bool) (ns : List ℕ) (f : Front) (o : ℕ) : Type 0 where
  pub reach : reach size starts ns f ≡ f.from + o
  pub indicators : map (λ e. e - f.from) (ends_marked size starts ns f) ≡ indicators_of (room_at size starts ns f) 0 (left_from f.from ns) o
  pub owed : (next_front size starts ns f).owed ≡ is_owed (room_at size starts ns f) 0 (left_from f.from ns) o

-- a place from which a PDU may begin
pub record IsFront (size : ℕ) (starts : Bool) (ns : List ℕ) (f : Front) : Type 0 where
  pub some : AreSome ns
  pub within : f.from ≤ total ns
  pub room : length (lead starts ns f) ≤ size

cost_is : (starts : Bool) (ns : List ℕ) (f : Front) (o : ℕ) → AreSome ns → cost_to starts ns f o ≡ length (lead starts ns f) + cost f.from (left_from f.from ns) o
cost_is starts ns f o some =
    let e : f.from - 0 ≡ f.from = omega arith in
    omega (arith, ap length (ends_behind f.from 0 ns o some (omega arith) ∙ ap (λ k. ends_before f.from (left_from k ns) o) e))

reach_is : (size : ℕ) (starts : Bool) (ns : List ℕ) (f : Front) (o : ℕ) → IsFront size starts ns f → IsCarried (room_at size starts ns f) f.from (left_from f.from ns) o → reach size starts ns f ≡ o
reach_is size starts ns f o here is =
    greatest_is (λ p. nat_le (cost_to starts ns f p) size) (total ns) o (omega (arith, is.within, left_total f.from ns, here.within))
    (le-leb _ _ (omega (arith, is.fits, cost_is starts ns f o here.some, here.room)))
    (λ p within fits. ⊎_elim
    (λ (before : p < f.from). omega (arith, is.from))
    (λ (behind : f.from ≤ p). is.most p behind (omega (arith, left_total f.from ns)) (omega (arith, leb-true _ _ fits, cost_is starts ns f p here.some)))
    (cases_lt p f.from))

pub next_is : (size : ℕ) (starts : Bool) (ns : List ℕ) (f : Front) (o : ℕ) → IsFront size starts ns f → IsCarried (room_at size starts ns f) 0 (left_from f.from ns) o → IsNext size starts ns f o
next_is size starts ns f o here is =
    record {
      reach = to;
      indicators = ap (map (λ e. e - f.from)) (ap₂ (λ es b. es ++ cond b (reach size starts ns f ∷ []) []) ends (ap₂ (λ a b. a && b) last free)) ∙ shifted;
      owed = ap₂ (λ a b. a && not b) last free;
    }
  where
    left : List ℕ
    left = left_from f.from ns

    room : ℕ
    room = room_at size starts ns f

    to : reach size starts ns f ≡ f.from + o
    to = reach_is size starts ns f (f.from + o) here (carried_from room f.from left o is)

    none : f.from - 0 ≡ f.from
    none = omega arith

    ends : ends_between ns f.from (reach size starts ns f) ≡ ends_before f.from left (f.from + o)
    ends = ends_behind f.from 0 ns (reach size starts ns f) here.some (omega arith) ∙ ap₂ (λ k p. ends_before f.from (left_from k ns) p) none to

    last : ends_unit size starts ns f ≡ is_end 0 left o
    last = ap (λ p. nat_lt f.from p && is_end 0 ns p) to ∙ ⊎_elim behind at (cases_lt 0 o)
      where
        behind : 0 < o → (nat_lt f.from (f.from + o) && is_end 0 ns (f.from + o)) ≡ is_end 0 left o
        behind more = rw (lt-ltb f.from (f.from + o) (omega arith)) (end_behind f.from 0 ns (f.from + o) (omega arith) (omega arith) ∙ (ap (λ k. is_end f.from (left_from k ns) (f.from + o)) none ∙ end_from f.from left o))

        at : o ≤ 0 → (nat_lt f.from (f.from + o) && is_end 0 ns (f.from + o)) ≡ is_end 0 left o
        at few = rw (le-ltb f.from (f.from + o) (omega arith)) (sym (end_none 0 left o (left_some f.from ns here.some) few))

    free : has_room size starts ns f ≡ nat_lt (cost 0 left o) room
    free = ap (λ p. nat_lt (cost_to starts ns f p) size) to ∙ same (cost_to starts ns f (f.from + o)) (cost 0 left o) (length (lead starts ns f)) (cost_is starts ns f (f.from + o) here.some ∙ ap (λ k. length (lead starts ns f) + k) (cost_from f.from left o)) here.room
      where
        same : (a b c : ℕ) → a ≡ c + b → c ≤ size → nat_lt a size ≡ nat_lt b (size - c)
        same a b c e le = grind (arith, nat_tests)

    past_it : f.from + o - f.from ≡ o
    past_it = omega arith

    shifted : map (λ e. e - f.from) (ends_before f.from left (f.from + o) ++ cond (is_marked room 0 left o) (reach size starts ns f ∷ []) []) ≡ indicators_of room 0 left o
    shifted = map-append (λ e. e - f.from) (ends_before f.from left (f.from + o)) (cond (is_marked room 0 left o) (reach size starts ns f ∷ []) []) ∙ ap₂ (λ a b. a ++ b) (ends_from f.from left o) (one (is_marked room 0 left o))
      where
        one : (b : Bool) → map (λ e. e - f.from) (cond b (reach size starts ns f ∷ []) []) ≡ cond b (o ∷ []) []
        one true = ap (λ k. k ∷ []) (ap (λ p. p - f.from) to ∙ past_it)
        one false = refl

pub filled-next : (size : ℕ) (starts : Bool) (ns : List ℕ) (f : Front) (o : ℕ) → AreSome ns → f.from ≤ total ns → length (lead starts ns f) ≤ size → IsCarried (size - length (lead starts ns f)) 0 (left_from f.from ns) o → (reach size starts ns f ≡ f.from + o) × ((indicators_of (size - length (lead starts ns f)) 0 (left_from f.from ns) o ≡ map (λ e. e - f.from) (ends_marked size starts ns f)) × ((next_front size starts ns f).owed ≡ is_owed (size - length (lead starts ns f)) 0 (left_from f.from ns) o))
filled-next size starts ns f o some within fits is =
    let next : IsNext size starts ns f o = next_is size starts ns f o (record { some = some; within = within; room = fits }) is in
    (next.reach, (sym next.indicators, next.owed))
