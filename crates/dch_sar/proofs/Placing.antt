-- Placing unit after unit carries the most octets.
use Rattle.std.proofs.Common.{◌≡◌, ◌+◌, ◌-◌, ◌<◌, ◌≤◌, ℕ, suc, List, [], ◌∷◌, ◌++◌, Bool, true, false, cond, length, arith, refl, sym, ap, ap₂, ◌∙◌, subst, ⊎_elim}
use Rattle.std.specs.Prelude.{◌&&◌, ◌==◌, not, nat_lt, if◌then◌else◌}
use Rattle.std.proofs.lemmas.Bool.{eqb-true, ltb-true, ltb-false, lt-ltb, le-ltb, cases_lt, cond_both}
use Rattle.std.proofs.lemmas.Bool.Decides.{nat_tests}
use Rattle.dch_sar.specs.Filling.{total, ends_before, is_end, cost, IsCarried, is_owed, indicators_of, AreSome}

-- what placing gives: where the octets that are carried end, the indicators, and whether an indicator is owed
pub record Placed : Type 0 where
  pub octets : ℕ
  pub indicators : List ℕ
  pub owed : Bool

abbrev pub with_indicators : List ℕ → Placed → Placed
with_indicators ms f = record { octets = f.octets; indicators = ms ++ f.indicators; owed = f.owed }

-- unit after unit into the octets that are free
abbrev pub place : ℕ → ℕ → List ℕ → Placed
place free at [] = record { octets = at; indicators = []; owed = false }
place free at (n ∷ ns) =
    if nat_lt n free
    then with_indicators ((at + n) ∷ []) (place (free - n - 1) (at + n) ns)
    else (if n == free
    then record { octets = at + n; indicators = []; owed = true }
    else record { octets = at + free; indicators = []; owed = false })

pub record IsPlaced (room at : ℕ) (ns : List ℕ) (f : Placed) : Type 0 where
  pub octets : IsCarried room at ns f.octets
  pub indicators : f.indicators ≡ indicators_of room at ns f.octets
  pub owed : f.owed ≡ is_owed room at ns f.octets

-- no end stands before the row
pub ends_none : (at : ℕ) (ns : List ℕ) (o : ℕ) → o ≤ at → ends_before at ns o ≡ []
ends_none at [] o le = refl
ends_none at (n ∷ ns) o le = let past : nat_lt (at + n) o ≡ false = le-ltb _ _ (omega arith) in rw past refl

pub end_none : (at : ℕ) (ns : List ℕ) (o : ℕ) → AreSome ns → o ≤ at → is_end at ns o ≡ false
end_none at [] o some le = refl
end_none at (n ∷ ns) o some le =
    let more : 0 < n = some.0 in
    let here : (at + n == o) ≡ false = grind (arith, nat_tests) in
    rw (here, end_none (at + n) ns o some.1 (omega arith)) refl

-- past the end of the first unit
ends_past : (at n : ℕ) (ns : List ℕ) (o : ℕ) → at + n < o → ends_before at (n ∷ ns) o ≡ (at + n) ∷ ends_before (at + n) ns o
ends_past at n ns o past = rw (lt-ltb (at + n) o past) refl

ends_first : (at n : ℕ) (ns : List ℕ) (o : ℕ) → o ≤ at + n → ends_before at (n ∷ ns) o ≡ []
ends_first at n ns o le = rw (le-ltb (at + n) o le) refl

end_past : (at n : ℕ) (ns : List ℕ) (o : ℕ) → at + n < o → is_end at (n ∷ ns) o ≡ is_end (at + n) ns o
end_past at n ns o past = let other : (at + n == o) ≡ false = grind (arith, nat_tests) in rw other refl

end_here : (at n : ℕ) (ns : List ℕ) → is_end at (n ∷ ns) (at + n) ≡ true
end_here at n ns = let here : (at + n == at + n) ≡ true = grind (arith, nat_tests) in rw here refl

cost_past : (at n : ℕ) (ns : List ℕ) (o : ℕ) → at + n < o → cost at (n ∷ ns) o ≡ n + 1 + cost (at + n) ns o
cost_past at n ns o past = let e : length (ends_before at (n ∷ ns) o) ≡ suc (length (ends_before (at + n) ns o)) = ap length (ends_past at n ns o past) in omega (arith, e)

cost_first : (at n : ℕ) (ns : List ℕ) (o : ℕ) → o ≤ at + n → cost at (n ∷ ns) o ≡ o - at
cost_first at n ns o le = let e : length (ends_before at (n ∷ ns) o) ≡ 0 = ap length (ends_first at n ns o le) in omega (arith, e)

-- within the first unit
first_carried : (room at n : ℕ) (ns : List ℕ) (o : ℕ) → at ≤ o → o ≤ at + n → o - at ≤ room → ((p : ℕ) → at ≤ p → cost at (n ∷ ns) p ≤ room → p ≤ o) → IsCarried room at (n ∷ ns) o
first_carried room at n ns o from le fits most = record {
  from = from;
  within = omega arith;
  fits = rw (cost_first at n ns o le) fits;
  most = λ p low high costs. most p low costs;
}

-- the indicators and the debt, by what is known of the place
indicators_are : (room at : ℕ) (ns : List ℕ) (o : ℕ) (es : List ℕ) (a b : Bool) → ends_before at ns o ≡ es → is_end at ns o ≡ a → nat_lt (cost at ns o) room ≡ b → es ++ cond (a && b) (o ∷ []) [] ≡ indicators_of room at ns o
indicators_are room at ns o es a b ends end fits = sym (ap₂ (λ xs c. xs ++ cond c (o ∷ []) []) ends (ap₂ (λ x y. x && y) end fits))

owed_is : (room at : ℕ) (ns : List ℕ) (o : ℕ) (a b : Bool) → is_end at ns o ≡ a → nat_lt (cost at ns o) room ≡ b → (a && not b) ≡ is_owed room at ns o
owed_is room at ns o a b end fits = sym (ap₂ (λ x y. x && not y) end fits)

full_placed : (at n : ℕ) (ns : List ℕ) → IsPlaced n at (n ∷ ns) (record { octets = at + n; indicators = []; owed = true })
full_placed at n ns =
    let costs : cost at (n ∷ ns) (at + n) ≡ n = cost_first at n ns (at + n) (omega arith) ∙ omega arith in
    let no_room : nat_lt (cost at (n ∷ ns) (at + n)) n ≡ false = ap (λ k. nat_lt k n) costs ∙ le-ltb n n (omega arith) in
    let none : ends_before at (n ∷ ns) (at + n) ≡ [] = ends_first at n ns (at + n) (omega arith) in
    record {
      octets = first_carried n at n ns (at + n) (omega arith) (omega arith) (omega arith) (λ p low costs. omega arith);
      indicators = indicators_are n at (n ∷ ns) (at + n) [] true false none (end_here at n ns) no_room;
      owed = owed_is n at (n ∷ ns) (at + n) true false (end_here at n ns) no_room;
    }

part_placed : (room at n : ℕ) (ns : List ℕ) → AreSome ns → room < n → IsPlaced room at (n ∷ ns) (record { octets = at + room; indicators = []; owed = false })
part_placed room at n ns some less =
    let none : ends_before at (n ∷ ns) (at + room) ≡ [] = ends_first at n ns (at + room) (omega arith) in
    let other : (at + n == at + room) ≡ false = grind (arith, nat_tests) in
    let no_end : is_end at (n ∷ ns) (at + room) ≡ false = rw (other, end_none (at + n) ns (at + room) some (omega arith)) refl in
    record {
      octets = first_carried room at n ns (at + room) (omega arith) (omega arith) (omega arith) (λ p low costs. omega arith);
      indicators = indicators_are room at (n ∷ ns) (at + room) [] false (nat_lt (cost at (n ∷ ns) (at + room)) room) none no_end refl;
      owed = owed_is room at (n ∷ ns) (at + room) false (nat_lt (cost at (n ∷ ns) (at + room)) room) no_end refl;
    }

most_after : (room at n : ℕ) (ns : List ℕ) (o : ℕ) → n < room → IsCarried (room - n - 1) (at + n) ns o → (p : ℕ) → at ≤ p → p ≤ at + total (n ∷ ns) → cost at (n ∷ ns) p ≤ room → p ≤ o
most_after room at n ns o less rest p low high costs =
    ⊎_elim
    (λ (past : at + n < p). rest.most p (omega arith) (omega arith) (omega (arith, cost_past at n ns p past)))
    (λ (first : p ≤ at + n). omega (arith, rest.from))
    (cases_lt (at + n) p)

same_room : (c n room : ℕ) → n < room → nat_lt (n + 1 + c) room ≡ nat_lt c (room - n - 1)
same_room c n room less = grind (arith, nat_tests)

next_placed : (room at n : ℕ) (ns : List ℕ) (f : Placed) → AreSome ns → n < room → IsPlaced (room - n - 1) (at + n) ns f → IsPlaced room at (n ∷ ns) (with_indicators ((at + n) ∷ []) f)
next_placed room at n ns f some less rest =
    ⊎_elim past here (cases_lt (at + n) f.octets)
  where
    past : at + n < f.octets → IsPlaced room at (n ∷ ns) (with_indicators ((at + n) ∷ []) f)
    past further =
        let costs : cost at (n ∷ ns) f.octets ≡ n + 1 + cost (at + n) ns f.octets = cost_past at n ns f.octets further in
        let same : nat_lt (cost at (n ∷ ns) f.octets) room ≡ nat_lt (cost (at + n) ns f.octets) (room - n - 1) = ap (λ k. nat_lt k room) costs ∙ same_room (cost (at + n) ns f.octets) n room less in
        record {
          octets = record { from = omega arith; within = omega (arith, rest.octets.within); fits = omega (arith, rest.octets.fits); most = most_after room at n ns f.octets less rest.octets };
          indicators = ap (λ ms. (at + n) ∷ ms) rest.indicators ∙ indicators_are room at (n ∷ ns) f.octets _ _ _ (ends_past at n ns f.octets further) (end_past at n ns f.octets further) same;
          owed = rest.owed ∙ owed_is room at (n ∷ ns) f.octets _ _ (end_past at n ns f.octets further) same;
        }

    here : f.octets ≤ at + n → IsPlaced room at (n ∷ ns) (with_indicators ((at + n) ∷ []) f)
    here no_further =
        let is : f.octets ≡ at + n = omega (arith, rest.octets.from) in
        let no_indicators : f.indicators ≡ [] = rest.indicators ∙ (ap (indicators_of (room - n - 1) (at + n) ns) is ∙ sym (indicators_are (room - n - 1) (at + n) ns (at + n) [] false (nat_lt (cost (at + n) ns (at + n)) (room - n - 1)) (ends_none (at + n) ns (at + n) (omega arith)) (end_none (at + n) ns (at + n) some (omega arith)) refl)) in
        let no_debt : f.owed ≡ false = rest.owed ∙ (ap (is_owed (room - n - 1) (at + n) ns) is ∙ sym (owed_is (room - n - 1) (at + n) ns (at + n) false (nat_lt (cost (at + n) ns (at + n)) (room - n - 1)) (end_none (at + n) ns (at + n) some (omega arith)) refl)) in
        let costs : cost at (n ∷ ns) (at + n) ≡ n = cost_first at n ns (at + n) (omega arith) ∙ omega arith in
        let fits : nat_lt (cost at (n ∷ ns) (at + n)) room ≡ true = ap (λ k. nat_lt k room) costs ∙ lt-ltb n room less in
        let carried : IsCarried room at (n ∷ ns) f.octets = record { from = omega arith; within = omega (arith, rest.octets.within); fits = omega (arith, ap (cost at (n ∷ ns)) is ∙ costs); most = most_after room at n ns f.octets less rest.octets } in
        record {
          octets = carried;
          indicators = ap (λ ms. (at + n) ∷ ms) no_indicators ∙ (indicators_are room at (n ∷ ns) (at + n) [] true true (ends_first at n ns (at + n) (omega arith)) (end_here at n ns) fits ∙ ap (indicators_of room at (n ∷ ns)) (sym is));
          owed = no_debt ∙ (owed_is room at (n ∷ ns) (at + n) true true (end_here at n ns) fits ∙ ap (is_owed room at (n ∷ ns)) (sym is));
        }

pub place_is : (room at : ℕ) (ns : List ℕ) → AreSome ns → IsPlaced room at ns (place room at ns)
place_is room at [] some = record {
  octets = record { from = omega arith; within = omega arith; fits = omega arith; most = λ p low high costs. omega arith };
  indicators = refl;
  owed = refl;
}
place_is room at (n ∷ ns) some =
    cond_both (nat_lt n room) _ _ (IsPlaced room at (n ∷ ns))
    (λ less. next_placed room at n ns (place (room - n - 1) (at + n) ns) some.1 (ltb-true _ _ less) (place_is (room - n - 1) (at + n) ns some.1))
    (λ more. cond_both (n == room) _ _ (IsPlaced room at (n ∷ ns))
    (λ same. subst (λ r. IsPlaced r at (n ∷ ns) (record { octets = at + n; indicators = []; owed = true })) (eqb-true _ _ same) (full_placed at n ns))
    (λ other. part_placed room at n ns some.1 (below (ltb-false _ _ more) other)))
  where
    below : room ≤ n → (n == room) ≡ false → room < n
    below le other = grind (arith, nat_tests)
