-- The first legal sequence, and the next one after another, by the least combinations that fit.
use Rattle.std.proofs.Common.{◌≡◌, ◌<◌, ◌≤◌, ◌+◌, ℕ, true, List, length, get_or, sym, ap, ◌∙◌, subst, arith, inl, inr}
use Rattle.std.proofs.lemmas.Bool.{cases_lt, both_ways}
use Rattle.dch_types.specs.declared.channel.Side.{Side}
use Rattle.dch_types.specs.Limits.{IsSide}
use Rattle.dch_collision.specs.Sequences.{IsLegal, IsBefore, IsFirst, IsNext, frames_of}
use Rattle.dch_collision.specs.Steps.{fits, previous_of, NoneFits, IsLeastFit, LeastFrom, NoneGreater, IsTurn}
use Rattle.dch_collision.proofs.Filling.{previous_same}
use Rattle.dch_collision.proofs.Chains.{IsChain, chain_legal, legal_chain}

-- a chain that agrees with a list before a radio frame fits there after that list
fits_after : (side : Side) (i f : ℕ) (chain other : List ℕ) (n : ℕ) → IsChain side i f chain → n < length chain
    → ((k : ℕ) → k < n → get_or chain k 0 ≡ get_or other k 0) → fits side i f n (previous_of other n) (get_or chain n 0) ≡ true
fits_after side i f chain other n is within same =
    ap (λ p. fits side i f n p (get_or chain n 0)) (sym (previous_same chain other n same)) ∙ is.step n within

-- nothing less stands where the least combination that fits does
none_less : (side : Side) (i f : ℕ) (chain other : List ℕ) (n : ℕ) → IsChain side i f chain → n < length chain
    → ((k : ℕ) → k < n → get_or chain k 0 ≡ get_or other k 0) → IsLeastFit side i f n (previous_of other n) 0 (get_or other n 0)
    → get_or chain n 0 < get_or other n 0 → ⊥
none_less side i f chain other n is within same least less =
    both_ways (fits side i f n (previous_of other n) (get_or chain n 0)) (least.least (get_or chain n 0) (omega arith) less) (fits_after side i f chain other n is within same)

-- nothing greater stands where no greater combination fits
none_more : (side : Side) (i f : ℕ) (chain other : List ℕ) (n : ℕ) → IsChain side i f chain → n < length chain
    → ((k : ℕ) → k < n → get_or chain k 0 ≡ get_or other k 0) → NoneFits side i f n (previous_of other n) (get_or other n 0 + 1)
    → get_or other n 0 < get_or chain n 0 → ⊥
none_more side i f chain other n is within same none more =
    both_ways (fits side i f n (previous_of other n) (get_or chain n 0)) (none (get_or chain n 0) (omega arith) (is.there n within)) (fits_after side i f chain other n is within same)

-- the least combinations everywhere are the first legal sequence
pub first_is : (side : Side) (i f : ℕ) (sequence : List ℕ) → IsSide side → length sequence ≡ frames_of side i → LeastFrom side i f 0 sequence → IsFirst side i f sequence
first_is side i f sequence good whole least = record {
  legal = chain_legal side i f sequence good whole
      (record { there = λ n within. (least n (omega arith) within).there; step = λ n within. (least n (omega arith) within).may });
  none_before = λ other legal before.
      let within : before.place < length sequence = omega (arith, legal.whole, before.within) in
      none_less side i f other sequence before.place (legal_chain side i f other good legal) before.within before.same (least before.place (omega arith) within) before.less;
}

-- where nothing fits in the first radio frame there is no legal sequence
pub none_is : (side : Side) (i f : ℕ) → IsSide side → 0 < frames_of side i → NoneFits side i f 0 0 0 → (sequence : List ℕ) → IsLegal side i f sequence → ⊥
none_is side i f good some none sequence legal =
    let within : 0 < length sequence = omega (arith, legal.whole) in
    both_ways (fits side i f 0 0 (get_or sequence 0 0)) (none (get_or sequence 0 0) (omega arith) (legal.there 0 within)) ((legal_chain side i f sequence good legal).step 0 within)

-- where no radio frame can take a greater combination the sequence is the last one
pub last_is : (side : Side) (i f : ℕ) (sequence : List ℕ) → IsSide side → IsLegal side i f sequence → NoneGreater side i f sequence 0
    → (other : List ℕ) → IsLegal side i f other → IsBefore sequence other → ⊥
last_is side i f sequence good legal none other other_legal before =
    none_more side i f other sequence before.place (legal_chain side i f other good other_legal) (omega (arith, legal.whole, other_legal.whole, before.within))
    (λ k less. sym (before.same k less)) (none before.place (omega arith) before.within) before.less

-- a sequence that is the same before a radio frame, greater there by the least step, and the least after it
pub record IsTurned (side : Side) (i f : ℕ) (old new : List ℕ) (n c : ℕ) : Type 0 where
  pub whole : length new ≡ length old
  pub turn : IsTurn side i f old n c
  pub same : (k : ℕ) → k < n → get_or new k 0 ≡ get_or old k 0
  pub here : get_or new n 0 ≡ c
  pub rest : LeastFrom side i f (n + 1) new

turned_chain : (side : Side) (i f : ℕ) (old new : List ℕ) (n c : ℕ) → IsChain side i f old → IsTurned side i f old new n c
    → (k : ℕ) → k < length new → (get_or new k 0 < length side.combinations) × (fits side i f k (previous_of new k) (get_or new k 0) ≡ true)
turned_chain side i f old new n c chain turned k within = elim (cases_lt k n) [
  | inl earlier ↦
      let same : get_or new k 0 ≡ get_or old k 0 = turned.same k earlier in
      let inside : k < length old = omega (arith, turned.whole) in (
        omega (arith, same, chain.there k inside),
        ap (fits side i f k (previous_of new k)) same ∙ fits_after side i f old new k chain inside (λ j less. sym (turned.same j (omega arith))),
      )
  | inr later ↦ elim (cases_lt n k) [
    | inl after ↦ ((turned.rest k (omega arith) within).there, (turned.rest k (omega arith) within).may)
    | inr at ↦
        let is : n ≡ k = omega arith in
        subst (λ m. (get_or new m 0 < length side.combinations) × (fits side i f m (previous_of new m) (get_or new m 0) ≡ true)) is (
          omega (arith, turned.here, turned.turn.choice.there),
          ap (fits side i f n (previous_of new n)) turned.here ∙ ap (λ p. fits side i f n p c) (previous_same new old n turned.same) ∙ turned.turn.choice.may,
        )
  ]
]

-- a legal sequence after the old one differs from it at that radio frame or before
between : (side : Side) (i f : ℕ) (old new other : List ℕ) (n c : ℕ) → IsTurned side i f old new n c → IsChain side i f other → length other ≡ length old
    → IsBefore old other → IsBefore other new → ⊥
between side i f old new other n c turned chain whole after before = elim (cases_lt n after.place) [
  -- no radio frame after it can take a greater combination
  | inl late ↦
      none_more side i f other old after.place chain (omega (arith, whole, after.within)) (λ k less. sym (after.same k less))
      (turned.turn.last after.place (omega arith) after.within) after.less
  | inr early ↦ elim (cases_lt before.place n) [
    | inl first ↦ elim (cases_lt after.place before.place) [
      | inl sooner ↦ omega (arith, before.same after.place sooner, turned.same after.place (omega arith), after.less)
      | inr no_sooner ↦ elim (cases_lt before.place after.place) [
        | inl later ↦ omega (arith, after.same before.place later, turned.same before.place first, before.less)
        | inr no_later ↦
            let at : after.place ≡ before.place = omega arith in
            omega (arith, ap (λ k. get_or old k 0) at, ap (λ k. get_or other k 0) at, turned.same before.place first, before.less, after.less)
      ]
    ]
    | inr second ↦ elim (cases_lt after.place n) [
      | inl sooner ↦ omega (arith, before.same after.place (omega arith), turned.same after.place sooner, after.less)
      | inr no_sooner ↦
          let at : after.place ≡ n = omega arith in
          elim (cases_lt n before.place) [
            | inl later ↦
                none_less side i f other new before.place chain before.within before.same
                (turned.rest before.place (omega arith) (omega (arith, whole, turned.whole, before.within))) before.less
            | inr no_later ↦
                let here : before.place ≡ n = omega arith in
                let less : get_or other n 0 < c = omega (arith, ap (λ k. get_or other k 0) here, ap (λ k. get_or new k 0) here, turned.here, before.less) in
                let more : get_or old n 0 + 1 ≤ get_or other n 0 = omega (arith, ap (λ k. get_or old k 0) at, ap (λ k. get_or other k 0) at, after.less) in
                both_ways (fits side i f n (previous_of old n) (get_or other n 0)) (turned.turn.choice.least (get_or other n 0) more less)
                (fits_after side i f other old n chain (omega (arith, whole, turned.turn.within)) (λ k less. sym (after.same k (omega arith))))
          ]
    ]
  ]
]

pub next_is : (side : Side) (i f : ℕ) (old new : List ℕ) (n c : ℕ) → IsSide side → IsLegal side i f old → IsTurned side i f old new n c → IsNext side i f old new
next_is side i f old new n c good legal turned =
    let chain : IsChain side i f old = legal_chain side i f old good legal in
    record {
      legal = chain_legal side i f new good (turned.whole ∙ legal.whole)
          (record { there = λ k within. (turned_chain side i f old new n c chain turned k within).0; step = λ k within. (turned_chain side i f old new n c chain turned k within).1 });
      after = record {
        place = n;
        within = turned.turn.within;
        same = λ k less. sym (turned.same k less);
        less = omega (arith, turned.here, turned.turn.choice.above);
      };
      none_between = λ other other_legal after before.
          between side i f old new other n c turned (legal_chain side i f other good other_legal) (other_legal.whole ∙ sym legal.whole) after before;
    }
