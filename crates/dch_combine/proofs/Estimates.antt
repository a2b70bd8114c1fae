-- The best quality estimate of the first legs.
use Rattle.std.proofs.Common.{◌≡◌, ◌<◌, ◌≤◌, ◌+◌, ◌∙◌, ℕ, arith, refl, ap, sym, subst, inl, inr, Option, Some, None}
use Rattle.std.specs.Prelude.{min}
use Rattle.std.proofs.lemmas.Bool.{cases_lt}
use Rattle.dch_accept.specs.HeldSets.{HeldSet}
use Rattle.dch_combine.specs.Legs.{LegFrame}
use Rattle.dch_combine.specs.Steps.{better}
use Rattle.dch_combine.specs.Taken.{FindsBest}
use Rattle.dch_combine.specs.Values.{frame_if}

-- the best one of the first legs
pub record IsBestOf (legs : ℕ → Option LegFrame) (count qe : ℕ) : Type 0 where
  pub leg : ℕ
  pub frame : LegFrame
  pub is : legs leg ≡ Some frame
  pub reached : frame.qe ≡ qe
  pub least : (k : ℕ) (other : LegFrame) → k < count → legs k ≡ Some other → qe ≤ other.qe

-- or that they have no frame
abbrev pub FindsBestOf : (ℕ → Option LegFrame) → ℕ → Option ℕ → Type 0
FindsBestOf legs count None = (k : ℕ) → k < count → legs k ≡ None
FindsBestOf legs count (Some qe) = IsBestOf legs count qe

min_first : (a b : ℕ) → a ≤ b → min a b ≡ a
min_first a b least = omega arith

min_second : (a b : ℕ) → b ≤ a → min a b ≡ b
min_second a b least = omega arith

-- the quality estimate of leg n
here : (legs : ℕ → Option LegFrame) (n k qe : ℕ) (held : HeldSet) (other : LegFrame) → legs n ≡ Some (record { held = held; qe = qe }) → n ≤ k → k < n + 1 → legs k ≡ Some other → other.qe ≡ qe
here legs n k qe held other is past less other_is =
    let same : k ≡ n = omega (arith, past, less) in
    let one : Some other ≡ Some (record { held = held; qe = qe }) = sym other_is ∙ (ap legs same ∙ is) in
    let it : other ≡ record { held = held; qe = qe } = cc in
    ap (λ (f : LegFrame). f.qe) it

-- one more leg
pub best_next : (legs : ℕ → Option LegFrame) (n : ℕ) (best qe : Option ℕ) (held : HeldSet) → FindsBestOf legs n best → legs n ≡ frame_if qe held → FindsBestOf legs (n + 1) (better best qe)
best_next legs n None None held none is = λ k less. elim (cases_lt k n) [
  | inl before ↦ none k before
  | inr past ↦ (let same : k ≡ n = omega (arith, past, less) in ap legs same ∙ is)
]
best_next legs n None (Some qe) held none is = record {
  leg = n;
  frame = record { held = held; qe = qe };
  is = is;
  reached = refl;
  least = λ k other less other_is. elim (cases_lt k n) [
    | inl before ↦ (let was : legs k ≡ None = none k before in absurd (cc))
    | inr past ↦
        let equal : other.qe ≡ qe = here legs n k qe held other is past less other_is in
        omega (arith, equal)
  ];
}
best_next legs n (Some best) None held found is = record {
  leg = found.leg;
  frame = found.frame;
  is = found.is;
  reached = found.reached;
  least = λ k other less other_is. elim (cases_lt k n) [
    | inl before ↦ found.least k other before other_is
    | inr past ↦
        let same : k ≡ n = omega (arith, past, less) in
        let was : legs k ≡ None = ap legs same ∙ is in
        absurd (cc)
  ];
}
best_next legs n (Some best) (Some qe) held found is = elim (cases_lt best qe) [
  | inl less ↦ subst (λ m. IsBestOf legs (n + 1) m) (sym (min_first best qe (omega (arith, less)))) (record {
    leg = found.leg;
    frame = found.frame;
    is = found.is;
    reached = found.reached;
    least = λ k other inside other_is. elim (cases_lt k n) [
      | inl before ↦ found.least k other before other_is
      | inr past ↦ (let equal : other.qe ≡ qe = here legs n k qe held other is past inside other_is in omega (arith, equal, less))
    ];
  })
  | inr more ↦ subst (λ m. IsBestOf legs (n + 1) m) (sym (min_second best qe more)) (record {
    leg = n;
    frame = record { held = held; qe = qe };
    is = is;
    reached = refl;
    least = λ k other inside other_is. elim (cases_lt k n) [
      | inl before ↦ (let least : best ≤ other.qe = found.least k other before other_is in omega (arith, least, more))
      | inr past ↦ (let equal : other.qe ≡ qe = here legs n k qe held other is past inside other_is in omega (arith, equal))
    ];
  })
]

-- and all legs
pub best_all : (legs : ℕ → Option LegFrame) (n : ℕ) (best : Option ℕ) → ((k : ℕ) → n ≤ k → legs k ≡ None) → FindsBestOf legs n best → FindsBest legs best
best_all legs n None past none = λ k. elim (cases_lt k n) [ inl less ↦ none k less | inr more ↦ past k more ]
best_all legs n (Some best) past found = record {
  leg = found.leg;
  frame = found.frame;
  is = found.is;
  reached = found.reached;
  least = λ k other other_is. elim (cases_lt k n) [
    | inl less ↦ found.least k other less other_is
    | inr more ↦ (let none : legs k ≡ None = past k more in absurd (cc))
  ];
}
