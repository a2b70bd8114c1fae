-- The legal sequences are looked at in their order.
use Rattle.std.proofs.Common.{◌<◌, ◌-◌, ℕ, List, arith, sym, subst, ◌∙◌, inl, inr}
use Rattle.dch_types.specs.declared.channel.Side.{Side}
use Rattle.dch_types.specs.Limits.{IsSide}
use Rattle.dch_collision.specs.Sequences.{IsLegal, IsBefore, IsFirst, IsNext}
use Rattle.dch_collision.proofs.EachSequence.{compared}
use Rattle.dch_collision.specs.Clear.{Copies, IsClearUnder, IsClearFormat}
use Rattle.dch_collision.proofs.Order.{power, value, rest_falls}

-- a legal sequence, and no collision under those before it
pub record IsReached (side : Side) (sent : Copies) (i f : ℕ) (sequence : List ℕ) : Type 0 where
  pub legal : IsLegal side i f sequence
  pub before : (other : List ℕ) → IsLegal side i f other → IsBefore other sequence → IsClearUnder side sent i f other

pub reach_first : (side : Side) (sent : Copies) (i f : ℕ) (sequence : List ℕ) → IsFirst side i f sequence → IsReached side sent i f sequence
reach_first side sent i f sequence first = record {
  legal = first.legal;
  before = λ other legal before. absurd (first.none_before other legal before);
}

pub reach_next : (side : Side) (sent : Copies) (i f : ℕ) (sequence next : List ℕ) → IsReached side sent i f sequence → IsClearUnder side sent i f sequence → IsNext side i f sequence next → IsReached side sent i f next
reach_next side sent i f sequence next reached clear is = record {
  legal = is.legal;
  before = λ other legal before. elim (compared other sequence (legal.whole ∙ sym reached.legal.whole)) [
    | inl same ↦ subst (λ (s : List ℕ). IsClearUnder side sent i f s) (sym same) clear
    | inr (inl earlier) ↦ reached.before other legal earlier
    | inr (inr later) ↦ absurd (is.none_between other legal later before)
  ];
}

pub reach_all : (side : Side) (sent : Copies) (i f : ℕ) (sequence : List ℕ) → IsReached side sent i f sequence → IsClearUnder side sent i f sequence → ((other : List ℕ) → IsLegal side i f other → IsBefore sequence other → ⊥) → IsClearFormat side sent i f
reach_all side sent i f sequence reached clear last other legal = elim (compared other sequence (legal.whole ∙ sym reached.legal.whole)) [
  | inl same ↦ subst (λ (s : List ℕ). IsClearUnder side sent i f s) (sym same) clear
  | inr (inl earlier) ↦ reached.before other legal earlier
  | inr (inr later) ↦ absurd (last other legal later)
]

-- the number of those that are left falls
pub next_falls : (side : Side) (i f : ℕ) (sequence next : List ℕ) → IsSide side → IsLegal side i f sequence → IsNext side i f sequence next → power next - value next < power sequence - value sequence
next_falls side i f sequence next good legal is =
    rest_falls sequence next (legal.whole ∙ sym is.legal.whole)
    (λ n inside. omega (arith, legal.there n inside, good.few_combinations))
    (λ n inside. omega (arith, is.legal.there n inside, good.few_combinations))
    is.after
