-- The legal sequences are looked at in their order.
use Rattle.std.proofs.Common.{◌≡◌, ◌⊎◌, ◌<◌, ◌≤◌, ℕ, List, refl, ap, arith, sym, subst, ◌∙◌, inl, inr}
use Rattle.std.specs.Prelude.{Bool, true, false, nat_lt, if◌then◌else◌}
use Rattle.std.proofs.lemmas.Bool.{ltb-false, ltb-true}
use Rattle.dch_types.specs.Parts.{channel_at}
use Rattle.dch_types.specs.declared.channel.Side.{Side}
use Rattle.dch_types.specs.Limits.{IsSide}
use Rattle.dch_collision.specs.Clear.{Copies}
use Rattle.dch_collision.specs.Sequences.{IsLegal, IsBefore, IsFirst, IsNext}
use Rattle.dch_collision.proofs.EachSequence.{compared}
use Rattle.dch_collision.proofs.Order.{AreDigits, value, before_less}
use Rattle.dch_margin.specs.Differ.{DifferInBlock, DifferInFormat, DifferUnder, IsLeast, IsLeastInFormat, IsLeastUnder, plan_in}
use Rattle.dch_margin.specs.declared.distance.Least.{Least}

-- two blocks differ in so many cells under a legal sequence up to this one
pub record DifferUpTo (side : Side) (sent : Copies) (i f : ℕ) (sequence : List ℕ) (cells : ℕ) : Type 0 where
  pub other : List ℕ
  pub legal : IsLegal side i f other
  pub order : value other ≤ value sequence
  pub pair : DifferUnder side sent i f other cells

digits : (side : Side) (i f : ℕ) (sequence : List ℕ) → IsSide side → IsLegal side i f sequence → AreDigits sequence
digits side i f sequence good legal n inside = omega (arith, legal.there n inside, good.few_combinations)

rises : (side : Side) (i f : ℕ) (sequence next : List ℕ) → IsSide side → IsLegal side i f sequence → IsLegal side i f next → IsBefore sequence next → value sequence < value next
rises side i f sequence next good legal later before = before_less sequence next (legal.whole ∙ sym later.whole) (digits side i f sequence good legal) before

-- they differ in so few under this legal sequence, in the place of this code block, and under none up to the other
-- sequence in fewer
pub record IsLeastUpTo (side : Side) (sent : Copies) (i f : ℕ) (sequence best : List ℕ) (least : Least) : Type 0 where
  pub legal : IsLegal side i f best
  pub there : least.block < (plan_in side i f).blocks
  pub pair : DifferInBlock (channel_at side i).coding (plan_in side i f) (sent i f best) least.block least.cells
  pub none : (other : ℕ) → DifferUpTo side sent i f sequence other → least.cells ≤ other

pub up_to_first : (side : Side) (sent : Copies) (i f : ℕ) (sequence best : List ℕ) (least : Least) → IsSide side → IsFirst side i f sequence → best ≡ sequence → IsLeastUnder side sent i f sequence least → IsLeastUpTo side sent i f sequence best least
up_to_first side sent i f sequence best least good first same is =
    subst (λ (best : List ℕ). IsLeastUpTo side sent i f sequence best least) (sym same) (record {
      legal = first.legal;
      there = is.there;
      pair = is.pair;
      none = λ m up. is.none m (back m up);
    })
  where
    back : (m : ℕ) → DifferUpTo side sent i f sequence m → DifferUnder side sent i f sequence m
    back m up = elim (compared up.other sequence (up.legal.whole ∙ sym first.legal.whole)) [
      | inl same ↦ subst (λ (s : List ℕ). DifferUnder side sent i f s m) same up.pair
      | inr (inl before) ↦ absurd (first.none_before up.other up.legal before)
      | inr (inr after) ↦ absurd (omega (arith, up.order, rises side i f sequence up.other good first.legal up.legal after))
    ]

-- up to the next sequence they differ up to this one, or under that
up_or_here : (side : Side) (sent : Copies) (i f : ℕ) (sequence next : List ℕ) → IsSide side → IsLegal side i f sequence → IsNext side i f sequence next → (x : ℕ) → DifferUpTo side sent i f next x → DifferUpTo side sent i f sequence x ⊎ DifferUnder side sent i f next x
up_or_here side sent i f sequence next good legal is x up = elim (compared up.other next (up.legal.whole ∙ sym is.legal.whole)) [
  | inl same ↦ inr (subst (λ (s : List ℕ). DifferUnder side sent i f s x) same up.pair)
  | inr (inl early) ↦ elim (compared up.other sequence (up.legal.whole ∙ sym legal.whole)) [
    | inl same ↦ inl (record { other = up.other; legal = up.legal; order = omega (arith, ap value same); pair = up.pair })
    | inr (inl first) ↦ inl (record { other = up.other; legal = up.legal; order = omega (arith, rises side i f up.other sequence good up.legal legal first); pair = up.pair })
    | inr (inr between) ↦ absurd (is.none_between up.other up.legal between early)
  ]
  | inr (inr late) ↦ absurd (omega (arith, up.order, rises side i f next up.other good is.legal up.legal late))
]

pub up_to_next : (side : Side) (sent : Copies) (i f : ℕ) (sequence next best : List ℕ) (least here : Least) → IsSide side → IsLegal side i f sequence → IsNext side i f sequence next → IsLeastUpTo side sent i f sequence best least → IsLeastUnder side sent i f next here
    → IsLeastUpTo side sent i f next (if nat_lt here.cells least.cells then next else best) (if nat_lt here.cells least.cells then here else least)
up_to_next side sent i f sequence next best least here good legal is before now = by_test (nat_lt here.cells least.cells) (λ test. ltb-true here.cells least.cells test) (λ test. ltb-false here.cells least.cells test)
  where
    at_least : (n : ℕ) → n ≤ least.cells → n ≤ here.cells → (x : ℕ) → DifferUpTo side sent i f next x → n ≤ x
    at_least n first second x up = elim (up_or_here side sent i f sequence next good legal is x up) [
      | inl earlier ↦ omega (arith, before.none x earlier)
      | inr under ↦ omega (arith, now.none x under)
    ]

    by_test : (less : Bool) → (less ≡ true → here.cells < least.cells) → (less ≡ false → least.cells ≤ here.cells) → IsLeastUpTo side sent i f next (if less then next else best) (if less then here else least)
    by_test true below above = record { legal = is.legal; there = now.there; pair = now.pair; none = at_least here.cells (omega (arith, below refl)) (omega arith) }
    by_test false below above = record { legal = before.legal; there = before.there; pair = before.pair; none = at_least least.cells (omega arith) (above refl) }

pub up_to_last : (side : Side) (sent : Copies) (i f : ℕ) (sequence best : List ℕ) (least : Least) → IsSide side → IsLegal side i f sequence → ((other : List ℕ) → IsLegal side i f other → IsBefore sequence other → ⊥) → IsLeastUpTo side sent i f sequence best least → IsLeastInFormat side sent i f best least
up_to_last side sent i f sequence best least good legal last is = record { legal = is.legal; there = is.there; pair = is.pair; none = λ m pair. is.none m (back m pair) }
  where
    back : (m : ℕ) → DifferInFormat side sent i f m → DifferUpTo side sent i f sequence m
    back m pair = elim (compared pair.sequence sequence (pair.legal.whole ∙ sym legal.whole)) [
      | inl same ↦ record { other = pair.sequence; legal = pair.legal; order = omega (arith, ap value same); pair = pair.pair }
      | inr (inl first) ↦ record { other = pair.sequence; legal = pair.legal; order = omega (arith, rises side i f pair.sequence sequence good pair.legal legal first); pair = pair.pair }
      | inr (inr after) ↦ absurd (last pair.sequence pair.legal after)
    ]

-- where all sequences send the same, one legal sequence is enough
pub in_format : (side : Side) (sent : Copies) (i f : ℕ) (sequence : List ℕ) (least : Least) → IsLegal side i f sequence → ((other : List ℕ) → IsLeastUnder side sent i f other least) → IsLeastInFormat side sent i f sequence least
in_format side sent i f sequence least legal is = record {
  legal = legal;
  there = (is sequence).there;
  pair = (is sequence).pair;
  none = λ m pair. (is pair.sequence).none m pair.pair;
}

-- the least of a format is its distance
pub format_least : (side : Side) (sent : Copies) (i f : ℕ) (sequence : List ℕ) (least : Least) → IsLeastInFormat side sent i f sequence least → IsLeast (DifferInFormat side sent i f) least.cells
format_least side sent i f sequence least is = record {
  has = record { sequence = sequence; legal = is.legal; pair = record { block = least.block; there = is.there; pair = is.pair } };
  least = is.none;
}
