-- For a caller that goes through the legal sequences: each one is visited.
use Rattle.std.proofs.Common.{◌≡◌, ◌<◌, ℕ, zero, suc, List, [], ◌∷◌, length, get_or, refl, sym, ap₂, ◌∙◌, arith, inl, inr, ◌⊎◌}
use Rattle.std.proofs.lemmas.Bool.{cases_lt}
use Rattle.dch_types.specs.declared.channel.Side.{Side}
use Rattle.dch_collision.specs.Sequences.{IsLegal, IsBefore, IsFirst, IsNext}

-- one list is before the other after the same number
longer_before : (a b : ℕ) (as' bs : List ℕ) → a ≡ b → IsBefore as' bs → IsBefore (a ∷ as') (b ∷ bs)
longer_before a b as' bs same before = record {
  place = suc before.place;
  within = omega (arith, before.within);
  same = both;
  less = before.less;
}
  where
    both : (n : ℕ) → n < suc before.place → get_or (a ∷ as') n 0 ≡ get_or (b ∷ bs) n 0
    both zero less = same
    both (suc n) less = before.same n (omega arith)

first_less : (a b : ℕ) (as' bs : List ℕ) → a < b → IsBefore (a ∷ as') (b ∷ bs)
first_less a b as' bs less = record { place = 0; within = omega arith; same = λ n none. absurd (omega arith); less = less }

-- of two lists of one length one is before the other, or they are the same
pub compared : (first second : List ℕ) → length first ≡ length second → (first ≡ second) ⊎ (IsBefore first second ⊎ IsBefore second first)
compared [] [] whole = inl refl
compared [] (b ∷ bs) whole = absurd (omega arith)
compared (a ∷ as') [] whole = absurd (omega arith)
compared (a ∷ as') (b ∷ bs) whole = elim (cases_lt a b) [
  | inl less ↦ inr (inl (first_less a b as' bs less))
  | inr no_less ↦ elim (cases_lt b a) [
    | inl more ↦ inr (inr (first_less b a bs as' more))
    | inr no_more ↦
        let same : a ≡ b = omega arith in
        elim (compared as' bs (omega arith)) [
          | inl rest ↦ inl (ap₂ (λ x xs. x ∷ xs) same rest)
          | inr (inl before) ↦ inr (inl (longer_before a b as' bs same before))
          | inr (inr after) ↦ inr (inr (longer_before b a bs as' (sym same) after))
        ]
  ]
]

-- a legal sequence that is not after the first one is the first one
pub first_alone : (side : Side) (i f : ℕ) (sequence other : List ℕ) → IsFirst side i f sequence → IsLegal side i f other → (IsBefore sequence other → ⊥) → other ≡ sequence
first_alone side i f sequence other first legal not_after = elim (compared other sequence (legal.whole ∙ sym first.legal.whole)) [
  | inl same ↦ same
  | inr (inl before) ↦ absurd (first.none_before other legal before)
  | inr (inr after) ↦ absurd (not_after after)
]

-- a legal sequence that is not after the next one is that one, or it is not after the one before
pub next_or_before : (side : Side) (i f : ℕ) (sequence next other : List ℕ) → IsNext side i f sequence next → IsLegal side i f other → (IsBefore next other → ⊥)
    → (other ≡ next) ⊎ (IsBefore sequence other → ⊥)
next_or_before side i f sequence next other is legal not_after = elim (compared other next (legal.whole ∙ sym is.legal.whole)) [
  | inl same ↦ inl same
  | inr (inl before) ↦ inr (λ after. is.none_between other legal after before)
  | inr (inr after) ↦ absurd (not_after after)
]
