-- Sequences that are filled up with the least combinations that fit.
use Rattle.std.proofs.Common.{◌≡◌, ◌≢◌, ◌<◌, ◌≤◌, ◌+◌, ◌-◌, ℕ, zero, suc, List, length, get_or, set, refl, sym, ap, ◌∙◌, subst, arith, inl, inr, get_or-set_other, get_or-set_same}
use Rattle.std.proofs.lemmas.Bool.{cases_lt}
use Rattle.dch_types.specs.declared.channel.Side.{Side}
use Rattle.dch_collision.specs.Steps.{IsLeastFit, LeastFrom, previous_of}

-- lists that agree before a radio frame have the same combination before it
pub previous_same : (a b : List ℕ) (n : ℕ) → ((k : ℕ) → k < n → get_or a k 0 ≡ get_or b k 0) → previous_of a n ≡ previous_of b n
previous_same a b zero same = refl
previous_same a b (suc n) same = same n (omega arith)

pub previous_is : (a : List ℕ) (n : ℕ) → 1 ≤ n → previous_of a n ≡ get_or a (n - 1) 0
previous_is a zero some = absurd (omega arith)
previous_is a (suc n) some = let before : suc n - 1 ≡ n = omega arith in ap (λ k. get_or a k 0) (sym before)

-- the least combination that fits, of equal numbers
pub least_along : (side : Side) (i f n p q from c d : ℕ) → p ≡ q → c ≡ d → IsLeastFit side i f n p from c → IsLeastFit side i f n q from d
least_along side i f n p q from c d previous same least =
    subst (IsLeastFit side i f n q from) same (subst (λ k. IsLeastFit side i f n k from c) previous least)

pub other_place : (xs : List ℕ) (n k v : ℕ) → k ≢ n → get_or (set xs n v) k 0 ≡ get_or xs k 0
other_place xs n k v other = rw get_or-set_other refl

-- one more radio frame is filled
pub filled : (side : Side) (i f from frame : ℕ) (xs : List ℕ) (v : ℕ) → 1 ≤ frame → frame < length xs
    → ((n : ℕ) → from ≤ n → n < frame → IsLeastFit side i f n (previous_of xs n) 0 (get_or xs n 0))
    → IsLeastFit side i f frame (get_or xs (frame - 1) 0) 0 v
    → (n : ℕ) → from ≤ n → n < frame + 1 → IsLeastFit side i f n (previous_of (set xs frame v) n) 0 (get_or (set xs frame v) n 0)
filled side i f from frame xs v some within before here n above below =
    let after : List ℕ = set xs frame v in
    elim (cases_lt n frame) [
      | inl earlier ↦
          least_along side i f n (previous_of xs n) (previous_of after n) 0 (get_or xs n 0) (get_or after n 0)
          (previous_same xs after n (λ k less. sym (other_place xs frame k v (omega arith)))) (sym (other_place xs frame n v (omega arith))) (before n above earlier)
      | inr last ↦
          let same : frame ≡ n = omega arith in
          subst (λ k. IsLeastFit side i f k (previous_of after k) 0 (get_or after k 0)) same
          (least_along side i f frame (get_or xs (frame - 1) 0) (previous_of after frame) 0 v (get_or after frame 0)
          (sym (other_place xs frame (frame - 1) v (omega arith)) ∙ sym (previous_is after frame some)) (sym (get_or-set_same xs frame v 0 within)) here)
    ]

-- the first radio frame, and then those that are filled up
pub all_filled : (side : Side) (i f : ℕ) (sequence : List ℕ) (c : ℕ) → get_or sequence 0 0 ≡ c → IsLeastFit side i f 0 0 0 c → LeastFrom side i f 1 sequence
    → LeastFrom side i f 0 sequence
all_filled side i f sequence c here least rest zero above within = subst (IsLeastFit side i f 0 0 0) (sym here) least
all_filled side i f sequence c here least rest (suc n) above within = rest (suc n) (omega arith) within
