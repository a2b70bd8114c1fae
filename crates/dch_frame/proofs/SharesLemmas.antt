-- Sums of weights, and the places that they share.
use Rattle.std.proofs.Common.{◌≡◌, ◌<◌, ◌≤◌, ◌+◌, ◌-◌, ◌*◌, ◌/◌, ℕ, zero, suc, refl, ap, ◌∙◌, arith, add-one, inl, inr}
use Rattle.std.proofs.lemmas.Bool.{cases_eq}
use Rattle.std.proofs.lemmas.Nat.{le-div}
use Rattle.std.proofs.Math.Nat.{mul-le-mul_right, div-mul-le_self, div-zero, zero-div, zero-mul, mul-div_cancel_left}
use Rattle.dch_types.specs.Sums.{total}
use Rattle.dch_types.proofs.Sums.{total-zero, total-more, total_up}
use Rattle.dch_frame.specs.Shares.{shared_below, shared}

part_up : (a b w : ℕ) → a ≤ b → a / w ≤ b / w
part_up a b w order = elim (cases_eq w 0) [
  | inl none ↦ omega (arith, ap (λ w. a / w) none, div-zero a)
  | inr some ↦ le-div (a / w) b w (omega (arith, some)) (omega (arith, div-mul-le_self a w))
]

pub below-zero : (w : ℕ → ℕ) (count ndata : ℕ) → shared_below w count ndata 0 ≡ 0
below-zero w count ndata = ap (λ t. t * ndata / total w count) (total-zero w) ∙ rw (zero-mul, zero-div) refl

-- the places of more channels are more
pub below_up : (w : ℕ → ℕ) (count ndata m n : ℕ) → m ≤ n → shared_below w count ndata m ≤ shared_below w count ndata n
below_up w count ndata m n order = part_up (total w m * ndata) (total w n * ndata) (total w count) (mul-le-mul_right ndata (total_up w m n order))

-- all channels together get every place, where one weighs anything
pub below_all : (w : ℕ → ℕ) (count ndata : ℕ) → (total w count ≡ 0 → ndata ≡ 0) → shared_below w count ndata count ≡ ndata
below_all w count ndata empty =
    let all : ℕ = total w count in
    elim (cases_eq all 0) [
      | inl none ↦ ap (λ t. t * ndata / all) none ∙ rw (zero-mul, zero-div) (omega (arith, empty none))
      | inr some ↦ mul-div_cancel_left ndata {n = all} (omega (arith, some))
    ]

-- no channels get more than every place
pub below_le : (w : ℕ → ℕ) (count ndata i : ℕ) → i ≤ count → shared_below w count ndata i ≤ ndata
below_le w count ndata i inside =
    let all : ℕ = total w count in
    let up : shared_below w count ndata i ≤ all * ndata / all = below_up w count ndata i count inside in
    elim (cases_eq all 0) [
      | inl none ↦ omega (arith, up, ap (λ w. all * ndata / w) none, div-zero (all * ndata))
      | inr some ↦ omega (arith, up, mul-div_cancel_left ndata {n = all} (omega (arith, some)))
    ]

pub shared_le : (w : ℕ → ℕ) (count ndata i : ℕ) → i < count → shared w count ndata i ≤ ndata
shared_le w count ndata i inside = omega (arith, below_le w count ndata (i + 1) (omega arith))

-- a channel without bits gets no place
pub nothing_shared : (w : ℕ → ℕ) (count ndata i : ℕ) → w i ≡ 0 → shared w count ndata i ≡ 0
nothing_shared w count ndata i none =
    let same : total w (i + 1) ≡ total w i = omega (arith, total-more w i, none) in
    let places : shared_below w count ndata (i + 1) ≡ shared_below w count ndata i = ap (λ t. t * ndata / total w count) same in
    omega (arith, places)

-- the places of the channels add up
pub total-shared : (w : ℕ → ℕ) (count ndata n : ℕ) → total (shared w count ndata) n ≡ shared_below w count ndata n
unfolding total
total-shared w count ndata zero = omega (arith, below-zero w count ndata)
total-shared w count ndata (suc n) = omega (arith, total-shared w count ndata n, below_up w count ndata n (n + 1) (omega arith), ap (shared_below w count ndata) (add-one n))

-- a share by what was held before it
pub share_is : (w : ℕ → ℕ) (count ndata i held part weight : ℕ) → held ≡ total w i → part ≡ w i → weight ≡ total w count → (held + part) * ndata / weight - held * ndata / weight ≡ shared w count ndata i
share_is w count ndata i held part weight before here whole =
    let next : held + part ≡ total w (i + 1) = omega (arith, total-more w i, before, here) in
    rw (next, before, whole) refl
