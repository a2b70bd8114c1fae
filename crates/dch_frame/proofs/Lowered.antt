-- The places at flexible positions: how a combination lowers them, and that none exceeds a radio frame in the end.
use Rattle.std.proofs.Common.{◌≡◌, ◌≢◌, ◌<◌, ◌≤◌, ◌+◌, ◌-◌, ◌*◌, ◌==◌, ◌&&◌, ℕ, zero, suc, Bool, true, false, cond, min, length, refl, ap, subst, ◌∙◌, arith, add-one, inl, inr}
use Rattle.std.proofs.Math.Nat.{mul-zero, zero-div, zero-mod}
use Rattle.std.proofs.lemmas.Bool.{cases_eq, cases_lt, eq-eqb, ne_eqb, lt-ltb, le-ltb}
use Rattle.std.proofs.lemmas.Grind.{div_ceil_times}
use Rattle.std.specs.Int.{div_ceil}
use Rattle.dch_types.specs.declared.channel.Side.{Side}
use Rattle.dch_types.specs.Parts.{channel_at, format_number}
use Rattle.dch_types.specs.Sums.{total}
use Rattle.dch_types.proofs.Sums.{total_same, total_le}
use Rattle.dch_frame.specs.Downlinks.{eighths, flexible_weight, combined, greatest, stands_below, first_places, exceeds, places_after}
use Rattle.dch_frame.specs.Shares.{shared}
use Rattle.dch_frame.proofs.Greatest.{stands_le, ceil_le}
use Rattle.dch_frame.proofs.SharesLemmas.{total-shared, below_le}

pub after-zero : (side : Side) (ndata i f : ℕ) → places_after side ndata 0 i f ≡ first_places side ndata i f
unfolding places_after
after-zero side ndata i f = refl

after-more : (side : Side) (ndata c i f : ℕ) → places_after side ndata (c + 1) i f ≡ cond (exceeds (places_after side ndata c) side ndata c && format_number side c i == f) (min (places_after side ndata c i f) (shared (combined side c) (length side.channels) ndata i)) (places_after side ndata c i f)
unfolding places_after
after-more side ndata c i f = rw add-one refl

-- a combination that exceeds a frame lowers its formats
pub lowered_here : (side : Side) (ndata c i f : ℕ) → exceeds (places_after side ndata c) side ndata c ≡ true → format_number side c i ≡ f → places_after side ndata (c + 1) i f ≡ min (places_after side ndata c i f) (shared (combined side c) (length side.channels) ndata i)
lowered_here side ndata c i f over same = after-more side ndata c i f ∙ rw (over, eq-eqb (format_number side c i) f same) refl

unless_both : (b : Bool) (x y : ℕ) → cond (b && false) x y ≡ y
unless_both true x y = refl
unless_both false x y = refl

-- and no other one
pub lowered_other : (side : Side) (ndata c i f : ℕ) → format_number side c i ≢ f → places_after side ndata (c + 1) i f ≡ places_after side ndata c i f
lowered_other side ndata c i f differ = after-more side ndata c i f ∙ rw (ne_eqb (format_number side c i) f differ) (unless_both (exceeds (places_after side ndata c) side ndata c) (min (places_after side ndata c i f) (shared (combined side c) (length side.channels) ndata i)) (places_after side ndata c i f))

-- a combination that fits a frame lowers nothing
pub not_lowered : (side : Side) (ndata c i f : ℕ) → exceeds (places_after side ndata c) side ndata c ≡ false → places_after side ndata (c + 1) i f ≡ places_after side ndata c i f
not_lowered side ndata c i f under = after-more side ndata c i f ∙ rw under refl

-- no places grow
lowered_le : (b : Bool) (x y : ℕ) → cond b (min x y) x ≤ x
lowered_le true x y = omega arith
lowered_le false x y = omega arith

pub after_down : (side : Side) (ndata c n i f : ℕ) → places_after side ndata (c + n) i f ≤ places_after side ndata c i f
after_down side ndata c zero i f = let same : c + 0 ≡ c = omega arith in omega (arith, ap (λ m. places_after side ndata m i f) same)
after_down side ndata c (suc n) i f =
    let more : c + suc n ≡ c + n + 1 = omega arith in
    rw (more, after-more side ndata (c + n) i f) (omega (arith, after_down side ndata c n i f, lowered_le (exceeds (places_after side ndata (c + n)) side ndata (c + n) && format_number side (c + n) i == f) (places_after side ndata (c + n) i f) (shared (combined side (c + n)) (length side.channels) ndata i)))

pub after_le : (side : Side) (ndata n i f : ℕ) → places_after side ndata n i f ≤ first_places side ndata i f
after_le side ndata n i f =
    let same : 0 + n ≡ n = omega arith in
    let down : places_after side ndata (0 + n) i f ≤ places_after side ndata 0 i f = after_down side ndata 0 n i f in
    let first : places_after side ndata 0 i f ≡ first_places side ndata i f = after-zero side ndata i f in
    let all : places_after side ndata (0 + n) i f ≡ places_after side ndata n i f = ap (λ m. places_after side ndata m i f) same in
    le_along (places_after side ndata (0 + n) i f) (places_after side ndata 0 i f) (places_after side ndata n i f) (first_places side ndata i f) down all first
  where
    le_along : (a b x y : ℕ) → a ≤ b → a ≡ x → b ≡ y → x ≤ y
    le_along a b x y order left right = omega arith

-- after a combination was looked at it fits a frame
fits_next : (side : Side) (ndata c : ℕ) → total (λ i. places_after side ndata (c + 1) i (format_number side c i)) (length side.channels) ≤ ndata
fits_next side ndata c =
    let before : ℕ → ℕ = λ i. places_after side ndata c i (format_number side c i) in
    let after : ℕ → ℕ = λ i. places_after side ndata (c + 1) i (format_number side c i) in
    let share : ℕ → ℕ = shared (combined side c) (length side.channels) ndata in
    elim (cases_lt ndata (total before (length side.channels))) [
      | inl over ↦
          let exceeding : exceeds (places_after side ndata c) side ndata c ≡ true = lt-ltb ndata (total before (length side.channels)) over in
          let each : (i : ℕ) → i < length side.channels → after i ≤ share i = λ i inside. at_most (after i) (before i) (share i) (lowered_here side ndata c i (format_number side c i) exceeding refl) in
          omega (arith, total_le after share (length side.channels) each, total-shared (combined side c) (length side.channels) ndata (length side.channels), below_le (combined side c) (length side.channels) ndata (length side.channels) (omega arith))
      | inr under ↦
          let fitting : exceeds (places_after side ndata c) side ndata c ≡ false = le-ltb ndata (total before (length side.channels)) under in
          omega (arith, total_same after before (length side.channels) (λ i inside. not_lowered side ndata c i (format_number side c i) fitting))
    ]
  where
    at_most : (x a b : ℕ) → x ≡ min a b → x ≤ b
    at_most x a b is = omega arith

-- and so it does in the end
pub fits_after : (side : Side) (ndata c n : ℕ) → c < n → total (λ i. places_after side ndata n i (format_number side c i)) (length side.channels) ≤ ndata
fits_after side ndata c n inside =
    let rest : ℕ = n - (c + 1) in
    let split : c + 1 + rest ≡ n = omega arith in
    let each : (i : ℕ) → i < length side.channels → places_after side ndata (c + 1 + rest) i (format_number side c i) ≤ places_after side ndata (c + 1) i (format_number side c i) = λ i less. after_down side ndata (c + 1) rest i (format_number side c i) in
    let end : total (λ i. places_after side ndata (c + 1 + rest) i (format_number side c i)) (length side.channels) ≤ ndata = omega (arith, total_le (λ i. places_after side ndata (c + 1 + rest) i (format_number side c i)) (λ i. places_after side ndata (c + 1) i (format_number side c i)) (length side.channels) each, fits_next side ndata c) in
    subst (λ (m : ℕ). total (λ i. places_after side ndata m i (format_number side c i)) (length side.channels) ≤ ndata) split end

either_le : (b : Bool) (x y m : ℕ) → (b ≡ true → x ≤ m) → y ≤ m → cond b x y ≤ m
either_le true x y m here there = here refl
either_le false x y m here there = there

-- the places before any is lowered
pub first_le : (side : Side) (ndata i f : ℕ) → ndata ≤ 65536 → i < length side.channels → eighths (channel_at side i) f ≤ 1048576 → first_places side ndata i f ≤ 131072
first_le side ndata i f small inside bits =
    let weight : ℕ = flexible_weight side i f in
    let most : ℕ = greatest side in
    either_le (stands_below side i f (length side.combinations)) (div_ceil (ndata * weight) most) (div_ceil (eighths (channel_at side i) f) 8) 131072
    (λ found. share_le weight most ndata (stands_le side i f (length side.combinations) inside found) small)
    (whole_le (eighths (channel_at side i) f) bits)
  where
    share_le : (weight most ndata : ℕ) → weight ≤ most → ndata ≤ 65536 → div_ceil (ndata * weight) most ≤ 131072
    share_le weight most ndata order small = elim (cases_eq weight 0) [
      | inl none ↦ rw (none, mul-zero, zero-div, zero-mod) (omega arith)
      | inr some ↦ omega (arith, ceil_le ndata weight most order (omega (arith, some)))
    ]

    whole_le : (bits : ℕ) → bits ≤ 1048576 → div_ceil bits 8 ≤ 131072
    whole_le bits few = omega (arith, div_ceil_times bits 8 (omega arith))

either_is : (b : Bool) (x y z : ℕ) → x ≡ z → y ≡ z → cond b x y ≡ z
either_is true x y z here there = here
either_is false x y z here there = there

-- a format without bits has no places
pub nothing_first : (side : Side) (ndata i f : ℕ) → eighths (channel_at side i) f ≡ 0 → first_places side ndata i f ≡ 0
nothing_first side ndata i f none =
    let weighs : flexible_weight side i f ≡ 0 = ap (λ n. (channel_at side i).rm * n) none ∙ mul-zero (channel_at side i).rm in
    either_is (stands_below side i f (length side.combinations)) (div_ceil (ndata * flexible_weight side i f) (greatest side)) (div_ceil (eighths (channel_at side i) f) 8) 0
    (ap (λ w. div_ceil (ndata * w) (greatest side)) weighs ∙ nothing ndata (greatest side))
    (ap (λ n. div_ceil n 8) none)
  where
    nothing : (ndata most : ℕ) → div_ceil (ndata * 0) most ≡ 0
    nothing ndata most = rw (mul-zero, zero-div, zero-mod) refl
