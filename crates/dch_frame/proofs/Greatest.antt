-- The greatest TTI of a channel, the greatest sum of the combinations, and which formats stand in one.
use Rattle.std.proofs.Common.{◌≡◌, ◌<◌, ◌≤◌, ◌+◌, ◌*◌, ◌==◌, ◌||◌, ℕ, zero, suc, Bool, true, false, max, length, refl, ap, sym, arith, add-one, inl, inr}
use Rattle.std.proofs.Math.Nat.{mul-le-mul_left, lt_of_mul-lt-mul_right}
use Rattle.std.proofs.lemmas.Bool.{cases_eq, eqb-true}
use Rattle.std.proofs.lemmas.Grind.{common_steps, div_ceil_times}
use Rattle.std.specs.Int.{div_ceil}
use Rattle.std.specs.Ordering.{nat_cmp, ord_max}
use Rattle.dch_types.specs.declared.channel.Trch.{Trch}
use Rattle.dch_types.specs.declared.channel.Side.{Side}
use Rattle.dch_types.specs.Lengths.{tti_bits}
use Rattle.dch_types.specs.Limits.{IsChannel}
use Rattle.dch_types.specs.Parts.{format_at, format_number}
use Rattle.dch_types.specs.Sums.{total}
use Rattle.dch_types.proofs.Sums.{part_le}
use Rattle.dch_frame.specs.Downlinks.{most_below, most_of, flexible_weight, combined, greatest_below, stands_below}
use Rattle.dch_frame.proofs.Changes.{one_more}

-- the greater of two numbers
pub ord_max-is : (a b : ℕ) → ord_max nat_cmp a b ≡ max a b
ord_max-is a b = grind (arith, common_steps)

pub most-zero : (channel : Trch) → most_below channel 0 ≡ 0
unfolding most_below
most-zero channel = refl

pub most-more : (channel : Trch) (f : ℕ) → most_below channel (f + 1) ≡ max (most_below channel f) (tti_bits channel (format_at channel f))
unfolding most_below
most-more channel f = rw add-one refl

below_most : (channel : Trch) (f n : ℕ) → f < n → tti_bits channel (format_at channel f) ≤ most_below channel n
unfolding most_below
below_most channel f zero inside = absurd (omega arith)
below_most channel f (suc n) inside = elim (cases_eq f n) [
  | inl same ↦ omega (arith, ap (λ f. tti_bits channel (format_at channel f)) same)
  | inr differ ↦ omega (arith, below_most channel f n (omega (arith, differ)))
]

-- each TTI is at most the greatest
pub most_is : (channel : Trch) (f : ℕ) → f < length channel.formats → tti_bits channel (format_at channel f) ≤ most_of channel
most_is channel f inside = below_most channel f (length channel.formats) inside

most_small : (channel : Trch) (n : ℕ) → IsChannel channel → n ≤ length channel.formats → most_below channel n ≤ 131072
unfolding most_below
most_small channel zero is inside = omega arith
most_small channel (suc n) is inside = omega (arith, most_small channel n is (omega arith), (is.formats n (omega arith)).bits)

pub most_le : (channel : Trch) → IsChannel channel → most_of channel ≤ 131072
most_le channel is = most_small channel (length channel.formats) is (omega arith)

pub greatest-zero : (side : Side) → greatest_below side 0 ≡ 0
unfolding greatest_below
greatest-zero side = refl

pub greatest-more : (side : Side) (c : ℕ) → greatest_below side (c + 1) ≡ max (greatest_below side c) (total (combined side c) (length side.channels))
unfolding greatest_below
greatest-more side c = rw add-one refl

pub is_used-more : (side : Side) (i f c : ℕ) → stands_below side i f (c + 1) ≡ (format_number side c i == f || stands_below side i f c)
unfolding stands_below
is_used-more side i f c = rw add-one refl

pub is_used-zero : (side : Side) (i f : ℕ) → stands_below side i f 0 ≡ false
unfolding stands_below
is_used-zero side i f = refl

-- a format that stands in a combination weighs at most the greatest sum
either : (side : Side) (i f c : ℕ) (b : Bool) → (b ≡ true → f ≡ format_number side c i) → (stands_below side i f c ≡ true → flexible_weight side i f ≤ greatest_below side c) → i < length side.channels → (b || stands_below side i f c) ≡ true → flexible_weight side i f ≤ max (greatest_below side c) (total (combined side c) (length side.channels))
either side i f c true here rest inside e =
    let same : flexible_weight side i f ≡ combined side c i = ap (flexible_weight side i) (here refl) in
    omega (arith, same, part_le (combined side c) i (length side.channels) inside)
either side i f c false here rest inside e = omega (arith, rest e)

pub stands_le : (side : Side) (i f c : ℕ) → i < length side.channels → stands_below side i f c ≡ true → flexible_weight side i f ≤ greatest_below side c
unfolding greatest_below stands_below
stands_le side i f zero inside e = absurd (cc)
stands_le side i f (suc c) inside e = either side i f c (format_number side c i == f) (λ same. sym (eqb-true (format_number side c i) f same)) (stands_le side i f c inside) inside e

-- a share that is rounded up is within the frame
pub ceil_le : (ndata x most : ℕ) → x ≤ most → 0 < most → div_ceil (ndata * x) most ≤ ndata
ceil_le ndata x most order some =
    let product : ndata * x ≤ ndata * most = mul-le-mul_left ndata order in
    let bounds = div_ceil_times (ndata * x) most some in
    let below : div_ceil (ndata * x) most < ndata + 1 = lt_of_mul-lt-mul_right most (omega (arith, bounds.1, one_more ndata most)) in
    omega arith
