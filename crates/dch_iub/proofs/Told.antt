-- Octets that are told by their bits, and by what stands at their places.
use Rattle.std.proofs.Common.{◌≡◌, ◌+◌, ◌-◌, ◌*◌, ◌/◌, ◌%◌, ◌<◌, ◌≤◌, ◌∙◌, ℕ, zero, suc, List, length, get_or, arith, ap, sym, inl, inr}
use Rattle.std.specs.Prelude.{slice_index, if◌then◌else◌, ◌==◌}
use Rattle.std.specs.Int.{bit_at, div_ceil}
use Rattle.std.proofs.lemmas.Bool.{cases_lt}
use Rattle.std.proofs.lemmas.Bool.Decides.{eqb_tells}
use Rattle.std.proofs.lemmas.Nat.{div-add-mod', div_below, mod_below}
use Rattle.dch_bits.specs.declared.bit.Bit.TheVariants.{Zero}
use Rattle.dch_bits.specs.Bits.{number_of}
use Rattle.dch_bits.specs.Octets.{bit_of_octets, octet_bit}
use Rattle.dch_bits.proofs.Places.{number_of-octet_bit}
use Rattle.dch_types.specs.declared.channel.Side.{Side}
use Rattle.dch_types.specs.Parts.{channel_at}
use Rattle.dch_accept.specs.Blocks.{Held}
use Rattle.dch_accept.proofs.Unpacked.{get_or-bits_from}
use Rattle.dch_iub.specs.Forms.{ArePadded, StandAt}
use Rattle.dch_iub.specs.Shape.{sum_before}

-- a list of octets
abbrev pub AreOctets : List ℕ → Type 0
AreOctets octets = (k : ℕ) → k < length octets → slice_index octets k < 256

same_bit : (a b j : ℕ) → octet_bit a j ≡ octet_bit b j → bit_at a (7 - j) ≡ bit_at b (7 - j)
same_bit a b j same = sym (number_of-octet_bit a j) ∙ ap number_of same ∙ number_of-octet_bit b j

-- an octet is told by its bits
octet_told : (a b : ℕ) → a < 256 → b < 256 → ((j : ℕ) → j < 8 → octet_bit a j ≡ octet_bit b j) → a ≡ b
octet_told a b small little same =
    let b0 : bit_at a 0 ≡ bit_at b 0 = same_bit a b 7 (same 7 (omega arith)) in
    let b1 : bit_at a 1 ≡ bit_at b 1 = same_bit a b 6 (same 6 (omega arith)) in
    let b2 : bit_at a 2 ≡ bit_at b 2 = same_bit a b 5 (same 5 (omega arith)) in
    let b3 : bit_at a 3 ≡ bit_at b 3 = same_bit a b 4 (same 4 (omega arith)) in
    let b4 : bit_at a 4 ≡ bit_at b 4 = same_bit a b 3 (same 3 (omega arith)) in
    let b5 : bit_at a 5 ≡ bit_at b 5 = same_bit a b 2 (same 2 (omega arith)) in
    let b6 : bit_at a 6 ≡ bit_at b 6 = same_bit a b 1 (same 1 (omega arith)) in
    let b7 : bit_at a 7 ≡ bit_at b 7 = same_bit a b 0 (same 0 (omega arith)) in
    omega (arith, small, little, b0, b1, b2, b3, b4, b5, b6, b7)

bit_here : (xs : List ℕ) (k j : ℕ) → j < 8 → bit_of_octets xs (8 * k + j) ≡ octet_bit (slice_index xs k) j
bit_here xs k j inside =
    let place : (8 * k + j) / 8 ≡ k = omega arith in
    let rest : (8 * k + j) % 8 ≡ j = omega arith in
    ap (λ n. octet_bit (slice_index xs n) ((8 * k + j) % 8)) place ∙ ap (octet_bit (slice_index xs k)) rest

pub octet_one : (xs ys : List ℕ) (k : ℕ) → slice_index xs k < 256 → slice_index ys k < 256 → ((j : ℕ) → j < 8 → bit_of_octets xs (8 * k + j) ≡ bit_of_octets ys (8 * k + j)) → slice_index xs k ≡ slice_index ys k
octet_one xs ys k small little same =
    octet_told (slice_index xs k) (slice_index ys k) small little (λ j inside. sym (bit_here xs k j inside) ∙ same j inside ∙ bit_here ys k j inside)

-- the channel of a set whose amount a place lies in
pub record IsWithin (side : Side) (set : ℕ) (amount : ℕ → ℕ) (n k : ℕ) : Type 0 where
  pub channel : ℕ
  pub inside : channel < n
  pub member : (channel_at side channel).set ≡ set
  pub from : sum_before side set amount channel ≤ k
  pub to : k < sum_before side set amount channel + amount channel

pub within : (side : Side) (set : ℕ) (amount : ℕ → ℕ) (n k : ℕ) → k < sum_before side set amount n → IsWithin side set amount n k
within side set amount zero k inside = absurd (omega (arith, inside))
within side set amount (suc n) k inside = elim (cases_lt k (sum_before side set amount n)) [
  | inl early ↦ (let before = within side set amount n k early in record { channel = before.channel; inside = omega (arith, before.inside); member = before.member; from = before.from; to = before.to })
  | inr late ↦ elim (eqb_tells (channel_at side n).set set) [
    | inl is ↦ (let all : (if (channel_at side n).set == set then amount n else 0) ≡ amount n = ap (λ b. if b then amount n else 0) is.0 in record { channel = n; inside = omega arith; member = is.1; from = omega (arith, late); to = omega (arith, all, inside) })
    | inr is ↦ (let none : (if (channel_at side n).set == set then amount n else 0) ≡ 0 = ap (λ b. if b then amount n else 0) is.0 in absurd (omega (arith, none, inside, late)))
  ]
]

some_width : (n w r : ℕ) → r < n * w → 0 < w
some_width n zero r inside = absurd (omega arith)
some_width n (suc w) r inside = omega arith

-- a bit of a block, or after it in its last octet
block_bit : (xs ys : List ℕ) (at b p : ℕ) (held : Held) → StandAt xs at held → StandAt ys at held → ArePadded xs at held → ArePadded ys at held → b < length held.good → p < 8 * div_ceil held.size 8
    → bit_of_octets xs (8 * (at + b * div_ceil held.size 8) + p) ≡ bit_of_octets ys (8 * (at + b * div_ceil held.size 8) + p)
block_bit xs ys at b p held stand standing padded padding there inside =
    let place : ℕ = 8 * (at + b * div_ceil held.size 8) in
    elim (cases_lt p held.size) [
      | inl early ↦ sym (get_or-bits_from xs place held.size p early) ∙ ap (λ bits. get_or bits p Zero) (stand b there ∙ sym (standing b there)) ∙ get_or-bits_from ys place held.size p early
      | inr late ↦ padded b p there (omega (arith, late)) inside ∙ sym (padding b p there (omega (arith, late)) inside)
    ]

-- an octet of blocks
pub block_octet : (xs ys : List ℕ) (at r : ℕ) (held : Held) → StandAt xs at held → StandAt ys at held → ArePadded xs at held → ArePadded ys at held → r < length held.good * div_ceil held.size 8
    → slice_index xs (at + r) < 256 → slice_index ys (at + r) < 256 → slice_index xs (at + r) ≡ slice_index ys (at + r)
block_octet xs ys at r held stand standing padded padding inside small little =
    let w : ℕ = div_ceil held.size 8 in
    let some : 0 < w = some_width (length held.good) w r inside in
    let b : ℕ = r / w in
    let q : ℕ = r % w in
    let there : b < length held.good = div_below r w (length held.good) some inside in
    let early : q < w = mod_below r w some in
    let place : b * w + q ≡ r = div-add-mod' r w in
    octet_one xs ys (at + r) small little (λ j low.
    let bit : 8 * (at + r) + j ≡ 8 * (at + b * w) + (8 * q + j) = omega (arith, place) in
    ap (bit_of_octets xs) bit ∙ block_bit xs ys at b (8 * q + j) held stand standing padded padding there (omega (arith, early, low)) ∙ ap (bit_of_octets ys) (sym bit))
