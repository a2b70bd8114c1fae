-- Each uplink combination of `gen` has a rate, and none of them removes a bit.
use Rattle.std.proofs.Common.{◌≡◌, ◌<◌, ℕ, zero, suc, Bool, true, false, not, ◌&&◌, ◌||◌, length, refl, ap, ◌∙◌, inl, inr, arith}
use Rattle.std.specs.Prelude.{nat_lt, ◌==◌}
use Rattle.std.proofs.lemmas.Bool.{cases_eq}
use Rattle.dch_types.specs.declared.config.Uplink.{Uplink}
use Rattle.dch_types.specs.Lengths.{tti_bits}
use Rattle.dch_types.specs.Sums.{total}
use Rattle.dch_types.specs.Parts.{format_number}
use Rattle.dch_frame.specs.Uplinks.{least_rm, set2, chosen, demand_of}
use Rattle.dch_collision.specs.Steps.{all_below}
use Rattle.dch_collision.specs.Counted.{removes, removes_below, uplink_punctures}
use Rattle.dch_accept.specs.Answers.{HaveAllRates}
use Rattle.dch_gen.specs.Channels.{gen_channels}
use Rattle.dch_gen.specs.Combinations.{gen_combinations}
use Rattle.dch_gen.specs.Configuration.{gen_side, gen_config}

and_both : (a b : Bool) → (a && b) ≡ true → (a ≡ true) × (b ≡ true)
and_both true b both = (refl, both)
and_both false b both = cc

-- a test that all numbers pass
passes : (test : ℕ → Bool) (n c : ℕ) → all_below test n ≡ true → c < n → test c ≡ true
unfolding all_below
passes test zero c all inside = absurd (omega arith)
passes test (suc n) c all inside =
    let both = and_both (all_below test n) (test n) all in
    elim (cases_eq c n) [
      | inl here ↦ ap test here ∙ both.1
      | inr other ↦ passes test n c both.0 (omega arith)
    ]

pub combinations_are : length gen_config.uplink.side.combinations ≡ 36
unfolding gen_config gen_side gen_combinations
combinations_are = refl

-- a frame size keeps to the puncturing limit
abbrev has_rate : Uplink → ℕ → Bool
has_rate uplink c = nat_lt 0 (length (set2 (demand_of uplink c)))

all_rates : all_below (has_rate gen_config.uplink) 36 ≡ true
unfolding all_below gen_config gen_side gen_channels gen_combinations tti_bits total least_rm set2
all_rates = refl

pub have_rates : HaveAllRates gen_config
have_rates c inside none =
    let some : has_rate gen_config.uplink c ≡ true = passes (has_rate gen_config.uplink) 36 c all_rates (omega (arith, combinations_are)) in
    let empty : has_rate gen_config.uplink c ≡ false = ap (λ sizes. nat_lt 0 (length sizes)) none in
    cc

-- a combination removes no bit of a channel
abbrev keeps : ℕ → ℕ → Bool
keeps i c = not (removes gen_config.uplink i c)

keeps_class_a : all_below (keeps 0) 36 ≡ true
unfolding all_below gen_config gen_side gen_channels gen_combinations tti_bits total least_rm set2 chosen
keeps_class_a = refl

keeps_class_b : all_below (keeps 1) 36 ≡ true
unfolding all_below gen_config gen_side gen_channels gen_combinations tti_bits total least_rm set2 chosen
keeps_class_b = refl

keeps_class_c : all_below (keeps 2) 36 ≡ true
unfolding all_below gen_config gen_side gen_channels gen_combinations tti_bits total least_rm set2 chosen
keeps_class_c = refl

keeps_signalling : all_below (keeps 3) 36 ≡ true
unfolding all_below gen_config gen_side gen_channels gen_combinations tti_bits total least_rm set2 chosen
keeps_signalling = refl

keeps_packets : all_below (keeps 4) 36 ≡ true
unfolding all_below gen_config gen_side gen_channels gen_combinations tti_bits total least_rm set2 chosen
keeps_packets = refl

keeps_all : (i : ℕ) → i < 5 → all_below (keeps i) 36 ≡ true
keeps_all zero inside = keeps_class_a
keeps_all (suc zero) inside = keeps_class_b
keeps_all (suc (suc zero)) inside = keeps_class_c
keeps_all (suc (suc (suc zero))) inside = keeps_signalling
keeps_all (suc (suc (suc (suc zero)))) inside = keeps_packets
keeps_all (suc (suc (suc (suc (suc i))))) inside = absurd (omega arith)

neither : (a b c : Bool) → not b ≡ true → c ≡ false → ((a && b) || c) ≡ false
neither true true c kept rest = cc
neither true false c kept rest = rest
neither false b c kept rest = rest

removes_none : (i f n : ℕ) → all_below (keeps i) n ≡ true → removes_below gen_config.uplink i f n ≡ false
unfolding all_below removes_below
removes_none i f zero all = refl
removes_none i f (suc n) all =
    let both = and_both (all_below (keeps i) n) (keeps i n) all in
    neither (format_number gen_config.uplink.side n i == f) (removes gen_config.uplink i n) (removes_below gen_config.uplink i f n) both.1 (removes_none i f n both.0)

-- so no uplink format loses a bit
pub uplink_keeps : (i f : ℕ) → i < 5 → uplink_punctures gen_config.uplink i f ≡ false
uplink_keeps i f inside = ap (removes_below gen_config.uplink i f) combinations_are ∙ removes_none i f 36 (keeps_all i inside)
