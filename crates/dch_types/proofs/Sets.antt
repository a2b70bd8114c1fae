-- The number of a set that a direction has.
use Rattle.std.proofs.Common.{◌≡◌, ◌≤◌, ℕ, zero, suc, Bool, true, false, length, arith, refl}
use Rattle.std.specs.Prelude.{◌==◌, ◌||◌}
use Rattle.std.proofs.lemmas.Bool.Decides.{nat_tests}
use Rattle.dch_types.specs.declared.channel.Side.{Side}
use Rattle.dch_types.specs.Limits.{IsSide}
use Rattle.dch_types.specs.Parts.{channel_at}
use Rattle.dch_types.specs.Timing.{has_set, is_set_among}

either : (a b : Bool) (n : ℕ) → a || b ≡ true → (a ≡ true → n ≤ 7) → (b ≡ true → n ≤ 7) → n ≤ 7
either true b n is first second = first refl
either false b n is first second = second is

-- it is at most 7
pub among_small : (side : Side) (set i : ℕ) → IsSide side → i ≤ length side.channels → is_set_among side set i ≡ true → set ≤ 7
among_small side set zero good inside is = cc
among_small side set (suc i) good inside is =
    either (is_set_among side set i) ((channel_at side i).set == set) set is
    (among_small side set i good (omega arith))
    (λ same. let here : (channel_at side i).set ≡ set = grind (arith, nat_tests) in omega (arith, here, (good.channels i (omega arith)).set))

pub set_small : (side : Side) (set : ℕ) → IsSide side → has_set side set ≡ true → set ≤ 7
set_small side set good is = among_small side set (length side.channels) good (omega arith) is
