-- The configuration of `gen` is good.
use Rattle.std.proofs.Common.{refl, arith}
use Rattle.dch_types.specs.Limits.{IsUplink, IsDownlink}
use Rattle.dch_config.specs.Good.{IsGood}
use Rattle.dch_gen.specs.Configuration.{gen_config}
use Rattle.dch_gen.proofs.GoodSides.{side_is_good}
use Rattle.dch_gen.proofs.GoodBearers.{six, bearers_good, bearers_share}

uplink_good : IsUplink gen_config.uplink
unfolding gen_config
uplink_good = record { side = side_is_good; largest = (6, omega arith, refl); least_limit = omega arith; most_limit = omega arith }

downlink_good : IsDownlink gen_config.downlink
unfolding gen_config
downlink_good = record {
  side = side_is_good;
  some_bits = omega arith;
  few_bits = omega arith;
  some_codes = omega arith;
  few_codes = omega arith;
  factor = (1, omega arith, refl);
}

-- it keeps every rule of a configuration
pub gen_good : IsGood gen_config
unfolding gen_config
gen_good = record {
  uplink = uplink_good;
  downlink = downlink_good;
  few = omega (arith, six);
  bearers = λ b inside. bearers_good b (omega (arith, six));
  sharing = λ b c here there other shared. bearers_share b c (omega (arith, six)) (omega (arith, six)) other shared;
}
