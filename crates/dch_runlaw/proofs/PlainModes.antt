-- The two channels of an acknowledged bearer of a good configuration.
use Rattle.std.proofs.Common.{◌≡◌, ◌<◌, ℕ, Option, Some, None, length, refl}
use Rattle.std.specs.Prelude.{IsSome}
use Rattle.dch_types.specs.declared.bearer.Mode.TheVariants.{Am}
use Rattle.dch_types.specs.declared.channel.Dir.TheVariants.{Up, Down}
use Rattle.dch_types.specs.declared.config.Config.{Config}
use Rattle.dch_config.specs.Good.{IsGood}
use Rattle.dch_layer2.specs.Bearings.{bearer_in, channel_of}

-- what an option holds
record Holds (o : Option ℕ) : Type 0 where
  value : ℕ
  is : o ≡ Some value

holds : (o : Option ℕ) → IsSome o → Holds o
holds None some = absurd (cc)
holds (Some x) some = record { value = x; is = refl }

-- an acknowledged bearer has two channels
pub record HasBoth (config : Config) (b : ℕ) : Type 0 where
  pub up : ℕ
  pub down : ℕ
  pub up_is : channel_of config Up b ≡ Some up
  pub down_is : channel_of config Down b ≡ Some down

pub has_both : (config : Config) (b : ℕ) → IsGood config → b < length config.bearers → (bearer_in config b).mode ≡ Am → HasBoth config b
has_both config b good l mode =
    let both = (good.bearers b l).both mode in
    let up = holds (channel_of config Up b) both.0 in
    let down = holds (channel_of config Down b) both.1 in
    record { up = up.value; down = down.value; up_is = up.is; down_is = down.is }
