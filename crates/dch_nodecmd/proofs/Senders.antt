-- A bearer whose unit was judged has a channel in the direction.
use Rattle.std.proofs.Common.{◌≡◌, ◌<◌, ℕ, Option, Some, None, true, length, refl, sym, subst}
use Rattle.std.specs.Prelude.{IsSome, is_some, slice_get}
use Rattle.std.proofs.lemmas.Bool.{false≢true}
use Rattle.std.proofs.lemmas.Option.{get_or_from_slice_get, slice_get_within}
use Rattle.dch_types.specs.declared.bearer.Bearer.{Bearer}
use Rattle.dch_types.specs.declared.channel.Dir.{Dir}
use Rattle.dch_types.specs.declared.config.Config.{Config}
use Rattle.dch_types.specs.Parts.{channel_number}
use Rattle.dch_script.specs.Units.{has_channel}
use Rattle.dch_layer2.specs.Bearings.{bearer_in, channel_of}

pub sends : (config : Config) (dir : Dir) (b : ℕ) → has_channel config dir b ≡ true → (b < length config.bearers) × IsSome (channel_of config dir b)
unfolding has_channel
sends config dir b has = cases (slice_get config.bearers b) refl
  where
    cases : (found : Option Bearer) → slice_get config.bearers b ≡ found → (b < length config.bearers) × IsSome (channel_of config dir b)
    cases None none = absurd (false≢true (rw none at has))
    cases (Some bearer) some =
        let own : is_some (channel_number dir bearer) ≡ true = rw some at has in
        let same : bearer_in config b ≡ bearer = get_or_from_slice_get config.bearers b bearer _ some in
        (slice_get_within config.bearers b bearer some, subst (λ (x : Bearer). IsSome (channel_number dir x)) (sym same) own)
