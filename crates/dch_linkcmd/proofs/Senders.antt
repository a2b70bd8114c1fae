-- A bearer whose unit was judged sends in its direction.
use Rattle.std.proofs.Common.{◌≡◌, ◌<◌, ℕ, length, Option, Some, None, true, refl, subst, sym}
use Rattle.std.specs.Prelude.{IsSome, is_some, slice_get}
use Rattle.std.proofs.lemmas.Bool.{false≢true}
use Rattle.std.proofs.lemmas.Option.{get_or_from_slice_get, slice_get_within}
use Rattle.dch_types.specs.declared.bearer.Bearer.{Bearer}
use Rattle.dch_types.specs.declared.channel.Dir.{Dir}
use Rattle.dch_types.specs.declared.channel.Dir.TheVariants.{Up, Down}
use Rattle.dch_types.specs.declared.config.Config.{Config}
use Rattle.dch_accept.specs.Plans.{Planned}
use Rattle.dch_types.specs.Parts.{channel_number}
use Rattle.dch_script.specs.Units.{has_channel}
use Rattle.dch_link.specs.Bearings.{bearer_in, channel_of}
use Rattle.dch_link.specs.LinkNodes.{SendsTo}

sends_in : (config : Config) (dir : Dir) (b : ℕ) → has_channel config dir b ≡ true → (b < length config.bearers) × IsSome (channel_of config dir b)
unfolding has_channel
sends_in config dir b has = cases (slice_get config.bearers b) refl
  where
    cases : (found : Option Bearer) → slice_get config.bearers b ≡ found → (b < length config.bearers) × IsSome (channel_of config dir b)
    cases None none = absurd (false≢true (rw none at has))
    cases (Some bearer) some =
        let own : is_some (channel_number dir bearer) ≡ true = rw some at has in
        let same : bearer_in config b ≡ bearer = get_or_from_slice_get config.bearers b bearer _ some in
        (slice_get_within config.bearers b bearer some, subst (λ (x : Bearer). IsSome (channel_number dir x)) (sym same) own)

pub sends_to : (planned : Planned) (dir : Dir) (b : ℕ) → has_channel planned.config dir b ≡ true → SendsTo planned dir b
sends_to planned Up b has = let sends = sends_in planned.config Up b has in record { there = sends.0; sends = sends.1 }
sends_to planned Down b has = let sends = sends_in planned.config Down b has in record { there = sends.0; sends = sends.1 }
