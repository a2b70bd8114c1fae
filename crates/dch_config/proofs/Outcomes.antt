-- A limit refuses by an error of its own.
use Rattle.std.proofs.Common.{◌≡◌, ℕ, Bool, true, false, List, [], ◌∷◌, Option, Some, None, option_map, Result, Ok, Err, refl, ap, sym, ◌∙◌, subst}
use Rattle.toml.specs.Data.{Members}
use Rattle.dch_types.specs.declared.channel.Dir.TheVariants.{Up, Down}
use Rattle.dch_types.specs.declared.channel.Side.{Side}
use Rattle.dch_types.specs.declared.config.Config.{Config}
use Rattle.dch_tree.specs.Documents.{document_faults, config_of}
use Rattle.dch_config.specs.declared.error.ConfigError.{ConfigError}
use Rattle.dch_config.specs.declared.error.ConfigError.TheVariants.{NoMemory, NotToml, Key, Range, TrchCount, FormatCount, NoIdleFormat, CombinationCount, NoSuchFormat, NotClosed, BlockSize, NoCheck, PduSize, Window, TtiBits}
use Rattle.dch_config.specs.Refusals.{first_refusal, refused_if}
use Rattle.dch_config.specs.Limits.{count_refusals, combination_refusals, bearer_refusals, bits_refusals, limit_refusals, first_count_refusal, first_combination_refusal, first_bearer_refusal, first_bits_refusal, limit_refusal}
use Rattle.dch_config.specs.Reading.{ReadsTree, KeepsLimits}

-- the errors of limits
abbrev is_limit : ConfigError → Bool
is_limit NoMemory = false
is_limit NotToml = false
is_limit (Key path) = false
is_limit (Range path) = false
is_limit (TrchCount d) = true
is_limit (FormatCount d i) = true
is_limit (NoIdleFormat d i) = true
is_limit (CombinationCount d) = true
is_limit (NoSuchFormat d c) = true
is_limit (NotClosed d c) = true
is_limit (BlockSize d i) = true
is_limit (NoCheck b) = true
is_limit (PduSize b) = true
is_limit (Window b) = true
is_limit (TtiBits d i) = true

-- no refusal but one of a limit
abbrev AreLimits : Option ConfigError → Type 0
AreLimits None = Unit {0}
AreLimits (Some e) = is_limit e ≡ true

abbrev AllLimits : List (Option ConfigError) → Type 0
AllLimits [] = Unit {0}
AllLimits (o ∷ os) = AreLimits o × AllLimits os

of_test : (wrong : Bool) (e : ConfigError) → is_limit e ≡ true → AreLimits (refused_if wrong e)
of_test true e proper = proper
of_test false e proper = tt

of_place : (f : ℕ → ConfigError) (o : Option ℕ) → ((i : ℕ) → is_limit (f i) ≡ true) → AreLimits (option_map f o)
of_place f None proper = tt
of_place f (Some i) proper = proper i

of_list : (os : List (Option ConfigError)) → AllLimits os → AreLimits (first_refusal os)
of_list [] all = tt
of_list (None ∷ os) all = of_list os all.1
of_list (Some e ∷ os) all = all.0

of_counts : (up down : Side) → AreLimits (first_count_refusal up down)
unfolding first_count_refusal
of_counts up down = of_list (count_refusals up down) (
  of_test _ (TrchCount Up) refl,
  (
    of_test _ (TrchCount Down) refl,
    (
      of_place (λ i. FormatCount Up i) _ (λ i. refl),
      (
        of_place (λ i. FormatCount Down i) _ (λ i. refl),
        (
          of_place (λ i. NoIdleFormat Up i) _ (λ i. refl),
          (
            of_place (λ i. NoIdleFormat Down i) _ (λ i. refl),
            (of_test _ (CombinationCount Up) refl, (of_test _ (CombinationCount Down) refl, tt)),
          ),
        ),
      ),
    ),
  ),
)

of_combinations : (up down : Side) → AreLimits (first_combination_refusal up down)
unfolding first_combination_refusal
of_combinations up down = of_list (combination_refusals up down) (
  of_place (λ c. NoSuchFormat Up c) _ (λ c. refl),
  (
    of_place (λ c. NoSuchFormat Down c) _ (λ c. refl),
    (
      of_place (λ c. NotClosed Up c) _ (λ c. refl),
      (
        of_place (λ c. NotClosed Down c) _ (λ c. refl),
        (of_place (λ i. BlockSize Up i) _ (λ i. refl), (of_place (λ i. BlockSize Down i) _ (λ i. refl), tt)),
      ),
    ),
  ),
)

of_bearers : (config : Config) → AreLimits (first_bearer_refusal config)
unfolding first_bearer_refusal
of_bearers config = of_list (bearer_refusals config)
    (of_place (λ b. NoCheck b) _ (λ b. refl), (of_place (λ b. PduSize b) _ (λ b. refl), (of_place (λ b. Window b) _ (λ b. refl), tt)))

of_bits : (up down : Side) → AreLimits (first_bits_refusal up down)
unfolding first_bits_refusal
of_bits up down = of_list (bits_refusals up down)
    (of_place (λ i. TtiBits Up i) _ (λ i. refl), (of_place (λ i. TtiBits Down i) _ (λ i. refl), tt))

of_all : (config : Config) → AreLimits (limit_refusal config)
unfolding limit_refusal
of_all config = of_list (limit_refusals config) (
  of_counts config.uplink.side config.downlink.side,
  (
    of_combinations config.uplink.side config.downlink.side,
    (of_bearers config, (of_bits config.uplink.side config.downlink.side, tt)),
  ),
)

is_of_limit : (config : Config) (e : ConfigError) → limit_refusal config ≡ Some e → is_limit e ≡ true
is_of_limit config e found = subst AreLimits found (of_all config)

-- what a tree without faults reads as, by the limits
pub kept : (tree : Members) (config : Config) (r : Result Config ConfigError) → document_faults tree ≡ [] → config ≡ config_of tree → KeepsLimits config r → ReadsTree tree r
kept tree config (Ok good) keys value kept_all = record { keys = keys; limits = subst (λ x. limit_refusal x ≡ None) (sym kept_all.1) kept_all.0; value = kept_all.1 ∙ value }
kept tree config (Err NoMemory) keys value refused = tt
kept tree config (Err NotToml) keys value refused = let no : false ≡ true = is_of_limit config NotToml refused in cc
kept tree config (Err (Key path)) keys value refused = let no : false ≡ true = is_of_limit config (Key path) refused in cc
kept tree config (Err (Range path)) keys value refused = let no : false ≡ true = is_of_limit config (Range path) refused in cc
kept tree config (Err (TrchCount d)) keys value refused = record { keys = keys; limits = ap limit_refusal (sym value) ∙ refused }
kept tree config (Err (FormatCount d i)) keys value refused = record { keys = keys; limits = ap limit_refusal (sym value) ∙ refused }
kept tree config (Err (NoIdleFormat d i)) keys value refused = record { keys = keys; limits = ap limit_refusal (sym value) ∙ refused }
kept tree config (Err (CombinationCount d)) keys value refused = record { keys = keys; limits = ap limit_refusal (sym value) ∙ refused }
kept tree config (Err (NoSuchFormat d c)) keys value refused = record { keys = keys; limits = ap limit_refusal (sym value) ∙ refused }
kept tree config (Err (NotClosed d c)) keys value refused = record { keys = keys; limits = ap limit_refusal (sym value) ∙ refused }
kept tree config (Err (BlockSize d i)) keys value refused = record { keys = keys; limits = ap limit_refusal (sym value) ∙ refused }
kept tree config (Err (NoCheck b)) keys value refused = record { keys = keys; limits = ap limit_refusal (sym value) ∙ refused }
kept tree config (Err (PduSize b)) keys value refused = record { keys = keys; limits = ap limit_refusal (sym value) ∙ refused }
kept tree config (Err (Window b)) keys value refused = record { keys = keys; limits = ap limit_refusal (sym value) ∙ refused }
kept tree config (Err (TtiBits d i)) keys value refused = record { keys = keys; limits = ap limit_refusal (sym value) ∙ refused }
