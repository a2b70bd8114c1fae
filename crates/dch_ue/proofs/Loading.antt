-- The uplink channels that are loaded one after another.
use Rattle.std.proofs.Common.{◌≡◌, ◌≢◌, ◌<◌, ◌+◌, ◌∙◌, ℕ, List, length, arith, refl, ap, sym, subst, inl, inr, Bool, true, false}
use Rattle.std.specs.Prelude.{◌⊎◌, Some}
use Rattle.std.proofs.lemmas.Bool.Decides.{eqb_tells}
use Rattle.dch_bits.specs.declared.bit.Bit.{Bit}
use Rattle.dch_types.specs.declared.channel.Dir.TheVariants.{Up}
use Rattle.dch_types.specs.declared.config.Config.{Config}
use Rattle.dch_types.specs.Parts.{channel_at, side_of}
use Rattle.dch_types.specs.Timing.{starts}
use Rattle.dch_accept.specs.HeldSets.{held_at}
use Rattle.dch_accept.specs.Plans.{Planned}
use Rattle.dch_tti.specs.Loaded.{AreFormats, Loaded, loaded_at}
use Rattle.dch_ulphy.specs.Loaded.{IsLoaded, IsTtiOf}
use Rattle.dch_layer2.specs.Standing.{IsLayerOf}
use Rattle.dch_layer2.specs.Values.{LayerRunning}
use Rattle.dch_ue.specs.Moves.{AreLoadedTo}
use Rattle.dch_ue.specs.Opened.{AreGivenAs, AreNoted}

-- a test is true or false
pub tells : (b : Bool) → ((b ≡ true) × Unit {0}) ⊎ ((b ≡ false) × Unit {0})
tells true = inl (refl, tt)
tells false = inr (refl, tt)

-- the combination that runs is one of the uplink
pub runs_up : (config : Config) (v : LayerRunning) → IsLayerOf config v → v.out ≡ Up → v.running < length config.uplink.side.combinations
runs_up config v is up = subst (λ d. v.running < length (side_of config d).combinations) up is.stands.runs

pub loaded_as : (planned : Planned) (i f g : ℕ) (bits own : List Bit) (loaded : Loaded) → f ≡ g → bits ≡ own → IsLoaded planned i f bits loaded → IsLoaded planned i g own loaded
loaded_as planned i f g bits own loaded format same is =
    subst (λ n. IsLoaded planned i n own loaded) format (subst (λ (b : List Bit). IsLoaded planned i f b loaded) same is)

-- one more channel was loaded
pub loaded_on : (planned : Planned) (cfn i f : ℕ) (layer : LayerRunning) (bits : List Bit) (old now new : List Loaded) → AreLoadedTo planned cfn i layer old now
    → starts (channel_at planned.config.uplink.side i).frames cfn ≡ true → f ≡ (held_at layer.given i).format → bits ≡ (held_at layer.given i).bits
    → IsTtiOf planned new → IsLoaded planned i f bits (loaded_at new i) → ((k : ℕ) → k ≢ i → loaded_at new k ≡ loaded_at now k) → AreLoadedTo planned cfn (i + 1) layer old new
loaded_on planned cfn i f layer bits old now new are on format same opened loads others =
    let side = planned.config.uplink.side in
    record {
      opened = opened;
      on = λ k early starting. elim (eqb_tells k i) [
        | inl is ↦ subst (λ n. IsLoaded planned n (held_at layer.given n).format (held_at layer.given n).bits (loaded_at new n)) (sym is.1)
            (loaded_as planned i f (held_at layer.given i).format bits (held_at layer.given i).bits (loaded_at new i) format same loads)
        | inr other ↦ (
            let apart : k ≢ i = other.1 in
            subst (λ (l : Loaded). IsLoaded planned k (held_at layer.given k).format (held_at layer.given k).bits l) (sym (others k apart)) (are.on k (omega arith) starting))
      ];
      off = λ k early waiting. elim (eqb_tells k i) [
        | inl is ↦ (let clash : starts (channel_at side i).frames cfn ≡ false = subst (λ n. starts (channel_at side n).frames cfn ≡ false) is.1 waiting in absurd (cc (sym on ∙ clash)))
        | inr other ↦ (let apart : k ≢ i = other.1 in others k apart ∙ are.off k (omega arith) waiting)
      ];
      later = λ k late. (let apart : k ≢ i = omega arith in others k apart ∙ are.later k (omega arith));
    }

pub loaded_off : (planned : Planned) (cfn i : ℕ) (layer : LayerRunning) (old now : List Loaded) → AreLoadedTo planned cfn i layer old now → starts (channel_at planned.config.uplink.side i).frames cfn ≡ false
    → AreLoadedTo planned cfn (i + 1) layer old now
loaded_off planned cfn i layer old now are off =
    let side = planned.config.uplink.side in
    record {
      opened = are.opened;
      on = λ k early starting. elim (eqb_tells k i) [
        | inl is ↦ (let clash : starts (channel_at side i).frames cfn ≡ true = subst (λ n. starts (channel_at side n).frames cfn ≡ true) is.1 starting in absurd (cc (sym off ∙ clash)))
        | inr other ↦ (let apart : k ≢ i = other.1 in are.on k (omega arith) starting)
      ];
      off = λ k early waiting. elim (eqb_tells k i) [
        | inl is ↦ are.later k (omega (arith, is.1))
        | inr other ↦ (let apart : k ≢ i = other.1 in are.off k (omega arith) waiting)
      ];
      later = λ k late. are.later k (omega arith);
    }

-- then all channels are loaded in the formats of the combination that runs
pub formats_all : (planned : Planned) (cfn : ℕ) (layer : LayerRunning) (old new : List Loaded) → AreLoadedTo planned cfn (length planned.config.uplink.side.channels) layer old new → AreGivenAs planned cfn layer
    → AreNoted planned cfn layer.running old → AreFormats planned.config.uplink.side layer.running new
formats_all planned cfn layer old new loads given noted i inside = elim (tells (starts (channel_at planned.config.uplink.side i).frames cfn)) [
  | inl on ↦ (loads.on i inside on.0).format ∙ ap (λ n. Some n) (given i inside on.0)
  | inr off ↦ ap (λ (l : Loaded). l.format) (loads.off i inside off.0) ∙ noted i inside off.0
]
