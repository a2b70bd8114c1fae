-- The TTIs that start in a tick: the combination that runs, and what is loaded of the channels.
use Rattle.std.proofs.Common.{◌≡◌, ◌∙◌, ℕ, List, length, refl, ap, sym, subst, inl, inr, true, false}
use Rattle.std.specs.Prelude.{Some}
use Rattle.dch_types.specs.declared.channel.Dir.{Dir}
use Rattle.dch_types.specs.declared.channel.Dir.TheVariants.{Up}
use Rattle.dch_types.specs.declared.config.Config.{Config}
use Rattle.dch_types.specs.Parts.{channel_at, format_number}
use Rattle.dch_types.specs.Timing.{starts}
use Rattle.dch_accept.specs.HeldSets.{held_at}
use Rattle.dch_accept.specs.Plans.{Planned}
use Rattle.dch_tti.specs.Loaded.{AreFormats, Loaded, loaded_at}
use Rattle.dch_ulphy.specs.Loaded.{IsLoaded}
use Rattle.dch_layer2.specs.Layers.{Given, Layer}
use Rattle.dch_layer2.specs.Starting.{IsStart, asked_in, given_now}
use Rattle.dch_layer2.specs.Joined.{joined_bits}
use Rattle.dch_layer2.specs.Opening.{IsGiven}
use Rattle.dch_layer2.specs.Standing.{HasStarted}
use Rattle.dch_layer2.specs.Values.{LayerRunning}
use Rattle.dch_layer2.proofs.Joined.{carries, given_at}
use Rattle.dch_ue.specs.Moves.{AreLoadedTo}
use Rattle.dch_ue.specs.Opened.{AreGivenAs, AreNoted}
use Rattle.dch_ue.specs.Standing.{AreLoadedOn}
use Rattle.dch_ue.specs.Steps.{AreAllLoaded}
use Rattle.dch_ue.proofs.Loading.{loaded_as, tells}

-- at an end that sends in the uplink
start_up : (config : Config) (cfn : ℕ) (old : Layer) (v : LayerRunning) → v.out ≡ Up → (started : HasStarted config cfn old v) → IsStart config Up cfn old started.next
start_up config cfn old v up started = subst (λ (d : Dir). IsStart config d cfn old started.next) up started.start

-- a channel that starts is given a format of the combination that runs, and another one what it had
given_on : (config : Config) (cfn i : ℕ) (old new : Layer) → IsStart config Up cfn old new → starts (channel_at config.uplink.side i).frames cfn ≡ true → (new.given i).format ≡ format_number config.uplink.side new.running i
given_on config cfn i old new is on =
    let now : (new.given i).format ≡ (given_now (asked_in config Up cfn old) new.running is.built old i).format = ap (λ (g : Given). g.format) (is.given i) in
    now ∙ rw on refl

given_off : (config : Config) (cfn i : ℕ) (old new : Layer) → IsStart config Up cfn old new → starts (channel_at config.uplink.side i).frames cfn ≡ false → new.given i ≡ old.given i
given_off config cfn i old new is off = is.given i ∙ rw off refl

pub given_as : (planned : Planned) (cfn : ℕ) (old : Layer) (v : LayerRunning) → v.out ≡ Up → HasStarted planned.config cfn old v → AreGivenAs planned cfn v
given_as planned cfn old v up started i inside on =
    (given_at planned.config Up started.next v i started.stands up inside).number
    ∙ given_on planned.config cfn i old started.next (start_up planned.config cfn old v up started) on
    ∙ ap (λ c. format_number planned.config.uplink.side c i) (sym started.stands.running)

-- the channels whose TTI goes on keep their format
pub noted_on : (planned : Planned) (cfn running : ℕ) (old : Layer) (v : LayerRunning) (tti : List Loaded) → v.out ≡ Up → HasStarted planned.config cfn old v → running ≡ old.running
    → AreNoted planned cfn running tti → AreNoted planned cfn v.running tti
noted_on planned cfn running old v tti up started same noted i inside off =
    let side = planned.config.uplink.side in
    let kept : format_number side started.next.running i ≡ format_number side old.running i = (start_up planned.config cfn old v up started).best.candidate.kept i inside off in
    noted i inside off ∙ ap (λ n. Some n) (ap (λ c. format_number side c i) same ∙ sym kept ∙ ap (λ c. format_number side c i) (sym started.stands.running))

-- after a tick every channel is loaded in the format of the combination that runs
pub noted_next : (planned : Planned) (cfn running : ℕ) (tti : List Loaded) → AreFormats planned.config.uplink.side running tti → AreNoted planned cfn running tti
noted_next planned cfn running tti formats i inside off = formats i inside

-- what is loaded then is what layer 2 gave to all channels
pub all_loaded : (planned : Planned) (cfn : ℕ) (before old : Layer) (v : LayerRunning) (tti new : List Loaded) → v.out ≡ Up → (started : HasStarted planned.config cfn old v) → ((i : ℕ) → old.given i ≡ before.given i)
    → AreLoadedOn planned cfn before tti → AreLoadedTo planned cfn (length planned.config.uplink.side.channels) v tti new → AreAllLoaded planned started.next new
all_loaded planned cfn before old v tti new up started same was loads i inside =
    let next : Layer = started.next in
    elim (tells (starts (channel_at planned.config.uplink.side i).frames cfn)) [
      | inl on ↦ (
          let given : IsGiven planned.config Up i (next.given i) (held_at v.given i) = given_at planned.config Up next v i started.stands up inside in
          loaded_as planned i (held_at v.given i).format (next.given i).format (held_at v.given i).bits (joined_bits (next.given i).blocks) (loaded_at new i) given.number (carries planned.config Up i (next.given i) (held_at v.given i) given).bits
          (loads.on i inside on.0))
      | inr off ↦ (
          let still : next.given i ≡ before.given i = given_off planned.config cfn i old next (start_up planned.config cfn old v up started) off.0 ∙ same i in
          subst (λ (l : Loaded). IsLoaded planned i (next.given i).format (joined_bits (next.given i).blocks) l) (sym (loads.off i inside off.0))
          (subst (λ (g : Given). IsLoaded planned i g.format (joined_bits g.blocks) (loaded_at tti i)) (sym still) (was i inside off.0)))
    ]
