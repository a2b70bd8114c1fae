-- The bearers of a second configuration, in which every bearer goes on, were bearers of the first one, and what is known of lines stays known.
use Rattle.std.proofs.Common.{◌≡◌, ◌<◌, ◌∙◌, ℕ, List, [], ◌∷◌, Option, Some, None, true, length, refl, sym, ap}
use Rattle.std.specs.Prelude.{is_some}
use Rattle.dch_types.specs.declared.bearer.Mode.TheVariants.{Am}
use Rattle.dch_types.specs.declared.channel.Dir.{Dir}
use Rattle.dch_types.specs.declared.config.Config.{Config}
use Rattle.dch_config.specs.Changes.{KeepsBearer}
use Rattle.dch_config.specs.Good.{IsGood}
use Rattle.dch_accept.specs.Plans.{Planned}
use Rattle.dch_node.specs.Lines.{Line, Took, Full, Wrong, Bad, Reserved, NoBearer, Nobody, PduBad, Outside, Overlong, Got, GotBits, Iub, IubBad, Phy, PhyNone, BadTti, Differs}
use Rattle.dch_layer2.specs.Bearings.{bearer_in, channel_of}
use Rattle.dch_layer2.proofs.KeptBearings.{kept_channel}
use Rattle.dch_layer2.proofs.Good.{there}
use Rattle.dch_runlaw.specs.HonestBearers.{IsAcknowledged, IsTransparent, IsUnacknowledged}
use Rattle.dch_runlaw.proofs.PlainKnown.{AreKnown, HasChannel, IsKnown}
use Rattle.dch_runlaw.proofs.PlainModes.{HasBoth, has_both}

-- a bearer has a channel in a direction in both configurations or in none
has_some : (config : Config) (dir : Dir) (b : ℕ) (o : Option ℕ) → channel_of config dir b ≡ o → is_some o ≡ true → HasChannel config dir b
has_some config dir b None is some = absurd (cc)
has_some config dir b (Some i) is some = record { channel = i; is = is }

on_channel : (first second : Config) (dir : Dir) (b : ℕ) → KeepsBearer first second b → HasChannel first dir b → HasChannel second dir b
on_channel first second dir b keeps has =
    let before : b < length first.bearers = there first dir b has.channel has.is in
    has_some second dir b (channel_of second dir b) refl (kept_channel first second dir b (keeps.same before) ∙ ap is_some has.is)

back_channel : (first second : Config) (dir : Dir) (b i : ℕ) → KeepsBearer first second b → channel_of second dir b ≡ Some i → HasChannel first dir b
back_channel first second dir b i keeps is =
    let before : b < length first.bearers = keeps.there.1 (there second dir b i is) in
    has_some first dir b (channel_of first dir b) refl (sym (kept_channel first second dir b (keeps.same before)) ∙ ap is_some is)

-- so an acknowledged bearer was one
pub record WasAcknowledged (planned : Planned) (b : ℕ) : Type 0 where
  pub up : ℕ
  pub down : ℕ
  pub is : IsAcknowledged planned b up down

pub was_acknowledged : (planned second : Planned) (b up down : ℕ) → IsGood planned.config → KeepsBearer planned.config second.config b → IsAcknowledged second b up down → WasAcknowledged planned b
was_acknowledged planned second b up down good keeps is =
    let before : b < length planned.config.bearers = keeps.there.1 is.there in
    let mode : (bearer_in planned.config b).mode ≡ Am = (keeps.same before).alike.mode ∙ is.mode in
    let both : HasBoth planned.config b = has_both planned.config b good before mode in
    record { up = both.up; down = both.down; is = record { good = good; there = before; mode = mode; up_is = both.up_is; down_is = both.down_is } }

pub record WasUnacknowledged (planned : Planned) (dir : Dir) (b : ℕ) : Type 0 where
  pub channel : ℕ
  pub is : IsUnacknowledged planned dir b channel

pub was_unacknowledged : (planned second : Planned) (dir : Dir) (b i : ℕ) → IsGood planned.config → KeepsBearer planned.config second.config b → IsUnacknowledged second dir b i → WasUnacknowledged planned dir b
was_unacknowledged planned second dir b i good keeps is =
    let before : b < length planned.config.bearers = keeps.there.1 is.there in
    let has : HasChannel planned.config dir b = back_channel planned.config second.config dir b i keeps is.channel in
    record { channel = has.channel; is = record { good = good; there = before; mode = (keeps.same before).alike.mode ∙ is.mode; channel = has.is } }

pub record WasTransparent (planned : Planned) (dir : Dir) (b : ℕ) : Type 0 where
  pub channel : ℕ
  pub is : IsTransparent planned dir b channel

pub was_transparent : (planned second : Planned) (dir : Dir) (b i : ℕ) → IsGood planned.config → KeepsBearer planned.config second.config b → IsTransparent second dir b i → WasTransparent planned dir b
was_transparent planned second dir b i good keeps is =
    let before : b < length planned.config.bearers = keeps.there.1 is.there in
    let has : HasChannel planned.config dir b = back_channel planned.config second.config dir b i keeps is.channel in
    record { channel = has.channel; is = record { good = good; there = before; mode = (keeps.same before).alike.mode ∙ is.mode; channel = has.is } }

-- what is known of lines
known_line : (first second : Config) (into : Dir) (line : Line) → ((b : ℕ) → KeepsBearer first second b) → IsKnown first into line → IsKnown second into line
known_line first second into (Took dir b) kept h = tt
known_line first second into (Full dir b) kept h = tt
known_line first second into (Wrong dir b) kept h = tt
known_line first second into (Bad dir i k) kept h = tt
known_line first second into (Reserved dir i) kept h = h
known_line first second into (NoBearer dir i ct) kept h = h
known_line first second into (Nobody dir i) kept h = h
known_line first second into (PduBad dir b n) kept h = on_channel first second into b (kept b) h
known_line first second into (Outside dir b) kept h = on_channel first second into b (kept b) h
known_line first second into (Overlong dir b) kept h = on_channel first second into b (kept b) h
known_line first second into (Got dir b octets) kept h = tt
known_line first second into (GotBits dir b bits) kept h = tt
known_line first second into (Iub dir set octets) kept h = tt
known_line first second into (IubBad dir set n) kept h = tt
known_line first second into (Phy dir tfci cells) kept h = tt
known_line first second into PhyNone kept h = tt
known_line first second into (BadTti dir i n) kept h = tt
known_line first second into (Differs dir i) kept h = tt

pub known_kept : (first second : Config) (into : Dir) (lines : List Line) → ((b : ℕ) → KeepsBearer first second b) → AreKnown first into lines → AreKnown second into lines
known_kept first second into [] kept h = tt
known_kept first second into (line ∷ lines) kept h = (known_line first second into line kept h.0, known_kept first second into lines kept h.1)
