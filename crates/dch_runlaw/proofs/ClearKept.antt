-- What the start of TTIs leaves of layer 2.
use Rattle.std.proofs.Common.{◌≡◌, ◌<◌, ◌∙◌, ℕ, false, length, refl, sym, ap, inl, inr}
use Rattle.dch_types.specs.declared.channel.Dir.{Dir}
use Rattle.dch_types.specs.declared.config.Config.{Config}
use Rattle.dch_types.specs.Parts.{channel_at, format_number, side_of}
use Rattle.dch_types.specs.Timing.{starts}
use Rattle.dch_linkcmd.proofs.Steady.{tells}
use Rattle.dch_layer2.specs.Layers.{Given, Layer}
use Rattle.dch_layer2.specs.Starting.{IsStart}

-- a channel whose TTI goes on keeps what it was given
pub start_same : (config : Config) (out : Dir) (cfn : ℕ) (old new : Layer) (i : ℕ) → IsStart config out cfn old new → starts (channel_at (side_of config out) i).frames cfn ≡ false → new.given i ≡ old.given i
start_same config out cfn old new i start off = start.given i ∙ rw off refl

-- the formats that channels run are those of the combination that runs
pub start_format : (config : Config) (out : Dir) (cfn : ℕ) (old new : Layer) (i : ℕ) → IsStart config out cfn old new → i < length (side_of config out).channels
    → (starts (channel_at (side_of config out) i).frames cfn ≡ false → (old.given i).format ≡ format_number (side_of config out) old.running i) → (new.given i).format ≡ format_number (side_of config out) new.running i
start_format config out cfn old new i start inside before = elim (tells (starts (channel_at (side_of config out) i).frames cfn)) [
  | inl on ↦ ap (λ (g : Given). g.format) (start.given i) ∙ rw on.0 refl
  | inr off ↦ ap (λ (g : Given). g.format) (start_same config out cfn old new i start off.0) ∙ before off.0 ∙ sym (start.best.candidate.kept i inside off.0)
]
