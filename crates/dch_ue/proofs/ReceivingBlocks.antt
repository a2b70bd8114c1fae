-- What was read of the channels, as layer 2 takes it.
use Rattle.std.proofs.Common.{◌≡◌, ◌+◌, ◌<◌, ◌∙◌, ◌++◌, ℕ, length, arith, ap, sym, subst, add-one}
use Rattle.dch_types.specs.declared.channel.Dir.TheVariants.{Down}
use Rattle.dch_types.specs.declared.config.Config.{Config}
use Rattle.dch_types.specs.Limits.{IsFrames, IsSide}
use Rattle.dch_types.specs.Parts.{channel_at}
use Rattle.dch_accept.specs.Plans.{Planned}
use Rattle.dch_indication.specs.Lines.{Line}
use Rattle.dch_indication.specs.Told.{Told}
use Rattle.dch_indication.proofs.Telling.{told-append}
use Rattle.dch_tti.specs.RxFrames.{RxFrames}
use Rattle.dch_layer2.specs.Layers.{Layer, Outcome}
use Rattle.dch_layer2.specs.Bounded.{HasRead, IsTti}
use Rattle.dch_layer2.specs.Reading.{Bad, Nothing, Read, Reading, reads, reads_below}
use Rattle.dch_layer2.specs.Standing.{Represents as StandsFor}
use Rattle.dch_layer2.specs.Values.{LayerRunning}
use Rattle.dch_ue.specs.Moves.{Gives}
use Rattle.dch_ue.specs.Steps.{IsReading}

-- what is read of a channel has one of its formats, or one of up to 8 radio frames is bad
pub tti_read : (planned : Planned) (rx_frames : RxFrames) (i : ℕ) (reading : Reading) → IsSide planned.config.downlink.side → i < length planned.config.downlink.side.channels → IsReading planned rx_frames i reading
    → IsTti planned.config Down i reading
tti_read planned rx_frames i Nothing good inside is = tt
tti_read planned rx_frames i (Read held) good inside is = record { there = is.1.format.inside; size = is.1.blocks.sized; count = is.1.blocks.counted; long = is.1.blocks.whole }
tti_read planned rx_frames i (Bad frame) good inside is = let frames : IsFrames (channel_at planned.config.downlink.side i).frames = (good.channels i inside).frames in omega (arith, is.1.inside, frames)

-- one more channel
reads_next : (config : Config) (readings : ℕ → Reading) (i : ℕ) (reading : Reading) (layer : Layer) → readings i ≡ reading →
    reads_below config Down readings (i + 1) layer ≡ record {
      layer = (reads config Down i reading (reads_below config Down readings i layer).layer).layer;
      lines = (reads_below config Down readings i layer).lines ++ (reads config Down i reading (reads_below config Down readings i layer).layer).lines;
    }
reads_next config readings i reading layer is =
    rw add-one (ap (λ (r : Reading). record {
      layer = (reads config Down i r (reads_below config Down readings i layer).layer).layer;
      lines = (reads_below config Down readings i layer).lines ++ (reads config Down i r (reads_below config Down readings i layer).layer).lines;
    }) is)

pub given_next : {S : Type 0} (shows : S → Line → S → Type 0) (config : Config) (readings : ℕ → Reading) (i : ℕ) (reading : Reading) (old now next : LayerRunning) (before after later : S) → HasRead shows config Down readings i old now before after → readings i ≡ reading
    → Gives shows config i reading now next after later → HasRead shows config Down readings (i + 1) old next before later
given_next shows config readings i reading old now next before after later has is gives = record {
  ends = record { sends = gives.ends.sends ∙ has.ends.sends; receives = gives.ends.receives ∙ has.ends.receives };
  stands = λ layer stands.
      subst (λ (o : Outcome). StandsFor config o.layer next) (sym (reads_next config readings i reading layer is)) (gives.stands (reads_below config Down readings i layer).layer (has.stands layer stands));
  told = λ layer stands.
      let first : Outcome = reads_below config Down readings i layer in
      subst (λ (o : Outcome). Told shows before o.lines later) (sym (reads_next config readings i reading layer is))
      (told-append shows before after later first.lines (reads config Down i reading first.layer).lines (has.told layer stands) (gives.told first.layer (has.stands layer stands)));
}
