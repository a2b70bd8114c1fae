-- Reading changes neither what layer 2 gave to the channels nor the combination that runs.
use Rattle.std.proofs.Common.{◌≡◌, ◌+◌, ◌∙◌, ℕ, zero, suc, List, [], ◌∷◌, Bool, true, false, refl}
use Rattle.dch_bits.specs.declared.bit.Bit.{Bit}
use Rattle.dch_types.specs.declared.channel.Dir.{Dir}
use Rattle.dch_types.specs.declared.config.Config.{Config}
use Rattle.dch_mac.specs.declared.answer.Demux.{Demux}
use Rattle.dch_mac.specs.declared.answer.Demux.TheVariants.{To, Reserved, NoBearer, Nobody}
use Rattle.dch_mac.specs.Receivers.{receiver}
use Rattle.dch_layer2.specs.Layers.{Came, Layer, Outcome, goes, takes, takes_good, takes_one}
use Rattle.dch_layer2.specs.Coming.{came_of}
use Rattle.dch_layer2.specs.Reading.{Bad, Nothing, Read, Reading, reads, reads_below}

-- the same was given, and the same combination runs
pub record GivesTheSame (old new : Layer) : Type 0 where
  pub given : (i : ℕ) → new.given i ≡ old.given i
  pub running : new.running ≡ old.running

stays : (layer : Layer) → GivesTheSame layer layer
stays layer = record { given = λ i. refl; running = refl }

then_stays : (old mid new : Layer) → GivesTheSame old mid → GivesTheSame mid new → GivesTheSame old new
then_stays old mid new first second = record { given = λ i. second.given i ∙ first.given i; running = second.running ∙ first.running }

goes_on : (config : Config) (into : Dir) (channel : ℕ) (bits : List Bit) (to : Demux) (layer : Layer) → GivesTheSame layer (goes config into channel bits to layer).layer
goes_on config into channel bits (To b skip) layer = record { given = λ i. refl; running = refl }
goes_on config into channel bits Reserved layer = stays layer
goes_on config into channel bits (NoBearer ct) layer = stays layer
goes_on config into channel bits Nobody layer = stays layer

good_on : (config : Config) (into : Dir) (channel : ℕ) (bits : List Bit) (layer : Layer) → GivesTheSame layer (takes_good config into channel bits layer).layer
good_on config into channel [] layer = stays layer
good_on config into channel (bit ∷ bits) layer = goes_on config into channel (bit ∷ bits) (receiver config into channel (bit ∷ bits)) layer

one_on : (config : Config) (into : Dir) (channel k : ℕ) (bits : List Bit) (good : Bool) (layer : Layer) → GivesTheSame layer (takes_one config into channel k bits good layer).layer
one_on config into channel k bits true layer = good_on config into channel bits layer
one_on config into channel k bits false layer = stays layer

takes_on : (config : Config) (into : Dir) (channel k : ℕ) (came : List Came) (layer : Layer) → GivesTheSame layer (takes config into channel k came layer).layer
takes_on config into channel k [] layer = stays layer
takes_on config into channel k (came ∷ later) layer =
    let first : Outcome = takes_one config into channel k came.bits came.good layer in
    then_stays layer first.layer (takes config into channel (k + 1) later first.layer).layer (one_on config into channel k came.bits came.good layer) (takes_on config into channel (k + 1) later first.layer)

reads_on : (config : Config) (into : Dir) (i : ℕ) (reading : Reading) (layer : Layer) → GivesTheSame layer (reads config into i reading layer).layer
reads_on config into i Nothing layer = stays layer
reads_on config into i (Read held) layer = takes_on config into i 0 (came_of held) layer
reads_on config into i (Bad frame) layer = stays layer

pub reads_below-on : (config : Config) (into : Dir) (readings : ℕ → Reading) (n : ℕ) (layer : Layer) → GivesTheSame layer (reads_below config into readings n layer).layer
reads_below-on config into readings zero layer = stays layer
reads_below-on config into readings (suc n) layer =
    let first : Outcome = reads_below config into readings n layer in
    then_stays layer first.layer (reads config into n (readings n) first.layer).layer (reads_below-on config into readings n layer) (reads_on config into n (readings n) first.layer)
