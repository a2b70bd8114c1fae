-- What layer 2 tells of what a node reads fits in the report of a step.
use Rattle.std.proofs.Common.{◌<◌, ◌≤◌, ◌+◌, ◌*◌, ℕ, zero, suc, [], ◌∷◌, length, arith, sym, subst}
use Rattle.dch_types.specs.declared.channel.Dir.{Dir}
use Rattle.dch_types.specs.declared.config.Config.{Config}
use Rattle.dch_types.specs.Parts.{channel_at, format_at, side_of}
use Rattle.dch_layer2.specs.ConfigGood.{IsGood}
use Rattle.dch_layer2.specs.AcceptReports.{step_bytes}
use Rattle.dch_indication.specs.Lines.{BadTti}
use Rattle.dch_script.specs.LineText.{text_of}
use Rattle.dch_layer2.specs.Bounded.{IsTti}
use Rattle.dch_layer2.specs.BoundedBearers.{AreBounded}
use Rattle.dch_layer2.specs.Coming.{came_of}
use Rattle.dch_layer2.specs.Layers.{Layer}
use Rattle.dch_layer2.specs.Reading.{Bad, Nothing, Read, Reading, reads, reads_below}
use Rattle.dch_layer2.proofs.PduSizes.{side_good}
use Rattle.dch_layer2.proofs.Readings.{blocks_are, length-came, readings_bounded}
use Rattle.dch_steptext.proofs.LayerBytes.{IsTaken, all_taken, layer_few, none_told, of_both, of_more, short_told}

-- a channel has at most 64 blocks, each of which brings at most 5,200 bytes
one_paid : (config : Config) (into : Dir) (i : ℕ) (r : Reading) (layer : Layer) → IsGood config → i < length (side_of config into).channels → IsTti config into i r → AreBounded config layer → IsTaken config layer (reads config into i r layer) 332800
one_paid config into i Nothing layer good inside is bounded = of_more config layer (record { layer = layer; lines = [] }) 0 332800 (omega arith) (none_told config layer)
one_paid config into i (Read held) layer good inside is bounded =
    let number : (format_at (channel_at (side_of config into) i) held.format).number ≤ 64 = (((side_good config into good).channels i inside).formats held.format is.there).number in
    let few : length held.good ≤ 64 = subst (λ n. n ≤ 64) (sym is.count) number in
    let paid = all_taken config into i 0 (came_of held) layer good inside (omega (arith, length-came held (length held.good), few)) (blocks_are config into i held is) bounded in
    omega (arith, paid, length-came held (length held.good), few)
one_paid config into i (Bad frame) layer good inside is bounded =
    let channel : i < 1000 = omega (arith, inside, (side_good config into good).few) in
    let place : frame < 1000 = omega (arith, is) in
    of_more config layer (record { layer = layer; lines = BadTti into i frame ∷ [] }) 40 332800 (omega arith) (short_told config (BadTti into i frame) layer (channel, place))

-- the first channels
reads_paid : (config : Config) (into : Dir) (readings : ℕ → Reading) (n : ℕ) (layer : Layer) → IsGood config → n ≤ length (side_of config into).channels → ((i : ℕ) → i < n → IsTti config into i (readings i)) → AreBounded config layer
    → IsTaken config layer (reads_below config into readings n layer) (n * 332800)
reads_paid config into readings zero layer good few are bounded = none_told config layer
reads_paid config into readings (suc n) layer good few are bounded =
    let early : (i : ℕ) → i < n → IsTti config into i (readings i) = (λ i before. are i (omega (arith, before))) in
    let first : IsTaken config layer (reads_below config into readings n layer) (n * 332800) = reads_paid config into readings n layer good (omega (arith, few)) early bounded in
    let mid : Layer = (reads_below config into readings n layer).layer in
    let last : IsTaken config mid (reads config into n (readings n) mid) 332800 =
    one_paid config into n (readings n) mid good (omega (arith, few)) (are n (omega arith)) (readings_bounded config into readings n layer good (omega (arith, few)) early bounded) in
    of_more config layer (reads_below config into readings (suc n) layer) (n * 332800 + 332800) (suc n * 332800) (omega arith)
    (of_both config layer (reads_below config into readings n layer) (reads config into n (readings n) mid) (n * 332800) 332800 first last)

-- all lines on what is read fit in the report of a step, and leave room for 1,300,000 bytes
pub readings_room : (config : Config) (into : Dir) (readings : ℕ → Reading) (n : ℕ) (layer : Layer) → IsGood config → n ≤ length (side_of config into).channels → ((i : ℕ) → i < n → IsTti config into i (readings i)) → AreBounded config layer
    → length (text_of (reads_below config into readings n layer).lines) + 1300000 ≤ step_bytes config
readings_room config into readings n layer good few are bounded =
    omega (arith, reads_paid config into readings n layer good few are bounded, layer_few config layer good bounded, few, (side_good config into good).few)
