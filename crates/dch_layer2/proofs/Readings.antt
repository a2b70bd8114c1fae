-- Layer 2 takes what a node reads, channel by channel.
use Rattle.std.proofs.Common.{◌≡◌, ◌≢◌, ◌<◌, ◌≤◌, ◌+◌, ◌-◌, ◌*◌, ◌∙◌, ◌++◌, ℕ, zero, suc, [], ◌∷◌, length, drop, get_or, arith, refl, ap, ap₂, sym, subst, inl, inr, add-one, length-append, length-drop}
use Rattle.std.proofs.Math.Nat.{mul-le-mul_right}
use Rattle.std.proofs.lemmas.Bool.Decides.{eqb_tells}
use Rattle.std.proofs.lemmas.List.{get_or_append_left, get_or_push, length-take-le}
use Rattle.dch_types.specs.declared.channel.Dir.{Dir}
use Rattle.dch_types.specs.declared.channel.Format.{Format}
use Rattle.dch_types.specs.declared.config.Config.{Config}
use Rattle.dch_types.specs.Parts.{channel_at, format_at, side_of}
use Rattle.dch_config.specs.Good.{IsGood}
use Rattle.dch_accept.specs.Blocks.{Held, block_at}
use Rattle.dch_accept.specs.HeldSets.{HasFormat}
use Rattle.dch_indication.specs.Lines.{BadTti, Line}
use Rattle.dch_indication.specs.Told.{Told}
use Rattle.dch_indication.proofs.Telling.{told-append}
use Rattle.dch_layer2.specs.Layers.{Came, Layer, Outcome, takes}
use Rattle.dch_layer2.specs.BoundedBearers.{AreBounded}
use Rattle.dch_layer2.specs.FormatBlocks.{AreBlocks, IsBlock}
use Rattle.dch_layer2.proofs.BoundedLayers.{all_bounded}
use Rattle.dch_layer2.specs.Bounded.{HasLayer, HasRead, IsTti}
use Rattle.dch_layer2.specs.Coming.{came_at, came_below, came_of}
use Rattle.dch_layer2.specs.Reading.{Bad, Nothing, Read, Reading, reads, reads_below}
use Rattle.dch_layer2.specs.Standing.{IsSameEnd, Represents}
use Rattle.dch_layer2.specs.Values.{LayerRunning}

pub length-came : (held : Held) (k : ℕ) → length (came_below held k) ≡ k
length-came held zero = refl
length-came held (suc k) = omega (arith, length-append (came_below held k) (came_at held k ∷ []), length-came held k)

-- a block of a TTI
block_is : (config : Config) (into : Dir) (i k : ℕ) (held : Held) → HasFormat (channel_at (side_of config into) i) held → k < length held.good → IsBlock config into i (block_at held k)
block_is config into i k held has inside =
    let format : Format = format_at (channel_at (side_of config into) i) held.format in
    let behind : suc k * held.size ≤ length held.good * held.size = mul-le-mul_right held.size inside in
    let product : format.number * format.size ≡ length held.good * held.size = ap₂ (λ n m. n * m) (sym has.count) (sym has.size) in
    let long : length (drop (k * held.size) held.bits) ≡ length held.bits - k * held.size = length-drop (k * held.size) held.bits in
    let room : held.size ≤ length (drop (k * held.size) held.bits) = omega (arith, behind, product, long, has.long) in
    record {
      format = held.format;
      there = has.there;
      some = omega (arith, inside, has.count);
      size = length-take-le held.size (drop (k * held.size) held.bits) room ∙ has.size;
    }

-- the blocks of a TTI as they come
came_below-at : (held : Held) (n k : ℕ) (d : Came) → k < n → get_or (came_below held n) k d ≡ came_at held k
came_below-at held zero k d inside = absurd (omega arith)
came_below-at held (suc n) k d inside = elim (eqb_tells k n) [
  | inl same ↦ ap (λ m. get_or (came_below held n ++ came_at held n ∷ []) m d) same.1 ∙ get_or_push (came_below held n) (came_at held n) d n (length-came held n) ∙ ap (came_at held) (sym same.1)
  | inr other ↦ (
      let apart : k ≢ n = other.1 in
      get_or_append_left (came_below held n) (came_at held n ∷ []) d k (omega (arith, length-came held n)) ∙ came_below-at held n k d (omega arith))
]

pub blocks_are : (config : Config) (into : Dir) (i : ℕ) (held : Held) → HasFormat (channel_at (side_of config into) i) held → AreBlocks config into i (came_of held)
blocks_are config into i held has k d inside =
    let within : k < length held.good = omega (arith, inside, length-came held (length held.good)) in
    subst (λ (c : Came). IsBlock config into i c.bits) (sym (came_below-at held (length held.good) k d within)) (block_is config into i k held has within)

-- layer 2 stays limited
one_bounded : (config : Config) (into : Dir) (i : ℕ) (r : Reading) (layer : Layer) → IsGood config → i < length (side_of config into).channels → IsTti config into i r → AreBounded config layer → AreBounded config (reads config into i r layer).layer
one_bounded config into i Nothing layer good inside is bounded = bounded
one_bounded config into i (Read held) layer good inside is bounded = all_bounded config into i 0 (came_of held) layer good inside (blocks_are config into i held is) bounded
one_bounded config into i (Bad frame) layer good inside is bounded = bounded

pub readings_bounded : (config : Config) (into : Dir) (readings : ℕ → Reading) (n : ℕ) (layer : Layer) → IsGood config → n ≤ length (side_of config into).channels → ((i : ℕ) → i < n → IsTti config into i (readings i)) → AreBounded config layer
    → AreBounded config (reads_below config into readings n layer).layer
readings_bounded config into readings zero layer good few are bounded = bounded
readings_bounded config into readings (suc n) layer good few are bounded =
    one_bounded config into n (readings n) (reads_below config into readings n layer).layer good (omega (arith, few)) (are n (omega arith))
    (readings_bounded config into readings n layer good (omega (arith, few)) (λ i early. are i (omega (arith, early))) bounded)

-- nothing was read yet
pub none_read : {S : Type 0} (shows : S → Line → S → Type 0) (config : Config) (into : Dir) (readings : ℕ → Reading) (v : LayerRunning) (user : S) → HasRead shows config into readings 0 v v user user
none_read shows config into readings v user = record { ends = record { sends = refl; receives = refl }; stands = λ layer is. is; told = λ layer is. refl }

-- one more channel
reads_next : (config : Config) (into : Dir) (readings : ℕ → Reading) (i : ℕ) (reading : Reading) (layer : Layer) → readings i ≡ reading →
    reads_below config into readings (i + 1) layer ≡ record {
      layer = (reads config into i reading (reads_below config into readings i layer).layer).layer;
      lines = (reads_below config into readings i layer).lines ++ (reads config into i reading (reads_below config into readings i layer).layer).lines;
    }
reads_next config into readings i reading layer is =
    rw add-one (ap (λ (r : Reading). record {
      layer = (reads config into i r (reads_below config into readings i layer).layer).layer;
      lines = (reads_below config into readings i layer).lines ++ (reads config into i r (reads_below config into readings i layer).layer).lines;
    }) is)

-- of which nothing is read
pub skipped : {S : Type 0} (shows : S → Line → S → Type 0) (config : Config) (into : Dir) (readings : ℕ → Reading) (i : ℕ) (old now : LayerRunning) (before after : S) → HasRead shows config into readings i old now before after → readings i ≡ Nothing
    → HasRead shows config into readings (i + 1) old now before after
skipped shows config into readings i old now before after has none = record {
  ends = has.ends;
  stands = λ layer is. subst (λ (o : Outcome). Represents config o.layer now) (sym (reads_next config into readings i Nothing layer none)) (has.stands layer is);
  told = λ layer is.
      subst (λ (o : Outcome). Told shows before o.lines after) (sym (reads_next config into readings i Nothing layer none))
      (told-append shows before after after (reads_below config into readings i layer).lines [] (has.told layer is) refl);
}

-- whose blocks layer 2 took
pub taken_on : {S : Type 0} (shows : S → Line → S → Type 0) (config : Config) (into : Dir) (readings : ℕ → Reading) (i : ℕ) (held : Held) (old now next : LayerRunning) (before after later : S) → HasRead shows config into readings i old now before after → readings i ≡ Read held → now.into ≡ into
    → IsSameEnd now next
    → ((layer : Layer) → Represents config layer now → Told shows after (takes config now.into i 0 (came_of held) layer).lines later)
    → ((layer : Layer) → Represents config layer now → Represents config (takes config now.into i 0 (came_of held) layer).layer next)
    → HasRead shows config into readings (i + 1) old next before later
taken_on shows config into readings i held old now next before after later has reading receives same told stands = record {
  ends = record { sends = same.sends ∙ has.ends.sends; receives = same.receives ∙ has.ends.receives };
  stands = λ layer is.
      subst (λ (o : Outcome). Represents config o.layer next) (sym (reads_next config into readings i (Read held) layer reading))
      (subst (λ (d : Dir). Represents config (takes config d i 0 (came_of held) (reads_below config into readings i layer).layer).layer next) receives (stands (reads_below config into readings i layer).layer (has.stands layer is)));
  told = λ layer is.
      let first : Outcome = reads_below config into readings i layer in
      subst (λ (o : Outcome). Told shows before o.lines later) (sym (reads_next config into readings i (Read held) layer reading))
      (told-append shows before after later first.lines (takes config into i 0 (came_of held) first.layer).lines (has.told layer is)
      (subst (λ (d : Dir). Told shows after (takes config d i 0 (came_of held) first.layer).lines later) receives (told first.layer (has.stands layer is))));
}

-- one of whose radio frames is bad, which was told
pub bad_on : {S : Type 0} (shows : S → Line → S → Type 0) (config : Config) (into : Dir) (readings : ℕ → Reading) (i frame : ℕ) (old now : LayerRunning) (before after later : S) → HasRead shows config into readings i old now before after → readings i ≡ Bad frame
    → Told shows after (BadTti into i frame ∷ []) later → HasRead shows config into readings (i + 1) old now before later
bad_on shows config into readings i frame old now before after later has bad told = record {
  ends = has.ends;
  stands = λ layer is. subst (λ (o : Outcome). Represents config o.layer now) (sym (reads_next config into readings i (Bad frame) layer bad)) (has.stands layer is);
  told = λ layer is.
      subst (λ (o : Outcome). Told shows before o.lines later) (sym (reads_next config into readings i (Bad frame) layer bad))
      (told-append shows before after later (reads_below config into readings i layer).lines (BadTti into i frame ∷ []) (has.told layer is) told);
}

-- layer 2 stays limited
pub read_layer : {S : Type 0} (shows : S → Line → S → Type 0) (config : Config) (into : Dir) (readings : ℕ → Reading) (n : ℕ) (old new : LayerRunning) (before after : S) → IsGood config → n ≤ length (side_of config into).channels
    → ((i : ℕ) → i < n → IsTti config into i (readings i)) → HasLayer config old → HasRead shows config into readings n old new before after → HasLayer config new
read_layer shows config into readings n old new before after good few are has read = record {
  layer = (reads_below config into readings n has.layer).layer;
  stands = read.stands has.layer has.stands;
  bounded = readings_bounded config into readings n has.layer good few are has.bounded;
}
