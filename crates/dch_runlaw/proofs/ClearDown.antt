-- The downlink of a radio frame in which no damage has an effect, part by part.
use Rattle.std.proofs.Common.{◌≡◌, ◌<◌, ◌≤◌, ◌∙◌, ℕ, List, [], length, true, false, Option, Some, None, refl, sym, ap, subst, inl, inr}
use Rattle.std.specs.Prelude.{map}
use Rattle.std.specs.List.{range_with_len}
use Rattle.std.proofs.lemmas.Bool.{eq-eqb, ne_eqb}
use Rattle.dch_types.specs.declared.channel.Dir.TheVariants.{Down}
use Rattle.dch_types.specs.declared.channel.Trch.{Trch}
use Rattle.dch_types.specs.Parts.{channel_at, format_at}
use Rattle.dch_types.specs.Timing.{ends, set_frames, starts}
use Rattle.dch_accept.specs.Blocks.{bits_of}
use Rattle.dch_accept.specs.HeldSets.{HasFormat, held_at}
use Rattle.dch_accept.specs.Plans.{IsPlanned, Planned}
use Rattle.dch_tti.specs.RxFrames.{RxFrames}
use Rattle.dch_dlphy.specs.Frames.{multiplexed}
use Rattle.dch_dlphy.specs.Loaded.{IsLoaded}
use Rattle.dch_dlphy.specs.Read.{IsTtiRead}
use Rattle.dch_dlphy.specs.Sent.{WasSent}
use Rattle.dch_tti.specs.Loaded.{Loaded}
use Rattle.dch_iub.specs.Back.{IsReadBack}
use Rattle.dch_iub.specs.Shape.{ForSet}
use Rattle.dch_iub.proofs.Back.{one_reading}
use Rattle.dch_iub.proofs.Refused.{no_form}
use Rattle.dch_node.specs.Lines.{Line}
use Rattle.dch_node.specs.RxFrames.{AreHeard}
use Rattle.dch_node.specs.Values.{Blocks, Output, Radio}
use Rattle.dch_layer2.specs.Layers.{Given, Layer}
use Rattle.dch_layer2.specs.Joined.{joined_bits}
use Rattle.dch_layer2.specs.Reading.{Bad, Nothing, Read, Reading}
use Rattle.dch_linkcmd.specs.NodebState.{DownlinkIubFrame, State as NodeBState, keeping}
use Rattle.dch_linkcmd.specs.NodebSteps.{IsArrival, IsKeptFrame}
use Rattle.dch_linkcmd.specs.RncSteps.{IsDownlinkFrame, IsSent}
use Rattle.dch_linkcmd.specs.UeSteps.{IsReading}
use Rattle.dch_linkcmd.specs.Checks.{good_in}
use Rattle.dch_runlaw.specs.SentRead.{IsReadAsSent}
use Rattle.dch_runlaw.proofs.DownlinkSent.{downlink_sent}
use Rattle.dch_runlaw.specs.Frames.{MayArrive}
use Rattle.dch_runlaw.specs.Sized.{AreSized}
use Rattle.dch_runlaw.proofs.ClearBlocks.{arrive_good}
use Rattle.dch_runlaw.proofs.ClearClean.{IsClean}
use Rattle.dch_node.proofs.IubFrames.{same_bits}
use Rattle.dch_runlaw.proofs.ClearSent.{IsSentRadio, all_sent}
use Rattle.dch_runlaw.proofs.ClearTtis.{Half}

-- a channel runs just what it was given, which is what its format wants
pub record RunsGiven (channel : Trch) (given : Given) (blocks : Blocks) : Type 0 where
  pub format : blocks.format ≡ given.format
  pub bits : blocks.bits ≡ joined_bits given.blocks
  pub whole : length (joined_bits given.blocks) ≡ bits_of (format_at channel given.format)

-- the Iub frame of a set is kept
pub record HoldsFrame (planned : Planned) (cfn : ℕ) (layer : Layer) (set : ℕ) (o : Option DownlinkIubFrame) : Type 0 where
  pub frame : DownlinkIubFrame
  pub is : o ≡ Some frame
  pub named : frame.cfn ≡ cfn
  pub blocks : ForSet planned.config.downlink.side set (λ i. RunsGiven (channel_at planned.config.downlink.side i) (layer.given i) (frame.blocks i))

-- what an Iub frame does at the Node B
pub record Comes (planned : Planned) (cfn : ℕ) (layer : Layer) (s : ℕ) (old new : NodeBState) (lines : List Line) : Type 0 where
  pub active : new.planned ≡ old.planned
  pub given : new.given ≡ old.given
  pub same_cfn : new.cfn ≡ old.cfn
  pub frames : new.frames ≡ old.frames
  pub others : (k : ℕ) → (k ≡ s → ⊥) → new.kept k ≡ old.kept k
  pub quiet : lines ≡ []
  pub held : starts (set_frames planned.config.downlink.side s) cfn ≡ true → HoldsFrame planned cfn layer s (new.kept s)

keeps_here : (s : ℕ) (frame : DownlinkIubFrame) (old : NodeBState) → (keeping old s frame).kept s ≡ Some frame
keeps_here s frame old = rw (eq-eqb s s refl) refl

keeps_other : (s k : ℕ) (frame : DownlinkIubFrame) (old : NodeBState) → (k ≡ s → ⊥) → (keeping old s frame).kept k ≡ old.kept k
keeps_other s k frame old e = rw (ne_eqb k s e) refl

-- it is kept
kept_comes : (planned : Planned) (cfn : ℕ) (layer : Layer) (s : ℕ) (octets : List ℕ) (old new : NodeBState) (output : Output) (lines : List Line) → IsDownlinkFrame planned.config cfn layer s octets → lines ≡ output.lines
    → IsKeptFrame planned old s octets new output → Comes planned cfn layer s old new lines
kept_comes planned cfn layer s octets old new output lines iub reported k =
    let back : IsReadBack Down planned.config.downlink.side s cfn k.cfn 0 0 iub.held k.held = one_reading planned.config Down s cfn 0 k.cfn 0 octets iub.held k.held iub.written.read k.read in
    record {
      active = ap (λ (x : NodeBState). x.planned) k.state;
      given = ap (λ (x : NodeBState). x.given) k.state;
      same_cfn = ap (λ (x : NodeBState). x.cfn) k.state;
      frames = ap (λ (x : NodeBState). x.frames) k.state;
      others = λ j e. ap (λ (x : NodeBState). x.kept j) k.state ∙ keeps_other s j _ old e;
      quiet = reported ∙ ap (λ (o : Output). o.lines) k.quiet;
      held = λ on. record {
        frame = _;
        is = ap (λ (x : NodeBState). x.kept s) k.state ∙ keeps_here s _ old;
        named = back.cfn;
        blocks = λ i inside member.
            let channel : Trch = channel_at planned.config.downlink.side i in
            let has : HasFormat channel (held_at iub.held.blocks i) = iub.written.read.formats i inside member in
            let given = iub.given i inside member in
            record {
              format = (back.ttis i inside member).format ∙ given.format;
              bits = same_bits channel (held_at iub.held.blocks i) (held_at k.held.blocks i) has (k.read.formats i inside member) (back.ttis i inside member) ∙ given.bits;
              whole = ap length (sym given.bits) ∙ has.long ∙ ap (λ f. bits_of (format_at channel f)) given.format;
            };
      };
    }

pub comes : (planned : Planned) (cfn : ℕ) (layer : Layer) (s : ℕ) (o : Option (List ℕ)) (old new : NodeBState) (lines : List Line) → old.planned ≡ planned → IsSent planned.config cfn layer s o → MayArrive s o old new lines → Comes planned cfn layer s old new lines
comes planned cfn layer s None old new lines active sent m = record {
  active = ap (λ (x : NodeBState). x.planned) m.0;
  given = ap (λ (x : NodeBState). x.given) m.0;
  same_cfn = ap (λ (x : NodeBState). x.cfn) m.0;
  frames = ap (λ (x : NodeBState). x.frames) m.0;
  others = λ k e. ap (λ (x : NodeBState). x.kept k) m.0;
  quiet = m.1;
  held = λ on. let off : starts (set_frames planned.config.downlink.side s) cfn ≡ false = sent in absurd (cc);
}
comes planned cfn layer s (Some octets) old new lines active sent m =
    let iub : IsDownlinkFrame planned.config cfn layer s octets = sent.1 in
    let step : IsArrival planned old s octets new m.output = subst (λ (p : Planned). IsArrival p old s octets new m.output) active m.step in
    elim step [
      | inl k ↦ kept_comes planned cfn layer s octets old new m.output lines iub m.reported k
      | inr r ↦ absurd (no_form planned.config Down s octets r.error r.cause cfn 0 iub.held iub.written.read)
    ]

-- the combinations of a downlink TTI may be any
abbrev pub AnyLast : ℕ → Type 0
AnyLast c = Unit {0}

abbrev pub AnyStep : ℕ → ℕ → ℕ → Type 0
AnyStep m c d = Unit {0}

-- what is loaded of channel i, and the first radio frames of its TTI, which came
abbrev pub DownLoaded : Planned → ℕ → Given → Loaded → Type 0
DownLoaded planned i given loaded = IsLoaded planned i given.format (joined_bits given.blocks) loaded

abbrev pub DownHalf : Planned → ℕ → Given → ℕ → (ℕ → Option Radio) → ℕ → Type 0
DownHalf planned i given cfn frames count = Half (channel_at planned.config.downlink.side i).frames (DownLoaded planned i given) (IsSentRadio planned Down (multiplexed planned) i) AnyLast AnyStep cfn frames count

-- all of them came, so the TTI is one that was sent
pub whole_sent : (planned : Planned) (i cfn count : ℕ) (given : Given) (frames : ℕ → Option Radio) (reader : RxFrames) → length planned.config.downlink.side.combinations ≤ 128 → AreHeard planned Down cfn frames reader → DownHalf planned i given cfn frames count
    → count ≡ (channel_at planned.config.downlink.side i).frames → length (joined_bits given.blocks) ≡ bits_of (format_at (channel_at planned.config.downlink.side i) given.format) → WasSent planned reader i given.format (joined_bits given.blocks)
whole_sent planned i cfn count given frames reader few heard half all whole = record {
  sequence = map half.sequence (range_with_len 0 (channel_at planned.config.downlink.side i).frames);
  sent = record {
    loaded = half.loaded;
    from = half.from;
    whole = whole;
    frames = all_sent planned Down (multiplexed planned) i cfn count (DownLoaded planned i given) AnyLast AnyStep frames reader few heard half all;
  };
}

-- what is read of a TTI that ends
pub reads_back : (planned : Planned) (cfn : ℕ) (frames : ℕ → Option Radio) (i : ℕ) (given : Given) (reader : RxFrames) (r : Reading) → IsPlanned planned → i < length planned.config.downlink.side.channels → AreHeard planned Down cfn frames reader
    → WasSent planned reader i given.format (joined_bits given.blocks) → AreSized (format_at (channel_at planned.config.downlink.side i) given.format).size given.blocks
    → ends (channel_at planned.config.downlink.side i).frames reader.cfn ≡ true → IsReading planned reader i r → (good_in r ≡ given.blocks) × IsClean r
reads_back planned cfn frames i given reader Nothing good inside heard was sized over is = let off : ends (channel_at planned.config.downlink.side i).frames reader.cfn ≡ false = is in absurd (cc)
reads_back planned cfn frames i given reader (Bad frame) good inside heard was sized over is =
    absurd ((downlink_sent planned cfn frames reader i given.format (joined_bits given.blocks) good heard inside was).good frame is.1)
reads_back planned cfn frames i given reader (Read held) good inside heard was sized over is =
    let channel : Trch = channel_at planned.config.downlink.side i in
    let read : IsTtiRead planned reader i held = is.1 in
    let sent : IsReadAsSent planned Down (IsTtiRead planned) reader i given.format (joined_bits given.blocks) = downlink_sent planned cfn frames reader i given.format (joined_bits given.blocks) good heard inside was in
    let arrives = sent.arrives held read in
    let same : held.format ≡ given.format = sent.number held read in
    let size : held.size ≡ (format_at channel given.format).size = read.blocks.sized ∙ ap (λ f. (format_at channel f).size) same in
    let count : length held.good ≡ (format_at channel given.format).number = read.blocks.counted ∙ ap (λ f. (format_at channel f).number) same in
    (arrive_good held (format_at channel given.format).size (format_at channel given.format).number given.blocks size count was.sent.whole sized arrives, arrives.good)

-- or goes on
pub reads_nothing : (planned : Planned) (i : ℕ) (reader : RxFrames) (r : Reading) → ends (channel_at planned.config.downlink.side i).frames reader.cfn ≡ false → IsReading planned reader i r → (good_in r ≡ []) × IsClean r
reads_nothing planned i reader Nothing off is = (refl, tt)
reads_nothing planned i reader (Read held) off is = let on : ends (channel_at planned.config.downlink.side i).frames reader.cfn ≡ true = is.0 in absurd (cc)
reads_nothing planned i reader (Bad frame) off is = let on : ends (channel_at planned.config.downlink.side i).frames reader.cfn ≡ true = is.0 in absurd (cc)
