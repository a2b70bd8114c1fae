-- The uplink of a radio frame in which no damage has an effect, part by part.
use Rattle.std.proofs.Common.{◌≡◌, ◌<◌, ◌≤◌, ◌+◌, ◌-◌, ◌/◌, ◌%◌, ◌∙◌, ℕ, zero, suc, List, length, false, Option, Some, arith, sym, ap, subst, inl, inr}
use Rattle.std.specs.Prelude.{IsTrue, map, slice_index, slice_index_or}
use Rattle.std.specs.List.{range_with_len}
use Rattle.std.proofs.lemmas.Bool.{cases_lt}
use Rattle.std.proofs.lemmas.List.FromFn.{get_or-map-range_with_len, length-map-range_with_len}
use Rattle.dch_types.specs.declared.channel.Dir.TheVariants.{Up}
use Rattle.dch_types.specs.declared.channel.Side.{Side}
use Rattle.dch_types.specs.declared.channel.Trch.{Trch}
use Rattle.dch_types.specs.Limits.{IsFrames, IsSide}
use Rattle.dch_types.specs.Parts.{channel_at, format_at, format_number}
use Rattle.dch_accept.specs.Blocks.{Held, bits_of}
use Rattle.dch_accept.specs.HeldSets.{HasFormat}
use Rattle.dch_accept.specs.Plans.{IsPlanned, Planned}
use Rattle.dch_tti.specs.Received.{ArrivesAs}
use Rattle.dch_tti.specs.RxFrames.{RxFrames}
use Rattle.dch_tti.specs.Loaded.{Loaded}
use Rattle.dch_ulphy.specs.Frames.{multiplexed}
use Rattle.dch_ulphy.specs.Loaded.{IsLoaded}
use Rattle.dch_ulphy.specs.Read.{IsTtiRead}
use Rattle.dch_ulphy.specs.Sent.{WasSent}
use Rattle.dch_iub.specs.Back.{IsSameTti}
use Rattle.dch_node.specs.RxFrames.{AreHeard}
use Rattle.dch_node.specs.Values.{Radio}
use Rattle.dch_layer2.specs.Layers.{Given}
use Rattle.dch_layer2.specs.Joined.{joined_bits}
use Rattle.dch_layer2.specs.Reading.{Read}
use Rattle.dch_linkcmd.specs.Checks.{good_in}
use Rattle.dch_runlaw.specs.SentRead.{IsReadAsSent}
use Rattle.dch_runlaw.proofs.UplinkSent.{uplink_sent}
use Rattle.dch_runlaw.specs.Sized.{AreSized}
use Rattle.dch_runlaw.proofs.ClearBlocks.{arrive_good}
use Rattle.dch_node.proofs.IubFrames.{same_bits}
use Rattle.dch_runlaw.proofs.ClearSent.{IsSentRadio, all_sent}
use Rattle.dch_runlaw.proofs.ClearTtis.{Half, by_four}

-- a channel keeps its format from one combination to the next, unless its TTI starts between them
abbrev pub KeepsFormats : Side → ℕ → ℕ → ℕ → Type 0
KeepsFormats side m c d = (j : ℕ) → j < length side.channels → (m % (channel_at side j).frames ≡ 0 → ⊥) → format_number side c j ≡ format_number side d j

-- what is loaded of channel i, and the first radio frames of its TTI, which came; R says what the combination of the last one is
abbrev pub UpLoaded : Planned → ℕ → Given → Loaded → Type 0
UpLoaded planned i given loaded = IsLoaded planned i given.format (joined_bits given.blocks) loaded

abbrev pub UpHalf : Planned → ℕ → Given → (ℕ → Type 0) → ℕ → (ℕ → Option Radio) → ℕ → Type 0
UpHalf planned i given R cfn frames count = Half (channel_at planned.config.uplink.side i).frames (UpLoaded planned i given) (IsSentRadio planned Up (multiplexed planned) i) R (KeepsFormats planned.config.uplink.side) cfn frames count

-- formats stay within a TTI
stays_down : (f n d : ℕ) → IsFrames f → n / f ≡ (n + (d + 1)) / f → (n / f ≡ (n + d) / f) × ((n + d + 1) % f ≡ 0 → ⊥)
stays_down f n d is = by_four f (λ f. n / f ≡ (n + (d + 1)) / f → (n / f ≡ (n + d) / f) × ((n + d + 1) % f ≡ 0 → ⊥)) is
    (λ e. absurd (omega (arith, e)))
    (λ e. (omega (arith, e), λ z. omega (arith, e, z)))
    (λ e. (omega (arith, e), λ z. omega (arith, e, z)))
    (λ e. (omega (arith, e), λ z. omega (arith, e, z)))

stays : (side : Side) (s : ℕ → ℕ) (count j n d : ℕ) → IsSide side → ((m : ℕ) → m + 1 < count → KeepsFormats side (m + 1) (s m) (s (m + 1))) → j < length side.channels → n + d < count → n / (channel_at side j).frames ≡ (n + d) / (channel_at side j).frames
    → format_number side (s n) j ≡ format_number side (s (n + d)) j
stays side s count j n zero good steps channel inside e = ap (λ k. format_number side (s k) j) (omega arith)
stays side s count j n (suc d) good steps channel inside e =
    let f : ℕ = (channel_at side j).frames in
    let next : suc d ≡ d + 1 = omega arith in
    let down = stays_down f n d (good.channels j channel).frames (e ∙ ap (λ k. (n + k) / f) next) in
    let place : n + d + 1 ≡ n + suc d = omega arith in
    stays side s count j n d good steps channel (omega (arith, inside)) down.0
    ∙ steps (n + d) (omega (arith, inside)) j channel down.1
    ∙ ap (λ k. format_number side (s k) j) place

constant_of : (side : Side) (s : ℕ → ℕ) (count j n m : ℕ) → IsSide side → ((m : ℕ) → m + 1 < count → KeepsFormats side (m + 1) (s m) (s (m + 1))) → j < length side.channels → n < count → m < count → n / (channel_at side j).frames ≡ m / (channel_at side j).frames
    → format_number side (s n) j ≡ format_number side (s m) j
constant_of side s count j n m good steps channel inside within e = elim (cases_lt n m) [
  | inl before ↦ forth n m (omega (arith, before)) within e
  | inr after ↦ sym (forth m n after inside (sym e))
]
  where
    forth : (a b : ℕ) → a ≤ b → b < count → a / (channel_at side j).frames ≡ b / (channel_at side j).frames → format_number side (s a) j ≡ format_number side (s b) j
    forth a b le inside same =
        let d : ℕ = b - a in
        let back : a + d ≡ b = omega (arith, le) in
        stays side s count j a d good steps channel (omega (arith, inside, back)) (same ∙ ap (λ k. k / (channel_at side j).frames) (sym back)) ∙ ap (λ k. format_number side (s k) j) back

-- all frames of the TTI came, so it is one that was sent, under a legal sequence
pub whole_sent : (planned : Planned) (i cfn count : ℕ) (given : Given) (R : ℕ → Type 0) (frames : ℕ → Option Radio) (reader : RxFrames) → IsPlanned planned → i < length planned.config.uplink.side.channels → AreHeard planned Up cfn frames reader → (half : UpHalf planned i given R cfn frames count)
    → count ≡ (channel_at planned.config.uplink.side i).frames → length (joined_bits given.blocks) ≡ bits_of (format_at (channel_at planned.config.uplink.side i) given.format) → WasSent planned reader i given.format (joined_bits given.blocks)
whole_sent planned i cfn count given R frames reader good inside heard half all whole =
    record {
      sequence = listing;
      legal = record {
        whole = long;
        there = λ n early. subst (λ c. c < length side.combinations) (sym (at n (omega (arith, early, long)))) (half.sent n (omega (arith, early, long, all))).sent.listed;
        format = λ n early.
            ap (λ c. format_number side c i) (at n (omega (arith, early, long)))
            ∙ number n (omega (arith, early, long));
        constant = λ j n m channel early within e.
            ap (λ c. format_number side c j) (at n (omega (arith, early, long)))
            ∙ constant_of side half.sequence count j n m good.good.uplink.side half.steps channel (omega (arith, early, long, all)) (omega (arith, within, long, all)) e
            ∙ ap (λ c. format_number side c j) (sym (at m (omega (arith, within, long))));
      };
      sent = record {
        loaded = half.loaded;
        from = half.from;
        whole = whole;
        frames = all_sent planned Up (multiplexed planned) i cfn count (UpLoaded planned i given) R (KeepsFormats side) frames reader good.good.uplink.side.few_combinations heard half all;
      };
    }
  where
    side : Side
    side = planned.config.uplink.side

    f : ℕ
    f = (channel_at side i).frames

    listing : List ℕ
    listing = map half.sequence (range_with_len 0 f)

    long : length listing ≡ f
    long = length-map-range_with_len half.sequence 0 f

    at : (n : ℕ) → n < f → slice_index listing n ≡ half.sequence n
    at n early = get_or-map-range_with_len half.sequence 0 f n n 0 early (omega arith)

    number : (n : ℕ) → n < f → format_number side (half.sequence n) i ≡ given.format
    number n early =
        let s : IsSentRadio planned Up (multiplexed planned) i n (half.sequence n) half.loaded (half.sent n (omega (arith, early, all))).radio = (half.sent n (omega (arith, early, all))).sent in
        let both : Some (format_number side (half.sequence n) i) ≡ Some given.format = sym (s.formats i inside) ∙ ap (λ (loaded : Loaded). loaded.format) s.holds ∙ half.from.format in
        cc

-- what is read at the Node B, and again at the network controller
pub reads_back : (planned : Planned) (i : ℕ) (given : Given) (reader : RxFrames) (held other : Held) → IsPlanned planned → i < length planned.config.uplink.side.channels
    → WasSent planned reader i given.format (joined_bits given.blocks) → AreSized (format_at (channel_at planned.config.uplink.side i) given.format).size given.blocks
    → IsTtiRead planned reader i held → HasFormat (channel_at planned.config.uplink.side i) held → HasFormat (channel_at planned.config.uplink.side i) other → IsSameTti held other → other.good ≡ held.good
    → (good_in (Read other) ≡ given.blocks) × ((k : ℕ) → k < length other.good → IsTrue (slice_index_or other.good k false))
reads_back planned i given reader held other good inside was sized read has has_other same marks =
    let channel : Trch = channel_at planned.config.uplink.side i in
    let sent : IsReadAsSent planned Up (IsTtiRead planned) reader i given.format (joined_bits given.blocks) = uplink_sent planned reader i given.format (joined_bits given.blocks) good inside was in
    let arrives = sent.arrives held read in
    let number : held.format ≡ given.format = sent.number held read in
    let there : ArrivesAs (joined_bits given.blocks) other = record {
      same = same_bits channel held other has has_other same ∙ arrives.same;
      good = subst (λ goods. (k : ℕ) → k < length goods → IsTrue (slice_index_or goods k false)) (sym marks) arrives.good;
    } in
    let size : other.size ≡ (format_at channel given.format).size = same.size ∙ read.blocks.sized ∙ ap (λ f. (format_at channel f).size) number in
    let count : length other.good ≡ (format_at channel given.format).number = same.count ∙ read.blocks.counted ∙ ap (λ f. (format_at channel f).number) number in
    (arrive_good other (format_at channel given.format).size (format_at channel given.format).number given.blocks size count was.sent.whole sized there, there.good)
