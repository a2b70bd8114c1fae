-- What is read of an uplink TTI of which few cells are changed.
use Rattle.std.proofs.Common.{◌≡◌, ◌<◌, ◌≤◌, ◌∙◌, ℕ, List, length, get_or, arith, refl, ap, sym, subst}
use Rattle.std.specs.Prelude.{slice_index}
use Rattle.std.specs.Int.{div_ceil}
use Rattle.std.proofs.lemmas.Grind.{div_ceil_times}
use Rattle.dch_bits.specs.declared.bit.Bit.{Bit}
use Rattle.dch_bits.specs.declared.bit.Bit.TheVariants.{Zero}
use Rattle.dch_bits.specs.declared.bit.Vote.{Vote}
use Rattle.dch_types.specs.declared.channel.Side.{Side}
use Rattle.dch_types.specs.declared.channel.Trch.{Trch}
use Rattle.dch_types.specs.Limits.{IsFrames}
use Rattle.dch_types.specs.Parts.{channel_at, format_at}
use Rattle.dch_inter.specs.Places.{frame_of, place_of}
use Rattle.dch_inter.proofs.FirstColumns.{frame_of-below}
use Rattle.dch_frame.specs.declared.pattern.Pattern.{Pattern}
use Rattle.dch_frame.specs.Patterns.{copies, copies_below}
use Rattle.dch_frame.specs.Votes.{copies_as_votes, votes_of}
use Rattle.dch_frame.proofs.Carried.{whole_rows}
use Rattle.dch_collision.specs.Copies.{bits_in, padded_in, uplink_copies}
use Rattle.dch_collision.specs.Plans.{plan_at}
use Rattle.dch_accept.specs.Blocks.{Held}
use Rattle.dch_accept.specs.Plans.{IsPlanned, Planned}
use Rattle.dch_tti.specs.Received.{ArrivesAs}
use Rattle.dch_tti.proofs.Arrived.{arrived_correctable}
use Rattle.dch_tti.proofs.Changed.{changed_among-none, loses, lost_changed}
use Rattle.dch_tti.proofs.FewChanged.{correctable, none_changed}
use Rattle.dch_tti.specs.Formats.{AllGive}
use Rattle.dch_tti.specs.Read.{AreVotesOf, coded_in}
use Rattle.dch_tti.specs.RxFrames.{RxFrames, frame_at}
use Rattle.dch_tti.proofs.Sent.{given_format}
use Rattle.dch_ulphy.specs.Damaged.{WasDamaged, tti_changes}
use Rattle.dch_ulphy.specs.Given.{gives_its_format}
use Rattle.dch_ulphy.specs.Read.{AreVotes, IsTtiRead, channel_cells, frame_votes, pattern_in, tti_votes}
use Rattle.dch_ulphy.specs.Sent.{WasSent}
use Rattle.dch_ulphy.proofs.Copies.{sent_votes}

abbrev no_votes : Vote
no_votes = record { zeros = 0; ones = 0 }

-- the frames give the channel the format in which its blocks were sent
pub damaged_give : (planned : Planned) (reader : RxFrames) (i f : ℕ) (blocks : List Bit) → i < length planned.config.uplink.side.channels → WasDamaged planned reader i f blocks → AllGive planned.config.uplink.side reader i f
damaged_give planned reader i f blocks inside is = gives_its_format planned reader i f blocks is inside

-- no more copies of a coded bit are lost than cells of it are changed
bit_lost : (planned : Planned) (reader : RxFrames) (i f : ℕ) (blocks : List Bit) (is : WasDamaged planned reader i f blocks) → IsPlanned planned → i < length planned.config.uplink.side.channels
    → (j : ℕ) → j < coded_in planned.config.uplink.side i f
    → loses (uplink_copies planned.config.uplink i f is.was.sequence j) (tti_votes planned reader i (padded_in planned.config.uplink.side i f) j) (get_or is.was.sent.from.coded j Zero)
    ≤ tti_changes planned i is.was.sequence is.sent reader (padded_in planned.config.uplink.side i f) j
unfolding votes_of
bit_lost planned reader i f blocks is good inside j within =
    let side : Side = planned.config.uplink.side in
    let trch : Trch = channel_at side i in
    let len : ℕ = padded_in side i f in
    let frames : IsFrames trch.frames = (good.good.uplink.side.channels i inside).frames in
    let some : 0 < trch.frames = omega (arith, frames) in
    let early : j < len = omega (arith, within, (div_ceil_times (bits_in side i f) trch.frames some).0) in
    let n : ℕ = frame_of trch.frames len j in
    let below : n < trch.frames = frame_of-below trch.frames len j frames (whole_rows trch.frames (div_ceil (bits_in side i f) trch.frames) len some refl) early in
    let c : ℕ = slice_index is.was.sequence n in
    let m : ℕ = place_of trch.frames len j in
    let pattern : Pattern = pattern_in planned i n c in
    let listed : (n : ℕ) → n < trch.frames → slice_index is.was.sequence n < length side.combinations = λ n below. is.was.legal.there n (omega (arith, below, is.was.legal.whole)) in
    let found = (is.was.sent.frames n below).found in
    let clean : votes_of pattern (channel_cells (plan_at planned.uplink c) i (frame_at side is.sent i n).cells) m ≡ copies_as_votes (get_or is.was.sent.from.coded j Zero) (uplink_copies planned.config.uplink i f is.was.sequence j) =
    sym (ap (λ combination. frame_votes planned i n combination (frame_at side is.sent i n).cells m) found)
    ∙ sent_votes planned is.sent i f is.was.sequence blocks is.was.sent good inside listed j within in
    subst (λ (vote : Vote). loses (uplink_copies planned.config.uplink i f is.was.sequence j) vote (get_or is.was.sent.from.coded j Zero) ≤ tti_changes planned i is.was.sequence is.sent reader len j)
    (sym (ap (λ combination. frame_votes planned i n combination (frame_at side reader i n).cells m) (is.combinations n below ∙ found)))
    (lost_changed (channel_cells (plan_at planned.uplink c) i (frame_at side is.sent i n).cells) (channel_cells (plan_at planned.uplink c) i (frame_at side reader i n).cells)
    (copies_below pattern.kind m) (copies pattern.kind m) (uplink_copies planned.config.uplink i f is.was.sequence j) (get_or is.was.sent.from.coded j Zero) clean)

-- so the code blocks of the TTI can be told
pub votes_told : (planned : Planned) (reader : RxFrames) (i f : ℕ) (blocks : List Bit) (votes : List Vote) → IsPlanned planned → i < length planned.config.uplink.side.channels → length votes ≡ coded_in planned.config.uplink.side i f → AreVotes planned reader i f votes
    → WasDamaged planned reader i f blocks → AreVotesOf planned.config.uplink.side i f blocks votes
votes_told planned reader i f blocks votes good inside long are is =
    let side : Side = planned.config.uplink.side in
    let copies : ℕ → ℕ = uplink_copies planned.config.uplink i f is.was.sequence in
    let changes : ℕ → ℕ = tti_changes planned i is.was.sequence is.sent reader (padded_in side i f) in
    let coded : List Bit = is.was.sent.from.coded in
    let each : (j : ℕ) → j < length votes → loses (copies j) (get_or votes j no_votes) (get_or coded j Zero) ≤ changes j = λ j there.
    subst (λ (vote : Vote). loses (copies j) vote (get_or coded j Zero) ≤ changes j) (sym (are j no_votes there)) (bit_lost planned reader i f blocks is good inside j (omega (arith, there, long))) in record {
      whole = is.was.sent.whole;
      joined = is.was.sent.from.is.joined;
      are = is.was.sent.from.is.are;
      sent = copies;
      correctable = correctable side i f blocks votes copies changes coded is.was.sent.from.is long each is.few;
    }

-- and what is read is just what was sent
pub damaged_arrives : (planned : Planned) (reader : RxFrames) (i f : ℕ) (blocks : List Bit) (held : Held) → IsPlanned planned → i < length planned.config.uplink.side.channels → WasDamaged planned reader i f blocks → IsTtiRead planned reader i held → (held.format ≡ f) × ArrivesAs blocks held
damaged_arrives planned reader i f blocks held good inside is read =
    let side : Side = planned.config.uplink.side in
    let trch : Trch = channel_at side i in
    let g : ℕ = held.format in
    let frames : IsFrames trch.frames = (good.good.uplink.side.channels i inside).frames in
    let number : g ≡ f = given_format side reader i f g (damaged_give planned reader i f blocks inside is) (omega (arith, frames)) read.format in
    let short : length read.votes ≤ 131072 = omega (arith, read.long, ((good.good.uplink.side.channels i inside).formats g read.format.inside).bits) in
    let told : AreVotesOf side i g blocks read.votes = votes_told planned reader i g blocks read.votes good inside read.long read.are (subst (λ f. WasDamaged planned reader i f blocks) (sym number) is) in
    (number, arrived_correctable trch g (format_at trch g) read.votes held read.blocks read.long short blocks told.joined told.sent told.whole told.are told.correctable)

-- a TTI that is kept as it was sent is one of which no cell is changed
pub none_damaged : (planned : Planned) (reader : RxFrames) (i f : ℕ) (blocks : List Bit) → IsPlanned planned → i < length planned.config.uplink.side.channels → WasSent planned reader i f blocks → WasDamaged planned reader i f blocks
none_damaged planned reader i f blocks good inside was = record {
  sent = reader;
  was = was;
  combinations = λ n below. refl;
  few = none_changed planned.config.uplink.side i f (uplink_copies planned.config.uplink i f was.sequence) _ (good.clear.up i inside f was.sequence was.legal) (λ j. changed_among-none _ _ _);
}
