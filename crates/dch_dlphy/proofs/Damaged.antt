-- What is read of a downlink TTI of which few cells are changed.
use Rattle.std.proofs.Common.{◌≡◌, ◌+◌, ◌<◌, ◌≤◌, ◌∙◌, ℕ, List, length, get_or, arith, ap, refl, sym, subst}
use Rattle.std.specs.Prelude.{Some, map, slice_index}
use Rattle.std.specs.List.{range_with_len}
use Rattle.std.proofs.lemmas.Nat.{mod_below}
use Rattle.std.proofs.lemmas.List.FromFn.{get_or-map-range_with_len, length-map-range_with_len}
use Rattle.dch_bits.specs.declared.bit.Bit.{Bit}
use Rattle.dch_bits.specs.declared.bit.Bit.TheVariants.{Zero}
use Rattle.dch_bits.specs.declared.bit.Trit.{Trit}
use Rattle.dch_bits.specs.declared.bit.Trit.TheVariants.{Off}
use Rattle.dch_bits.specs.declared.bit.Vote.{Vote}
use Rattle.dch_types.specs.declared.channel.Dir.TheVariants.{Down}
use Rattle.dch_types.specs.declared.channel.Side.{Side}
use Rattle.dch_types.specs.declared.channel.Trch.{Trch}
use Rattle.dch_types.specs.Limits.{IsFrames}
use Rattle.dch_types.specs.Parts.{channel_at, format_at}
use Rattle.dch_frame.specs.declared.pattern.Pattern.{Pattern}
use Rattle.dch_frame.specs.Patterns.{copies, copies_below}
use Rattle.dch_frame.specs.Votes.{copies_as_votes, votes_of}
use Rattle.dch_frame.proofs.Counts.{votes_of-shown}
use Rattle.dch_frame.proofs.KeptBits.{copies_inside}
use Rattle.dch_accept.specs.Blocks.{Held}
use Rattle.dch_accept.specs.Plans.{IsPlanned, Planned}
use Rattle.dch_tti.specs.Received.{ArrivesAs}
use Rattle.dch_tti.proofs.Arrived.{arrived_correctable}
use Rattle.dch_tti.proofs.Changed.{changed_among-none, changed_among-same, loses, lost_changed}
use Rattle.dch_tti.proofs.FewChanged.{correctable, none_changed}
use Rattle.dch_tti.specs.Damaged.{cell_at, changed_among}
use Rattle.dch_tti.specs.Formats.{AllGive}
use Rattle.dch_tti.specs.Read.{AreVotesOf, coded_in}
use Rattle.dch_tti.specs.RxFrames.{IsReaderOf, RxFrames, frame_at, tti_place}
use Rattle.dch_tti.proofs.Sent.{given_format}
use Rattle.dch_dlphy.specs.Damaged.{WasDamaged, tti_changes}
use Rattle.dch_dlphy.specs.Given.{gives_its_format}
use Rattle.dch_dlphy.specs.Loaded.{tti_cells}
use Rattle.dch_dlphy.specs.Read.{AreVotes, IsTtiRead, tti_cell, tti_pattern}
use Rattle.dch_dlphy.specs.Sent.{WasSent}
use Rattle.dch_dlphy.proofs.Arrived.{IsListed, cell_arrived, filled_kept}
use Rattle.dch_dlphy.proofs.Clear.{downlink_clear}

abbrev no_votes : Vote
no_votes = record { zeros = 0; ones = 0 }

-- the frames give the channel the format in which its blocks were sent
pub damaged_give : (planned : Planned) (reader : RxFrames) (i f : ℕ) (blocks : List Bit) → i < length planned.config.downlink.side.channels → WasDamaged planned reader i f blocks → AllGive planned.config.downlink.side reader i f
damaged_give planned reader i f blocks inside is = gives_its_format planned reader i f blocks is inside

-- the combinations of the kept radio frames of a TTI are in the list
abbrev pub AreListed : Planned → ℕ → RxFrames → Type 0
AreListed planned i reader =
    let side = planned.config.downlink.side in
    (n c : ℕ) → n < (channel_at side i).frames → (frame_at side reader i n).combination ≡ Some c → c < length side.combinations

pub opened_listed : (planned : Planned) (i : ℕ) (reader : RxFrames) → IsReaderOf planned Down reader → AreListed planned i reader
opened_listed planned i reader opened n c below found =
    (opened.each (tti_place reader.cfn (channel_at planned.config.downlink.side i).frames n) (mod_below _ 8 (omega arith))).listed c found

-- so are those in which its frames were sent
sent_listed : (planned : Planned) (reader : RxFrames) (i f : ℕ) (blocks : List Bit) (is : WasDamaged planned reader i f blocks) → AreListed planned i reader → IsListed planned i is.was.sequence
sent_listed planned reader i f blocks is listed n below = listed n (slice_index is.was.sequence n) below (is.combinations n below ∙ (is.was.sent.frames n below).found)

-- no more copies of a coded bit are lost than cells of it are changed
bit_lost : (planned : Planned) (reader : RxFrames) (i f : ℕ) (blocks : List Bit) (votes : List Vote) (is : WasDamaged planned reader i f blocks) (counted : AreVotes planned reader i f votes) → IsPlanned planned → i < length planned.config.downlink.side.channels → f < length (channel_at planned.config.downlink.side i).formats → AreListed planned i reader
    → length votes ≡ coded_in planned.config.downlink.side i f → (j : ℕ) → j < length votes
    → loses (copies (tti_pattern planned i f).kind j) (get_or votes j no_votes) (get_or is.was.sent.from.coded j Zero) ≤ tti_changes planned i f is.sent reader j
unfolding votes_of
bit_lost planned reader i f blocks votes is counted good inside there listed long j within =
    let pattern : Pattern = tti_pattern planned i f in
    let len : ℕ = tti_cells planned i f in
    let kept : ℕ = copies_below pattern.kind pattern.len in
    let coded : List Bit = is.was.sent.from.coded in
    let bit : Bit = get_or coded j Zero in
    let clean : List Trit = map (tti_cell planned is.sent i len) (range_with_len 0 kept) in
    let at : ℕ = copies_below pattern.kind j in
    let n : ℕ = copies pattern.kind j in
    let size : pattern.len ≡ coded_in planned.config.downlink.side i f = ap (λ (pattern : Pattern). pattern.len) ((good.downlink.rows i inside).matchings f there).pattern in
    let early : j < pattern.len = omega (arith, within, long, size) in
    let clean_at : (p : ℕ) → p < kept → get_or clean p Off ≡ tti_cell planned is.sent i len p = λ p below. get_or-map-range_with_len (tti_cell planned is.sent i len) 0 kept p p Off below (omega arith) in
    let whole : length clean ≡ kept = length-map-range_with_len (tti_cell planned is.sent i len) 0 kept in
    let first : votes_of pattern clean j ≡ copies_as_votes bit n =
    votes_of-shown pattern clean coded j whole (λ k below.
    clean_at k (omega (arith, below, whole))
    ∙ cell_arrived planned is.sent i f k is.was.sequence blocks is.was.sent good.good.downlink good.downlink (sent_listed planned reader i f blocks is listed) inside (omega (arith, below, whole, ((good.downlink.rows i inside).matchings f there).fits))
    ∙ filled_kept pattern coded k (omega (arith, below, whole))) early in
    let some : loses n (votes_of pattern counted.cells j) bit ≤ changed_among (cell_at clean) (cell_at counted.cells) at n = lost_changed clean counted.cells at n n bit first in
    let room : at + n ≤ kept = copies_inside pattern j early in
    let same : changed_among (cell_at clean) (cell_at counted.cells) at n ≡ tti_changes planned i f is.sent reader j =
    changed_among-same (cell_at clean) (cell_at counted.cells) (tti_cell planned is.sent i len) (tti_cell planned reader i len) at n
    (λ p below. clean_at p (omega (arith, below, room)))
    (λ p below. counted.kept.are p (omega (arith, below, room, counted.kept.kept))) in
    subst (λ (vote : Vote). loses n vote bit ≤ tti_changes planned i f is.sent reader j) (sym (counted.are j no_votes within)) (omega (arith, some, same))

-- so the code blocks of the TTI can be told
pub votes_told : (planned : Planned) (reader : RxFrames) (i f : ℕ) (blocks : List Bit) (votes : List Vote) → IsPlanned planned → i < length planned.config.downlink.side.channels → f < length (channel_at planned.config.downlink.side i).formats → AreListed planned i reader
    → length votes ≡ coded_in planned.config.downlink.side i f → AreVotes planned reader i f votes → WasDamaged planned reader i f blocks → AreVotesOf planned.config.downlink.side i f blocks votes
votes_told planned reader i f blocks votes good inside there listed long are is =
    let side : Side = planned.config.downlink.side in
    let sent : ℕ → ℕ = copies (tti_pattern planned i f).kind in record {
      whole = is.was.sent.whole;
      joined = is.was.sent.from.is.joined;
      are = is.was.sent.from.is.are;
      sent = sent;
      correctable = correctable side i f blocks votes sent (tti_changes planned i f is.sent reader) is.was.sent.from.coded is.was.sent.from.is long
          (bit_lost planned reader i f blocks votes is are good inside there listed long) is.few;
    }

-- and what is read is just what was sent
pub damaged_arrives : (planned : Planned) (reader : RxFrames) (i f : ℕ) (blocks : List Bit) (held : Held) → IsPlanned planned → i < length planned.config.downlink.side.channels → AreListed planned i reader → WasDamaged planned reader i f blocks → IsTtiRead planned reader i held
    → (held.format ≡ f) × ArrivesAs blocks held
damaged_arrives planned reader i f blocks held good inside listed is read =
    let side : Side = planned.config.downlink.side in
    let trch : Trch = channel_at side i in
    let g : ℕ = held.format in
    let frames : IsFrames trch.frames = (good.good.downlink.side.channels i inside).frames in
    let number : g ≡ f = given_format side reader i f g (damaged_give planned reader i f blocks inside is) (omega (arith, frames)) read.format in
    let short : length read.votes ≤ 131072 = omega (arith, read.long, ((good.good.downlink.side.channels i inside).formats g read.format.inside).bits) in
    let told : AreVotesOf side i g blocks read.votes = votes_told planned reader i g blocks read.votes good inside read.format.inside listed read.long read.are (subst (λ f. WasDamaged planned reader i f blocks) (sym number) is) in
    (number, arrived_correctable trch g (format_at trch g) read.votes held read.blocks read.long short blocks told.joined told.sent told.whole told.are told.correctable)

-- a TTI that is kept as it was sent is one of which no cell is changed
pub none_damaged : (planned : Planned) (reader : RxFrames) (i f : ℕ) (blocks : List Bit) → IsPlanned planned → i < length planned.config.downlink.side.channels → AreListed planned i reader → WasSent planned reader i f blocks → WasDamaged planned reader i f blocks
none_damaged planned reader i f blocks good inside listed was = record {
  sent = reader;
  was = was;
  combinations = λ n below. refl;
  few = none_changed planned.config.downlink.side i f (copies (tti_pattern planned i f).kind) _
      (downlink_clear planned reader i f was.sequence blocks good.good.downlink good.downlink (λ n below. listed n (slice_index was.sequence n) below (was.sent.frames n below).found) inside was.sent good.clear)
      (λ j. changed_among-none _ _ _);
}
