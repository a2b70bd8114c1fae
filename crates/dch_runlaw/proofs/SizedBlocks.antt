-- What a bearing keeps by the mode of its bearer, and the size of the blocks that it builds.
use Rattle.std.proofs.Common.{◌≡◌, ◌≢◌, ◌<◌, ◌≤◌, ◌+◌, ◌-◌, ◌*◌, ℕ, zero, suc, List, [], ◌∷◌, ◌++◌, Bool, cond, Option, Some, None, Result, Ok, Err, length, take, arith, refl, sym, ap, ◌∙◌, subst, ⊎_elim, length-append}
use Rattle.std.specs.Prelude.{◌==◌, min, nat_lt}
use Rattle.std.specs.List.{prefix_len}
use Rattle.std.proofs.lemmas.Bool.{cases_lt, cond_both, ltb-true}
use Rattle.std.proofs.lemmas.Bool.Decides.{nat_tests}
use Rattle.dch_bits.specs.declared.bit.Bit.{Bit}
use Rattle.dch_bits.specs.declared.offer.Offer.{Offer}
use Rattle.dch_bits.specs.declared.offer.Offer.TheVariants.{Accepted, Full, WrongSize}
use Rattle.dch_types.specs.declared.channel.Dir.{Dir}
use Rattle.dch_types.specs.declared.bearer.Bearer.{Bearer}
use Rattle.dch_types.specs.declared.bearer.Mode.{Mode}
use Rattle.dch_types.specs.declared.bearer.Mode.TheVariants.{Tm, Um, Am}
use Rattle.dch_types.specs.declared.config.Config.{Config}
use Rattle.dch_config.specs.Changes.{KeepsBearer}
use Rattle.dch_config.specs.Good.{IsGood}
use Rattle.dch_sar.specs.Filling.{AreSome, indicators_of}
use Rattle.dch_sar.proofs.Fronts.{some_more}
use Rattle.dch_sar.proofs.Placing.{IsPlaced, place, place_is}
use Rattle.dch_mac.specs.Field.{field_bits}
use Rattle.dch_rlcpdu.specs.Body.{padded}
use Rattle.dch_rlcpdu.specs.Indicators.{indicator_octets}
use Rattle.dch_rlcpdu.specs.Um.{um_reading}
use Rattle.dch_rlcpdu.proofs.Written.{length-padded}
use Rattle.dch_rlcpdu.specs.declared.um.UmView.{UmView}
use Rattle.dch_rlcpdu.specs.declared.handed.PduError.{PduError}
use Rattle.dch_rlctm.specs.Waiting.{Waiting, front_of}
use Rattle.dch_rlcum.specs.Receiving.{Receiving}
use Rattle.dch_rlcum.specs.Sending.{Sending, Units, after_offer, answer_of, carried, carried_by, closing, leading, left_by, indicators_in, pdu_of, room_of}
use Rattle.dch_rlcum.proofs.Marking.{Rise, place_octets, rise}
use Rattle.dch_layer2.specs.Bearings.{Bearing, Sends, Transparent, Unacknowledged, Acknowledged, after_answer, answers, bearer_in, block_bits, channel_of, ct_of, head_of, opened_bearing, opened_mode, pdu_octets, ticked}
use Rattle.dch_layer2.specs.Building.{Builds, Gives}
use Rattle.dch_layer2.specs.Hearing.{hears, hears_um}
use Rattle.dch_layer2.specs.Octets.{bits_of, block_of, field_for, octets_of}
use Rattle.dch_layer2.proofs.KeptBearings.{kept_octets}
use Rattle.dch_layer2.proofs.Good.{am_fits, no_field, um_fits}
use Rattle.dch_layer2.specs.Sharing.{HasBits, HaveBits}
use Rattle.dch_layer2.proofs.Bits.{given_bits, heard_bits, offered_bits, opened_bits, ticked_bits}
use Rattle.dch_layer2.proofs.Sums.{either, number_same}
use Rattle.dch_runlaw.specs.Sized.{AreSized}

-- a bearing has the mode of its bearer; the sender of the unacknowledged mode has the PDUs of its channel, and none of its units is empty
abbrev pub IsOfMode : Config → Dir → ℕ → Bearing → Type 0
IsOfMode config out b (Transparent w us) = (bearer_in config b).mode ≡ Tm
IsOfMode config out b (Unacknowledged s r) = ((bearer_in config b).mode ≡ Um) × ((s.sending.pdu ≡ pdu_octets config out b) × AreSome s.sending.units.lengths)
IsOfMode config out b (Acknowledged s r) = (bearer_in config b).mode ≡ Am

-- and the units that wait in the transparent mode have bits
pub record Fits (config : Config) (out : Dir) (b : ℕ) (bearing : Bearing) : Type 0 where
  pub mode : IsOfMode config out b bearing
  pub bits : HasBits bearing

-- at opening
opened_by : (config : Config) (out : Dir) (b : ℕ) (m : Mode) → (bearer_in config b).mode ≡ m → IsOfMode config out b (opened_mode config out b m)
opened_by config out b Tm e = e
opened_by config out b Um e = (e, (refl, tt))
opened_by config out b Am e = e

pub opened_fits : (config : Config) (out : Dir) (b : ℕ) → Fits config out b (opened_bearing config out b)
opened_fits config out b = record { mode = opened_by config out b (bearer_in config b).mode refl; bits = opened_bits config out b }

-- after an offer
record StaysSending (old new : Sending) : Type 0 where
  pdu : new.pdu ≡ old.pdu
  some : AreSome new.units.lengths

offered_sending : (octets : List ℕ) (s : Sending) (o : Offer) → o ≡ answer_of octets s → AreSome s.units.lengths → StaysSending s (after_offer o octets s)
offered_sending octets s Accepted e a = record { pdu = refl; some = some_more s.units.lengths (length octets ∷ []) a (size, tt) }
  where
    size : 0 < length octets
    size = grind (arith, nat_tests, e)
offered_sending octets s Full e a = record { pdu = refl; some = a }
offered_sending octets s WrongSize e a = record { pdu = refl; some = a }

offered_mode : (config : Config) (out : Dir) (b : ℕ) (octets : List ℕ) (bits : List Bit) (bearing : Bearing) → IsOfMode config out b bearing → IsOfMode config out b (after_answer (answers config out b octets bits bearing) octets bits bearing)
offered_mode config out b octets bits (Transparent w us) f = f
offered_mode config out b octets bits (Unacknowledged s r) f =
    let t = offered_sending octets s.sending (answer_of octets s.sending) refl f.1.1 in
    (f.0, (t.pdu ∙ f.1.0, t.some))
offered_mode config out b octets bits (Acknowledged s r) f = f

pub offered_fits : (config : Config) (out : Dir) (b : ℕ) (octets : List ℕ) (bits : List Bit) (bearing : Bearing) → Fits config out b bearing → Fits config out b (after_answer (answers config out b octets bits bearing) octets bits bearing)
offered_fits config out b octets bits bearing f = record { mode = offered_mode config out b octets bits bearing f.mode; bits = offered_bits config out b octets bits bearing f.bits }

-- after a tick
ticked_mode : (config : Config) (out : Dir) (b : ℕ) (bearing : Bearing) → IsOfMode config out b bearing → IsOfMode config out b (ticked config b bearing)
ticked_mode config out b (Transparent w us) f = f
ticked_mode config out b (Unacknowledged s r) f = f
ticked_mode config out b (Acknowledged s r) f = f

pub ticked_fits : (config : Config) (out : Dir) (b : ℕ) (bearing : Bearing) → Fits config out b bearing → Fits config out b (ticked config b bearing)
ticked_fits config out b bearing f = record { mode = ticked_mode config out b bearing f.mode; bits = ticked_bits config b bearing f.bits }

-- after a block came
um_mode : (config : Config) (out into : Dir) (b : ℕ) (v : Result UmView PduError) (s : Sends) (r : Receiving) → IsOfMode config out b (Unacknowledged s r) → IsOfMode config out b (hears_um into b v s r).bearing
um_mode config out into b (Ok view) s r f = f
um_mode config out into b (Err e) s r f = f

heard_mode : (config : Config) (out into : Dir) (b : ℕ) (bits : List Bit) (bearing : Bearing) → IsOfMode config out b bearing → IsOfMode config out b (hears config into b bits bearing).bearing
heard_mode config out into b bits (Transparent w us) f = f
heard_mode config out into b bits (Unacknowledged s r) f = um_mode config out into b (um_reading (octets_of bits)) s r f
heard_mode config out into b bits (Acknowledged s r) f = f

pub heard_fits : (config : Config) (out into : Dir) (b : ℕ) (bits : List Bit) (bearing : Bearing) → Fits config out b bearing → Fits config out b (hears config into b bits bearing).bearing
heard_fits config out into b bits bearing f = record { mode = heard_mode config out into b bits bearing f.mode; bits = heard_bits config into b bits bearing f.bits }

-- after a block was built
some_left : (room sent : ℕ) (ns : List ℕ) → AreSome ns → AreSome (left_by room sent ns).lengths
some_left room sent [] a = tt
some_left room sent (n ∷ ns) a = either (nat_lt n room)
    (λ e. rw e (some_left (room - n - 1) 0 ns a.1))
    (λ e. either (n == room)
    (λ f. rw (e, f) a.1)
    (λ f. let more : 0 < n - room = grind (arith, nat_tests) in rw (e, f) (more, a.1)))

built_mode : (config : Config) (out : Dir) (b : ℕ) (old next : Bearing) (block : List Bit) → Builds config out b old next block → IsOfMode config out b old → IsOfMode config out b next
built_mode config out b (Transparent w us) next block g f = subst (IsOfMode config out b) (sym g.next_is) f
built_mode config out b (Unacknowledged s r) next block g f = subst (IsOfMode config out b) (sym g.next_is) (f.0, (f.1.0, some_left (room_of s.sending.pdu s.sending.mark_start s.sending.units) s.sending.units.sent s.sending.units.lengths f.1.1))
built_mode config out b (Acknowledged s r) next block g f = subst (IsOfMode config out b) (sym g.next_is) f

gives_mode : (config : Config) (out : Dir) (b n : ℕ) (old new : Bearing) (blocks : List (List Bit)) → Gives config out b n old new blocks → IsOfMode config out b old → IsOfMode config out b new
gives_mode config out b zero old new blocks g f = subst (IsOfMode config out b) (sym g.0) f
gives_mode config out b (suc n) old new blocks g f = gives_mode config out b n g.next new g.rest g.later (built_mode config out b old g.next g.block g.first f)

pub gives_fits : (config : Config) (out : Dir) (b n : ℕ) (old new : Bearing) (blocks : List (List Bit)) → Gives config out b n old new blocks → Fits config out b old → Fits config out b new
gives_fits config out b n old new blocks g f = record { mode = gives_mode config out b n old new blocks g f.mode; bits = given_bits config out b n old new blocks g f.bits }

pub gives_count : (config : Config) (out : Dir) (b n : ℕ) (old new : Bearing) (blocks : List (List Bit)) → Gives config out b n old new blocks → length blocks ≡ n
gives_count config out b zero old new blocks g = ap length g.1
gives_count config out b (suc n) old new blocks g = ap length g.all ∙ ap suc (gives_count config out b n g.next new g.rest g.later)

-- the size of a PDU's block
length-octets : (xs : List ℕ) → length (bits_of xs) ≡ 8 * length xs
length-octets [] = refl
length-octets (x ∷ xs) = omega (arith, length-octets xs)

length-field : (ct : Option ℕ) (bits : List Bit) → length (field_for ct ++ bits) ≡ field_bits ct + length bits
length-field None bits = omega arith
length-field (Some c) bits = omega arith

length-indicators : (ms : List ℕ) → length (indicator_octets ms) ≡ length ms
length-indicators [] = refl
length-indicators (m ∷ ms) = ap suc (length-indicators ms)

length-take_le : (n : ℕ) (xs : List ℕ) → length (take n xs) ≤ n
length-take_le zero xs = omega arith
length-take_le (suc n) [] = omega arith
length-take_le (suc n) (x ∷ xs) = omega (arith, length-take_le n xs)

few_leading : (mark_start : Bool) (u : Units) → length (leading mark_start u) ≤ 1
few_leading mark_start u =
    cond_both (nat_lt 0 u.owed) (0 ∷ []) _ (λ (l : List ℕ). length l ≤ 1) (λ owed. omega arith)
    (λ none. cond_both {A = List ℕ} _ (124 ∷ []) [] (λ (l : List ℕ). length l ≤ 1) (λ starts. omega arith) (λ other. omega arith))

-- with the length indicator of padding, where octets are left
room_with : (pdu room o : ℕ) (lead ms : List ℕ) → length lead ≤ 1 → 3 ≤ pdu → room ≡ pdu - 1 - length lead → o + length ms ≤ room → 1 + length (lead ++ (ms ++ closing (o + length ms) room)) + o ≤ pdu
room_with pdu room o lead ms few some so spent =
    cond_both {A = List ℕ} (nat_lt (o + length ms) room) (127 ∷ []) [] (λ tail. 1 + length (lead ++ (ms ++ tail)) + o ≤ pdu)
    (λ less.
    let size : length (lead ++ (ms ++ 127 ∷ [])) ≡ length lead + (length ms + 1) = length-append lead (ms ++ 127 ∷ []) ∙ ap (λ n. length lead + n) (length-append ms (127 ∷ [])) in
    omega (arith, size, ltb-true (o + length ms) room less))
    (λ more.
    let size : length (lead ++ (ms ++ [])) ≡ length lead + (length ms + 0) = length-append lead (ms ++ []) ∙ ap (λ n. length lead + n) (length-append ms []) in
    omega (arith, size))

-- what the next PDU carries finds room with its length indicators
built_room : (pdu : ℕ) (mark_start : Bool) (u : Units) → AreSome u.lengths → 3 ≤ pdu → pdu ≤ 125 → 1 + length (indicators_in pdu mark_start u) + carried (room_of pdu mark_start u) u.lengths ≤ pdu
built_room pdu mark_start u some from most =
    let p : IsPlaced (room_of pdu mark_start u) 0 u.lengths (place (room_of pdu mark_start u) 0 u.lengths) = place_is (room_of pdu mark_start u) 0 u.lengths some in
    let o : (place (room_of pdu mark_start u) 0 u.lengths).octets ≡ carried (room_of pdu mark_start u) u.lengths = place_octets (room_of pdu mark_start u) 0 u.lengths ∙ omega arith in
    let ms : (place (room_of pdu mark_start u) 0 u.lengths).indicators ≡ indicators_of (room_of pdu mark_start u) 0 u.lengths (carried (room_of pdu mark_start u) u.lengths) = p.indicators ∙ ap (indicators_of (room_of pdu mark_start u) 0 u.lengths) o in
    let r : Rise 0 (place (room_of pdu mark_start u) 0 u.lengths).octets (place (room_of pdu mark_start u) 0 u.lengths) (room_of pdu mark_start u) = rise (room_of pdu mark_start u) 0 (place (room_of pdu mark_start u) 0 u.lengths).octets u.lengths some (omega arith) (omega arith) in
    let count : length (place (room_of pdu mark_start u) 0 u.lengths).indicators ≡ length (indicators_of (room_of pdu mark_start u) 0 u.lengths (carried (room_of pdu mark_start u) u.lengths)) = ap length ms in
    room_with pdu (room_of pdu mark_start u) (carried (room_of pdu mark_start u) u.lengths) (leading mark_start u) (indicators_of (room_of pdu mark_start u) 0 u.lengths (carried (room_of pdu mark_start u) u.lengths)) (few_leading mark_start u) from refl (omega (arith, r.spent, o, count))

long_pdu : (s : Sending) → AreSome s.units.lengths → 3 ≤ s.pdu → s.pdu ≤ 125 → length (pdu_of s) ≡ s.pdu
long_pdu s some low high =
    let room : 1 + length (indicators_in s.pdu s.mark_start s.units) + carried_by s ≤ s.pdu = built_room s.pdu s.mark_start s.units some low high in
    let few : length (take (carried_by s) s.row) ≤ carried_by s = length-take_le (carried_by s) s.row in
    let all = length-padded (s.pdu - 1 - length (indicators_in s.pdu s.mark_start s.units)) (take (carried_by s) s.row) (omega (arith, room, few)) in
    omega (arith, room, all, length-indicators (indicators_in s.pdu s.mark_start s.units), length-append (indicator_octets (indicators_in s.pdu s.mark_start s.units)) (padded (s.pdu - 1 - length (indicators_in s.pdu s.mark_start s.units)) (take (carried_by s) s.row)))

-- whole octets fill the blocks of a bearer of PDUs behind the field, and there is an octet
record AreFull (config : Config) (out : Dir) (b : ℕ) : Type 0 where
  whole : field_bits (ct_of config out b) + 8 * pdu_octets config out b ≡ block_bits config out b
  some : 0 < block_bits config out b

full_by : (config : Config) (out : Dir) (b i : ℕ) (m : Mode) → IsGood config → channel_of config out b ≡ Some i → (bearer_in config b).mode ≡ m → m ≢ Tm → AreFull config out b
full_by config out b i Tm good on e not = absurd (not refl)
full_by config out b i Um good on e not = let fits = um_fits config out b i good on e in record { whole = fits.whole; some = omega (arith, fits.whole, fits.least) }
full_by config out b i Am good on e not = let fits = am_fits config out b i good on e in record { whole = fits.whole; some = omega (arith, fits.whole, fits.least) }

full : (config : Config) (out : Dir) (b i : ℕ) → IsGood config → channel_of config out b ≡ Some i → (bearer_in config b).mode ≢ Tm → AreFull config out b
full config out b i good on not = full_by config out b i (bearer_in config b).mode good on refl not

long_block : (config : Config) (out : Dir) (b : ℕ) (octets : List ℕ) → AreFull config out b → length octets ≡ pdu_octets config out b → length (block_of (ct_of config out b) octets) ≡ block_bits config out b
long_block config out b octets are e =
    length-field (ct_of config out b) (bits_of octets) ∙ ap (λ n. field_bits (ct_of config out b) + n) (length-octets octets ∙ ap (λ n. 8 * n) e) ∙ are.whole

pdu_block : (config : Config) (out : Dir) (b i : ℕ) (old next : Bearing) (block : List Bit) → IsGood config → channel_of config out b ≡ Some i → (bearer_in config b).mode ≢ Tm → Builds config out b old next block → IsOfMode config out b old → length block ≡ block_bits config out b
pdu_block config out b i (Transparent w us) next block good on not g f = absurd (not f)
pdu_block config out b i (Unacknowledged s r) next block good on not g f =
    let um = um_fits config out b i good on f.0 in
    let long : length (pdu_of s.sending) ≡ s.sending.pdu = long_pdu s.sending f.1.1 (subst (λ n. 3 ≤ n) (sym f.1.0) um.least) (subst (λ n. n ≤ 125) (sym f.1.0) um.most) in
    ap length g.block_is ∙ long_block config out b (pdu_of s.sending) (full config out b i good on not) (long ∙ f.1.0)
pdu_block config out b i (Acknowledged s r) next block good on not g f = ap length g.block_is ∙ long_block config out b g.octets (full config out b i good on not) g.long

pdus_sized : (config : Config) (out : Dir) (b i n : ℕ) (old new : Bearing) (blocks : List (List Bit)) → IsGood config → channel_of config out b ≡ Some i → (bearer_in config b).mode ≢ Tm → Gives config out b n old new blocks → IsOfMode config out b old → AreSized (block_bits config out b) blocks
pdus_sized config out b i zero old new blocks good on not g f = subst (AreSized (block_bits config out b)) (sym g.1) tt
pdus_sized config out b i (suc n) old new blocks good on not g f = subst (AreSized (block_bits config out b)) (sym g.all)
    (pdu_block config out b i old g.next g.block good on not g.first f, (full config out b i good on not).some, pdus_sized config out b i n g.next new g.rest good on not g.later (built_mode config out b old g.next g.block g.first f))

-- and those of the units in front that have a size
units_sized : (config : Config) (out : Dir) (b n size : ℕ) (w : Waiting) (us : List (List Bit)) (old new : Bearing) (blocks : List (List Bit)) → ct_of config out b ≡ None → 0 < size → old ≡ Transparent w us → n ≤ prefix_len (λ v. length v == size) w.units → Gives config out b n old new blocks → AreSized size blocks
units_sized config out b zero size w us old new blocks none some e l g = subst (AreSized size) (sym g.1) tt
units_sized config out b (suc n) size w us old new blocks none some e l g =
    let built : Builds config out b (Transparent w us) g.next g.block = subst (λ x. Builds config out b x g.next g.block) e g.first in
    let front : suc n ≤ prefix_len (λ v. length v == size) (built.unit ∷ built.later) = subst (λ x. suc n ≤ prefix_len (λ v. length v == size) x) built.units l in
    let block : length g.block ≡ length built.unit = ap length built.block_is ∙ ap (λ c. length (field_for c ++ built.unit)) none in
    subst (AreSized size) (sym g.all) (either (length built.unit == size)
    (λ q. let more : n ≤ prefix_len (λ v. length v == size) built.later = omega (arith, front, ap (λ c. cond c (1 + prefix_len (λ v. length v == size) built.later) 0) q) in
    (block ∙ number_same (length built.unit) size q, some, units_sized config out b n size (record w { units = built.later }) us g.next new g.rest none some built.next_is more g.later))
    (λ q. absurd (omega (arith, front, ap (λ c. cond c (1 + prefix_len (λ v. length v == size) built.later) 0) q))))

front_sized : (config : Config) (out : Dir) (b n : ℕ) (w : Waiting) (us : List (List Bit)) (units : List (List Bit)) (new : Bearing) (blocks : List (List Bit)) → w.units ≡ units → HaveBits units → ct_of config out b ≡ None → n ≤ (front_of units).1 → Gives config out b n (Transparent w us) new blocks → AreSized (front_of units).0 blocks
front_sized config out b n w us (u ∷ later) new blocks e h none l g = units_sized config out b n (length u) w us (Transparent w us) new blocks none h.0 refl (subst (λ x. n ≤ prefix_len (λ v. length v == length u) x) (sym e) (at_most n (prefix_len (λ v. length v == length u) (u ∷ later)) l)) g
  where
    at_most : (n k : ℕ) → n ≤ min 64 k → n ≤ k
    at_most n k l = grind (arith, nat_tests, l)
front_sized config out b zero w us [] new blocks e h none l g = subst (AreSized 0) (sym g.1) tt
front_sized config out b (suc n) w us [] new blocks e h none l g = absurd (omega (arith, l))

-- blocks have the size that was offered
pub gives_sized : (config : Config) (out : Dir) (b i n : ℕ) (old new : Bearing) (blocks : List (List Bit)) → IsGood config → channel_of config out b ≡ Some i → Fits config out b old → n ≤ (head_of config out b old).count → Gives config out b n old new blocks → AreSized (head_of config out b old).size blocks
gives_sized config out b i n (Transparent w us) new blocks good on f l g = front_sized config out b n w us w.units new blocks refl f.bits.units (no_field config out b (Some i) good on f.mode) l g
gives_sized config out b i n (Unacknowledged s r) new blocks good on f l g = pdus_sized config out b i n (Unacknowledged s r) new blocks good on (λ t. let x : ◌≡◌ {A = Mode} Um Tm = sym f.mode.0 ∙ t in absurd (cc)) g f.mode
gives_sized config out b i n (Acknowledged s r) new blocks good on f l g = pdus_sized config out b i n (Acknowledged s r) new blocks good on (λ t. let x : ◌≡◌ {A = Mode} Am Tm = sym f.mode ∙ t in absurd (cc)) g f.mode

-- where another configuration becomes active, in which a bearer is kept, it fits there
none_at : (config : Config) (xs : List Bearer) (b : ℕ) → length xs ≤ b → (bearer_in (record config { bearers = xs }) b).mode ≡ Am
none_at config [] b l = refl
none_at config (x ∷ xs) zero l = absurd (omega (arith, l))
none_at config (x ∷ xs) (suc b) l = none_at config xs b (omega (arith, l))

kept_none : (first second : Config) (b : ℕ) → KeepsBearer first second b → length first.bearers ≤ b → length second.bearers ≤ b
kept_none first second b keeps l = ⊎_elim (λ (k : b < length second.bearers). (let there : b < length first.bearers = keeps.there.1 k in absurd (omega (arith, l, there)))) (λ (k : length second.bearers ≤ b). k) (cases_lt b (length second.bearers))

kept_mode : (first second : Config) (b : ℕ) → KeepsBearer first second b → (bearer_in second b).mode ≡ (bearer_in first b).mode
kept_mode first second b keeps = ⊎_elim
    (λ (l : b < length first.bearers). sym (keeps.same l).alike.mode)
    (λ (l : length first.bearers ≤ b). none_at second second.bearers b (kept_none first second b keeps l) ∙ sym (none_at first first.bearers b l))
    (cases_lt b (length first.bearers))

kept_pdus : (first second : Config) (out : Dir) (b : ℕ) → KeepsBearer first second b → (bearer_in first b).mode ≡ Um → pdu_octets second out b ≡ pdu_octets first out b
kept_pdus first second out b keeps mode = ⊎_elim
    (λ (l : b < length first.bearers). kept_octets first second out b (keeps.same l) (λ t. let x : ◌≡◌ {A = Mode} Um Tm = sym mode ∙ t in absurd (cc)))
    (λ (l : length first.bearers ≤ b). (let x : ◌≡◌ {A = Mode} Am Um = sym (none_at first first.bearers b l) ∙ mode in absurd (cc)))
    (cases_lt b (length first.bearers))

kept_of : (first second : Config) (out : Dir) (b : ℕ) (bearing : Bearing) → KeepsBearer first second b → IsOfMode first out b bearing → IsOfMode second out b bearing
kept_of first second out b (Transparent w us) keeps f = kept_mode first second b keeps ∙ f
kept_of first second out b (Unacknowledged s r) keeps f = (kept_mode first second b keeps ∙ f.0, (f.1.0 ∙ sym (kept_pdus first second out b keeps f.0), f.1.1))
kept_of first second out b (Acknowledged s r) keeps f = kept_mode first second b keeps ∙ f

pub kept_fits : (first second : Config) (out : Dir) (b : ℕ) (bearing : Bearing) → KeepsBearer first second b → Fits first out b bearing → Fits second out b bearing
kept_fits first second out b bearing keeps f = record { mode = kept_of first second out b bearing keeps f.mode; bits = f.bits }
