-- What the calls of a bearer, mode by mode, make of what layer 2 keeps of it.
use Rattle.std.proofs.Common.{◌≡◌, ◌<◌, ◌++◌, ◌∙◌, ℕ, suc, List, [], ◌∷◌, Bool, true, false, cond, Option, Some, None, Result, Ok, Err, length, arith, refl, sym, ap, ap₂, subst}
use Rattle.std.specs.Prelude.{IsSome, nat_lt, option_map}
use Rattle.dch_bits.specs.declared.bit.Bit.{Bit}
use Rattle.dch_bits.specs.declared.offer.Offer.{Offer}
use Rattle.dch_bits.specs.declared.offer.Offer.TheVariants.{Accepted, Full, WrongSize}
use Rattle.dch_types.specs.declared.channel.Dir.{Dir}
use Rattle.dch_types.specs.declared.config.Config.{Config}
use Rattle.dch_indication.specs.Lines.{Line}
use Rattle.dch_indication.specs.Told.{Told}
use Rattle.dch_rlcpdu.specs.Am.{am_reading}
use Rattle.dch_rlcpdu.specs.Um.{um_reading}
use Rattle.dch_rlcpdu.specs.declared.handed.PduError.{PduError}
use Rattle.dch_rlcpdu.specs.declared.um.UmView.{UmView}
use Rattle.dch_rlctm.specs.Waiting.{Waiting, after_offer as after_unit, answer_of as unit_answer, front_of, is_size}
use Rattle.dch_rlcum.specs.Receiving.{Receiving}
use Rattle.dch_rlcum.specs.Sending.{Sending, Units, after_build, builds, is_unsent, no_units, pdu_of, units_after}
use Rattle.dch_am.specs.Discards.{tick_sender}
use Rattle.dch_am.specs.Entities.{IsWritten, offers_to_send, receiver_after, sender_after, turn}
use Rattle.dch_am.specs.Receiver.{Receiver}
use Rattle.dch_am.specs.Rules.{Rules}
use Rattle.dch_am.specs.Sender.{Sender, after_offer, offered}
use Rattle.dch_am.specs.Telling.{tick_receiver}
use Rattle.dch_mac.specs.declared.head.Head.{Head}
use Rattle.dch_layer2.specs.Bearings.{Bearing, Transparent, Unacknowledged, Acknowledged, Sends, after_answer, answers, channel_of, head_of, pdu_octets, rules_in, sizes_on, ticked}
use Rattle.dch_layer2.specs.Hearing.{hears, hears_um, receiver_of, sender_of}
use Rattle.dch_layer2.specs.Octets.{AreOctets, block_of, field_for, octets_of}
use Rattle.dch_layer2.proofs.Counting.{offers_kept}
use Rattle.dch_layer2.specs.Acknowledged.{AmRunning, BuildsAtTurn, HasSides, HasTurn, IsSameBearer, entity_of, lines_on}
use Rattle.dch_layer2.specs.BearerStanding.{Built, HaveSame, HoldsReceiving, HoldsSending, HoldsUnits, Represents, StandsAm, StandsTm, StandsUm}
use Rattle.dch_layer2.specs.BearerValues.{TmRunning, UmRunning, answer_at, count_of, due_in, heard_by, lines_in, lines_of, next_in, tm_after, tm_answer, tm_built, um_built, um_due, um_head, um_heard, um_lines, um_pdu, units_in, with_first}
use Rattle.dch_layer2.specs.declared.bearer.Bearer.TheVariants.{Tm, Um, Am}

-- the acknowledged mode
am_stands : (config : Config) (out into : Dir) (b : ℕ) (s now_s : Sender) (r now_r : Receiver) (v now : AmRunning) → StandsAm config out into b s r v → IsSameBearer v now → HasSides (rules_in config b) now_s now_r now → StandsAm config out into b now_s now_r now
am_stands config out into b s now_s r now_r v now is same sides = record {
  mode = is.mode;
  number = same.number ∙ is.number;
  comes_in = same.into ∙ is.comes_in;
  shape = same.shape ∙ is.shape;
  comes = same.comes ∙ is.comes;
  sides = sides;
}

pub am_ticks : (config : Config) (out into : Dir) (b : ℕ) (old : Bearing) (v now : AmRunning) → Represents config out into b old (Am v) →
    ((rules : Rules) (s : Sender) (r : Receiver) → HasSides rules s r v → HasSides rules (tick_sender rules s) (tick_receiver rules r) now) → IsSameBearer v now → Represents config out into b (ticked config b old) (Am now)
am_ticks config out into b (Transparent w us) v now is ticks same = absurd is
am_ticks config out into b (Unacknowledged s r) v now is ticks same = absurd is
am_ticks config out into b (Acknowledged s r) v now is ticks same = am_stands config out into b s (tick_sender (rules_in config b) s) r (tick_receiver (rules_in config b) r) v now is same (ticks (rules_in config b) s r is.sides)

pub am_answers : (config : Config) (out into : Dir) (b : ℕ) (old : Bearing) (v : AmRunning) (octets : List ℕ) (bits : List Bit) (o : Offer) → Represents config out into b old (Am v) →
    ((rules : Rules) (s : Sender) (r : Receiver) → HasSides rules s r v → o ≡ offered rules s octets) → o ≡ answers config out b octets bits old
am_answers config out into b (Transparent w us) v octets bits o is answer = absurd is
am_answers config out into b (Unacknowledged s r) v octets bits o is answer = absurd is
am_answers config out into b (Acknowledged s r) v octets bits o is answer = answer (rules_in config b) s r is.sides

pub am_offers : (config : Config) (out into : Dir) (b : ℕ) (old : Bearing) (v now : AmRunning) (octets : List ℕ) (bits : List Bit) → Represents config out into b old (Am v) →
    ((rules : Rules) (s : Sender) (r : Receiver) → HasSides rules s r v → HasSides rules (after_offer (offered rules s octets) s octets) r now) → IsSameBearer v now →
    Represents config out into b (after_answer (answers config out b octets bits old) octets bits old) (Am now)
am_offers config out into b (Transparent w us) v now octets bits is offers same = absurd is
am_offers config out into b (Unacknowledged s r) v now octets bits is offers same = absurd is
am_offers config out into b (Acknowledged s r) v now octets bits is offers same =
    am_stands config out into b s (after_offer (offered (rules_in config b) s octets) s octets) r r v now is same (offers (rules_in config b) s r is.sides)

pub am_head : (config : Config) (out into : Dir) (b : ℕ) (now : Bearing) (v : AmRunning) (h : Head) → Represents config out into b now (Am v) → h.size ≡ v.shape.bits →
    ((rules : Rules) (s : Sender) (r : Receiver) → HasSides rules s r v → h.count ≡ offers_to_send rules v.shape.octets (entity_of s r)) → h ≡ head_of config out b now
am_head config out into b (Transparent w us) v h is size count = absurd is
am_head config out into b (Unacknowledged s r) v h is size count = absurd is
am_head config out into b (Acknowledged s r) v h is size count =
    ap₂ (λ (n m : ℕ). record { size = n; count = m }) (size ∙ ap (λ shape. shape.bits) is.shape)
    (count (rules_in config b) s r is.sides ∙ ap (λ shape. offers_to_send (rules_in config b) shape.octets (entity_of s r)) is.shape)

pub am_turn : (config : Config) (out into : Dir) (b : ℕ) (old : Bearing) (v : AmRunning) → Represents config out into b old (Am v) → 0 < (head_of config out b old).count → HasTurn v
am_turn config out into b (Transparent w us) v is some = absurd is
am_turn config out into b (Unacknowledged s r) v is some = absurd is
am_turn config out into b (Acknowledged s r) v is some = record {
  rules = rules_in config b;
  sender = s;
  receiver = r;
  sides = is.sides;
  some = (offers_kept (rules_in config b) (pdu_octets config out b) 1 s r (omega (arith, some))).0;
}

pub am_builds : (config : Config) (out into : Dir) (b : ℕ) (old : Bearing) (v now : AmRunning) (block : List Bit) → Represents config out into b old (Am v) →
    ((rules : Rules) (s : Sender) (r : Receiver) → HasSides rules s r v → BuildsAtTurn rules s r v now block) → IsSameBearer v now → Built config out into b old block (Am now)
am_builds config out into b (Transparent w us) v now block is built same = absurd is
am_builds config out into b (Unacknowledged s r) v now block is built same = absurd is
am_builds config out into b (Acknowledged s r) v now block is built same =
    let rules : Rules = rules_in config b in
    let turned : BuildsAtTurn rules s r v now block = built rules s r is.sides in
    let size : v.shape.octets ≡ pdu_octets config out b = ap (λ shape. shape.octets) is.shape in
    record {
      next = _;
      builds = record {
        octets = turned.octets;
        some = turned.some;
        written = subst (λ n. IsWritten (turn rules s r) rules n turned.octets s r) size turned.written;
        small = turned.small;
        long = turned.long ∙ size;
        block_is = turned.block_is ∙ ap (λ shape. block_of shape.ct turned.octets) is.shape;
        next_is = refl;
      };
      stands = am_stands config out into b s (sender_after (turn rules s r) rules (pdu_octets config out b) s) r (receiver_after (turn rules s r) rules r) v now is same (subst (λ n. HasSides rules (sender_after (turn rules s r) rules n s) (receiver_after (turn rules s r) rules r) now) size turned.sides);
    }

pub am_told : {S : Type 0} (shows : S → Line → S → Type 0) (config : Config) (out into : Dir) (b : ℕ) (old : Bearing) (v : AmRunning) (bits : List Bit) (before now : S) → Represents config out into b old (Am v) →
    ((rules : Rules) (s : Sender) (r : Receiver) → HasSides rules s r v → Told shows before (lines_on rules v.into v.number (am_reading (octets_of bits)) s r) now) → Told shows before (hears config into b bits old).lines now
am_told shows config out into b (Transparent w us) v bits before now is told = absurd is
am_told shows config out into b (Unacknowledged s r) v bits before now is told = absurd is
am_told shows config out into b (Acknowledged s r) v bits before now is told =
    subst (λ n. Told shows before (lines_on (rules_in config b) into n (am_reading (octets_of bits)) s r) now) is.number
    (subst (λ d. Told shows before (lines_on (rules_in config b) d v.number (am_reading (octets_of bits)) s r) now) is.comes_in (told (rules_in config b) s r is.sides))

pub am_hears : (config : Config) (out into : Dir) (b : ℕ) (old : Bearing) (v now : AmRunning) (bits : List Bit) → Represents config out into b old (Am v) →
    ((rules : Rules) (s : Sender) (r : Receiver) → HasSides rules s r v → HasSides rules (sender_of rules (am_reading (octets_of bits)) s) (receiver_of rules (am_reading (octets_of bits)) r) now) → IsSameBearer v now →
    Represents config out into b (hears config into b bits old).bearing (Am now)
am_hears config out into b (Transparent w us) v now bits is heard same = absurd is
am_hears config out into b (Unacknowledged s r) v now bits is heard same = absurd is
am_hears config out into b (Acknowledged s r) v now bits is heard same =
    am_stands config out into b s (sender_of (rules_in config b) (am_reading (octets_of bits)) s) r (receiver_of (rules_in config b) (am_reading (octets_of bits)) r) v now is same (heard (rules_in config b) s r is.sides)

-- the unacknowledged mode: where no unit waits no PDU can be built, and where one can something is unsent
none_built : (pdu : ℕ) (starts : Bool) → builds 64 pdu starts no_units ≡ 0
unfolding builds
none_built pdu starts = refl

unsent_by : (pdu : ℕ) (starts : Bool) (u : Units) → 0 < builds 64 pdu starts u → is_unsent u ≡ true
unfolding builds
unsent_by pdu starts u some = go (is_unsent u) (builds 63 pdu starts (units_after pdu starts u)) some
  where
    go : (c : Bool) (n : ℕ) → 0 < cond c (suc n) 0 → c ≡ true
    go true n l = refl
    go false n l = absurd (omega (arith, l))

counted : (o : Option ℕ) (s : Sending) (t : Option Sending) → HoldsSending o s t → count_of t ≡ builds 64 s.pdu s.mark_start s.units
counted None s None is = sym (ap (builds 64 s.pdu s.mark_start) is ∙ none_built s.pdu s.mark_start)
counted None s (Some t) is = absurd is
counted (Some i) s None is = absurd is
counted (Some i) s (Some t) is = ap (λ (x : Sending). builds 64 x.pdu x.mark_start x.units) is

due_by : (o : Option ℕ) (s : Sending) (t : Option Sending) → HoldsSending o s t → is_unsent s.units ≡ true → due_in t ≡ true
due_by None s None is unsent =
    let none : is_unsent s.units ≡ false = ap is_unsent is in
    absurd (cc)
due_by None s (Some t) is unsent = absurd is
due_by (Some i) s None is unsent = absurd is
due_by (Some i) s (Some t) is unsent = ap (λ (x : Sending). is_unsent x.units) is ∙ unsent

pub um_head_is : (config : Config) (out into : Dir) (b : ℕ) (now : Bearing) (v : UmRunning) (h : Head) → Represents config out into b now (Um v) → h ≡ um_head v → h ≡ head_of config out b now
um_head_is config out into b (Transparent w us) v h is value = absurd is
um_head_is config out into b (Acknowledged s r) v h is value = absurd is
um_head_is config out into b (Unacknowledged s r) v h is value =
    value ∙ ap₂ (λ (n m : ℕ). record { size = n; count = m }) (ap (λ shape. shape.bits) is.shape) (counted (channel_of config out b) s.sending v.sender is.sending)

pub um_due_is : (config : Config) (out into : Dir) (b : ℕ) (now : Bearing) (v : UmRunning) → Represents config out into b now (Um v) → 0 < (head_of config out b now).count → um_due v ≡ true
um_due_is config out into b (Transparent w us) v is some = absurd is
um_due_is config out into b (Acknowledged s r) v is some = absurd is
um_due_is config out into b (Unacknowledged s r) v is some = due_by (channel_of config out b) s.sending v.sender is.sending (unsent_by s.sending.pdu s.sending.mark_start s.sending.units some)

-- one that sends, and what is left
record IsNext (o : Option ℕ) (s : Sending) (t : Option Sending) : Type 0 where
  some : is_unsent s.units ≡ true
  pdu : next_in t ≡ pdu_of s
  after : HoldsSending o (after_build s) (option_map after_build t)

next_by : (o : Option ℕ) (s : Sending) (t : Option Sending) → HoldsSending o s t → due_in t ≡ true → IsNext o s t
next_by None s None is due = absurd (cc)
next_by None s (Some t) is due = absurd is
next_by (Some i) s None is due = absurd is
next_by (Some i) s (Some t) is due = record { some = sym (ap (λ (x : Sending). is_unsent x.units) is) ∙ due; pdu = ap pdu_of is; after = ap after_build is }

pub um_builds : (config : Config) (out into : Dir) (b : ℕ) (old : Bearing) (v now : UmRunning) (block : List Bit) → Represents config out into b old (Um v) → um_due v ≡ true → block ≡ block_of v.shape.ct (um_pdu v) → AreOctets (um_pdu v) → now ≡ um_built v →
    Built config out into b old block (Um now)
um_builds config out into b (Transparent w us) v now block is due block_is small now_is = absurd is
um_builds config out into b (Acknowledged s r) v now block is due block_is small now_is = absurd is
um_builds config out into b (Unacknowledged s r) v now block is due block_is small now_is =
    let next : IsNext (channel_of config out b) s.sending v.sender = next_by (channel_of config out b) s.sending v.sender is.sending due in
    record {
      next = Unacknowledged (record { sending = after_build s.sending; accepted = s.accepted; cuts = s.cuts ++ length s.accepted ∷ [] }) r;
      builds = record {
        some = next.some;
        small = subst AreOctets next.pdu small;
        block_is = block_is ∙ ap₂ block_of (ap (λ shape. shape.ct) is.shape) next.pdu;
        next_is = refl;
      };
      stands = subst (λ (x : UmRunning). StandsUm config out into b (record { sending = after_build s.sending; accepted = s.accepted; cuts = s.cuts ++ length s.accepted ∷ [] }) r x) (sym now_is) (record {
        mode = is.mode;
        number = is.number;
        comes_in = is.comes_in;
        shape = is.shape;
        sending = next.after;
        receiving = is.receiving;
      });
    }

lines_by : (dir : Dir) (b : ℕ) (s : Sends) (r : Receiving) (reading : Result UmView PduError) → (hears_um dir b reading s r).lines ≡ lines_of dir b reading r
lines_by dir b s r (Ok view) = refl
lines_by dir b s r (Err e) = refl

held_lines : (dir : Dir) (b : ℕ) (octets : List ℕ) (o : Option ℕ) (r : Receiving) (t : Option Receiving) → HoldsReceiving o r t → IsSome t → lines_in dir b octets t ≡ lines_of dir b (um_reading octets) r
held_lines dir b octets o r None is some = let h : false ≡ true = some in absurd (cc)
held_lines dir b octets None r (Some t) is some = absurd is
held_lines dir b octets (Some i) r (Some t) is some = ap (lines_of dir b (um_reading octets)) is

pub um_lines_are : (config : Config) (out into : Dir) (b : ℕ) (old : Bearing) (v : UmRunning) (bits : List Bit) → Represents config out into b old (Um v) → IsSome v.receiver → um_lines (octets_of bits) v ≡ (hears config into b bits old).lines
um_lines_are config out into b (Transparent w us) v bits is some = absurd is
um_lines_are config out into b (Acknowledged s r) v bits is some = absurd is
um_lines_are config out into b (Unacknowledged s r) v bits is some =
    ap₂ (λ d n. lines_in d n (octets_of bits) v.receiver) is.comes_in is.number ∙ (held_lines into b (octets_of bits) (channel_of config into b) r v.receiver is.receiving some ∙ sym (lines_by into b s r (um_reading (octets_of bits))))

pub um_receives : (config : Config) (out into : Dir) (b : ℕ) (old : Bearing) (v : UmRunning) → Represents config out into b old (Um v) → IsSome (channel_of config into b) → IsSome v.receiver
um_receives config out into b (Transparent w us) v is some = absurd is
um_receives config out into b (Acknowledged s r) v is some = absurd is
um_receives config out into b (Unacknowledged s r) v is some = go (channel_of config into b) v.receiver is.receiving some
  where
    go : (o : Option ℕ) (t : Option Receiving) → HoldsReceiving o r t → IsSome o → IsSome t
    go None t h e = let n : false ≡ true = e in absurd (cc)
    go (Some i) None h e = absurd h
    go (Some i) (Some t) h e = refl

-- a block came to one that receives
heard_by_um : (dir : Dir) (b : ℕ) (s : Sends) (r : Receiving) (reading : Result UmView PduError) → (hears_um dir b reading s r).bearing ≡ Unacknowledged s (heard_by reading r)
heard_by_um dir b s r (Ok view) = refl
heard_by_um dir b s r (Err e) = refl

held_after : (reading : Result UmView PduError) (o : Option ℕ) (r : Receiving) (t : Option Receiving) → HoldsReceiving o r t → IsSome t → HoldsReceiving o (heard_by reading r) (option_map (heard_by reading) t)
held_after reading o r None is some = let h : false ≡ true = some in absurd (cc)
held_after reading None r (Some t) is some = absurd is
held_after reading (Some i) r (Some t) is some = ap (heard_by reading) is

pub um_hears : (config : Config) (out into : Dir) (b : ℕ) (old : Bearing) (v now : UmRunning) (bits : List Bit) → Represents config out into b old (Um v) → IsSome v.receiver → now ≡ um_heard (octets_of bits) v →
    Represents config out into b (hears config into b bits old).bearing (Um now)
um_hears config out into b (Transparent w us) v now bits is some now_is = absurd is
um_hears config out into b (Acknowledged s r) v now bits is some now_is = absurd is
um_hears config out into b (Unacknowledged s r) v now bits is some now_is =
    subst (λ (x : Bearing). Represents config out into b x (Um now)) (sym (heard_by_um into b s r (um_reading (octets_of bits))))
    (subst (λ (x : UmRunning). StandsUm config out into b s (heard_by (um_reading (octets_of bits)) r) x) (sym now_is) (record {
      mode = is.mode;
      number = is.number;
      comes_in = is.comes_in;
      shape = is.shape;
      sending = is.sending;
      receiving = held_after (um_reading (octets_of bits)) (channel_of config into b) r v.receiver is.receiving some;
    }))

-- the transparent mode: one that has a channel to send on has a sender, and an offer is answered by the sizes of its blocks
pub tm_can : (config : Config) (out into : Dir) (b : ℕ) (now : Bearing) (v : TmRunning) → Represents config out into b now (Tm v) → IsSome (channel_of config out b) → IsSome v.sender
tm_can config out into b (Unacknowledged s r) v is some = absurd is
tm_can config out into b (Acknowledged s r) v is some = absurd is
tm_can config out into b (Transparent w us) v is some = go (channel_of config out b) v.sender is.units some
  where
    go : (o : Option ℕ) (t : Option Waiting) → HoldsUnits o w t → IsSome o → IsSome t
    go None t h e = let n : false ≡ true = e in absurd (cc)
    go (Some i) None h e = absurd h
    go (Some i) (Some t) h e = refl

answered_alike : (sizes others : List ℕ) (bits : List Bit) (o : Option ℕ) (w : Waiting) (t : Option Waiting) → HaveSame sizes others → HoldsUnits o w t → IsSome t → answer_at sizes bits t ≡ unit_answer others bits w
answered_alike sizes others bits o w None same is some = let h : false ≡ true = some in absurd (cc)
answered_alike sizes others bits None w (Some t) same is some = absurd is
answered_alike sizes others bits (Some i) w (Some t) same is some =
    ap (λ (fits : Bool). cond fits (cond (nat_lt (length t.units) t.buffer) Accepted Full) WrongSize) (same (length bits))
    ∙ ap₂ (λ (us : List (List Bit)) (n : ℕ). cond (is_size others (length bits)) (cond (nat_lt (length us) n) Accepted Full) WrongSize) is.0 is.1

pub tm_answers : (config : Config) (out into : Dir) (b : ℕ) (old : Bearing) (v : TmRunning) (octets : List ℕ) (bits : List Bit) (o : Offer) → Represents config out into b old (Tm v) → IsSome v.sender → o ≡ tm_answer bits v → o ≡ answers config out b octets bits old
tm_answers config out into b (Unacknowledged s r) v octets bits o is some answer = absurd is
tm_answers config out into b (Acknowledged s r) v octets bits o is some answer = absurd is
tm_answers config out into b (Transparent w us) v octets bits o is some answer = answer ∙ answered_alike v.sizes (sizes_on config out (channel_of config out b)) bits (channel_of config out b) w v.sender is.sizes is.units some

held_unit : (answer : Offer) (bits : List Bit) (o : Option ℕ) (w : Waiting) (t : Option Waiting) → HoldsUnits o w t → IsSome t → HoldsUnits o (after_unit answer bits w) (option_map (after_unit answer bits) t)
held_unit answer bits o w None is some = let h : false ≡ true = some in absurd (cc)
held_unit answer bits None w (Some t) is some = absurd is
held_unit Accepted bits (Some i) w (Some t) is some = (ap (λ (us : List (List Bit)). us ++ bits ∷ []) is.0, is.1)
held_unit Full bits (Some i) w (Some t) is some = is
held_unit WrongSize bits (Some i) w (Some t) is some = is

pub tm_offers : (config : Config) (out into : Dir) (b : ℕ) (old : Bearing) (v now : TmRunning) (octets : List ℕ) (bits : List Bit) (o : Offer) → Represents config out into b old (Tm v) → IsSome v.sender → o ≡ tm_answer bits v → now ≡ tm_after o bits v →
    Represents config out into b (after_answer (answers config out b octets bits old) octets bits old) (Tm now)
tm_offers config out into b (Unacknowledged s r) v now octets bits o is some answer now_is = absurd is
tm_offers config out into b (Acknowledged s r) v now octets bits o is some answer now_is = absurd is
tm_offers config out into b (Transparent w us) v now octets bits o is some answer now_is =
    let same : o ≡ answers config out b octets bits (Transparent w us) = tm_answers config out into b (Transparent w us) v octets bits o is some answer in
    subst (λ (a : Offer). Represents config out into b (after_answer a octets bits (Transparent w us)) (Tm now)) same
    (subst (λ (x : TmRunning). StandsTm config out into b (after_unit o bits w) x) (sym now_is) (record {
      mode = is.mode;
      number = is.number;
      comes_in = is.comes_in;
      sizes = is.sizes;
      units = held_unit o bits (channel_of config out b) w v.sender is.units some;
      no_field = is.no_field;
    }))

-- one that has a block to build has a sender
pub tm_sends : (config : Config) (out into : Dir) (b : ℕ) (now : Bearing) (v : TmRunning) → Represents config out into b now (Tm v) → 0 < (head_of config out b now).count → IsSome v.sender
tm_sends config out into b (Unacknowledged s r) v is some = absurd is
tm_sends config out into b (Acknowledged s r) v is some = absurd is
tm_sends config out into b (Transparent w us) v is some = go (channel_of config out b) v.sender is.units
  where
    go : (o : Option ℕ) (t : Option Waiting) → HoldsUnits o w t → IsSome t
    go None None h =
        let none : (front_of w.units).1 ≡ 0 = ap (λ us. (front_of us).1) h in
        absurd (omega (arith, some, none))
    go None (Some t) h = absurd h
    go (Some i) None h = absurd h
    go (Some i) (Some t) h = refl

record IsNextUnit (o : Option ℕ) (w : Waiting) (block : List Bit) (t : Option Waiting) : Type 0 where
  units : w.units ≡ block ∷ units_in t
  after : HoldsUnits o (record w { units = units_in t }) t

next_unit : (o : Option ℕ) (w : Waiting) (block : List Bit) (t : Option Waiting) → HoldsUnits o w (with_first block t) → IsSome (with_first block t) → IsNextUnit o w block t
next_unit o w block None is some = let h : false ≡ true = some in absurd (cc)
next_unit None w block (Some t) is some = absurd is
next_unit (Some i) w block (Some t) is some = record { units = sym is.0; after = (refl, is.1) }

pub tm_builds : (config : Config) (out into : Dir) (b : ℕ) (old : Bearing) (v now : TmRunning) (block : List Bit) → Represents config out into b old (Tm v) → IsSome v.sender → v ≡ tm_built block now → Built config out into b old block (Tm now)
tm_builds config out into b (Unacknowledged s r) v now block is some now_is = absurd is
tm_builds config out into b (Acknowledged s r) v now block is some now_is = absurd is
tm_builds config out into b (Transparent w us) v now block is some now_is =
    let before : StandsTm config out into b w (tm_built block now) = subst (StandsTm config out into b w) now_is is in
    let next : IsNextUnit (channel_of config out b) w block now.sender = next_unit (channel_of config out b) w block now.sender before.units (subst (λ (x : TmRunning). IsSome x.sender) now_is some) in
    record {
      next = Transparent (record w { units = units_in now.sender }) us;
      builds = record {
        unit = block;
        later = units_in now.sender;
        units = next.units;
        block_is = ap (λ f. field_for f ++ block) (sym before.no_field);
        next_is = refl;
      };
      stands = record { mode = before.mode; number = before.number; comes_in = before.comes_in; sizes = before.sizes; units = next.after; no_field = before.no_field };
    }
