-- An unacknowledged bearer over a run of two ends.
use Rattle.std.proofs.Common.{◌≡◌, ◌+◌, ◌<◌, ◌≤◌, ℕ, zero, suc, List, [], ◌∷◌, ◌++◌, Bool, true, false, cond, Some, Result, Ok, Err, length, drop, map, arith, refl, sym, ap, ap₂, ◌∙◌, subst, append_assoc}
use Rattle.std.specs.Prelude.{◌==◌, filter}
use Rattle.std.proofs.lemmas.Bool.Decides.{nat_tests}
use Rattle.std.proofs.lemmas.List.{append-nil}
use Rattle.std.proofs.lemmas.List.Elements.{filter-append}
use Rattle.dch_bits.specs.declared.bit.Bit.{Bit}
use Rattle.dch_bits.specs.declared.offer.Offer.{Offer}
use Rattle.dch_bits.specs.declared.offer.Offer.TheVariants.{Accepted, Full, WrongSize}
use Rattle.dch_types.specs.declared.channel.Dir.{Dir}
use Rattle.dch_types.specs.declared.config.Config.{Config}
use Rattle.dch_mac.specs.declared.answer.Demux.{Demux}
use Rattle.dch_mac.specs.declared.answer.Demux.TheVariants.{To, Reserved, NoBearer, Nobody}
use Rattle.dch_mac.specs.Field.{field_bits}
use Rattle.dch_mac.specs.Receivers.{receiver}
use Rattle.dch_rlcpdu.specs.Um.{um_reading}
use Rattle.dch_rlcpdu.specs.declared.um.UmView.{UmView}
use Rattle.dch_rlcpdu.specs.declared.handed.PduError.{PduError}
use Rattle.dch_rlcum.specs.Handing.{AreUnits}
use Rattle.dch_rlcum.specs.History.{IsSenderOf, accepted, texts}
use Rattle.dch_rlcum.specs.Receiving.{Receiving}
use Rattle.dch_rlcum.specs.Sending.{Sending, after_build, after_offer as after_waiting, answer_of, pdu_of}
use Rattle.dch_rlcum.proofs.Histories.{built_next, sender_built, sender_offered, texts_offered}
use Rattle.dch_layer2.specs.Bearings.{Bearing, Sends, Unacknowledged, after_answer, answers, bearer_in, channel_of, ct_of, ticked}
use Rattle.dch_layer2.specs.Building.{Builds, Gives}
use Rattle.dch_layer2.specs.Hearing.{hears, hears_um}
use Rattle.dch_layer2.specs.Layers.{Came, Layer, Outcome, goes, takes, takes_one}
use Rattle.dch_node.specs.Lines.{Line}
use Rattle.dch_layer2.specs.Starting.{IsStart, asked_in, count_on}
use Rattle.dch_layer2.proofs.Octets.{block_back}
use Rattle.dch_runlaw.specs.Doings.{Blocks, Does, Doing, Offers, Says, Starts, Takes, Ticks, block_if, given_by, good_blocks, has_bits, taken_by}
use Rattle.dch_runlaw.specs.History.{AreApart, is_mine, is_to}
use Rattle.dch_runlaw.specs.Lines.{lines_of}
use Rattle.dch_runlaw.specs.UmHistory.{lines_all, lines_one, pdu_in, pdus_in, receives, receives_one}
use Rattle.dch_runlaw.proofs.OwnBlocks.{taken_mine}
use Rattle.dch_runlaw.proofs.Steps.{answer_line}
use Rattle.dch_runlaw.proofs.Turns.{start_mine}
use Rattle.dch_runlaw.proofs.Names.{number_same, other_number, receiver_has, receiver_skips, same_number}
use Rattle.dch_runlaw.proofs.Sublists.{either}
use Rattle.dch_runlaw.proofs.BlocksTaken.{lines-append, other_hears, own_lines}

-- offers: units of 1 to 1,500 octets alone are accepted
offer_units : (units : List (List ℕ)) (unit : List ℕ) (s : Sending) (o : Offer) → o ≡ answer_of unit s → AreUnits units → AreUnits (accepted o unit units)
offer_units units unit s Accepted e are = more units are
  where
    size : (0 < length unit) × (length unit ≤ 1500)
    size = grind (arith, nat_tests, e)

    more : (us : List (List ℕ)) → AreUnits us → AreUnits (us ++ unit ∷ [])
    more [] a = (size.0, (size.1, tt))
    more (u ∷ us) a = (a.0, (a.1.0, more us a.1.1))
offer_units units unit s Full e are = are
offer_units units unit s WrongSize e are = are

-- the sender's part of an end
pub record Sender (texts_ : List (List ℕ)) (bearing : Bearing) : Type 0 where
  pub sends : Sends
  pub receiving : Receiving
  pub is : bearing ≡ Unacknowledged sends receiving
  pub sender : IsSenderOf sends.accepted sends.cuts sends.sending
  pub units : AreUnits sends.accepted
  pub given : texts_ ≡ texts sends.sending.pdu sends.sending.mark_start sends.accepted sends.cuts

-- so many blocks are built
gives_texts : (config : Config) (dir : Dir) (b n : ℕ) (given : List (List ℕ)) (old new : Bearing) (blocks : List (List Bit)) → Sender given old → Gives config dir b n old new blocks → Sender (given ++ map (pdu_in config dir b) blocks) new
gives_texts config dir b zero given old new blocks s g = record {
  sends = s.sends;
  receiving = s.receiving;
  is = g.0 ∙ s.is;
  sender = s.sender;
  units = s.units;
  given = ap (λ l. given ++ map (pdu_in config dir b) l) g.1 ∙ append-nil given ∙ s.given;
}
gives_texts config dir b (suc n) given old new blocks s g =
    let built : Builds config dir b (Unacknowledged s.sends s.receiving) g.next g.block = subst (λ x. Builds config dir b x g.next g.block) s.is g.first in
    let read : pdu_in config dir b g.block ≡ pdu_of s.sends.sending = ap (pdu_in config dir b) built.block_is ∙ block_back (ct_of config dir b) (pdu_of s.sends.sending) built.small in
    let next : Sender (given ++ pdu_of s.sends.sending ∷ []) g.next = record {
      sends = record { sending = after_build s.sends.sending; accepted = s.sends.accepted; cuts = s.sends.cuts ++ length s.sends.accepted ∷ [] };
      receiving = s.receiving;
      is = built.next_is;
      sender = sender_built s.sends.accepted s.sends.cuts s.sends.sending built.some s.sender;
      units = s.units;
      given = ap (λ l. l ++ pdu_of s.sends.sending ∷ []) s.given ∙ sym (built_next s.sends.accepted s.sends.cuts s.sends.sending s.sender);
    } in
    let rest = gives_texts config dir b n (given ++ pdu_of s.sends.sending ∷ []) g.next new g.rest next g.later in
    subst (λ l. Sender l new) (append_assoc given (pdu_of s.sends.sending ∷ []) (map (pdu_in config dir b) g.rest) ∙ ap (λ p. given ++ p ∷ map (pdu_in config dir b) g.rest) (sym read) ∙ ap (λ l. given ++ map (pdu_in config dir b) l) (sym g.all)) rest

-- a PDU that came
hears_bearing : (dir : Dir) (b : ℕ) (v : Result UmView PduError) (s : Sends) (r : Receiving) → (hears_um dir b v s r).bearing ≡ Unacknowledged s (receives_one v r)
hears_bearing dir b (Ok view) s r = refl
hears_bearing dir b (Err e) s r = refl

hears_lines : (dir : Dir) (b : ℕ) (v : Result UmView PduError) (s : Sends) (r : Receiving) → lines_of b (hears_um dir b v s r).lines ≡ lines_one dir b v r
hears_lines dir b (Ok view) s r = own_lines b dir _
hears_lines dir b (Err e) s r = rw (same_number b b refl) refl

-- an end after blocks came on a channel: the PDUs among them, one after another
record Took (into : Dir) (b : ℕ) (s : Sends) (r : Receiving) (pdus : List (List ℕ)) (new : Outcome) : Type 0 where
  bearing : new.layer.bearings b ≡ Unacknowledged s (receives pdus r)
  lines : lines_of b new.lines ≡ lines_all into b pdus r

one : (config : Config) (into : Dir) (b i : ℕ) (block : List Bit) (s : Sends) (r : Receiving) (layer : Layer) (to : Demux) → layer.bearings b ≡ Unacknowledged s r → receiver config into i block ≡ to → Took into b s r (map (pdu_in config into b) (cond (is_to b to) (block ∷ []) [])) (goes config into i block to layer)
one config into b i block s r layer (To c skip) e to = either (b == c)
    (λ q. let same : b ≡ c = number_same b c q in
    let goes_to : receiver config into i block ≡ To b skip = to ∙ ap (λ x. To x skip) (sym same) in
    let skips : skip ≡ field_bits (ct_of config into b) = receiver_skips config into i b skip block (receiver_has config into i b skip block goes_to) goes_to in
    subst (λ x. Took into b s r (map (pdu_in config into b) (cond x (block ∷ []) [])) (goes config into i block (To c skip) layer)) (sym q)
    (subst (λ x. Took into b s r (pdu_in config into b block ∷ []) (goes config into i block (To x skip) layer)) same
    (subst (λ x. Took into b s r (pdu_in config into b block ∷ []) (goes config into i block (To b x) layer)) (sym skips) (mine e))))
    (λ q. let other : (c == b) ≡ false = other_number c b (λ f. let t : (b == c) ≡ true = same_number b c (sym f) in absurd (cc)) in
    subst (λ x. Took into b s r (map (pdu_in config into b) (cond x (block ∷ []) [])) (goes config into i block (To c skip) layer)) (sym q)
    (record { bearing = rw q e; lines = other_hears config into b c (drop skip block) (layer.bearings c) other }))
  where
    mine : layer.bearings b ≡ Unacknowledged s r → Took into b s r (pdu_in config into b block ∷ []) (goes config into i block (To b (field_bits (ct_of config into b))) layer)
    mine e = record {
      bearing = rw (same_number b b refl) (ap (λ x. (hears config into b (drop (field_bits (ct_of config into b)) block) x).bearing) e ∙ hears_bearing into b (um_reading (pdu_in config into b block)) s r);
      lines = ap (λ x. lines_of b (hears config into b (drop (field_bits (ct_of config into b)) block) x).lines) e ∙ hears_lines into b (um_reading (pdu_in config into b block)) s r ∙ sym (append-nil (lines_one into b (um_reading (pdu_in config into b block)) r));
    }
one config into b i block s r layer Reserved e to = record { bearing = e; lines = refl }
one config into b i block s r layer (NoBearer ct) e to = record { bearing = e; lines = refl }
one config into b i block s r layer Nobody e to = record { bearing = e; lines = refl }

one_block : (config : Config) (into : Dir) (b i k : ℕ) (bits : List Bit) (good : Bool) (s : Sends) (r : Receiving) (layer : Layer) → layer.bearings b ≡ Unacknowledged s r → Took into b s r (pdus_in config into b i (block_if good (has_bits bits) bits)) (takes_one config into i k bits good layer)
one_block config into b i k [] true s r layer e = record { bearing = e; lines = refl }
one_block config into b i k (bit ∷ bits) true s r layer e = one config into b i (bit ∷ bits) s r layer (receiver config into i (bit ∷ bits)) e refl
one_block config into b i k bits false s r layer e = record { bearing = e; lines = refl }

pub receives-append : (xs ys : List (List ℕ)) (r : Receiving) → receives (xs ++ ys) r ≡ receives ys (receives xs r)
receives-append [] ys r = refl
receives-append (x ∷ xs) ys r = receives-append xs ys (receives_one (um_reading x) r)

pub lines_all-append : (dir : Dir) (b : ℕ) (xs ys : List (List ℕ)) (r : Receiving) → lines_all dir b (xs ++ ys) r ≡ lines_all dir b xs r ++ lines_all dir b ys (receives xs r)
lines_all-append dir b [] ys r = refl
lines_all-append dir b (x ∷ xs) ys r = ap (λ l. lines_one dir b (um_reading x) r ++ l) (lines_all-append dir b xs ys (receives_one (um_reading x) r)) ∙ sym (append_assoc (lines_one dir b (um_reading x) r) (lines_all dir b xs (receives_one (um_reading x) r)) (lines_all dir b ys (receives xs (receives_one (um_reading x) r))))

pub pdus-append : (config : Config) (dir : Dir) (b i : ℕ) (xs ys : List (List Bit)) → pdus_in config dir b i (xs ++ ys) ≡ pdus_in config dir b i xs ++ pdus_in config dir b i ys
pdus-append config dir b i xs ys = ap (map (pdu_in config dir b)) (filter-append (is_mine config dir b i) xs ys) ∙ mapped (filter (is_mine config dir b i) xs) (filter (is_mine config dir b i) ys)
  where
    mapped : (us vs : List (List Bit)) → map (pdu_in config dir b) (us ++ vs) ≡ map (pdu_in config dir b) us ++ map (pdu_in config dir b) vs
    mapped [] vs = refl
    mapped (u ∷ us) vs = ap (λ l. pdu_in config dir b u ∷ l) (mapped us vs)

all_blocks : (config : Config) (into : Dir) (b i k : ℕ) (came : List Came) (s : Sends) (r : Receiving) (layer : Layer) → layer.bearings b ≡ Unacknowledged s r → Took into b s r (pdus_in config into b i (good_blocks came)) (takes config into i k came layer)
all_blocks config into b i k [] s r layer e = record { bearing = e; lines = refl }
all_blocks config into b i k (c ∷ came) s r layer e =
    let first = block_if c.good (has_bits c.bits) c.bits in
    let t = one_block config into b i k c.bits c.good s r layer e in
    let u = all_blocks config into b i (k + 1) came s (receives (pdus_in config into b i first) r) (takes_one config into i k c.bits c.good layer).layer t.bearing in
    let split = pdus-append config into b i first (good_blocks came) in
    record {
      bearing = u.bearing ∙ ap (λ x. Unacknowledged s x) (sym (receives-append (pdus_in config into b i first) (pdus_in config into b i (good_blocks came)) r) ∙ ap (λ l. receives l r) (sym split));
      lines = lines-append b (takes_one config into i k c.bits c.good layer).lines _ ∙ ap₂ (λ x y. x ++ y) t.lines u.lines ∙ sym (lines_all-append into b (pdus_in config into b i first) (pdus_in config into b i (good_blocks came)) r) ∙ ap (λ l. lines_all into b l r) (sym split);
    }

-- a sender after something was done at its end
offer_same : (o : Offer) (unit : List ℕ) (s : Sending) → ((after_waiting o unit s).pdu ≡ s.pdu) × ((after_waiting o unit s).mark_start ≡ s.mark_start)
offer_same Accepted unit s = (refl, refl)
offer_same Full unit s = (refl, refl)
offer_same WrongSize unit s = (refl, refl)

offered : (given : List (List ℕ)) (octets : List ℕ) (s : Sends) (r : Receiving) (o : Offer) (new : Bearing) → o ≡ answer_of octets s.sending → new ≡ Unacknowledged (record { sending = after_waiting o octets s.sending; accepted = accepted o octets s.accepted; cuts = s.cuts }) r → IsSenderOf s.accepted s.cuts s.sending → AreUnits s.accepted → given ≡ texts s.sending.pdu s.sending.mark_start s.accepted s.cuts → Sender given new
offered given octets s r o new e is sender units g =
    let same = offer_same o octets s.sending in
    record {
      sends = record { sending = after_waiting o octets s.sending; accepted = accepted o octets s.accepted; cuts = s.cuts };
      receiving = r;
      is = is;
      sender = sender_offered s.accepted s.cuts octets s.sending o e sender;
      units = offer_units s.accepted octets s.sending o e units;
      given = g ∙ sym (texts_offered s.accepted s.cuts octets s.sending o sender) ∙ ap₂ (λ n m. texts n m (accepted o octets s.accepted) s.cuts) (sym same.0) (sym same.1);
    }

same_sender : (given : List (List ℕ)) (old new : Bearing) → new ≡ old → Sender given old → Sender (given ++ []) new
same_sender given old new e s = subst (λ l. Sender l new) (sym (append-nil given)) (subst (Sender given) (sym e) s)

pub sender_does : (config : Config) (out into : Dir) (b i : ℕ) (given : List (List ℕ)) (old new : Layer) (doing : Doing) (lines : List Line) → AreApart config out i → channel_of config out b ≡ Some i → 1 ≤ (bearer_in config b).priority → (bearer_in config b).priority ≤ 8 → Does config out into old doing new lines → Sender given (old.bearings b) → Sender (given ++ pdus_in config out b i (given_by config out old doing new i)) (new.bearings b)
sender_does config out into b i given old new (Offers c octets bits) lines apart on low high d s = subst (λ l. Sender l (new.bearings b)) (sym (append-nil given)) (either (b == c)
    (λ q. let same : b ≡ c = number_same b c q in
    offered given octets s.sends s.receiving (answer_of octets s.sends.sending) (new.bearings b) refl
    (ap (λ l. l.bearings b) d.0 ∙ rw q (sym (ap (λ x. after_answer (answers config out x octets bits (old.bearings x)) octets bits (old.bearings x)) same) ∙ ap (λ x. after_answer (answers config out b octets bits x) octets bits x) s.is))
    s.sender s.units s.given)
    (λ q. subst (Sender given) (sym (ap (λ l. l.bearings b) d.0 ∙ rw q refl)) s))
sender_does config out into b i given old new (Blocks c on) lines apart is low high d s = same_sender given (old.bearings b) (new.bearings b) (ap (λ l. l.bearings b) d.0) s
sender_does config out into b i given old new Ticks lines apart is low high d s = same_sender given (old.bearings b) (new.bearings b) (ap (λ l. l.bearings b) d.0 ∙ ap (ticked config b) s.is ∙ sym s.is) s
sender_does config out into b i given old new (Says said) lines apart is low high d s = same_sender given (old.bearings b) (new.bearings b) (ap (λ l. l.bearings b) d.0) s
sender_does config out into b i given old new (Takes j came) lines apart on low high d s =
    let t = all_blocks config into b j 0 came s.sends s.receiving old s.is in
    subst (λ l. Sender l (new.bearings b)) (sym (append-nil given)) (record { sends = s.sends; receiving = receives (pdus_in config into b j (good_blocks came)) s.receiving; is = ap (λ l. l.bearings b) d.0 ∙ t.bearing; sender = s.sender; units = s.units; given = s.given })
sender_does config out into b i given old new (Starts cfn) lines apart on low high d s =
    let st : IsStart config out cfn old new = d.0 in
    subst (λ l. Sender (given ++ map (pdu_in config out b) l) (new.bearings b)) (sym (start_mine config out cfn b i old new st apart on low high))
    (gives_texts config out b (count_on (asked_in config out cfn old) new.running b (channel_of config out b)) given (old.bearings b) (new.bearings b) (st.built b) s (st.gives b))

-- a receiver
pub record Receiver (into : Dir) (b : ℕ) (r : Receiving) (pdus : List (List ℕ)) (lines : List Line) (bearing : Bearing) : Type 0 where
  pub sends : Sends
  pub is : bearing ≡ Unacknowledged sends (receives pdus r)
  pub said : lines_of b lines ≡ lines_all into b pdus r

gives_keep : (config : Config) (dir : Dir) (b n : ℕ) (s : Sends) (r : Receiving) (old new : Bearing) (blocks : List (List Bit)) → old ≡ Unacknowledged s r → Gives config dir b n old new blocks → Receiver dir b r [] [] new
gives_keep config dir b zero s r old new blocks e g = record { sends = s; is = g.0 ∙ e; said = refl }
gives_keep config dir b (suc n) s r old new blocks e g =
    let built : Builds config dir b (Unacknowledged s r) g.next g.block = subst (λ x. Builds config dir b x g.next g.block) e g.first in
    gives_keep config dir b n (record { sending = after_build s.sending; accepted = s.accepted; cuts = s.cuts ++ length s.accepted ∷ [] }) r g.next new g.rest built.next_is g.later

pub receiver_does : (config : Config) (out into : Dir) (b i : ℕ) (s : Sends) (r : Receiving) (old new : Layer) (doing : Doing) (lines : List Line) → channel_of config into b ≡ Some i → Does config out into old doing new lines → old.bearings b ≡ Unacknowledged s r → Receiver into b r (pdus_in config into b i (taken_by doing i)) lines (new.bearings b)
receiver_does config out into b i s r old new (Offers c octets bits) lines on d e = either (b == c)
    (λ q. let same : b ≡ c = number_same b c q in record {
      sends = record { sending = after_waiting (answer_of octets s.sending) octets s.sending; accepted = accepted (answer_of octets s.sending) octets s.accepted; cuts = s.cuts };
      is = ap (λ l. l.bearings b) d.0 ∙ rw q (sym (ap (λ x. after_answer (answers config out x octets bits (old.bearings x)) octets bits (old.bearings x)) same) ∙ ap (λ x. after_answer (answers config out b octets bits x) octets bits x) e);
      said = ap (lines_of b) d.1 ∙ answer_line out b c (answers config out c octets bits (old.bearings c));
    })
    (λ q. record { sends = s; is = ap (λ l. l.bearings b) d.0 ∙ rw q e; said = ap (lines_of b) d.1 ∙ answer_line out b c (answers config out c octets bits (old.bearings c)) })
receiver_does config out into b i s r old new (Blocks c x) lines on d e = record { sends = s; is = ap (λ l. l.bearings b) d.0 ∙ e; said = ap (lines_of b) d.1 }
receiver_does config out into b i s r old new Ticks lines on d e = record { sends = s; is = ap (λ l. l.bearings b) d.0 ∙ ap (ticked config b) e; said = ap (lines_of b) d.1 }
receiver_does config out into b i s r old new (Says said) lines on d e = record { sends = s; is = ap (λ l. l.bearings b) d.0 ∙ e; said = ap (lines_of b) d.1 ∙ d.2 b }
receiver_does config out into b i s r old new (Takes j came) lines on d e =
    let t = all_blocks config into b j 0 came s r old e in
    let same : pdus_in config into b i (taken_by (Takes j came) i) ≡ pdus_in config into b j (good_blocks came) = ap (map (pdu_in config into b)) (taken_mine config into b i j came on) in
    subst (λ l. Receiver into b r l lines (new.bearings b)) (sym same) (record { sends = s; is = ap (λ l. l.bearings b) d.0 ∙ t.bearing; said = ap (lines_of b) d.1 ∙ t.lines })
receiver_does config out into b i s r old new (Starts cfn) lines on d e =
    let st : IsStart config out cfn old new = d.0 in
    let k = gives_keep config out b (count_on (asked_in config out cfn old) new.running b (channel_of config out b)) s r (old.bearings b) (new.bearings b) (st.built b) e (st.gives b) in
    record { sends = k.sends; is = k.is; said = ap (lines_of b) d.1 }
