-- A transparent bearer over a run of two ends.
use Rattle.std.proofs.Common.{◌≡◌, ◌+◌, ◌≤◌, ℕ, zero, suc, List, [], ◌∷◌, ◌++◌, Bool, true, false, cond, Some, drop, map, refl, sym, ap, ap₂, ◌∙◌, subst, inl, inr, ⊎_elim, append_assoc}
use Rattle.std.specs.Prelude.{◌==◌, filter}
use Rattle.std.proofs.lemmas.List.{append-nil}
use Rattle.std.proofs.lemmas.List.Elements.{filter-append}
use Rattle.dch_bits.specs.declared.bit.Bit.{Bit}
use Rattle.dch_bits.specs.declared.offer.Offer.{Offer}
use Rattle.dch_bits.specs.declared.offer.Offer.TheVariants.{Accepted, Full, WrongSize}
use Rattle.dch_types.specs.declared.channel.Dir.{Dir}
use Rattle.dch_types.specs.declared.config.Config.{Config}
use Rattle.dch_mac.specs.declared.answer.Demux.{Demux}
use Rattle.dch_mac.specs.declared.answer.Demux.TheVariants.{To, Reserved, NoBearer, Nobody}
use Rattle.dch_mac.specs.Field.{field_bits}
use Rattle.dch_mac.specs.Receivers.{receiver}
use Rattle.dch_rlctm.specs.Waiting.{Waiting, after_offer as after_unit}
use Rattle.dch_layer2.specs.Bearings.{Bearing, Transparent, after_answer, answers, bearer_in, channel_of, ct_of, ticked, with_unit}
use Rattle.dch_layer2.specs.Building.{Builds, Gives}
use Rattle.dch_layer2.specs.Hearing.{hears}
use Rattle.dch_layer2.specs.Layers.{Came, Layer, Outcome, goes, takes, takes_one}
use Rattle.dch_node.specs.Lines.{GotBits, Line}
use Rattle.dch_layer2.specs.Starting.{IsStart, asked_in, count_on}
use Rattle.dch_layer2.proofs.Octets.{behind_field}
use Rattle.dch_linkcmd.specs.Checks.{IsSublist}
use Rattle.dch_runlaw.specs.Doings.{Blocks, Does, Doing, Offers, Says, Starts, Takes, Ticks, block_if, given_by, good_blocks, has_bits, taken_by}
use Rattle.dch_runlaw.specs.History.{AreApart, is_mine, is_to}
use Rattle.dch_runlaw.specs.Lines.{lines_of}
use Rattle.dch_runlaw.specs.TmHistory.{IsTmCarried, IsTmHistory, IsTmSome, bits_lines, unit_in, units_in}
use Rattle.dch_runlaw.specs.Worlds.{IsFaithful, Log, World}
use Rattle.dch_runlaw.proofs.OwnBlocks.{taken_mine}
use Rattle.dch_runlaw.proofs.Steps.{answer_line}
use Rattle.dch_runlaw.proofs.Turns.{start_mine}
use Rattle.dch_runlaw.proofs.Names.{number_same, other_number, receiver_has, receiver_skips, same_number}
use Rattle.dch_runlaw.proofs.Sublists.{either, sub_append, sub_filter, sub_more}
use Rattle.dch_runlaw.proofs.BlocksTaken.{lines-append, other_hears}

-- lists of units
pub bits-append : (dir : Dir) (b : ℕ) (us vs : List (List Bit)) → bits_lines dir b (us ++ vs) ≡ bits_lines dir b us ++ bits_lines dir b vs
bits-append dir b [] vs = refl
bits-append dir b (u ∷ us) vs = ap (λ l. GotBits dir b u ∷ l) (bits-append dir b us vs)

pub tm_units-append : (config : Config) (dir : Dir) (b i : ℕ) (xs ys : List (List Bit)) → units_in config dir b i (xs ++ ys) ≡ units_in config dir b i xs ++ units_in config dir b i ys
tm_units-append config dir b i xs ys = ap (map (unit_in config dir b)) (filter-append (is_mine config dir b i) xs ys) ∙ mapped (filter (is_mine config dir b i) xs) (filter (is_mine config dir b i) ys)
  where
    mapped : (us vs : List (List Bit)) → map (unit_in config dir b) (us ++ vs) ≡ map (unit_in config dir b) us ++ map (unit_in config dir b) vs
    mapped [] vs = refl
    mapped (u ∷ us) vs = ap (λ l. unit_in config dir b u ∷ l) (mapped us vs)

-- the sender's part of an end: the units of the blocks that it gave, and those that wait
pub record Sender (sent : List (List Bit)) (bearing : Bearing) : Type 0 where
  pub waiting : Waiting
  pub accepted : List (List Bit)
  pub is : bearing ≡ Transparent waiting accepted
  pub given : accepted ≡ sent ++ waiting.units

gives_units : (config : Config) (dir : Dir) (b n : ℕ) (given : List (List Bit)) (old new : Bearing) (blocks : List (List Bit)) → Sender given old → Gives config dir b n old new blocks → Sender (given ++ map (unit_in config dir b) blocks) new
gives_units config dir b zero given old new blocks s g = record {
  waiting = s.waiting;
  accepted = s.accepted;
  is = g.0 ∙ s.is;
  given = s.given ∙ ap (λ l. l ++ s.waiting.units) (sym (ap (λ l. given ++ map (unit_in config dir b) l) g.1 ∙ append-nil given));
}
gives_units config dir b (suc n) given old new blocks s g =
    let built : Builds config dir b (Transparent s.waiting s.accepted) g.next g.block = subst (λ x. Builds config dir b x g.next g.block) s.is g.first in
    let read : unit_in config dir b g.block ≡ built.unit = ap (unit_in config dir b) built.block_is ∙ behind_field (ct_of config dir b) built.unit in
    let next : Sender (given ++ built.unit ∷ []) g.next = record {
      waiting = record { units = built.later; buffer = s.waiting.buffer; most = s.waiting.most };
      accepted = s.accepted;
      is = built.next_is;
      given = s.given ∙ ap (λ l. given ++ l) built.units ∙ sym (append_assoc given (built.unit ∷ []) built.later);
    } in
    let rest = gives_units config dir b n (given ++ built.unit ∷ []) g.next new g.rest next g.later in
    subst (λ l. Sender l new) (append_assoc given (built.unit ∷ []) (map (unit_in config dir b) g.rest) ∙ ap (λ p. given ++ p ∷ map (unit_in config dir b) g.rest) (sym read) ∙ ap (λ l. given ++ map (unit_in config dir b) l) (sym g.all)) rest

-- an end after blocks came on a channel: the units among them are reported
record Took (into : Dir) (b : ℕ) (v : Waiting) (us units : List (List Bit)) (new : Outcome) : Type 0 where
  bearing : new.layer.bearings b ≡ Transparent v us
  lines : lines_of b new.lines ≡ bits_lines into b units

one : (config : Config) (into : Dir) (b i : ℕ) (block : List Bit) (v : Waiting) (us : List (List Bit)) (layer : Layer) (to : Demux) → layer.bearings b ≡ Transparent v us → receiver config into i block ≡ to → Took into b v us (map (unit_in config into b) (cond (is_to b to) (block ∷ []) [])) (goes config into i block to layer)
one config into b i block v us layer (To c skip) e to = either (b == c)
    (λ q. let same : b ≡ c = number_same b c q in
    let goes_to : receiver config into i block ≡ To b skip = to ∙ ap (λ x. To x skip) (sym same) in
    let skips : skip ≡ field_bits (ct_of config into b) = receiver_skips config into i b skip block (receiver_has config into i b skip block goes_to) goes_to in
    subst (λ x. Took into b v us (map (unit_in config into b) (cond x (block ∷ []) [])) (goes config into i block (To c skip) layer)) (sym q)
    (subst (λ x. Took into b v us (unit_in config into b block ∷ []) (goes config into i block (To x skip) layer)) same
    (subst (λ x. Took into b v us (unit_in config into b block ∷ []) (goes config into i block (To b x) layer)) (sym skips) (mine e))))
    (λ q. let other : (c == b) ≡ false = other_number c b (λ f. let t : (b == c) ≡ true = same_number b c (sym f) in absurd (cc)) in
    subst (λ x. Took into b v us (map (unit_in config into b) (cond x (block ∷ []) [])) (goes config into i block (To c skip) layer)) (sym q)
    (record { bearing = rw q e; lines = other_hears config into b c (drop skip block) (layer.bearings c) other }))
  where
    mine : layer.bearings b ≡ Transparent v us → Took into b v us (unit_in config into b block ∷ []) (goes config into i block (To b (field_bits (ct_of config into b))) layer)
    mine e = record {
      bearing = rw (same_number b b refl) (ap (λ x. (hears config into b (drop (field_bits (ct_of config into b)) block) x).bearing) e);
      lines = ap (λ x. lines_of b (hears config into b (drop (field_bits (ct_of config into b)) block) x).lines) e ∙ rw (same_number b b refl) refl;
    }
one config into b i block v us layer Reserved e to = record { bearing = e; lines = refl }
one config into b i block v us layer (NoBearer ct) e to = record { bearing = e; lines = refl }
one config into b i block v us layer Nobody e to = record { bearing = e; lines = refl }

one_block : (config : Config) (into : Dir) (b i k : ℕ) (bits : List Bit) (good : Bool) (v : Waiting) (us : List (List Bit)) (layer : Layer) → layer.bearings b ≡ Transparent v us → Took into b v us (units_in config into b i (block_if good (has_bits bits) bits)) (takes_one config into i k bits good layer)
one_block config into b i k [] true v us layer e = record { bearing = e; lines = refl }
one_block config into b i k (bit ∷ bits) true v us layer e = one config into b i (bit ∷ bits) v us layer (receiver config into i (bit ∷ bits)) e refl
one_block config into b i k bits false v us layer e = record { bearing = e; lines = refl }

all_blocks : (config : Config) (into : Dir) (b i k : ℕ) (came : List Came) (v : Waiting) (us : List (List Bit)) (layer : Layer) → layer.bearings b ≡ Transparent v us → Took into b v us (units_in config into b i (good_blocks came)) (takes config into i k came layer)
all_blocks config into b i k [] v us layer e = record { bearing = e; lines = refl }
all_blocks config into b i k (c ∷ came) v us layer e =
    let first = block_if c.good (has_bits c.bits) c.bits in
    let t = one_block config into b i k c.bits c.good v us layer e in
    let u = all_blocks config into b i (k + 1) came v us (takes_one config into i k c.bits c.good layer).layer t.bearing in
    record {
      bearing = u.bearing;
      lines = lines-append b (takes_one config into i k c.bits c.good layer).lines _ ∙ ap₂ (λ x y. x ++ y) t.lines u.lines ∙ sym (bits-append into b (units_in config into b i first) (units_in config into b i (good_blocks came))) ∙ ap (bits_lines into b) (sym (tm_units-append config into b i first (good_blocks came)));
    }

-- a sender after something was done at its end
offered : (given : List (List Bit)) (bits : List Bit) (v : Waiting) (us : List (List Bit)) (o : Offer) (new : Bearing) → new ≡ Transparent (after_unit o bits v) (with_unit o bits us) → us ≡ given ++ v.units → Sender given new
offered given bits v us Accepted new is g = record { waiting = _; accepted = _; is = is; given = ap (λ l. l ++ bits ∷ []) g ∙ append_assoc given v.units (bits ∷ []) }
offered given bits v us Full new is g = record { waiting = _; accepted = _; is = is; given = g }
offered given bits v us WrongSize new is g = record { waiting = _; accepted = _; is = is; given = g }

same_sender : (given : List (List Bit)) (old new : Bearing) → new ≡ old → Sender given old → Sender (given ++ []) new
same_sender given old new e s = subst (λ l. Sender l new) (sym (append-nil given)) (subst (Sender given) (sym e) s)

pub sender_does : (config : Config) (out into : Dir) (b i : ℕ) (given : List (List Bit)) (old new : Layer) (doing : Doing) (lines : List Line) → AreApart config out i → channel_of config out b ≡ Some i → 1 ≤ (bearer_in config b).priority → (bearer_in config b).priority ≤ 8 → Does config out into old doing new lines → Sender given (old.bearings b) → Sender (given ++ units_in config out b i (given_by config out old doing new i)) (new.bearings b)
sender_does config out into b i given old new (Offers c octets bits) lines apart on low high d s = subst (λ l. Sender l (new.bearings b)) (sym (append-nil given)) (either (b == c)
    (λ q. let same : b ≡ c = number_same b c q in
    offered given bits s.waiting s.accepted (answers config out b octets bits (Transparent s.waiting s.accepted)) (new.bearings b)
    (ap (λ l. l.bearings b) d.0 ∙ rw q (sym (ap (λ x. after_answer (answers config out x octets bits (old.bearings x)) octets bits (old.bearings x)) same) ∙ ap (λ x. after_answer (answers config out b octets bits x) octets bits x) s.is))
    s.given)
    (λ q. subst (Sender given) (sym (ap (λ l. l.bearings b) d.0 ∙ rw q refl)) s))
sender_does config out into b i given old new (Blocks c on) lines apart is low high d s = same_sender given (old.bearings b) (new.bearings b) (ap (λ l. l.bearings b) d.0) s
sender_does config out into b i given old new Ticks lines apart is low high d s = same_sender given (old.bearings b) (new.bearings b) (ap (λ l. l.bearings b) d.0 ∙ ap (ticked config b) s.is ∙ sym s.is) s
sender_does config out into b i given old new (Says said) lines apart is low high d s = same_sender given (old.bearings b) (new.bearings b) (ap (λ l. l.bearings b) d.0) s
sender_does config out into b i given old new (Takes j came) lines apart on low high d s =
    let t = all_blocks config into b j 0 came s.waiting s.accepted old s.is in
    subst (λ l. Sender l (new.bearings b)) (sym (append-nil given)) (record { waiting = s.waiting; accepted = s.accepted; is = ap (λ l. l.bearings b) d.0 ∙ t.bearing; given = s.given })
sender_does config out into b i given old new (Starts cfn) lines apart on low high d s =
    let st : IsStart config out cfn old new = d.0 in
    subst (λ l. Sender (given ++ map (unit_in config out b) l) (new.bearings b)) (sym (start_mine config out cfn b i old new st apart on low high))
    (gives_units config out b (count_on (asked_in config out cfn old) new.running b (channel_of config out b)) given (old.bearings b) (new.bearings b) (st.built b) s (st.gives b))

-- a receiver
pub record Receiver (into : Dir) (b : ℕ) (units : List (List Bit)) (lines : List Line) (bearing : Bearing) : Type 0 where
  pub waiting : Waiting
  pub accepted : List (List Bit)
  pub is : bearing ≡ Transparent waiting accepted
  pub said : lines_of b lines ≡ bits_lines into b units

gives_keep : (config : Config) (dir : Dir) (b n : ℕ) (v : Waiting) (us : List (List Bit)) (old new : Bearing) (blocks : List (List Bit)) → old ≡ Transparent v us → Gives config dir b n old new blocks → Receiver dir b [] [] new
gives_keep config dir b zero v us old new blocks e g = record { waiting = v; accepted = us; is = g.0 ∙ e; said = refl }
gives_keep config dir b (suc n) v us old new blocks e g =
    let built : Builds config dir b (Transparent v us) g.next g.block = subst (λ x. Builds config dir b x g.next g.block) e g.first in
    gives_keep config dir b n (record { units = built.later; buffer = v.buffer; most = v.most }) us g.next new g.rest built.next_is g.later

pub receiver_does : (config : Config) (out into : Dir) (b i : ℕ) (v : Waiting) (us : List (List Bit)) (old new : Layer) (doing : Doing) (lines : List Line) → channel_of config into b ≡ Some i → Does config out into old doing new lines → old.bearings b ≡ Transparent v us → Receiver into b (units_in config into b i (taken_by doing i)) lines (new.bearings b)
receiver_does config out into b i v us old new (Offers c octets bits) lines on d e = either (b == c)
    (λ q. let same : b ≡ c = number_same b c q in record {
      waiting = after_unit (answers config out b octets bits (Transparent v us)) bits v;
      accepted = with_unit (answers config out b octets bits (Transparent v us)) bits us;
      is = ap (λ l. l.bearings b) d.0 ∙ rw q (sym (ap (λ x. after_answer (answers config out x octets bits (old.bearings x)) octets bits (old.bearings x)) same) ∙ ap (λ x. after_answer (answers config out b octets bits x) octets bits x) e);
      said = ap (lines_of b) d.1 ∙ answer_line out b c (answers config out c octets bits (old.bearings c));
    })
    (λ q. record { waiting = v; accepted = us; is = ap (λ l. l.bearings b) d.0 ∙ rw q e; said = ap (lines_of b) d.1 ∙ answer_line out b c (answers config out c octets bits (old.bearings c)) })
receiver_does config out into b i v us old new (Blocks c x) lines on d e = record { waiting = v; accepted = us; is = ap (λ l. l.bearings b) d.0 ∙ e; said = ap (lines_of b) d.1 }
receiver_does config out into b i v us old new Ticks lines on d e = record { waiting = v; accepted = us; is = ap (λ l. l.bearings b) d.0 ∙ ap (ticked config b) e; said = ap (lines_of b) d.1 }
receiver_does config out into b i v us old new (Says said) lines on d e = record { waiting = v; accepted = us; is = ap (λ l. l.bearings b) d.0 ∙ e; said = ap (lines_of b) d.1 ∙ d.2 b }
receiver_does config out into b i v us old new (Takes j came) lines on d e =
    let t = all_blocks config into b j 0 came v us old e in
    let same : units_in config into b i (taken_by (Takes j came) i) ≡ units_in config into b j (good_blocks came) = ap (map (unit_in config into b)) (taken_mine config into b i j came on) in
    subst (λ l. Receiver into b l lines (new.bearings b)) (sym same) (record { waiting = v; accepted = us; is = ap (λ l. l.bearings b) d.0 ∙ t.bearing; said = ap (lines_of b) d.1 ∙ t.lines })
receiver_does config out into b i v us old new (Starts cfn) lines on d e =
    let st : IsStart config out cfn old new = d.0 in
    let k = gives_keep config out b (count_on (asked_in config out cfn old) new.running b (channel_of config out b)) v us (old.bearings b) (new.bearings b) (st.built b) e (st.gives b) in
    record { waiting = k.waiting; accepted = k.accepted; is = k.is; said = ap (lines_of b) d.1 }

-- what is handed up, where some of the blocks came, and where all came but those on their way
sub_map : (f : List Bit → List Bit) (xs ys : List (List Bit)) → IsSublist xs ys → IsSublist (map f xs) (map f ys)
sub_map f [] ys h = tt
sub_map f (x ∷ xs) [] h = absurd h
sub_map f (x ∷ xs) (y ∷ ys) h = ⊎_elim (λ (p : (x ≡ y) × IsSublist xs ys). inl (ap f p.0, sub_map f xs ys p.1)) (λ (p : IsSublist (x ∷ xs) ys). inr (sub_map f (x ∷ xs) ys p)) h

pub sub_units : (config : Config) (out : Dir) (b i : ℕ) (log : Log) → IsFaithful log → IsSublist (units_in config out b i log.taken) (units_in config out b i log.given)
sub_units config out b i log faithful = sub_map (unit_in config out b) (filter (is_mine config out b i) log.taken) (filter (is_mine config out b i) log.given) (sub_filter (is_mine config out b i) log.taken log.given faithful)

pub tm_some : (config : Config) (out : Dir) (b i : ℕ) (g t : List (List Bit)) (w : World) → IsTmHistory config out b i g t w → IsSublist t g → IsFaithful (w.out i) → IsTmSome config out b i g t w
tm_some config out b i g t w h before faithful =
    let came = t ++ units_in config out b i (w.out i).taken in
    let sent = g ++ units_in config out b i (w.out i).given in
    record {
      near = h.near;
      handed = came;
      came = refl;
      lines = h.far.lines;
      some = subst (λ l. IsSublist came l) (sym h.near.given) (sub_more came sent h.near.waiting.units (sub_append t (units_in config out b i (w.out i).taken) g (units_in config out b i (w.out i).given) before (sub_units config out b i (w.out i) faithful)));
    }

pub tm_all_came : (config : Config) (out : Dir) (b i : ℕ) (g t : List (List Bit)) (w : World) (running : List (List Bit)) → IsTmHistory config out b i g t w → g ≡ t → (w.out i).given ≡ (w.out i).taken ++ running → IsTmCarried config out b i w.near.layer w.far.said running
tm_all_came config out b i g t w running h before e =
    let own = units_in config out b i (w.out i).taken in
    let left = units_in config out b i running in
    let all : g ++ units_in config out b i (w.out i).given ≡ (t ++ own) ++ left = ap₂ (λ x l. x ++ units_in config out b i l) before e ∙ ap (λ l. t ++ l) (tm_units-append config out b i (w.out i).taken running) ∙ sym (append_assoc t own left) in
    record {
      waiting = h.near.waiting;
      accepted = h.near.accepted;
      bearing = h.near.bearing;
      handed = t ++ own;
      lines = h.far.lines;
      all = h.near.given ∙ ap (λ l. l ++ h.near.waiting.units) all ∙ append_assoc (t ++ own) left h.near.waiting.units;
    }

pub tm_carried : (config : Config) (out : Dir) (b i : ℕ) (w : World) (running : List (List Bit)) → IsTmHistory config out b i [] [] w → (w.out i).given ≡ (w.out i).taken ++ running → IsTmCarried config out b i w.near.layer w.far.said running
tm_carried config out b i w running h e = tm_all_came config out b i [] [] w running h refl e
