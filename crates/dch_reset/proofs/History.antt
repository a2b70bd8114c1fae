-- Every history of two ends that can be reset keeps both directions.
use Rattle.std.proofs.Common.{◌≡◌, ◌+◌, ◌-◌, ◌<◌, ◌≤◌, ℕ, List, [], ◌∷◌, ◌++◌, Bool, true, false, cond, length, drop, Option, Some, None, is_some, arith, refl, sym, subst, ⊎_elim}
use Rattle.std.specs.Prelude.{◌==◌}
use Rattle.std.proofs.lemmas.Bool.{both_ways, cond_both}
use Rattle.std.proofs.lemmas.List.{append-nil}
use Rattle.dch_bits.specs.declared.offer.Offer.{Offer as OfferAnswer}
use Rattle.dch_bits.specs.declared.offer.Offer.TheVariants.{Accepted, Full, WrongSize}
use Rattle.dch_am.specs.Cuts.{AllFull, IsCut}
use Rattle.dch_am.specs.Discards.{tick_sender}
use Rattle.dch_am.specs.Entities.{Build as Builds, Tick as Ticks, turn, with_sender}
use Rattle.dch_am.specs.Restart.{begun, restarted_sender}
use Rattle.dch_am.specs.Rules.{Rules}
use Rattle.dch_am.specs.Sender.{Sender, after_offer, offered}
use Rattle.dch_am.proofs.Reading.{cut_unit}
use Rattle.dch_am.proofs.Restarting.{cut_full, cut_fresh, full_drop}
use Rattle.dch_amlaw.specs.Pair.{Block, End, Pair, Offer as PairOffer, Build as PairBuild, Arrive as PairArrive, Tick as PairTick, built, sent_on as pair_sent_on, stepped, takes, with_entity}
use Rattle.dch_amlaw.proofs.Direction.{reports}
use Rattle.dch_amlaw.proofs.History.{Both, both_near, both_turned}
use Rattle.dch_amlaw.proofs.Short.{turn_same}
use Rattle.dch_reset.specs.Ends.{Sent, Data, ResetPdu, ResetAckPdu, Pending, Stretch, ResetEnd, ResetPair, Built, turned, is_heard, is_asked, rsn_of, hfni_of, present, restarted, restarted_sides, taken_up, offers, labelled, builds_by, hears_data, hears, resets_by, ticked, ticks, Event, Offer, Build, Arrive, Lose, Tick, Reset, with_near, sent_on, sends, arrives, loses, happens_near, At, Near, Far, happens, after}
use Rattle.dch_reset.specs.Law.{IsCounted}
use Rattle.dch_reset.proofs.Lines.{data_of, behind, live, Labelled, same_itself, live_reset, live_ack, live_data, no_behind, live_none, labelled-append, labelled_none, labelled_no_ack, labelled_rest}
use Rattle.dch_reset.proofs.Asking.{Asks, asks_tick, asks_reset, asks_ack, asks_data, asked_reset, asked_data, asked_ack, asks_rest, asked_rest, asks_begins, IsNew, reset_comes, IsAnswer, answer_comes, never_idle}
use Rattle.dch_reset.proofs.Logs.{IsOf, Log, log_restarts, log_units, log_label, log_unit, log_no_unit, Goes_on, log_head, unit_goes_on, tick_goes_on, closing}
use Rattle.dch_reset.proofs.Sides.{pair_of, takes_accepted, Ticks as TicksKeep, ticks_keep, cut_ticks, both_begin, both_units, both_drops, both_empties}

-- an end as it is once it has restarted, where it is answered
abbrev pub sides_of : Rules → Option Bool → End → End
sides_of rules None e = e
sides_of rules (Some r) e = restarted_sides rules e

abbrev pub count_of : Option Bool → ℕ → ℕ
count_of None n = n
count_of (Some r) n = n + 1

abbrev pub senders_of : Option Bool → Sender → List Sender → List Sender
senders_of None s ss = ss
senders_of (Some r) s ss = s ∷ ss

abbrev pub labels_of : Option Bool → List ℕ → List ℕ
labels_of None labels = labels
labels_of (Some r) labels = []

abbrev pub stretches_of : Option Bool → Stretch → List Stretch → List Stretch
stretches_of None st sts = sts
stretches_of (Some r) st sts = st ∷ sts

abbrev pub LogOf : Rules → Option Bool → Option Bool → ResetEnd → ResetEnd → Type 0
LogOf rules a b from to = Log (count_of a from.restarts) (senders_of a from.sides.entity.sender from.senders) (sides_of rules a from.sides).entity.sender.accepted from.accepted (labels_of b to.labels) (stretches_of b (present to) to.stretches)

abbrev pub view : Rules → Option Bool → Option Bool → ResetEnd → ResetEnd → List Sent → List Sent → Pair
view rules a b near far out back = pair_of (sides_of rules a near.sides) (sides_of rules b far.sides) (live b out) (live a back)

abbrev pub CutOf : Sender → Type 0
CutOf s = IsCut s.accepted s.unsent s.bodies

-- a and b are the RSNs of the near and the far end where they are answered
pub record Kept (rules : Rules) (a b : Option Bool) (near far : ResetEnd) (out back : List Sent) : Type 0 where
  pub asks : Asks near.pending near.next_rsn far.heard a out back
  pub asked : Asks far.pending far.next_rsn near.heard b back out
  pub owes : near.owes ≡ true → is_some near.heard ≡ true
  pub owed : far.owes ≡ true → is_some far.heard ≡ true
  pub both : Both rules (view rules a b near far out back)
  pub near_cut : CutOf near.sides.entity.sender
  pub far_cut : CutOf far.sides.entity.sender
  pub out_labels : Labelled (count_of a near.restarts) b out
  pub back_labels : Labelled (count_of b far.restarts) a back
  pub out_log : LogOf rules a b near far
  pub back_log : LogOf rules b a far near
  pub near_counted : IsCounted near
  pub far_counted : IsCounted far

pub record Inv (rules : Rules) (p : ResetPair) : Type 0 where
  pub a : Option Bool
  pub b : Option Bool
  pub kept : Kept rules a b p.near p.far p.out p.back

pub inv_turned : (rules : Rules) (p : ResetPair) → Inv rules p → Inv rules (turned p)
inv_turned rules p i =
    let k = i.kept in
    record {
      a = i.b;
      b = i.a;
      kept = record { asks = k.asked; asked = k.asks; owes = k.owed; owed = k.owes; both = both_turned rules (view rules i.a i.b p.near p.far p.out p.back) k.both; near_cut = k.far_cut; far_cut = k.near_cut; out_labels = k.back_labels; back_labels = k.out_labels; out_log = k.back_log; back_log = k.out_log; near_counted = k.far_counted; far_counted = k.near_counted };
    }

-- An offer, by its answer.
abbrev offers_by : OfferAnswer → ResetEnd → List ℕ → ResetEnd
offers_by o near unit = record near { sides = with_entity near.sides (with_sender near.sides.entity (after_offer o near.sides.entity.sender unit)); accepted = near.accepted ++ taken_up o unit }

offer_log : (rules : Rules) (near far : ResetEnd) (b : Option Bool) (unit : List ℕ) (o : OfferAnswer) → LogOf rules None b near far → LogOf rules None b (offers_by o near unit) far
offer_log rules near far b unit Accepted l = log_unit near.restarts near.senders near.sides.entity.sender.accepted near.accepted unit (labels_of b far.labels) (stretches_of b (present far) far.stretches) l
offer_log rules near far b unit Full l = log_no_unit near.restarts near.senders near.sides.entity.sender.accepted near.accepted (labels_of b far.labels) (stretches_of b (present far) far.stretches) l
offer_log rules near far b unit WrongSize l = log_no_unit near.restarts near.senders near.sides.entity.sender.accepted near.accepted (labels_of b far.labels) (stretches_of b (present far) far.stretches) l

offer_full : (rules : Rules) (s : Sender) (u : List ℕ) → offered rules s u ≡ Accepted → 0 < length u
offer_full rules s [] q = absurd (cc)
offer_full rules s (x ∷ u) q = omega arith

same_sender : (s : Sender) → Goes_on s s []
same_sender s = tick_goes_on s s refl refl (λ i h. h)

offer_answered : (rules : Rules) (r : Bool) (b : Option Bool) (near far : ResetEnd) (out back : List Sent) (unit : List ℕ) (o : OfferAnswer) → offered rules near.sides.entity.sender unit ≡ o → Kept rules (Some r) b near far out back → Kept rules (Some r) b (offers_by o near unit) far out back
offer_answered rules r b near far out back unit Accepted e k = record {
  asks = k.asks;
  asked = k.asked;
  owes = k.owes;
  owed = k.owed;
  both = both_units rules near.sides now (sides_of rules b far.sides) (live b out) (behind r back) (cut_full now.entity.sender.accepted now.entity.sender.unsent now.entity.sender.bodies cut) k.both;
  near_cut = cut;
  far_cut = k.far_cut;
  out_labels = k.out_labels;
  back_labels = k.back_labels;
  out_log = log_head near.restarts near.sides.entity.sender now.entity.sender near.senders near.accepted (unit ∷ []) (labels_of b far.labels) (stretches_of b (present far) far.stretches) (unit_goes_on near.sides.entity.sender now.entity.sender unit k.near_cut refl refl refl) k.out_log;
  back_log = k.back_log;
  near_counted = record { stretches = k.near_counted.stretches; senders = k.near_counted.senders };
  far_counted = k.far_counted;
}
  where
    now : End
    now = (offers_by Accepted near unit).sides

    cut : CutOf (offers_by Accepted near unit).sides.entity.sender
    cut = cut_unit near.sides.entity.sender.accepted near.sides.entity.sender.unsent near.sides.entity.sender.bodies unit (offer_full rules near.sides.entity.sender unit e) k.near_cut
offer_answered rules r b near far out back unit Full e k = record {
  asks = k.asks;
  asked = k.asked;
  owes = k.owes;
  owed = k.owed;
  both = k.both;
  near_cut = k.near_cut;
  far_cut = k.far_cut;
  out_labels = k.out_labels;
  back_labels = k.back_labels;
  out_log = log_head near.restarts near.sides.entity.sender near.sides.entity.sender near.senders near.accepted [] (labels_of b far.labels) (stretches_of b (present far) far.stretches) (same_sender near.sides.entity.sender) k.out_log;
  back_log = k.back_log;
  near_counted = record { stretches = k.near_counted.stretches; senders = k.near_counted.senders };
  far_counted = k.far_counted;
}
offer_answered rules r b near far out back unit WrongSize e k = record {
  asks = k.asks;
  asked = k.asked;
  owes = k.owes;
  owed = k.owed;
  both = k.both;
  near_cut = k.near_cut;
  far_cut = k.far_cut;
  out_labels = k.out_labels;
  back_labels = k.back_labels;
  out_log = log_head near.restarts near.sides.entity.sender near.sides.entity.sender near.senders near.accepted [] (labels_of b far.labels) (stretches_of b (present far) far.stretches) (same_sender near.sides.entity.sender) k.out_log;
  back_log = k.back_log;
  near_counted = record { stretches = k.near_counted.stretches; senders = k.near_counted.senders };
  far_counted = k.far_counted;
}

kept_offers : (rules : Rules) (a b : Option Bool) (near far : ResetEnd) (out back : List Sent) (unit : List ℕ) → rules.window ≤ 2048 → Kept rules a b near far out back → Kept rules a b (offers rules near unit) far out back
kept_offers rules None b near far out back unit small k = record {
  asks = k.asks;
  asked = k.asked;
  owes = k.owes;
  owed = k.owed;
  both = both;
  near_cut = both.out.cut;
  far_cut = k.far_cut;
  out_labels = k.out_labels;
  back_labels = k.back_labels;
  out_log = offer_log rules near far b unit (offered rules near.sides.entity.sender unit) k.out_log;
  back_log = k.back_log;
  near_counted = record { stretches = k.near_counted.stretches; senders = k.near_counted.senders };
  far_counted = k.far_counted;
}
  where
    both : Both rules (view rules None b (offers rules near unit) far out back)
    both = both_near rules (view rules None b near far out back) (PairOffer unit) small k.both
kept_offers rules (Some r) b near far out back unit small k = offer_answered rules r b near far out back unit (offered rules near.sides.entity.sender unit) refl k

-- A tick.
asks_ticks : (p : Option Pending) (next : Bool) (h a : Option Bool) (out back : List Sent) → Asks p next h a out back → Asks (ticked p) next h a out back
asks_ticks None next h a out back f = f
asks_ticks (Some p) next h a out back f = asks_tick p.rsn p.rsn p.rst_timer (p.rst_timer - 1) next h a out back f

kept_ticks : (rules : Rules) (a b : Option Bool) (near far : ResetEnd) (out back : List Sent) → rules.window ≤ 2048 → Kept rules a b near far out back → Kept rules a b (ticks rules near) far out back
kept_ticks rules None b near far out back small k = record {
  asks = asks_ticks near.pending near.next_rsn far.heard None out back k.asks;
  asked = k.asked;
  owes = k.owes;
  owed = k.owed;
  both = both;
  near_cut = both.out.cut;
  far_cut = k.far_cut;
  out_labels = k.out_labels;
  back_labels = k.back_labels;
  out_log = log_units near.restarts near.senders near.sides.entity.sender.accepted (tick_sender rules near.sides.entity.sender).accepted near.accepted (labels_of b far.labels) (stretches_of b (present far) far.stretches) (ticks_keep rules near.sides.entity.sender).accepted k.out_log;
  back_log = k.back_log;
  near_counted = record { stretches = k.near_counted.stretches; senders = k.near_counted.senders };
  far_counted = k.far_counted;
}
  where
    both : Both rules (view rules None b (ticks rules near) far out back)
    both = both_near rules (view rules None b near far out back) PairTick small k.both
kept_ticks rules (Some r) b near far out back small k = record {
  asks = asks_ticks near.pending near.next_rsn far.heard (Some r) out back k.asks;
  asked = k.asked;
  owes = k.owes;
  owed = k.owed;
  both = both_units rules near.sides (stepped rules near.sides Ticks) (sides_of rules b far.sides) (live b out) (behind r back) (cut_full now.accepted now.unsent now.bodies cut) k.both;
  near_cut = cut;
  far_cut = k.far_cut;
  out_labels = k.out_labels;
  back_labels = k.back_labels;
  out_log = subst (λ us. Log (near.restarts + 1) (now ∷ near.senders) (drop (begun now) now.accepted) us (labels_of b far.labels) (stretches_of b (present far) far.stretches)) (append-nil near.accepted) (log_head near.restarts near.sides.entity.sender now near.senders near.accepted [] (labels_of b far.labels) (stretches_of b (present far) far.stretches) (tick_goes_on near.sides.entity.sender now t.bodies t.accepted t.discarded_units) k.out_log);
  back_log = k.back_log;
  near_counted = record { stretches = k.near_counted.stretches; senders = k.near_counted.senders };
  far_counted = k.far_counted;
}
  where
    now : Sender
    now = tick_sender rules near.sides.entity.sender

    t : TicksKeep near.sides.entity.sender (tick_sender rules near.sides.entity.sender)
    t = ticks_keep rules near.sides.entity.sender

    cut : CutOf (tick_sender rules near.sides.entity.sender)
    cut = cut_ticks near.sides.entity.sender (tick_sender rules near.sides.entity.sender) t k.near_cut

-- A reset begins.
inv_resets : (rules : Rules) (p : ResetPair) (q : Option Pending) → p.near.pending ≡ q → Inv rules p → Inv rules (with_near p (resets_by p.near q))
inv_resets rules p None e i =
    let k = i.kept in
    let c = asks_begins p.near.next_rsn p.far.heard i.a p.out p.back (subst (λ x. Asks x p.near.next_rsn p.far.heard i.a p.out p.back) e k.asks) in
    let n : Kept rules None i.b p.near p.far p.out p.back = subst (λ x. Kept rules x i.b p.near p.far p.out p.back) c.0 k in
    record {
      a = None;
      b = i.b;
      kept = record { asks = c.1; asked = n.asked; owes = n.owes; owed = n.owed; both = n.both; near_cut = n.near_cut; far_cut = n.far_cut; out_labels = n.out_labels; back_labels = n.back_labels; out_log = n.out_log; back_log = n.back_log; near_counted = record { stretches = n.near_counted.stretches; senders = n.near_counted.senders }; far_counted = n.far_counted };
    }
inv_resets rules p (Some q) e i = i

-- A block is lost, or it changes nothing.
kept_drops : (rules : Rules) (a b : Option Bool) (near far : ResetEnd) (out : List Sent) (f : Sent) (line : List Sent) → rules.window ≤ 2048 → Kept rules a b near far out (f ∷ line) → Kept rules a b near far out line
kept_drops rules a b near far out f line small k = record {
  asks = asked_rest near.pending near.next_rsn far.heard a f out line k.asks;
  asked = asks_rest far.pending far.next_rsn near.heard b f line out k.asked;
  owes = k.owes;
  owed = k.owed;
  both = both_drops rules (sides_of rules a near.sides) (sides_of rules b far.sides) (live b out) a f line small k.both;
  near_cut = k.near_cut;
  far_cut = k.far_cut;
  out_labels = k.out_labels;
  back_labels = labelled_rest (count_of b far.restarts) a f line k.back_labels;
  out_log = k.out_log;
  back_log = k.back_log;
  near_counted = record { stretches = k.near_counted.stretches; senders = k.near_counted.senders };
  far_counted = k.far_counted;
}

-- An end builds.
ack_asked : (p : Option Pending) (next : Bool) (h b : Option Bool) (back out : List Sent) (c : ℕ) → is_some h ≡ true → Asks p next h b back out → Asks p next h b back (out ++ ResetAckPdu (rsn_of h) c ∷ [])
ack_asked p next None b back out c e f = absurd (both_ways false refl e)
ack_asked p next (Some x) b back out c e f = asked_ack p next x b back out c f

kept_builds_ack : (rules : Rules) (a b : Option Bool) (near far : ResetEnd) (out back : List Sent) → near.owes ≡ true → Kept rules a b near far out back → Kept rules a b (record near { owes = false }) far (out ++ ResetAckPdu (rsn_of near.heard) (hfni_of near.restarts) ∷ []) back
kept_builds_ack rules a b near far out back e k = record {
  asks = asks_ack near.pending near.next_rsn far.heard a out back (rsn_of near.heard) (hfni_of near.restarts) k.asks;
  asked = ack_asked far.pending far.next_rsn near.heard b back out (hfni_of near.restarts) (k.owes e) k.asked;
  owes = λ q. absurd (both_ways false refl q);
  owed = k.owed;
  both = subst (λ l. Both rules (pair_of (sides_of rules a near.sides) (sides_of rules b far.sides) l (live a back))) (sym (live_ack b out (rsn_of near.heard) (hfni_of near.restarts))) k.both;
  near_cut = k.near_cut;
  far_cut = k.far_cut;
  out_labels = labelled-append (count_of a near.restarts) b out (ResetAckPdu (rsn_of near.heard) (hfni_of near.restarts) ∷ []) k.out_labels tt;
  back_labels = k.back_labels;
  out_log = k.out_log;
  back_log = k.back_log;
  near_counted = record { stretches = k.near_counted.stretches; senders = k.near_counted.senders };
  far_counted = k.far_counted;
}

kept_builds_reset : (rules : Rules) (a b : Option Bool) (near far : ResetEnd) (out back : List Sent) (p : Pending) → near.pending ≡ Some p → Kept rules a b near far out back → Kept rules a b (record near { pending = Some (record p { rst_timer = 30 }) }) far (out ++ ResetPdu p.rsn (hfni_of near.restarts) ∷ []) back
kept_builds_reset rules a b near far out back p e k = record {
  asks = asks_tick p.rsn p.rsn p.rst_timer 30 near.next_rsn far.heard a (out ++ ResetPdu p.rsn (hfni_of near.restarts) ∷ []) back (asks_reset p near.next_rsn far.heard a out back (hfni_of near.restarts) (subst (λ x. Asks x near.next_rsn far.heard a out back) e k.asks));
  asked = asked_reset far.pending far.next_rsn near.heard b back out p.rsn (hfni_of near.restarts) k.asked;
  owes = k.owes;
  owed = k.owed;
  both = subst (λ l. Both rules (pair_of (sides_of rules a near.sides) (sides_of rules b far.sides) l (live a back))) (sym (live_reset b out p.rsn (hfni_of near.restarts))) k.both;
  near_cut = k.near_cut;
  far_cut = k.far_cut;
  out_labels = labelled-append (count_of a near.restarts) b out (ResetPdu p.rsn (hfni_of near.restarts) ∷ []) k.out_labels tt;
  back_labels = k.back_labels;
  out_log = k.out_log;
  back_log = k.back_log;
  near_counted = record { stretches = k.near_counted.stretches; senders = k.near_counted.senders };
  far_counted = k.far_counted;
}

kept_steps : (rules : Rules) (b : Option Bool) (near far : ResetEnd) (out line back : List Sent) → Asks near.pending near.next_rsn far.heard None line back → Asks far.pending far.next_rsn near.heard b back line → Both rules (pair_of (stepped rules near.sides Builds) (sides_of rules b far.sides) (live b line) (data_of back)) → Labelled near.restarts b line → Kept rules None b near far out back → Kept rules None b (record near { sides = stepped rules near.sides Builds }) far line back
kept_steps rules b near far out line back asks asked both labels k = record {
  asks = asks;
  asked = asked;
  owes = k.owes;
  owed = k.owed;
  both = both;
  near_cut = both.out.cut;
  far_cut = k.far_cut;
  out_labels = labels;
  back_labels = k.back_labels;
  out_log = log_units near.restarts near.senders near.sides.entity.sender.accepted (stepped rules near.sides Builds).entity.sender.accepted near.accepted (labels_of b far.labels) (stretches_of b (present far) far.stretches) (turn_same (turn rules near.sides.entity.sender near.sides.entity.receiver) rules near.sides.octets near.sides.entity.sender) k.out_log;
  back_log = k.back_log;
  near_counted = record { stretches = k.near_counted.stretches; senders = k.near_counted.senders };
  far_counted = k.far_counted;
}

-- the pair without resets builds the same block
pair_built : (rules : Rules) (b : Option Bool) (near far : ResetEnd) (out back : List Sent) (o : Option Block) → rules.window ≤ 2048 → built rules near.sides ≡ o → Kept rules None b near far out back → Both rules (pair_of (stepped rules near.sides Builds) (sides_of rules b far.sides) (pair_sent_on (live b out) o) (data_of back))
pair_built rules b near far out back o small e k = subst (λ x. Both rules (pair_of (stepped rules near.sides Builds) (sides_of rules b far.sides) (pair_sent_on (live b out) x) (data_of back))) e (both_near rules (view rules None b near far out back) PairBuild small k.both)

kept_builds_data : (rules : Rules) (b : Option Bool) (near far : ResetEnd) (out back : List Sent) (o : Option Block) → rules.window ≤ 2048 → near.pending ≡ None → built rules near.sides ≡ o → Kept rules None b near far out back → Kept rules None b (record near { sides = stepped rules near.sides Builds }) far (sent_on out (labelled near.restarts o)) back
kept_builds_data rules b near far out back None small e q k = kept_steps rules b near far out out back k.asks k.asked (pair_built rules b near far out back None small q k) k.out_labels k
kept_builds_data rules b near far out back (Some block) small e q k =
    kept_steps rules b near far out (out ++ Data near.restarts block ∷ []) back
    (subst (λ x. Asks x near.next_rsn far.heard None (out ++ Data near.restarts block ∷ []) back) (sym e) (asks_data near.next_rsn far.heard None out back near.restarts block (subst (λ x. Asks x near.next_rsn far.heard None out back) e k.asks)))
    (asked_data far.pending far.next_rsn near.heard b back out near.restarts block k.asked)
    both
    (labelled-append near.restarts b out (Data near.restarts block ∷ []) k.out_labels (refl, tt))
    k
  where
    Now : List Block → Type 0
    Now line = Both rules (pair_of (stepped rules near.sides Builds) (sides_of rules b far.sides) line (data_of back))

    sent : Now (live b out ++ block ∷ [])
    sent = pair_built rules b near far out back (Some block) small q k

    both : Now (live b (out ++ Data near.restarts block ∷ []))
    both = ⊎_elim
        (λ (l : live b (out ++ Data near.restarts block ∷ []) ≡ live b out ++ block ∷ []). subst Now (sym l) sent)
        (λ (l : (live b out ≡ []) × (live b (out ++ Data near.restarts block ∷ []) ≡ [])). subst Now (sym l.1) (both_empties rules (stepped rules near.sides Builds) (sides_of rules b far.sides) (live b out ++ block ∷ []) (data_of back) small sent))
        (live_data b out near.restarts block)

inv_builds : (rules : Rules) (p : ResetPair) (owes : Bool) (q : Option Pending) → rules.window ≤ 2048 → p.near.owes ≡ owes → p.near.pending ≡ q → Inv rules p → Inv rules (sends p (builds_by rules p.near owes q))
inv_builds rules p true q small eo ep i = record { a = i.a; b = i.b; kept = kept_builds_ack rules i.a i.b p.near p.far p.out p.back eo i.kept }
inv_builds rules p false (Some q) small eo ep i = cond_both (q.rst_timer == 0) _ _ (λ (x : Built). Inv rules (sends p x))
    (λ _. record { a = i.a; b = i.b; kept = kept_builds_reset rules i.a i.b p.near p.far p.out p.back q ep i.kept })
    (λ _. i)
inv_builds rules p false None small eo ep i =
    let c : i.a ≡ None = never_idle p.near.next_rsn p.far.heard i.a p.out p.back (subst (λ x. Asks x p.near.next_rsn p.far.heard i.a p.out p.back) ep i.kept.asks) in
    record { a = None; b = i.b; kept = kept_builds_data rules i.b p.near p.far p.out p.back (built rules p.near.sides) small ep refl (subst (λ x. Kept rules x i.b p.near p.far p.out p.back) c i.kept) }

-- Data comes.
kept_data : (rules : Rules) (b : Option Bool) (near far : ResetEnd) (out : List Sent) (label : ℕ) (block : Block) (line : List Sent) → rules.window ≤ 2048 → Kept rules None b near far out (Data label block ∷ line) → Kept rules None b (hears_data rules near None label block) far out line
kept_data rules b near far out label block line small k = record {
  asks = asked_rest near.pending near.next_rsn far.heard None (Data label block) out line k.asks;
  asked = asks_rest far.pending far.next_rsn near.heard b (Data label block) line out k.asked;
  owes = k.owes;
  owed = k.owed;
  both = both;
  near_cut = both.out.cut;
  far_cut = k.far_cut;
  out_labels = k.out_labels;
  back_labels = labelled_rest (count_of b far.restarts) None (Data label block) line k.back_labels;
  out_log = log_units near.restarts near.senders near.sides.entity.sender.accepted (takes rules near.sides block).entity.sender.accepted near.accepted (labels_of b far.labels) (stretches_of b (present far) far.stretches) (takes_accepted rules near.sides block) k.out_log;
  back_log = log_label (count_of b far.restarts) label (senders_of b far.sides.entity.sender far.senders) (sides_of rules b far.sides).entity.sender.accepted far.accepted near.labels near.stretches k.back_labels.0 k.back_log;
  near_counted = record { stretches = k.near_counted.stretches; senders = k.near_counted.senders };
  far_counted = k.far_counted;
}
  where
    both : Both rules (view rules None b (hears_data rules near None label block) far out line)
    both = both_near rules (view rules None b near far out (Data label block ∷ line)) PairArrive small k.both

-- A new RESET comes: both ends count as restarted.
pub near_closes : (rules : Rules) (a : Option Bool) (near far : ResetEnd) (out back : List Sent) → Both rules (view rules a None near far out back) → IsOf (sides_of rules a near.sides).entity.sender (present far)
near_closes rules a near far out back both = closing rules (sides_of rules a near.sides) far.sides (data_of out) (reports (live a back)) far.labels both.out both.out_hands both.out_lost

new_out_log : (rules : Rules) (a : Option Bool) (near far : ResetEnd) (x : Bool) → IsOf (sides_of rules a near.sides).entity.sender (present far) → LogOf rules a None near far → LogOf rules a (Some x) (record (restarted rules near) { heard = Some x; owes = true }) far
new_out_log rules None near far x is l = log_restarts near.restarts near.sides.entity.sender near.senders near.accepted (present far) far.stretches is l
new_out_log rules (Some r) near far x is l = log_restarts (near.restarts + 1) (restarted_sender near.sides.entity.sender) (near.sides.entity.sender ∷ near.senders) near.accepted (present far) far.stretches is l

new_back_log : (rules : Rules) (a : Option Bool) (near far : ResetEnd) (out back : List Sent) (x : Bool) → Both rules (view rules a None near far out back) → LogOf rules None a far near → LogOf rules (Some x) a far (record (restarted rules near) { heard = Some x; owes = true })
new_back_log rules None near far out back x both l = log_restarts far.restarts far.sides.entity.sender far.senders far.accepted (present near) near.stretches (closing rules far.sides near.sides (data_of back) (reports (data_of out)) near.labels both.back both.back_hands both.back_lost) l
new_back_log rules (Some r) near far out back x both l = log_restarts far.restarts far.sides.entity.sender far.senders far.accepted (present (restarted rules near)) (present near ∷ near.stretches) (closing rules far.sides (restarted_sides rules near.sides) (behind r back) (reports (data_of out)) [] both.back both.back_hands both.back_lost) l

new_begins : (rules : Rules) (a : Option Bool) (near far : End) → AllFull near.entity.sender.accepted → AllFull far.entity.sender.accepted → Both rules (pair_of (sides_of rules a (restarted_sides rules near)) (restarted_sides rules far) [] [])
new_begins rules None near far f g = both_begin rules near far f g
new_begins rules (Some r) near far f g = both_begin rules (restarted_sides rules near) far (full_drop (begun near.entity.sender) near.entity.sender.accepted f) g

counted : (rules : Rules) (e : ResetEnd) → IsCounted e → IsCounted (restarted rules e)
counted rules e c = record { stretches = omega (arith, c.stretches); senders = omega (arith, c.senders) }

kept_new : (rules : Rules) (a : Option Bool) (near far : ResetEnd) (out : List Sent) (x : Bool) (c : ℕ) (line : List Sent) → IsNew far.pending far.next_rsn None x line out → Kept rules a None near far out (ResetPdu x c ∷ line) → Kept rules a (Some x) (record (restarted rules near) { heard = Some x; owes = true }) far out line
kept_new rules a near far out x c line new k = record {
  asks = asked_rest near.pending near.next_rsn far.heard a (ResetPdu x c) out line k.asks;
  asked = new.answered;
  owes = λ q. refl;
  owed = k.owed;
  both = subst (λ l. Both rules (pair_of (sides_of rules a (restarted_sides rules near.sides)) (restarted_sides rules far.sides) l (live a line))) (sym (no_behind x out new.unanswered)) (subst (λ l. Both rules (pair_of (sides_of rules a (restarted_sides rules near.sides)) (restarted_sides rules far.sides) [] l)) (sym (live_none a line new.still)) (new_begins rules a near.sides far.sides near_full (cut_full far.sides.entity.sender.accepted far.sides.entity.sender.unsent far.sides.entity.sender.bodies k.far_cut)));
  near_cut = cut_fresh (drop (begun near.sides.entity.sender) near.sides.entity.sender.accepted) (full_drop (begun near.sides.entity.sender) near.sides.entity.sender.accepted near_full);
  far_cut = k.far_cut;
  out_labels = labelled_no_ack (count_of a (near.restarts + 1)) x out new.unanswered;
  back_labels = labelled_none (far.restarts + 1) a line new.still;
  out_log = new_out_log rules a near far x (near_closes rules a near far out (ResetPdu x c ∷ line) k.both) k.out_log;
  back_log = new_back_log rules a near far out (ResetPdu x c ∷ line) x k.both k.back_log;
  near_counted = record { stretches = (counted rules near k.near_counted).stretches; senders = (counted rules near k.near_counted).senders };
  far_counted = k.far_counted;
}
  where
    near_full : AllFull near.sides.entity.sender.accepted
    near_full = cut_full near.sides.entity.sender.accepted near.sides.entity.sender.unsent near.sides.entity.sender.bodies k.near_cut

-- The answer comes: the end restarts, as it counts already.
kept_answer : (rules : Rules) (b : Option Bool) (near far : ResetEnd) (out : List Sent) (x : Bool) (c : ℕ) (line : List Sent) → IsAnswer near.next_rsn far.heard (Some x) x out line → Kept rules (Some x) b near far out (ResetAckPdu x c ∷ line) → Kept rules None b (record (restarted rules near) { pending = None }) far out line
kept_answer rules b near far out x c line answer k = record {
  asks = answer.idle;
  asked = asks_rest far.pending far.next_rsn near.heard b (ResetAckPdu x c) line out k.asked;
  owes = k.owes;
  owed = k.owed;
  both = subst (λ t. Both rules (pair_of (restarted_sides rules near.sides) (sides_of rules b far.sides) (live b out) (cond t (data_of line) (behind x line)))) (same_itself x) k.both;
  near_cut = cut_fresh (drop (begun near.sides.entity.sender) near.sides.entity.sender.accepted) (full_drop (begun near.sides.entity.sender) near.sides.entity.sender.accepted (cut_full near.sides.entity.sender.accepted near.sides.entity.sender.unsent near.sides.entity.sender.bodies k.near_cut));
  far_cut = k.far_cut;
  out_labels = k.out_labels;
  back_labels = k.back_labels.0 (same_itself x);
  out_log = k.out_log;
  back_log = k.back_log;
  near_counted = record { stretches = (counted rules near k.near_counted).stretches; senders = (counted rules near k.near_counted).senders };
  far_counted = k.far_counted;
}

-- A block arrives.
inv_data : (rules : Rules) (near far : ResetEnd) (out : List Sent) (label : ℕ) (block : Block) (line : List Sent) (q : Option Pending) (i : Inv rules (record { near = near; far = far; out = out; back = Data label block ∷ line })) → rules.window ≤ 2048 → near.pending ≡ q → Inv rules (record { near = hears_data rules near q label block; far = far; out = out; back = line })
inv_data rules near far out label block line (Some q) i small e = record { a = i.a; b = i.b; kept = kept_drops rules i.a i.b near far out (Data label block) line small i.kept }
inv_data rules near far out label block line None i small e =
    let c : i.a ≡ None = never_idle near.next_rsn far.heard i.a out (Data label block ∷ line) (subst (λ x. Asks x near.next_rsn far.heard i.a out (Data label block ∷ line)) e i.kept.asks) in
    record { a = None; b = i.b; kept = kept_data rules i.b near far out label block line small (subst (λ x. Kept rules x i.b near far out (Data label block ∷ line)) c i.kept) }

heard_some : (h : Option Bool) (x : Bool) → is_heard h x ≡ true → is_some h ≡ true
heard_some None x e = absurd (both_ways false refl e)
heard_some (Some h) x e = refl

owes_again : (rules : Rules) (a b : Option Bool) (near far : ResetEnd) (out back : List Sent) → is_some near.heard ≡ true → Kept rules a b near far out back → Kept rules a b (record near { owes = true }) far out back
owes_again rules a b near far out back e k = record { asks = k.asks; asked = k.asked; owes = λ q. e; owed = k.owed; both = k.both; near_cut = k.near_cut; far_cut = k.far_cut; out_labels = k.out_labels; back_labels = k.back_labels; out_log = k.out_log; back_log = k.back_log; near_counted = record { stretches = k.near_counted.stretches; senders = k.near_counted.senders }; far_counted = k.far_counted }

inv_reset : (rules : Rules) (near far : ResetEnd) (out : List Sent) (x : Bool) (c : ℕ) (line : List Sent) (i : Inv rules (record { near = near; far = far; out = out; back = ResetPdu x c ∷ line })) → rules.window ≤ 2048 → Inv rules (record { near = hears rules near (ResetPdu x c); far = far; out = out; back = line })
inv_reset rules near far out x c line i small = cond_both (is_heard near.heard x) _ _ (λ (e : ResetEnd). Inv rules (record { near = e; far = far; out = out; back = line }))
    (λ e. record { a = i.a; b = i.b; kept = owes_again rules i.a i.b near far out line (heard_some near.heard x e) (kept_drops rules i.a i.b near far out (ResetPdu x c) line small i.kept) })
    (λ e.
    let n = reset_comes far.pending far.next_rsn near.heard i.b x c line out e i.kept.asked in
    record {
      a = i.a;
      b = Some x;
      kept = kept_new rules i.a near far out x c line (subst (λ y. IsNew far.pending far.next_rsn y x line out) n.none n) (subst (λ y. Kept rules i.a y near far out (ResetPdu x c ∷ line)) n.none i.kept);
    })

inv_answer : (rules : Rules) (near far : ResetEnd) (out : List Sent) (x : Bool) (c : ℕ) (line : List Sent) (q : Option Pending) (i : Inv rules (record { near = near; far = far; out = out; back = ResetAckPdu x c ∷ line })) → rules.window ≤ 2048 → near.pending ≡ q → is_asked q x ≡ true → Inv rules (record { near = record (restarted rules near) { pending = None }; far = far; out = out; back = line })
inv_answer rules near far out x c line None i small e t = absurd (both_ways false refl t)
inv_answer rules near far out x c line (Some q) i small e t =
    let n = answer_comes q near.next_rsn far.heard i.a x c out line t (subst (λ y. Asks y near.next_rsn far.heard i.a out (ResetAckPdu x c ∷ line)) e i.kept.asks) in
    record {
      a = None;
      b = i.b;
      kept = kept_answer rules i.b near far out x c line (subst (λ y. IsAnswer near.next_rsn far.heard y x out line) n.some n) (subst (λ y. Kept rules y i.b near far out (ResetAckPdu x c ∷ line)) n.some i.kept);
    }

inv_ack : (rules : Rules) (near far : ResetEnd) (out : List Sent) (x : Bool) (c : ℕ) (line : List Sent) (i : Inv rules (record { near = near; far = far; out = out; back = ResetAckPdu x c ∷ line })) → rules.window ≤ 2048 → Inv rules (record { near = hears rules near (ResetAckPdu x c); far = far; out = out; back = line })
inv_ack rules near far out x c line i small = cond_both (is_asked near.pending x) _ _ (λ (e : ResetEnd). Inv rules (record { near = e; far = far; out = out; back = line }))
    (λ e. inv_answer rules near far out x c line near.pending i small refl e)
    (λ e. record { a = i.a; b = i.b; kept = kept_drops rules i.a i.b near far out (ResetAckPdu x c) line small i.kept })

inv_line : (rules : Rules) (p : ResetPair) (line : List Sent) → p.back ≡ line → Inv rules p → Inv rules (record { near = p.near; far = p.far; out = p.out; back = line })
inv_line rules p line e i = subst (λ l. Inv rules (record { near = p.near; far = p.far; out = p.out; back = l })) e i

inv_arrives : (rules : Rules) (p : ResetPair) (line : List Sent) → rules.window ≤ 2048 → p.back ≡ line → Inv rules p → Inv rules (arrives rules p line)
inv_arrives rules p [] small e i = i
inv_arrives rules p (Data label block ∷ line) small e i = inv_data rules p.near p.far p.out label block line p.near.pending (inv_line rules p (Data label block ∷ line) e i) small refl
inv_arrives rules p (ResetPdu x c ∷ line) small e i = inv_reset rules p.near p.far p.out x c line (inv_line rules p (ResetPdu x c ∷ line) e i) small
inv_arrives rules p (ResetAckPdu x c ∷ line) small e i = inv_ack rules p.near p.far p.out x c line (inv_line rules p (ResetAckPdu x c ∷ line) e i) small

inv_loses : (rules : Rules) (p : ResetPair) (line : List Sent) → rules.window ≤ 2048 → p.back ≡ line → Inv rules p → Inv rules (loses p line)
inv_loses rules p [] small e i = i
inv_loses rules p (f ∷ line) small e i = let j = inv_line rules p (f ∷ line) e i in record { a = j.a; b = j.b; kept = kept_drops rules j.a j.b p.near p.far p.out f line small j.kept }

-- Every event.
inv_near : (rules : Rules) (p : ResetPair) (e : Event) → rules.window ≤ 2048 → Inv rules p → Inv rules (happens_near rules p e)
inv_near rules p (Offer unit) small i = record { a = i.a; b = i.b; kept = kept_offers rules i.a i.b p.near p.far p.out p.back unit small i.kept }
inv_near rules p Build small i = inv_builds rules p p.near.owes p.near.pending small refl refl i
inv_near rules p Arrive small i = inv_arrives rules p p.back small refl i
inv_near rules p Lose small i = inv_loses rules p p.back small refl i
inv_near rules p Tick small i = record { a = i.a; b = i.b; kept = kept_ticks rules i.a i.b p.near p.far p.out p.back small i.kept }
inv_near rules p Reset small i = inv_resets rules p p.near.pending refl i

inv_happens : (rules : Rules) (p : ResetPair) (e : At) → rules.window ≤ 2048 → Inv rules p → Inv rules (happens rules p e)
inv_happens rules p (Near e) small i = inv_near rules p e small i
inv_happens rules p (Far e) small i = inv_turned rules (happens_near rules (turned p) e) (inv_near rules (turned p) e small (inv_turned rules p i))

pub inv_after : (rules : Rules) (events : List At) (p : ResetPair) → rules.window ≤ 2048 → Inv rules p → Inv rules (after rules p events)
inv_after rules [] p small i = i
inv_after rules (e ∷ events) p small i = inv_after rules events (happens rules p e) small (inv_happens rules p e small i)
