-- What holds after every history.
use Rattle.std.proofs.Common.{◌≡◌, ◌+◌, ◌-◌, ◌<◌, ◌≤◌, ℕ, suc, List, [], ◌∷◌, ◌++◌, Bool, true, false, ◌&&◌, not, length, take, drop, Option, Some, None, is_some, arith, refl, sym, ap, ◌∙◌, subst, inl, inr, ⊎_elim, length-take}
use Rattle.std.specs.Prelude.{◌==◌}
use Rattle.std.proofs.lemmas.Bool.{both_ways, cond-true, cond-false, eqb-true, eq-eqb, false_from_ne_true, cases_lt}
use Rattle.std.proofs.lemmas.List.{append-nil, take-append-drop}
use Rattle.dch_am.specs.Bodies.{ends}
use Rattle.dch_am.specs.Restart.{octets_in, begun}
use Rattle.dch_am.specs.Rules.{Rules}
use Rattle.dch_am.specs.Sender.{Sender, opened_sender}
use Rattle.dch_am.proofs.Reading.{cut_begins}
use Rattle.dch_am.proofs.Restarting.{begun_few}
use Rattle.dch_amlaw.specs.Pair.{Block, answers_outside as block_outside, picked}
use Rattle.dch_amlaw.proofs.History.{inside, opened_both}
use Rattle.dch_reset.specs.Ends.{Sent, Data, ResetPdu, ResetAckPdu, Pending, Stretch, ResetEnd, ResetPair, At, opened, after, present}
use Rattle.dch_reset.specs.Law.{AllAre, NoneMissing, front_outside, at_label, sender_at, AreLevel, IsStretch, AreStretches, handed_in, handed, begun_before, those, IsInOrder, IsDelivered, IsSafe}
use Rattle.dch_reset.proofs.Asking.{Asks, never_idle}
use Rattle.dch_reset.proofs.Lines.{data_of}
use Rattle.dch_reset.proofs.Units.{none_picked, take_nothing, those_none, those_push, joint, joint_high, those_joint}
use Rattle.dch_reset.proofs.Logs.{IsOf, From, from_stretch, AllPast, past_long, split}
use Rattle.dch_reset.proofs.History.{count_of, senders_of, stretches_of, LogOf, view, Kept, Inv, near_closes, inv_turned, inv_after}

-- Stretches.
not_this : (label n : ℕ) → label < n → (label == n) ≡ false
not_this label n l = false_from_ne_true _ (λ (q : (label == n) ≡ true). omega (arith, eqb-true label n q))

at_this : (s : Sender) (ss : List Sender) → at_label (s ∷ ss) (length ss) ≡ s
at_this s ss = cond-true (length ss == length ss) _ _ (eq-eqb (length ss) (length ss) refl)

at_lower : (s : Sender) (ss : List Sender) (label : ℕ) → label < length ss → at_label (s ∷ ss) label ≡ at_label ss label
at_lower s ss label l = cond-false (label == length ss) _ _ (not_this label (length ss) l)

at_beyond : (ss : List Sender) (label : ℕ) → length ss ≤ label → at_label ss label ≡ opened_sender
at_beyond [] label l = refl
at_beyond (s ∷ ss) label l = cond-false (label == length ss) _ _ (false_from_ne_true _ (λ (q : (label == length ss) ≡ true). omega (arith, eqb-true label (length ss) q))) ∙ at_beyond ss label (omega arith)

of_label : (from : ResetEnd) (st : Stretch) (label : ℕ) (s : Sender) → sender_at from label ≡ s → AllAre label st.labels → IsOf s st → IsStretch from label st
of_label from st label s e one is = record {
  one_label = one;
  in_order = is.units ∙ ap (λ (x : Sender). picked x.bodies st.spans 0 x.accepted) (sym e);
  none_lost = subst (λ (x : Sender). NoneMissing x st.spans st.missing) (sym e) is.none_lost;
}

stretches_are : (from : ResetEnd) (ss : List Sender) (sts : List Stretch) → ((label : ℕ) → label < length ss → sender_at from label ≡ at_label ss label) → AllPast ss sts → AreStretches from sts
stretches_are from [] [] look f = tt
stretches_are from [] (st ∷ sts) look f = absurd f
stretches_are from (s ∷ ss) [] look f = absurd f
stretches_are from (s ∷ ss) (st ∷ sts) look f = (
  subst (λ n. IsStretch from n st) (past_long ss sts f.1) (of_label from st (length ss) s (look (length ss) (omega arith) ∙ at_this s ss) f.0.one_label f.0.is),
  stretches_are from ss sts (λ label l. look label (omega arith) ∙ at_lower s ss label l) f.1,
)

look_at : (a : Option Bool) (from : ResetEnd) (label : ℕ) → label < length (senders_of a from.sides.entity.sender from.senders) → sender_at from label ≡ at_label (senders_of a from.sides.entity.sender from.senders) label
look_at None from label l = at_lower from.sides.entity.sender from.senders label l
look_at (Some r) from label l = refl

-- the stretch that is open: where the other end is answered, nothing was taken in it
open_stretch : (rules : Rules) (a : Option Bool) (near far : ResetEnd) (out back : List Sent) → Kept rules a None near far out back → IsStretch near (length (senders_of a near.sides.entity.sender near.senders)) (present far)
open_stretch rules None near far out back k = of_label near (present far) (length near.senders) near.sides.entity.sender (at_this near.sides.entity.sender near.senders) (subst (λ n. AllAre n far.labels) (sym k.out_log.long) k.out_log.now) (near_closes rules None near far out back k.both)
open_stretch rules (Some r) near far out back k =
    let e : sender_at near (suc (length near.senders)) ≡ opened_sender = at_beyond (near.sides.entity.sender ∷ near.senders) (suc (length near.senders)) (omega arith) in
    record {
      one_label = subst (λ n. AllAre n far.labels) (sym k.out_log.long) k.out_log.now;
      in_order = (near_closes rules (Some r) near far out back k.both).units ∙ none_picked far.sides.spans _ ∙ sym (ap (λ (x : Sender). picked x.bodies far.sides.spans 0 x.accepted) e);
      none_lost = λ i l. absurd (omega (arith, take_nothing (present far).missing, subst (λ (x : Sender). i < ends (take (present far).missing x.bodies)) e l));
    }

stretches_of_end : (rules : Rules) (a b : Option Bool) (near far : ResetEnd) (out back : List Sent) → Kept rules a b near far out back → AreStretches near (present far ∷ far.stretches)
stretches_of_end rules a None near far out back k = (
  subst (λ n. IsStretch near n (present far)) (past_long (senders_of a near.sides.entity.sender near.senders) far.stretches k.out_log.done) (open_stretch rules a near far out back k),
  stretches_are near (senders_of a near.sides.entity.sender near.senders) far.stretches (look_at a near) k.out_log.done,
)
stretches_of_end rules a (Some q) near far out back k = stretches_are near (senders_of a near.sides.entity.sender near.senders) (present far ∷ far.stretches) (look_at a near) k.out_log.done

-- Units: of the senders before the last restart, and of the present one.
from_nothing : (s : Sender) → From s []
from_nothing s = record {
  at = λ i. false;
  units_are = sym (those_none (λ i. false) 0 0 s.accepted (λ j h. absurd (both_ways false refl h)) (omega arith));
  inside = λ i h. absurd (both_ways false refl h);
  passed = λ i j l h no. absurd (both_ways false refl h);
}

pub record Split (senders : List Sender) (s : Sender) (units : List (List ℕ)) : Type 0 where
  pub sts : List Stretch
  pub mine : List (List ℕ)
  pub parts : units ≡ handed_in sts ++ mine
  pub earlier : AllPast senders sts
  pub from : From s mine

split_past : (s : Sender) (ss : List Sender) (sts : List Stretch) → AllPast (s ∷ ss) sts → Split ss s (handed_in sts)
split_past s ss [] f = absurd f
split_past s ss (st ∷ sts) f = record { sts = sts; mine = st.units; parts = refl; earlier = f.1; from = from_stretch s st f.0.is }

split_of : (rules : Rules) (a b : Option Bool) (near far : ResetEnd) (out back : List Sent) → Kept rules a b near far out back → Split near.senders near.sides.entity.sender (handed far)
split_of rules None None near far out back k = record { sts = far.stretches; mine = far.sides.entity.receiver.reading.units; parts = refl; earlier = k.out_log.done; from = from_stretch near.sides.entity.sender (present far) (near_closes rules None near far out back k.both) }
split_of rules None (Some q) near far out back k = record { sts = present far ∷ far.stretches; mine = []; parts = sym (append-nil (handed far)); earlier = k.out_log.done; from = from_nothing near.sides.entity.sender }
split_of rules (Some r) None near far out back k = subst (Split near.senders near.sides.entity.sender) (sym (ap (λ us. handed_in far.stretches ++ us) ((near_closes rules (Some r) near far out back k.both).units ∙ none_picked far.sides.spans _) ∙ append-nil (handed_in far.stretches))) (split_past near.sides.entity.sender near.senders far.stretches k.out_log.done)
split_of rules (Some r) (Some q) near far out back k = split_past near.sides.entity.sender near.senders (present far ∷ far.stretches) k.out_log.done

accepted_of : (rules : Rules) (a b : Option Bool) (near far : ResetEnd) → LogOf rules a b near far → near.accepted ≡ begun_before near.senders ++ near.sides.entity.sender.accepted
accepted_of rules None b near far l = l.accepted
accepted_of rules (Some r) b near far l = l.accepted ∙ split (begun_before near.senders) near.sides.entity.sender.accepted (begun near.sides.entity.sender)

pub record Places (all units : List (List ℕ)) : Type 0 where
  pub at : ℕ → Bool
  pub units_are : units ≡ those at 0 all

front_places : (s : Sender) (units : List (List ℕ)) (f : From s units) → units ≡ those f.at 0 (take (begun s) s.accepted)
front_places s units f =
    f.units_are
    ∙ sym (ap (those f.at 0) (take-append-drop (begun s) s.accepted))
    ∙ those_push f.at (begun s) 0 (take (begun s) s.accepted) (drop (begun s) s.accepted) f.inside (omega (arith, length-take (begun s) s.accepted, begun_few (octets_in s.bodies) s.accepted))

places : (ss : List Sender) (sts : List Stretch) → AllPast ss sts → Places (begun_before ss) (handed_in sts)
places [] [] f = record { at = λ i. false; units_are = refl }
places [] (st ∷ sts) f = absurd f
places (s ∷ ss) [] f = absurd f
places (s ∷ ss) (st ∷ sts) f =
    let p = places ss sts f.1 in
    let g = from_stretch s st f.0.is in
    record {
      at = joint p.at (length (begun_before ss)) g.at;
      units_are = ap (λ us. us ++ st.units) p.units_are ∙ ap (λ us. those p.at 0 (begun_before ss) ++ us) (front_places s st.units g) ∙ sym (those_joint p.at g.at (begun_before ss) (take (begun s) s.accepted));
    }

in_order : (near far : ResetEnd) → near.accepted ≡ begun_before near.senders ++ near.sides.entity.sender.accepted → Split near.senders near.sides.entity.sender (handed far) → IsInOrder near far
in_order near far e p =
    let f = places near.senders p.sts p.earlier in
    record {
      accepted = e;
      at = joint f.at (length (begun_before near.senders)) p.from.at;
      units = p.parts ∙ ap (λ us. us ++ p.mine) f.units_are ∙ ap (λ us. those f.at 0 (begun_before near.senders) ++ us) p.from.units_are ∙ sym (those_joint f.at p.from.at (begun_before near.senders) near.sides.entity.sender.accepted) ∙ ap (those (joint f.at (length (begun_before near.senders)) p.from.at) 0) (sym e);
      passed = λ i j l h no. ⊎_elim
          (λ (m : i < length (begun_before near.senders)). inl m)
          (λ (m : length (begun_before near.senders) ≤ i). inr (p.from.passed (i - length (begun_before near.senders)) (j - length (begun_before near.senders)) (omega arith) (sym (joint_high f.at (length (begun_before near.senders)) p.from.at j (omega arith)) ∙ h) (sym (joint_high f.at (length (begun_before near.senders)) p.from.at i m) ∙ no)))
          (cases_lt i (length (begun_before near.senders)));
    }

delivered : (rules : Rules) (a b : Option Bool) (near far : ResetEnd) (out back : List Sent) → Kept rules a b near far out back → IsDelivered near far
delivered rules a b near far out back k = record {
  stretches = stretches_of_end rules a b near far out back k;
  in_all = in_order near far (accepted_of rules a b near far k.out_log) (split_of rules a b near far out back k);
}

-- How often the two ends have restarted.
long_of : (a : Option Bool) (e : ResetEnd) → length e.stretches ≡ e.restarts → length (stretches_of a (present e) e.stretches) ≡ count_of a e.restarts
long_of None e l = l
long_of (Some r) e l = omega arith

count_low : (a : Option Bool) (n : ℕ) → n ≤ count_of a n
count_low None n = omega arith
count_low (Some r) n = omega arith

count_high : (a : Option Bool) (n : ℕ) → count_of a n ≤ n + 1
count_high None n = omega arith
count_high (Some r) n = omega arith

-- those that are answered counted as restarted, equally often
same_count : (rules : Rules) (a b : Option Bool) (near far : ResetEnd) (out back : List Sent) → Kept rules a b near far out back → count_of a near.restarts ≡ count_of b far.restarts
same_count rules a b near far out back k = sym k.out_log.long ∙ past_long (senders_of a near.sides.entity.sender near.senders) (stretches_of b (present far) far.stretches) k.out_log.done ∙ long_of b far k.far_counted.stretches

idle_count : (p : Option Pending) (next : Bool) (h a : Option Bool) (out back : List Sent) (n : ℕ) → Asks p next h a out back → p ≡ None → count_of a n ≡ n
idle_count p next h a out back n f e = ap (λ x. count_of x n) (never_idle next h a out back (subst (λ q. Asks q next h a out back) e f))

level : (rules : Rules) (a b : Option Bool) (near far : ResetEnd) (out back : List Sent) → Kept rules a b near far out back → AreLevel near far
level rules a b near far out back k =
    let e : count_of a near.restarts ≡ count_of b far.restarts = same_count rules a b near far out back k in
    record {
      first_le = omega (arith, e, count_low a near.restarts, count_high b far.restarts);
      second_le = omega (arith, e, count_low b far.restarts, count_high a near.restarts);
      same = λ p q. sym (idle_count near.pending near.next_rsn far.heard a out back near.restarts k.asks p) ∙ e ∙ idle_count far.pending far.next_rsn near.heard b back out far.restarts k.asked q;
    }

-- No block is answered Outside.
data_inside : (rules : Rules) (a b : Option Bool) (near far : ResetEnd) (out : List Sent) (label : ℕ) (block : Block) (line : List Sent) (q : Option Pending) → rules.window ≤ 2048 → near.pending ≡ q → Kept rules a b near far out (Data label block ∷ line) → (not (is_some q) && block_outside rules near.sides block) ≡ false
data_inside rules a b near far out label block line (Some q) small e k = refl
data_inside rules None b near far out label block line None small e k = inside rules (view rules None b near far out (Data label block ∷ line)) (block ∷ data_of line) small refl k.both
data_inside rules (Some r) b near far out label block line None small e k = absurd (subst (λ x. Asks x near.next_rsn far.heard (Some r) out (Data label block ∷ line)) e k.asks)

front_inside : (rules : Rules) (a b : Option Bool) (near far : ResetEnd) (out back : List Sent) → rules.window ≤ 2048 → Kept rules a b near far out back → front_outside rules near back ≡ false
front_inside rules a b near far out [] small k = refl
front_inside rules a b near far out (Data label block ∷ line) small k = data_inside rules a b near far out label block line near.pending small refl k
front_inside rules a b near far out (ResetPdu x c ∷ line) small k = refl
front_inside rules a b near far out (ResetAckPdu x c ∷ line) small k = refl

safe : (rules : Rules) (p : ResetPair) → rules.window ≤ 2048 → Inv rules p → IsSafe rules p
safe rules p small i =
    let t = inv_turned rules p i in
    record {
      near_far = delivered rules i.a i.b p.near p.far p.out p.back i.kept;
      far_near = delivered rules t.a t.b p.far p.near p.back p.out t.kept;
      near_counted = i.kept.near_counted;
      far_counted = i.kept.far_counted;
      level = level rules i.a i.b p.near p.far p.out p.back i.kept;
      near_inside = front_inside rules i.a i.b p.near p.far p.out p.back small i.kept;
      far_inside = front_inside rules t.a t.b p.far p.near p.back p.out small t.kept;
    }

begins : (rules : Rules) (first second : ℕ) → Inv rules (opened rules first second)
begins rules first second = record {
  a = None;
  b = None;
  kept = record {
    asks = record { fresh = refl; resets = tt; acks = tt };
    asked = record { fresh = refl; resets = tt; acks = tt };
    owes = λ e. absurd (both_ways false refl e);
    owed = λ e. absurd (both_ways false refl e);
    both = opened_both rules first second;
    near_cut = cut_begins;
    far_cut = cut_begins;
    out_labels = tt;
    back_labels = tt;
    out_log = record { long = refl; now = tt; done = tt; accepted = refl };
    back_log = record { long = refl; now = tt; done = tt; accepted = refl };
    near_counted = record { stretches = refl; senders = refl };
    far_counted = record { stretches = refl; senders = refl };
  };
}

pub always_safe : (rules : Rules) (first second : ℕ) (events : List At) → rules.window ≤ 2048 → IsSafe rules (after rules (opened rules first second) events)
always_safe rules first second events small = safe rules (after rules (opened rules first second) events) small (inv_after rules events (opened rules first second) small (begins rules first second))
