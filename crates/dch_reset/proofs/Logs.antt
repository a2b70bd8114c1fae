-- What an end took and handed up in all its stretches, over the labels of the other end.
use Rattle.std.proofs.Common.{◌≡◌, ◌+◌, ◌<◌, ◌⊎◌, ℕ, suc, List, [], ◌∷◌, ◌++◌, Bool, true, false, length, take, drop, arith, refl, sym, ap, ◌∙◌, subst, inl, inr, ⊎_elim, append_assoc}
use Rattle.std.proofs.lemmas.Bool.{both_ways, false_from_ne_true}
use Rattle.std.proofs.lemmas.List.{append-nil, take-append-drop}
use Rattle.dch_am.specs.Bodies.{ends}
use Rattle.dch_am.specs.Cuts.{IsCut}
use Rattle.dch_am.specs.Numbers.{has}
use Rattle.dch_am.specs.Rules.{Rules}
use Rattle.dch_am.specs.Sender.{Sender}
use Rattle.dch_am.specs.Status.{Status}
use Rattle.dch_am.specs.Receiver.{vr_r}
use Rattle.dch_amlaw.specs.Pair.{Block, End, in_span, picked, gap_free}
use Rattle.dch_amlaw.proofs.Direction.{Direction}
use Rattle.dch_amlaw.proofs.Hands.{Hands, picked_push}
use Rattle.dch_amlaw.proofs.Lost.{Lost}
use Rattle.dch_amlaw.proofs.History.{kept}
use Rattle.dch_am.specs.Restart.{octets_in, begun_below, begun}
use Rattle.dch_am.proofs.Restarting.{begun_few, begun_push, front_begun}
use Rattle.dch_reset.specs.Ends.{Stretch}
use Rattle.dch_reset.specs.Law.{AllAre, NoneMissing, begun_before, those}
use Rattle.dch_reset.proofs.Units.{picked_those}

-- a stretch is one of this sender
pub record IsOf (s : Sender) (st : Stretch) : Type 0 where
  pub units : st.units ≡ picked s.bodies st.spans 0 s.accepted
  pub inside : (i : ℕ) → in_span s.bodies st.spans i ≡ true → i < begun s
  pub reach : (i : ℕ) → in_span s.bodies st.spans i ≡ true → i < ends (take st.missing s.bodies)
  pub none_lost : NoneMissing s st.spans st.missing

-- units are some of this sender, those at some places; the others before them were discarded
pub record From (s : Sender) (units : List (List ℕ)) : Type 0 where
  pub at : ℕ → Bool
  pub units_are : units ≡ those at 0 s.accepted
  pub inside : (i : ℕ) → at i ≡ true → i < begun s
  pub passed : (i j : ℕ) → i < j → at j ≡ true → at i ≡ false → has i s.discarded_units ≡ true

pub from_stretch : (s : Sender) (st : Stretch) → IsOf s st → From s st.units
from_stretch s st is = record {
  at = in_span s.bodies st.spans;
  units_are = is.units ∙ picked_those s.bodies st.spans 0 s.accepted;
  inside = is.inside;
  passed = λ i j l h no. ⊎_elim (λ (q : in_span s.bodies st.spans i ≡ true). absurd (both_ways _ no q)) (λ (q : has i s.discarded_units ≡ true). q) (is.none_lost i (omega (arith, is.reach j h)));
}

-- each finished stretch is one of a sender before its restart
pub record Past (label : ℕ) (s : Sender) (st : Stretch) : Type 0 where
  pub one_label : AllAre label st.labels
  pub is : IsOf s st

abbrev pub AllPast : List Sender → List Stretch → Type 0
AllPast [] [] = Unit {0}
AllPast [] (st ∷ sts) = ⊥
AllPast (s ∷ ss) [] = ⊥
AllPast (s ∷ ss) (st ∷ sts) = Past (length ss) s st × AllPast ss sts

pub past_long : (ss : List Sender) (sts : List Stretch) → AllPast ss sts → length ss ≡ length sts
past_long [] [] f = refl
past_long [] (st ∷ sts) f = absurd f
past_long (s ∷ ss) [] f = absurd f
past_long (s ∷ ss) (st ∷ sts) f = ap (λ n. suc n) (past_long ss sts f.1)

past_head : (s now : Sender) (ss : List Sender) (sts : List Stretch) → ((st : Stretch) → IsOf s st → IsOf now st) → AllPast (s ∷ ss) sts → AllPast (now ∷ ss) sts
past_head s now ss [] f g = absurd g
past_head s now ss (st ∷ sts) f g = (record { one_label = g.0.one_label; is = f st g.0.is }, g.1)

-- what all stretches hold of the other end with n restarts, these units in the present stretch and these in all
pub record Log (n : ℕ) (senders : List Sender) (units all : List (List ℕ)) (labels : List ℕ) (stretches : List Stretch) : Type 0 where
  pub long : length senders ≡ n
  pub now : AllAre n labels
  pub done : AllPast senders stretches
  pub accepted : all ≡ begun_before senders ++ units

pub split : (xs ys : List (List ℕ)) (n : ℕ) → (xs ++ take n ys) ++ drop n ys ≡ xs ++ ys
split xs ys n = append_assoc xs (take n ys) (drop n ys) ∙ ap (λ zs. xs ++ zs) (take-append-drop n ys)

-- both ends restart
pub log_restarts : (n : ℕ) (s : Sender) (ss : List Sender) (all : List (List ℕ)) (st : Stretch) (sts : List Stretch) → IsOf s st → Log n ss s.accepted all st.labels sts → Log (n + 1) (s ∷ ss) (drop (begun s) s.accepted) all [] (st ∷ sts)
log_restarts n s ss all st sts is l = record {
  long = omega (arith, l.long);
  now = tt;
  done = (record { one_label = subst (λ m. AllAre m st.labels) (sym l.long) l.now; is = is }, l.done);
  accepted = l.accepted ∙ sym (split (begun_before ss) s.accepted (begun s));
}

-- the present units are others by an equation
pub log_units : (n : ℕ) (ss : List Sender) (units now all : List (List ℕ)) (labels : List ℕ) (sts : List Stretch) → now ≡ units → Log n ss units all labels sts → Log n ss now all labels sts
log_units n ss units now all labels sts e l = record { long = l.long; now = l.now; done = l.done; accepted = l.accepted ∙ ap (λ us. begun_before ss ++ us) (sym e) }

-- one more label
pub log_label : (n label : ℕ) (ss : List Sender) (units all : List (List ℕ)) (labels : List ℕ) (sts : List Stretch) → label ≡ n → Log n ss units all labels sts → Log n ss units all (label ∷ labels) sts
log_label n label ss units all labels sts e l = record { long = l.long; now = (e, l.now); done = l.done; accepted = l.accepted }

-- one more unit
pub log_unit : (n : ℕ) (ss : List Sender) (units all : List (List ℕ)) (u : List ℕ) (labels : List ℕ) (sts : List Stretch) → Log n ss units all labels sts → Log n ss (units ++ u ∷ []) (all ++ u ∷ []) labels sts
log_unit n ss units all u labels sts l = record { long = l.long; now = l.now; done = l.done; accepted = ap (λ us. us ++ u ∷ []) l.accepted ∙ append_assoc (begun_before ss) units (u ∷ []) }

pub log_no_unit : (n : ℕ) (ss : List Sender) (units all : List (List ℕ)) (labels : List ℕ) (sts : List Stretch) → Log n ss units all labels sts → Log n ss units (all ++ []) labels sts
log_no_unit n ss units all labels sts l = record { long = l.long; now = l.now; done = l.done; accepted = append-nil all ∙ l.accepted }

-- A sender that is about to restart goes on: it accepts a unit, or it discards.
pub record Goes_on (s now : Sender) (more : List (List ℕ)) : Type 0 where
  pub accepted : now.accepted ≡ s.accepted ++ more
  pub begun_is : begun now ≡ begun s
  pub stretch : (st : Stretch) → IsOf s st → IsOf now st

pub log_head : (n : ℕ) (s now : Sender) (ss : List Sender) (all more : List (List ℕ)) (labels : List ℕ) (sts : List Stretch) → Goes_on s now more → Log (n + 1) (s ∷ ss) (drop (begun s) s.accepted) all labels sts → Log (n + 1) (now ∷ ss) (drop (begun now) now.accepted) (all ++ more) labels sts
log_head n s now ss all more labels sts g l = record {
  long = l.long;
  now = l.now;
  done = past_head s now ss sts g.stretch l.done;
  accepted = ap (λ us. us ++ more) (l.accepted ∙ split (begun_before ss) s.accepted (begun s)) ∙ append_assoc (begun_before ss) s.accepted more ∙ ap (λ us. begun_before ss ++ us) (sym g.accepted) ∙ sym (split (begun_before ss) now.accepted (begun now));
}

-- A unit is accepted.
pub unit_goes_on : (s now : Sender) (u : List ℕ) → IsCut s.accepted s.unsent s.bodies → now.bodies ≡ s.bodies → now.accepted ≡ s.accepted ++ u ∷ [] → now.discarded_units ≡ s.discarded_units → Goes_on s now (u ∷ [])
unit_goes_on s now u c eb ea eg = record { accepted = ea; begun_is = same; stretch = stretch }
  where
    same : begun now ≡ begun s
    same = ap (λ bs. begun_below (octets_in bs) now.accepted) eb ∙ ap (begun_below (octets_in s.bodies)) ea ∙ begun_push s.accepted s.unsent s.bodies u c

    stretch : (st : Stretch) → IsOf s st → IsOf now st
    stretch st i =
        let out : in_span s.bodies st.spans (length s.accepted) ≡ false = false_from_ne_true _ (λ (q : in_span s.bodies st.spans (length s.accepted) ≡ true). omega (arith, i.inside (length s.accepted) q, begun_few (octets_in s.bodies) s.accepted)) in
        record {
          units = i.units ∙ sym (picked_push s.bodies st.spans 0 (length s.accepted) s.accepted u (omega arith) out) ∙ ap (picked s.bodies st.spans 0) (sym ea) ∙ ap (λ bs. picked bs st.spans 0 now.accepted) (sym eb);
          inside = λ j q. omega (arith, same, i.inside j (ap (λ bs. in_span bs st.spans j) (sym eb) ∙ q));
          reach = λ j q. subst (λ bs. j < ends (take st.missing bs)) (sym eb) (i.reach j (ap (λ bs. in_span bs st.spans j) (sym eb) ∙ q));
          none_lost = λ j l. subst (λ bs. (in_span bs st.spans j ≡ true) ⊎ (has j now.discarded_units ≡ true)) (sym eb) (subst (λ g. (in_span s.bodies st.spans j ≡ true) ⊎ (has j g ≡ true)) (sym eg) (i.none_lost j (subst (λ bs. j < ends (take st.missing bs)) eb l)));
        }

-- It discards, or nothing of this changes.
pub tick_goes_on : (s now : Sender) → now.bodies ≡ s.bodies → now.accepted ≡ s.accepted → ((i : ℕ) → has i s.discarded_units ≡ true → has i now.discarded_units ≡ true) → Goes_on s now []
tick_goes_on s now eb ea more = record { accepted = ea ∙ sym (append-nil s.accepted); begun_is = same; stretch = stretch }
  where
    same : begun now ≡ begun s
    same = ap (λ bs. begun_below (octets_in bs) now.accepted) eb ∙ ap (begun_below (octets_in s.bodies)) ea

    stretch : (st : Stretch) → IsOf s st → IsOf now st
    stretch st i = record {
      units = i.units ∙ ap (picked s.bodies st.spans 0) (sym ea) ∙ ap (λ bs. picked bs st.spans 0 now.accepted) (sym eb);
      inside = λ j q. omega (arith, same, i.inside j (ap (λ bs. in_span bs st.spans j) (sym eb) ∙ q));
      reach = λ j q. subst (λ bs. j < ends (take st.missing bs)) (sym eb) (i.reach j (ap (λ bs. in_span bs st.spans j) (sym eb) ∙ q));
      none_lost = λ j l. ⊎_elim (λ (q : in_span s.bodies st.spans j ≡ true). inl (ap (λ bs. in_span bs st.spans j) eb ∙ q)) (λ (q : has j s.discarded_units ≡ true). inr (more j q)) (i.none_lost j (subst (λ bs. j < ends (take st.missing bs)) eb l));
    }

-- what a stretch is when it ends
pub closing : (bearer : Rules) (a b : End) (line : List Block) (ts : List Status) (labels : List ℕ) → Direction bearer a.entity.sender b.entity.receiver b.came b.moved_to line ts → Hands a.entity.sender.bodies a.entity.sender.accepted b.entity.receiver b.moved_past b.spans → Lost a.entity.sender line b.moved_past b.spans → IsOf a.entity.sender (record { labels = labels; spans = b.spans; missing = gap_free b; units = b.entity.receiver.reading.units })
closing bearer a b line ts labels d h l = record {
  units = h.units;
  inside = λ i q. omega (arith, h.inside i q, front_begun a.entity.sender.accepted a.entity.sender.unsent a.entity.sender.bodies (vr_r b.entity.receiver) d.cut);
  reach = λ i q. subst (λ g. i < ends (take g a.entity.sender.bodies)) (kept bearer a b line ts d h l).expected_is (h.inside i q);
  none_lost = (kept bearer a b line ts d h l).none_lost;
}
