-- An acknowledged bearer can build as many blocks as it offers.
use Rattle.std.proofs.Common.{◌≡◌, ◌+◌, ◌-◌, ◌≤◌, ℕ, zero, suc, Bool, true, false, cond, ◌&&◌, Option, Some, None, arith, refl, sym, ap, ◌∙◌, subst}
use Rattle.std.specs.Prelude.{◌==◌, not}
use Rattle.dch_am.specs.Building.{Again, Choice, Last, New, NoPdu, after_build, after_choice, available, builds_within, choice, gives}
use Rattle.dch_am.specs.Discards.{after_moving, after_mrw, mrw_due}
use Rattle.dch_am.specs.Receiver.{Receiver}
use Rattle.dch_am.specs.Rules.{Rules}
use Rattle.dch_am.specs.Sender.{Discard, Sender}
use Rattle.dch_am.specs.Telling.{after_telling, is_due}
use Rattle.dch_am.specs.Entities.{one_if, Moves, Sends, Tells, receiver_after, sender_after, turn, writes}
use Rattle.dch_am.proofs.Turns.{turn_moves, turn_sends, turn_tells}
use Rattle.dch_layer2.specs.Building.{CanBuild}

-- with another discard
abbrev with_discard : Sender → Option Discard → Sender
with_discard s x = record s { discard = x }

choice_same : (rules : Rules) (d : ℕ) (s : Sender) (x : Option Discard) (c : Choice) → after_choice c rules d (with_discard s x) ≡ with_discard (after_choice c rules d s) x
choice_same rules d s x (Again k) = refl
choice_same rules d s x New = refl
choice_same rules d s x (Last k) = refl
choice_same rules d s x NoPdu = refl

builds_same : (k : ℕ) (rules : Rules) (d : ℕ) (s : Sender) (x : Option Discard) → builds_within k rules d (with_discard s x) ≡ builds_within k rules d s
builds_same zero rules d s x = refl
builds_same (suc k) rules d s x = ap (λ n. cond (gives rules s) (suc n) 0) (ap (builds_within k rules d) (choice_same rules d s x (choice rules s)) ∙ builds_same k rules d (after_build rules d s) x)

-- a build leaves the discard
discard_stays : (rules : Rules) (d : ℕ) (s : Sender) (c : Choice) → (after_choice c rules d s).discard ≡ s.discard
discard_stays rules d s (Again k) = refl
discard_stays rules d s New = refl
discard_stays rules d s (Last k) = refl
discard_stays rules d s NoPdu = refl

-- after it is told nothing is due
told_all : (rules : Rules) (r : Receiver) → is_due (after_telling rules r) ≡ false
told_all rules r = none r.owed (r.status_prohibit_timer == 0) refl
  where
    none : (owed free : Bool) → (r.status_prohibit_timer == 0) ≡ free → ((owed && not (owed && free)) && (cond (owed && free) rules.status_prohibit r.status_prohibit_timer == 0)) ≡ false
    none true true e = refl
    none true false e = e
    none false free e = refl

moving_due : (rules : Rules) (s : Sender) (o : Option Discard) → s.discard ≡ o → mrw_due (after_moving rules s o).discard ≡ false
moving_due rules s None e = ap mrw_due e
moving_due rules s (Some x) e = refl

moving_same : (k : ℕ) (rules : Rules) (d : ℕ) (s : Sender) (o : Option Discard) → builds_within k rules d (after_moving rules s o) ≡ builds_within k rules d s
moving_same k rules d s None = refl
moving_same k rules d s (Some x) = builds_same k rules d s (after_mrw rules s x).discard

can_build : (rules : Rules) (size n k : ℕ) (s : Sender) (r : Receiver) (due mrw : Bool) → is_due r ≡ due → mrw_due s.discard ≡ mrw → n ≤ builds_within k rules (size - 2) s + one_if due + one_if mrw → CanBuild rules size n s r
can_build rules size zero k s r due mrw e f l = tt
can_build rules size (suc n) k s r true mrw e f l =
    let t : turn rules s r ≡ Tells = turn_tells rules s r e in
    subst (λ x. (true ≡ writes x) × CanBuild rules size n (sender_after x rules size s) (receiver_after x rules r)) (sym t)
    (refl, can_build rules size n k s (after_telling rules r) false mrw (told_all rules r) f (omega (arith, l)))
can_build rules size (suc n) k s r false true e f l =
    let t : turn rules s r ≡ Moves = turn_moves rules s r e f in
    subst (λ x. (true ≡ writes x) × CanBuild rules size n (sender_after x rules size s) (receiver_after x rules r)) (sym t)
    (refl, can_build rules size n k (after_moving rules s s.discard) r false false e (moving_due rules s s.discard refl) (omega (arith, l, moving_same k rules (size - 2) s s.discard)))
can_build rules size (suc n) zero s r false false e f l = absurd (omega (arith, l))
can_build rules size (suc n) (suc k) s r false false e f l = go (λ m. can_build rules size n k (after_build rules (size - 2) s) r false false e (ap mrw_due (discard_stays rules (size - 2) s (choice rules s)) ∙ f) m) (gives rules s) refl
  where
    go : (n ≤ builds_within k rules (size - 2) (after_build rules (size - 2) s) + one_if false + one_if false → CanBuild rules size n (after_build rules (size - 2) s) r) → (b : Bool) → gives rules s ≡ b → CanBuild rules size (suc n) s r
    go more true g =
        let t : turn rules s r ≡ Sends = turn_sends rules s r e f g in
        subst (λ x. (true ≡ writes x) × CanBuild rules size n (sender_after x rules size s) (receiver_after x rules r)) (sym t)
        (refl, more (omega (arith, l, ap (λ b. cond b (suc (builds_within k rules (size - 2) (after_build rules (size - 2) s))) 0) g)))
    go more false g = absurd (omega (arith, l, ap (λ b. cond b (suc (builds_within k rules (size - 2) (after_build rules (size - 2) s))) 0) g))

pub offers_kept : (rules : Rules) (size n : ℕ) (s : Sender) (r : Receiver) → n ≤ one_if (is_due r) + one_if (mrw_due s.discard) + available rules (size - 2) s → CanBuild rules size n s r
unfolding available
offers_kept rules size n s r l = can_build rules size n 64 s r (is_due r) (mrw_due s.discard) refl refl (omega (arith, l))
