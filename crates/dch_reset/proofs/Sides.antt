-- The two ends as the law without resets sees them: an end that is answered counts as restarted already, and what it won't take as lost.
use Rattle.std.proofs.Common.{◌≡◌, ◌+◌, ◌-◌, ◌≤◌, ℕ, zero, suc, List, [], ◌∷◌, Bool, true, false, cond, ◌||◌, length, drop, Option, Some, None, arith, refl, sym, ◌∙◌, subst, inl}
use Rattle.std.specs.Prelude.{◌==◌}
use Rattle.std.proofs.lemmas.Bool.{both_ways, cond_both, or_right}
use Rattle.dch_am.specs.Cuts.{AllFull, IsCut}
use Rattle.dch_am.specs.Discards.{can_take, discards_at, discards, after_tick, tick_sender, place_from}
use Rattle.dch_am.specs.Numbers.{has}
use Rattle.dch_am.specs.Receiver.{opened_receiver}
use Rattle.dch_am.specs.Restart.{begun, fresh_sender, restarted_sender}
use Rattle.dch_am.specs.Rules.{Rules}
use Rattle.dch_am.specs.Sender.{Sender, Discard, discarded}
use Rattle.dch_am.specs.Status.{fields_of}
use Rattle.dch_am.proofs.Lists.{has-append}
use Rattle.dch_am.proofs.Restarting.{cut_fresh, full_drop}
use Rattle.dch_amlaw.specs.Pair.{Block, Payload, Mrw, Report, End, Pair, Lose, takes}
use Rattle.dch_amlaw.proofs.Direction.{Direction}
use Rattle.dch_amlaw.proofs.Flow.{flow_begins}
use Rattle.dch_amlaw.proofs.Hands.{Hands}
use Rattle.dch_amlaw.proofs.History.{Both, both_near, both_turned}
use Rattle.dch_amlaw.proofs.Lost.{Lost}
use Rattle.dch_amlaw.proofs.Short.{fields_same}
use Rattle.dch_reset.specs.Ends.{Sent, Data, ResetPdu, ResetAckPdu, restarted_sides, same_rsn}
use Rattle.dch_reset.proofs.Lines.{data_of, behind, live}
use Rattle.dch_reset.proofs.Units.{none_picked}

abbrev pub pair_of : End → End → List Block → List Block → Pair
pair_of near far out back = record { near = near; far = far; out = out; back = back }

-- What comes doesn't change which units were accepted.
pub takes_accepted : (rules : Rules) (e : End) (b : Block) → (takes rules e b).entity.sender.accepted ≡ e.entity.sender.accepted
takes_accepted rules e (Payload k poll body) = refl
takes_accepted rules e (Mrw k n end_of_discard) = refl
takes_accepted rules e (Report t) = fields_same rules e.entity.sender (fields_of t)

-- What a tick keeps of a sender.
pub record Ticks (s now : Sender) : Type 0 where
  pub bodies : now.bodies ≡ s.bodies
  pub accepted : now.accepted ≡ s.accepted
  pub unsent : now.unsent ≡ s.unsent
  pub discarded_units : (i : ℕ) → has i s.discarded_units ≡ true → has i now.discarded_units ≡ true

ticks_at : (s : Sender) (i : ℕ) (o : Option (ℕ × ℕ)) → Ticks s (discards_at s i o)
ticks_at s i None = record { bodies = refl; accepted = refl; unsent = refl; discarded_units = λ j h. h }
ticks_at s i (Some p) = record { bodies = refl; accepted = refl; unsent = refl; discarded_units = λ j h. has-append j _ s.discarded_units ∙ or_right _ _ h }

ticks_discards : (rules : Rules) (s : Sender) (n : ℕ) → Ticks s (discards rules s n)
ticks_discards rules s zero = record { bodies = refl; accepted = refl; unsent = refl; discarded_units = λ j h. h }
ticks_discards rules s (suc i) = cond_both (can_take rules s i (place_from s.bodies 0 i)) _ _ (λ (x : Sender). Ticks s x) (λ _. ticks_at s i (place_from s.bodies 0 i)) (λ _. ticks_discards rules s i)

ticks_after : (rules : Rules) (s : Sender) (d : Option Discard) → Ticks s (after_tick rules s d)
ticks_after rules s None = ticks_discards rules s (length s.accepted)
ticks_after rules s (Some d) = record { bodies = refl; accepted = refl; unsent = refl; discarded_units = λ j h. h }

pub ticks_keep : (rules : Rules) (s : Sender) → Ticks s (tick_sender rules s)
ticks_keep rules s =
    let t = ticks_after rules (record s { poll_timer = s.poll_timer - 1; owed = s.owed || (s.poll_timer == 1); ticks = s.ticks + 1 }) s.discard in
    record { bodies = t.bodies; accepted = t.accepted; unsent = t.unsent; discarded_units = t.discarded_units }

pub cut_ticks : (s now : Sender) → Ticks s now → IsCut s.accepted s.unsent s.bodies → IsCut now.accepted now.unsent now.bodies
cut_ticks s now t c = subst (λ us. IsCut us now.unsent now.bodies) (sym t.accepted) (subst (λ q. IsCut s.accepted q now.bodies) (sym t.unsent) (subst (IsCut s.accepted s.unsent) (sym t.bodies) c))

-- Both ends begin anew.
fresh_direction : (rules : Rules) (s : Sender) → AllFull s.accepted → Direction rules (restarted_sender s) (opened_receiver rules) [] 0 [] []
fresh_direction rules s f = record { flow = flow_begins rules.window; discard_is = tt; line_is = tt; arrived_is = tt; come_in = λ x h. h; got_in = λ x h. h; cut = cut_fresh (drop (begun s) s.accepted) (full_drop (begun s) s.accepted f) }

fresh_hands : (rules : Rules) (us : List (List ℕ)) → Hands [] us (opened_receiver rules) 0 []
fresh_hands rules us = record {
  units = sym (none_picked [] us);
  inside = λ i q. absurd (both_ways false refl q);
  covered = λ i l m. absurd (omega arith);
  low = tt;
  stands = inl record { part_is = refl; past_le = omega arith; earlier = tt };
}

fresh_lost : (us : List (List ℕ)) (at : List ℕ) (t before : ℕ) → Lost (fresh_sender us at t before) [] 0 []
fresh_lost us at t before = record { known = λ i l. absurd (omega arith); past_le = omega arith; line_le = tt; discard_le = tt }

pub both_begin : (rules : Rules) (a b : End) → AllFull a.entity.sender.accepted → AllFull b.entity.sender.accepted → Both rules (pair_of (restarted_sides rules a) (restarted_sides rules b) [] [])
both_begin rules a b f g = record {
  out = fresh_direction rules a.entity.sender f;
  back = fresh_direction rules b.entity.sender g;
  out_hands = fresh_hands rules (drop (begun a.entity.sender) a.entity.sender.accepted);
  back_hands = fresh_hands rules (drop (begun b.entity.sender) b.entity.sender.accepted);
  out_lost = fresh_lost (drop (begun a.entity.sender) a.entity.sender.accepted) (drop (begun a.entity.sender) a.entity.sender.accepted_at) a.entity.sender.ticks (discarded a.entity.sender);
  back_lost = fresh_lost (drop (begun b.entity.sender) b.entity.sender.accepted) (drop (begun b.entity.sender) b.entity.sender.accepted_at) b.entity.sender.ticks (discarded b.entity.sender);
}

-- An end that has built nothing may hold any units.
pub both_units : (rules : Rules) (a now far : End) (out back : List Block) → AllFull now.entity.sender.accepted → Both rules (pair_of (restarted_sides rules a) far out back) → Both rules (pair_of (restarted_sides rules now) far out back)
both_units rules a now far out back f b = record {
  out = record { flow = b.out.flow; discard_is = b.out.discard_is; line_is = b.out.line_is; arrived_is = b.out.arrived_is; come_in = b.out.come_in; got_in = b.out.got_in; cut = cut_fresh (drop (begun now.entity.sender) now.entity.sender.accepted) (full_drop (begun now.entity.sender) now.entity.sender.accepted f) };
  back = b.back;
  out_hands = record {
    units = b.out_hands.units ∙ none_picked far.spans (drop (begun a.entity.sender) a.entity.sender.accepted) ∙ sym (none_picked far.spans (drop (begun now.entity.sender) now.entity.sender.accepted));
    inside = b.out_hands.inside;
    covered = b.out_hands.covered;
    low = b.out_hands.low;
    stands = b.out_hands.stands;
  };
  back_hands = b.back_hands;
  out_lost = record { known = b.out_lost.known; past_le = b.out_lost.past_le; line_le = b.out_lost.line_le; discard_le = b.out_lost.discard_le };
  back_lost = b.back_lost;
}

-- What isn't taken is lost: at the front, up to the next answer, and all.
pub both_loses : (rules : Rules) (near far : End) (out back : List Block) (b : Block) → rules.window ≤ 2048 → Both rules (pair_of near far out (b ∷ back)) → Both rules (pair_of near far out back)
both_loses rules near far out back b small both = both_near rules (pair_of near far out (b ∷ back)) Lose small both

both_skips : (rules : Rules) (near far : End) (out : List Block) (r : Bool) (line : List Sent) → rules.window ≤ 2048 → Both rules (pair_of near far out (data_of line)) → Both rules (pair_of near far out (behind r line))
both_skips rules near far out r [] small both = both
both_skips rules near far out r (Data l b ∷ line) small both = both_skips rules near far out r line small (both_loses rules near far out (data_of line) b small both)
both_skips rules near far out r (ResetPdu x c ∷ line) small both = both_skips rules near far out r line small both
both_skips rules near far out r (ResetAckPdu x c ∷ line) small both = cond_both (same_rsn r x) (data_of line) (behind r line) (λ (l : List Block). Both rules (pair_of near far out l)) (λ _. both) (λ _. both_skips rules near far out r line small both)

pub both_drops : (rules : Rules) (near far : End) (out : List Block) (a : Option Bool) (f : Sent) (line : List Sent) → rules.window ≤ 2048 → Both rules (pair_of near far out (live a (f ∷ line))) → Both rules (pair_of near far out (live a line))
both_drops rules near far out None (Data l b) line small both = both_loses rules near far out (data_of line) b small both
both_drops rules near far out None (ResetPdu x c) line small both = both
both_drops rules near far out None (ResetAckPdu x c) line small both = both
both_drops rules near far out (Some r) (Data l b) line small both = both
both_drops rules near far out (Some r) (ResetPdu x c) line small both = both
both_drops rules near far out (Some r) (ResetAckPdu x c) line small both = go (same_rsn r x) both
  where
    go : (t : Bool) → Both rules (pair_of near far out (cond t (data_of line) (behind r line))) → Both rules (pair_of near far out (behind r line))
    go true b = both_skips rules near far out r line small b
    go false b = b

pub both_empties : (rules : Rules) (near far : End) (out back : List Block) → rules.window ≤ 2048 → Both rules (pair_of near far out back) → Both rules (pair_of near far [] back)
both_empties rules near far [] back small both = both
both_empties rules near far (b ∷ out) back small both = both_empties rules near far out back small (both_turned rules (pair_of far near back out) (both_loses rules far near back out b small (both_turned rules (pair_of near far (b ∷ out) back) both)))
