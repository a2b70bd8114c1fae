-- Each event, at what is held and at the receiver that it stands for.
use Rattle.std.proofs.Common.{◌≡◌, ◌+◌, ◌-◌, ◌%◌, ◌<◌, ◌≤◌, ℕ, zero, suc, List, [], ◌∷◌, ◌++◌, Bool, true, false, ◌||◌, ◌&&◌, cond, Option, Some, None, IfSome, is_some, length, map, take, drop, max, length-drop, arith, refl, sym, ap, ap₂, ◌∙◌}
use Rattle.std.specs.Prelude.{◌==◌, nat_lt, nat_le, if◌then◌else◌}
use Rattle.std.proofs.lemmas.Bool.{cond_both, eq-eqb, or_left}
use Rattle.std.proofs.lemmas.Bool.Decides.{nat_tests}
use Rattle.dch_types.specs.declared.bearer.AmRules.{AmRules}
use Rattle.dch_am.specs.declared.answers.Taken.{Taken}
use Rattle.dch_am.specs.declared.answers.Taken.TheVariants.{Kept as KeptPdu, Duplicate, Outside}
use Rattle.dch_am.specs.declared.answers.MrwTaken.{MrwTaken}
use Rattle.dch_am.specs.declared.answers.MrwTaken.TheVariants.{Nothing, Obeyed, Old, Outside as OutsideMove}
use Rattle.dch_am.specs.Bodies.{Body}
use Rattle.dch_am.specs.Numbers.{has, below, wrapped, ahead}
use Rattle.dch_am.specs.Receiver.{Receiver, vr_h, after_pdu, body_of, vr_r, got, numbers, opened_receiver, read_on, taken, with_pdu}
use Rattle.dch_am.specs.Moves.{after_move as moves_after, after_move_in, answer_to, obeyed_mrw, trimmed, with_ack, with_move}
use Rattle.dch_am.specs.Telling.{tick_receiver}
use Rattle.dch_am.proofs.Lists.{Is, run_in}
use Rattle.dch_amrecv.specs.Places.{front, is_kept, put}
use Rattle.dch_amrecv.proofs.Putting.{length-put}
use Rattle.dch_amrecv.specs.Lines.{greater, passed, run_on, with_body}
use Rattle.dch_amrecv.specs.Holding.{Holding, after_answer, after_control, after_move, after_tick, after_unit, answer, control_answer, move_answer, advanced_to, opened, with_ack as holds_ack, with_owed}
use Rattle.dch_am.specs.Rules.{rules_of}
use Rattle.dch_amrecv.specs.Standing.{IsPast, IsSame, Stands, came, live, place, sent_ack}
use Rattle.dch_amrecv.proofs.Whole.{units_dropped}
use Rattle.dch_amrecv.proofs.Settling.{Pending, Settled, expected_is, has_from, has_got, highest_got, kept_place, place-drop, place-put, settles}

-- how far a number lies ahead
ahead_is : (h : Holding) (given : ℕ) (r : Receiver) (sn : ℕ) → Stands h given r → ahead (vr_r r) sn ≡ ahead h.next sn
ahead_is h given r sn s = omega (arith, s.next)

came_there : (b : Bool) (x : Body) → is_some (came b x) ≡ b
came_there true x = refl
came_there false x = refl

pub there : (h : Holding) (given : ℕ) (r : Receiver) (i : ℕ) → Stands h given r → has (vr_r r + i) (got r) ≡ is_kept h.kept.places i
there h given r i s = sym (kept_place h.kept.places i ∙ (ap is_some (s.places i) ∙ came_there (has (vr_r r + i) (got r)) (body_of r.arrived (vr_r r + i))))

pub answer_is : (h : Holding) (buffer given : ℕ) (r : Receiver) (sn : ℕ) → Stands h given r → answer sn h ≡ taken (rules_of buffer h.rules) r sn
answer_is h buffer given r sn s =
    let e : ahead (vr_r r) sn ≡ ahead h.next sn = ahead_is h given r sn s in
    let k : has (vr_r r + ahead h.next sn) (got r) ≡ is_kept h.kept.places (ahead h.next sn) = there h given r (ahead h.next sn) s in
    sym (ap (λ o. if nat_le (4096 - h.rules.window) o || has (vr_r r + o) (got r) then Duplicate else (if nat_le h.rules.window o then Outside else KeptPdu)) e
    ∙ ap (λ (b : Bool). if nat_le (4096 - h.rules.window) (ahead h.next sn) || b then Duplicate else (if nat_le h.rules.window (ahead h.next sn) then Outside else KeptPdu)) k)

-- all below the expected number has come
under : (r : Receiver) (x : ℕ) → x < vr_r r → Is x (got r)
under r x l = run_in (got r) (vr_h r) x l

-- a PDU comes
put_pending : (h : Holding) (buffer given : ℕ) (r : Receiver) (o : ℕ) (poll : Bool) (b : Body) → Stands h given r → Pending (put o b h.kept.places) (vr_r r) (with_pdu (rules_of buffer h.rules) r (vr_r r + o) poll b)
put_pending h buffer given r o poll b s = record {
  highest = omega (arith, highest_got (with_pdu (rules_of buffer h.rules) r (vr_r r + o) poll b), highest_got r, s.highest, length-put o b h.kept.places);
  under = λ x l. has_got x (with_pdu (rules_of buffer h.rules) r (vr_r r + o) poll b) ∙ more (nat_lt x r.passed) (x == vr_r r + o) (has x (numbers r.arrived)) (sym (has_got x r) ∙ under r x l);
  here = λ i. place-put o b h.kept.places i ∙ cases i (i == o) refl;
  passed = s.passed;
  past = s.past;
}
  where
    more : (a c d : Bool) → (a || d) ≡ true → (a || (c || d)) ≡ true
    more true c d e = refl
    more false true d e = refl
    more false false d e = e

    cases : (i : ℕ) (c : Bool) → (i == o) ≡ c → cond (i == o) (Some b) (place h.kept.places i) ≡ came (has (vr_r r + i) (below r.passed ++ ((vr_r r + o) ∷ numbers r.arrived))) (body_of (((vr_r r + o), b) ∷ r.arrived) (vr_r r + i))
    cases i true e =
        let same : (vr_r r + i == vr_r r + o) ≡ true = grind (arith, nat_tests) in
        let in_it : has (vr_r r + i) (below r.passed ++ ((vr_r r + o) ∷ numbers r.arrived)) ≡ true = has_from (vr_r r + i) (with_pdu (rules_of buffer h.rules) r (vr_r r + o) poll b) (omega (arith, s.passed)) ∙ or_left _ _ same in
        rw (e, in_it, same) refl
    cases i false e =
        let differ : (vr_r r + i == vr_r r + o) ≡ false = grind (arith, nat_tests) in
        let in_it : has (vr_r r + i) (below r.passed ++ ((vr_r r + o) ∷ numbers r.arrived)) ≡ has (vr_r r + i) (got r) = has_from (vr_r r + i) (with_pdu (rules_of buffer h.rules) r (vr_r r + o) poll b) (omega (arith, s.passed)) ∙ (ap (λ c. c || has (vr_r r + i) (numbers r.arrived)) differ ∙ sym (has_from (vr_r r + i) r (omega (arith, s.passed)))) in
        rw (e, in_it, differ) (s.places i)

or_three : (a b c : Bool) → (a || (b || c)) ≡ ((a || b) || c)
or_three true b c = refl
or_three false b c = refl

kept_stands : (h : Holding) (buffer given : ℕ) (r : Receiver) (sn : ℕ) (poll : Bool) (b : Body) → Stands h given r → Stands (after_answer KeptPdu sn poll b h) given (after_pdu (rules_of buffer h.rules) KeptPdu r sn poll b)
kept_stands h buffer given r sn poll b s =
    let e : ahead (vr_r r) sn ≡ ahead h.next sn = ahead_is h given r sn s in
    rw e (kept_at (ahead h.next sn))
  where
    kept_at : (o : ℕ) → Stands (advanced_to (front (put o b h.kept.places)) (run_on (with_body o b h.kept)) (with_owed (poll || (h.rules.missing && nat_lt (length h.kept.places) o)) h)) given (read_on (with_pdu (rules_of buffer h.rules) r (vr_r r + o) poll b) (vr_r r))
    kept_at o =
        let p : Pending (put o b h.kept.places) (vr_r r) (with_pdu (rules_of buffer h.rules) r (vr_r r + o) poll b) = put_pending h buffer given r o poll b s in
        let t : Settled (run_on (with_body o b h.kept)) given (read_on (with_pdu (rules_of buffer h.rules) r (vr_r r + o) poll b) (vr_r r)) = settles (with_body o b h.kept) (vr_r r) given (with_pdu (rules_of buffer h.rules) r (vr_r r + o) poll b) p s.trim s.units in
        let at : vr_r (with_pdu (rules_of buffer h.rules) r (vr_r r + o) poll b) ≡ vr_r r + front (put o b h.kept.places) = expected_is (put o b h.kept.places) (vr_r r) (with_pdu (rules_of buffer h.rules) r (vr_r r + o) poll b) p in
        let above : nat_lt (length h.kept.places) o ≡ nat_lt (vr_h r) (vr_r r + o) = grind (arith, nat_tests, s.highest) in
        record {
          next = omega (arith, s.next, at);
          highest = t.highest;
          places = t.places;
          passed = t.passed;
          trim = t.trim;
          past = t.past;
          units = t.units;
          ack = s.ack;
          owed = ap₂ (λ w c. w || (poll || (h.rules.missing && c))) s.owed above ∙ or_three r.owed poll (h.rules.missing && nat_lt (vr_h r) (vr_r r + o));
          status_prohibit_timer = s.status_prohibit_timer;
          period = s.period;
        }

pub pdu_stands : (h : Holding) (buffer given : ℕ) (r : Receiver) (sn : ℕ) (poll : Bool) (b : Body) (t : Taken) → Stands h given r → Stands (after_answer t sn poll b h) given (after_pdu (rules_of buffer h.rules) t r sn poll b)
pdu_stands h buffer given r sn poll b KeptPdu s = kept_stands h buffer given r sn poll b s
pdu_stands h buffer given r sn poll b Duplicate s = record { next = s.next; highest = s.highest; places = s.places; passed = s.passed; trim = s.trim; past = s.past; units = s.units; ack = s.ack; owed = ap (λ w. w || poll) s.owed; status_prohibit_timer = s.status_prohibit_timer; period = s.period }
pdu_stands h buffer given r sn poll b Outside s = s

pub tick_stands : (h : Holding) (buffer given : ℕ) (r : Receiver) → Stands h given r → Stands (after_tick h) given (tick_receiver (rules_of buffer h.rules) r)
tick_stands h buffer given r s = record {
  next = s.next;
  highest = s.highest;
  places = s.places;
  passed = s.passed;
  trim = s.trim;
  past = s.past;
  units = s.units;
  ack = s.ack;
  owed = ap₂ (λ w p. w || (nat_lt 0 h.rules.status_period && (p == 1))) s.owed s.period;
  status_prohibit_timer = ap (λ p. p - 1) s.status_prohibit_timer;
  period = ap (λ p. if p == 1 then h.rules.status_period else p - 1) s.period;
}

pub opened_stands : (rules : AmRules) (pdu reply buffer : ℕ) → Stands (opened rules pdu reply) 0 (opened_receiver (rules_of buffer rules))
opened_stands rules pdu reply buffer = record {
  next = refl;
  highest = refl;
  places = λ i. refl;
  passed = omega arith;
  trim = refl;
  past = tt;
  units = record { waiting = refl; part = refl; within = omega arith };
  ack = refl;
  owed = refl;
  status_prohibit_timer = refl;
  period = refl;
}

-- what an MRW is answered
pub move_is : (h : Holding) (buffer given : ℕ) (r : Receiver) (sn : ℕ) → sn < 4096 → Stands h given r → move_answer sn h ≡ obeyed_mrw (rules_of buffer h.rules) r sn
move_is h buffer given r sn small s =
    let e : ahead (vr_r r) sn ≡ ahead h.next sn = ahead_is h given r sn s in
    let w : wrapped sn ≡ sn = omega arith in
    sym (ap (λ o. if nat_le (4096 - h.rules.window) o then Old else (if nat_le h.rules.window o then OutsideMove (wrapped sn) else Obeyed)) e
    ∙ ap (λ i. if nat_le (4096 - h.rules.window) (ahead h.next sn) then Old else (if nat_le h.rules.window (ahead h.next sn) then OutsideMove i else Obeyed)) w)

past_trimmed : (t : Option (ℕ × ℕ)) (k n : ℕ) → IsPast k (trimmed t k n)
past_trimmed None k n = omega arith
past_trimmed (Some t) k n = omega arith

move_pending : (h : Holding) (given : ℕ) (r : Receiver) (o n : ℕ) → Stands h given r → Pending (drop o h.kept.places) (vr_r r + o) (with_move r (vr_r r + o) n)
move_pending h given r o n s = record {
  highest = omega (arith, highest_got (with_move r (vr_r r + o) n), highest_got r, s.highest, s.passed, length-drop o h.kept.places);
  under = λ x l. let below_it : nat_lt x (max r.passed (vr_r r + o)) ≡ true = grind (arith, nat_tests) in has_got x (with_move r (vr_r r + o) n) ∙ or_left _ _ below_it;
  here = λ i.
      let e : vr_r r + (o + i) ≡ vr_r r + o + i = omega arith in
      place-drop o i h.kept.places ∙ (s.places (o + i) ∙ (ap (λ x. came (has x (got r)) (body_of r.arrived x)) e ∙ ap (λ b. came b (body_of r.arrived (vr_r r + o + i)))
      (has_from (vr_r r + o + i) r (omega (arith, s.passed)) ∙ sym (has_from (vr_r r + o + i) (with_move r (vr_r r + o) n) (omega (arith, s.passed))))));
  passed = omega (arith, s.passed);
  past = past_trimmed r.trim (vr_r r + o) n;
}

same_self : (k : ℕ) → (k == k) ≡ true
same_self k = eq-eqb k k refl

trim_same : (next o n : ℕ) (t : Option (ℕ × ℕ)) → IsPast next t → Some (if o == 0 then greater (live next t) n else n) ≡ live (next + o) (trimmed t (next + o) n)
trim_same next o n None past = rw (same_self (next + o)) (cond_both (o == 0) n n (λ (x : ℕ). ◌≡◌ {A = Option ℕ} (Some x) (Some n)) (λ e. refl) (λ e. refl))
trim_same next o n (Some t) past = rw (same_self (next + o)) (ap (λ (x : ℕ). Some x) (go (o == 0) refl (t.0 == next) refl))
  where
    go : (b : Bool) → (o == 0) ≡ b → (c : Bool) → (t.0 == next) ≡ c → (if o == 0 then greater (live next (Some t)) n else n) ≡ (if t.0 == next + o then max t.1 n else n)
    go true e true f = let g : (t.0 == next + o) ≡ true = grind (arith, nat_tests) in rw (e, f, g) refl
    go true e false f = let g : (t.0 == next + o) ≡ false = grind (arith, nat_tests) in rw (e, f, g) refl
    go false e c f = let g : (t.0 == next + o) ≡ false = grind (arith, nat_tests, past) in rw (e, g) refl

ack_same : (next k sn n : ℕ) → next ≡ wrapped k → Some (next, (if next == sn then n else 0)) ≡ sent_ack (Some (record { number = k; n = if wrapped k == sn then n else 0 }))
ack_same next k sn n e = ap (λ (x : ℕ). Some (x, (if x == sn then n else 0))) e

obeyed_stands : (h : Holding) (buffer given : ℕ) (r : Receiver) (sn n : ℕ) → Stands h given r → Stands (after_move Obeyed sn n h) given (moves_after Obeyed r sn n)
obeyed_stands h buffer given r sn n s =
    let e : ahead (vr_r r) sn ≡ ahead h.next sn = ahead_is h given r sn s in
    rw e (obeyed_at (ahead h.next sn))
  where
    obeyed_at : (o : ℕ) → Stands (holds_ack sn n (advanced_to (o + front (passed o n h.kept).places) (run_on (passed o n h.kept)) h)) given (with_ack (read_on (with_move r (vr_r r + o) n) (vr_r r + o)) sn n)
    obeyed_at o =
        let p : Pending (drop o h.kept.places) (vr_r r + o) (with_move r (vr_r r + o) n) = move_pending h given r o n s in
        let trimming : (passed o n h.kept).trim ≡ live (vr_r r + o) (trimmed r.trim (vr_r r + o) n) = ap (λ (t : Option ℕ). Some (if o == 0 then greater t n else n)) s.trim ∙ trim_same (vr_r r) o n r.trim s.past in
        let t : Settled (run_on (passed o n h.kept)) given (read_on (with_move r (vr_r r + o) n) (vr_r r + o)) = settles (passed o n h.kept) (vr_r r + o) given (with_move r (vr_r r + o) n) p trimming (units_dropped given h.kept.units r.reading s.units) in
        let at : vr_r (with_move r (vr_r r + o) n) ≡ vr_r r + o + front (drop o h.kept.places) = expected_is (drop o h.kept.places) (vr_r r + o) (with_move r (vr_r r + o) n) p in
        let now : (h.next + (o + front (drop o h.kept.places))) % 4096 ≡ wrapped (vr_r (with_move r (vr_r r + o) n)) = omega (arith, s.next, at) in
        record {
          next = now;
          highest = t.highest;
          places = t.places;
          passed = t.passed;
          trim = t.trim;
          past = t.past;
          units = t.units;
          ack = ack_same ((h.next + (o + front (drop o h.kept.places))) % 4096) (vr_r (with_move r (vr_r r + o) n)) sn n now;
          owed = s.owed;
          status_prohibit_timer = s.status_prohibit_timer;
          period = s.period;
        }

pub move_stands : (h : Holding) (buffer given : ℕ) (r : Receiver) (sn n : ℕ) (t : MrwTaken) → Stands h given r → Stands (after_move t sn n h) given (moves_after t r sn n)
move_stands h buffer given r sn n Obeyed s = obeyed_stands h buffer given r sn n s
move_stands h buffer given r sn n Old s = record { next = s.next; highest = s.highest; places = s.places; passed = s.passed; trim = s.trim; past = s.past; units = s.units; ack = ack_same h.next (vr_r r) sn n s.next; owed = s.owed; status_prohibit_timer = s.status_prohibit_timer; period = s.period }
move_stands h buffer given r sn n (OutsideMove i) s = s
move_stands h buffer given r sn n Nothing s = s

-- the status that acts
pub control_is : (h : Holding) (buffer given : ℕ) (r : Receiver) (o : Option (ℕ × ℕ)) → IfSome o (λ p. (p.0 < 4096) × (p.1 < 16)) → Stands h given r → control_answer o h ≡ answer_to (rules_of buffer h.rules) r o
control_is h buffer given r None small s = refl
control_is h buffer given r (Some p) small s = move_is h buffer given r p.0 small.0 s

pub control_stands : (h : Holding) (buffer given : ℕ) (r : Receiver) (o : Option (ℕ × ℕ)) → IfSome o (λ p. (p.0 < 4096) × (p.1 < 16)) → Stands h given r → Stands (after_control o h) given (after_move_in (rules_of buffer h.rules) r o)
control_stands h buffer given r None small s = s
control_stands h buffer given r (Some p) small s = rw (sym (move_is h buffer given r p.0 small.0 s)) (move_stands h buffer given r p.0 p.1 (move_answer p.0 h) s)

next_of : (given : ℕ) (units : List (List ℕ)) → drop 1 (map (take 1501) (drop given units)) ≡ map (take 1501) (drop (given + 1) units)
next_of zero [] = refl
next_of zero (u ∷ units) = refl
next_of (suc given) [] = let e : suc given + 1 ≡ suc (given + 1) = omega arith in ap (λ k. map (take 1501) (drop {A = List ℕ} k [])) (sym e)
next_of (suc given) (u ∷ units) = let e : suc given + 1 ≡ suc (given + 1) = omega arith in next_of given units ∙ ap (λ k. map (take 1501) (drop k (u ∷ units))) (sym e)

length-some : (f : List ℕ → List ℕ) (given : ℕ) (units : List (List ℕ)) → 0 < length (map f (drop given units)) → given + 1 ≤ length units
length-some f zero [] l = absurd (omega arith)
length-some f zero (u ∷ units) l = omega arith
length-some f (suc given) [] l = absurd (omega arith)
length-some f (suc given) (u ∷ units) l = omega (arith, length-some f given units l)

pub unit_stands : (h : Holding) (given : ℕ) (r : Receiver) → 0 < length h.kept.units.waiting → Stands h given r → Stands (after_unit h) (given + 1) r
unit_stands h given r some s = record {
  next = s.next;
  highest = s.highest;
  places = s.places;
  passed = s.passed;
  trim = s.trim;
  past = s.past;
  units = record { waiting = ap (drop 1) s.units.waiting ∙ next_of given r.reading.units; part = s.units.part; within = length-some (take 1501) given r.reading.units (omega (arith, some, ap length s.units.waiting)) };
  ack = s.ack;
  owed = s.owed;
  status_prohibit_timer = s.status_prohibit_timer;
  period = s.period;
}

same : (h : Holding) → IsSame h h
same h = record { rules = refl; pdu = refl; reply = refl }

pub same_answer : (h : Holding) (sn : ℕ) (poll : Bool) (b : Body) (t : Taken) → IsSame h (after_answer t sn poll b h)
same_answer h sn poll b KeptPdu = record { rules = refl; pdu = refl; reply = refl }
same_answer h sn poll b Duplicate = record { rules = refl; pdu = refl; reply = refl }
same_answer h sn poll b Outside = same h

pub same_move : (h : Holding) (sn n : ℕ) (t : MrwTaken) → IsSame h (after_move t sn n h)
same_move h sn n Obeyed = record { rules = refl; pdu = refl; reply = refl }
same_move h sn n Old = record { rules = refl; pdu = refl; reply = refl }
same_move h sn n (OutsideMove i) = same h
same_move h sn n Nothing = same h
