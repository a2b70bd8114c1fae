-- What a receiver tells, at what is held and at the receiver that it stands for.
use Rattle.std.proofs.Common.{◌≡◌, ◌+◌, ◌-◌, ◌%◌, ℕ, zero, suc, List, [], ◌∷◌, ◌++◌, Bool, true, false, not, ◌||◌, ◌&&◌, Option, Some, None, length, map, take, arith, refl, sym, ap, ap₂, subst, ◌∙◌}
use Rattle.std.specs.Prelude.{◌==◌, nat_lt, if◌then◌else◌}
use Rattle.std.proofs.lemmas.Bool.Decides.{nat_tests}
use Rattle.dch_am.specs.Bodies.{Body}
use Rattle.dch_am.specs.Numbers.{has, less, range, wrapped}
use Rattle.dch_am.specs.Receiver.{Receiver, vr_h, vr_r, got}
use Rattle.dch_am.specs.Status.{MrwAck, fields_of, missing, most, runs, runs_from, status_of, wrapped_pair, Told}
use Rattle.dch_am.specs.Telling.{after_telling as after_told, due_of, is_due as is_told, plain_due as plain_told, telling, tells_now}
use Rattle.dch_rlcpdu.specs.Fields.{status_fields, mrw_status_fields}
use Rattle.dch_am.specs.Rules.{rules_of}
use Rattle.dch_am.specs.Texts.{IsHeard, IsTold, told_text}
use Rattle.dch_rlcpdu.specs.Reading.{status_of as fields_in}
use Rattle.dch_rlcpdu.specs.Writing.{IsText, mrw_ack_text, status_text}
use Rattle.dch_rlcpdu.specs.declared.am.AmView.TheVariants.{Status}
use Rattle.dch_rlcpdu.proofs.AmPdus.{am_back, status_written}
use Rattle.dch_amrecv.specs.Places.{is_kept, vacant}
use Rattle.dch_amrecv.specs.Holding.{Holding, after_telling, fields_told, missing_runs, is_due, lsn_told, numbered, pairs_told, plain_due, some_ack}
use Rattle.dch_amrecv.specs.Standing.{Stands, said, sent_ack}
use Rattle.dch_amrecv.specs.Texts.{text_told}
use Rattle.dch_amrecv.proofs.Events.{there}

due_same : (o : Option MrwAck) (b : Bool) → (some_ack (sent_ack o) || b) ≡ due_of o b
due_same None b = refl
due_same (Some a) b = refl

plain_same : (h : Holding) (given : ℕ) (r : Receiver) → Stands h given r → plain_due h ≡ plain_told r
plain_same h given r s = ap₂ (λ w p. w && (p == 0)) s.owed s.status_prohibit_timer

pub due_is : (h : Holding) (given : ℕ) (r : Receiver) → Stands h given r → is_due h ≡ is_told r
due_is h given r s = ap₂ (λ (o : Option (ℕ × ℕ)) b. some_ack o || b) s.ack (plain_same h given r s) ∙ due_same r.ack (plain_told r)

pub told_stands : (h : Holding) (buffer given : ℕ) (r : Receiver) → Stands h given r → Stands (after_telling h) given (after_told (rules_of buffer h.rules) r)
told_stands h buffer given r s =
    let p : plain_due h ≡ plain_told r = plain_same h given r s in
    record {
      next = s.next;
      highest = s.highest;
      places = s.places;
      passed = s.passed;
      trim = s.trim;
      past = s.past;
      units = s.units;
      ack = refl;
      owed = ap₂ (λ w b. w && not b) s.owed p;
      status_prohibit_timer = ap₂ (λ b x. if b then h.rules.status_prohibit else x) p s.status_prohibit_timer;
      period = ap₂ (λ b x. if b then h.rules.status_period else x) p s.period;
    }

-- numbers and runs from another one on
abbrev pub shift : ℕ → ℕ × ℕ → ℕ × ℕ
shift m p = (m + p.0, p.1)

vacant_shift : (m n : ℕ) (ps : List (Option Body)) → vacant (m + n) ps ≡ map (λ x. m + x) (vacant n ps)
vacant_shift m n [] = refl
vacant_shift m n (None ∷ ps) = let e : m + n + 1 ≡ m + (n + 1) = omega arith in ap (λ xs. (m + n) ∷ xs) (ap (λ k. vacant k ps) e ∙ vacant_shift m (n + 1) ps)
vacant_shift m n (Some b ∷ ps) = let e : m + n + 1 ≡ m + (n + 1) = omega arith in ap (λ k. vacant k ps) e ∙ vacant_shift m (n + 1) ps

from_shift : (m first more : ℕ) (xs : List ℕ) → runs_from (m + first) more (map (λ x. m + x) xs) ≡ map (shift m) (runs_from first more xs)
from_shift m first more [] = refl
from_shift m first more (x ∷ xs) = go ((x == first + more + 1) && nat_lt more 15) refl (from_shift m first (more + 1) xs) (from_shift m x 0 xs)
  where
    go : (b : Bool) → ((x == first + more + 1) && nat_lt more 15) ≡ b → runs_from (m + first) (more + 1) (map (λ x. m + x) xs) ≡ map (shift m) (runs_from first (more + 1) xs) → runs_from (m + x) 0 (map (λ x. m + x) xs) ≡ map (shift m) (runs_from x 0 xs) → runs_from (m + first) more (map (λ x. m + x) (x ∷ xs)) ≡ map (shift m) (runs_from first more (x ∷ xs))
    go true e one other = let f : ((m + x == m + first + more + 1) && nat_lt more 15) ≡ true = grind (arith, nat_tests) in rw (e, f) one
    go false e one other = let f : ((m + x == m + first + more + 1) && nat_lt more 15) ≡ false = grind (arith, nat_tests) in rw (e, f) (ap (λ ps. (m + first, more) ∷ ps) other)

runs_shift : (m : ℕ) (xs : List ℕ) → runs (map (λ x. m + x) xs) ≡ map (shift m) (runs xs)
runs_shift m [] = refl
runs_shift m (x ∷ xs) = from_shift m x 0 xs

less_vacant : (from : ℕ) (ps : List (Option Body)) (xs : List ℕ) → ((i : ℕ) → has (from + i) xs ≡ is_kept ps i) → less (range from (length ps)) xs ≡ vacant from ps
less_vacant from [] xs all = refl
less_vacant from (None ∷ ps) xs all =
    let at : from + 0 ≡ from = omega arith in
    let absent : has from xs ≡ false = ap (λ k. has k xs) (sym at) ∙ all 0 in
    rw absent (ap (λ ys. from ∷ ys) (less_vacant (from + 1) ps xs (λ i. let e : from + 1 + i ≡ from + suc i = omega arith in ap (λ k. has k xs) e ∙ all (suc i))))
less_vacant from (Some b ∷ ps) xs all =
    let at : from + 0 ≡ from = omega arith in
    let here : has from xs ≡ true = ap (λ k. has k xs) (sym at) ∙ all 0 in
    rw here (less_vacant (from + 1) ps xs (λ i. let e : from + 1 + i ≡ from + suc i = omega arith in ap (λ k. has k xs) e ∙ all (suc i)))

-- the runs of what is missing
runs_are : (h : Holding) (given : ℕ) (r : Receiver) → Stands h given r → runs (missing (got r) (vr_r r) (vr_h r)) ≡ map (shift (vr_r r)) (missing_runs h)
runs_are h given r s =
    let count : vr_h r - vr_r r ≡ length h.kept.places = omega (arith, s.highest) in
    let at : vr_r r + 0 ≡ vr_r r = omega arith in
    ap (λ n. runs (less (range (vr_r r) n) (got r))) count
    ∙ (ap runs (less_vacant (vr_r r) h.kept.places (got r) (λ i. there h given r i s) ∙ (ap (λ k. vacant k h.kept.places) (sym at) ∙ vacant_shift (vr_r r) 0 h.kept.places))
    ∙ runs_shift (vr_r r) (vacant 0 h.kept.places))

length-shift : (m : ℕ) (ps : List (ℕ × ℕ)) → length (map (shift m) ps) ≡ length ps
length-shift m [] = refl
length-shift m (p ∷ ps) = ap suc (length-shift m ps)

wrapped_shift : (m next n : ℕ) (ps : List (ℕ × ℕ)) → next ≡ wrapped m → map wrapped_pair (take n (map (shift m) ps)) ≡ map (numbered next) (take n ps)
wrapped_shift m next zero ps e = refl
wrapped_shift m next (suc n) [] e = refl
wrapped_shift m next (suc n) (p ∷ ps) e = let q : wrapped (m + p.0) ≡ (next + p.0) % 4096 = omega arith in ap₂ (λ (x : ℕ) (xs : List (ℕ × ℕ)). (x, p.1) ∷ xs) q (wrapped_shift m next n ps e)

lsn_same : (next low high count : ℕ) (b : Bool) → next ≡ wrapped low → high ≡ low + count → wrapped (if b then high else low) ≡ (next + (if b then count else 0)) % 4096
lsn_same next low high count true e f = omega arith
lsn_same next low high count false e f = omega arith

pub pairs_are : (h : Holding) (bits given : ℕ) (r : Receiver) → Stands h given r → map wrapped_pair (status_of bits (got r)).pairs ≡ pairs_told bits h
pairs_are h bits given r s =
    ap (λ (ps : List (ℕ × ℕ)). map wrapped_pair (take (most bits (length ps)) ps)) (runs_are h given r s)
    ∙ (ap (λ n. map wrapped_pair (take (most bits n) (map (shift (vr_r r)) (missing_runs h)))) (length-shift (vr_r r) (missing_runs h))
    ∙ wrapped_shift (vr_r r) h.next (most bits (length (missing_runs h))) (missing_runs h) s.next)

pub lsn_is : (h : Holding) (bits given : ℕ) (r : Receiver) → Stands h given r → wrapped (status_of bits (got r)).lsn ≡ lsn_told bits h
lsn_is h bits given r s =
    ap (λ (n : ℕ). wrapped (if most bits n == n then vr_h r else vr_r r)) (ap length (runs_are h given r s) ∙ length-shift (vr_r r) (missing_runs h))
    ∙ lsn_same h.next (vr_r r) (vr_h r) (length h.kept.places) (most bits (length (missing_runs h)) == length (missing_runs h)) s.next s.highest

told_same : (h : Holding) (bits given : ℕ) (r : Receiver) (o : Option MrwAck) (plain : Bool) → Stands h given r → (some_ack (sent_ack o) || plain) ≡ true → Some (fields_told (sent_ack o) plain bits h) ≡ said (telling bits r o plain)
told_same h bits given r None false s due = absurd (cc)
told_same h bits given r None true s due = ap₂ (λ (ps : List (ℕ × ℕ)) (l : ℕ). Some (status_fields ps l)) (sym (pairs_are h bits given r s)) (sym (lsn_is h bits given r s))
told_same h bits given r (Some a) false s due = refl
told_same h bits given r (Some a) true s due = ap₂ (λ (ps : List (ℕ × ℕ)) (l : ℕ). Some (mrw_status_fields a.n (wrapped a.number) ps l)) (sym (pairs_are h (bits - 20) given r s)) (sym (lsn_is h (bits - 20) given r s))

pub fields_are : (h : Holding) (bits given : ℕ) (r : Receiver) → is_due h ≡ true → Stands h given r → Some (fields_told h.ack (plain_due h) bits h) ≡ said (tells_now bits r)
fields_are h bits given r due s =
    let p : plain_due h ≡ plain_told r = plain_same h given r s in
    ap₂ (λ (o : Option (ℕ × ℕ)) b. Some (fields_told o b bits h)) s.ack p ∙ told_same h bits given r r.ack (plain_told r) s (sym (ap₂ (λ (o : Option (ℕ × ℕ)) b. some_ack o || b) s.ack p) ∙ due)

text_same : (out : List ℕ) (h : Holding) (bits given : ℕ) (r : Receiver) (o : Option MrwAck) (plain : Bool) → Stands h given r → (some_ack (sent_ack o) || plain) ≡ true → IsText out (0 ∷ text_told (sent_ack o) plain bits h) → IsTold out (telling bits r o plain)
text_same out h bits given r None false s due is = absurd (cc)
text_same out h bits given r None true s due is = subst (λ xs. IsText out (0 ∷ xs)) (ap₂ status_text (sym (pairs_are h bits given r s)) (sym (lsn_is h bits given r s))) is
text_same out h bits given r (Some a) false s due is = is
text_same out h bits given r (Some a) true s due is = subst (λ xs. IsText out (0 ∷ xs)) (ap₂ (λ (ps : List (ℕ × ℕ)) (l : ℕ). mrw_ack_text a.n (wrapped a.number) ++ status_text ps l) (sym (pairs_are h (bits - 20) given r s)) (sym (lsn_is h (bits - 20) given r s))) is

pub text_is : (out : List ℕ) (h : Holding) (bits given : ℕ) (r : Receiver) → is_due h ≡ true → Stands h given r → IsText out (0 ∷ text_told h.ack (plain_due h) bits h) → IsTold out (tells_now bits r)
text_is out h bits given r due s is =
    let p : plain_due h ≡ plain_told r = plain_same h given r s in
    text_same out h bits given r r.ack (plain_told r) s (sym (ap₂ (λ (o : Option (ℕ × ℕ)) b. some_ack o || b) s.ack p) ∙ due)
    (subst (IsText out) (ap₂ (λ (o : Option (ℕ × ℕ)) b. 0 ∷ text_told o b bits h) s.ack p) is)

-- the other end reads what was written
pub heard : (out : List ℕ) (o : Option Told) → fields_in out ≡ said o → IsTold out o → IsHeard out o
heard out None says is = is
heard out (Some t) says is = am_back out (Status (fields_of t)) (status_written out (told_text t) (fields_of t) is says)
