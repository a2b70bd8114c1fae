-- Whether a PDU with something of an SDU was requested after it was built often enough, told PDU by PDU.
use Rattle.std.proofs.Common.{◌≡◌, ◌+◌, ◌<◌, ◌≤◌, ℕ, List, [], ◌∷◌, Bool, true, false, cond, not, ◌&&◌, ◌||◌, length, take, arith, refl, sym, ◌∙◌, subst, ⊎_elim}
use Rattle.std.specs.Prelude.{◌==◌, nat_le, nat_lt}
use Rattle.std.proofs.lemmas.Bool.{and_from, and_parts, both_ways, cases_lt, cases_order, cond-false, eq-eqb, eqb-true, false_from_ne_true, le-leb, leb-true, lt-ltb, ltb-true, not_from_false, not-true, or_cases, or_left, or_right}
use Rattle.dch_types.specs.declared.bearer.AmRules.{AmRules}
use Rattle.dch_retx.specs.declared.sent_pdu.SentPdu.{SentPdu}
use Rattle.dch_retx.specs.Flights.{continues_in, ends_in}
use Rattle.dch_am.specs.Bodies.{Body, ends, ends_of, is_empty}
use Rattle.dch_am.specs.Building.{body_at}
use Rattle.dch_am.specs.Discards.{count, due_by_sending, sent_enough, touches}
use Rattle.dch_am.specs.Numbers.{has}
use Rattle.dch_am.specs.Rules.{Rules, rules_of}
use Rattle.dch_am.specs.Sender.{Sender}
use Rattle.dch_amsend.specs.Scanning.{is_often}
use Rattle.dch_amsend.proofs.Ending.{ends-step, ends_up}

-- a PDU in flight as it stands in a sender
pub record IsPdu (rules : AmRules) (s : Sender) (k : ℕ) (f : SentPdu) : Type 0 where
  pub requested : f.requested ≡ has k s.requested
  pub enough : nat_le rules.discard_sent f.builds ≡ nat_le rules.discard_sent (count k s.sendings)
  pub full : f.full ≡ (body_at s.bodies k).full
  pub ends_are : (ends_in f) ≡ ends_of (body_at s.bodies k)
  pub goes : (continues_in f) ≡ not (is_empty (body_at s.bodies k).rest)
  pub inside : k < length s.bodies

-- a PDU is requested and was built often enough
pub record IsAsked (s : Sender) (sent k : ℕ) : Type 0 where
  pub some : 0 < sent
  pub asked : has k s.requested ≡ true
  pub enough : nat_le sent (count k s.sendings) ≡ true

-- the SDU whose end is the first from PDU k on began in such a PDU
pub record IsBegun (s : Sender) (sent k at : ℕ) : Type 0 where
  pub before : at < k
  pub asked : IsAsked s sent at
  pub goes : is_empty (body_at s.bodies at).rest ≡ false
  pub same : ends (take (at + 1) s.bodies) ≡ ends (take k s.bodies)

-- a test tells that
pub record ExactlyBegun (begun : Bool) (s : Sender) (sent k : ℕ) : Type 0 where
  pub holds : begun ≡ true → (at : ℕ) × IsBegun s sent k at
  pub told : (at : ℕ) → IsBegun s sent k at → begun ≡ true

-- what is kept of a PDU tells that
often_holds : (rules : AmRules) (s : Sender) (k : ℕ) (f : SentPdu) → IsPdu rules s k f → is_often rules f ≡ true → IsAsked s rules.discard_sent k
often_holds rules s k f is e =
    let a = and_parts (nat_lt 0 rules.discard_sent && f.requested) (nat_le rules.discard_sent f.builds) e in
    let b = and_parts (nat_lt 0 rules.discard_sent) f.requested a.0 in
    record { some = ltb-true 0 rules.discard_sent b.0; asked = sym is.requested ∙ b.1; enough = sym is.enough ∙ a.1 }

-- the same, from the sender
often_told : (rules : AmRules) (s : Sender) (k : ℕ) (f : SentPdu) → IsPdu rules s k f → IsAsked s rules.discard_sent k → is_often rules f ≡ true
often_told rules s k f is a = and_from (nat_lt 0 rules.discard_sent && f.requested) (nat_le rules.discard_sent f.builds) (and_from (nat_lt 0 rules.discard_sent) f.requested (lt-ltb 0 rules.discard_sent a.some) (is.requested ∙ a.asked)) (is.enough ∙ a.enough)

-- one of the numbers does
sent_some : (rules : Rules) (s : Sender) (i : ℕ) (ks : List ℕ) → sent_enough rules s i ks ≡ true → (k : ℕ) × (has k ks ≡ true) × (touches s.bodies k i ≡ true) × (nat_le rules.discard_sent (count k s.sendings) ≡ true)
sent_some rules s i [] e = absurd (both_ways false refl e)
sent_some rules s i (k ∷ ks) e = ⊎_elim
    (λ (h : (touches s.bodies k i && nat_le rules.discard_sent (count k s.sendings)) ≡ true). let p = and_parts (touches s.bodies k i) (nat_le rules.discard_sent (count k s.sendings)) h in (k, or_left (k == k) (has k ks) (eq-eqb k k refl), p.0, p.1))
    (λ (h : sent_enough rules s i ks ≡ true). let w = sent_some rules s i ks h in (w.0, or_right (w.0 == k) (has w.0 ks) w.1, w.2, w.3))
    (or_cases (touches s.bodies k i && nat_le rules.discard_sent (count k s.sendings)) (sent_enough rules s i ks) e)

-- and where one does, the test tells
sent_from : (rules : Rules) (s : Sender) (i : ℕ) (ks : List ℕ) (k : ℕ) → has k ks ≡ true → touches s.bodies k i ≡ true → nat_le rules.discard_sent (count k s.sendings) ≡ true → sent_enough rules s i ks ≡ true
sent_from rules s i [] k e t n = absurd (both_ways false refl e)
sent_from rules s i (y ∷ ks) k e t n = ⊎_elim
    (λ (h : (k == y) ≡ true). subst (λ x. ((touches s.bodies x i && nat_le rules.discard_sent (count x s.sendings)) || sent_enough rules s i ks) ≡ true) (eqb-true k y h) (or_left (touches s.bodies k i && nat_le rules.discard_sent (count k s.sendings)) (sent_enough rules s i ks) (and_from (touches s.bodies k i) (nat_le rules.discard_sent (count k s.sendings)) t n)))
    (λ (h : has k ks ≡ true). or_right (touches s.bodies y i && nat_le rules.discard_sent (count y s.sendings)) (sent_enough rules s i ks) (sent_from rules s i ks k h t n))
    (or_cases (k == y) (has k ks) e)

-- what a PDU carries of an SDU behind its ends is what goes on in the next
touches_past : (bodies : List Body) (k i : ℕ) → touches bodies k i ≡ true → ends (take (k + 1) bodies) ≤ i → (is_empty (body_at bodies k).rest ≡ false) × (i ≡ ends (take (k + 1) bodies))
touches_past bodies k i t l = go (is_empty (body_at bodies k).rest) refl (and_parts (nat_le (ends (take k bodies)) i) (nat_lt i (ends (take (k + 1) bodies) + cond (is_empty (body_at bodies k).rest) 0 1)) t).1
  where
    go : (b : Bool) → is_empty (body_at bodies k).rest ≡ b → nat_lt i (ends (take (k + 1) bodies) + cond b 0 1) ≡ true → (is_empty (body_at bodies k).rest ≡ false) × (i ≡ ends (take (k + 1) bodies))
    go true e h = absurd (omega (arith, ltb-true i (ends (take (k + 1) bodies) + 0) h))
    go false e h = (e, omega (arith, ltb-true i (ends (take (k + 1) bodies) + 1) h))

-- what a PDU carries begins no earlier than its first end
touches_low : (bodies : List Body) (k i : ℕ) → touches bodies k i ≡ true → ends (take k bodies) ≤ i
touches_low bodies k i t = leb-true (ends (take k bodies)) i (and_parts (nat_le (ends (take k bodies)) i) (nat_lt i (ends (take (k + 1) bodies) + cond (is_empty (body_at bodies k).rest) 0 1)) t).0

-- two tests that tell one of the other are the same
same_bool : (a b : Bool) → (a ≡ true → b ≡ true) → (b ≡ true → a ≡ true) → a ≡ b
same_bool true b f g = sym (f refl)
same_bool false b f g = sym (false_from_ne_true b (λ e. both_ways false refl (g e)))

-- an SDU that ends in a PDU is due by what was sent
due_told : (buffer : ℕ) (rules : AmRules) (s : Sender) (k j : ℕ) (f : SentPdu) (begun : Bool) → IsPdu rules s k f → ExactlyBegun begun s rules.discard_sent k → j < ends_of (body_at s.bodies k) → due_by_sending (rules_of buffer rules) s (ends (take k s.bodies) + j) ≡ true → (is_often rules f || ((j == 0) && begun)) ≡ true
due_told buffer rules s k j f begun is exact l e =
    let i : ℕ = ends (take k s.bodies) + j in
    let p = and_parts (nat_lt 0 rules.discard_sent) (sent_enough (rules_of buffer rules) s (ends (take k s.bodies) + j) s.requested) e in
    let w = sent_some (rules_of buffer rules) s (ends (take k s.bodies) + j) s.requested p.1 in
    let some : 0 < rules.discard_sent = ltb-true 0 rules.discard_sent p.0 in
    let asked : IsAsked s rules.discard_sent w.0 = record { some = some; asked = w.1; enough = w.3 } in
    ⊎_elim
    (λ (q : w.0 ≡ k). or_left (is_often rules f) ((j == 0) && begun) (often_told rules s k f is (subst (λ n. IsAsked s rules.discard_sent n) q asked)))
    (λ h. ⊎_elim
    (λ (q : w.0 < k).
    let low : ends (take (w.0 + 1) s.bodies) ≤ ends (take k s.bodies) = ends_up s.bodies (w.0 + 1) k (omega arith) in
    let past = touches_past s.bodies w.0 (ends (take k s.bodies) + j) w.2 (omega arith) in
    let same : ends (take (w.0 + 1) s.bodies) ≡ ends (take k s.bodies) = omega (arith, past.1) in
    let first : j ≡ 0 = omega (arith, past.1) in
    or_right (is_often rules f) ((j == 0) && begun) (and_from (j == 0) begun (eq-eqb j 0 first) (exact.told w.0 (record { before = q; asked = asked; goes = past.0; same = same }))))
    (λ (q : k < w.0).
    let up : ends (take (k + 1) s.bodies) ≤ ends (take w.0 s.bodies) = ends_up s.bodies (k + 1) w.0 (omega arith) in
    absurd (omega (arith, ends-step s.bodies k is.inside, touches_low s.bodies w.0 (ends (take k s.bodies) + j) w.2)))
    h)
    (cases_order w.0 k)

-- and what the pass tells is so
due_holds : (buffer : ℕ) (rules : AmRules) (s : Sender) (k j : ℕ) (f : SentPdu) (begun : Bool) → IsPdu rules s k f → ExactlyBegun begun s rules.discard_sent k → j < ends_of (body_at s.bodies k) → (is_often rules f || ((j == 0) && begun)) ≡ true → due_by_sending (rules_of buffer rules) s (ends (take k s.bodies) + j) ≡ true
due_holds buffer rules s k j f begun is exact l e = ⊎_elim
    (λ (h : is_often rules f ≡ true).
    due k (often_holds rules s k f is h) (and_from (nat_le (ends (take k s.bodies)) (ends (take k s.bodies) + j)) (nat_lt (ends (take k s.bodies) + j) (ends (take (k + 1) s.bodies) + cond (is_empty (body_at s.bodies k).rest) 0 1)) (le-leb (ends (take k s.bodies)) (ends (take k s.bodies) + j) (omega arith)) (lt-ltb (ends (take k s.bodies) + j) (ends (take (k + 1) s.bodies) + cond (is_empty (body_at s.bodies k).rest) 0 1) (further (cond (is_empty (body_at s.bodies k).rest) 0 1)))))
    (λ (h : ((j == 0) && begun) ≡ true).
    let p = and_parts (j == 0) begun h in
    let w = exact.holds p.1 in
    let b : IsBegun s rules.discard_sent k w.0 = w.1 in
    let first : j ≡ 0 = eqb-true j 0 p.0 in
    let up : ends (take w.0 s.bodies) ≤ ends (take k s.bodies) = ends_up s.bodies w.0 k (omega (arith, b.before)) in
    let one : cond {A = ℕ} (is_empty (body_at s.bodies w.0).rest) 0 1 ≡ 1 = cond-false (is_empty (body_at s.bodies w.0).rest) 0 1 b.goes in
    due w.0 b.asked (and_from (nat_le (ends (take w.0 s.bodies)) (ends (take k s.bodies) + j)) (nat_lt (ends (take k s.bodies) + j) (ends (take (w.0 + 1) s.bodies) + cond (is_empty (body_at s.bodies w.0).rest) 0 1)) (le-leb (ends (take w.0 s.bodies)) (ends (take k s.bodies) + j) (omega arith)) (lt-ltb (ends (take k s.bodies) + j) (ends (take (w.0 + 1) s.bodies) + cond (is_empty (body_at s.bodies w.0).rest) 0 1) (omega (arith, one, b.same)))))
    (or_cases (is_often rules f) ((j == 0) && begun) e)
  where
    further : (more : ℕ) → ends (take k s.bodies) + j < ends (take (k + 1) s.bodies) + more
    further more = omega (arith, ends-step s.bodies k is.inside)

    due : (at : ℕ) → IsAsked s rules.discard_sent at → touches s.bodies at (ends (take k s.bodies) + j) ≡ true → due_by_sending (rules_of buffer rules) s (ends (take k s.bodies) + j) ≡ true
    due at a t = and_from (nat_lt 0 rules.discard_sent) (sent_enough (rules_of buffer rules) s (ends (take k s.bodies) + j) s.requested) (lt-ltb 0 rules.discard_sent a.some) (sent_from (rules_of buffer rules) s (ends (take k s.bodies) + j) s.requested at a.asked t a.enough)

-- the two agree
pub due_is : (buffer : ℕ) (rules : AmRules) (s : Sender) (k j : ℕ) (f : SentPdu) (begun : Bool) → IsPdu rules s k f → ExactlyBegun begun s rules.discard_sent k → j < ends_of (body_at s.bodies k) → (is_often rules f || ((j == 0) && begun)) ≡ due_by_sending (rules_of buffer rules) s (ends (take k s.bodies) + j)
due_is buffer rules s k j f begun is exact l = same_bool (is_often rules f || ((j == 0) && begun)) (due_by_sending (rules_of buffer rules) s (ends (take k s.bodies) + j)) (due_holds buffer rules s k j f begun is exact l) (due_told buffer rules s k j f begun is exact l)

-- the same behind one PDU more
pub begun-step : (rules : AmRules) (s : Sender) (k : ℕ) (f : SentPdu) (begun : Bool) → IsPdu rules s k f → ExactlyBegun begun s rules.discard_sent k → ExactlyBegun ((is_often rules f && (continues_in f)) || (((ends_in f) == 0) && begun)) s rules.discard_sent (k + 1)
begun-step rules s k f begun is exact = record { holds = holds; told = told }
  where
    holds : ((is_often rules f && (continues_in f)) || (((ends_in f) == 0) && begun)) ≡ true → (at : ℕ) × IsBegun s rules.discard_sent (k + 1) at
    holds e = ⊎_elim
        (λ (h : (is_often rules f && (continues_in f)) ≡ true).
        let p = and_parts (is_often rules f) (continues_in f) h in
        (k, record { before = omega arith; asked = often_holds rules s k f is p.0; goes = not-true (is_empty (body_at s.bodies k).rest) (sym is.goes ∙ p.1); same = refl }))
        (λ (h : (((ends_in f) == 0) && begun) ≡ true).
        let p = and_parts ((ends_in f) == 0) begun h in
        let w = exact.holds p.1 in
        let b : IsBegun s rules.discard_sent k w.0 = w.1 in
        let none : (ends_in f) ≡ 0 = eqb-true (ends_in f) 0 p.0 in
        (w.0, record { before = omega (arith, b.before); asked = b.asked; goes = b.goes; same = omega (arith, b.same, none, is.ends_are, ends-step s.bodies k is.inside) }))
        (or_cases (is_often rules f && (continues_in f)) (((ends_in f) == 0) && begun) e)

    told : (at : ℕ) → IsBegun s rules.discard_sent (k + 1) at → ((is_often rules f && (continues_in f)) || (((ends_in f) == 0) && begun)) ≡ true
    told at b = ⊎_elim
        (λ (l : at < k).
        let up : ends (take (at + 1) s.bodies) ≤ ends (take k s.bodies) = ends_up s.bodies (at + 1) k (omega arith) in
        let none : (ends_in f) ≡ 0 = omega (arith, b.same, is.ends_are, ends-step s.bodies k is.inside) in
        let same : ends (take (at + 1) s.bodies) ≡ ends (take k s.bodies) = omega (arith, b.same, ends-step s.bodies k is.inside) in
        or_right (is_often rules f && (continues_in f)) (((ends_in f) == 0) && begun) (and_from ((ends_in f) == 0) begun (eq-eqb (ends_in f) 0 none) (exact.told at (record { before = l; asked = b.asked; goes = b.goes; same = same }))))
        (λ (l : k ≤ at).
        let q : at ≡ k = omega (arith, b.before) in
        let c : IsBegun s rules.discard_sent (k + 1) k = subst (λ n. IsBegun s rules.discard_sent (k + 1) n) q b in
        or_left (is_often rules f && (continues_in f)) (((ends_in f) == 0) && begun) (and_from (is_often rules f) (continues_in f) (often_told rules s k f is c.asked) (is.goes ∙ not_from_false (is_empty (body_at s.bodies k).rest) c.goes)))
        (cases_lt at k)
