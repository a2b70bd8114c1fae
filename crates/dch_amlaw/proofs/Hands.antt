-- The units that are handed up over a history are those whose length indicator lay below the missing number, and that no MRW had passed.
use Rattle.std.proofs.Common.{◌≡◌, ◌+◌, ◌-◌, ◌<◌, ◌≤◌, ◌⊎◌, ℕ, zero, suc, List, [], ◌∷◌, ◌++◌, Bool, true, false, cond, ◌&&◌, ◌||◌, length, take, drop, get_or, Option, Some, None, max, arith, refl, sym, ap, ◌∙◌, subst, inl, inr, ⊎_elim, length-take}
use Rattle.std.specs.Prelude.{◌==◌, nat_lt, nat_le}
use Rattle.std.proofs.lemmas.Bool.{eqb-true, eq-eqb, ltb-true, ltb-false, leb-true, leb-false, lt-ltb, le-leb, lt-leb, both_ways, cases_lt, cases_Bool, cond-true, cond-false, or_cases, or_left, or_right, and_parts, and_from, false_from_ne_true}
use Rattle.std.proofs.lemmas.Bool.Decides.{nat_tests}
use Rattle.std.proofs.lemmas.List.{append-nil, take-append-le}
use Rattle.dch_am.specs.Numbers.{has, below, top, run_of, wrapped}
use Rattle.dch_am.specs.Status.{Status}
use Rattle.dch_am.specs.Bodies.{Body, TxQueue, ends, read_bodies, no_body}
use Rattle.dch_am.specs.Rules.{Rules}
use Rattle.dch_am.specs.Sender.{Sender}
use Rattle.dch_am.specs.Discards.{place_from}
use Rattle.dch_am.specs.Receiver.{Receiver, opened_receiver, numbers, got, vr_h, vr_r, taken, after_pdu, with_pdu, read_on, body_of}
use Rattle.dch_am.specs.declared.answers.Taken.TheVariants.{Duplicate}
use Rattle.dch_am.specs.declared.answers.MrwTaken.TheVariants.{Old}
use Rattle.dch_am.specs.Moves.{obeyed_mrw, after_move, with_move, with_ack, trimmed}
use Rattle.dch_amlaw.specs.Pair.{Block, Payload, Mrw, run_over, in_span, picked}
use Rattle.dch_am.proofs.Lists.{Is, run_in, run_out, run_reaches, top_above}
use Rattle.dch_amlaw.proofs.Flow.{flow_arrived_le_next}
use Rattle.dch_am.specs.Cuts.{empty_reading, IsCut}
use Rattle.dch_am.proofs.Reading.{cut_front, cut_long}
use Rattle.dch_amlaw.proofs.Direction.{HasPlace, has_place_more, ArrivedIs, payloads, pending, Direction, IsRead, pdu_is_read, in_parts, in_low, in_high, direction_arrives, direction_moves}
use Rattle.dch_amlaw.proofs.Handing.{up_to, up_to_more, IsAt, has_place_at, indicator, drop_none, Earlier, Aligned, Cut, Stands, ran}

-- the units from a to below b, by a test of each place
span : ℕ → ℕ → ℕ → List (List ℕ) → List (List ℕ)
span a b i [] = []
span a b i (u ∷ us) = cond (nat_le a i && nat_lt i b) (u ∷ span a b (i + 1) us) (span a b (i + 1) us)

nil_middle : (a b : ℕ) → drop a (take {A = List ℕ} b []) ≡ []
nil_middle zero zero = refl
nil_middle zero (suc b) = refl
nil_middle (suc a) zero = refl
nil_middle (suc a) (suc b) = refl

none_middle : (a : ℕ) (xs : List (List ℕ)) → drop a (take 0 xs) ≡ []
none_middle zero xs = refl
none_middle (suc a) xs = refl

span_step : (a b i : ℕ) (u : List ℕ) (us : List (List ℕ)) (p q : Bool) → nat_le a i ≡ p → nat_lt i b ≡ q → cond (p && q) (u ∷ drop (a - (i + 1)) (take (b - (i + 1)) us)) (drop (a - (i + 1)) (take (b - (i + 1)) us)) ≡ drop (a - i) (take (b - i) (u ∷ us))
span_step a b i u us true true p q =
    let x : a - (i + 1) ≡ 0 = omega (arith, leb-true _ _ p) in
    let y : a - i ≡ 0 = omega (arith, leb-true _ _ p) in
    let z : b - i ≡ suc (b - (i + 1)) = omega (arith, ltb-true _ _ q) in
    ap (λ m. u ∷ drop m (take (b - (i + 1)) us)) x ∙ sym (ap (λ m. drop m (take (b - i) (u ∷ us))) y ∙ ap (λ m. take m (u ∷ us)) z)
span_step a b i u us true false p q =
    let x : b - (i + 1) ≡ 0 = omega (arith, ltb-false _ _ q) in
    let y : b - i ≡ 0 = omega (arith, ltb-false _ _ q) in
    ap (λ m. drop (a - (i + 1)) (take m us)) x ∙ none_middle (a - (i + 1)) us ∙ sym (ap (λ m. drop (a - i) (take m (u ∷ us))) y ∙ none_middle (a - i) (u ∷ us))
span_step a b i u us false true p q =
    let x : a - i ≡ suc (a - (i + 1)) = omega (arith, leb-false _ _ p) in
    let z : b - i ≡ suc (b - (i + 1)) = omega (arith, ltb-true _ _ q) in
    sym (ap (λ m. drop m (take (b - i) (u ∷ us))) x ∙ ap (λ m. drop (suc (a - (i + 1))) (take m (u ∷ us))) z)
span_step a b i u us false false p q =
    let x : b - (i + 1) ≡ 0 = omega (arith, ltb-false _ _ q) in
    let y : b - i ≡ 0 = omega (arith, ltb-false _ _ q) in
    ap (λ m. drop (a - (i + 1)) (take m us)) x ∙ none_middle (a - (i + 1)) us ∙ sym (ap (λ m. drop (a - i) (take m (u ∷ us))) y ∙ none_middle (a - i) (u ∷ us))

span_is : (a b i : ℕ) (us : List (List ℕ)) → span a b i us ≡ drop (a - i) (take (b - i) us)
unfolding span
span_is a b i [] = sym (nil_middle (a - i) (b - i))
span_is a b i (u ∷ us) = ap (λ xs. cond (nat_le a i && nat_lt i b) (u ∷ xs) xs) (span_is a b (i + 1) us) ∙ span_step a b i u us (nat_le a i) (nat_lt i b) refl refl

span_whole : (a b : ℕ) (us : List (List ℕ)) → span a b 0 us ≡ drop a (take b us)
span_whole a b us = let x : a - 0 ≡ a = omega arith in let y : b - 0 ≡ b = omega arith in span_is a b 0 us ∙ ap (λ m. drop m (take (b - 0) us)) x ∙ ap (λ m. drop a (take m us)) y

-- no more is picked where no span reaches
pub picked_none : (bodies : List Body) (spans : List (ℕ × ℕ)) (bound i : ℕ) (us : List (List ℕ)) → ((j : ℕ) → in_span bodies spans j ≡ true → j < bound) → bound ≤ i → picked bodies spans i us ≡ []
picked_none bodies spans bound i [] all le = refl
picked_none bodies spans bound i (u ∷ us) all le = cond-false (in_span bodies spans i) _ _ (false_from_ne_true _ (λ (h : in_span bodies spans i ≡ true). omega (arith, all i h))) ∙ picked_none bodies spans bound (i + 1) us all (omega arith)

-- below the old bound nothing changes, and from there on only the new span counts
more_step : (u : List ℕ) (new old mid : List (List ℕ)) (v b o m : Bool) → new ≡ old ++ mid → (((v ≡ true → o ≡ true) × (m ≡ false)) ⊎ ((o ≡ false) × (m ≡ v) × (old ≡ []))) → cond ((v && b) || o) (u ∷ new) new ≡ cond o (u ∷ old) old ++ cond (m && b) (u ∷ mid) mid
more_step u new old mid true b true m e c = ⊎_elim (λ (x : (true ≡ true → true ≡ true) × (m ≡ false)). rw x.1 (yes b e)) (λ (x : (true ≡ false) × (m ≡ true) × (old ≡ [])). absurd (both_ways true x.0 refl)) c
  where
    yes : (b : Bool) → new ≡ old ++ mid → cond (b || true) (u ∷ new) new ≡ (u ∷ old) ++ mid
    yes true e = ap (λ xs. u ∷ xs) e
    yes false e = ap (λ xs. u ∷ xs) e
more_step u new old mid true b false m e c = ⊎_elim (λ (x : (true ≡ true → false ≡ true) × (m ≡ false)). absurd (both_ways false refl (x.0 refl))) (λ (x : (false ≡ false) × (m ≡ true) × (old ≡ [])). rw x.1 (yes b (e ∙ ap (λ xs. xs ++ mid) x.2) x.2)) c
  where
    yes : (b : Bool) → new ≡ mid → old ≡ [] → cond (b || false) (u ∷ new) new ≡ old ++ cond b (u ∷ mid) mid
    yes true e z = ap (λ xs. u ∷ xs) e ∙ sym (ap (λ xs. xs ++ u ∷ mid) z)
    yes false e z = e ∙ sym (ap (λ xs. xs ++ mid) z)
more_step u new old mid false b true m e c = ⊎_elim (λ (x : (false ≡ true → true ≡ true) × (m ≡ false)). rw x.1 (ap (λ xs. u ∷ xs) e)) (λ (x : (true ≡ false) × (m ≡ false) × (old ≡ [])). absurd (both_ways true x.0 refl)) c
more_step u new old mid false b false m e c = ⊎_elim (λ (x : (false ≡ true → false ≡ true) × (m ≡ false)). rw x.1 e) (λ (x : (false ≡ false) × (m ≡ false) × (old ≡ [])). rw x.1 e) c

-- one more span adds the units from the later of its count and the old bound
picked_more : (bodies : List Body) (spans : List (ℕ × ℕ)) (g v bound past i : ℕ) (us : List (List ℕ)) → ((j : ℕ) → in_span bodies spans j ≡ true → j < bound) → ((j : ℕ) → past ≤ j → j < bound → in_span bodies spans j ≡ true) → past ≤ v → bound ≤ up_to bodies g → picked bodies ((g, v) ∷ spans) i us ≡ picked bodies spans i us ++ span (max bound v) (up_to bodies g) i us
unfolding span
picked_more bodies spans g v bound past i [] inside covered le more = refl
picked_more bodies spans g v bound past i (u ∷ us) inside covered le more =
    more_step u (picked bodies ((g, v) ∷ spans) (i + 1) us) (picked bodies spans (i + 1) us) (span (max bound v) (up_to bodies g) (i + 1) us) (nat_le v i) (nat_lt i (up_to bodies g)) (in_span bodies spans i) (nat_le (max bound v) i)
    (picked_more bodies spans g v bound past (i + 1) us inside covered le more)
    (⊎_elim (λ (l : i < bound). inl (low i l refl, lt-leb (max bound v) i (omega arith))) (λ (l : bound ≤ i). inr (false_from_ne_true _ (λ (h : in_span bodies spans i ≡ true). omega (arith, inside i h)), same_test i l, picked_none bodies spans bound (i + 1) us inside (omega arith))) (cases_lt i bound))
  where
    low : (i : ℕ) → i < bound → nat_le v i ≡ nat_le v i → (nat_le v i ≡ true → in_span bodies spans i ≡ true)
    low i l e h = covered i (omega (arith, leb-true _ _ h)) l

    same_test : (i : ℕ) → bound ≤ i → nat_le (max bound v) i ≡ nat_le v i
    same_test i l = grind (arith, nat_tests)

-- the spans of numbers that were missing before
abbrev pub AllLow : List (ℕ × ℕ) → ℕ → Type 0
AllLow [] n = Unit {0}
AllLow (p ∷ ps) n = (p.0 ≤ n) × AllLow ps n

low_more : (spans : List (ℕ × ℕ)) (n m : ℕ) → n ≤ m → AllLow spans n → AllLow spans m
low_more [] n m le f = tt
low_more (p ∷ ps) n m le f = (omega (arith, f.0), low_more ps n m le f.1)

pub record Hands (bodies : List Body) (accepted : List (List ℕ)) (r : Receiver) (past : ℕ) (spans : List (ℕ × ℕ)) : Type 0 where
  pub units : r.reading.units ≡ picked bodies spans 0 accepted
  pub inside : (i : ℕ) → in_span bodies spans i ≡ true → i < up_to bodies (vr_r r)
  pub covered : (i : ℕ) → past ≤ i → i < up_to bodies (vr_r r) → in_span bodies spans i ≡ true
  pub low : AllLow spans (vr_r r)
  pub stands : Stands bodies r.reading.part r.trim past (vr_r r)

hands_step : (bodies : List Body) (accepted : List (List ℕ)) (r now : Receiver) (past later g : ℕ) (spans : List (ℕ × ℕ)) → Hands bodies accepted r past spans → g ≡ vr_r now → past ≤ later → vr_r r ≤ vr_r now → up_to bodies (vr_r r) ≤ up_to bodies (vr_r now) → now.reading.units ≡ r.reading.units ++ drop (max (up_to bodies (vr_r r)) later) (take (up_to bodies (vr_r now)) accepted) → Stands bodies now.reading.part now.trim later (vr_r now) → Hands bodies accepted now later ((g, later) ∷ spans)
hands_step bodies accepted r now past later g spans h e le grow more units stands = subst (λ x. Hands bodies accepted now later ((x, later) ∷ spans)) (sym e) (record {
  units = units ∙ ap (λ us. us ++ drop (max (up_to bodies (vr_r r)) later) (take (up_to bodies (vr_r now)) accepted)) h.units ∙ ap (λ us. picked bodies spans 0 accepted ++ us) (sym (span_whole (max (up_to bodies (vr_r r)) later) (up_to bodies (vr_r now)) accepted)) ∙ sym (picked_more bodies spans (vr_r now) later (up_to bodies (vr_r r)) past 0 accepted h.inside h.covered le more);
  inside = λ i q. ⊎_elim (λ (t : (nat_le later i && nat_lt i (up_to bodies (vr_r now))) ≡ true). ltb-true _ _ (and_parts _ _ t).1) (λ (t : in_span bodies spans i ≡ true). omega (arith, h.inside i t)) (or_cases _ _ q);
  covered = λ i l m. or_left _ _ (and_from _ _ (le-leb _ _ l) (lt-ltb _ _ m));
  low = (omega arith, low_more spans (vr_r r) (vr_r now) grow h.low);
  stands = stands;
})

pub up_to_grows : (bodies : List Body) (m n : ℕ) → m ≤ n → up_to bodies m ≤ up_to bodies n
up_to_grows [] zero zero l = omega arith
up_to_grows [] zero (suc n) l = omega arith
up_to_grows [] (suc m) zero l = omega arith
up_to_grows [] (suc m) (suc n) l = omega arith
up_to_grows (b ∷ bodies) zero n l = omega arith
up_to_grows (b ∷ bodies) (suc m) zero l = absurd (omega arith)
up_to_grows (b ∷ bodies) (suc m) (suc n) l = omega (arith, up_to_grows bodies m n (omega arith))

-- The PDUs below a gap-free run are those that were built.
body_step : (bodies : List Body) (p : ℕ × Body) (ps : List (ℕ × Body)) (k : ℕ) (c : Bool) → (k == p.0) ≡ c → p.1 ≡ get_or bodies p.0 no_body → (c || has k (numbers ps)) ≡ true → (Is k (numbers ps) → body_of ps k ≡ get_or bodies k no_body) → cond c p.1 (body_of ps k) ≡ get_or bodies k no_body
body_step bodies p ps k true e f h rest = f ∙ ap (λ j. get_or bodies j no_body) (sym (eqb-true k p.0 e))
body_step bodies p ps k false e f h rest = rest h

body_is : (bodies : List Body) (arrived : List (ℕ × Body)) (k : ℕ) → ArrivedIs bodies arrived → Is k (numbers arrived) → body_of arrived k ≡ get_or bodies k no_body
body_is bodies [] k f h = absurd (both_ways false refl h)
body_is bodies (p ∷ ps) k f h = body_step bodies p ps k (k == p.0) refl f.1 h (λ q. body_is bodies ps k f.2 q)

bodies_are : (bodies : List Body) (r : Receiver) (from j : ℕ) → ArrivedIs bodies r.arrived → r.passed ≤ from → from ≤ j → j < vr_r r → body_of r.arrived j ≡ get_or bodies j no_body
bodies_are bodies r from j f le l m = body_is bodies r.arrived j f (⊎_elim (λ (q : j < r.passed). absurd (omega arith)) (λ (q : Is j (numbers r.arrived)). q) (in_parts r.passed (numbers r.arrived) j (run_in (got r) (vr_h r) j m)))

-- all passed numbers lie below the missing one
reaches_to : (n : ℕ) (xs : List ℕ) → n ≤ top (below n ++ xs)
reaches_to zero xs = omega arith
reaches_to (suc n) xs = omega (arith, top_above (below (suc n) ++ xs) n (in_low (suc n) xs n (omega arith)))

pub passed_le : (r : Receiver) → r.passed ≤ vr_r r
passed_le r = run_reaches (got r) (vr_h r) r.passed (reaches_to r.passed (numbers r.arrived)) (λ x l. in_low r.passed (numbers r.arrived) x l)

pub same_run : (xs ys : List ℕ) → ((x : ℕ) → Is x xs → Is x ys) → run_of xs (top xs) ≤ run_of ys (top ys)
same_run xs ys same = ⊎_elim (λ (l : run_of ys (top ys) < run_of xs (top xs)). absurd (bad l)) (λ (l : run_of xs (top xs) ≤ run_of ys (top ys)). l) (cases_lt (run_of ys (top ys)) (run_of xs (top xs)))
  where
    bad : run_of ys (top ys) < run_of xs (top xs) → ⊥
    bad l =
        let h : Is (run_of ys (top ys)) ys = same (run_of ys (top ys)) (run_in xs (top xs) (run_of ys (top ys)) l) in
        both_ways _ (run_out ys (top ys) (top_above ys (run_of ys (top ys)) h)) h

pub missing_is : (bearer : Rules) (s : Sender) (r : Receiver) (came : List ℕ) (to : ℕ) (line : List Block) (ts : List Status) → Direction bearer s r came to line ts → run_over came to ≡ vr_r r
missing_is bearer s r came to line ts d = omega (arith, same_run (below to ++ came) (got r) d.come_in, same_run (got r) (below to ++ came) d.got_in)

sent_all : (bearer : Rules) (s : Sender) (r : Receiver) (came : List ℕ) (to : ℕ) (line : List Block) (ts : List Status) → Direction bearer s r came to line ts → vr_r r ≤ length s.bodies
sent_all bearer s r came to line ts d = flow_arrived_le_next bearer.window s.acked s.requested (length s.bodies) (got r) (payloads line) (ts ++ pending r.ack) d.flow

-- A PDU arrives.
pub hands_arrives : (bearer : Rules) (s : Sender) (r : Receiver) (came : List ℕ) (to past : ℕ) (spans : List (ℕ × ℕ)) (line : List Block) (ts : List Status) (k : ℕ) (poll : Bool) (body : Body) → bearer.window ≤ 2048 → Direction bearer s r came to (Payload k poll body ∷ line) ts → Hands s.bodies s.accepted r past spans → Hands s.bodies s.accepted (after_pdu bearer (taken bearer r (wrapped k)) r (wrapped k) poll body) past ((run_over (k ∷ came) to, past) ∷ spans)
hands_arrives bearer s r came to past spans line ts k poll body small d h =
    ⊎_elim
    (λ (q : has k (got r) ≡ true). subst (λ t. Hands s.bodies s.accepted (after_pdu bearer t r (wrapped k) poll body) past ((run_over (k ∷ came) to, past) ∷ spans)) (sym (read.again q))
    (hands_step s.bodies s.accepted r (after_pdu bearer Duplicate r (wrapped k) poll body) past past (run_over (k ∷ came) to) spans h (missing_is bearer s (after_pdu bearer Duplicate r (wrapped k) poll body) (k ∷ came) to line ts (subst (λ t. Direction bearer s (after_pdu bearer t r (wrapped k) poll body) (k ∷ came) to line ts) (read.again q) after_d)) (omega arith) (omega arith) (omega arith) (sym (append-nil r.reading.units) ∙ ap (λ us. r.reading.units ++ us) (sym (nothing (max (up_to s.bodies (vr_r r)) past) (up_to s.bodies (vr_r r)) (omega arith)))) h.stands))
    (λ (q : has k (got r) ≡ false). subst (λ t. Hands s.bodies s.accepted (after_pdu bearer t r (wrapped k) poll body) past ((run_over (k ∷ came) to, past) ∷ spans)) (sym (read.first q)) (subst (λ n. Hands s.bodies s.accepted (after_kept n) past ((run_over (k ∷ came) to, past) ∷ spans)) (sym (read.number q)) (first (subst (λ n. Direction bearer s (after_kept n) (k ∷ came) to line ts) (read.number q) (subst (λ t. Direction bearer s (after_pdu bearer t r (wrapped k) poll body) (k ∷ came) to line ts) (read.first q) after_d)))))
    (cases_Bool (has k (got r)))
  where
    read : IsRead bearer r k
    read = pdu_is_read bearer s.acked s.requested (length s.bodies) r (payloads line) (ts ++ pending r.ack) k small d.flow

    after_kept : ℕ → Receiver
    after_kept n = read_on (with_pdu bearer r n poll body) (vr_r r)

    after_d : Direction bearer s (after_pdu bearer (taken bearer r (wrapped k)) r (wrapped k) poll body) (k ∷ came) to line ts
    after_d = direction_arrives bearer s r came to line ts k poll body small d

    nothing : (a b : ℕ) → b ≤ a → drop a (take b s.accepted) ≡ []
    nothing a b le = drop_none s.accepted a b le

    first : Direction bearer s (after_kept k) (k ∷ came) to line ts → Hands s.bodies s.accepted (after_kept k) past ((run_over (k ∷ came) to, past) ∷ spans)
    first d' =
        let now = after_kept k in
        let grow : vr_r r ≤ vr_r now = same_run (got r) (got now) (λ x m. ⊎_elim (λ (l : x < r.passed). in_low r.passed (k ∷ numbers r.arrived) x l) (λ (m : Is x (numbers r.arrived)). in_high r.passed (k ∷ numbers r.arrived) x (or_right _ _ m)) (in_parts r.passed (numbers r.arrived) x m)) in
        let le : vr_r now ≤ length s.bodies = sent_all bearer s now (k ∷ came) to line ts d' in
        let run = ran s.bodies s.accepted s.unsent r.trim now.arrived past (vr_r now - vr_r r) (vr_r r) (vr_r now) r.reading d.cut (omega arith) le (λ j l m. bodies_are s.bodies now (vr_r r) j d'.arrived_is (passed_le r) l m) h.stands in
        hands_step s.bodies s.accepted r now past past (run_over (k ∷ came) to) spans h (missing_is bearer s now (k ∷ came) to line ts d') (omega arith) grow (up_to_grows s.bodies (vr_r r) (vr_r now) grow) run.units run.stands

-- An MRW comes.
indicator_le : (full : Bool) (a b : ℕ) → a ≤ b → indicator full a ≤ indicator full b
indicator_le full a b le = go full
  where
    go : (f : Bool) → indicator f a ≤ indicator f b
    go true = grind (arith, nat_tests)
    go false = omega arith

-- the trim after an MRW: its own place, or the later one in the same PDU
trim_after : (bodies : List Body) (part : List ℕ) (trim : Option (ℕ × ℕ)) (past r k n end_of_discard : ℕ) → r ≤ k → HasPlace bodies k n end_of_discard → Stands bodies part trim past r → Cut bodies [] (trimmed trim k n) (max past end_of_discard) k
trim_after bodies part trim past r k n end_of_discard le has st = ⊎_elim
    (λ (a : Aligned bodies part trim past r). alone trim (before trim a.earlier) (omega (arith, a.past_le, up_to_grows bodies r k le)))
    (λ (a : Cut bodies part trim past r). ⊎_elim (λ (l : r < k). alone trim (subst (λ t. Earlier t k) (sym a.trim_is) l) (past_low a l)) (λ (l : k ≤ r). same a (omega arith)) (cases_lt r k))
    st
  where
    is : IsAt bodies k n has.0
    is = has_place_at bodies k n end_of_discard has

    before : (t : Option (ℕ × ℕ)) → Earlier t r → Earlier t k
    before None e = tt
    before (Some t) e = omega arith

    alone_is : (t : Option (ℕ × ℕ)) → Earlier t k → trimmed t k n ≡ Some (k, n)
    alone_is None e = refl
    alone_is (Some t) e = ap (λ (m : ℕ). Some (k, m)) (cond-false (t.0 == k) (max t.1 n) n (false_from_ne_true _ (λ q. omega (arith, eqb-true t.0 k q))))

    alone : (t : Option (ℕ × ℕ)) → Earlier t k → past ≤ up_to bodies k → Cut bodies [] (trimmed t k n) (max past end_of_discard) k
    alone t e low = let m : end_of_discard ≡ max past end_of_discard = omega (arith, has.1, is.low) in record { part_is = refl; place = n; trim_is = alone_is t e; has = subst (HasPlace bodies k n) m has }

    past_low : Cut bodies part trim past r → r < k → past ≤ up_to bodies k
    past_low a l = let at = has_place_at bodies r a.place past a.has in omega (arith, a.has.1, at.high, up_to_more bodies r at.sent, up_to_grows bodies (r + 1) k (omega arith))

    later : (t : Option (ℕ × ℕ)) (m : ℕ) → t ≡ Some (k, m) → trimmed t k n ≡ Some (k, max m n)
    later t m e = ap (λ x. trimmed x k n) e ∙ ap (λ (j : ℕ). Some (k, j)) (cond-true (k == k) (max m n) n (eq-eqb k k refl))

    join : (m i : ℕ) → past ≡ i + 1 → place_from bodies 0 i ≡ Some (k, m) → IsAt bodies k m i → HasPlace bodies k (max m n) (max past end_of_discard)
    join m i e p at = ⊎_elim
        (λ (l : i < has.0). let x : n ≡ max m n = omega (arith, at.at, is.at, indicator_le (get_or bodies k no_body).full (i - up_to bodies k) (has.0 - up_to bodies k) (omega arith)) in let y : end_of_discard ≡ max past end_of_discard = omega (arith, has.1) in subst (λ v. HasPlace bodies k v (max past end_of_discard)) x (subst (HasPlace bodies k n) y has))
        (λ (l : has.0 ≤ i). let x : m ≡ max m n = omega (arith, at.at, is.at, indicator_le (get_or bodies k no_body).full (has.0 - up_to bodies k) (i - up_to bodies k) (omega arith)) in let y : past ≡ max past end_of_discard = omega (arith, has.1) in subst (λ v. HasPlace bodies k v (max past end_of_discard)) x (subst (HasPlace bodies k m) y (i, e, p)))
        (cases_lt i has.0)

    same : Cut bodies part trim past r → r ≡ k → Cut bodies [] (trimmed trim k n) (max past end_of_discard) k
    same a e =
        let t : trim ≡ Some (k, a.place) = a.trim_is ∙ ap (λ (j : ℕ). Some (j, a.place)) e in
        let h : HasPlace bodies k a.place past = subst (λ j. HasPlace bodies j a.place past) e a.has in
        record { part_is = refl; place = max a.place n; trim_is = later trim a.place t; has = join a.place h.0 h.1 h.2 (has_place_at bodies k a.place past h) }

pub hands_moves : (bearer : Rules) (s : Sender) (r : Receiver) (came : List ℕ) (to past : ℕ) (spans : List (ℕ × ℕ)) (line : List Block) (ts : List Status) (k n end_of_discard : ℕ) → bearer.window ≤ 2048 → Direction bearer s r came to (Mrw k n end_of_discard ∷ line) ts → Hands s.bodies s.accepted r past spans → Hands s.bodies s.accepted (after_move (obeyed_mrw bearer r (wrapped k)) r (wrapped k) n) (max past end_of_discard) ((run_over came (max to k), max past end_of_discard) ∷ spans)
hands_moves bearer s r came to past spans line ts k n end_of_discard small d h =
    ⊎_elim
    (λ (l : k < vr_r r). subst (λ t. Hands s.bodies s.accepted (after_move t r (wrapped k) n) (max past end_of_discard) ((run_over came (max to k), max past end_of_discard) ∷ spans)) (sym (read.old l))
    (hands_step s.bodies s.accepted r (after_move Old r (wrapped k) n) past (max past end_of_discard) (run_over came (max to k)) spans h (missing_is bearer s (after_move Old r (wrapped k) n) came (max to k) line ts (subst (λ t. Direction bearer s (after_move t r (wrapped k) n) came (max to k) line ts) (read.old l) after_d)) (omega arith) (omega arith) (omega arith) (sym (append-nil r.reading.units) ∙ ap (λ us. r.reading.units ++ us) (sym (drop_none s.accepted (max (up_to s.bodies (vr_r r)) (max past end_of_discard)) (up_to s.bodies (vr_r r)) (omega arith)))) (stays l)))
    (λ (l : vr_r r ≤ k). subst (λ t. Hands s.bodies s.accepted (after_move t r (wrapped k) n) (max past end_of_discard) ((run_over came (max to k), max past end_of_discard) ∷ spans)) (sym (read.obeyed l)) (subst (λ m. Hands s.bodies s.accepted (after_obeyed m) (max past end_of_discard) ((run_over came (max to k), max past end_of_discard) ∷ spans)) (sym (read.exact l)) (obeyed l (subst (λ m. Direction bearer s (after_obeyed m) came (max to k) line ts) (read.exact l) (subst (λ t. Direction bearer s (after_move t r (wrapped k) n) came (max to k) line ts) (read.obeyed l) after_d)))))
    (cases_lt k (vr_r r))
  where
    read : IsRead bearer r k
    read = pdu_is_read bearer s.acked s.requested (length s.bodies) r (payloads line) (ts ++ pending r.ack) k small d.flow

    after_obeyed : ℕ → Receiver
    after_obeyed m = with_ack (read_on (with_move r m n) m) (wrapped k) n

    after_d : Direction bearer s (after_move (obeyed_mrw bearer r (wrapped k)) r (wrapped k) n) came (max to k) line ts
    after_d = direction_moves bearer s r came to line ts k n end_of_discard small d

    has_place : HasPlace s.bodies k n end_of_discard
    has_place = d.line_is.0

    is : IsAt s.bodies k n has_place.0
    is = has_place_at s.bodies k n end_of_discard has_place

    stays : k < vr_r r → Stands s.bodies r.reading.part r.trim (max past end_of_discard) (vr_r r)
    stays l =
        let low : end_of_discard ≤ up_to s.bodies (vr_r r) = omega (arith, has_place.1, is.high, up_to_more s.bodies k is.sent, up_to_grows s.bodies (k + 1) (vr_r r) (omega arith)) in
        ⊎_elim
        (λ (a : Aligned s.bodies r.reading.part r.trim past (vr_r r)). inl record { part_is = a.part_is; past_le = omega (arith, a.past_le); earlier = a.earlier })
        (λ (a : Cut s.bodies r.reading.part r.trim past (vr_r r)). let m : past ≡ max past end_of_discard = omega (arith, a.has.1, (has_place_at s.bodies (vr_r r) a.place past a.has).low) in inr record { part_is = a.part_is; place = a.place; trim_is = a.trim_is; has = subst (HasPlace s.bodies (vr_r r) a.place) m a.has })
        h.stands

    obeyed : vr_r r ≤ k → Direction bearer s (after_obeyed k) came (max to k) line ts → Hands s.bodies s.accepted (after_obeyed k) (max past end_of_discard) ((run_over came (max to k), max past end_of_discard) ∷ spans)
    obeyed l d' =
        let now = after_obeyed k in
        let passes : max r.passed k ≤ vr_r now = passed_le now in
        let le : vr_r now ≤ length s.bodies = sent_all bearer s now came (max to k) line ts d' in
        let run = ran s.bodies s.accepted s.unsent (trimmed r.trim k n) now.arrived (max past end_of_discard) (vr_r now - k) k (vr_r now) (record { units = r.reading.units; part = [] }) d.cut (omega arith) le (λ j a b. bodies_are s.bodies now k j d'.arrived_is (omega (arith, passed_le r)) a b) (inr (trim_after s.bodies r.reading.part r.trim past (vr_r r) k n end_of_discard l has_place h.stands)) in
        let grow : vr_r r ≤ vr_r now = omega arith in
        let start : max (up_to s.bodies k) (max past end_of_discard) ≡ max (up_to s.bodies (vr_r r)) (max past end_of_discard) = omega (arith, has_place.1, is.low, up_to_grows s.bodies (vr_r r) k l) in
        hands_step s.bodies s.accepted r now past (max past end_of_discard) (run_over came (max to k)) spans h (missing_is bearer s now came (max to k) line ts d') (omega arith) grow (up_to_grows s.bodies (vr_r r) (vr_r now) grow) (run.units ∙ ap (λ m. r.reading.units ++ drop m (take (up_to s.bodies (vr_r now)) s.accepted)) start) run.stands

-- The sender builds one more PDU.
up_to_front : (bodies : List Body) (b : Body) (n : ℕ) → n ≤ length bodies → up_to (bodies ++ b ∷ []) n ≡ up_to bodies n
up_to_front bodies b n le = ap ends (take-append-le n bodies (b ∷ []) le)

pub spans_front : (bodies : List Body) (b : Body) (spans : List (ℕ × ℕ)) (n i : ℕ) → n ≤ length bodies → AllLow spans n → in_span (bodies ++ b ∷ []) spans i ≡ in_span bodies spans i
spans_front bodies b [] n i le f = refl
spans_front bodies b (p ∷ ps) n i le f = ap (λ m. (nat_le p.1 i && nat_lt i m) || in_span (bodies ++ b ∷ []) ps i) (up_to_front bodies b p.0 (omega (arith, f.0))) ∙ ap (λ t. (nat_le p.1 i && nat_lt i (up_to bodies p.0)) || t) (spans_front bodies b ps n i le f.1)

picked_front : (bodies : List Body) (b : Body) (spans : List (ℕ × ℕ)) (n i : ℕ) (us : List (List ℕ)) → n ≤ length bodies → AllLow spans n → picked (bodies ++ b ∷ []) spans i us ≡ picked bodies spans i us
picked_front bodies b spans n i [] le f = refl
picked_front bodies b spans n i (u ∷ us) le f = ap (λ t. cond t (u ∷ picked (bodies ++ b ∷ []) spans (i + 1) us) (picked (bodies ++ b ∷ []) spans (i + 1) us)) (spans_front bodies b spans n i le f) ∙ ap (λ xs. cond (in_span bodies spans i) (u ∷ xs) xs) (picked_front bodies b spans n (i + 1) us le f)

pub hands_anew : (bodies : List Body) (b : Body) (accepted : List (List ℕ)) (r : Receiver) (past : ℕ) (spans : List (ℕ × ℕ)) → vr_r r ≤ length bodies → Hands bodies accepted r past spans → Hands (bodies ++ b ∷ []) accepted r past spans
hands_anew bodies b accepted r past spans le h = record {
  units = h.units ∙ sym (picked_front bodies b spans (vr_r r) 0 accepted le h.low);
  inside = λ i q. omega (arith, h.inside i (sym (spans_front bodies b spans (vr_r r) i le h.low) ∙ q), up_to_front bodies b (vr_r r) le);
  covered = λ i l m. spans_front bodies b spans (vr_r r) i le h.low ∙ h.covered i l (omega (arith, up_to_front bodies b (vr_r r) le));
  low = h.low;
  stands = ⊎_elim
      (λ (a : Aligned bodies r.reading.part r.trim past (vr_r r)). inl record { part_is = a.part_is ∙ sym (ap (λ (bs : List Body). (read_bodies empty_reading bs).part) (take-append-le (vr_r r) bodies (b ∷ []) le)); past_le = omega (arith, a.past_le, up_to_front bodies b (vr_r r) le); earlier = a.earlier })
      (λ (a : Cut bodies r.reading.part r.trim past (vr_r r)). inr record { part_is = a.part_is; place = a.place; trim_is = a.trim_is; has = has_place_more bodies b (vr_r r) a.place past a.has })
      h.stands;
}

-- One more unit is accepted.
pub picked_push : (bodies : List Body) (spans : List (ℕ × ℕ)) (i n : ℕ) (us : List (List ℕ)) (u : List ℕ) → i + length us ≡ n → in_span bodies spans n ≡ false → picked bodies spans i (us ++ u ∷ []) ≡ picked bodies spans i us
picked_push bodies spans i n [] u e f = let s : i ≡ n = omega arith in cond-false (in_span bodies spans i) _ _ (ap (in_span bodies spans) s ∙ f)
picked_push bodies spans i n (v ∷ us) u e f = ap (λ xs. cond (in_span bodies spans i) (v ∷ xs) xs) (picked_push bodies spans (i + 1) n us u (omega arith) f)

pub hands_unit : (bodies : List Body) (accepted : List (List ℕ)) (q : TxQueue) (u : List ℕ) (r : Receiver) (past : ℕ) (spans : List (ℕ × ℕ)) → IsCut accepted q bodies → Hands bodies accepted r past spans → Hands bodies (accepted ++ u ∷ []) r past spans
hands_unit bodies accepted q u r past spans c h = record {
  units = h.units ∙ sym (picked_push bodies spans 0 (length accepted) accepted u (omega arith) (false_from_ne_true _ (λ (t : in_span bodies spans (length accepted) ≡ true). omega (arith, h.inside (length accepted) t, few))));
  inside = h.inside;
  covered = h.covered;
  low = h.low;
  stands = h.stands;
}
  where
    few : up_to bodies (vr_r r) ≤ length accepted
    few = omega (arith, cut_long accepted q bodies (vr_r r) c, ap length (cut_front accepted q bodies (vr_r r) c), length-take (up_to bodies (vr_r r)) accepted)

pub hands_begins : (bearer : Rules) → Hands [] [] (opened_receiver bearer) 0 []
hands_begins bearer = record {
  units = refl;
  inside = λ i q. absurd (both_ways false refl q);
  covered = λ i l m. absurd (omega arith);
  low = tt;
  stands = inl record { part_is = refl; past_le = omega arith; earlier = tt };
}
