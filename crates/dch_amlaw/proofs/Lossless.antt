-- Where no block is lost, both directions stay whole.
use Rattle.std.proofs.Common.{◌≡◌, ◌+◌, ◌-◌, ◌*◌, ◌<◌, ◌≤◌, ◌⊎◌, ℕ, zero, suc, List, [], ◌∷◌, ◌++◌, Bool, true, false, ◌&&◌, ◌||◌, length, take, get_or, inl, inr, max, Option, Some, None, arith, refl, sym, ap, ◌∙◌, subst, ⊎_elim}
use Rattle.std.specs.Prelude.{◌==◌, nat_lt, nat_le}
use Rattle.std.proofs.lemmas.Bool.{eqb-true, eq-eqb, le-leb, lt-ltb, ltb-true, cases_lt, or_cases, or_left, or_right, and_from, false_from_ne_true}
use Rattle.std.proofs.lemmas.List.{take-append-le}
use Rattle.dch_am.specs.Numbers.{below, has, run_of, top}
use Rattle.dch_am.specs.Status.{Status, Told}
use Rattle.dch_am.specs.Bodies.{Body, ends, ends_of, next_body, no_body}
use Rattle.dch_am.specs.Building.{Choice, Again, New, Last, NoPdu, after_choice, choice}
use Rattle.dch_am.specs.Discards.{after_moving}
use Rattle.dch_am.specs.Entities.{Turn, Tells, Moves, Sends, Rests, receiver_after, sender_after, turn}
use Rattle.dch_am.specs.Moves.{after_move_in}
use Rattle.dch_am.specs.Rules.{Rules}
use Rattle.dch_am.specs.Receiver.{Receiver, vr_r}
use Rattle.dch_am.specs.Sender.{Discard, Sender, after_offer, vt_a, offered}
use Rattle.dch_am.specs.Telling.{after_telling, tells_now}
use Rattle.dch_bits.specs.declared.offer.Offer.{Offer as Answer}
use Rattle.dch_bits.specs.declared.offer.Offer.TheVariants.{Accepted, Full, WrongSize}
use Rattle.dch_am.proofs.Lists.{Is, has-append, has-below, run_in, run_le, run_reaches, top_above, top_least}
use Rattle.dch_amlaw.specs.Lossless.{AreWhole, Continues, IsWhole, NoneLost, is_loss, is_loss_event}
use Rattle.dch_amlaw.specs.Pair.{Arrive, At, Block, Build, End, Event, Far, Lose, Mrw, Near, Offer, Pair, Payload, Report, Tick, after, arrives, block_of, happens, happens_near, in_span, mrw_of, opened, payload_of, picked, report_of, run_over, turned}
use Rattle.dch_amlaw.proofs.Direction.{Direction, DiscardIs, Good, HasPlace, LineIs, choice_good, reports}
use Rattle.dch_amlaw.proofs.Handing.{has_place_at, up_to, up_to_more}
use Rattle.dch_amlaw.proofs.Hands.{AllLow, Hands, missing_is, spans_front}
use Rattle.dch_amlaw.proofs.Heard.{fields_effect, told_still}
use Rattle.dch_amlaw.proofs.History.{Both, opened_both, both_arrives, both_near, both_turned, sends, sent_all, tick_same, told_same}

-- the run over numbers that are just those below m
run_exact : (xs : List ℕ) (m : ℕ) → ((x : ℕ) → Is x xs → x < m) → ((x : ℕ) → x < m → Is x xs) → run_of xs (top xs) ≡ m
run_exact xs m low all = omega (arith, top_least xs m low, run_le xs (top xs), run_reaches xs (top xs) m (reach m all) all)
  where
    reach : (m : ℕ) → ((x : ℕ) → x < m → Is x xs) → m ≤ top xs
    reach zero all = omega arith
    reach (suc m) all =
        let l : m < top xs = top_above xs m (all m (omega arith)) in
        omega arith

up_to_mono : (bodies : List Body) (a b : ℕ) → a ≤ b → up_to bodies a ≤ up_to bodies b
up_to_mono [] zero zero l = omega arith
up_to_mono [] zero (suc b) l = omega arith
up_to_mono [] (suc a) zero l = omega arith
up_to_mono [] (suc a) (suc b) l = omega arith
up_to_mono (x ∷ bodies) zero b l = omega arith
up_to_mono (x ∷ bodies) (suc a) zero l = absurd (omega arith)
up_to_mono (x ∷ bodies) (suc a) (suc b) l =
    let m : up_to bodies a ≤ up_to bodies b = up_to_mono bodies a b (omega arith) in
    omega arith

-- what holds of a direction: of its PDUs, the receiver at its end, and its line
record Clean (bodies : List Body) (r : Receiver) (came : List ℕ) (to past : ℕ) (spans : List (ℕ × ℕ)) (line : List Block) : Type 0 where
  steady : Continues (vr_r r) line (length bodies)
  exact : (x : ℕ) → Is x (below to ++ came) → x < vr_r r
  past_le : past ≤ up_to bodies (vr_r r)
  whole : (i : ℕ) → i < up_to bodies (vr_r r) → in_span bodies spans i ≡ true

-- one more block at the back
push_pdu : (g n k : ℕ) (line : List Block) (poll : Bool) (body : Body) → k ≤ n → Continues g line n → Continues g (line ++ Payload k poll body ∷ []) (max n (k + 1))
push_pdu g n k [] poll body l c = (omega (arith, c), ap (λ m. max m (k + 1)) c)
push_pdu g n k (Payload j p b ∷ line) poll body l c = (c.0, push_pdu (max g (j + 1)) n k line poll body l c.1)
push_pdu g n k (Mrw j p u ∷ line) poll body l c = (c.0, push_pdu g n k line poll body l c.1)
push_pdu g n k (Report t ∷ line) poll body l c = push_pdu g n k line poll body l c

push_mrw : (g n k place end_of_discard : ℕ) (line : List Block) → k < n → Continues g line n → Continues g (line ++ Mrw k place end_of_discard ∷ []) n
push_mrw g n k place end_of_discard [] l c = (omega (arith, c), c)
push_mrw g n k place end_of_discard (Payload j p b ∷ line) l c = (c.0, push_mrw (max g (j + 1)) n k place end_of_discard line l c.1)
push_mrw g n k place end_of_discard (Mrw j p u ∷ line) l c = (c.0, push_mrw g n k place end_of_discard line l c.1)
push_mrw g n k place end_of_discard (Report t ∷ line) l c = push_mrw g n k place end_of_discard line l c

push_report : (g n : ℕ) (t : Told) (line : List Block) → Continues g line n → Continues g (line ++ Report t ∷ []) n
push_report g n t [] c = c
push_report g n t (Payload j p b ∷ line) c = (c.0, push_report (max g (j + 1)) n t line c.1)
push_report g n t (Mrw j p u ∷ line) c = (c.0, push_report g n t line c.1)
push_report g n t (Report u ∷ line) c = push_report g n t line c

-- both directions
record BothClean (p : Pair) : Type 0 where
  out : Clean p.near.entity.sender.bodies p.far.entity.receiver p.far.came p.far.moved_to p.far.moved_past p.far.spans p.out
  back : Clean p.far.entity.sender.bodies p.near.entity.receiver p.near.came p.near.moved_to p.near.moved_past p.near.spans p.back

clean_turned : (p : Pair) → BothClean p → BothClean (turned p)
clean_turned p c = record { out = c.back; back = c.out }

with_line : (bodies : List Body) (r : Receiver) (came : List ℕ) (to past : ℕ) (spans : List (ℕ × ℕ)) (line now : List Block) → Continues (vr_r r) now (length bodies) → Clean bodies r came to past spans line → Clean bodies r came to past spans now
with_line bodies r came to past spans line now s c = record { steady = s; exact = c.exact; past_le = c.past_le; whole = c.whole }

-- a receiver that has the same numbers
with_receiver : (bodies : List Body) (r now : Receiver) (came : List ℕ) (to past : ℕ) (spans : List (ℕ × ℕ)) (line : List Block) → vr_r now ≡ vr_r r → Clean bodies r came to past spans line → Clean bodies now came to past spans line
with_receiver bodies r now came to past spans line e c = record {
  steady = subst (λ g. Continues g line (length bodies)) (sym e) c.steady;
  exact = λ x h. omega (arith, c.exact x h, e);
  past_le = subst (λ g. past ≤ up_to bodies g) (sym e) c.past_le;
  whole = λ i l. c.whole i (subst (λ g. i < up_to bodies g) e l);
}

-- one more PDU is built
with_body : (bodies : List Body) (b : Body) (r : Receiver) (came : List ℕ) (to past : ℕ) (spans : List (ℕ × ℕ)) (line : List Block) (poll : Bool) (body : Body) → vr_r r ≤ length bodies → AllLow spans (vr_r r) → Clean bodies r came to past spans line → Clean (bodies ++ b ∷ []) r came to past spans (line ++ Payload (length bodies) poll body ∷ [])
with_body bodies b r came to past spans line poll body le low c =
    let front : up_to (bodies ++ b ∷ []) (vr_r r) ≡ up_to bodies (vr_r r) = ap ends (take-append-le (vr_r r) bodies (b ∷ []) le) in
    let long : length (bodies ++ b ∷ []) ≡ max (length bodies) (length bodies + 1) = longer bodies b ∙ omega arith in
    record {
      steady = subst (Continues (vr_r r) (line ++ Payload (length bodies) poll body ∷ [])) (sym long) (push_pdu (vr_r r) (length bodies) (length bodies) line poll body (omega arith) c.steady);
      exact = c.exact;
      past_le = omega (arith, c.past_le, front);
      whole = λ i l. spans_front bodies b spans (vr_r r) i le low ∙ c.whole i (omega (arith, l, front));
    }
  where
    longer : (xs : List Body) (b : Body) → length (xs ++ b ∷ []) ≡ length xs + 1
    longer [] b = omega arith
    longer (x ∷ xs) b = omega (arith, longer xs b)

-- an old PDU is built again
with_again : (bodies : List Body) (r : Receiver) (came : List ℕ) (to past : ℕ) (spans : List (ℕ × ℕ)) (line : List Block) (k : ℕ) (poll : Bool) (body : Body) → k < length bodies → Clean bodies r came to past spans line → Clean bodies r came to past spans (line ++ Payload k poll body ∷ [])
with_again bodies r came to past spans line k poll body l c =
    let same : max (length bodies) (k + 1) ≡ length bodies = omega arith in
    with_line bodies r came to past spans line (line ++ Payload k poll body ∷ []) (subst (Continues (vr_r r) (line ++ Payload k poll body ∷ [])) same (push_pdu (vr_r r) (length bodies) k line poll body (omega arith) c.steady)) c

-- what the near end builds at a turn
told_out : (rules : Rules) (p : Pair) (t : Option Told) → BothClean p → BothClean (sends p p.near.entity.sender (after_telling rules p.near.entity.receiver) (report_of t))
told_out rules p None c = record { out = c.out; back = record { steady = c.back.steady; exact = c.back.exact; past_le = c.back.past_le; whole = c.back.whole } }
told_out rules p (Some t) c = record {
  out = with_line p.near.entity.sender.bodies p.far.entity.receiver p.far.came p.far.moved_to p.far.moved_past p.far.spans p.out (p.out ++ Report t ∷ []) (push_report (vr_r p.far.entity.receiver) (length p.near.entity.sender.bodies) t p.out c.out.steady) c.out;
  back = record { steady = c.back.steady; exact = c.back.exact; past_le = c.back.past_le; whole = c.back.whole };
}

moves_out : (rules : Rules) (p : Pair) (d : Option Discard) → p.near.entity.sender.discard ≡ d → Both rules p → BothClean p → BothClean (sends p (after_moving rules p.near.entity.sender d) p.near.entity.receiver (mrw_of d))
moves_out rules p None e b c = c
moves_out rules p (Some d) e b c = record {
  out = with_line p.near.entity.sender.bodies p.far.entity.receiver p.far.came p.far.moved_to p.far.moved_past p.far.spans p.out (p.out ++ Mrw d.k d.n d.end_of_discard ∷ []) (push_mrw (vr_r p.far.entity.receiver) (length p.near.entity.sender.bodies) d.k d.n d.end_of_discard p.out sent c.out.steady) c.out;
  back = c.back;
}
  where
    sent : d.k < length p.near.entity.sender.bodies
    sent = (subst (DiscardIs p.near.entity.sender.bodies (vt_a p.near.entity.sender)) e b.out.discard_is).1

pdu_out : (rules : Rules) (p : Pair) (o : Choice) → Good rules p.near.entity.sender o → Both rules p → BothClean p → BothClean (sends p (after_choice o rules (p.near.octets - 2) p.near.entity.sender) p.near.entity.receiver (payload_of o rules p.near))
pdu_out rules p (Again k) good b c = record { out = with_again p.near.entity.sender.bodies p.far.entity.receiver p.far.came p.far.moved_to p.far.moved_past p.far.spans p.out k _ _ (b.out.flow.requested_sent k good) c.out; back = c.back }
pdu_out rules p New good b c = record {
  out = with_body p.near.entity.sender.bodies (next_body (p.near.octets - 2) p.near.entity.sender.unsent) p.far.entity.receiver p.far.came p.far.moved_to p.far.moved_past p.far.spans p.out _ _ (sent_all rules p.near.entity.sender p.far.entity.receiver p.far.came p.far.moved_to p.out (reports p.back) b.out) b.out_hands.low c.out;
  back = c.back;
}
pdu_out rules p (Last k) good b c = record { out = with_again p.near.entity.sender.bodies p.far.entity.receiver p.far.came p.far.moved_to p.far.moved_past p.far.spans p.out k _ _ good.1 c.out; back = c.back }
pdu_out rules p NoPdu good b c = c

build_out : (rules : Rules) (p : Pair) (t : Turn) → Both rules p → BothClean p → BothClean (sends p (sender_after t rules p.near.octets p.near.entity.sender) (receiver_after t rules p.near.entity.receiver) (block_of t rules p.near))
build_out rules p Tells b c = told_out rules p (tells_now (8 * p.near.octets) p.near.entity.receiver) c
build_out rules p Moves b c = moves_out rules p p.near.entity.sender.discard refl b c
build_out rules p Sends b c = pdu_out rules p (choice rules p.near.entity.sender) (choice_good rules p.near.entity.sender) b c
build_out rules p Rests b c = c

-- a block arrives at the near end
line_at : (bodies : List Body) (r : Receiver) (came : List ℕ) (to past : ℕ) (spans : List (ℕ × ℕ)) (line now : List Block) → line ≡ now → Clean bodies r came to past spans line → Clean bodies r came to past spans now
line_at bodies r came to past spans line now e c = subst (Clean bodies r came to past spans) e c

-- the numbers that have come are those below the expected one
all_come : (rules : Rules) (s : Sender) (r : Receiver) (came : List ℕ) (to : ℕ) (line : List Block) (ts : List Status) → Direction rules s r came to line ts → (x : ℕ) → x < vr_r r → Is x (below to ++ came)
all_come rules s r came to line ts d x l = run_in (below to ++ came) (top (below to ++ came)) x (subst (λ g. x < g) (sym (missing_is rules s r came to line ts d)) l)

is_one : (to x k : ℕ) (came : List ℕ) → Is x (below to ++ k ∷ came) → (x ≡ k) ⊎ Is x (below to ++ came)
is_one to x k came h = ⊎_elim
    (λ (a : has x (below to) ≡ true). inr (has-append x (below to) came ∙ or_left (has x (below to)) (has x came) a))
    (λ (a : ((x == k) || has x came) ≡ true). ⊎_elim (λ (q : (x == k) ≡ true). inl (eqb-true x k q)) (λ (q : has x came ≡ true). inr (has-append x (below to) came ∙ or_right (has x (below to)) (has x came) q)) (or_cases (x == k) (has x came) a))
    (or_cases (has x (below to)) ((x == k) || has x came) (sym (has-append x (below to) (k ∷ came)) ∙ h))

one_is : (to x k : ℕ) (came : List ℕ) → (x ≡ k) ⊎ Is x (below to ++ came) → Is x (below to ++ k ∷ came)
one_is to x k came h = has-append x (below to) (k ∷ came) ∙ ⊎_elim
    (λ (e : x ≡ k). or_right (has x (below to)) ((x == k) || has x came) (or_left (x == k) (has x came) (eq-eqb x k e)))
    (λ (a : Is x (below to ++ came)). ⊎_elim
    (λ (q : has x (below to) ≡ true). or_left (has x (below to)) ((x == k) || has x came) q)
    (λ (q : has x came ≡ true). or_right (has x (below to)) ((x == k) || has x came) (or_right (x == k) (has x came) q))
    (or_cases (has x (below to)) (has x came) (sym (has-append x (below to) came) ∙ a)))
    h

-- a PDU that continues
pdu_comes : (bodies : List Body) (r now : Receiver) (came : List ℕ) (to past : ℕ) (spans : List (ℕ × ℕ)) (line : List Block) (k : ℕ) (poll : Bool) (body : Body) → ((x : ℕ) → x < vr_r r → Is x (below to ++ came)) → run_over (k ∷ came) to ≡ vr_r now → Clean bodies r came to past spans (Payload k poll body ∷ line) → Clean bodies now (k ∷ came) to past ((run_over (k ∷ came) to, past) ∷ spans) line
pdu_comes bodies r now came to past spans line k poll body all e c =
    let low : (x : ℕ) → Is x (below to ++ k ∷ came) → x < max (vr_r r) (k + 1) = λ x h. ⊎_elim (λ (q : x ≡ k). omega (arith, q)) (λ (q : Is x (below to ++ came)). omega (arith, c.exact x q)) (is_one to x k came h) in
    let high : (x : ℕ) → x < max (vr_r r) (k + 1) → Is x (below to ++ k ∷ came) = λ x l. one_is to x k came (⊎_elim (λ (q : x < vr_r r). inr (all x q)) (λ (q : vr_r r ≤ x). inl (omega (arith, c.steady.0, l, q))) (cases_lt x (vr_r r))) in
    let run : run_over (k ∷ came) to ≡ max (vr_r r) (k + 1) = run_exact (below to ++ k ∷ came) (max (vr_r r) (k + 1)) low high in
    let is : vr_r now ≡ max (vr_r r) (k + 1) = sym e ∙ run in
    let grown : up_to bodies (vr_r r) ≤ up_to bodies (vr_r now) = up_to_mono bodies (vr_r r) (vr_r now) (omega (arith, is)) in
    record {
      steady = subst (λ g. Continues g line (length bodies)) (sym is) c.steady.1;
      exact = λ x h. omega (arith, low x h, is);
      past_le = omega (arith, c.past_le, grown);
      whole = λ i l. ⊎_elim
          (λ (q : i < up_to bodies (vr_r r)). or_right (nat_le past i && nat_lt i (up_to bodies (run_over (k ∷ came) to))) (in_span bodies spans i) (c.whole i q))
          (λ (q : up_to bodies (vr_r r) ≤ i). or_left (nat_le past i && nat_lt i (up_to bodies (run_over (k ∷ came) to))) (in_span bodies spans i) (and_from _ _ (le-leb past i (omega (arith, c.past_le, q))) (lt-ltb i (up_to bodies (run_over (k ∷ came) to)) (subst (λ g. i < up_to bodies g) (sym e) l))))
          (cases_lt i (up_to bodies (vr_r r)));
    }

-- an MRW of a PDU that has come
mrw_comes : (bodies : List Body) (r now : Receiver) (came : List ℕ) (to past : ℕ) (spans : List (ℕ × ℕ)) (line : List Block) (k n end_of_discard : ℕ) → ((x : ℕ) → x < vr_r r → Is x (below to ++ came)) → run_over came (max to k) ≡ vr_r now → vr_r r ≤ length bodies → HasPlace bodies k n end_of_discard → Clean bodies r came to past spans (Mrw k n end_of_discard ∷ line) → Clean bodies now came (max to k) (max past end_of_discard) ((run_over came (max to k), max past end_of_discard) ∷ spans) line
mrw_comes bodies r now came to past spans line k n end_of_discard all e le place c =
    let at = has_place_at bodies k n end_of_discard place in
    let more : up_to bodies (k + 1) ≡ up_to bodies k + ends_of (get_or bodies k no_body) = up_to_more bodies k (omega (arith, c.steady.0, le)) in
    let inside : up_to bodies (k + 1) ≤ up_to bodies (vr_r r) = up_to_mono bodies (k + 1) (vr_r r) (omega (arith, c.steady.0)) in
    let upto_le : end_of_discard ≤ up_to bodies (vr_r r) = omega (arith, place.1, at.high, more, inside) in
    let passed : (x : ℕ) → Is x (below (max to k)) → x < max to k = λ x h. ltb-true x (max to k) (sym (has-below x (max to k)) ∙ h) in
    let low : (x : ℕ) → Is x (below (max to k) ++ came) → x < vr_r r = λ x h. ⊎_elim
    (λ (q : has x (below (max to k)) ≡ true). ⊎_elim
    (λ (a : x < to). c.exact x (has-append x (below to) came ∙ or_left (has x (below to)) (has x came) (has-below x to ∙ lt-ltb x to a)))
    (λ (a : to ≤ x). omega (arith, passed x q, a, c.steady.0))
    (cases_lt x to))
    (λ (q : has x came ≡ true). c.exact x (has-append x (below to) came ∙ or_right (has x (below to)) (has x came) q))
    (or_cases (has x (below (max to k))) (has x came) (sym (has-append x (below (max to k)) came) ∙ h)) in
    let high : (x : ℕ) → x < vr_r r → Is x (below (max to k) ++ came) = λ x l. has-append x (below (max to k)) came ∙ ⊎_elim
    (λ (q : has x (below to) ≡ true). or_left (has x (below (max to k))) (has x came) (has-below x (max to k) ∙ lt-ltb x (max to k) (omega (arith, ltb-true x to (sym (has-below x to) ∙ q)))))
    (λ (q : has x came ≡ true). or_right (has x (below (max to k))) (has x came) q)
    (or_cases (has x (below to)) (has x came) (sym (has-append x (below to) came) ∙ all x l)) in
    let is : vr_r now ≡ vr_r r = sym e ∙ run_exact (below (max to k) ++ came) (vr_r r) low high in
    record {
      steady = subst (λ g. Continues g line (length bodies)) (sym is) c.steady.1;
      exact = λ x h. omega (arith, low x h, is);
      past_le = subst (λ g. max past end_of_discard ≤ up_to bodies g) (sym is) (omega (arith, c.past_le, upto_le));
      whole = λ i l. or_right (nat_le (max past end_of_discard) i && nat_lt i (up_to bodies (run_over came (max to k)))) (in_span bodies spans i) (c.whole i (subst (λ g. i < up_to bodies g) is l));
    }

-- the sender keeps its PDUs
same_bodies : (bodies now : List Body) (r : Receiver) (came : List ℕ) (to past : ℕ) (spans : List (ℕ × ℕ)) (line : List Block) → now ≡ bodies → Clean bodies r came to past spans line → Clean now r came to past spans line
same_bodies bodies now r came to past spans line e c = subst (λ bs. Clean bs r came to past spans line) (sym e) c

offer_bodies : (o : Answer) (s : Sender) (unit : List ℕ) → (after_offer o s unit).bodies ≡ s.bodies
offer_bodies Accepted s unit = refl
offer_bodies Full s unit = refl
offer_bodies WrongSize s unit = refl

arrive_in : (rules : Rules) (p : Pair) (line : List Block) → rules.window ≤ 2048 → p.back ≡ line → Both rules p → Both rules (arrives rules p line) → BothClean p → BothClean (arrives rules p line)
arrive_in rules p [] small e b b' c = c
arrive_in rules p (Payload k poll body ∷ line) small e b b' c = record {
  out = c.out;
  back = pdu_comes p.far.entity.sender.bodies p.near.entity.receiver (arrives rules p (Payload k poll body ∷ line)).near.entity.receiver p.near.came p.near.moved_to p.near.moved_past p.near.spans line k poll body
      (all_come rules p.far.entity.sender p.near.entity.receiver p.near.came p.near.moved_to p.back (reports p.out) b.back)
      (missing_is rules p.far.entity.sender (arrives rules p (Payload k poll body ∷ line)).near.entity.receiver (k ∷ p.near.came) p.near.moved_to line (reports p.out) b'.back)
      (line_at p.far.entity.sender.bodies p.near.entity.receiver p.near.came p.near.moved_to p.near.moved_past p.near.spans p.back (Payload k poll body ∷ line) e c.back);
}
arrive_in rules p (Mrw k n end_of_discard ∷ line) small e b b' c = record {
  out = c.out;
  back = mrw_comes p.far.entity.sender.bodies p.near.entity.receiver (arrives rules p (Mrw k n end_of_discard ∷ line)).near.entity.receiver p.near.came p.near.moved_to p.near.moved_past p.near.spans line k n end_of_discard
      (all_come rules p.far.entity.sender p.near.entity.receiver p.near.came p.near.moved_to p.back (reports p.out) b.back)
      (missing_is rules p.far.entity.sender (arrives rules p (Mrw k n end_of_discard ∷ line)).near.entity.receiver p.near.came (max p.near.moved_to k) line (reports p.out) b'.back)
      (sent_all rules p.far.entity.sender p.near.entity.receiver p.near.came p.near.moved_to p.back (reports p.out) b.back)
      (subst (LineIs p.far.entity.sender.bodies) e b.back.line_is).0
      (line_at p.far.entity.sender.bodies p.near.entity.receiver p.near.came p.near.moved_to p.near.moved_past p.near.spans p.back (Mrw k n end_of_discard ∷ line) e c.back);
}
arrive_in rules p (Report t ∷ line) small e b b' c = record {
  out = same_bodies p.near.entity.sender.bodies (arrives rules p (Report t ∷ line)).near.entity.sender.bodies p.far.entity.receiver p.far.came p.far.moved_to p.far.moved_past p.far.spans p.out (ap (λ (s : Sender). s.bodies) (fields_effect rules p.near.entity.sender t) ∙ (told_same p.near.entity.sender t).0) c.out;
  back = subst (λ x. Clean p.far.entity.sender.bodies x p.near.came p.near.moved_to p.near.moved_past p.near.spans line) (sym (ap (after_move_in rules p.near.entity.receiver) (told_still t))) (with_line p.far.entity.sender.bodies p.near.entity.receiver p.near.came p.near.moved_to p.near.moved_past p.near.spans (Report t ∷ line) line heard.steady heard);
}
  where
    heard : Clean p.far.entity.sender.bodies p.near.entity.receiver p.near.came p.near.moved_to p.near.moved_past p.near.spans (Report t ∷ line)
    heard = line_at p.far.entity.sender.bodies p.near.entity.receiver p.near.came p.near.moved_to p.near.moved_past p.near.spans p.back (Report t ∷ line) e c.back

clean_near : (rules : Rules) (p : Pair) (e : Event) → rules.window ≤ 2048 → is_loss_event e ≡ false → Both rules p → BothClean p → BothClean (happens_near rules p e)
clean_near rules p (Offer unit) small kept b c = record {
  out = same_bodies p.near.entity.sender.bodies (happens_near rules p (Offer unit)).near.entity.sender.bodies p.far.entity.receiver p.far.came p.far.moved_to p.far.moved_past p.far.spans p.out (offer_bodies (offered rules p.near.entity.sender unit) p.near.entity.sender unit) c.out;
  back = c.back;
}
clean_near rules p Build small kept b c = build_out rules p (turn rules p.near.entity.sender p.near.entity.receiver) b c
clean_near rules p Arrive small kept b c = arrive_in rules p p.back small refl b (both_arrives rules p p.back small refl b) c
clean_near rules p Lose small kept b c = absurd (cc)
clean_near rules p Tick small kept b c = record {
  out = same_bodies p.near.entity.sender.bodies (happens_near rules p Tick).near.entity.sender.bodies p.far.entity.receiver p.far.came p.far.moved_to p.far.moved_past p.far.spans p.out (tick_same rules (record p.near.entity.sender { poll_timer = p.near.entity.sender.poll_timer - 1; owed = p.near.entity.sender.owed || (p.near.entity.sender.poll_timer == 1); ticks = p.near.entity.sender.ticks + 1 }) p.near.entity.sender.discard).0 c.out;
  back = record { steady = c.back.steady; exact = c.back.exact; past_le = c.back.past_le; whole = c.back.whole };
}

record Goes (rules : Rules) (p : Pair) : Type 0 where
  both : Both rules p
  clean : BothClean p

goes_turned : (rules : Rules) (p : Pair) → Goes rules p → Goes rules (turned p)
goes_turned rules p g = record { both = both_turned rules p g.both; clean = clean_turned p g.clean }

goes_near : (rules : Rules) (p : Pair) (e : Event) → rules.window ≤ 2048 → is_loss_event e ≡ false → Goes rules p → Goes rules (happens_near rules p e)
goes_near rules p e small kept g = record { both = both_near rules p e small g.both; clean = clean_near rules p e small kept g.both g.clean }

goes_one : (rules : Rules) (p : Pair) (e : At) → rules.window ≤ 2048 → is_loss e ≡ false → Goes rules p → Goes rules (happens rules p e)
goes_one rules p (Near e) small kept g = goes_near rules p e small kept g
goes_one rules p (Far e) small kept g = goes_turned rules (happens_near rules (turned p) e) (goes_near rules (turned p) e small kept (goes_turned rules p g))

goes_after : (rules : Rules) (events : List At) (p : Pair) → rules.window ≤ 2048 → NoneLost events → Goes rules p → Goes rules (after rules p events)
goes_after rules [] p small kept g = g
goes_after rules (e ∷ events) p small kept g = goes_after rules events (happens rules p e) small kept.1 (goes_one rules p e small kept.0 g)

-- picked are the first units
picked_front : (bodies : List Body) (spans : List (ℕ × ℕ)) (n i : ℕ) (us : List (List ℕ)) → ((j : ℕ) → j < n → in_span bodies spans j ≡ true) → ((j : ℕ) → in_span bodies spans j ≡ true → j < n) → picked bodies spans i us ≡ take (n - i) us
picked_front bodies spans n i [] all low = none (n - i)
  where
    none : (m : ℕ) → [] ≡ take {A = List ℕ} m []
    none zero = refl
    none (suc m) = refl
picked_front bodies spans n i (u ∷ us) all low = ⊎_elim
    (λ (l : i < n).
    let more : n - i ≡ suc (n - (i + 1)) = omega arith in
    rw (all i l) (ap (λ xs. u ∷ xs) (picked_front bodies spans n (i + 1) us all low) ∙ sym (ap (λ m. take m (u ∷ us)) more)))
    (λ (l : n ≤ i).
    let zero_is : n - i ≡ 0 = omega arith in
    let next : n - (i + 1) ≡ 0 = omega arith in
    let out : in_span bodies spans i ≡ false = false_from_ne_true _ (λ (h : in_span bodies spans i ≡ true). omega (arith, low i h)) in
    rw out (picked_front bodies spans n (i + 1) us all low ∙ ap (λ m. take m us) next ∙ sym (ap (λ m. take m (u ∷ us)) zero_is)))
    (cases_lt i n)

is_whole : (rules : Rules) (a b : End) (line : List Block) (ts : List Status) → Direction rules a.entity.sender b.entity.receiver b.came b.moved_to line ts → Hands a.entity.sender.bodies a.entity.sender.accepted b.entity.receiver b.moved_past b.spans → Clean a.entity.sender.bodies b.entity.receiver b.came b.moved_to b.moved_past b.spans line → IsWhole a b line
is_whole rules a b line ts d h c =
    let g : run_over b.came b.moved_to ≡ vr_r b.entity.receiver = missing_is rules a.entity.sender b.entity.receiver b.came b.moved_to line ts d in
    let whole_is : up_to a.entity.sender.bodies (vr_r b.entity.receiver) - 0 ≡ up_to a.entity.sender.bodies (vr_r b.entity.receiver) = omega arith in
    record {
      numbers = subst (λ n. Continues n line (length a.entity.sender.bodies)) (sym g) c.steady;
      units = h.units ∙ picked_front a.entity.sender.bodies b.spans (up_to a.entity.sender.bodies (vr_r b.entity.receiver)) 0 a.entity.sender.accepted c.whole h.inside ∙ ap (λ n. take n a.entity.sender.accepted) whole_is ∙ ap (λ n. take (up_to a.entity.sender.bodies n) a.entity.sender.accepted) (sym g);
    }

opened_clean : (rules : Rules) (first second : ℕ) → BothClean (opened rules first second)
opened_clean rules first second = record { out = none; back = none }
  where
    none : Clean [] (opened rules first second).far.entity.receiver [] 0 0 [] []
    none = record { steady = refl; exact = λ x h. absurd (cc); past_le = omega arith; whole = λ i l. absurd (omega (arith, l)) }

pub always_whole : (rules : Rules) (first second : ℕ) (events : List At) → rules.window ≤ 2048 → NoneLost events → AreWhole (after rules (opened rules first second) events)
always_whole rules first second events small kept =
    let g = goes_after rules events (opened rules first second) small kept (record { both = opened_both rules first second; clean = opened_clean rules first second }) in
    let p : Pair = after rules (opened rules first second) events in
    record {
      near_far = is_whole rules p.near p.far p.out (reports p.back) g.both.out g.both.out_hands g.clean.out;
      far_near = is_whole rules p.far p.near p.back (reports p.out) g.both.back g.both.back_hands g.clean.back;
    }
