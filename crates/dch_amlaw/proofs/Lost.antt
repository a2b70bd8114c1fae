-- No unit is lost: what is not handed up was discarded.
use Rattle.std.proofs.Common.{◌≡◌, ◌+◌, ◌-◌, ◌<◌, ◌≤◌, ◌⊎◌, ℕ, zero, suc, List, [], ◌∷◌, ◌++◌, true, ◌&&◌, ◌||◌, length, take, Option, Some, None, max, arith, refl, sym, ap, ◌∙◌, subst, inl, inr, ⊎_elim}
use Rattle.std.specs.Prelude.{◌==◌, nat_lt, nat_le}
use Rattle.std.proofs.lemmas.Bool.{leb-true, cases_lt, cond_both, or_left, or_right, and_parts}
use Rattle.dch_am.specs.Numbers.{has, range, run_of}
use Rattle.dch_am.specs.Status.{Status, Told, OnlyAck, OnlyStatus, AckAndStatus, wrapped_ack, wrapped_status}
use Rattle.dch_am.specs.Names.{named}
use Rattle.dch_am.specs.Bodies.{Body, ends}
use Rattle.dch_am.specs.Rules.{Rules}
use Rattle.dch_am.specs.Sender.{Discard, Sender, opened_sender, vt_s, vt_a}
use Rattle.dch_am.specs.Acknowledging.{read_from, ended_by, unwrap, told, ends_discard, ended_at, after_ack}
use Rattle.dch_amlaw.proofs.Heard.{after_status, told_outside, after_inside, after_told}
use Rattle.dch_am.specs.Discards.{place_from, can_take, discards_at, discards, after_tick, tick_sender}
use Rattle.dch_am.specs.Receiver.{Receiver, got, vr_r}
use Rattle.dch_amlaw.specs.Pair.{Block, Payload, Mrw, Report, in_span}
use Rattle.dch_am.proofs.Lists.{Is, has-append, in_range}
use Rattle.dch_amlaw.proofs.Flow.{flow_acked_le_arrived}
use Rattle.dch_amlaw.proofs.Direction.{payloads, pending, Direction}
use Rattle.dch_amlaw.proofs.Handing.{up_to}
use Rattle.dch_amlaw.proofs.Hands.{AllLow, Hands, up_to_grows, spans_front}

abbrev pub LineLow : List Block → ℕ → Type 0
LineLow [] n = Unit {0}
LineLow (Payload k poll body ∷ line) n = LineLow line n
LineLow (Mrw k place end_of_discard ∷ line) n = (end_of_discard ≤ n) × LineLow line n
LineLow (Report t ∷ line) n = LineLow line n

abbrev pub DiscardLow : Option Discard → ℕ → Type 0
DiscardLow None n = Unit {0}
DiscardLow (Some d) n = d.end_of_discard ≤ n

-- each unit below the count of dropped ones is handed up or discarded, and no MRW is beyond it
pub record Lost (s : Sender) (line : List Block) (past : ℕ) (spans : List (ℕ × ℕ)) : Type 0 where
  pub known : (i : ℕ) → i < s.dropped → (in_span s.bodies spans i ≡ true) ⊎ (Is i s.discarded_units)
  pub past_le : past ≤ s.dropped
  pub line_le : LineLow line s.dropped
  pub discard_le : DiscardLow s.discard s.dropped

pub lost_push : (line : List Block) (b : Block) (n : ℕ) → LineLow (b ∷ []) n → LineLow line n → LineLow (line ++ b ∷ []) n
lost_push [] b n e f = e
lost_push (Payload k poll body ∷ line) b n e f = lost_push line b n e f
lost_push (Mrw k place end_of_discard ∷ line) b n e f = (f.0, lost_push line b n e f.1)
lost_push (Report t ∷ line) b n e f = lost_push line b n e f

line_more : (line : List Block) (n m : ℕ) → n ≤ m → LineLow line n → LineLow line m
line_more [] n m le f = tt
line_more (Payload k poll body ∷ line) n m le f = line_more line n m le f
line_more (Mrw k place end_of_discard ∷ line) n m le f = (omega (arith, f.0), line_more line n m le f.1)
line_more (Report t ∷ line) n m le f = line_more line n m le f

-- one more moment
pub lost_spans : (s : Sender) (line : List Block) (past later : ℕ) (spans : List (ℕ × ℕ)) (p : ℕ × ℕ) → later ≤ s.dropped → Lost s line past spans → Lost s line later (p ∷ spans)
lost_spans s line past later spans p le f = record {
  known = λ i l. ⊎_elim (λ (h : in_span s.bodies spans i ≡ true). inl (or_right (nat_le p.1 i && nat_lt i (ends (take p.0 s.bodies))) _ h)) (λ (h : Is i s.discarded_units). inr h) (f.known i l);
  past_le = le;
  line_le = f.line_le;
  discard_le = f.discard_le;
}

pub lost_line : (s : Sender) (line now : List Block) (past : ℕ) (spans : List (ℕ × ℕ)) → LineLow now s.dropped → Lost s line past spans → Lost s now past spans
lost_line s line now past spans e f = record { known = f.known; past_le = f.past_le; line_le = e; discard_le = f.discard_le }

-- one more PDU
pub lost_body : (s now : Sender) (b : Body) (line : List Block) (past n : ℕ) (spans : List (ℕ × ℕ)) → n ≤ length s.bodies → AllLow spans n → now.bodies ≡ s.bodies ++ b ∷ [] → now.dropped ≡ s.dropped → now.discarded_units ≡ s.discarded_units → now.discard ≡ s.discard → Lost s line past spans → Lost now line past spans
lost_body s now b line past n spans le low eb ed eg ex f = record {
  known = λ i l. ⊎_elim (λ (h : in_span s.bodies spans i ≡ true). inl (ap (λ bs. in_span bs spans i) eb ∙ spans_front s.bodies b spans n i le low ∙ h)) (λ (h : Is i s.discarded_units). inr (ap (has i) eg ∙ h)) (f.known i (omega arith));
  past_le = omega (arith, f.past_le);
  line_le = line_more line s.dropped now.dropped (omega arith) f.line_le;
  discard_le = subst (λ d. DiscardLow d now.dropped) (sym ex) (subst (DiscardLow s.discard) (sym ed) f.discard_le);
}

-- What the receiver tells.
ended_low : (n low : ℕ) (d : Option Discard) → DiscardLow d n → DiscardLow (ended_by low d) n
ended_low n low None f = tt
ended_low n low (Some d) f = cond_both (nat_lt d.k low) _ _ (λ (x : Option Discard). DiscardLow x n) (λ _. tt) (λ _. f)

lost_status : (s : Sender) (line : List Block) (past : ℕ) (spans : List (ℕ × ℕ)) (names : List ℕ) (lsn : ℕ) → Lost s line past spans → Lost (told s names lsn) line past spans
lost_status s line past spans names lsn f = record { known = f.known; past_le = f.past_le; line_le = f.line_le; discard_le = ended_low s.dropped (run_of (told s names lsn).acked (vt_s s)) s.discard f.discard_le }

lost_after : (s : Sender) (line : List Block) (past : ℕ) (spans : List (ℕ × ℕ)) (t : Status) → Lost s line past spans → Lost (after_status s t) line past spans
lost_after s line past spans t f = lost_status s line past spans (unwrap (vt_a s) (named t.pairs)) (read_from (vt_a s) t.lsn) f

lost_discard : (s : Sender) (line : List Block) (past : ℕ) (spans : List (ℕ × ℕ)) (o : Option ℕ) → Lost s line past spans → Lost (ends_discard s o) line past spans
lost_discard s line past spans None f = f
lost_discard s line past spans (Some m) f = record { known = f.known; past_le = f.past_le; line_le = f.line_le; discard_le = tt }

lost_inside : (s : Sender) (line : List Block) (past : ℕ) (spans : List (ℕ × ℕ)) (t : Told) → Lost s line past spans → Lost (after_inside s t) line past spans
lost_inside s line past spans (OnlyAck a) f = lost_discard s line past spans (ended_at (vt_s s) s.discard (wrapped_ack a)) f
lost_inside s line past spans (OnlyStatus t) f = lost_after s line past spans (wrapped_status t) f
lost_inside s line past spans (AckAndStatus a t) f = lost_after (after_ack s (wrapped_ack a)) line past spans (wrapped_status t) (lost_discard s line past spans (ended_at (vt_s s) s.discard (wrapped_ack a)) f)

pub lost_told : (s : Sender) (line : List Block) (past : ℕ) (spans : List (ℕ × ℕ)) (t : Told) → Lost s line past spans → Lost (after_told s t) line past spans
lost_told s line past spans t f = cond_both (told_outside s t) s (after_inside s t) (λ (x : Sender). Lost x line past spans) (λ _. f) (λ _. lost_inside s line past spans t f)

-- A tick may discard: what is held and not discarded yet is discarded, and the rest is handed up.
lost_place : (bearer : Rules) (s : Sender) (r : Receiver) (line : List Block) (past : ℕ) (spans : List (ℕ × ℕ)) (i : ℕ) (p : Option (ℕ × ℕ)) → can_take bearer s i p ≡ true → ((j : ℕ) → past ≤ j → j < ends (take (vt_a s) s.bodies) → in_span s.bodies spans j ≡ true) → Lost s line past spans → Lost (discards_at s i p) line past spans
lost_place bearer s r line past spans i None t held f = f
lost_place bearer s r line past spans i (Some p) t held f = record {
  known = λ j l. ⊎_elim
      (λ (m : j < s.dropped). ⊎_elim (λ (h : in_span s.bodies spans j ≡ true). inl h) (λ (h : Is j s.discarded_units). inr (has-append j (range from count) s.discarded_units ∙ or_right _ _ h)) (f.known j m))
      (λ (m : s.dropped ≤ j). ⊎_elim (λ (h : j < base). inl (held j (omega (arith, f.past_le)) h)) (λ (h : base ≤ j). inr (has-append j (range from count) s.discarded_units ∙ or_left _ _ (in_range j from count (omega arith) (omega arith)))) (cases_lt j base))
      (cases_lt j s.dropped);
  past_le = omega (arith, f.past_le, above);
  line_le = line_more line s.dropped (i + 1) (omega (arith, above)) f.line_le;
  discard_le = omega arith;
}
  where
    base : ℕ
    base = ends (take (vt_a s) s.bodies)

    from : ℕ
    from = max s.dropped base

    count : ℕ
    count = i + 1 - from

    above : s.dropped ≤ i
    above = leb-true s.dropped i (and_parts (nat_le (vt_a s) p.0 && nat_le p.1 15) (nat_le s.dropped i) (and_parts (nat_le (vt_a s) p.0 && nat_le p.1 15 && nat_le s.dropped i) _ t).0).1

lost_discards : (bearer : Rules) (s : Sender) (r : Receiver) (line : List Block) (past : ℕ) (spans : List (ℕ × ℕ)) (n : ℕ) → ((j : ℕ) → past ≤ j → j < ends (take (vt_a s) s.bodies) → in_span s.bodies spans j ≡ true) → Lost s line past spans → Lost (discards bearer s n) line past spans
lost_discards bearer s r line past spans zero held f = f
lost_discards bearer s r line past spans (suc i) held f =
    cond_both (can_take bearer s i (place_from s.bodies 0 i)) (discards_at s i (place_from s.bodies 0 i)) (discards bearer s i) (λ (x : Sender). Lost x line past spans)
    (λ t. lost_place bearer s r line past spans i (place_from s.bodies 0 i) t held f)
    (λ _. lost_discards bearer s r line past spans i held f)

tick_by : (bearer : Rules) (s : Sender) (r : Receiver) (line : List Block) (past : ℕ) (spans : List (ℕ × ℕ)) (d : Option Discard) → s.discard ≡ d → ((j : ℕ) → past ≤ j → j < ends (take (vt_a s) s.bodies) → in_span s.bodies spans j ≡ true) → Lost s line past spans → Lost (after_tick bearer s d) line past spans
tick_by bearer s r line past spans None e held f = lost_discards bearer s r line past spans (length s.accepted) held f
tick_by bearer s r line past spans (Some d) e held f = record { known = f.known; past_le = f.past_le; line_le = f.line_le; discard_le = low }
  where
    low : d.end_of_discard ≤ s.dropped
    low = subst (λ x. DiscardLow x s.dropped) e f.discard_le

pub lost_ticks : (bearer : Rules) (s : Sender) (r : Receiver) (came : List ℕ) (to : ℕ) (line : List Block) (ts : List Status) (past : ℕ) (spans : List (ℕ × ℕ)) → Direction bearer s r came to line ts → Hands s.bodies s.accepted r past spans → Lost s line past spans → Lost (tick_sender bearer s) line past spans
lost_ticks bearer s r came to line ts past spans d h f =
    tick_by bearer (record s { poll_timer = s.poll_timer - 1; owed = s.owed || (s.poll_timer == 1); ticks = s.ticks + 1 }) r line past spans s.discard refl
    (λ j l m. h.covered j l (omega (arith, up_to_grows s.bodies (vt_a s) (vr_r r) (flow_acked_le_arrived bearer.window s.acked s.requested (length s.bodies) (got r) (payloads line) (ts ++ pending r.ack) d.flow))))
    (record { known = f.known; past_le = f.past_le; line_le = f.line_le; discard_le = f.discard_le })

pub none_lost : (s : Sender) (r : Receiver) (line : List Block) (past : ℕ) (spans : List (ℕ × ℕ)) (i : ℕ) → Hands s.bodies s.accepted r past spans → Lost s line past spans → i < up_to s.bodies (vr_r r) → (in_span s.bodies spans i ≡ true) ⊎ (Is i s.discarded_units)
none_lost s r line past spans i h f l = ⊎_elim (λ (m : i < past). f.known i (omega (arith, f.past_le))) (λ (m : past ≤ i). inl (h.covered i m l)) (cases_lt i past)

pub lost_begins : Lost opened_sender [] 0 []
lost_begins = record { known = λ i l. absurd (omega arith); past_le = omega arith; line_le = tt; discard_le = tt }
