-- The numbers of one direction: what is in flight, what has arrived and what is acknowledged.
use Rattle.std.proofs.Common.{◌≡◌, ◌+◌, ◌<◌, ◌≤◌, ◌⊎◌, ℕ, List, [], ◌∷◌, ◌++◌, Bool, true, false, ◌||◌, arith, refl, sym, ◌∙◌, ⊎_elim}
use Rattle.std.specs.Prelude.{max, ◌==◌}
use Rattle.std.proofs.lemmas.Bool.{eqb-true, eq-eqb, or_cases, or_left, or_right, both_ways, false_from_ne_true, cases_lt}
use Rattle.dch_am.specs.Numbers.{has, top, run_of}
use Rattle.dch_am.specs.Status.{Status}
use Rattle.dch_am.specs.Names.{named}
use Rattle.dch_am.proofs.Lists.{Is, has-append, run_le, run_in, run_out, run_not_above, run_grows, top_above, top_least}
use Rattle.dch_amlaw.proofs.Written.{acks, reports, IsRight}

-- each number in flight is not below whatever was sent before it, less the window. All that are seen are below the bound
abbrev pub Follows : ℕ → ℕ → List ℕ → Type 0
Follows window bound [] = Unit {0}
Follows window bound (k ∷ line) = (bound ≤ k + window) × Follows window (max bound (k + 1)) line

-- no status in flight tells of a number that is acknowledged, or that one ahead of it acknowledges
abbrev pub Open : (ℕ → Bool) → List Status → Type 0
Open acked [] = Unit {0}
Open acked (t ∷ line) = ((x : ℕ) → reports t x ≡ true → acked x ≡ false) × Open (λ x. acks t x || acked x) line

-- what each status in flight acknowledges has arrived, and its numbers are sent
pub record IsSound (arrived : List ℕ) (next : ℕ) (t : Status) : Type 0 where
  pub acks_arrived : (x : ℕ) → acks t x ≡ true → Is x arrived
  pub names_sent : (x : ℕ) → Is x (named t.pairs) → x < next
  pub lsn_sent : t.lsn ≤ next

abbrev pub AllSound : List ℕ → ℕ → List Status → Type 0
AllSound arrived next [] = Unit {0}
AllSound arrived next (t ∷ line) = IsSound arrived next t × AllSound arrived next line

pub record Flow (window : ℕ) (acked requested : List ℕ) (next : ℕ) (arrived line : List ℕ) (statuses : List Status) : Type 0 where
  pub room : next ≤ run_of acked next + window
  pub acked_arrived : (x : ℕ) → Is x acked → Is x arrived
  pub arrived_sent : (x : ℕ) → Is x arrived → x < next
  pub line_sent : (x : ℕ) → Is x line → x < next
  pub requested_open : (x : ℕ) → Is x requested → has x acked ≡ false
  pub requested_sent : (x : ℕ) → Is x requested → x < next
  pub follows : Follows window (top arrived) line
  pub sound : AllSound arrived next statuses
  pub opens : Open (λ x. has x acked) statuses

-- a lower bound
follows_less : (window bound less : ℕ) (line : List ℕ) → less ≤ bound → Follows window bound line → Follows window less line
follows_less window bound less [] le f = tt
follows_less window bound less (k ∷ line) le f = (omega (arith, f.0), follows_less window (max bound (k + 1)) (max less (k + 1)) line (omega arith) f.1)

follows_push : (window k bound : ℕ) (line : List ℕ) → bound ≤ k + window → ((x : ℕ) → Is x line → x < k + window) → Follows window bound line → Follows window bound (line ++ k ∷ [])
follows_push window k bound [] all rest f = (all, tt)
follows_push window k bound (j ∷ line) all rest f =
    let l : j < k + window = rest j (or_left _ _ (eq-eqb j j refl)) in
    (f.0, follows_push window k (max bound (j + 1)) line (omega arith) (λ x h. rest x (or_right _ _ h)) f.1)

open_fewer : (acked fewer : ℕ → Bool) (line : List Status) → ((x : ℕ) → fewer x ≡ true → acked x ≡ true) → Open acked line → Open fewer line
open_fewer acked fewer [] sub f = tt
open_fewer acked fewer (t ∷ line) sub f = ((λ x h. false_from_ne_true _ (λ q. both_ways _ (f.0 x h) (sub x q))), open_fewer (λ x. acks t x || acked x) (λ x. acks t x || fewer x) line (λ x h. ⊎_elim (λ q. or_left _ _ q) (λ q. or_right _ _ (sub x q)) (or_cases _ _ h)) f.1)

-- a status that tells only of what has not arrived
open_push : (arrived : List ℕ) (next : ℕ) (acked : ℕ → Bool) (line : List Status) (t : Status) → ((x : ℕ) → acked x ≡ true → Is x arrived) → AllSound arrived next line → ((x : ℕ) → reports t x ≡ true → has x arrived ≡ false) → Open acked line → Open acked (line ++ t ∷ [])
open_push arrived next acked [] t in_arrived sound out f = ((λ x h. false_from_ne_true _ (λ q. both_ways _ (out x h) (in_arrived x q))), tt)
open_push arrived next acked (u ∷ line) t in_arrived sound out f = (f.0, open_push arrived next (λ x. acks u x || acked x) line t (λ x h. ⊎_elim (λ q. sound.0.acks_arrived x q) (λ q. in_arrived x q) (or_cases _ _ h)) sound.1 out f.1)

sound_more : (arrived more : List ℕ) (next later : ℕ) (line : List Status) → next ≤ later → ((x : ℕ) → Is x arrived → Is x more) → AllSound arrived next line → AllSound more later line
sound_more arrived more next later [] le sub f = tt
sound_more arrived more next later (t ∷ line) le sub f = (
  record {
    acks_arrived = λ x h. sub x (f.0.acks_arrived x h);
    names_sent = λ x h. omega (arith, f.0.names_sent x h);
    lsn_sent = omega (arith, f.0.lsn_sent);
  },
  sound_more arrived more next later line le sub f.1,
)

sound_push : (arrived : List ℕ) (next : ℕ) (line : List Status) (t : Status) → IsSound arrived next t → AllSound arrived next line → AllSound arrived next (line ++ t ∷ [])
sound_push arrived next [] t s f = (s, tt)
sound_push arrived next (u ∷ line) t s f = (f.0, sound_push arrived next line t s f.1)

-- A number is put in flight: a requested one, a new one or the last one again.
pub flow_sends : (window : ℕ) (acked requested : List ℕ) (next : ℕ) (arrived line : List ℕ) (statuses : List Status) (k later : ℕ) (left : List ℕ) → Flow window acked requested next arrived line statuses → next ≤ later → k < later → later ≤ run_of acked next + window → run_of acked next ≤ k → ((x : ℕ) → Is x left → Is x requested) → Flow window acked left later arrived (line ++ k ∷ []) statuses
flow_sends window acked requested next arrived line statuses k later left f le lt room low sub = record {
  room = omega (arith, run_grows acked acked next later le (λ x h. h));
  acked_arrived = f.acked_arrived;
  arrived_sent = λ x h. omega (arith, f.arrived_sent x h);
  line_sent = λ x h. ⊎_elim (λ (q : Is x line). omega (arith, f.line_sent x q)) (λ (q : Is x (k ∷ [])). let e : x ≡ k = only x k q in omega arith) (or_cases _ _ (sym (has-append x line (k ∷ [])) ∙ h));
  requested_open = λ x h. f.requested_open x (sub x h);
  requested_sent = λ x h. omega (arith, f.requested_sent x (sub x h));
  follows = follows_push window k (top arrived) line (omega (arith, top_least arrived next f.arrived_sent, f.room)) (λ x h. omega (arith, f.line_sent x h, f.room)) f.follows;
  sound = sound_more arrived arrived next later statuses le (λ x h. h) f.sound;
  opens = f.opens;
}
  where
    only : (x k : ℕ) → Is x (k ∷ []) → x ≡ k
    only x k q = ⊎_elim (λ (e : (x == k) ≡ true). eqb-true x k e) (λ (e : false ≡ true). absurd (both_ways false refl e)) (or_cases _ _ q)

-- The front number of the line arrives. It may have arrived before.
pub flow_arrives : (window : ℕ) (acked requested : List ℕ) (next : ℕ) (arrived line : List ℕ) (statuses : List Status) (k : ℕ) (now : List ℕ) → Flow window acked requested next arrived (k ∷ line) statuses → ((x : ℕ) → Is x arrived → Is x now) → ((x : ℕ) → Is x now → (x ≤ k) ⊎ (Is x arrived)) → Flow window acked requested next now line statuses
flow_arrives window acked requested next arrived line statuses k now f up down = record {
  room = f.room;
  acked_arrived = λ x h. up x (f.acked_arrived x h);
  arrived_sent = λ x h. ⊎_elim (λ (q : x ≤ k). omega (arith, f.line_sent k (or_left _ _ (eq-eqb k k refl)))) (λ q. f.arrived_sent x q) (down x h);
  line_sent = λ x h. f.line_sent x (or_right _ _ h);
  requested_open = f.requested_open;
  requested_sent = f.requested_sent;
  follows = follows_less window (max (top arrived) (k + 1)) (top now) line (top_least now (max (top arrived) (k + 1)) (λ x h. ⊎_elim (λ (q : x ≤ k). omega arith) (λ (q : Is x arrived). omega (arith, top_above arrived x q)) (down x h))) f.follows.1;
  sound = sound_more arrived now next next statuses (omega arith) up f.sound;
  opens = f.opens;
}

pub flow_loses : (window : ℕ) (acked requested : List ℕ) (next : ℕ) (arrived line : List ℕ) (statuses : List Status) (k : ℕ) → Flow window acked requested next arrived (k ∷ line) statuses → Flow window acked requested next arrived line statuses
flow_loses window acked requested next arrived line statuses k f = flow_arrives_none
  where
    flow_arrives_none : Flow window acked requested next arrived line statuses
    flow_arrives_none = record {
      room = f.room;
      acked_arrived = f.acked_arrived;
      arrived_sent = f.arrived_sent;
      line_sent = λ x h. f.line_sent x (or_right _ _ h);
      requested_open = f.requested_open;
      requested_sent = f.requested_sent;
      follows = follows_less window (max (top arrived) (k + 1)) (top arrived) line (omega arith) f.follows.1;
      sound = f.sound;
      opens = f.opens;
    }

-- The receiver writes a status.
pub flow_tells : (window : ℕ) (acked requested : List ℕ) (next : ℕ) (arrived line : List ℕ) (statuses : List Status) (t : Status) → Flow window acked requested next arrived line statuses → IsRight arrived t → Flow window acked requested next arrived line (statuses ++ t ∷ [])
flow_tells window acked requested next arrived line statuses t f r = record {
  room = f.room;
  acked_arrived = f.acked_arrived;
  arrived_sent = f.arrived_sent;
  line_sent = f.line_sent;
  requested_open = f.requested_open;
  requested_sent = f.requested_sent;
  follows = f.follows;
  sound = sound_push arrived next statuses t (record {
    acks_arrived = r.acks_arrived;
    names_sent = λ x h. omega (arith, r.names_below x h, top_least arrived next f.arrived_sent);
    lsn_sent = omega (arith, r.lsn_le, top_least arrived next f.arrived_sent);
  }) f.sound;
  opens = open_push arrived next (λ x. has x acked) statuses t f.acked_arrived f.sound r.tells_open f.opens;
}

pub flow_forgets : (window : ℕ) (acked requested : List ℕ) (next : ℕ) (arrived line : List ℕ) (statuses : List Status) (t : Status) → Flow window acked requested next arrived line (t ∷ statuses) → Flow window acked requested next arrived line statuses
flow_forgets window acked requested next arrived line statuses t f = record {
  room = f.room;
  acked_arrived = f.acked_arrived;
  arrived_sent = f.arrived_sent;
  line_sent = f.line_sent;
  requested_open = f.requested_open;
  requested_sent = f.requested_sent;
  follows = f.follows;
  sound = f.sound.1;
  opens = open_fewer (λ x. acks t x || has x acked) (λ x. has x acked) statuses (λ x h. or_right _ _ h) f.opens.1;
}

-- The front status comes to the sender.
pub flow_told : (window : ℕ) (acked requested : List ℕ) (next : ℕ) (arrived line : List ℕ) (statuses : List Status) (t : Status) (now still_requested : List ℕ) → Flow window acked requested next arrived line (t ∷ statuses) → ((x : ℕ) → has x now ≡ (acks t x || has x acked)) → ((x : ℕ) → Is x still_requested → has x now ≡ false) → ((x : ℕ) → Is x still_requested → (Is x (named t.pairs)) ⊎ (Is x requested)) → Flow window now still_requested next arrived line statuses
flow_told window acked requested next arrived line statuses t now still_requested f is not_acked from = record {
  room = omega (arith, f.room, run_grows acked now next next (omega arith) (λ x h. is x ∙ or_right _ _ h));
  acked_arrived = λ x h. ⊎_elim (λ q. f.sound.0.acks_arrived x q) (λ q. f.acked_arrived x q) (or_cases _ _ (sym (is x) ∙ h));
  arrived_sent = f.arrived_sent;
  line_sent = f.line_sent;
  requested_open = not_acked;
  requested_sent = λ x h. ⊎_elim (λ q. f.sound.0.names_sent x q) (λ q. f.requested_sent x q) (from x h);
  follows = f.follows;
  sound = f.sound.1;
  opens = open_fewer (λ x. acks t x || has x acked) (λ x. has x now) statuses (λ x h. sym (is x) ∙ h) f.opens.1;
}

-- What the law says of the numbers.
pub flow_acked_le_arrived : (window : ℕ) (acked requested : List ℕ) (next : ℕ) (arrived line : List ℕ) (statuses : List Status) → Flow window acked requested next arrived line statuses → run_of acked next ≤ run_of arrived (top arrived)
flow_acked_le_arrived window acked requested next arrived line statuses f =
    ⊎_elim (λ (l : run_of arrived (top arrived) < run_of acked next). absurd (bad l)) (λ (l : run_of acked next ≤ run_of arrived (top arrived)). l) (cases_lt (run_of arrived (top arrived)) (run_of acked next))
  where
    r : ℕ
    r = run_of arrived (top arrived)

    bad : r < run_of acked next → ⊥
    bad l = let i = f.acked_arrived r (run_in acked next r l) in both_ways _ (run_out arrived (top arrived) (top_above arrived r i)) i

pub flow_arrived_le_next : (window : ℕ) (acked requested : List ℕ) (next : ℕ) (arrived line : List ℕ) (statuses : List Status) → Flow window acked requested next arrived line statuses → run_of arrived (top arrived) ≤ next
flow_arrived_le_next window acked requested next arrived line statuses f = omega (arith, run_le arrived (top arrived), top_least arrived next f.arrived_sent)

-- the front number lies within the receiver's window, ahead or behind
pub flow_front : (window : ℕ) (acked requested : List ℕ) (next : ℕ) (arrived line : List ℕ) (statuses : List Status) (k : ℕ) → Flow window acked requested next arrived (k ∷ line) statuses → (k < run_of arrived (top arrived) + window) × (run_of arrived (top arrived) ≤ k + window)
flow_front window acked requested next arrived line statuses k f = (
  omega (arith, f.line_sent k (or_left _ _ (eq-eqb k k refl)), f.room, flow_acked_le_arrived window acked requested next arrived (k ∷ line) statuses f),
  omega (arith, f.follows.0, run_le arrived (top arrived)),
)

-- fewer requests
pub flow_wants : (window : ℕ) (acked requested : List ℕ) (next : ℕ) (arrived line : List ℕ) (statuses : List Status) (left : List ℕ) → Flow window acked requested next arrived line statuses → ((x : ℕ) → Is x left → Is x requested) → Flow window acked left next arrived line statuses
flow_wants window acked requested next arrived line statuses left f sub = record {
  room = f.room;
  acked_arrived = f.acked_arrived;
  arrived_sent = f.arrived_sent;
  line_sent = f.line_sent;
  requested_open = λ x h. f.requested_open x (sub x h);
  requested_sent = λ x h. f.requested_sent x (sub x h);
  follows = f.follows;
  sound = f.sound;
  opens = f.opens;
}

open_front : (acked : ℕ → Bool) (line behind : List Status) → Open acked (line ++ behind) → Open acked line
open_front acked [] behind f = tt
open_front acked (t ∷ line) behind f = (f.0, open_front (λ x. acks t x || acked x) line behind f.1)

sound_front : (arrived : List ℕ) (next : ℕ) (line behind : List Status) → AllSound arrived next (line ++ behind) → AllSound arrived next line
sound_front arrived next [] behind f = tt
sound_front arrived next (t ∷ line) behind f = (f.0, sound_front arrived next line behind f.1)

-- what is behind in the line is taken back
pub flow_withdraws : (window : ℕ) (acked requested : List ℕ) (next : ℕ) (arrived line : List ℕ) (statuses behind : List Status) → Flow window acked requested next arrived line (statuses ++ behind) → Flow window acked requested next arrived line statuses
flow_withdraws window acked requested next arrived line statuses behind f = record {
  room = f.room;
  acked_arrived = f.acked_arrived;
  arrived_sent = f.arrived_sent;
  line_sent = f.line_sent;
  requested_open = f.requested_open;
  requested_sent = f.requested_sent;
  follows = f.follows;
  sound = sound_front arrived next statuses behind f.sound;
  opens = open_front (λ x. has x acked) statuses behind f.opens;
}

-- the numbers of the front status lie within the sender's window
pub flow_front_status : (window : ℕ) (acked requested : List ℕ) (next : ℕ) (arrived line : List ℕ) (statuses : List Status) (t : Status) → Flow window acked requested next arrived line (t ∷ statuses) → (run_of acked next ≤ t.lsn) × (t.lsn ≤ next) × ((x : ℕ) → Is x (named t.pairs) → (run_of acked next ≤ x) × (x < next))
flow_front_status window acked requested next arrived line statuses t f = (
  run_not_above acked next t.lsn (f.opens.0 t.lsn (or_left _ _ (eq-eqb t.lsn t.lsn refl))),
  f.sound.0.lsn_sent,
  λ x h. (run_not_above acked next x (f.opens.0 x (or_right _ _ h)), f.sound.0.names_sent x h),
)

pub flow_begins : (window : ℕ) → Flow window [] [] 0 [] [] []
flow_begins window = record {
  room = omega arith;
  acked_arrived = λ x h. absurd (both_ways false refl h);
  arrived_sent = λ x h. absurd (both_ways false refl h);
  line_sent = λ x h. absurd (both_ways false refl h);
  requested_open = λ x h. refl;
  requested_sent = λ x h. absurd (both_ways false refl h);
  follows = tt;
  sound = tt;
  opens = tt;
}
