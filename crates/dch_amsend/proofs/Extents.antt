-- The next PDU, and SDUs that leave.
use Rattle.std.proofs.Common.{◌≡◌, ◌+◌, ◌-◌, ◌<◌, ◌≤◌, ℕ, List, [], ◌∷◌, ◌++◌, Bool, true, false, cond, not, length, get_or, take, drop, arith, refl, sym, ap, ap₂, ◌∙◌, subst, length-drop}
use Rattle.std.specs.Prelude.{◌%◌, Option, None, Some, nat_lt}
use Rattle.std.proofs.lemmas.Bool.{le-ltb, lt-ltb}
use Rattle.std.proofs.lemmas.List.{drop-drop, get_or-drop, get_or_append_left, length-take-le, take-append-le, take_all, take_at}
use Rattle.std.proofs.Math.Seq.{get_or-append_seam}
use Rattle.dch_am.specs.Bodies.{Body, TxQueue, after_body, ends, ends_of, is_empty, next_body, no_body, read_bodies, room_for}
use Rattle.dch_am.specs.Building.{anew, body_at}
use Rattle.dch_am.specs.Cuts.{AllFull, Fits, IsCut, empty_reading}
use Rattle.dch_am.specs.Sender.{Sender, vt_a, vt_s}
use Rattle.dch_am.proofs.Lists.{run_le}
use Rattle.dch_am.proofs.Reading.{cut_few, ends-append}
use Rattle.dch_am.proofs.Short.{short_next}
use Rattle.dch_txbuf.specs.declared.taken.Cut.{Cut}
use Rattle.dch_txbuf.specs.declared.taken.Start.{Start}
use Rattle.dch_txbuf.specs.Cuts.{IsStart, IsThere, body_of, cut_of, first_of, has_padding, left_at, next_start, octets_of}
use Rattle.dch_txbuf.proofs.Cutting.{cut_is_padded, placed_cut}
use Rattle.dch_txbuf.proofs.Following.{start_next}
use Rattle.dch_retx.specs.declared.sent_pdu.Extent.{Extent}
use Rattle.dch_retx.specs.declared.sent_pdu.SentPdu.{SentPdu}
use Rattle.dch_amsend.specs.BufferStanding.{HasBody, BufferStands, Takes, first_in, start_of}
use Rattle.dch_amsend.specs.DiscardStanding.{released}
use Rattle.dch_amsend.specs.TxBuffer.{TxBuffer, buffer_after_build, cut_next, ended_before, next_extent, next_in_flight, released_by, taken_by, unsent_of}
use Rattle.dch_amsend.proofs.Fills.{unsent_next}
use Rattle.dch_amsend.proofs.Placing.{ends_most, ends_rise, left_same, place_is, start_same}

-- no SDU that waits is empty
pub waits_full : (s : Sender) → IsCut s.accepted s.unsent s.bodies → AllFull s.unsent.units
waits_full s cut = go (read_bodies empty_reading s.bodies).part s.unsent.owed s.unsent.units cut.goes.fits
  where
    go : (part : List ℕ) (owed : Bool) (us : List (List ℕ)) → Fits part owed us → AllFull us
    go part true us f = f.1
    go part false [] f = tt
    go part false (u ∷ us) f = f

-- what the next PDU takes is its body
pub record IsNext (w : TxBuffer) (q : TxQueue) (b : Body) : Type 0 where
  pub body : body_of w.owed (cut_next w) (left_at w.start w.sdus) ≡ b
  pub there : IsThere (cut_next w) (left_at w.start w.sdus)
  pub after : unsent_of (buffer_after_build w) ≡ q

pub next_is : (d : ℕ) (w : TxBuffer) (s : Sender) → BufferStands d w s → IsNext w (after_body d s.unsent) (next_body d s.unsent)
next_is d w s keeps =
    let size : w.size - 2 ≡ d = omega (arith, keeps.size) in
    let c = placed_cut (room_for (w.size - 2) w.owed) (left_at w.start w.sdus) in
    let same : body_of w.owed (cut_next w) (left_at w.start w.sdus) ≡ next_body (w.size - 2) (unsent_of w) = sym (ap₂ (λ ps r. record { full = w.owed; pieces = ps; rest = r }) c.pieces c.rest) in
    record {
      body = same ∙ ap₂ next_body size keeps.unsent;
      there = c.there;
      after = unsent_next w.sdus w.start w.owed (w.size - 2) (cut_next w) refl ∙ ap₂ after_body size keeps.unsent;
    }

some_octets : (xs : List ℕ) (n : ℕ) → length xs ≡ n → nat_lt 0 n ≡ not (is_empty xs)
some_octets [] n e = le-ltb 0 n (omega (arith, e))
some_octets (x ∷ xs) n e = lt-ltb 0 n (omega (arith, e))

-- how many SDUs end in it
next_ends : (d : ℕ) (w : TxBuffer) (s : Sender) → BufferStands d w s → cond w.owed 1 0 + (cut_next w).pieces ≡ ends_of (next_body d s.unsent)
next_ends d w s keeps =
    let is = next_is d w s keeps in
    let n : length (take (cut_next w).pieces (left_at w.start w.sdus)) ≡ (cut_next w).pieces = length-take-le (cut_next w).pieces (left_at w.start w.sdus) is.there.pieces in
    ap (λ k. cond w.owed 1 0 + k) (sym n) ∙ ap ends_of is.body

-- it tells whether padding is behind
next_padded : (d : ℕ) (owed : Bool) (us : List (List ℕ)) → 1 ≤ d → (cut_of (room_for d owed) us).padded ≡ has_padding d (body_of owed (cut_of (room_for d owed) us) us)
next_padded d true us from = cut_is_padded 1 (d - 1) d us (omega (arith, from)) ∙ ap (λ n. nat_lt (1 + length (octets_of (cut_of (d - 1) us) us) + n) d) (sym (length-take-le (cut_of (d - 1) us).pieces us (placed_cut (d - 1) us).there.pieces))
next_padded d false us from = cut_is_padded 0 d d us (omega arith) ∙ ap (λ n. nat_lt (0 + length (octets_of (cut_of d us) us) + n) d) (sym (length-take-le (cut_of d us).pieces us (placed_cut d us).there.pieces))

pub next_has : (d : ℕ) (w : TxBuffer) (s : Sender) → BufferStands d w s → IsCut s.accepted s.unsent s.bodies → HasBody d (next_in_flight w) (next_body d s.unsent)
next_has d w s keeps cut =
    let is = next_is d w s keeps in
    let size : w.size - 2 ≡ d = omega (arith, keeps.size) in
    let n : length (take (cut_next w).rest (first_of (drop (cut_next w).pieces (left_at w.start w.sdus)))) ≡ (cut_next w).rest = length-take-le (cut_next w).rest (first_of (drop (cut_next w).pieces (left_at w.start w.sdus))) is.there.rest in
    record {
      full = ap (λ (q : TxQueue). q.owed) keeps.unsent;
      ends = omega (arith, next_ends d w s keeps);
      continues = some_octets (take (cut_next w).rest (first_of (drop (cut_next w).pieces (left_at w.start w.sdus)))) (cut_next w).rest n ∙ ap (λ (b : Body). not (is_empty b.rest)) is.body;
      short = short_next d s.unsent keeps.from (waits_full s cut);
      padded = next_padded (w.size - 2) w.owed (left_at w.start w.sdus) (omega (arith, size, keeps.from)) ∙ ap₂ has_padding size is.body;
    }

-- PDUs before are the same with one more
front_same : (s : Sender) (b : Body) (k : ℕ) → k ≤ length s.bodies → take k (s.bodies ++ b ∷ []) ≡ take k s.bodies
front_same s b k l = take-append-le k s.bodies (b ∷ []) l

pub released_next : (d : ℕ) (s : Sender) → vt_a (anew d s) ≡ vt_a s → released (anew d s) ≡ released s
released_next d s low = ap (λ n. ends (take n (s.bodies ++ next_body d s.unsent ∷ []))) low ∙ ap ends (front_same s (next_body d s.unsent) (vt_a s) (run_le s.acked (vt_s s)))

next_sdu : (w : TxBuffer) (c : Cut) → (next_start w.start c).sdu ≡ w.start.sdu + c.pieces + cond c.owed 1 0
next_sdu w c = go c.owed
  where
    go : (b : Bool) → (cond {A = Start} b (record { sdu = w.start.sdu + c.pieces + 1; used = 0 }) (record { sdu = w.start.sdu + c.pieces; used = cond (nat_lt 0 c.pieces) c.rest (w.start.used + c.rest) })).sdu ≡ w.start.sdu + c.pieces + cond b 1 0
    go true = refl
    go false = omega arith

pub next_keeps : (d : ℕ) (w : TxBuffer) (s : Sender) → (next_start w.start (cut_next w)).sdu ≤ 65535 → BufferStands d w s → vt_a (anew d s) ≡ vt_a s → BufferStands d (buffer_after_build w) (anew d s)
next_keeps d w s small keeps low =
    let is = next_is d w s keeps in
    let r = released_next d s low in
    record {
      size = keeps.size;
      from = keeps.from;
      start = start_next w.sdus w.start (room_for (w.size - 2) w.owed) keeps.start;
      sdus = keeps.sdus ∙ ap (λ n. drop n s.accepted) (sym r);
      freed = keeps.freed ∙ ap (λ n. n % 65536) (sym r);
      unsent = is.after;
      place = omega (arith, r, keeps.place, next_sdu w (cut_next w), next_ends d w s keeps, ends-append s.bodies (next_body d s.unsent ∷ []));
      small = small;
    }

-- it takes its octets of the accepted SDUs
pub next_takes : (d : ℕ) (w : TxBuffer) (s : Sender) → BufferStands d w s → IsCut s.accepted s.unsent s.bodies → Takes (anew d s) (vt_s s) (next_extent w)
next_takes d w s keeps cut = record {
  sdu = omega (arith, keeps.freed, first);
  start = record { sdu = omega (arith, keeps.start.sdu, first, ap (λ (us : List (List ℕ)). length us) keeps.sdus, length-drop (released s) s.accepted, few); used = subst (λ n. w.start.used ≤ length (get_or s.accepted n [])) (sym first) (omega (arith, keeps.start.used, ap (λ (us : List (List ℕ)). length (get_or us w.start.sdu [])) keeps.sdus, ap (λ (xs : List ℕ). length xs) (get_or-drop (released s) s.accepted w.start.sdu []))) };
  there = subst (λ us. IsThere (taken_by (next_extent w) false) us) same (record { pieces = is.there.pieces; rest = is.there.rest });
  body = ap₂ (λ b us. body_of b (taken_by (next_extent w) false) us) (ap (λ (b : Body). b.full) here ∙ sym (ap (λ (q : TxQueue). q.owed) keeps.unsent)) (sym same) ∙ (is.body ∙ sym here);
}
  where
    is : IsNext w (after_body d s.unsent) (next_body d s.unsent)
    is = next_is d w s keeps

    few : released s ≤ length s.accepted
    few = omega (arith, cut_few s.accepted s.unsent s.bodies cut, ends_most (vt_a s) s.bodies)

    here : body_at (s.bodies ++ next_body d s.unsent ∷ []) (vt_s s) ≡ next_body d s.unsent
    here = get_or-append_seam s.bodies (next_body d s.unsent) [] no_body

    owed : cond {A = ℕ} (body_at (s.bodies ++ next_body d s.unsent ∷ []) (vt_s s)).full 1 0 ≡ cond w.owed 1 0
    owed = ap (λ (b : Body). cond b.full 1 0) here ∙ ap (λ (q : TxQueue). cond q.owed 1 0) (sym keeps.unsent)

    first : first_in (anew d s) (vt_s s) ≡ released s + w.start.sdu
    first = ap₂ (λ a b. a + b) (ap ends (take_at s.bodies (next_body d s.unsent ∷ []) (vt_s s) refl)) owed ∙ sym keeps.place

    same : left_at w.start w.sdus ≡ left_at (start_of (anew d s) (vt_s s) (next_extent w)) s.accepted
    same =
        ap (λ us. left_at w.start us) keeps.sdus
        ∙ (ap (λ n. left_at (record { sdu = n; used = w.start.used }) (drop (released s) s.accepted)) (back (released s) w.start.sdu)
        ∙ (left_same (released s + w.start.sdu) (released s) w.start.used s.accepted (omega arith)
        ∙ ap (λ n. left_at (record { sdu = n; used = w.start.used }) s.accepted) (sym first)))
      where
        back : (a b : ℕ) → b ≡ a + b - a
        back a b = omega arith

-- the same SDUs, PDUs and unsent octets, with more PDUs acknowledged
pub record IsLater (s now : Sender) : Type 0 where
  pub accepted : now.accepted ≡ s.accepted
  pub bodies : now.bodies ≡ s.bodies
  pub unsent : now.unsent ≡ s.unsent
  pub low : vt_a s ≤ vt_a now

takes_as : (s now : Sender) (k : ℕ) (x : Extent) → now.accepted ≡ s.accepted → take k now.bodies ≡ take k s.bodies → body_at now.bodies k ≡ body_at s.bodies k → Takes s k x → Takes now k x
takes_as s now k x accepted front body takes =
    let first : first_in now k ≡ first_in s k = ap₂ (λ bs (b : Body). ends bs + cond b.full 1 0) front body in
    let start : start_of now k x ≡ start_of s k x = ap (λ n. record { sdu = n; used = x.used }) first in
    let same : left_at (start_of now k x) now.accepted ≡ left_at (start_of s k x) s.accepted = ap₂ (λ (p : Start) us. left_at p us) start accepted in
    record {
      sdu = takes.sdu ∙ ap (λ n. n % 65536) (sym first);
      start = subst (λ us. IsStart us (start_of now k x)) (sym accepted) (subst (λ (p : Start). IsStart s.accepted p) (sym start) takes.start);
      there = subst (λ us. IsThere (taken_by x false) us) (sym same) takes.there;
      body = ap₂ (λ (b : Body) us. body_of b.full (taken_by x false) us) body same ∙ (takes.body ∙ sym body);
    }

pub takes_later : (s now : Sender) (k : ℕ) (x : Extent) → IsLater s now → Takes s k x → Takes now k x
takes_later s now k x a takes = takes_as s now k x a.accepted (ap (λ bs. take k bs) a.bodies) (ap (λ bs. body_at bs k) a.bodies) takes

pub takes_longer : (d : ℕ) (s : Sender) (k : ℕ) (x : Extent) → k < vt_s s → Takes s k x → Takes (anew d s) k x
takes_longer d s k x inside takes = takes_as s (anew d s) k x refl (front_same s (next_body d s.unsent) k (omega (arith, inside))) (get_or_append_left s.bodies (next_body d s.unsent ∷ []) no_body k inside) takes

-- the first PDU in flight, or none
abbrev pub IsFirst : Sender → Option SentPdu → Type 0
IsFirst s None = vt_a s ≡ vt_s s
IsFirst s (Some f) = (vt_a s < vt_s s) × Takes s (vt_a s) f.extent × (f.full ≡ (body_at s.bodies (vt_a s)).full)

later_few : (s now : Sender) → IsLater s now → released s ≤ released now
later_few s now a = omega (arith, ends_rise (vt_a s) (vt_a now) s.bodies a.low, ap (λ bs. ends (take (vt_a now) bs)) a.bodies)

-- the SDUs that end before it are those that are acknowledged since
pub ended_is : (d : ℕ) (w : TxBuffer) (s now : Sender) (first : Option SentPdu) → BufferStands d w s → IsLater s now → IsFirst now first → ended_before first w ≡ released now - released s
ended_is d w s now None keeps a first =
    let all : released now ≡ ends s.bodies = ap₂ (λ n bs. ends (take n bs)) first a.bodies ∙ ap ends (take_all (vt_s now) s.bodies (omega (arith, ap (λ (bs : List Body). length bs) a.bodies))) in
    omega (arith, all, keeps.place)
ended_is d w s now (Some f) keeps a first =
    let k : first_in now (vt_a now) ≡ first_in s (vt_a now) = ap (λ bs. ends (take (vt_a now) bs) + cond (body_at bs (vt_a now)).full 1 0) a.bodies in
    let inside : vt_a now < vt_s s = omega (arith, first.0, ap (λ (bs : List Body). length bs) a.bodies) in
    let p = place_is d w s (vt_a now) f.extent keeps (first.1.sdu ∙ ap (λ n. n % 65536) k) a.low inside in
    let full : cond {A = ℕ} f.full 1 0 ≡ cond (body_at s.bodies (vt_a now)).full 1 0 = ap (λ b. cond b 1 0) first.2 ∙ ap (λ bs. cond (body_at bs (vt_a now)).full 1 0) a.bodies in
    let ended : released now ≡ ends (take (vt_a now) s.bodies) = ap (λ bs. ends (take (vt_a now) bs)) a.bodies in
    omega (arith, p.from, p.place, full, ended)

pub ended_few : (d : ℕ) (w : TxBuffer) (s now : Sender) (first : Option SentPdu) → BufferStands d w s → IsLater s now → IsFirst now first → ended_before first w ≤ w.start.sdu
ended_few d w s now first keeps a is = omega (arith, ended_is d w s now first keeps a is, keeps.place, ends_most (vt_a now) s.bodies, ap (λ bs. ends (take (vt_a now) bs)) a.bodies)

pub released_keeps : (d : ℕ) (w : TxBuffer) (s now : Sender) (first : Option SentPdu) → BufferStands d w s → IsLater s now → IsFirst now first → BufferStands d (released_by (ended_before first w) w) now
released_keeps d w s now first keeps a is =
    let n : ended_before first w ≡ released now - released s = ended_is d w s now first keeps a is in
    let few : released s ≤ released now = later_few s now a in
    let within : ended_before first w ≤ w.start.sdu = ended_few d w s now first keeps a is in
    let sum : released s + ended_before first w ≡ released now = omega (arith, n, few) in
    record {
      size = keeps.size;
      from = keeps.from;
      start = start_same w.start.sdu (ended_before first w) w.start.used w.sdus within keeps.start;
      sdus =
          ap (λ us. drop (ended_before first w) us) keeps.sdus
          ∙ (drop-drop (ended_before first w) (released s) s.accepted
          ∙ ap₂ (λ m us. drop m us) sum (sym a.accepted));
      freed = omega (arith, keeps.freed, sum);
      unsent = ap (λ us. record { owed = w.owed; units = us }) (left_same w.start.sdu (ended_before first w) w.start.used w.sdus within) ∙ (keeps.unsent ∙ sym a.unsent);
      place = omega (arith, keeps.place, sum, within, ap ends a.bodies);
      small = omega (arith, keeps.small);
    }
