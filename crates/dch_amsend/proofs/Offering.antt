-- An SDU that is offered.
use Rattle.std.proofs.Common.{◌≡◌, ◌+◌, ◌≤◌, ◌<◌, ℕ, zero, suc, List, [], ◌∷◌, ◌++◌, false, cond, length, get_or, take, drop, arith, refl, sym, ap, ap₂, ◌∙◌, subst, ⊎_elim, length-append, length-drop}
use Rattle.std.specs.Prelude.{◌/◌, ◌||◌, nat_le, nat_lt}
use Rattle.std.proofs.lemmas.Bool.{cases_lt, le-leb, le-ltb, lt-leb, lt-ltb}
use Rattle.std.proofs.lemmas.List.{drop-append-le, take-append-le}
use Rattle.dch_bits.specs.declared.offer.Offer.{Offer}
use Rattle.dch_bits.specs.declared.offer.Offer.TheVariants.{Accepted, Full, WrongSize}
use Rattle.dch_am.specs.Bodies.{is_empty, one_more_unit}
use Rattle.dch_am.specs.Building.{body_at}
use Rattle.dch_am.specs.Cuts.{IsCut}
use Rattle.dch_am.specs.Rules.{Rules}
use Rattle.dch_am.specs.Sender.{Sender, after_offer, blocks, held, offered, vt_a}
use Rattle.dch_am.proofs.Reading.{cut_few}
use Rattle.dch_txbuf.specs.declared.taken.Start.{Start}
use Rattle.dch_txbuf.specs.Cuts.{IsStart, IsThere, body_of, first_of, left_at, trimmed}
use Rattle.dch_retx.specs.declared.sent_pdu.Extent.{Extent}
use Rattle.dch_txbuf.specs.Chunks.{blocks_for}
use Rattle.dch_txbuf.specs.Sdus.{blocks_in}
use Rattle.dch_amsend.specs.BufferStanding.{BufferStands, Takes, start_of}
use Rattle.dch_amsend.specs.DiscardStanding.{released}
use Rattle.dch_amsend.specs.TxBuffer.{TxBuffer, answer_of, taken_by}
use Rattle.dch_amsend.specs.TxBuffer.{buffer_after_offer}
use Rattle.dch_amsend.proofs.Placing.{ends_most}

blocks_same : (us : List (List ℕ)) → blocks_in us ≡ blocks us
blocks_same [] = refl
blocks_same (u ∷ us) = ap (λ n. (length u + 63) / 64 + n) (blocks_same us)

-- the answer is the sender's
pub answer_is : (rules : Rules) (d : ℕ) (w : TxBuffer) (s : Sender) (sdu : List ℕ) → BufferStands d w s → w.blocks ≡ rules.buffer → answer_of sdu w ≡ offered rules s sdu
answer_is rules d w s sdu keeps room =
    let few : blocks_in w.sdus ≡ blocks (held s) = blocks_same w.sdus ∙ ap blocks keeps.sdus in
    ap₂ (λ a b. cond (is_empty sdu || nat_lt 1500 (length sdu)) WrongSize (cond (nat_le (a + blocks_for (length sdu)) b) Accepted Full)) few room
    ∙ ap (λ o. cond (is_empty sdu || nat_lt 1500 (length sdu)) WrongSize o) (⊎_elim
    (λ (m : rules.buffer < blocks (held s) + blocks_for (length sdu)).
    ap (λ b. cond b Accepted Full) (lt-leb (blocks (held s) + blocks_for (length sdu)) rules.buffer m)
    ∙ sym (ap (λ b. cond b Full Accepted) (lt-ltb rules.buffer (blocks (held s) + blocks (sdu ∷ [])) (omega (arith, m)))))
    (λ (m : blocks (held s) + blocks_for (length sdu) ≤ rules.buffer).
    ap (λ b. cond b Accepted Full) (le-leb (blocks (held s) + blocks_for (length sdu)) rules.buffer m)
    ∙ sym (ap (λ b. cond b Full Accepted) (le-ltb rules.buffer (blocks (held s) + blocks (sdu ∷ [])) (omega (arith, m)))))
    (cases_lt rules.buffer (blocks (held s) + blocks_for (length sdu))))

past : (us : List (List ℕ)) (k : ℕ) → length us ≤ k → length (get_or us k []) ≡ 0
past [] zero l = refl
past [] (suc k) l = refl
past (u ∷ us) zero l = absurd (omega (arith, l))
past (u ∷ us) (suc k) l = past us k (omega (arith, l))

start_more : (us : List (List ℕ)) (start : Start) (sdu : List ℕ) → IsStart us start → IsStart (us ++ sdu ∷ []) start
start_more us start sdu is = record {
  sdu = omega (arith, is.sdu, length-append us (sdu ∷ []));
  used = omega (arith, is.used, longer us start.sdu);
}
  where
    longer : (vs : List (List ℕ)) (k : ℕ) → length (get_or vs k []) ≤ length (get_or (vs ++ sdu ∷ []) k [])
    longer [] zero = omega arith
    longer [] (suc k) = omega arith
    longer (v ∷ vs) zero = omega arith
    longer (v ∷ vs) (suc k) = longer vs k

-- one SDU more is left
left_more : (sdus : List (List ℕ)) (start : Start) (sdu : List ℕ) → IsStart sdus start → left_at start (sdus ++ sdu ∷ []) ≡ left_at start sdus ++ sdu ∷ []
left_more sdus start sdu is = ap (trimmed start.used) (drop-append-le start.sdu sdus (sdu ∷ []) is.sdu) ∙ go (drop start.sdu sdus) refl
  where
    go : (us : List (List ℕ)) → drop start.sdu sdus ≡ us → trimmed start.used (us ++ sdu ∷ []) ≡ trimmed start.used us ++ sdu ∷ []
    go [] e =
        let all : length sdus ≤ start.sdu = omega (arith, ap (λ (vs : List (List ℕ)). length vs) e, length-drop start.sdu sdus) in
        let none : start.used ≡ 0 = omega (arith, is.used, past sdus start.sdu all) in
        ap (λ n. drop n sdu ∷ []) none
    go (u ∷ us) e = refl

pub offer_keeps : (d : ℕ) (w : TxBuffer) (s : Sender) (sdu : List ℕ) (o : Offer) → IsCut s.accepted s.unsent s.bodies → BufferStands d w s → BufferStands d (buffer_after_offer o sdu w) (after_offer o s sdu)
offer_keeps d w s sdu Accepted cut keeps =
    let few : released s ≤ length s.accepted = omega (arith, cut_few s.accepted s.unsent s.bodies cut, ends_most (vt_a s) s.bodies) in
    record {
      size = keeps.size;
      from = keeps.from;
      start = start_more w.sdus w.start sdu keeps.start;
      sdus = ap (λ us. us ++ sdu ∷ []) keeps.sdus ∙ sym (drop-append-le (released s) s.accepted (sdu ∷ []) few);
      freed = keeps.freed;
      unsent = ap (λ us. record { owed = w.owed; units = us }) (left_more w.sdus w.start sdu keeps.start) ∙ ap (one_more_unit sdu) keeps.unsent;
      place = keeps.place;
      small = keeps.small;
    }
offer_keeps d w s sdu Full cut keeps = keeps
offer_keeps d w s sdu WrongSize cut keeps = keeps

-- a PDU in flight takes the same
record IsSame (rest : ℕ) (us vs : List (List ℕ)) : Type 0 where
  octets : take rest (first_of vs) ≡ take rest (first_of us)
  there : rest ≤ length (first_of vs)

first_more : (us : List (List ℕ)) (sdu : List ℕ) (rest : ℕ) → rest ≤ length (first_of us) → IsSame rest us (us ++ sdu ∷ [])
first_more [] sdu rest l = let none : rest ≡ 0 = omega (arith, l) in record { octets = ap (λ n. take n sdu) none ∙ sym (ap (λ n. take {A = ℕ} n []) none); there = omega (arith, none) }
first_more (u ∷ us) sdu rest l = record { octets = refl; there = l }

pub takes_more : (s : Sender) (k : ℕ) (x : Extent) (sdu : List ℕ) → Takes s k x → Takes (after_offer Accepted s sdu) k x
takes_more s k x sdu takes =
    let more : left_at (start_of s k x) (s.accepted ++ sdu ∷ []) ≡ left_at (start_of s k x) s.accepted ++ sdu ∷ [] = left_more s.accepted (start_of s k x) sdu takes.start in
    let front : take x.pieces (left_at (start_of s k x) s.accepted ++ sdu ∷ []) ≡ take x.pieces (left_at (start_of s k x) s.accepted) = take-append-le x.pieces (left_at (start_of s k x) s.accepted) (sdu ∷ []) takes.there.pieces in
    let behind : drop x.pieces (left_at (start_of s k x) s.accepted ++ sdu ∷ []) ≡ drop x.pieces (left_at (start_of s k x) s.accepted) ++ sdu ∷ [] = drop-append-le x.pieces (left_at (start_of s k x) s.accepted) (sdu ∷ []) takes.there.pieces in
    let next = first_more (drop x.pieces (left_at (start_of s k x) s.accepted)) sdu x.rest takes.there.rest in
    let rest : take x.rest (first_of (drop x.pieces (left_at (start_of s k x) s.accepted ++ sdu ∷ []))) ≡ take x.rest (first_of (drop x.pieces (left_at (start_of s k x) s.accepted))) = ap (λ us. take x.rest (first_of us)) behind ∙ next.octets in
    record {
      sdu = takes.sdu;
      start = start_more s.accepted (start_of s k x) sdu takes.start;
      there = subst (λ us. IsThere (taken_by x false) us) (sym more) (record {
        pieces = omega (arith, takes.there.pieces, length-append (left_at (start_of s k x) s.accepted) (sdu ∷ []));
        rest = omega (arith, next.there, ap (λ us. length (first_of us)) behind);
      });
      body =
          ap (λ us. body_of (body_at s.bodies k).full (taken_by x false) us) more
          ∙ (ap₂ (λ ps r. record { full = (body_at s.bodies k).full; pieces = ps; rest = r }) front rest
          ∙ takes.body);
    }
