-- Whether a PDU can be built, and calls that are refused.
use Rattle.std.proofs.Common.{◌≡◌, ◌≢◌, ◌+◌, ◌-◌, ◌<◌, ℕ, zero, suc, take, List, [], ◌∷◌, ◌≤◌, subst, length-append, Bool, true, false, cond, ◌&&◌, ◌||◌, length, min, arith, refl, sym, ap, ◌∙◌}
use Rattle.std.specs.Prelude.{None, Some, nat_le, nat_lt}
use Rattle.std.proofs.lemmas.Bool.{le-ltb, leb-true, lt-ltb, ltb-false, ltb-true}
use Rattle.dch_bits.specs.declared.offer.Offer.{Offer}
use Rattle.dch_bits.specs.declared.offer.Offer.TheVariants.{Accepted, Full, WrongSize}
use Rattle.dch_retx.specs.Flights.{at, requested_in}
use Rattle.dch_am.specs.Bodies.{is_empty, is_left}
use Rattle.dch_am.specs.Cuts.{AllFull}
use Rattle.dch_am.proofs.Restarting.{cut_full, full_drop}
use Rattle.dch_txbuf.specs.Chunks.{blocks_for}
use Rattle.dch_txbuf.specs.Sdus.{blocks_in}
use Rattle.dch_amsend.specs.DiscardStanding.{released}
use Rattle.dch_am.specs.Building.{available, builds_within, after_build, gives}
use Rattle.dch_am.specs.Rules.{Rules}
use Rattle.dch_am.specs.Sender.{Sender}
use Rattle.dch_amsend.specs.BufferStanding.{fills}
use Rattle.dch_amsend.specs.TxBuffer.{TxBuffer, answer_of, buffer_after_offer, unsent_of}
use Rattle.dch_amsend.proofs.Fills.{fills_some}
use Rattle.dch_amsend.specs.Outgoing.{IsOutgoing, Outgoing, available_of, can_build}
use Rattle.dch_am.specs.Building.{body_at}
use Rattle.dch_am.specs.Bodies.{ends}
use Rattle.dch_am.specs.Sender.{vt_a, vt_s}
use Rattle.std.proofs.lemmas.List.{take_all}
use Rattle.dch_amsend.specs.Scanning.{ends_below}
use Rattle.dch_amsend.specs.TxBuffer.{ended_before}
use Rattle.dch_amsend.proofs.Ending.{ends-step}
use Rattle.dch_amsend.proofs.Placing.{place_is}
use Rattle.dch_amsend.proofs.Events.{available_is}
use Rattle.dch_amsend.proofs.Passing.{below_next}

-- a PDU can be built where one is requested, a new one can follow, or the last one is to go again
pub can_build_is : (v : Outgoing) → (nat_lt 0 (requested_in v.line.in_flight) || ((nat_lt (length v.line.in_flight) v.line.window && is_left (unsent_of v.tx_buffer)) || (v.line.owed && nat_lt 0 (length v.line.in_flight)))) ≡ can_build v
can_build_is v = go (nat_lt 0 (requested_in v.line.in_flight)) (nat_lt (length v.line.in_flight) v.line.window) (is_left (unsent_of v.tx_buffer)) (v.line.owed && nat_lt 0 (length v.line.in_flight)) refl refl refl refl
  where
    fresh : ℕ
    fresh = fills 64 (v.tx_buffer.size - 2) (unsent_of v.tx_buffer)

    all : ℕ
    all = min 64 (requested_in v.line.in_flight) + min (v.line.window - length v.line.in_flight) fresh

    some : nat_lt 0 fresh ≡ is_left (unsent_of v.tx_buffer)
    some = fills_some 63 (v.tx_buffer.size - 2) (unsent_of v.tx_buffer)

    many : 0 < all → true ≡ can_build v
    many l = sym (lt-ltb 0 (available_of v) (omega (arith, ap {B = ℕ} (λ b. cond b all (cond (v.line.owed && nat_lt 0 (length v.line.in_flight)) 1 0)) (lt-ltb 0 all l), l)))

    few : (c : Bool) → all ≡ 0 → (v.line.owed && nat_lt 0 (length v.line.in_flight)) ≡ c → c ≡ can_build v
    few true none e = sym (lt-ltb 0 (available_of v) (omega (arith, ap {B = ℕ} (λ b. cond b all (cond (v.line.owed && nat_lt 0 (length v.line.in_flight)) 1 0)) (le-ltb 0 all (omega (arith, none))), ap {B = ℕ} (λ b. cond b 1 0) e)))
    few false none e = sym (le-ltb 0 (available_of v) (omega (arith, ap {B = ℕ} (λ b. cond b all (cond (v.line.owed && nat_lt 0 (length v.line.in_flight)) 1 0)) (le-ltb 0 all (omega (arith, none))), ap {B = ℕ} (λ b. cond b 1 0) e)))

    go : (a r u c : Bool) → nat_lt 0 (requested_in v.line.in_flight) ≡ a → nat_lt (length v.line.in_flight) v.line.window ≡ r → is_left (unsent_of v.tx_buffer) ≡ u → (v.line.owed && nat_lt 0 (length v.line.in_flight)) ≡ c → (a || ((r && u) || c)) ≡ can_build v
    go true r u c ea er eu ec = many (omega (arith, ltb-true _ _ ea))
    go false true true c ea er eu ec = many (omega (arith, ltb-true _ _ er, ltb-true _ _ (some ∙ eu)))
    go false true false c ea er eu ec = few c (omega (arith, ltb-false _ _ ea, ltb-false _ _ (some ∙ eu))) ec
    go false false u c ea er eu ec = few c (omega (arith, ltb-false _ _ ea, ltb-false _ _ er)) ec

-- exactly where the definition's build gives one
gives_is : (rules : Rules) (d : ℕ) (s : Sender) → nat_lt 0 (available rules d s) ≡ gives rules s
unfolding available
gives_is rules d s = go (gives rules s)
  where
    go : (b : Bool) → nat_lt 0 (cond b (suc (builds_within 63 rules d (after_build rules d s))) 0) ≡ b
    go true = lt-ltb 0 (suc (builds_within 63 rules d (after_build rules d s))) (omega arith)
    go false = refl

pub can_build_gives : (rules : Rules) (d : ℕ) (v : Outgoing) (s : Sender) → IsOutgoing rules d v s → can_build v ≡ gives rules s
can_build_gives rules d v s is = ap (nat_lt 0) (available_is rules d v s is) ∙ gives_is rules d s

-- an SDU that is refused changes nothing
pub refused_same : (sdu : List ℕ) (s now : TxBuffer) (answer : Offer) → now ≡ buffer_after_offer answer sdu s → answer ≢ Accepted → now ≡ s
refused_same sdu s now Accepted e other = absurd (other refl)
refused_same sdu s now Full e other = e
refused_same sdu s now WrongSize e other = e

-- an SDU that is accepted is one more, in as many blocks
pub one_more : (sdu : List ℕ) (s now : TxBuffer) (answer : Offer) → now ≡ buffer_after_offer answer sdu s → answer ≡ Accepted → length now.sdus ≡ length s.sdus + 1
one_more sdu s now answer e taken = ap (λ (w : TxBuffer). length w.sdus) (e ∙ ap (λ o. buffer_after_offer o sdu s) taken) ∙ omega (arith, length-append s.sdus (sdu ∷ []))

pub blocks_stay : (sdu : List ℕ) (s now : TxBuffer) (answer : Offer) → now ≡ buffer_after_offer answer sdu s → now.blocks ≡ s.blocks
blocks_stay sdu s now Accepted e = ap (λ (w : TxBuffer). w.blocks) e
blocks_stay sdu s now Full e = ap (λ (w : TxBuffer). w.blocks) e
blocks_stay sdu s now WrongSize e = ap (λ (w : TxBuffer). w.blocks) e

-- none that is held is empty, so there are no more than blocks
few_sdus : (us : List (List ℕ)) → AllFull us → length us ≤ blocks_in us
few_sdus [] f = omega arith
few_sdus (u ∷ us) f = omega (arith, f.0, few_sdus us f.1)

-- and an SDU that is accepted finds room
pub room_left : (rules : Rules) (d : ℕ) (v : Outgoing) (s : Sender) (sdu : List ℕ) (answer : Offer) → IsOutgoing rules d v s → answer ≡ answer_of sdu v.tx_buffer → answer ≡ Accepted → length v.tx_buffer.sdus < v.tx_buffer.blocks
room_left rules d v s sdu answer is e taken = go (is_empty sdu) (nat_lt 1500 (length sdu)) (nat_le (blocks_in v.tx_buffer.sdus + blocks_for (length sdu)) v.tx_buffer.blocks) refl refl (sym taken ∙ e)
  where
    full : AllFull v.tx_buffer.sdus
    full = subst AllFull (sym is.tx_buffer.sdus) (full_drop (released s) s.accepted (cut_full s.accepted s.unsent s.bodies is.cut))

    some : (us : List ℕ) → is_empty us ≡ false → 0 < length us
    some [] e = absurd (cc)
    some (x ∷ xs) e = omega arith

    go : (a b c : Bool) → is_empty sdu ≡ a → nat_le (blocks_in v.tx_buffer.sdus + blocks_for (length sdu)) v.tx_buffer.blocks ≡ c → Accepted ≡ cond (a || b) WrongSize (cond c Accepted Full) → length v.tx_buffer.sdus < v.tx_buffer.blocks
    go true b c ea ec q = absurd (cc)
    go false true c ea ec q = absurd (cc)
    go false false true ea ec q = omega (arith, few_sdus v.tx_buffer.sdus full, leb-true _ _ ec, some sdu ea)
    go false false false ea ec q = absurd (cc)

-- how many SDUs end before a PDU in flight is read off its extent
below_is : (rules : Rules) (d : ℕ) (v : Outgoing) (s : Sender) (n : ℕ) → n ≤ length v.line.in_flight → IsOutgoing rules d v s → ends (take (vt_a s + n) s.bodies) ≡ released s + ends_below n v.line.in_flight
below_is rules d v s zero l is = let e : vt_a s + 0 ≡ vt_a s = omega arith in ap (λ k. ends (take k s.bodies)) e ∙ omega arith
below_is rules d v s (suc n) l is =
    let e : vt_a s + suc n ≡ vt_a s + n + 1 = omega arith in
    ap (λ k. ends (take k s.bodies)) e ∙ omega (arith, ends-step s.bodies (vt_a s + n) (omega (arith, is.line.flying, l)), below_is rules d v s n (omega arith) is, (is.in_flight n (omega arith)).ends, below_next v.line.in_flight n (omega arith))

pub ended_all : (rules : Rules) (d : ℕ) (v : Outgoing) (s : Sender) → IsOutgoing rules d v s → ended_before None v.tx_buffer ≡ ends_below (length v.line.in_flight) v.line.in_flight
ended_all rules d v s is =
    let all : ends (take (vt_a s + length v.line.in_flight) s.bodies) ≡ ends s.bodies = ap (λ k. ends (take k s.bodies)) is.line.flying ∙ ap ends (take_all (vt_s s) s.bodies (omega arith)) in
    omega (arith, all, below_is rules d v s (length v.line.in_flight) (omega arith) is, is.tx_buffer.place)

pub ended_below : (rules : Rules) (d : ℕ) (v : Outgoing) (s : Sender) (place : ℕ) → place < length v.line.in_flight → IsOutgoing rules d v s → ended_before (Some (at v.line.in_flight place)) v.tx_buffer ≡ ends_below place v.line.in_flight
ended_below rules d v s place inside is =
    let p = place_is d v.tx_buffer s (vt_a s + place) (at v.line.in_flight place).extent is.tx_buffer (is.taken place inside).sdu (omega arith) (omega (arith, inside, is.line.flying)) in
    let full : cond {A = ℕ} (at v.line.in_flight place).full 1 0 ≡ cond (body_at s.bodies (vt_a s + place)).full 1 0 = ap (λ b. cond b 1 0) (is.in_flight place inside).full in
    omega (arith, p.place, p.from, full, below_is rules d v s place (omega arith) is)
