-- Accepted units have at most 1,500 octets, and so have those that are handed up.
use Rattle.std.proofs.Common.{◌≡◌, ◌+◌, ◌≤◌, ℕ, List, [], ◌∷◌, ◌++◌, Bool, true, false, ◌||◌, cond, length, Option, Some, None, refl, sym, subst}
use Rattle.std.specs.Prelude.{nat_lt, ◌==◌}
use Rattle.std.proofs.lemmas.Bool.{cond_both, ltb-false}
use Rattle.std.proofs.lemmas.List.{append-nil}
use Rattle.dch_bits.specs.declared.offer.Offer.TheVariants.{Accepted, Full, WrongSize}
use Rattle.dch_am.specs.Bodies.{is_empty}
use Rattle.dch_am.specs.Rules.{Rules}
use Rattle.dch_am.specs.Sender.{blocks, held}
use Rattle.dch_amlaw.specs.Pair.{Block}
use Rattle.dch_reset.specs.Ends.{Sent, Data, ResetPdu, ResetAckPdu, Pending, ResetEnd, ResetPair, Built, turned, opened, is_heard, is_asked, taken_up, builds_by, hears, hears_data, resets_by, Event, Offer, Build, Arrive, Lose, Tick, Reset, arrives, loses, happens_near, At, Near, Far, happens, after}
use Rattle.dch_reset.specs.Law.{AreShort, IsInOrder, IsSafe, handed, those}
use Rattle.dch_reset.proofs.Safe.{always_safe}

short-append : (us : List (List ℕ)) (u : List ℕ) → AreShort us → length u ≤ 1500 → AreShort (us ++ u ∷ [])
short-append [] u f l = (l, tt)
short-append (x ∷ us) u f l = (f.0, short-append us u f.1 l)

short_same : (us : List (List ℕ)) → AreShort us → AreShort (us ++ [])
short_same us f = subst AreShort (sym (append-nil us)) f

offer_short : (us : List (List ℕ)) (unit : List ℕ) (empty long full : Bool) → nat_lt 1500 (length unit) ≡ long → AreShort us → AreShort (us ++ taken_up (cond (empty || long) WrongSize (cond full Full Accepted)) unit)
offer_short us unit true long full e f = short_same us f
offer_short us unit false true full e f = short_same us f
offer_short us unit false false true e f = short_same us f
offer_short us unit false false false e f = short-append us unit f (ltb-false 1500 (length unit) e)

-- nothing but an offer adds units
pub built_same : (rules : Rules) (e : ResetEnd) (owes : Bool) (q : Option Pending) → (builds_by rules e owes q).after.accepted ≡ e.accepted
built_same rules e true q = refl
built_same rules e false (Some p) = cond_both (p.rst_timer == 0) _ _ (λ (b : Built). b.after.accepted ≡ e.accepted) (λ _. refl) (λ _. refl)
built_same rules e false None = refl

data_same : (rules : Rules) (e : ResetEnd) (q : Option Pending) (label : ℕ) (block : Block) → (hears_data rules e q label block).accepted ≡ e.accepted
data_same rules e (Some p) label block = refl
data_same rules e None label block = refl

pub hears_same : (rules : Rules) (e : ResetEnd) (f : Sent) → (hears rules e f).accepted ≡ e.accepted
hears_same rules e (Data label block) = data_same rules e e.pending label block
hears_same rules e (ResetPdu rsn count) = cond_both (is_heard e.heard rsn) _ _ (λ (x : ResetEnd). x.accepted ≡ e.accepted) (λ _. refl) (λ _. refl)
hears_same rules e (ResetAckPdu rsn count) = cond_both (is_asked e.pending rsn) _ _ (λ (x : ResetEnd). x.accepted ≡ e.accepted) (λ _. refl) (λ _. refl)

pub resets_same : (e : ResetEnd) (q : Option Pending) → (resets_by e q).accepted ≡ e.accepted
resets_same e None = refl
resets_same e (Some p) = refl

pub record BothShort (p : ResetPair) : Type 0 where
  pub near : AreShort p.near.accepted
  pub far : AreShort p.far.accepted

short_arrives : (rules : Rules) (p : ResetPair) (line : List Sent) → BothShort p → BothShort (arrives rules p line)
short_arrives rules p [] f = f
short_arrives rules p (x ∷ line) f = record { near = subst AreShort (sym (hears_same rules p.near x)) f.near; far = f.far }

short_loses : (p : ResetPair) (line : List Sent) → BothShort p → BothShort (loses p line)
short_loses p [] f = f
short_loses p (x ∷ line) f = record { near = f.near; far = f.far }

short_near : (rules : Rules) (p : ResetPair) (e : Event) → BothShort p → BothShort (happens_near rules p e)
short_near rules p (Offer unit) f = record { near = offer_short p.near.accepted unit (is_empty unit) (nat_lt 1500 (length unit)) (nat_lt rules.buffer (blocks (held p.near.sides.entity.sender) + blocks (unit ∷ []))) refl f.near; far = f.far }
short_near rules p Build f = record { near = subst AreShort (sym (built_same rules p.near p.near.owes p.near.pending)) f.near; far = f.far }
short_near rules p Arrive f = short_arrives rules p p.back f
short_near rules p Lose f = short_loses p p.back f
short_near rules p Tick f = record { near = f.near; far = f.far }
short_near rules p Reset f = record { near = subst AreShort (sym (resets_same p.near p.near.pending)) f.near; far = f.far }

short_happens : (rules : Rules) (p : ResetPair) (e : At) → BothShort p → BothShort (happens rules p e)
short_happens rules p (Near e) f = short_near rules p e f
short_happens rules p (Far e) f = let g = short_near rules (turned p) e (record { near = f.far; far = f.near }) in record { near = g.far; far = g.near }

short_after : (rules : Rules) (events : List At) (p : ResetPair) → BothShort p → BothShort (after rules p events)
short_after rules [] p f = f
short_after rules (e ∷ events) p f = short_after rules events (happens rules p e) (short_happens rules p e f)

those_short : (at : ℕ → Bool) (i : ℕ) (us : List (List ℕ)) → AreShort us → AreShort (those at i us)
those_short at i [] f = tt
those_short at i (u ∷ us) f = go (at i) (those_short at (i + 1) us f.1)
  where
    go : (b : Bool) → AreShort (those at (i + 1) us) → AreShort (cond b (u ∷ those at (i + 1) us) (those at (i + 1) us))
    go true h = (f.0, h)
    go false h = h

handed_short : (from to : ResetEnd) → IsInOrder from to → AreShort from.accepted → AreShort (handed to)
handed_short from to o f = subst AreShort (sym o.units) (those_short o.at 0 from.accepted f)

pub always_short : (rules : Rules) (first second : ℕ) (events : List At) → rules.window ≤ 2048 → (AreShort (handed (after rules (opened rules first second) events).near)) × (AreShort (handed (after rules (opened rules first second) events).far))
always_short rules first second events small =
    let s : IsSafe rules (after rules (opened rules first second) events) = always_safe rules first second events small in
    let b : BothShort (after rules (opened rules first second) events) = short_after rules events (opened rules first second) (record { near = tt; far = tt }) in
    (handed_short (after rules (opened rules first second) events).far (after rules (opened rules first second) events).near s.far_near.in_all b.far, handed_short (after rules (opened rules first second) events).near (after rules (opened rules first second) events).far s.near_far.in_all b.near)
