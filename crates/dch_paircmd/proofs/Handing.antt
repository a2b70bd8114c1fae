-- Units that wait at an end are reported one after another, and handed up.
use Rattle.std.proofs.Common.{◌≡◌, ◌+◌, ◌-◌, ◌++◌, ◌∙◌, ℕ, List, [], ◌∷◌, Bool, true, false, cond, Option, Some, None, length, take, drop, arith, refl, sym, subst, ap, append_assoc}
use Rattle.std.specs.Prelude.{codes, nat_eq, nat_lt}
use Rattle.std.proofs.lemmas.Bool.{le-ltb, ne_eqb}
use Rattle.std.proofs.lemmas.List.{append-nil}
use Rattle.dch_am.specs.Entities.{Entity, HandUp as HandsUp, step as entity_step}
use Rattle.dch_am.specs.Rules.{Rules}
use Rattle.dch_pair.specs.EntityStanding.{Represents as StandsFor}
use Rattle.dch_pair.proofs.Peers.{handed_to, now_handed as now_handed_there, none_waits as none_waits_there, one_handed as one_handed_there}
use Rattle.dch_reset.specs.History.{handed_up}
use Rattle.dch_reset.specs.Standing.{AreSizes, Represents, Running, is_settled, waiting_in}
use Rattle.dch_reset.specs.State.{HandUp, State, step}
use Rattle.dch_rlcpdu.specs.declared.handed.Handed.{Handed}
use Rattle.dch_rlcpdu.specs.declared.handed.Handed.TheVariants.{Whole, Overlong}
use Rattle.dch_sar.specs.Taking.{handed_of, written}
use Rattle.dch_paircmd.specs.Texts.{end_text, handed_text, octets_text, units_text}

take_front : (u xs : List ℕ) → take (length u) (u ++ xs) ≡ u
take_front [] xs = refl
take_front (x ∷ u) xs = ap (λ r. x ∷ r) (take_front u xs)

-- the first unit, as it is handed up
pub first_text : (n : ℕ) (waiting : List (List ℕ)) (h : Handed) (out : List ℕ) → Some h ≡ handed_of waiting → units_text n waiting ≡ handed_text n h (written waiting out) ++ units_text n (drop 1 waiting)
first_text n [] h out e = absurd (cc)
first_text n (u ∷ us) h out e = ap (λ t. t ++ units_text n us) (go (nat_lt 1500 (length u)) h (unpacked e))
  where
    unpacked : ◌≡◌ {A = Option Handed} (Some h) (Some (cond (nat_lt 1500 (length u)) Overlong (Whole (length u)))) → h ≡ cond (nat_lt 1500 (length u)) Overlong (Whole (length u))
    unpacked q = cc

    go : (c : Bool) (h : Handed) → h ≡ cond c Overlong (Whole (length u)) → cond c (end_text (codes "overlong ") n) (octets_text (codes "got ") n u) ≡ handed_text n h (cond c out (u ++ drop (length u) out))
    go true h q = sym (ap (λ x. handed_text n x out) q)
    go false h q = sym (ap (λ x. handed_text n x (u ++ drop (length u) out)) q ∙ ap (octets_text (codes "got ") n) (take_front u (drop (length u) out)))

-- of these units some are told of, and these are left
pub record Going {P : Type 0} (writes : P → List ℕ → P → Type 0) (n : ℕ) (all : List (List ℕ)) (before : P) (left : List (List ℕ)) (now : P) : Type 0 where
  pub told : List ℕ
  pub wrote : writes before told now
  pub all_is : told ++ units_text n left ≡ units_text n all

pub going_begun : {P : Type 0} (writes : P → List ℕ → P → Type 0) (n : ℕ) (all : List (List ℕ)) (page : P) → writes page [] page → Going writes n all page all page
going_begun writes n all page nothing = record { told = []; wrote = nothing; all_is = refl }

-- one more is told of
pub going_step : {P : Type 0} (writes : P → List ℕ → P → Type 0) (n : ℕ) (all left rest : List (List ℕ)) (before now next : P) (h : Handed) (out room : List ℕ) → ((a b c : P) (x y : List ℕ) → writes a x b → writes b y c → writes a (x ++ y) c) → Going writes n all before left now → Some h ≡ handed_of left →
    room ≡ written left out → rest ≡ drop 1 left → writes now (handed_text n h room) next → Going writes n all before rest next
going_step writes n all left rest before now next h out room joined is first written_is rest_is next_is =
    subst (λ us. Going writes n all before us next) (sym rest_is) (record {
      told = is.told ++ handed_text n h (written left out);
      wrote = joined before now next is.told (handed_text n h (written left out)) is.wrote (subst (λ o. writes now (handed_text n h o) next) written_is next_is);
      all_is = append_assoc is.told (handed_text n h (written left out)) (units_text n (drop 1 left)) ∙ (ap (λ t. is.told ++ t) (sym (first_text n left h out first)) ∙ is.all_is);
    })

no_units : (us : List (List ℕ)) → handed_of us ≡ None → us ≡ []
no_units [] e = refl
no_units (u ∷ us) e = absurd (cc)

-- all are
pub going_end : {P : Type 0} (writes : P → List ℕ → P → Type 0) (n : ℕ) (all left : List (List ℕ)) (before now : P) → Going writes n all before left now → handed_of left ≡ None → writes before (units_text n all) now
going_end writes n all left before now is none =
    subst (λ t. writes before t now) (sym (append-nil is.told) ∙ (ap (λ us. is.told ++ units_text n us) (sym (no_units left none)) ∙ is.all_is)) is.wrote

-- so many units of an end were handed up
abbrev pub handed_so : ℕ → State → State
handed_so n e = record e { entity = handed_to n e.entity }

-- an end whose entity is this
abbrev with_entity : State → Entity → State
with_entity e x = record e { entity = x }

other : (rules : Rules) (v : Running) (e : State) (x y : Entity) → Represents rules v (with_entity e x) → StandsFor rules v.entity y → Represents rules v (with_entity e y)
other rules v e x y is stands = record { entity = stands; pending = is.pending; next_rsn = is.next_rsn; heard = is.heard; owes = is.owes; restarts = is.restarts; hfni = is.hfni }

pub now_handed : (rules : Rules) (v : Running) (e : State) → Represents rules v e → Represents rules v (handed_so (length e.entity.receiver.reading.units - length (waiting_in v)) e)
now_handed rules v e is = other rules v e e.entity (handed_to (length e.entity.receiver.reading.units - length (waiting_in v)) e.entity) is (now_handed_there rules v.entity e.entity is.entity)

some_waits : (us : List (List ℕ)) (h : Handed) → Some h ≡ handed_of us → nat_eq (length us) 0 ≡ false
some_waits [] h e = absurd (cc)
some_waits (u ∷ us) h e = ne_eqb (length (u ∷ us)) 0 (λ q. omega (arith, q))

pub one_handed : (rules : Rules) (v now : Running) (e : State) (h : Handed) → Some h ≡ handed_of (waiting_in v) → waiting_in now ≡ drop 1 (waiting_in v) → Represents rules v (handed_so (length e.entity.receiver.reading.units - length (waiting_in v)) e) → ((x : State) → Represents rules v x → Represents rules now (step rules 0 x HandUp)) → Represents rules now (handed_so (length e.entity.receiver.reading.units - length (waiting_in now)) e)
one_handed rules v now e h first rest is hands =
    let so_far = handed_to (length e.entity.receiver.reading.units - length (waiting_in v)) e.entity in
    other rules now e (entity_step rules 0 so_far HandsUp) (handed_to (length e.entity.receiver.reading.units - length (waiting_in now)) e.entity) (hands (handed_so (length e.entity.receiver.reading.units - length (waiting_in v)) e) is)
    (one_handed_there rules v.entity now.entity e.entity (some_waits (waiting_in v) h first) rest is.entity (λ x stands. (hands (with_entity e x) (other rules v e so_far x is stands)).entity))

-- where none waits all were, and the next one changes nothing
none_more : (n : ℕ) → nat_lt n n ≡ false
none_more n = le-ltb n n (omega arith)

pub last_handed : (rules : Rules) (v now : Running) (e : State) → handed_of (waiting_in v) ≡ None → Represents rules v (handed_so (length e.entity.receiver.reading.units - length (waiting_in v)) e) → ((x : State) → Represents rules v x → Represents rules now (step rules 0 x HandUp)) → Represents rules now (handed_up e)
last_handed rules v now e none is hands =
    let n : ℕ = length e.entity.receiver.reading.units in
    let settled : is_settled v ≡ true = ap (λ (us : List (List ℕ)). nat_eq (length us) 0) (no_units (waiting_in v) none) in
    let all : Represents rules v (handed_up e) = other rules v e (handed_to (n - length (waiting_in v)) e.entity) (handed_up e).entity is (none_waits_there rules v.entity e.entity settled is.entity) in
    subst (λ m. Represents rules now (handed_so m e)) (ap (λ c. cond c (n + 1) n) (none_more n)) (hands (handed_up e) all)

pub none_left : (us : List (List ℕ)) → handed_of us ≡ None → drop 1 us ≡ []
none_left us e = ap (drop 1) (no_units us e)

pub sizes_on : (a b c : Running) → AreSizes a b → AreSizes b c → AreSizes a c
sizes_on a b c first then = record { out = then.out ∙ first.out; in_ = then.in_ ∙ first.in_ }
