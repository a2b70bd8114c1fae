-- What a running end that can be reset keeps (TS 25.322 11.4), and when it stands for an end over lists and numbers
-- without wrap.
use Rattle.std.specs.Prelude.{◌≡◌, ◌==◌, ℕ, List, Option, Some, None, Bool, true, false}
use Rattle.dch_am.specs.Rules.{Rules}
use Rattle.dch_pair.specs.EntityStanding.{Represents as StandsFor, Running as RunningEntity, is_due as is_entity_due, is_settled as is_drained, size_in as octets_in, size_of as octets_of, waiting_in as units_in}
use Rattle.dch_amsend.specs.SduDiscard.{capped}
use Rattle.dch_reset.specs.Ends.{Pending, hfni_of}
use Rattle.dch_reset.specs.State.{State}
use Rattle.dch_reset.specs.declared.pending.Pending.{Pending as Waiting}

pub record Running : Type 0 where
  pub entity : RunningEntity
  pub pending : Option Pending
  pub next_rsn : Bool
  pub heard : Option Bool
  pub owes : Bool
  pub restarts : ℕ  -- no more than the greatest number
  pub hfni : ℕ

-- the reset that it has begun
abbrev pub pending_of : Option Waiting → Option Pending
pending_of None = None
pending_of (Some p) = Some (record { rsn = p.rsn; rst_timer = p.rst_timer })

-- the octets of the PDUs that it writes, and of those that come
abbrev pub size_of : Running → ℕ
size_of v = octets_of v.entity

abbrev pub size_in : Running → ℕ
size_in v = octets_in v.entity

-- the units that ended and wait, and of each no more than 1,501 octets
abbrev pub waiting_in : Running → List (List ℕ)
waiting_in v = units_in v.entity

-- none waits
abbrev pub is_settled : Running → Bool
is_settled v = is_drained v.entity

-- there is something to build
abbrev pub due_by : RunningEntity → Bool → Option Pending → Bool
due_by entity true pending = true
due_by entity false (Some p) = p.rst_timer == 0
due_by entity false None = is_entity_due entity

abbrev pub is_due : Running → Bool
is_due v = due_by v.entity v.owes v.pending

-- it stands for this end
pub record Represents (rules : Rules) (v : Running) (e : State) : Type 0 where
  pub entity : StandsFor rules v.entity e.entity
  pub pending : v.pending ≡ e.pending
  pub next_rsn : v.next_rsn ≡ e.next_rsn
  pub heard : v.heard ≡ e.heard
  pub owes : v.owes ≡ e.owes
  pub restarts : v.restarts ≡ capped e.restarts
  pub hfni : v.hfni ≡ hfni_of e.restarts

-- the sizes of PDUs stay
pub record AreSizes (a b : Running) : Type 0 where
  pub out : size_of b ≡ size_of a
  pub in_ : size_in b ≡ size_in a

-- and so do the units that wait
pub record IsSame (a b : Running) : Type 0 where
  pub sizes : AreSizes a b
  pub waiting : waiting_in b ≡ waiting_in a
