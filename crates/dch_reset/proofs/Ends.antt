-- A running end after what happens to it.
use Rattle.std.proofs.Common.{◌≡◌, ◌+◌, ◌-◌, ◌%◌, ◌^◌, ℕ, true, false, Option, Some, None, is_some, min, refl, arith}
use Rattle.dch_am.specs.Entities.{Come as Comes, Pdu, step as entity_step}
use Rattle.dch_am.specs.Rules.{Rules}
use Rattle.dch_pair.specs.EntityStanding.{Represents as StandsFor, Running as RunningEntity}
use Rattle.dch_amsend.specs.SduDiscard.{capped}
use Rattle.dch_reset.specs.Ends.{Pending, hfni_of}
use Rattle.dch_reset.specs.Answers.{unless_pending}
use Rattle.dch_reset.specs.Standing.{Represents, Running, pending_of}
use Rattle.dch_reset.specs.State.{State, taken_by}
use Rattle.dch_reset.specs.declared.answers.Got.{Got}
use Rattle.dch_reset.specs.declared.pending.Pending.{Pending as Waiting}

pub pending_some : (o : Option Waiting) → is_some (pending_of o) ≡ is_some o
pending_some None = refl
pending_some (Some p) = refl

-- an end that is pending ignores a data PDU or a status, and another one takes it
pub ignores : (rules : Rules) (v : Running) (size : ℕ) (e : State) (q : Option Pending) (pdu : Pdu) → is_some q ≡ true → Represents rules v e → Represents rules v (taken_by rules size e q pdu)
ignores rules v size e None pdu some is = absurd (cc)
ignores rules v size e (Some p) pdu some is = is

pub takes : (rules : Rules) (v : Running) (now : RunningEntity) (size : ℕ) (e : State) (q : Option Pending) (pdu : Pdu) → is_some q ≡ false → Represents rules v e → StandsFor rules now (entity_step rules size e.entity (Comes pdu)) → Represents rules (record v { entity = now }) (taken_by rules size e q pdu)
takes rules v now size e None pdu none is stands = record { entity = stands; pending = is.pending; next_rsn = is.next_rsn; heard = is.heard; owes = is.owes; restarts = is.restarts; hfni = is.hfni }
takes rules v now size e (Some p) pdu none is stands = absurd (cc)

pub unless_none : (q : Option Pending) (got : Got) → is_some q ≡ false → got ≡ unless_pending q got
unless_none None got none = refl
unless_none (Some p) got none = absurd (cc)

-- one restart more
pub capped_more : (n m : ℕ) → m ≡ capped n → min (m + 1) (2 ^ 64 - 1) ≡ capped (n + 1)
unfolding capped
capped_more n m e = omega arith

pub hfni_more : (n m : ℕ) → m ≡ hfni_of n → (m + 1) % 1048576 ≡ hfni_of (n + 1)
hfni_more n m e = omega arith

pub capped_none : 0 ≡ capped 0
unfolding capped
capped_none = refl
