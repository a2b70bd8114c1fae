-- An entity's turn, by what is due.
use Rattle.std.proofs.Common.{◌≡◌, ℕ, Bool, true, false, cond, Option, Some, None, is_some, refl}
use Rattle.dch_am.specs.Building.{gives}
use Rattle.dch_am.specs.Discards.{mrw_due}
use Rattle.dch_am.specs.Entities.{Turn, Tells, Moves, Sends, Rests, turn}
use Rattle.dch_am.specs.Receiver.{Receiver}
use Rattle.dch_am.specs.Rules.{Rules}
use Rattle.dch_am.specs.Sender.{Sender}
use Rattle.dch_am.specs.Status.{MrwAck}
use Rattle.dch_am.specs.Telling.{due_of, is_due, plain_due, telling, tells_now}

-- which turn it is
pub turn_tells : (rules : Rules) (s : Sender) (r : Receiver) → is_due r ≡ true → turn rules s r ≡ Tells
turn_tells rules s r a = rw a refl

pub turn_moves : (rules : Rules) (s : Sender) (r : Receiver) → is_due r ≡ false → mrw_due s.discard ≡ true → turn rules s r ≡ Moves
turn_moves rules s r a b = rw (a, b) refl

pub turn_sends : (rules : Rules) (s : Sender) (r : Receiver) → is_due r ≡ false → mrw_due s.discard ≡ false → gives rules s ≡ true → turn rules s r ≡ Sends
turn_sends rules s r a b e = rw (a, b, e) refl

-- and what it tells of what is due
is_tells : (a b e : Bool) → ◌≡◌ {A = Turn} (cond a Tells (cond b Moves (cond e Sends Rests))) Tells → a ≡ true
is_tells true b e q = refl
is_tells false true e q = absurd (cc)
is_tells false false true q = absurd (cc)
is_tells false false false q = absurd (cc)

pub tells_due : (rules : Rules) (s : Sender) (r : Receiver) → turn rules s r ≡ Tells → is_due r ≡ true
tells_due rules s r e = is_tells (is_due r) (mrw_due s.discard) (gives rules s) e

is_sends : (a b e : Bool) → ◌≡◌ {A = Turn} (cond a Tells (cond b Moves (cond e Sends Rests))) Sends → e ≡ true
is_sends true b e q = absurd (cc)
is_sends false true e q = absurd (cc)
is_sends false false true q = refl
is_sends false false false q = absurd (cc)

pub sends_gives : (rules : Rules) (s : Sender) (r : Receiver) → turn rules s r ≡ Sends → gives rules s ≡ true
sends_gives rules s r e = is_sends (is_due r) (mrw_due s.discard) (gives rules s) e

-- something is told just where something is due
telling_due : (bits : ℕ) (r : Receiver) (a : Option MrwAck) (b : Bool) → is_some (telling bits r a b) ≡ due_of a b
telling_due bits r None false = refl
telling_due bits r None true = refl
telling_due bits r (Some a) false = refl
telling_due bits r (Some a) true = refl

pub told_due : (bits : ℕ) (r : Receiver) → is_some (tells_now bits r) ≡ is_due r
told_due bits r = telling_due bits r r.ack (plain_due r)
