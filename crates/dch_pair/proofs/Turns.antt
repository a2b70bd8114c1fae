-- What a running entity builds at its turn.
use Rattle.std.proofs.Common.{◌≡◌, ℕ, List, Bool, true, false, cond, ◌||◌, Some, refl, sym, subst}
use Rattle.dch_am.specs.Building.{gives}
use Rattle.dch_am.specs.Discards.{mrw_due}
use Rattle.dch_am.specs.Entities.{Entity, IsWritten, Turn, Tells, Moves, Sends, Rests, receiver_after, sender_after, turn, with_sides, writes}
use Rattle.dch_am.specs.Receiver.{Receiver}
use Rattle.dch_am.specs.Rules.{Rules}
use Rattle.dch_am.specs.Sender.{Sender}
use Rattle.dch_am.specs.Telling.{is_due}
use Rattle.dch_pair.specs.declared.answers.Built.{Built}
use Rattle.dch_pair.specs.Answers.{built_at}
use Rattle.dch_pair.specs.EntityStanding.{Represents, Running}

-- something is written where something is due
writes_by : (a b g : Bool) → writes (cond a Tells (cond b Moves (cond g Sends Rests))) ≡ (a || b || g)
writes_by true b g = refl
writes_by false true g = refl
writes_by false false true = refl
writes_by false false false = refl

pub writes_is : (rules : Rules) (s : Sender) (r : Receiver) → writes (turn rules s r) ≡ (is_due r || mrw_due s.discard || gives rules s)
writes_is rules s r = writes_by (is_due r) (mrw_due s.discard) (gives rules s)

-- what is due where neither a status nor an MRW is
pub due_last : (a b g : Bool) → (a || b || g) ≡ true → false ≡ a → false ≡ b → g ≡ true
due_last true b g e p q = absurd (cc)
due_last false true g e p q = absurd (cc)
due_last false false g e p q = e

-- what an entity did at its turn
abbrev pub Did : Turn → Rules → ℕ → Built → List ℕ → Entity → Running → Type 0
Did t rules size built out e now = (Some built ≡ built_at t) × IsWritten t rules size out e.sender e.receiver × Represents rules now (with_sides e (sender_after t rules size e.sender) (receiver_after t rules e.receiver))

pub did : (t : Turn) (rules : Rules) (size : ℕ) (built : Built) (out : List ℕ) (e : Entity) (now : Running) → turn rules e.sender e.receiver ≡ t → Did t rules size built out e now → Did (turn rules e.sender e.receiver) rules size built out e now
did t rules size built out e now q h = subst (λ x. Did x rules size built out e now) (sym q) h
