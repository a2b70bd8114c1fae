-- What a running receiver of acknowledged mode holds, with numbers of 12 bits (TS 25.322 9.4, 11.3.3, 11.6.3), and what
-- each call makes of it.
use Rattle.std.specs.Prelude.{◌+◌, ◌-◌, ◌%◌, ℕ, List, Bool, true, false, not, length, map, take, Option, Some, None, ◌&&◌, ◌||◌, nat_lt, nat_le, ◌==◌, if◌then◌else◌}
use Rattle.dch_types.specs.declared.bearer.AmRules.{AmRules}
use Rattle.dch_am.specs.declared.answers.Taken.{Taken}
use Rattle.dch_am.specs.declared.answers.Taken.TheVariants.{Kept as KeptPdu, Duplicate, Outside}
use Rattle.dch_am.specs.declared.answers.MrwTaken.{MrwTaken}
use Rattle.dch_am.specs.declared.answers.MrwTaken.TheVariants.{Nothing, Obeyed, Old, Outside as OutsideMove}
use Rattle.dch_am.specs.Bodies.{Body}
use Rattle.dch_am.specs.Numbers.{ahead}
use Rattle.dch_am.specs.Status.{most, runs}
use Rattle.dch_rlcpdu.specs.Fields.{Field, mrw_ack_fields, mrw_status_fields, status_fields}
use Rattle.dch_amrecv.specs.Lines.{Kept, nothing, passed, run_on, with_body, handed}
use Rattle.dch_amrecv.specs.Places.{front, is_kept, put, vacant}

-- the rules, the octets of the PDUs that come and go, the expected number, what is kept, an MRW_ACK that is owed (its
-- number and its place), whether a status is owed, and the ticks until one may be written and until the next one is
-- owed
pub record Holding : Type 0 where
  pub rules : AmRules
  pub pdu : ℕ
  pub reply : ℕ
  pub next : ℕ
  pub kept : Kept
  pub ack : Option (ℕ × ℕ)
  pub owed : Bool
  pub status_prohibit_timer : ℕ
  pub period : ℕ

-- at opening
abbrev pub opened : AmRules → ℕ → ℕ → Holding
opened rules pdu reply = record {
  rules = rules;
  pdu = pdu;
  reply = reply;
  next = 0;
  kept = nothing rules.window;
  ack = None;
  owed = false;
  status_prohibit_timer = 0;
  period = rules.status_period;
}

-- no unit that ended waits
abbrev pub is_settled : Holding → Bool
is_settled h = length h.kept.units.waiting == 0

-- what a PDU of this number is answered
abbrev pub answer : ℕ → Holding → Taken
answer sn h =
    if nat_le (4096 - h.rules.window) (ahead h.next sn) || is_kept h.kept.places (ahead h.next sn) then Duplicate
    else (if nat_le h.rules.window (ahead h.next sn) then Outside else KeptPdu)

-- what is kept goes on, by so many numbers
abbrev pub advanced_to : ℕ → Kept → Holding → Holding
advanced_to n k h = record h { next = (h.next + n) % 4096; kept = k }

abbrev pub with_owed : Bool → Holding → Holding
with_owed more h = record h { owed = h.owed || more }

-- after that answer
abbrev pub after_answer : Taken → ℕ → Bool → Body → Holding → Holding
after_answer KeptPdu sn poll b h =
    advanced_to (front (put (ahead h.next sn) b h.kept.places)) (run_on (with_body (ahead h.next sn) b h.kept))
    (with_owed (poll || (h.rules.missing && nat_lt (length h.kept.places) (ahead h.next sn))) h)
after_answer Duplicate sn poll b h = with_owed poll h
after_answer Outside sn poll b h = h

-- what an MRW of this number is answered
abbrev pub move_answer : ℕ → Holding → MrwTaken
move_answer sn h =
    if nat_le (4096 - h.rules.window) (ahead h.next sn) then Old
    else (if nat_le h.rules.window (ahead h.next sn) then OutsideMove sn else Obeyed)

-- another MRW_ACK is owed, or none
abbrev pub with_mrw_ack : Option (ℕ × ℕ) → Holding → Holding
with_mrw_ack ack h = record h { ack = ack }

-- the MRW_ACK that answers it
abbrev pub with_ack : ℕ → ℕ → Holding → Holding
with_ack sn n h = record h { ack = Some (h.next, if h.next == sn then n else 0) }

-- after that answer
abbrev pub after_move : MrwTaken → ℕ → ℕ → Holding → Holding
after_move Obeyed sn n h =
    with_ack sn n (advanced_to (ahead h.next sn + front (passed (ahead h.next sn) n h.kept).places)
    (run_on (passed (ahead h.next sn) n h.kept)) h)
after_move Old sn n h = with_ack sn n h
after_move (OutsideMove i) sn n h = h
after_move Nothing sn n h = h

-- what a status is answered, of which this MRW acts, and what is held after it
abbrev pub control_answer : Option (ℕ × ℕ) → Holding → MrwTaken
control_answer None h = Nothing
control_answer (Some p) h = move_answer p.0 h

abbrev pub after_control : Option (ℕ × ℕ) → Holding → Holding
after_control None h = h
after_control (Some p) h = after_move (move_answer p.0 h) p.0 p.1 h

-- a status is owed and may be written
abbrev pub plain_due : Holding → Bool
plain_due h = h.owed && (h.status_prohibit_timer == 0)

abbrev pub some_ack : Option (ℕ × ℕ) → Bool
some_ack None = false
some_ack (Some a) = true

-- something is due
abbrev pub is_due : Holding → Bool
is_due h = some_ack h.ack || plain_due h

-- after it is written
abbrev pub after_telling : Holding → Holding
after_telling h =
    record h {
      ack = None;
      owed = h.owed && not (plain_due h);
      status_prohibit_timer = if plain_due h then h.rules.status_prohibit else h.status_prohibit_timer;
      period = if plain_due h then h.rules.status_period else h.period;
    }

-- one tick
abbrev pub after_tick : Holding → Holding
after_tick h =
    record h {
      status_prohibit_timer = h.status_prohibit_timer - 1;
      owed = h.owed || (nat_lt 0 h.rules.status_period && (h.period == 1));
      period = if h.period == 1 then h.rules.status_period else h.period - 1;
    }

-- a unit is handed up
abbrev pub after_unit : Holding → Holding
after_unit h = record h { kept = handed h.kept }

-- the runs of missing numbers, with numbers of 12 bits
abbrev pub numbered : ℕ → ℕ × ℕ → ℕ × ℕ
numbered next p = ((next + p.0) % 4096, p.1)

abbrev pub missing_runs : Holding → List (ℕ × ℕ)
missing_runs h = runs (vacant 0 h.kept.places)

-- the status in so many bits
abbrev pub pairs_told : ℕ → Holding → List (ℕ × ℕ)
pairs_told bits h = map (numbered h.next) (take (most bits (length (missing_runs h))) (missing_runs h))

abbrev pub lsn_told : ℕ → Holding → ℕ
lsn_told bits h = (h.next + (if most bits (length (missing_runs h)) == length (missing_runs h) then length h.kept.places
    else 0)) % 4096

-- the fields that are written where an MRW_ACK, or a status, is due
abbrev pub fields_told : Option (ℕ × ℕ) → Bool → ℕ → Holding → List Field
fields_told None plain bits h = status_fields (pairs_told bits h) (lsn_told bits h)
fields_told (Some a) false bits h = mrw_ack_fields a.1 a.0
fields_told (Some a) true bits h = mrw_status_fields a.1 a.0 (pairs_told (bits - 20) h) (lsn_told (bits - 20) h)
