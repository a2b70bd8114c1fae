-- The two ends that the command `pair` runs, and the PDUs in flight to each.
use Rattle.std.specs.Prelude.{◌==◌, ℕ, List, [], if◌then◌else◌}
use Rattle.dch_types.specs.Parts.{default_rules}
use Rattle.dch_am.specs.Rules.{Rules, rules_of}
use Rattle.dch_reset.specs.State.{State, opened_state}

-- an end: the octets of the PDUs that it builds, what it keeps, and the PDUs that are in flight to it, the first to
-- arrive in front
pub record PairEnd : Type 0 where
  pub size : ℕ
  pub state : State
  pub coming : List (List ℕ)

-- the rules of both, and the ends `a` and `b`
pub record Ends : Type 0 where
  pub rules : Rules
  pub first : PairEnd
  pub second : PairEnd

-- the rules of a buffer and a window. The others have their defaults
abbrev pub pair_rules : ℕ → ℕ → Rules
pair_rules buffer window = rules_of buffer (record default_rules { window = window })

-- at opening nothing is in flight
abbrev pub opened_end : Rules → ℕ → PairEnd
opened_end rules size = record { size = size; state = opened_state rules; coming = [] }

abbrev pub opened_ends : ℕ → ℕ → ℕ → ℕ → Ends
opened_ends first second buffer window = record {
  rules = pair_rules buffer window;
  first = opened_end (pair_rules buffer window) first;
  second = opened_end (pair_rules buffer window) second;
}

-- the end at which something happens, and the other one
pub record Sides : Type 0 where
  pub near : PairEnd
  pub far : PairEnd

-- the ends as the one with this number sees them, 0 for `a`
abbrev pub sides_at : ℕ → Ends → Sides
sides_at end e = if end == 0 then record { near = e.first; far = e.second }
    else record { near = e.second; far = e.first }

abbrev pub with_sides : ℕ → Sides → Ends → Ends
with_sides end s e = if end == 0 then record e { first = s.near; second = s.far }
    else record e { first = s.far; second = s.near }
