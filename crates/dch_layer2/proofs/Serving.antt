-- How far the bearers of a channel were served.
use Rattle.std.specs.Prelude.{◌≡◌, ◌≤◌, ◌++◌, ◌==◌, ◌&&◌, ◌||◌, ℕ, suc, List, Bool, if◌then◌else◌, length, min, nat_lt}
use Rattle.dch_types.specs.declared.channel.Dir.{Dir}
use Rattle.dch_types.specs.declared.channel.Format.{Format}
use Rattle.dch_types.specs.Sums.{total}
use Rattle.dch_accept.specs.Blocks.{Held}
use Rattle.dch_mac.specs.declared.head.Head.{Head}
use Rattle.dch_mac.specs.Asked.{Asked, priority_of}
use Rattle.dch_mac.specs.Offered.{given, offered}
use Rattle.dch_layer2.specs.Bearings.{Bearing}
use Rattle.dch_layer2.specs.Starting.{in_turn, is_on, of_priority}
use Rattle.dch_layer2.specs.declared.bearer.Bearer.{Bearer}
use Rattle.dch_layer2.specs.Sharing.{AreStanding, IsSameShape, IsShared, Moment, asked_by}

-- so many blocks of a size are offered
pub record HasMore (head : Head) (bits n : ℕ) : Type 0 where
  pub count : n ≤ head.count
  pub size : 1 ≤ n → head.size ≡ bits

-- bearer a is served before bearer b of priority q + 1
abbrev pub before : Asked → ℕ → ℕ → ℕ → Bool
before asked q b a = nat_lt (priority_of asked a) (suc q) || (priority_of asked a == suc q && nat_lt a b)

-- all that these have to send, of a size
abbrev pub served : Asked → ℕ → ℕ → ℕ → ℕ → ℕ
served asked i size q b = total (λ a. if before asked q b a then offered asked i size a else 0) (length asked.bearers)

-- their order
abbrev pub turns_to : Asked → ℕ → ℕ → ℕ → List ℕ
turns_to asked i q b = in_turn asked i q ++ of_priority asked i (suc q) b

-- how many blocks bearer a of a channel builds, where it is served before
abbrev pub built_to : Asked → ℕ → Format → ℕ → ℕ → ℕ → ℕ
built_to asked i format q b a = if before asked q b a && is_on asked i a then given asked i format a else 0

-- so far those before bearer b of priority q + 1
pub record AreServed (m : Moment) (i : ℕ) (format : Format) (q b n : ℕ) (old new : List Bearer) (before after : Held) : Type 0 where
  pub number : n ≡ min format.number (served (asked_by m) i format.size q b)
  pub all : length new ≡ length old
  pub shape : IsSameShape before after
  pub shared : (into : Dir) (bearings : ℕ → Bearing) → AreStanding m into bearings old → IsShared m into (built_to (asked_by m) i format q b) (turns_to (asked_by m) i q b) n bearings new after
