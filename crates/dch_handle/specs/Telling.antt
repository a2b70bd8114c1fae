-- What a node tells, as C has it, and the queue in which it waits.
use Rattle.std.specs.Prelude.{◌≡◌, ◌≤◌, ◌+◌, ◌-◌, ◌*◌, ◌++◌, ◌&&◌, ℕ, List, [], ◌∷◌, Bool, false, true, Some, drop, if◌then◌else◌, length, map, nat_le, nat_lt, slice_get, take}
use Rattle.dch_bits.specs.Text.{cell_letter, letter_of}
use Rattle.dch_types.specs.declared.channel.Dir.{Dir}
use Rattle.dch_types.specs.declared.channel.Dir.TheVariants.{Up, Down}
use Rattle.dch_indication.specs.Lines.{Line, Took, Full, Wrong, Bad, Reserved, NoBearer, Nobody, PduBad, Outside, Overlong, Got, GotBits, Iub, IubBad, Phy, PhyNone, BadTti, Differs}
use Rattle.dch_handle.specs.declared.told.Told.{Told}

-- the number of a direction
abbrev pub number_of : Dir → ℕ
number_of Up = 0
number_of Down = 1

-- what is told with no octets behind it
abbrev pub short_told : ℕ → Dir → ℕ → ℕ → Told
short_told kind dir number more =
    record { kind = kind; direction = number_of dir; number = number; more = more; tfci = 0; length = 0 }

-- and with so many
abbrev pub long_told : ℕ → Dir → ℕ → ℕ → ℕ → Told
long_told kind dir number tfci len =
    record { kind = kind; direction = number_of dir; number = number; more = 0; tfci = tfci; length = len }

-- a line as C has it
abbrev pub told_of : Line → Told
told_of (Took dir b) = short_told 0 dir b 0
told_of (Full dir b) = short_told 1 dir b 0
told_of (Wrong dir b) = short_told 2 dir b 0
told_of (Bad dir i block) = short_told 3 dir i block
told_of (Reserved dir i) = short_told 4 dir i 0
told_of (NoBearer dir i ct) = short_told 5 dir i ct
told_of (Nobody dir i) = short_told 6 dir i 0
told_of (PduBad dir b n) = short_told 7 dir b n
told_of (Outside dir b) = short_told 8 dir b 0
told_of (Overlong dir b) = short_told 9 dir b 0
told_of (Got dir b octets) = long_told 10 dir b 0 (length octets)
told_of (GotBits dir b bits) = long_told 11 dir b 0 (length bits)
told_of (Iub dir set octets) = long_told 12 dir set 0 (length octets)
told_of (IubBad dir set n) = short_told 13 dir set n
told_of (Phy dir tfci cells) = long_told 14 dir 0 (length tfci) (length tfci + length cells)
told_of PhyNone = short_told 15 Down 0 0
told_of (BadTti dir i n) = short_told 16 dir i n
told_of (Differs dir i) = short_told 17 dir i 0

-- the octets or letters behind it
abbrev pub payload_of : Line → List ℕ
payload_of (Took dir b) = []
payload_of (Full dir b) = []
payload_of (Wrong dir b) = []
payload_of (Bad dir i block) = []
payload_of (Reserved dir i) = []
payload_of (NoBearer dir i ct) = []
payload_of (Nobody dir i) = []
payload_of (PduBad dir b n) = []
payload_of (Outside dir b) = []
payload_of (Overlong dir b) = []
payload_of (Got dir b octets) = octets
payload_of (GotBits dir b bits) = map letter_of bits
payload_of (Iub dir set octets) = octets
payload_of (IubBad dir set n) = []
payload_of (Phy dir tfci cells) = map letter_of tfci ++ map cell_letter cells
payload_of PhyNone = []
payload_of (BadTti dir i n) = []
payload_of (Differs dir i) = []

-- what waits to be pulled, the octets behind it, for how many values and octets more there is room, for how many there
-- was at opening, and whether a value found none
pub record Waiting : Type 0 where
  pub told : List Told
  pub letters : List ℕ
  pub heads_left : ℕ
  pub room_left : ℕ
  pub most : ℕ
  pub room : ℕ
  pub lost : Bool

-- nothing waits, and there is all the room again
abbrev pub emptied : Waiting → Waiting
emptied queue = record {
  told = [];
  letters = [];
  heads_left = queue.most;
  room_left = queue.room;
  most = queue.most;
  room = queue.room;
  lost = false;
}

-- there is room for a value with these octets
abbrev pub has_place : Waiting → List ℕ → Bool
has_place queue payload = nat_lt 0 queue.heads_left && nat_le (length payload) queue.room_left

-- it waits behind those that wait
abbrev pub queued : Waiting → Told → List ℕ → Waiting
queued queue told payload = record {
  told = queue.told ++ told ∷ [];
  letters = queue.letters ++ payload;
  heads_left = queue.heads_left - 1;
  room_left = queue.room_left - length payload;
  most = queue.most;
  room = queue.room;
  lost = queue.lost;
}

abbrev pub entered : Waiting → Told → List ℕ → Waiting
entered queue told payload = if has_place queue payload then queued queue told payload else record queue { lost = true }

-- a line enters the queue
abbrev pub Enters : Waiting → Line → Waiting → Type 0
Enters old line new = new ≡ entered old (told_of line) (payload_of line)

-- the octets behind lines, one after another
abbrev pub payloads : List Line → List ℕ
payloads [] = []
payloads (line ∷ lines) = payload_of line ++ payloads lines

-- lines wait behind those that waited before
pub record AreBehind (old : Waiting) (lines : List Line) (new : Waiting) : Type 0 where
  pub kept : old.lost ≡ false
  pub told : new.told ≡ old.told ++ map told_of lines
  pub letters : new.letters ≡ old.letters ++ payloads lines

-- lines wait, and nothing else does
pub record Wait (lines : List Line) (queue : Waiting) : Type 0 where
  pub told : queue.told ≡ map told_of lines
  pub letters : queue.letters ≡ payloads lines

-- how many octets stand behind values
abbrev pub all_long : List Told → ℕ
all_long [] = 0
all_long (told ∷ rest) = told.length + all_long rest

-- all octets belong to values that wait
abbrev pub IsWhole : Waiting → Type 0
IsWhole queue = length queue.letters ≡ all_long queue.told

-- there is room for lines whose text has less than so many bytes: each has 8 at least, and as many as its octets
pub record HasRoomFor (bytes : ℕ) (queue : Waiting) : Type 0 where
  pub heads : bytes ≤ 8 * queue.most
  pub octets : bytes ≤ queue.room

-- the first value was pulled, with its octets at the front of a buffer; the others wait on
pub record IsPulled (old new : Waiting) (told : Told) (before after : List ℕ) : Type 0 where
  pub first : slice_get old.told 0 ≡ Some told
  pub rest : new ≡ record old { told = drop 1 old.told; letters = drop told.length old.letters }
  pub shown : after ≡ take told.length old.letters ++ drop told.length before

-- a queue was emptied and then told of a step: none of it is lost, and it has as much room as before
pub record IsToldAnew (old new : Waiting) : Type 0 where
  pub kept : new.lost ≡ false
  pub most : new.most ≡ old.most
  pub room : new.room ≡ old.room
  pub whole : IsWhole new
