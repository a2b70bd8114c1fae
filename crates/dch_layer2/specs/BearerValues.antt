-- What a bearer keeps at an end: its number, the direction in which blocks come, and what waits. And what each call
-- makes of it.
use Rattle.std.specs.Prelude.{◌≡◌, ◌≤◌, ◌∷◌, ℕ, List, [], All, Bool, false, Option, Some, None, Result, Ok, Err, option_map}
use Rattle.dch_bits.specs.declared.bit.Bit.{Bit}
use Rattle.dch_bits.specs.declared.offer.Offer.{Offer}
use Rattle.dch_bits.specs.declared.offer.Offer.TheVariants.{WrongSize}
use Rattle.dch_types.specs.declared.channel.Dir.{Dir}
use Rattle.dch_rlcpdu.specs.declared.handed.PduError.{PduError}
use Rattle.dch_rlcpdu.specs.declared.um.UmView.{UmView}
use Rattle.dch_rlcpdu.specs.Um.{um_reading}
use Rattle.dch_rlctm.specs.Waiting.{Waiting, after_offer as after_unit, answer_of as unit_answer, front_of}
use Rattle.dch_rlcum.specs.Handing.{all_handed}
use Rattle.dch_rlcum.specs.Receiving.{Receiving, after_pdu}
use Rattle.dch_rlcum.specs.Sending.{Sending, after_build, after_offer, answer_of, builds, is_due, pdu_of}
use Rattle.dch_indication.specs.Lines.{Line, PduBad}
use Rattle.dch_mac.specs.declared.head.Head.{Head}
use Rattle.dch_rlcpdu.specs.Errors.{error_number}
use Rattle.dch_layer2.specs.UnitLines.{unit_lines}
use Rattle.dch_layer2.specs.Shapes.{IsWhole}
use Rattle.dch_layer2.specs.declared.shape.Shape.{Shape}

-- of the transparent mode: the sizes of its blocks, and the units that wait, where it sends
pub record TmRunning : Type 0 where
  pub number : ℕ
  pub into : Dir
  pub sizes : List ℕ
  pub sender : Option Waiting

-- none of the sizes is greater than the greatest
abbrev pub AreSizes : List ℕ → Option Waiting → Type 0
AreSizes sizes None = Unit {0}
AreSizes sizes (Some w) = All (λ size. size ≤ w.most) sizes

-- the units that wait
abbrev pub units_in : Option Waiting → List (List Bit)
units_in None = []
units_in (Some w) = w.units

-- what an offer is answered, and what waits after it
abbrev pub answer_at : List ℕ → List Bit → Option Waiting → Offer
answer_at sizes unit None = WrongSize
answer_at sizes unit (Some w) = unit_answer sizes unit w

abbrev pub tm_answer : List Bit → TmRunning → Offer
tm_answer unit v = answer_at v.sizes unit v.sender

abbrev pub tm_after : Offer → List Bit → TmRunning → TmRunning
tm_after o unit v = record v { sender = option_map (after_unit o unit) v.sender }

-- what it offers to send
abbrev pub tm_head : TmRunning → Head
tm_head v = record { size = (front_of (units_in v.sender)).0; count = (front_of (units_in v.sender)).1 }

-- one more unit stands first, which is the block that was built
abbrev pub with_first : List Bit → Option Waiting → Option Waiting
with_first unit None = None
with_first unit (Some w) = Some (record w { units = unit ∷ w.units })

abbrev pub tm_built : List Bit → TmRunning → TmRunning
tm_built unit v = record v { sender = with_first unit v.sender }

-- of the unacknowledged mode: the blocks that it sends, and its sides, as far as it sends and receives
pub record UmRunning : Type 0 where
  pub number : ℕ
  pub into : Dir
  pub shape : Shape
  pub sender : Option Sending
  pub receiver : Option Receiving

-- a sender writes PDUs that fill the blocks
pub record IsFilling (shape : Shape) (s : Sending) : Type 0 where
  pub octets : s.pdu ≡ shape.octets
  pub most : shape.octets ≤ 125
  pub whole : IsWhole shape

abbrev pub FillsBlocks : Shape → Option Sending → Type 0
FillsBlocks shape None = Unit {0}
FillsBlocks shape (Some s) = IsFilling shape s

-- no unit that ended waits
abbrev pub IsSettled : Option Receiving → Type 0
IsSettled None = Unit {0}
IsSettled (Some r) = r.waiting ≡ []

-- what an offer is answered, and what waits after it
abbrev pub answered : List ℕ → Option Sending → Offer
answered unit None = WrongSize
answered unit (Some s) = answer_of unit s

abbrev pub um_answer : List ℕ → UmRunning → Offer
um_answer unit v = answered unit v.sender

abbrev pub um_after : Offer → List ℕ → UmRunning → UmRunning
um_after o unit v = record v { sender = option_map (after_offer o unit) v.sender }

-- how many PDUs could be built one after another, and that there is one
abbrev pub count_of : Option Sending → ℕ
count_of None = 0
count_of (Some s) = builds 64 s.pdu s.mark_start s.units

abbrev pub um_head : UmRunning → Head
um_head v = record { size = v.shape.bits; count = count_of v.sender }

abbrev pub due_in : Option Sending → Bool
due_in None = false
due_in (Some s) = is_due s

abbrev pub um_due : UmRunning → Bool
um_due v = due_in v.sender

-- the next PDU, and what waits after it is built
abbrev pub next_in : Option Sending → List ℕ
next_in None = []
next_in (Some s) = pdu_of s

abbrev pub um_pdu : UmRunning → List ℕ
um_pdu v = next_in v.sender

abbrev pub um_built : UmRunning → UmRunning
um_built v = record v { sender = option_map after_build v.sender }

-- a receiver after octets came that read so, and the lines on them
abbrev pub heard_by : Result UmView PduError → Receiving → Receiving
heard_by (Ok view) r = all_handed (after_pdu view r)
heard_by (Err e) r = r

abbrev pub lines_of : Dir → ℕ → Result UmView PduError → Receiving → List Line
lines_of dir b (Ok view) r = unit_lines dir b (after_pdu view r).waiting
lines_of dir b (Err e) r = PduBad dir b (error_number e) ∷ []

abbrev pub lines_in : Dir → ℕ → List ℕ → Option Receiving → List Line
lines_in dir b octets None = []
lines_in dir b octets (Some r) = lines_of dir b (um_reading octets) r

abbrev pub um_heard : List ℕ → UmRunning → UmRunning
um_heard octets v = record v { receiver = option_map (heard_by (um_reading octets)) v.receiver }

abbrev pub um_lines : List ℕ → UmRunning → List Line
um_lines octets v = lines_in v.into v.number octets v.receiver
