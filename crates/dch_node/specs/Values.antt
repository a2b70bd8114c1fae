-- What nodes send each other, as plain lists: radio frames, and the transport blocks of a channel.
use Rattle.std.specs.Prelude.{ℕ, List, [], Option, None}
use Rattle.dch_bits.specs.declared.bit.Bit.{Bit}
use Rattle.dch_bits.specs.declared.bit.Trit.{Trit}
use Rattle.dch_types.specs.declared.channel.Side.{Side}
use Rattle.dch_types.specs.Limits.{idle_format}
use Rattle.dch_types.specs.Parts.{channel_at}
use Rattle.dch_node.specs.Lines.{Line}

-- a radio frame: its TFCI bits and its cells
pub record Radio : Type 0 where
  pub tfci : List Bit
  pub cells : List Trit

-- the transport blocks of a channel in a TTI: the number of their format, and their bits, one block after another
pub record Blocks : Type 0 where
  pub format : ℕ
  pub bits : List Bit

-- the blocks of a channel that sends nothing: those of its idle format
abbrev pub idle_blocks : Side → ℕ → Blocks
idle_blocks side i = record { format = idle_format (channel_at side i); bits = [] }

-- what a step of a node reports, and what it sends: a radio frame, and an Iub frame for each set
pub record Output : Type 0 where
  pub lines : List Line
  pub sent : Option Radio
  pub iub : ℕ → Option (List ℕ)

-- nothing is reported or sent
abbrev pub no_output : Output
no_output = record { lines = []; sent = None; iub = λ s. None }

-- nothing but these lines
abbrev pub says : List Line → Output
says lines = record no_output { lines = lines }
