-- What a radio frame is after its bits or its cells were lent.
use Rattle.std.specs.Prelude.{List}
use Rattle.std.specs.Borrow.{Lends, MutBor, Fml, Array}
use Rattle.dch_bits.specs.declared.bit.Bit.{Bit}
use Rattle.dch_bits.specs.declared.bit.Trit.{Trit}
use Rattle.dch_bits.specs.contracts.bit.Bit.{the_row as bit_row}
use Rattle.dch_bits.specs.contracts.bit.Trit.{the_row as cell_row}
use Rattle.dch_accept.specs.Frames.{Frame, overwritten}
use Rattle.dch_accept.specs.contracts.frame.PhyFrame.{the_row}

-- the frame with other TFCI bits
abbrev pub with_tfci : Frame → List Bit → Frame
with_tfci frame bits = record frame { tfci = overwritten frame.tfci bits }

-- the frame with other cells
abbrev pub with_cells : Frame → List Trit → Frame
with_cells frame cells = record frame { cells = overwritten frame.cells cells }

-- the frame ends with the TFCI bits that were written last
abbrev pub LendsTfci : MutBor Frame → MutBor (List Bit) → Fml
LendsTfci frame lent = Lends the_row (Array bit_row 0) frame lent (with_tfci frame.now)

-- the frame ends with the cells that were written last
abbrev pub LendsCells : MutBor Frame → MutBor (List Trit) → Fml
LendsCells frame lent = Lends the_row (Array cell_row 0) frame lent (with_cells frame.now)
