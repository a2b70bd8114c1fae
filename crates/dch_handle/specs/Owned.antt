-- What lies behind a handle owns: a boxed value, or nothing.
use base.Fml.{Fml, ftrue}
use denote.RawPtr.{Ptr}
use Rattle.std.specs.Prelude.{Option, None, Some}
use Rattle.std.specs.Box.Ownership.{box_owns}
use Rattle.std.specs.Global.{Global}
use Rattle.std_heap.specs.contracts.GlobalAllocator.TheImpl.{ghosts}
use Rattle.dch_handle.specs.contracts.held.Held.{the_row}

abbrev pub raw_owns : Global → Ptr → Option the_row.Denot → Fml
raw_owns alloc at None = ftrue
raw_owns alloc at (Some x) = box_owns (ghosts.dealloc_token alloc) the_row at x
