-- What a node lends to be read.
use Rattle.std.specs.Prelude.{ℕ, List, Option, Some, None}
use Rattle.std.specs.Borrow.{Bor}
use Rattle.dch_accept.specs.declared.frame.FrameView.{FrameView}
use Rattle.dch_node.specs.Values.{Radio}

-- octets, as a list
abbrev pub octets_of : Option (Bor (List ℕ)) → Option (List ℕ)
octets_of None = None
octets_of (Some octets) = Some octets.now

-- a radio frame, as plain lists
abbrev pub radio_of : Option FrameView → Option Radio
radio_of None = None
radio_of (Some frame) = Some (record { tfci = frame.tfci.now; cells = frame.cells.now })
