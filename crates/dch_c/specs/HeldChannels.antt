-- A handle that holds transport channels of which something is told.
use Rattle.std.specs.Prelude.{ℕ, Option, Some, None, ⊤}
use Rattle.dch_handle.specs.Channels.{Trchs}
use Rattle.dch_handle.specs.declared.held.Held.{Held}
use Rattle.dch_handle.specs.declared.held.Held.TheVariants.{Decoder, Channels, Rnc, Ue, NodeB}

abbrev pub HoldsChannels : (Trchs → Type 0) → Option Held → Type 0
HoldsChannels P None = ⊥
HoldsChannels P (Some (Decoder most)) = ⊥
HoldsChannels P (Some (Channels trchs)) = P trchs
HoldsChannels P (Some (Rnc run)) = ⊥
HoldsChannels P (Some (Ue run)) = ⊥
HoldsChannels P (Some (NodeB run)) = ⊥
