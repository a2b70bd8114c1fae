-- The kinds of what a handle holds.
use Rattle.std.specs.Prelude.{Bool, true, false}
use Rattle.dch_handle.specs.declared.held.Held.{Held}
use Rattle.dch_handle.specs.declared.held.Held.TheVariants.{Decoder, Channels, Rnc, Ue, NodeB}

abbrev pub is_decoder : Held → Bool
is_decoder (Decoder most) = true
is_decoder (Channels trchs) = false
is_decoder (Rnc run) = false
is_decoder (Ue run) = false
is_decoder (NodeB run) = false

abbrev pub are_channels : Held → Bool
are_channels (Decoder most) = false
are_channels (Channels trchs) = true
are_channels (Rnc run) = false
are_channels (Ue run) = false
are_channels (NodeB run) = false

abbrev pub is_rnc_or_ue : Held → Bool
is_rnc_or_ue (Decoder most) = false
is_rnc_or_ue (Channels trchs) = false
is_rnc_or_ue (Rnc run) = true
is_rnc_or_ue (Ue run) = true
is_rnc_or_ue (NodeB run) = false

abbrev pub is_rnc_or_node_b : Held → Bool
is_rnc_or_node_b (Decoder most) = false
is_rnc_or_node_b (Channels trchs) = false
is_rnc_or_node_b (Rnc run) = true
is_rnc_or_node_b (Ue run) = false
is_rnc_or_node_b (NodeB run) = true

abbrev pub is_ue_or_node_b : Held → Bool
is_ue_or_node_b (Decoder most) = false
is_ue_or_node_b (Channels trchs) = false
is_ue_or_node_b (Rnc run) = false
is_ue_or_node_b (Ue run) = true
is_ue_or_node_b (NodeB run) = true

abbrev pub is_node_b : Held → Bool
is_node_b (Decoder most) = false
is_node_b (Channels trchs) = false
is_node_b (Rnc run) = false
is_node_b (Ue run) = false
is_node_b (NodeB run) = true

abbrev pub is_node : Held → Bool
is_node (Decoder most) = false
is_node (Channels trchs) = false
is_node (Rnc run) = true
is_node (Ue run) = true
is_node (NodeB run) = true
