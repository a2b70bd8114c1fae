-- In a run of three nodes each channel is given just the blocks of its format.
use Rattle.std.specs.Prelude.{List, [], ◌∷◌}
use Rattle.dch_accept.specs.Plans.{Planned}
use Rattle.dch_layer2.specs.Layers.{Layer}
use Rattle.dch_node.specs.Lines.{Line}
use Rattle.dch_linkcmd.specs.LinkLink.{LinkState}
use Rattle.dch_runlaw.specs.Runs.{Between, Event, Frame, Runs, Steps}
use Rattle.dch_runlaw.specs.Sized.{AreAllSized, AreAllWhole}

-- the blocks of the channels of both ends have the size of their format, and are as many bits
abbrev pub FrameSized : Planned → Layer → Layer → Type 0
FrameSized planned ue rnc = AreAllSized planned.config.downlink.side rnc × AreAllSized planned.config.uplink.side ue
    × AreAllWhole planned.config.uplink.side ue × AreAllWhole planned.config.downlink.side rnc

-- after the starts of TTIs of an event: both ends start them in a radio frame
abbrev pub LineSized : (planned : Planned) → (old : LinkState) → (event : Event) → (new : LinkState)
    → (lines : List Line) → Steps old event new lines → Type 0
LineSized planned old (Between event) new lines step = Unit {0}
LineSized planned old Frame new lines step = FrameSized planned new.ue.state.layer step.frame.rnc.layer

-- after each start of TTIs of a run
abbrev pub IsSized : (planned : Planned) → (events : List Event) → (old new : LinkState) → (lines : List Line)
    → Runs old events new lines → Type 0
IsSized planned [] old new lines run = Unit {0}
IsSized planned (event ∷ events) old new lines run = LineSized planned old event run.next run.own run.step
    × IsSized planned events run.next new run.rest run.later
