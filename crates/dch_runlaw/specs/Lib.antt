pub mod Frames
pub mod Runs
pub mod Parts
pub mod Sized
pub mod SizedEnds
pub mod SizedLinks
pub mod Nodes
pub mod NodesCalls
pub mod EndEvents
pub mod HonestFits
pub mod HonestSilent
pub mod HonestBearers
pub mod Clear
pub mod ClearSound
pub mod Intervals
pub mod Scripts
pub mod Plain
pub mod TextDiffering
pub mod TextTold
pub mod HeadlineHandedUp
pub mod HeadlineReceived
pub mod Headline
pub mod UndamagedHandedUp
pub mod Undamaged
pub mod SoftRuns
pub mod SoftEndEvents
pub mod Ttis
pub mod Legs
pub mod Told
pub mod SoftScripts
pub use Rattle.dch_linkcmd.specs.Rules as LinkcmdRules
pub use Rattle.dch_linkcmd.specs.Run as LinkcmdRun
pub use Rattle.dch_linkcmd.specs.Overlong as LinkcmdOverlong
pub use Rattle.dch_linkcmd.specs.RunLines as LinkcmdRunLines
pub use Rattle.dch_linkcmd.specs.SoftLineEvents
pub use Rattle.dch_linkcmd.specs.SoftOverlong
pub use Rattle.dch_linkcmd.specs.SoftRules
pub use Rattle.dch_linkcmd.specs.SoftRun
pub use Rattle.dch_linkcmd.specs.Handlers as LinkHandlers
pub use Rattle.dch_linkcmd.specs.Stepping as LinkcmdStepping
pub mod Lines
pub mod Doings
pub mod Worlds
pub mod History
pub mod Calls
pub mod Ended
pub mod UmHistory
pub mod TmHistory
pub mod Directions
pub mod Rows
pub mod SentRead
pub use Rattle.dch_lines.specs.Filtering
pub use Rattle.dch_lines.specs.Led
pub use Rattle.dch_layer2.specs.Bearings
pub use Rattle.dch_layer2.specs.UnitLines
pub use Rattle.dch_amlaw.specs.Pair as AmlawPair
