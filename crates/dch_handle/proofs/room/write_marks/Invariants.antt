use Rattle.std.proofs.Common.{◌≡◌, length, map, take}
use Rattle.dch_handle.specs.ChannelCalls.{mark_of}
use Rattle.dch_handle.proofs.room.write_marks.Given as goal

abbrev pub invariant-loop-i : goal.invariant-loop-i
invariant-loop-i l = (take l.i l.marks ≡ map mark_of (take l.i l.held.good)) × (length l.marks ≡ length l.fn.marks)
