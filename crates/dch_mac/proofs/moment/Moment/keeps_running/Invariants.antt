use Rattle.std.proofs.Common.{◌≡◌, ◌<◌, ℕ, false}
use Rattle.dch_types.specs.Parts.{format_number}
use Rattle.dch_mac.specs.Asked.{starts}
use Rattle.dch_mac.proofs.moment.Moment.keeps_running.Given as goal

abbrev pub invariant-loop-i : goal.invariant-loop-i
invariant-loop-i l = (i : ℕ) → i < l.i → starts l.self i ≡ false → format_number l.self.side l.combination i ≡ format_number l.self.side l.self.running i
