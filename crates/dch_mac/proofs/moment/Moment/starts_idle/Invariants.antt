use Rattle.std.proofs.Common.{◌≡◌, ◌<◌, ℕ, true}
use Rattle.dch_types.specs.Limits.{idle_format}
use Rattle.dch_types.specs.Parts.{channel_at, format_number}
use Rattle.dch_mac.specs.Asked.{starts}
use Rattle.dch_mac.proofs.moment.Moment.starts_idle.Given as goal

abbrev pub invariant-loop-i : goal.invariant-loop-i
invariant-loop-i l = (i : ℕ) → i < l.i → starts l.self i ≡ true → format_number l.self.side l.combination i ≡ idle_format (channel_at l.self.side i)
