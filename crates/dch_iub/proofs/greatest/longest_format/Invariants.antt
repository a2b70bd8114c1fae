use Rattle.dch_types.specs.Parts.{channel_at}
use Rattle.dch_iub.specs.Longest.{IsGreatest}
use Rattle.dch_iub.proofs.greatest.longest_format.Given as goal

abbrev pub invariant-loop-f : goal.invariant-loop-f
invariant-loop-f l = IsGreatest l.dir (channel_at l.side l.channel) l.f l.longest
