-- Where the text has no row that says of a channel that a block was taken as good that was not given, there is no such line.
use Rattle.std.proofs.Common.{◌<◌, ◌^◌, ℕ, List}
use Rattle.dch_types.specs.declared.channel.Dir.{Dir}
use Rattle.dch_types.specs.declared.channel.Dir.TheVariants.{Up, Down}
use Rattle.dch_node.specs.Lines.{Differs, Line}
use Rattle.dch_runlaw.specs.HonestSilent.{IsSilent, Lacks}
use Rattle.dch_runlaw.specs.TextTold.{TellsFalse}
use Rattle.dch_runlaw.specs.Headline.{IsSilentOn}

pub silent_on : (dir : Dir) (i : ℕ) (lines : List Line) (text : List ℕ) → i < 2 ^ 64 → TellsFalse lines text → IsSilentOn dir i text → Lacks lines (Differs dir i)
silent_on dir i lines text low tells none = λ has. none ((tells.told dir i low).1 has)

pub silent : (up down : ℕ) (lines : List Line) (text : List ℕ) → up < 2 ^ 64 → down < 2 ^ 64 → TellsFalse lines text → IsSilentOn Up up text → IsSilentOn Down down text → IsSilent up down lines
silent up down lines text low high tells no_up no_down = record {
  up_silent = silent_on Up up lines text low tells no_up;
  down_silent = silent_on Down down lines text high tells no_down;
}
