-- What a run does, by the one command that its words name.
use Rattle.std.proofs.Common.{◌≡◌, ℕ, List, [], Option, map, string_bytes, String, refl, subst, inr, arith}
use Rattle.std.proofs.KnownBytes.{Appends-nil, Consumes-nil}
use Rattle.std.specs.declared.alloc.Global.{Global}
use Rattle.dch_io.specs.Ends.{End, span}
use Rattle.dch_check.specs.TakenConfigs.{LacksEarly}
use Rattle.dch_top.specs.declared.arguments.Subcommand.{Subcommand}
use Rattle.dch_top.specs.declared.arguments.Subcommand.TheVariants.{Check, Encode, NodeB, Rnc, Ue, Link, Soft, Gen, Pair}
use Rattle.dch_top.specs.declared.arguments.Arguments.{Arguments}
use Rattle.dch_top.proofs.Meanings.{one_meaning}
use Rattle.dch_top.proofs.NodeRuns.{runs_nothing}
use Rattle.dch_top.specs.Benches.{Nodes, no_nodes}
use Rattle.dch_top.specs.Ran.{Asks, Ran, Runs, Says}
use Rattle.dch_check.specs.declared.status.Status.{Status}
use Rattle.dch_check.specs.declared.status.Status.TheVariants.{NoMemory}

-- the words name a command
pub ran_command : (words : List (String Global)) (arguments : Arguments) (source sink : End) (nodes : Nodes) (status : Status) → Says words arguments → Runs arguments.subcommand arguments source sink nodes status → Ran words source sink nodes status
ran_command words arguments source sink nodes status says runs = record {
  runs = λ other says_other. subst (λ (a : Arguments). Runs a.subcommand a source sink nodes status) (one_meaning (map string_bytes words) arguments other says says_other) runs;
  misuses = λ none. absurd (none (arguments, says));
}

-- what a run did whose words ask for a command
pub runs_as : (words : List (String Global)) (source sink : End) (nodes : Nodes) (status : Status) (subcommand : Subcommand) → Ran words source sink nodes status → (asks : Asks words subcommand) → Runs subcommand asks.0 source sink nodes status
runs_as words source sink nodes status subcommand ran asks = subst (λ (s : Subcommand). Runs s asks.0 source sink nodes status) asks.1.1 (ran.runs asks.0 asks.1.0)

-- there was no memory to read the words
pub ran_nothing : (words : List (String Global)) (a k : Option (List ℕ)) (f h : ℕ) (nodes : Nodes) → nodes ≡ no_nodes → Ran words (span a a f f) (span k k h h) nodes NoMemory
ran_nothing words a k f h nodes none = record {
  runs = λ arguments says. nothing arguments.subcommand arguments;
  misuses = λ not. (record { written = []; writes = Appends-nil k; answers = refl; unread = refl }, none);
}
  where
    lacks : LacksEarly []
    lacks = record { within = omega arith; soon = record { old = []; piece = []; pieces = refl; small = omega arith; incomplete = refl } }

    nothing : (subcommand : Subcommand) (arguments : Arguments) → Runs subcommand arguments (span a a f f) (span k k h h) nodes NoMemory
    nothing Check arguments = (record { taken = []; written = []; takes = Consumes-nil a; writes = Appends-nil k; answers = (lacks, refl) }, none)
    nothing Encode arguments = ((Consumes-nil a, Appends-nil k), none)
    nothing NodeB arguments = runs_nothing _ _ _ _ a k f h nodes none
    nothing Rnc arguments = runs_nothing _ _ _ _ a k f h nodes none
    nothing Ue arguments = runs_nothing _ _ _ _ a k f h nodes none
    nothing Link arguments = runs_nothing _ _ _ _ a k f h nodes none
    nothing Soft arguments = runs_nothing _ _ _ _ a k f h nodes none
    nothing Gen arguments = record { ends = (Appends-nil k, none); unread = refl }
    nothing Pair arguments = (inr (refl, (Consumes-nil a, Appends-nil k)), none)
