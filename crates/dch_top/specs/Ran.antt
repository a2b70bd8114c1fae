-- What a run answers, by the bytes that it took and wrote.
use Rattle.std.specs.Prelude.{◌≡◌, ℕ, List, [], map, String, codes, string_bytes}
use Rattle.std.specs.declared.alloc.Global.{Global}
use Rattle.std.specs.Io.KnownBytes.{Appends}
use Rattle.dch_io.specs.Ends.{End, Fails, IsCutShort}
use Rattle.dch_check.specs.declared.both.Configurations.{Configurations}
use Rattle.dch_nodecmd.specs.NodeBRules.{node_b_rules}
use Rattle.dch_nodecmd.specs.RncRules.{rnc_rules}
use Rattle.dch_nodecmd.specs.UeRules.{ue_rules}
use Rattle.dch_top.specs.Parses.{IsCommand, Parses}
use Rattle.dch_top.specs.declared.arguments.Subcommand.{Subcommand}
use Rattle.dch_top.specs.declared.arguments.Subcommand.TheVariants.{Check, Encode, NodeB, Rnc, Ue, Link, Soft, Gen, Pair}
use Rattle.dch_top.specs.declared.arguments.Arguments.{Arguments}
use Rattle.dch_top.specs.Benches.{Nodes, no_nodes}
use Rattle.dch_top.specs.Checked.{Checks}
use Rattle.dch_top.specs.Encoded.{Encodes}
use Rattle.dch_top.specs.GenRuns.{RunsGen}
use Rattle.dch_top.specs.LinkRuns.{AreLinkLines, RunsLink}
use Rattle.dch_top.specs.NodeRuns.{AreNodeLines}
use Rattle.dch_top.specs.OneNode.{RunsNodeB, RunsRnc, RunsUe}
use Rattle.dch_top.specs.PairRuns.{RunsPair}
use Rattle.dch_top.specs.SoftRuns.{AreSoftLines, RunsSoft}
use Rattle.dch_check.specs.declared.status.Status.{Status}
use Rattle.dch_check.specs.declared.status.Status.TheVariants.{Usage, WriteFault, NoMemory}
use Rattle.dch_check.specs.declared.front.FrontKind.{FrontKind}
use Rattle.dch_check.specs.declared.front.FrontKind.TheVariants.{Single, Both}

-- the usage line
abbrev pub usage : List ℕ
usage = codes "usage: dch COMMAND [COUNT] [--start N] [--quiet]\n"

-- what is written where the words are no command: nothing before they are read, then the usage line
abbrev pub RefusesWords : End → List ℕ → Status → Type 0
RefusesWords sink written Usage = written ≡ usage
RefusesWords sink written WriteFault = Fails sink × IsCutShort written usage
RefusesWords sink written NoMemory = written ≡ []
RefusesWords sink written _ = ⊥

-- the source gave nothing, and the sink took the usage line
pub record Misuses (source sink : End) (status : Status) : Type 0 where
  pub written : List ℕ
  pub writes : Appends sink.before sink.now written
  pub answers : RefusesWords sink written status
  pub unread : source.now ≡ source.before

-- the words are a command, and say this
abbrev pub Says : List (String Global) → Arguments → Type 0
Says words arguments = Parses (map string_bytes words) arguments

-- the words are a command, and ask for this
abbrev pub Asks : List (String Global) → Subcommand → Type 0
Asks words subcommand = (arguments : Arguments) × (Says words arguments × (arguments.subcommand ≡ subcommand))

-- the words of a command line are no command
abbrev pub IsNoCommand : List (String Global) → Type 0
IsNoCommand words = ¬ IsCommand (map string_bytes words)

-- what a run of a command does, and what the bench holds then
abbrev pub Runs : Subcommand → Arguments → End → End → Nodes → Status → Type 0
Runs Check arguments source sink bench status = Checks source sink status × (bench ≡ no_nodes)
Runs Encode arguments source sink bench status = Encodes source sink status × (bench ≡ no_nodes)
Runs NodeB arguments source sink bench status = RunsNodeB arguments.start arguments.quiet source sink bench status
Runs Rnc arguments source sink bench status = RunsRnc arguments.start arguments.quiet source sink bench status
Runs Ue arguments source sink bench status = RunsUe arguments.start arguments.quiet source sink bench status
Runs Link arguments source sink bench status = RunsLink arguments.start arguments.quiet source sink bench status
Runs Soft arguments source sink bench status = RunsSoft arguments.count arguments.start arguments.quiet source sink
    bench status
Runs Gen arguments source sink bench status = RunsGen arguments.start arguments.count source sink bench status
Runs Pair arguments source sink bench status = RunsPair source sink status × (bench ≡ no_nodes)

-- what a run of these words took, wrote and answered, and what the bench holds: the main theorem
pub record Ran (words : List (String Global)) (source sink : End) (bench : Nodes) (status : Status) : Type 0 where
  pub runs : (arguments : Arguments) → Says words arguments
      → Runs arguments.subcommand arguments source sink bench status
  pub misuses : IsNoCommand words → Misuses source sink status × (bench ≡ no_nodes)

-- what stands in front of the lines of a command
abbrev pub front_kind : Subcommand → FrontKind
front_kind Soft = Single
front_kind _ = Both

-- each of the lines is empty or says something to the nodes of a command, where those before it lead
abbrev pub AreEventsFor : Subcommand → Arguments → Configurations → List (List ℕ) → Type 0
AreEventsFor NodeB arguments accepted lines = AreNodeLines node_b_rules accepted lines
AreEventsFor Rnc arguments accepted lines = AreNodeLines rnc_rules accepted lines
AreEventsFor Ue arguments accepted lines = AreNodeLines ue_rules accepted lines
AreEventsFor Link arguments accepted lines = AreLinkLines accepted lines
AreEventsFor Soft arguments accepted lines = AreSoftLines arguments.count accepted.first.config lines
AreEventsFor _ arguments accepted lines = ⊥
