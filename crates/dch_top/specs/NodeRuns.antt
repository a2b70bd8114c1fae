-- What a run of a command with one node does.
use Rattle.std.specs.Prelude.{◌≡◌, ◌≢◌, ◌*◌, ℕ, List, Bool, Option, option_map}
use Rattle.dch_io.specs.Ends.{End}
use Rattle.dch_accept.specs.Plans.{Planned}
use Rattle.dch_check.specs.declared.both.Configurations.{Configurations}
use Rattle.dch_check.specs.declared.both.Second.{Second}
use Rattle.dch_lines.specs.Semantics.{Semantics}
use Rattle.dch_node.specs.Values.{Output}
use Rattle.dch_nodecmd.specs.NodeRules.{NodeRules}
use Rattle.dch_nodecmd.specs.Rules.{node_lines}
use Rattle.dch_nodecmd.specs.Run.{Run, opened_run}
use Rattle.dch_nodecmd.specs.RunLines.{AreRunLines}
use Rattle.dch_lines.specs.Coming.{coming}
use Rattle.dch_nodecmd.specs.Handlers.{RepresentsHistory}
use Rattle.dch_lines.specs.declared.later.Later.{Later}
use Rattle.dch_top.specs.Benches.{Nodes, no_nodes}
use Rattle.dch_check.specs.Configured.{RunsConfigured}
use Rattle.dch_check.specs.declared.status.Status.{Status}
use Rattle.dch_check.specs.declared.status.Status.TheVariants.{Ok as Well}
use Rattle.dch_check.specs.declared.front.FrontKind.{FrontKind}
use Rattle.dch_check.specs.declared.front.FrontKind.TheVariants.{Both}

-- the second configuration of an input, which is still to come in a run
abbrev pub later_of : Option Second → Option Later
later_of second = option_map (λ (s : Second). record { frame = s.frame; accepted = s.accepted }) second

-- the run of a node before the first line
abbrev pub run_of : {S E : Type 0} → NodeRules S E → ℕ → Bool → Configurations → Run S E
run_of rules start quiet accepted = opened_run rules accepted.first (later_of accepted.second) (8 * start) quiet

-- a node stands for just the events of a run
abbrev pub HasRunHistory : {S E V : Type 0} → NodeRules S E → (Planned → S → V → Type 0) → (Output → V → Type 0) → V
    → Run S E → Type 0
HasRunHistory rules Represents Shows node run = RepresentsHistory rules Represents Shows run.began
    (rules.planned run.node) run.first run.events run.lines node

-- the bench holds just one node, by itself, which stands for just the events of a run
abbrev pub HoldsNode : {S E V : Type 0} → NodeRules S E → (Planned → S → V → Type 0) → (Output → V → Type 0)
    → (V → Nodes) → Nodes → Run S E → Type 0
HoldsNode {V = V} rules Represents Shows alone nodes run = (node : V) × ((nodes ≡ alone node)
    × HasRunHistory rules Represents Shows node run)

-- what the bench holds after a run that went well, in this state
abbrev pub IfWell : {S : Type 0} → (Nodes → S → Type 0) → Nodes → Status → S → Type 0
IfWell Holds nodes Well run = Holds nodes run
IfWell Holds nodes status run = Unit {0}

-- a handler that was opened for configurations stands for the state in which its command is opened
abbrev pub OpensAs : {S C : Type 0} → (S → C → Type 0) → (Configurations → C → Type 0) → (Configurations → S) → Type 0
OpensAs {S} {C} represents opens opened = (accepted : Configurations) (handler : C) → opens accepted handler
    → represents (opened accepted) handler

-- the bench holds what a handler handed over that stood for a state
abbrev pub HeldBy : {S C : Type 0} → (S → C → Type 0) → (C → Nodes → Type 0) → Nodes → S → Type 0
HeldBy {S} {C} represents hands nodes state = (handler : C) × (represents state handler × hands handler nodes)

-- a run of a command with nodes: the text that is written, the status, and what the bench holds
pub record RunsWith {S : Type 0} (kind : FrontKind) (semantics : Semantics S) (opened : Configurations → S)
    (Holds : Nodes → S → Type 0) (source sink : End) (nodes : Nodes) (status : Status) : Type 0 where
  pub runs : RunsConfigured kind semantics opened (IfWell Holds nodes status) source sink status
  pub idle : status ≢ Well → nodes ≡ no_nodes

-- a run of a command with one node: what it took and wrote, its status, and what the bench holds
abbrev pub RunsNode : {S E : Type 0} → NodeRules S E → (Nodes → Run S E → Type 0) → ℕ → Bool → End → End → Nodes
    → Status → Type 0
RunsNode rules Holds start quiet source sink nodes status = RunsWith Both (node_lines rules)
    (run_of rules start quiet) Holds source sink nodes status

-- the lines are good ones of a node that was opened for configurations, none of which is refused where those before it
-- lead
abbrev pub AreNodeLines : {S E : Type 0} → NodeRules S E → Configurations → List (List ℕ) → Type 0
AreNodeLines rules accepted lines = AreRunLines rules accepted.first.config (coming (later_of accepted.second)) 0 lines
