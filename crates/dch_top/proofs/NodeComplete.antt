-- A run of a command with nodes without faults on accepted configurations and good lines ends well.
use Rattle.std.proofs.Common.{◌≡◌, ◌≢◌, ◌⊎◌, ◌≤◌, ◌*◌, ◌++◌, ℕ, List, [], ◌∷◌, Bool, Option, None, Some, length, get_or, refl, ap, sym, ◌∙◌, subst, arith, inl, inr, ⊎_elim, IfSome, append-nil, length-append}
use Rattle.std.specs.Prelude.{All, Ok, true, false}
use Rattle.std.specs.Io.KnownBytes.{Consumes, IsAtEnd}
use Rattle.std.proofs.lemmas.Bool.{false≢true}
use Rattle.std.proofs.Math.Seq.{get_or-append_seam}
use Rattle.dch_types.specs.declared.config.Config.{Config}
use Rattle.dch_io.specs.Causes.{Rose}
use Rattle.dch_io.specs.Ends.{End, span}
use Rattle.dch_io.specs.Pieces.{LIMIT}
use Rattle.dch_accept.specs.Plans.{Planned}
use Rattle.dch_script.specs.Lines.{lines_of, rest_of}
use Rattle.dch_script.specs.declared.event.LineError.{LineError}
use Rattle.dch_check.specs.ConfigSection.{configuration_of, nothing, script_of}
use Rattle.dch_check.specs.declared.both.Configurations.{Configurations}
use Rattle.dch_check.proofs.Taking.{behind_at_end, script_more}
use Rattle.dch_lines.specs.declared.stop.LineFault.TheVariants.{Malformed}
use Rattle.dch_lines.specs.declared.stop.Outcome.{Outcome}
use Rattle.dch_lines.specs.declared.stop.Outcome.TheVariants.{Ok as Done, Refused as MetMalformed, ReadFault as FailedReading, WriteFault as FailedWriting, NoMemory as Lacking, TooLong as TookTooMuch}
use Rattle.dch_lines.specs.LineTexts.{HandlesLines, IsFaulty, is_empty}
use Rattle.dch_lines.specs.Semantics.{RefusesLong, Semantics}
use Rattle.dch_lines.proofs.Complete.{all_consumed, consumed, none_refused}
use Rattle.dch_nodecmd.specs.NodeRules.{AreLasting, NodeRules}
use Rattle.dch_nodecmd.specs.Overlong.{refuses_long}
use Rattle.dch_nodecmd.specs.Rules.{config_of, node_lines}
use Rattle.dch_nodecmd.specs.Run.{Run}
use Rattle.dch_nodecmd.specs.RunLines.{AreRunLines}
use Rattle.dch_lines.specs.Coming.{coming}
use Rattle.dch_nodecmd.proofs.RunLines.{none_refused as none_in_run}
use Rattle.dch_lines.proofs.Meanings.{ok_err}
use Rattle.dch_nodecmd.specs.NodeBLasting.{node_b_lasting}
use Rattle.dch_nodecmd.specs.NodeBRules.{node_b_rules}
use Rattle.dch_nodecmd.specs.RncLasting.{rnc_lasting}
use Rattle.dch_nodecmd.specs.RncRules.{rnc_rules}
use Rattle.dch_nodecmd.specs.UeLasting.{ue_lasting}
use Rattle.dch_nodecmd.specs.UeRules.{ue_rules}
use Rattle.dch_script.specs.Soft.{soft_meaning}
use Rattle.dch_runlaw.specs.LinkcmdOverlong.{link_refuses_long}
use Rattle.dch_runlaw.specs.LinkcmdRules.{link_lines}
use Rattle.dch_runlaw.specs.LinkcmdRun.{Run as LinkRun}
use Rattle.dch_runlaw.specs.LinkcmdRunLines.{AreRunLines as AreLinkRunLines}
use Rattle.dch_runlaw.proofs.LinkcmdRunLines.{none_in_run as none_in_link, opened_between}
use Rattle.dch_runlaw.specs.SoftLineEvents.{Said as SoftSaid, Says as SoftSays}
use Rattle.dch_runlaw.specs.SoftOverlong.{soft_refuses_long}
use Rattle.dch_runlaw.specs.SoftRules.{soft_lines}
use Rattle.dch_runlaw.specs.SoftRun.{Run as SoftRun, config_of as soft_config, opened_run as opened_soft}
use Rattle.dch_top.specs.declared.arguments.Subcommand.{Subcommand}
use Rattle.dch_top.specs.declared.arguments.Subcommand.TheVariants.{Check, Encode, NodeB, Rnc, Ue, Link, Soft, Gen, Pair}
use Rattle.dch_top.specs.declared.arguments.Arguments.{Arguments}
use Rattle.dch_top.specs.Benches.{Nodes}
use Rattle.dch_check.specs.Configured.{EndsEarly, EndsLate, FollowsScript, HasEnded, RunsConfigured, outcome_status}
use Rattle.dch_check.specs.Fronts.{AdmitsFront, RefusesFront}
use Rattle.dch_top.specs.LinkRuns.{AreLinkLines, run_of as link_run_of}
use Rattle.dch_top.specs.NodeRuns.{AreNodeLines, later_of, run_of}
use Rattle.dch_top.specs.Ran.{AreEventsFor, Runs, front_kind}
use Rattle.dch_top.specs.SoftRuns.{AreSoftLines}
use Rattle.dch_check.specs.declared.status.Status.{Status}
use Rattle.dch_check.specs.declared.status.Status.TheVariants.{Ok as Well, Refused, Usage, ReadFault, WriteFault, NoMemory, TooLong}
use Rattle.dch_check.specs.declared.front.FrontKind.{FrontKind}
use Rattle.dch_check.specs.declared.front.FrontKind.TheVariants.{Single, Both}
use Rattle.dch_top.proofs.Checks.{same_configuration}
use Rattle.dch_top.proofs.Fronts.{AreAlike, one_front, same_front}
use Rattle.dch_top.proofs.SoftStays.{soft_lines_stay}

-- the script of a whole input goes on with what was not taken
script_whole : (source : End) (input taken more : List ℕ) → input ≡ taken ++ more → (IsAtEnd source.now → input ≡ taken) → HasEnded source taken → (rest : List ℕ) × ((script_of input ≡ script_of taken ++ rest) × (IsAtEnd source.now → script_of input ≡ script_of taken))
script_whole source input taken more cut all ended = ⊎_elim
    (λ done. (more, (ap script_of cut ∙ script_more taken more done, λ end. ap script_of (all end))))
    (λ end. ([], (ap script_of (all end) ∙ sym (append-nil (script_of taken)), λ at. ap script_of (all at)))) ended

-- a command whose lines stand behind configurations: what may stand there, its rules, the state in which it is opened, and what good lines
-- of it are under configurations; none of these is refused where those before it lead
pub record Scripted (S : Type 0) : Type 1 where
  pub kind : FrontKind
  pub semantics : Semantics S
  pub opened : Configurations → S
  pub good : Configurations → List (List ℕ) → Type 0
  pub alike : (one other : Configurations) (lines : List (List ℕ)) → AreAlike one other → good other lines → good one lines
  pub long : RefusesLong semantics
  pub takes : (accepted : Configurations) (before later : List (List ℕ)) (line : List ℕ) (state : S) (text : List ℕ) (why : LineError) → good accepted (before ++ (line ∷ later)) → HandlesLines semantics (opened accepted) before state text
      → IsFaulty semantics state line (Malformed why) → ⊥

-- the lines of the script are not refused
not_refused : {S : Type 0} (command : Scripted S) (input : List ℕ) (now : Option (List ℕ)) (f g : ℕ) (accepted : Configurations) (taken written : List ℕ) (after : S) (sink : End) → Consumes (Some input) now taken → AdmitsFront command.kind (configuration_of input) accepted
    → command.good accepted (lines_of (script_of input)) → rest_of (script_of input) ≡ [] → FollowsScript command.kind command.semantics command.opened (span (Some input) now f g) sink taken written after MetMalformed → ⊥
not_refused command input now f g accepted taken written after sink takes admits lines_good rest follows =
    let source : End = span (Some input) now f g in
    let more = consumed input taken now takes in
    let all = all_consumed input taken now takes in
    let script = script_whole source input taken more.0 more.1 all follows.ended in
    let lines = follows.answers in
    let alike : AreAlike follows.accepted accepted = same_front command.kind (configuration_of taken) (configuration_of input) follows.accepted accepted (same_configuration source input taken more.0 more.1 all follows.ended) follows.is.judged admits in
    let here : command.good follows.accepted (lines_of (script_of input)) = command.alike follows.accepted accepted (lines_of (script_of input)) alike lines_good in
    none_refused command.semantics source lines.state [] (script_of input) (follows.part ++ follows.later) script.0 lines.good lines.why command.long (script.1.0 ∙ ap (λ s. s ++ script.0) follows.script) (λ end. script.1.1 end ∙ follows.script) rest
    (λ later line reason same faulty. command.takes follows.accepted lines.good later line lines.state lines.text reason (subst (λ (l : List (List ℕ)). command.good follows.accepted l) same here) lines.handles faulty) lines.refused

-- the lines of a script end within the limit
script_within : (taken : List ℕ) → length (script_of taken) ≤ length taken
script_within taken = (behind_at_end nothing taken).0

pub script_completes : {S : Type 0} (command : Scripted S) (before now k l : Option (List ℕ)) (f g h i : ℕ) (Holds : S → Type 0) (status : Status) → RunsConfigured command.kind command.semantics command.opened Holds (span before now f g) (span k l h i) status
    → IfSome before (λ input. (accepted : Configurations) → AdmitsFront command.kind (configuration_of input) accepted → command.good accepted (lines_of (script_of input)) → rest_of (script_of input) ≡ [] → length input ≤ LIMIT → ¬ Rose f g → ¬ Rose h i → (status ≡ Well) ⊎ (status ≡ NoMemory))
script_completes command None now k l f g h i Holds status run = tt
script_completes {S} command (Some input) now k l f g h i Holds status run = λ accepted good events rest size s t. ⊎_elim (early accepted good size s t status) (late accepted good events rest size s t) run.answers
  where
    few : length run.taken ≤ length input
    few = let more = consumed input run.taken now run.takes in omega (arith, ap length more.1, length-append run.taken more.0)

    early : (accepted : Configurations) → AdmitsFront command.kind (configuration_of input) accepted → length input ≤ LIMIT → ¬ Rose f g → ¬ Rose h i → (status : Status) → EndsEarly command.kind (span (Some input) now f g) (span k l h i) run.taken run.written status → (status ≡ Well) ⊎ (status ≡ NoMemory)
    early accepted good size s t Well ends = absurd ends
    early accepted good size s t Usage ends = absurd ends
    early accepted good size s t NoMemory ends = inr refl
    early accepted good size s t ReadFault ends = absurd (s ends.0.fails)
    early accepted good size s t WriteFault ends = absurd (t ends.fails)
    early accepted good size s t TooLong ends = absurd (omega (arith, ends.0.long, few))
    early accepted good size s t Refused ends =
        let more = consumed input run.taken now run.takes in
        let same = same_configuration (span (Some input) now f g) input run.taken more.0 more.1 (all_consumed input run.taken now run.takes) ends.ended in
        absurd (one_front command.kind (configuration_of input) run.written accepted good (subst (λ text. RefusesFront command.kind text run.written) same ends.refuses))

    late : (accepted : Configurations) → AdmitsFront command.kind (configuration_of input) accepted → command.good accepted (lines_of (script_of input)) → rest_of (script_of input) ≡ [] → length input ≤ LIMIT → ¬ Rose f g → ¬ Rose h i
        → (after : S) × (EndsLate command.kind command.semantics command.opened (span (Some input) now f g) (span k l h i) run.taken run.written after status × Holds after) → (status ≡ Well) ⊎ (status ≡ NoMemory)
    late accepted good events rest size s t (after, (ends, holds)) = by ends.outcome ends.follows ends.same ends.enough
      where
        by : (outcome : Outcome) → FollowsScript command.kind command.semantics command.opened (span (Some input) now f g) (span k l h i) run.taken run.written after outcome → status ≡ outcome_status outcome → outcome ≢ Lacking → (status ≡ Well) ⊎ (status ≡ NoMemory)
        by Done follows same enough = inl same
        by Lacking follows same enough = inr same
        by FailedReading follows same enough = absurd (s follows.answers.fails)
        by FailedWriting follows same enough = absurd (t follows.answers.fails)
        by TookTooMuch follows same enough = absurd (omega (arith, follows.answers.long, ap length follows.script, script_within run.taken, few, size))
        by MetMalformed follows same enough = absurd (not_refused command input now f g accepted run.taken run.written after (span k l h i) run.takes good events rest follows)

-- the good lines of a command with one node
node_takes : {S E : Type 0} (rules : NodeRules S E) → AreLasting rules → (start : ℕ) (quiet : Bool) (accepted : Configurations) (before later : List (List ℕ)) (line : List ℕ) (state : Run S E) (text : List ℕ) (why : LineError) → AreNodeLines rules accepted (before ++ (line ∷ later))
    → HandlesLines (node_lines rules) (run_of rules start quiet accepted) before state text → IsFaulty (node_lines rules) state line (Malformed why) → ⊥
node_takes {S} {E} rules lasting start quiet accepted before later line state text why good handles faulty =
    let run : Run S E = run_of rules start quiet accepted in
    let config : config_of rules run ≡ accepted.first.config = ap (λ (p : Planned). p.config) (lasting.opens accepted.first (8 * start)) in
    let here : AreRunLines rules (config_of rules run) (coming run.second) 0 (before ++ (line ∷ later)) = subst (λ (c : Config). AreRunLines rules c (coming run.second) 0 (before ++ (line ∷ later))) (sym config) good in
    none_in_run rules lasting run state before later line text why here handles faulty.words faulty.cause

node_alike : {S E : Type 0} (rules : NodeRules S E) (one other : Configurations) (lines : List (List ℕ)) → AreAlike one other → AreNodeLines rules other lines → AreNodeLines rules one lines
node_alike rules one other lines alike good =
    subst (λ (c : Config). AreRunLines rules c (coming (later_of one.second)) 0 lines) (sym alike.first) (subst (λ (s : Option (ℕ × Config)). AreRunLines rules other.first.config s 0 lines) (sym alike.second) good)

-- a command with one node
abbrev node_scripted : {S E : Type 0} (rules : NodeRules S E) → AreLasting rules → (start : ℕ) (quiet : Bool) → Scripted (Run S E)
node_scripted rules lasting start quiet = record {
  kind = Both;
  semantics = node_lines rules;
  opened = run_of rules start quiet;
  good = AreNodeLines rules;
  alike = node_alike rules;
  long = refuses_long rules;
  takes = node_takes rules lasting start quiet;
}

-- what holds of all lines that aren't empty holds of this one
good_one : (IsGood : List ℕ → Type 0) (before later : List (List ℕ)) (line : List ℕ) → All (λ line. (is_empty line ≡ true) ⊎ IsGood line) (before ++ (line ∷ later)) → is_empty line ≡ false → IsGood line
good_one IsGood before later line good words =
    let here = good (length before) [] (omega (arith, length-append before (line ∷ later))) in
    let at : get_or (before ++ (line ∷ later)) (length before) [] ≡ line = get_or-append_seam before line later [] in
    let this : (is_empty line ≡ true) ⊎ IsGood line = rw at at here in
    ⊎_elim (λ empty. absurd (false≢true (sym words ∙ empty))) (λ ok. ok) this

-- the good lines of the command `link`
link_takes : (start : ℕ) (quiet : Bool) (accepted : Configurations) (before later : List (List ℕ)) (line : List ℕ) (state : LinkRun) (text : List ℕ) (why : LineError) → AreLinkLines accepted (before ++ (line ∷ later))
    → HandlesLines link_lines (link_run_of start quiet accepted) before state text → IsFaulty link_lines state line (Malformed why) → ⊥
link_takes start quiet accepted before later line state text why good handles faulty =
    none_in_link (link_run_of start quiet accepted) state before later line text why (opened_between accepted.first (later_of accepted.second) (8 * start) quiet) good handles faulty.words faulty.cause

link_alike : (one other : Configurations) (lines : List (List ℕ)) → AreAlike one other → AreLinkLines other lines → AreLinkLines one lines
link_alike one other lines alike good =
    subst (λ (c : Config). AreLinkRunLines c (coming (later_of one.second)) 0 lines) (sym alike.first) (subst (λ (s : Option (ℕ × Config)). AreLinkRunLines other.first.config s 0 lines) (sym alike.second) good)

-- the command `link`
abbrev link_scripted : (start : ℕ) (quiet : Bool) → Scripted LinkRun
link_scripted start quiet = record {
  kind = Both;
  semantics = link_lines;
  opened = link_run_of start quiet;
  good = AreLinkLines;
  alike = link_alike;
  long = link_refuses_long;
  takes = link_takes start quiet;
}

-- the command `soft` with so many legs
abbrev soft_scripted : (legs start : ℕ) (quiet : Bool) → Scripted SoftRun
soft_scripted legs start quiet = record {
  kind = Single;
  semantics = soft_lines;
  opened = λ accepted. opened_soft accepted.first (8 * start) legs quiet;
  good = λ accepted lines. AreSoftLines legs accepted.first.config lines;
  alike = λ one other lines alike good. subst (λ (c : Config). AreSoftLines legs c lines) (sym alike.first) good;
  long = soft_refuses_long;
  takes = λ accepted before later line state text why good handles faulty.
      let says = good_one (λ (l : List ℕ). (said : SoftSaid) × SoftSays legs accepted.first.config l said) before later line good faulty.words in
      let alike = soft_lines_stay (opened_soft accepted.first (8 * start) legs quiet) state before text handles in
      let same : soft_meaning state.soft.count (soft_config state) line ≡ Ok (says.1.leg, says.1.parsed) = rw (alike.count, alike.active) says.1.is_parsed in
      ok_err (says.1.leg, says.1.parsed) _ why same faulty.cause;
}

-- the nodes of each command answer all lines
pub events_answered : (before now k l : Option (List ℕ)) (f g h i : ℕ) (subcommand : Subcommand) (arguments : Arguments) (nodes : Nodes) (status : Status) → Runs subcommand arguments (span before now f g) (span k l h i) nodes status
    → IfSome before (λ input. (accepted : Configurations) → AdmitsFront (front_kind subcommand) (configuration_of input) accepted → AreEventsFor subcommand arguments accepted (lines_of (script_of input)) → rest_of (script_of input) ≡ [] → length input ≤ LIMIT → ¬ Rose f g → ¬ Rose h i
    → (status ≡ Well) ⊎ (status ≡ NoMemory))
events_answered None now k l f g h i subcommand arguments nodes status runs = tt
events_answered (Some input) now k l f g h i Check arguments nodes status runs = λ accepted good events. absurd events
events_answered (Some input) now k l f g h i Encode arguments nodes status runs = λ accepted good events. absurd events
events_answered (Some input) now k l f g h i NodeB arguments nodes status runs = script_completes (node_scripted node_b_rules node_b_lasting arguments.start arguments.quiet) (Some input) now k l f g h i _ status runs.runs
events_answered (Some input) now k l f g h i Rnc arguments nodes status runs = script_completes (node_scripted rnc_rules rnc_lasting arguments.start arguments.quiet) (Some input) now k l f g h i _ status runs.runs
events_answered (Some input) now k l f g h i Ue arguments nodes status runs = script_completes (node_scripted ue_rules ue_lasting arguments.start arguments.quiet) (Some input) now k l f g h i _ status runs.runs
events_answered (Some input) now k l f g h i Link arguments nodes status runs = script_completes (link_scripted arguments.start arguments.quiet) (Some input) now k l f g h i _ status runs.runs
events_answered (Some input) now k l f g h i Soft arguments nodes status runs = script_completes (soft_scripted arguments.count arguments.start arguments.quiet) (Some input) now k l f g h i _ status runs.runs
events_answered (Some input) now k l f g h i Gen arguments nodes status runs = λ accepted good events. absurd events
events_answered (Some input) now k l f g h i Pair arguments nodes status runs = λ accepted good events. absurd events
