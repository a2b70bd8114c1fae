-- A run of a command with one node, and its lines without one that leaves no trace.
use Rattle.std.proofs.Common.{◌≡◌, ◌∙◌, ◌++◌, ℕ, List, [], ◌∷◌, Bool, ap, sym, subst, append_assoc, ⊎_elim}
use Rattle.std.specs.Prelude.{codes}
use Rattle.dch_io.specs.Ends.{End}
use Rattle.dch_check.specs.declared.both.Configurations.{Configurations}
use Rattle.dch_script.specs.Lines.{lines_of, rest_of}
use Rattle.dch_lines.specs.LineTexts.{HandlesLines, closing}
use Rattle.dch_lines.specs.declared.stop.Outcome.TheVariants.{Ok as Done}
use Rattle.dch_node.specs.Lines.{Line}
use Rattle.dch_script.specs.LineText.{text_of}
use Rattle.dch_nodecmd.specs.NodeRules.{NodeRules}
use Rattle.dch_nodecmd.specs.NoTrace.{LeavesNoTrace as LinesLeaveNone}
use Rattle.dch_nodecmd.specs.Rules.{node_lines}
use Rattle.dch_nodecmd.specs.Run.{Run, frames_in}
use Rattle.dch_lines.specs.Shown.{shown}
use Rattle.dch_top.specs.Benches.{Nodes}
use Rattle.dch_check.specs.Configured.{EndsLate, FollowsScript, ArePlannedAs}
use Rattle.dch_top.specs.NodeRuns.{RunsNode, run_of}
use Rattle.dch_check.specs.declared.status.Status.TheVariants.{Ok as Well}
use Rattle.dch_check.specs.declared.front.FrontKind.TheVariants.{Both}
use Rattle.dch_check.proofs.Outcomes.{only_well}
use Rattle.dch_top.specs.Traces.{Answers, HasLine, IsAnswer, LeavesNoTrace}

-- a run that went well wrote the answer to what it took
pub answered : {S E : Type 0} (rules : NodeRules S E) (Holds : Nodes → Run S E → Type 0) (start : ℕ) (quiet : Bool) (source sink : End) (nodes : Nodes) → RunsNode rules Holds start quiet source sink nodes Well → Answers rules start quiet source sink
answered {S} {E} rules Holds start quiet source sink nodes runs = ⊎_elim (λ early. absurd early) (λ late. well late.0 late.1.0) runs.runs.answers
  where
    opened : Configurations → Run S E
    opened accepted = run_of rules start quiet accepted

    well : (after : Run S E) → EndsLate Both (node_lines rules) opened source sink runs.runs.taken runs.runs.written after Well → Answers rules start quiet source sink
    well after late =
        let done : late.outcome ≡ Done = only_well late.outcome late.same in
        let follows : FollowsScript Both (node_lines rules) opened source sink runs.runs.taken runs.runs.written after Done = subst (FollowsScript Both (node_lines rules) opened source sink runs.runs.taken runs.runs.written after) done late.follows in
        record {
          taken = runs.runs.taken;
          written = runs.runs.written;
          takes = runs.runs.takes;
          writes = runs.runs.writes;
          answer = record {
            accepted = follows.accepted;
            is = follows.is;
            ended = subst (λ (bytes : List ℕ). rest_of bytes ≡ []) (sym follows.script) follows.answers.ended;
            new = after;
            text = follows.answers.text;
            handles = subst (λ (bytes : List ℕ). HandlesLines (node_lines rules) (opened follows.accepted) (lines_of bytes) after follows.answers.text) (sym follows.script) follows.answers.handles;
            all = follows.answers.all;
          };
        }

-- lines that leave no trace leave none in the answer
pub traceless : {S E : Type 0} (rules : NodeRules S E) (start : ℕ) (quiet : Bool) (input shorter written : List ℕ) (before after : List (List ℕ)) (line : List ℕ) (lines : List Line) (answer : IsAnswer rules start quiet input written)
    → HasLine before line after input shorter
    → (HandlesLines (node_lines rules) (run_of rules start quiet answer.accepted) (before ++ line ∷ after) answer.new answer.text
    → LinesLeaveNone rules (run_of rules start quiet answer.accepted) answer.new before after lines answer.text)
    → LeavesNoTrace rules start quiet shorter lines written
traceless {S} {E} rules start quiet input shorter written before after line lines answer has leaves =
    let run : Run S E = run_of rules start quiet answer.accepted in
    let none = leaves (subst (λ (l : List (List ℕ)). HandlesLines (node_lines rules) run l answer.new answer.text) has.lines answer.handles) in
    let own : List ℕ = shown quiet (text_of lines) in
    let last : List ℕ = closing (frames_in rules answer.new.events) in
    let whole : answer.text ≡ none.front ++ own ++ none.back = none.whole in
    let front : List ℕ = codes "open\n" ++ none.front in
    let back : List ℕ = none.back ++ last in
    record {
      front = front;
      back = back;
      whole = answer.all ∙ ap (λ (l : List ℕ). codes "open\n" ++ l ++ last) whole ∙ joined (codes "open\n") none.front own none.back last;
      without = record {
        accepted = answer.accepted;
        is = subst (λ (text : List ℕ). ArePlannedAs Both text answer.accepted) (sym has.same) answer.is;
        ended = has.ended;
        new = none.other;
        text = none.front ++ none.back;
        handles = subst (λ (l : List (List ℕ)). HandlesLines (node_lines rules) run l none.other (none.front ++ none.back)) (sym has.others) none.without;
        all = parted (codes "open\n") none.front none.back last ∙ ap (λ n. codes "open\n" ++ (none.front ++ none.back) ++ closing n) (sym none.same.frames);
      };
    }
  where
    joined : (a b c d e : List ℕ) → a ++ (b ++ c ++ d) ++ e ≡ (a ++ b) ++ c ++ (d ++ e)
    joined a b c d e =
        ap (λ (l : List ℕ). l ++ e) (sym (append_assoc a (b ++ c) d)) ∙ append_assoc (a ++ (b ++ c)) d e ∙ ap (λ (l : List ℕ). l ++ (d ++ e)) (sym (append_assoc a b c))

    parted : (a b d e : List ℕ) → (a ++ b) ++ (d ++ e) ≡ a ++ (b ++ d) ++ e
    parted a b d e = sym (append_assoc (a ++ b) d e) ∙ ap (λ (l : List ℕ). l ++ e) (append_assoc a b d)
