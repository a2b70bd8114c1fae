-- What a run of `gen` gives, by what became of its summary.
use Rattle.std.proofs.Common.{◌≡◌, ◌*◌, ◌++◌, ◌∙◌, ℕ, List, [], ap, subst}
use Rattle.std.specs.Io.KnownBytes.{Appends}
use Rattle.dch_io.specs.Ends.{End, Breaks}
use Rattle.dch_script.specs.Held.{Held}
use Rattle.dch_link.specs.NodebValues.{Node as NodeB}
use Rattle.dch_link.specs.RncValues.{Node as Rnc}
use Rattle.dch_link.specs.UeValues.{Node as Ue}
use Rattle.dch_link.specs.LinkNodes.{HaveHistories}
use Rattle.dch_gen.specs.Summary.{summary}
use Rattle.dch_gen.specs.Generators.{HasPassed, Parts}
use Rattle.dch_gen.specs.GenRuns.{CutsSummary, GenRun, IsConfigured, WritesSummary}

-- a generator that has passed all radio frames is a run
abbrev run_of : (start frames : ℕ) (parts : Parts) → IsConfigured parts.accepted → HasPassed (8 * start) frames frames parts → GenRun start frames
run_of start frames parts is passed = record { accepted = parts.accepted; is = is; link = passed.link; lines = passed.lines; runs = passed.passed }

-- its summary was written
pub written : (start frames : ℕ) (sink : End) (parts : Parts) (text : List ℕ) (ue : Ue) (node_b : NodeB) (rnc : Rnc) → IsConfigured parts.accepted → (passed : HasPassed (8 * start) frames frames parts) → text ≡ summary frames passed.lines
    → Appends sink.before sink.now text → HaveHistories parts.accepted parts.accepted (8 * start) passed.link ue node_b rnc → WritesSummary start frames sink ue node_b rnc
written start frames sink parts text ue node_b rnc is passed same writes histories = record {
  run = run_of start frames parts is passed;
  writes = subst (λ (t : List ℕ). Appends sink.before sink.now t) same writes;
  histories = histories;
}

-- or a front of it
pub cut : (start frames : ℕ) (sink : End) (parts : Parts) (text : List ℕ) → IsConfigured parts.accepted → (passed : HasPassed (8 * start) frames frames parts) → text ≡ summary frames passed.lines
    → Breaks sink text → CutsSummary start frames sink
cut start frames sink parts text is passed same breaks = record {
  run = run_of start frames parts is passed;
  breaks = subst (λ (t : List ℕ). Breaks sink t) same breaks;
}

-- a report that was empty holds just what was put into it
pub put_alone : (opened reported : Held) (bytes sum : List ℕ) (most : ℕ) → bytes ≡ reported.text → reported ≡ record opened { text = opened.text ++ sum } → opened ≡ record { text = []; most = most } → bytes ≡ sum
put_alone opened reported bytes sum most read put empty = read ∙ ap (λ (h : Held). h.text) put ∙ ap (λ (h : Held). h.text ++ sum) empty
