-- An Iub frame that is refused changes nothing.
use Rattle.std.proofs.Common.{◌≡◌, ◌∙◌, ◌++◌, ℕ, List, [], ◌∷◌, refl, ap, inl, inr}
use Rattle.dch_types.specs.declared.channel.Dir.TheVariants.{Down}
use Rattle.dch_iub.specs.Answers.{IsCause}
use Rattle.dch_iub.specs.declared.error.IubError.{IubError}
use Rattle.dch_iub.proofs.Refused.{no_form}
use Rattle.dch_lines.specs.LineTexts.{HandlesLines}
use Rattle.dch_node.specs.IubFrames.{refusal_number}
use Rattle.dch_node.specs.Lines.{IubBad}
use Rattle.dch_node.specs.Values.{Output}
use Rattle.dch_node.proofs.IubFrames.{one_number}
use Rattle.dch_nodeb.specs.State.{Event, IubFrame, State}
use Rattle.dch_nodeb.specs.Steps.{IsArrival}
use Rattle.dch_lines.specs.Texts.{octets_of}
use Rattle.dch_nodecmd.specs.NodeBLasting.{node_b_lasting}
use Rattle.dch_nodecmd.specs.NodeBNoTrace.{BringsRefused, BringsRefusedAfter}
use Rattle.dch_nodecmd.specs.NodeBRules.{node_b_lines, node_b_rules}
use Rattle.dch_nodecmd.specs.NoTrace.{ChangesNothing, LeavesNoTrace}
use Rattle.dch_nodecmd.specs.Run.{Run}
use Rattle.dch_nodecmd.proofs.NoTrace.{no_trace as leaves_none}

arrival_refused : (old new : State) (set : ℕ) (octets : List ℕ) (error : IubError) (output : Output) → IsCause old.planned.config Down set octets error → IsArrival old.planned old set octets new output
    → (new ≡ old) × (output.lines ≡ IubBad Down set (refusal_number error) ∷ [])
arrival_refused old new set octets error output cause (inl kept) = absurd (no_form old.planned.config Down set octets error cause kept.cfn 0 kept.held kept.read)
arrival_refused old new set octets error output cause (inr refused) = (
  refused.state,
  ap (λ (o : Output). o.lines) refused.reported
      ∙ ap (λ n. IubBad Down set n ∷ []) (one_number Down old.planned.config.downlink.side old.planned.config.payload_check set octets error refused.error cause refused.cause),
)

refused_nothing : (run : Run State Event) (line : List ℕ) (set : ℕ) (error : IubError) → BringsRefused run line set error → ChangesNothing node_b_rules run.node.planned line (IubBad Down set (refusal_number error) ∷ [])
refused_nothing run line set error brings = record {
  words = brings.words;
  event = IubFrame set (octets_of brings.hex);
  says = record { parsed = _; says = brings.says; is = refl };
  uncounted = refl;
  answered = λ old new output same step.
      arrival_refused old new set (octets_of brings.hex) error output (rw same brings.cause) step;
}

pub no_trace : (run new : Run State Event) (before after : List (List ℕ)) (line text : List ℕ) (set : ℕ) (error : IubError) → BringsRefusedAfter run before line set error → HandlesLines node_b_lines run (before ++ line ∷ after) new text
    → LeavesNoTrace node_b_rules run new before after (IubBad Down set (refusal_number error) ∷ []) text
no_trace run new before after line text set error brings handles =
    leaves_none node_b_rules run new before after line text (IubBad Down set (refusal_number error) ∷ []) node_b_lasting (λ mid more handled. refused_nothing mid line set error (brings mid more handled)) handles
