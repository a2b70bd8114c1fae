-- An Iub frame that is refused changes nothing.
use Rattle.std.proofs.Common.{◌≡◌, ◌∙◌, ◌++◌, ℕ, List, [], ◌∷◌, refl, ap, inl, inr}
use Rattle.dch_types.specs.declared.channel.Dir.TheVariants.{Up}
use Rattle.dch_iub.specs.Answers.{IsCause}
use Rattle.dch_iub.specs.declared.error.IubError.{IubError}
use Rattle.dch_iub.proofs.Refused.{no_form}
use Rattle.dch_lines.specs.LineTexts.{HandlesLines}
use Rattle.dch_node.specs.IubFrames.{refusal_number}
use Rattle.dch_node.specs.Lines.{IubBad}
use Rattle.dch_node.specs.Values.{Output}
use Rattle.dch_node.proofs.IubFrames.{one_number}
use Rattle.dch_rnc.specs.State.{Event, IubFrame, State}
use Rattle.dch_rnc.specs.Steps.{IsArrival}
use Rattle.dch_lines.specs.Texts.{octets_of}
use Rattle.dch_nodecmd.specs.RncLasting.{rnc_lasting}
use Rattle.dch_nodecmd.specs.RncNoTrace.{BringsRefused, BringsRefusedAfter}
use Rattle.dch_nodecmd.specs.RncRules.{kept_of, rnc_lines, rnc_rules}
use Rattle.dch_nodecmd.specs.NoTrace.{ChangesNothing, LeavesNoTrace}
use Rattle.dch_nodecmd.specs.Run.{Run}
use Rattle.dch_nodecmd.proofs.NoTrace.{no_trace as leaves_none}

arrival_refused : (old new : State) (set : ℕ) (octets : List ℕ) (error : IubError) (output : Output) → IsCause old.planned.config Up set octets error → IsArrival old.planned old set octets new output
    → (kept_of new ≡ kept_of old) × (output.lines ≡ IubBad Up set (refusal_number error) ∷ [])
arrival_refused old new set octets error output cause (inl read) = absurd (no_form old.planned.config Up set octets error cause read.cfn read.qe read.held read.read)
arrival_refused old new set octets error output cause (inr refused) = (
  ap kept_of refused.state,
  ap (λ (o : Output). o.lines) refused.reported
      ∙ ap (λ n. IubBad Up set n ∷ []) (one_number Up old.planned.config.uplink.side old.planned.config.payload_check set octets error refused.error cause refused.cause),
)

refused_nothing : (run : Run State Event) (line : List ℕ) (set : ℕ) (error : IubError) → BringsRefused run line set error → ChangesNothing rnc_rules run.node.planned line (IubBad Up set (refusal_number error) ∷ [])
refused_nothing run line set error brings = record {
  words = brings.words;
  event = IubFrame set (octets_of brings.hex);
  says = record { parsed = _; says = brings.says; is = refl };
  uncounted = refl;
  answered = λ old new output same step.
      arrival_refused old new set (octets_of brings.hex) error output (rw same brings.cause) step;
}

pub no_trace : (run new : Run State Event) (before after : List (List ℕ)) (line text : List ℕ) (set : ℕ) (error : IubError) → BringsRefusedAfter run before line set error → HandlesLines rnc_lines run (before ++ line ∷ after) new text
    → LeavesNoTrace rnc_rules run new before after (IubBad Up set (refusal_number error) ∷ []) text
no_trace run new before after line text set error brings handles =
    leaves_none rnc_rules run new before after line text (IubBad Up set (refusal_number error) ∷ []) rnc_lasting (λ mid more handled. refused_nothing mid line set error (brings mid more handled)) handles
