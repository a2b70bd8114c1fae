-- An Iub frame that is answered as refused is refused wherever the lines before it lead.
use Rattle.std.proofs.Common.{◌≡◌, ◌∙◌, ℕ, List, [], ◌∷◌, refl, sym, ap, subst, ⊎_elim}
use Rattle.std.specs.Prelude.{Ok}
use Rattle.dch_types.specs.declared.channel.Dir.{Dir}
use Rattle.dch_types.specs.declared.channel.Dir.TheVariants.{Down, Up}
use Rattle.dch_accept.specs.Plans.{Planned}
use Rattle.dch_script.specs.ParsedLine.{iub}
use Rattle.dch_iub.specs.Answers.{IsCause}
use Rattle.dch_iub.specs.declared.error.IubError.{IubError}
use Rattle.dch_node.specs.IubFrames.{refusal_number}
use Rattle.dch_node.specs.Lines.{IubBad, Line}
use Rattle.dch_node.specs.Values.{Output}
use Rattle.dch_nodecmd.specs.NodebState.{Event as NodeBEvent, IubFrame as IubFrameDown, State as NodeBState}
use Rattle.dch_nodecmd.specs.NodebSteps.{Steps as NodeBSteps}
use Rattle.dch_nodecmd.specs.RncState.{Event as RncEvent, IubFrame as IubFrameUp, State as RncState}
use Rattle.dch_nodecmd.specs.RncSteps.{Steps as RncSteps}
use Rattle.dch_nodecmd.specs.NodeBLasting.{node_b_lasting}
use Rattle.dch_nodecmd.specs.NodeBNoTrace.{BringsRefusedAfter as BringsDown}
use Rattle.dch_nodecmd.specs.NodeBRules.{node_b_rules}
use Rattle.dch_nodecmd.specs.RncLasting.{rnc_lasting}
use Rattle.dch_nodecmd.specs.RncNoTrace.{BringsRefusedAfter as BringsUp}
use Rattle.dch_nodecmd.specs.RncRules.{rnc_rules}
use Rattle.dch_nodecmd.proofs.RncOtherLines.{not_refused}
use Rattle.dch_nodecmd.specs.NodeRules.{meaning_for}
use Rattle.dch_nodecmd.specs.Run.{Run}
use Rattle.dch_nodecmd.proofs.Said.{one_event}
use Rattle.dch_lines.specs.Texts.{octets_of}
use Rattle.dch_top.specs.Traces.{IsAnsweredBad}
use Rattle.dch_top.proofs.Configurations.{one_planned}

none_bad : (line : Line) → ◌≡◌ {A = List Line} [] (line ∷ []) → ⊥
none_bad line e = cc

number_is : (dir : Dir) (set m n : ℕ) → ◌≡◌ {A = List Line} (IubBad dir set m ∷ []) (IubBad dir set n ∷ []) → m ≡ n
number_is dir set m n e = cc

-- at the Node B
pub node_b_refused : (run : Run NodeBState NodeBEvent) (before : List (List ℕ)) (line : List ℕ) (set number : ℕ) → IsAnsweredBad node_b_rules Down run before line set number → (error : IubError) × (BringsDown run before line set error × (refusal_number error ≡ number))
node_b_refused run before line set number a =
    let old : NodeBState = a.mid.node in
    let new : NodeBState = a.takes.takes.node in
    let output : Output = a.takes.takes.output in
    let octets : List ℕ = octets_of a.hex in
    let event : a.takes.event ≡ IubFrameDown set octets = one_event node_b_rules old.planned.config line (IubFrameDown set octets) a.takes.event (record { parsed = iub set a.hex; says = a.says; is = refl }) a.takes.says in
    let step : NodeBSteps old (IubFrameDown set octets) new output = subst (λ (e : NodeBEvent). NodeBSteps old e new output) event a.takes.takes.step in
    ⊎_elim
    (λ kept. absurd (none_bad (IubBad Down set number) (sym (ap (λ (o : Output). o.lines) kept.quiet) ∙ a.bad)))
    (λ refused. (
      refused.error,
      (
        λ other text handles.
            let same : other.node.planned ≡ old.planned = one_planned node_b_rules node_b_lasting run a.mid other before a.text text a.handles handles in
            record {
              words = a.words;
              hex = a.hex;
              says = subst (λ (p : Planned). meaning_for node_b_rules p.config line ≡ Ok (iub set a.hex)) (sym same) a.says;
              cause = subst (λ (p : Planned). IsCause p.config Down set octets refused.error) (sym same) refused.cause;
            },
        number_is Down set (refusal_number refused.error) number (sym (ap (λ (o : Output). o.lines) refused.reported) ∙ a.bad),
      ),
    ))
    step

-- and at the network controller
pub rnc_refused : (run : Run RncState RncEvent) (before : List (List ℕ)) (line : List ℕ) (set number : ℕ) → IsAnsweredBad rnc_rules Up run before line set number → (error : IubError) × (BringsUp run before line set error × (refusal_number error ≡ number))
rnc_refused run before line set number a =
    let old : RncState = a.mid.node in
    let new : RncState = a.takes.takes.node in
    let output : Output = a.takes.takes.output in
    let octets : List ℕ = octets_of a.hex in
    let event : a.takes.event ≡ IubFrameUp set octets = one_event rnc_rules old.planned.config line (IubFrameUp set octets) a.takes.event (record { parsed = iub set a.hex; says = a.says; is = refl }) a.takes.says in
    let step : RncSteps old (IubFrameUp set octets) new output = subst (λ (e : RncEvent). RncSteps old e new output) event a.takes.takes.step in
    ⊎_elim
    (λ read. absurd (not_refused old.planned old new set set number octets Up output read a.bad))
    (λ refused. (
      refused.error,
      (
        λ other text handles.
            let same : other.node.planned ≡ old.planned = one_planned rnc_rules rnc_lasting run a.mid other before a.text text a.handles handles in
            record {
              words = a.words;
              hex = a.hex;
              says = subst (λ (p : Planned). meaning_for rnc_rules p.config line ≡ Ok (iub set a.hex)) (sym same) a.says;
              cause = subst (λ (p : Planned). IsCause p.config Up set octets refused.error) (sym same) refused.cause;
            },
        number_is Up set (refusal_number refused.error) number (sym (ap (λ (o : Output). o.lines) refused.reported) ∙ a.bad),
      ),
    ))
    step
