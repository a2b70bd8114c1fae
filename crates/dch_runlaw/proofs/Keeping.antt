-- What a step of one node leaves as it was, and the step as one of that node alone.
use Rattle.std.proofs.Common.{◌≡◌, ◌∙◌, ◌++◌, ℕ, List, Option, Some, None, append-nil, ap, refl, sym, subst}
use Rattle.dch_node.specs.Lines.{Line}
use Rattle.dch_accept.specs.Plans.{Planned}
use Rattle.dch_layer2.specs.Layers.{Layer}
use Rattle.dch_types.specs.declared.channel.Dir.TheVariants.{Up}
use Rattle.dch_linkcmd.specs.UeState.{Event as UeEvent, State as UeState}
use Rattle.dch_linkcmd.specs.UeSteps.{Steps as UeSteps}
use Rattle.dch_linkcmd.specs.NodebState.{Event as NodeBEvent, IubFrame as IubFrameDown, State as NodeBState}
use Rattle.dch_linkcmd.specs.NodebSteps.{Steps as NodeBSteps}
use Rattle.dch_linkcmd.specs.RncState.{Event as RncEvent, IubFrame as IubFrameUp, State as RncState}
use Rattle.dch_linkcmd.specs.RncSteps.{Steps as RncSteps}
use Rattle.dch_linkcmd.specs.Courses.{Course}
use Rattle.dch_linkcmd.specs.LinkLink.{LinkState, active}
use Rattle.dch_linkcmd.specs.LinkStages.{AreCompared, MayGoDown, MayGoUp, NodeBGoes, RncGoes, UeGoes}
use Rattle.dch_runlaw.specs.Frames.{MayArrive, MayBeTaken, Taken, nothing_taken}

-- two states are the same but for one node
pub record SameButUe (old new : LinkState) : Type 0 where
  pub node_b : new.node_b ≡ old.node_b
  pub rnc : new.rnc ≡ old.rnc
  pub damage : new.damage ≡ old.damage

pub record SameButNodeB (old new : LinkState) : Type 0 where
  pub ue : new.ue ≡ old.ue
  pub rnc : new.rnc ≡ old.rnc
  pub damage : new.damage ≡ old.damage

pub record SameButRnc (old new : LinkState) : Type 0 where
  pub ue : new.ue ≡ old.ue
  pub node_b : new.node_b ≡ old.node_b
  pub damage : new.damage ≡ old.damage

pub but_ue : (old new : LinkState) (event : UeEvent) → UeGoes old event new → SameButUe old new
but_ue old new event goes = record { node_b = ap (λ (l : LinkState). l.node_b) goes.is; rnc = ap (λ (l : LinkState). l.rnc) goes.is; damage = ap (λ (l : LinkState). l.damage) goes.is }

pub but_node_b : (old new : LinkState) (event : NodeBEvent) → NodeBGoes old event new → SameButNodeB old new
but_node_b old new event goes = record { ue = ap (λ (l : LinkState). l.ue) goes.is; rnc = ap (λ (l : LinkState). l.rnc) goes.is; damage = ap (λ (l : LinkState). l.damage) goes.is }

pub but_rnc : (old new : LinkState) (event : RncEvent) → RncGoes old event new → SameButRnc old new
but_rnc old new event goes = record { ue = ap (λ (l : LinkState). l.ue) goes.is; node_b = ap (λ (l : LinkState). l.node_b) goes.is; damage = ap (λ (l : LinkState). l.damage) goes.is }

pub but_down : (set : ℕ) (octets : Option (List ℕ)) (old new : LinkState) (lines : List Line) → MayGoDown set octets old new lines → SameButNodeB old new
but_down set None old new lines goes = record { ue = ap (λ (l : LinkState). l.ue) goes.0; rnc = ap (λ (l : LinkState). l.rnc) goes.0; damage = ap (λ (l : LinkState). l.damage) goes.0 }
but_down set (Some octets) old new lines goes = but_node_b old new (IubFrameDown set octets) goes.0

pub but_up : (set : ℕ) (octets : Option (List ℕ)) (old new : LinkState) (lines : List Line) → MayGoUp set octets old new lines → SameButRnc old new
but_up set None old new lines goes = record { ue = ap (λ (l : LinkState). l.ue) goes.0; node_b = ap (λ (l : LinkState). l.node_b) goes.0; damage = ap (λ (l : LinkState). l.damage) goes.0 }
but_up set (Some octets) old new lines goes = but_rnc old new (IubFrameUp set octets) goes.comes

-- one after another
pub also_node_b : (a b c : LinkState) → SameButNodeB a b → SameButNodeB b c → SameButNodeB a c
also_node_b a b c one two = record { ue = two.ue ∙ one.ue; rnc = two.rnc ∙ one.rnc; damage = two.damage ∙ one.damage }

pub also_rnc : (a b c : LinkState) → SameButRnc a b → SameButRnc b c → SameButRnc a c
also_rnc a b c one two = record { ue = two.ue ∙ one.ue; node_b = two.node_b ∙ one.node_b; damage = two.damage ∙ one.damage }

-- the steps of the nodes
pub ue_step : (old new : LinkState) (event : UeEvent) → UeGoes old event new → UeSteps old.ue.state event new.ue.state new.ue.last
ue_step old new event goes =
    let same = ap (λ (l : LinkState). l.ue) goes.is ∙ goes.goes.is in
    subst (λ (c : Course UeState UeEvent). UeSteps old.ue.state event c.state c.last) (sym same) goes.goes.step

pub node_b_step : (old new : LinkState) (event : NodeBEvent) → NodeBGoes old event new → NodeBSteps old.node_b.state event new.node_b.state new.node_b.last
node_b_step old new event goes =
    let same = ap (λ (l : LinkState). l.node_b) goes.is ∙ goes.goes.is in
    subst (λ (c : Course NodeBState NodeBEvent). NodeBSteps old.node_b.state event c.state c.last) (sym same) goes.goes.step

pub rnc_step : (old new : LinkState) (event : RncEvent) → RncGoes old event new → RncSteps old.rnc.state event new.rnc.state new.rnc.last
rnc_step old new event goes =
    let same = ap (λ (l : LinkState). l.rnc) goes.is ∙ goes.goes.is in
    subst (λ (c : Course RncState RncEvent). RncSteps old.rnc.state event c.state c.last) (sym same) goes.goes.step

-- an Iub frame that may go down, or up
pub arrives_as : (set : ℕ) (octets : Option (List ℕ)) (old new : LinkState) (lines : List Line) → MayGoDown set octets old new lines → MayArrive set octets old.node_b.state new.node_b.state lines
arrives_as set None old new lines goes = (ap (λ (l : LinkState). l.node_b.state) goes.0, goes.1)
arrives_as set (Some octets) old new lines goes = record { output = new.node_b.last; step = node_b_step old new (IubFrameDown set octets) goes.0; reported = goes.1 }

-- what the network controller took at a stage
abbrev pub taken_at : Option (List ℕ) → LinkState → Taken
taken_at None new = nothing_taken
taken_at (Some octets) new = record { lines = new.rnc.last.lines; readings = new.rnc.state.readings }

pub taken_as : (planned : Planned) (near : Layer) (set : ℕ) (octets : Option (List ℕ)) (old new : LinkState) (lines : List Line) → active old ≡ planned → new.ue.state.layer ≡ near → MayGoUp set octets old new lines → MayBeTaken planned set octets near old.rnc.state new.rnc.state (taken_at octets new) lines
taken_as planned near set None old new lines same layer goes = (ap (λ (l : LinkState). l.rnc.state) goes.0, refl, goes.1)
taken_as planned near set (Some octets) old new lines same layer goes = record {
  output = new.rnc.last;
  step = rnc_step old new (IubFrameUp set octets) goes.comes;
  is = refl;
  checks = goes.checks;
  compared = subst (λ (l : Layer). AreCompared Up planned.config.uplink.side new.rnc.state.readings l goes.checks) layer (subst (λ (p : Planned). AreCompared Up p.config.uplink.side new.rnc.state.readings new.ue.state.layer goes.checks) same goes.compared);
  reported = goes.all;
}

-- the lines of a node go on by those of its step
pub ue_lines : (old new : LinkState) (event : UeEvent) → UeGoes old event new → new.ue.lines ≡ old.ue.lines ++ new.ue.last.lines
ue_lines old new event goes =
    let same = ap (λ (l : LinkState). l.ue) goes.is ∙ goes.goes.is in
    ap (λ (c : Course UeState UeEvent). c.lines) same ∙ ap (λ (c : Course UeState UeEvent). old.ue.lines ++ c.last.lines) (sym same)

pub rnc_lines : (old new : LinkState) (event : RncEvent) → RncGoes old event new → new.rnc.lines ≡ old.rnc.lines ++ new.rnc.last.lines
rnc_lines old new event goes =
    let same = ap (λ (l : LinkState). l.rnc) goes.is ∙ goes.goes.is in
    ap (λ (c : Course RncState RncEvent). c.lines) same ∙ ap (λ (c : Course RncState RncEvent). old.rnc.lines ++ c.last.lines) (sym same)

pub taken_lines : (set : ℕ) (octets : Option (List ℕ)) (old new : LinkState) (lines : List Line) → MayGoUp set octets old new lines → new.rnc.lines ≡ old.rnc.lines ++ (taken_at octets new).lines
taken_lines set None old new lines goes = ap (λ (l : LinkState). l.rnc.lines) goes.0 ∙ sym (append-nil old.rnc.lines)
taken_lines set (Some octets) old new lines goes = rnc_lines old new (IubFrameUp set octets) goes.comes
