-- Nodes of which each step has one output: the same events give the same lines.
use Rattle.std.proofs.Common.{◌≡◌, ◌∙◌, ◌++◌, List, [], ◌∷◌, refl, ap₂, sym, subst}
use Rattle.std.specs.List.{All}
use Rattle.std.proofs.lemmas.List.Elements.{All-head, All-tail}
use Rattle.dch_node.specs.Lines.{Line}
use Rattle.dch_node.specs.Outputs.{IsSameOutput}
use Rattle.dch_node.specs.Traces.{Trace}
use Rattle.dch_node.specs.Values.{Output}

pub same_output : (output : Output) → IsSameOutput output output
same_output output = record { lines = refl; sent = refl; iub = λ s inside. refl }

pub equal_output : (output more : Output) → more ≡ output → IsSameOutput output more
equal_output output more same = subst (λ (o : Output). IsSameOutput output o) (sym same) (same_output output)

-- from states that say the same, of which the first keeps an invariant, a step leads to such states, and has one output
pub record HasOneOutput {S E : Type 0} (Steps : S → E → S → Output → Type 0) (Stands : S → Type 0) (Comes : E → Type 0) (Same : S → S → Type 0) : Type 0 where
  pub keeps : (old new : S) (event : E) (output : Output) → Stands old → Comes event → Steps old event new output → Stands new
  pub states : (old new older newer : S) (event : E) (output more : Output) → Stands old → Same old older → Steps old event new output → Steps older event newer more → Same new newer
  pub outputs : (old new older newer : S) (event : E) (output more : Output) → Stands old → Same old older → Steps old event new output → Steps older event newer more → IsSameOutput output more

-- so all steps have the same lines, and the last one the same output
pub trace_same : {S E : Type 0} (Steps : S → E → S → Output → Type 0) (Stands : S → Type 0) (Comes : E → Type 0) (Same : S → S → Type 0) → HasOneOutput Steps Stands Comes Same
    → (old older new newer : S) (before earlier last more : Output) (events : List E) (lines rest : List Line) → Stands old → All Comes events → Same old older → IsSameOutput before earlier
    → Trace Steps old before events new last lines → Trace Steps older earlier events newer more rest → Same new newer × ((rest ≡ lines) × IsSameOutput last more)
trace_same {S} {E} Steps Stands Comes Same one old older new newer before earlier last more [] lines rest stands come same outputs a b = (
  subst (λ (s : S). Same s newer) (sym a.0) (subst (λ (s : S). Same old s) (sym b.0) same),
  (b.2 ∙ sym a.2, subst (λ (o : Output). IsSameOutput o more) (sym a.1) (subst (λ (o : Output). IsSameOutput before o) (sym b.1) outputs)),
)
trace_same {S} {E} Steps Stands Comes Same one old older new newer before earlier last more (event ∷ events) lines rest stands come same outputs a b =
    let now : IsSameOutput a.output b.output = one.outputs old a.next older b.next event a.output b.output stands same a.step b.step in
    let later = trace_same Steps Stands Comes Same one a.next b.next new newer a.output b.output last more events a.rest b.rest
    (one.keeps old a.next event a.output stands (All-head Comes event events come) a.step) (All-tail Comes event events come)
    (one.states old a.next older b.next event a.output b.output stands same a.step b.step) now a.later b.later in
    (later.0, (b.reported ∙ ap₂ (λ (ls ms : List Line). ls ++ ms) now.lines later.1.0 ∙ sym a.reported, later.1.1))
