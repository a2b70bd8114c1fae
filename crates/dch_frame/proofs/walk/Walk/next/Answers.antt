use Rattle.std.proofs.Common.{◌≡◌, ◌<◌, ◌+◌, ℕ, ap, ◌∙◌, sym, arith, subst, refl}
use Rattle.dch_frame.specs.Patterns.{copies}
use Rattle.dch_frame.specs.Walks.{Place, counter_at}
use Rattle.dch_frame.specs.declared.pattern.Kind.{Kind}
use Rattle.dch_frame.proofs.Changes.{copies_fit, next_changes, next_counter}
use Rattle.dch_frame.proofs.walk.Walk.next.Goals as goal
use Rattle.dch_frame.proofs.walk.Walk.next.Goals.{in-Same, in-Repeat, in-Puncture+then-removed, in-Puncture+else-removed}

pub overflow_cast-counter : goal.overflow_cast-counter
overflow_cast-counter c =
    let inside : c.self.inside.bit < c.self.inside.pattern.len = subst (λ (place : Place). place.bit < place.pattern.len) (sym c.self.view_is) c.requires in
    let few = rw c.in-Repeat.is at (copies_fit c.self.inside.pattern c.self.inside.bit c.self.invariant.2 inside) in
    let range = rw c.in-Repeat.is at c.self.invariant.2.steps in
    let at = rw c.in-Repeat.is at c.self.invariant.0 in
    let step = c.repeated-counter.ensures in
    omega (arith, few, next_changes c.in-Repeat.steps c.self.inside.bit c.repeated-counter.result.1 c.self.inside.counter c.repeated-counter.result.0 range at step.step step.positive step.bounded)

pub invariant_of-self : goal.invariant_of-self
invariant_of-self c =
    let inside : c.self.inside.bit < c.self.inside.pattern.len = subst (λ (place : Place). place.bit < place.pattern.len) (sym c.self.view_is) c.requires in
    let kind : Kind = c.self.inside.pattern.kind in
    let bit : ℕ = c.self.inside.bit in
    let before : ℕ = c.self.inside.counter in
    let counted : c.match-self.counter.0 ≡ counter_at kind (bit + 1) =
    elim c.match-self.branch [
      | in-Same w ↦ ap (λ p. p.0) w.counter-is ∙ c.self.invariant.0 ∙ rw w.in-Same.is refl
      | in-Repeat w ↦
          let range = rw w.in-Repeat.is at c.self.invariant.2.steps in
          let at = rw w.in-Repeat.is at c.self.invariant.0 in
          let step = w.repeated-counter.ensures in
          ap (λ p. p.0) w.counter-is ∙ rw w.in-Repeat.is (next_counter w.in-Repeat.steps bit w.repeated-counter.result.1 before w.repeated-counter.result.0 range at step.step step.positive step.bounded)
      | in-Puncture+then-removed w ↦
          let fit = rw w.in-Puncture.is at c.self.invariant.2.steps in
          let at = rw w.in-Puncture.is at c.self.invariant.0 in
          let step = w.punctured-counter.ensures in
          let one = rw w.if-removed.true at step.step in
          ap (λ p. p.0) w.counter-is ∙ rw w.in-Puncture.is (next_counter w.in-Puncture.steps bit 1 before w.punctured-counter.result.0 fit.0 at one step.positive step.bounded)
      | in-Puncture+else-removed w ↦
          let fit = rw w.in-Puncture.is at c.self.invariant.2.steps in
          let at = rw w.in-Puncture.is at c.self.invariant.0 in
          let step = w.punctured-counter.ensures in
          let none = rw w.if-removed.false at step.step in
          ap (λ p. p.0) w.counter-is ∙ rw w.in-Puncture.is (next_counter w.in-Puncture.steps bit 0 before w.punctured-counter.result.0 fit.0 at none step.positive step.bounded)
    ]
    in (counted, omega arith, c.self.invariant.2)

pub returns-clause-copies : goal.returns-clause-copies
returns-clause-copies c =
    let kind : Kind = c.self.inside.pattern.kind in
    let bit : ℕ = c.self.inside.bit in
    let before : ℕ = c.self.inside.counter in
    let here : c.match-self.counter.1 ≡ copies kind bit =
    elim c.match-self.branch [
      | in-Same w ↦ ap (λ p. p.1) w.counter-is ∙ rw w.in-Same.is refl
      | in-Repeat w ↦
          let range = rw w.in-Repeat.is at c.self.invariant.2.steps in
          let at = rw w.in-Repeat.is at c.self.invariant.0 in
          let step = w.repeated-counter.ensures in
          let count = next_changes w.in-Repeat.steps bit w.repeated-counter.result.1 before w.repeated-counter.result.0 range at step.step step.positive step.bounded in
          ap (λ p. p.1) w.counter-is ∙ rw w.in-Repeat.is (omega (arith, count))
      | in-Puncture+then-removed w ↦
          let fit = rw w.in-Puncture.is at c.self.invariant.2.steps in
          let at = rw w.in-Puncture.is at c.self.invariant.0 in
          let step = w.punctured-counter.ensures in
          let one = rw w.if-removed.true at step.step in
          let count = next_changes w.in-Puncture.steps bit 1 before w.punctured-counter.result.0 fit.0 at one step.positive step.bounded in
          ap (λ p. p.1) w.counter-is ∙ rw w.in-Puncture.is (omega (arith, count))
      | in-Puncture+else-removed w ↦
          let fit = rw w.in-Puncture.is at c.self.invariant.2.steps in
          let at = rw w.in-Puncture.is at c.self.invariant.0 in
          let step = w.punctured-counter.ensures in
          let none = rw w.if-removed.false at step.step in
          let count = next_changes w.in-Puncture.steps bit 0 before w.punctured-counter.result.0 fit.0 at none step.positive step.bounded in
          ap (λ p. p.1) w.counter-is ∙ rw w.in-Puncture.is (omega (arith, count))
    ]
    in here ∙ ap (λ place. copies place.pattern.kind place.bit) c.self.view_is
