use Rattle.std.proofs.Common.{◌≤◌, ◌<◌, ◌∙◌, ℕ, ap, arith, length, subst, sym}
use Rattle.std.specs.Prelude.{slice_index}
use Rattle.circular_buffer.specs.Buffer.{Buffer}
use Rattle.dch_amsend.specs.Ages.{ages_at, since}
use Rattle.dch_amsend.proofs.Aging.{age_new, age_old, falling_at, length-ages}
use Rattle.dch_amsend.proofs.ages.Ages.at.Goals as goal

pub tick_at-requires : goal.tick_at-requires
tick_at-requires c = subst (λ n. c.args.i < n) (length-ages c.self.inside.oldest c.self.inside.tick c.self.inside.kept.items) (subst (λ (b : Buffer ℕ). c.args.i < length b.items) (sym c.self.view_is) c.requires)

pub returns-then-i-self-clause-value : goal.returns-then-i-self-clause-value
returns-then-i-self-clause-value c =
    let l : c.args.i < length c.self.inside.kept.items = subst (λ n. c.args.i < n) (length-ages c.self.inside.oldest c.self.inside.tick c.self.inside.kept.items) (subst (λ (b : Buffer ℕ). c.args.i < length b.items) (sym c.self.view_is) c.requires) in
    sym (age_old c.self.inside.oldest c.self.inside.tick c.self.inside.kept.items c.args.i c.if-i-self.true l) ∙ ap (λ (b : Buffer ℕ). slice_index b.items c.args.i) c.self.view_is

pub returns-then-i-self-clause-oldest : goal.returns-then-i-self-clause-oldest
returns-then-i-self-clause-oldest c = λ j le.
    let less : slice_index c.args.self.now.items j ≤ slice_index c.args.self.now.items c.args.i =
    subst (λ (b : Buffer ℕ). slice_index b.items j ≤ slice_index b.items c.args.i) c.self.view_is (falling_at 65535 (ages_at c.self.inside.oldest c.self.inside.tick c.self.inside.kept.items) c.args.i j le c.self.invariant.falling) in
    omega (arith, less, returns-then-i-self-clause-value c)

pub returns-else-i-self-clause-value : goal.returns-else-i-self-clause-value
returns-else-i-self-clause-value c =
    let l : c.args.i < length c.self.inside.kept.items = subst (λ n. c.args.i < n) (length-ages c.self.inside.oldest c.self.inside.tick c.self.inside.kept.items) (subst (λ (b : Buffer ℕ). c.args.i < length b.items) (sym c.self.view_is) c.requires) in
    c.since.ensures
    ∙ (ap (since c.self.inside.tick) c.tick_at.ensures
    ∙ (sym (age_new c.self.inside.oldest c.self.inside.tick c.self.inside.kept.items c.args.i (omega (arith, c.if-i-self.false)) l)
    ∙ ap (λ (b : Buffer ℕ). slice_index b.items c.args.i) c.self.view_is))

pub returns-else-i-self-clause-oldest : goal.returns-else-i-self-clause-oldest
returns-else-i-self-clause-oldest c = λ j le.
    let less : slice_index c.args.self.now.items j ≤ slice_index c.args.self.now.items c.args.i =
    subst (λ (b : Buffer ℕ). slice_index b.items j ≤ slice_index b.items c.args.i) c.self.view_is (falling_at 65535 (ages_at c.self.inside.oldest c.self.inside.tick c.self.inside.kept.items) c.args.i j le c.self.invariant.falling) in
    omega (arith, less, returns-else-i-self-clause-value c)
