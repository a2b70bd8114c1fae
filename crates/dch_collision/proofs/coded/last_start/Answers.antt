use Rattle.std.proofs.Common.{◌≡◌, ◌-◌, ℕ, length, refl, subst, arith}
use Rattle.dch_collision.specs.Hidden.{IsFirstHidden}
use Rattle.dch_collision.proofs.Collide.{none-hidden, first-hidden}
use Rattle.dch_collision.proofs.coded.last_start.Goals as goal

pub returns-then-starts-clause-found : goal.returns-then-starts-clause-found
returns-then-starts-clause-found c = λ same.
    let size : ℕ = length c.args.out.now in
    let k : ℕ = size - 1 - c.loop-done.done in
    let sized : length c.loop-done.out ≡ size = omega arith in
    let P : ℕ → Type 0 = λ size. IsFirstHidden c.args.rate c.args.sent_flags.now size k c.starts.new.out in
    first-hidden c.args.rate c.args.sent_flags.now size c.args.filler k c.starts.new.out (omega arith) (subst P sized (c.if-starts.ensures.found refl)) (λ j other after inside hidden. c.loop-done.invariant.none j other (omega arith) inside hidden)

pub returns-clause-none : goal.returns-clause-none
returns-clause-none c = λ same.
    none-hidden c.args.rate c.args.sent_flags.now (length c.args.out.now) c.args.filler (λ k other late inside hidden. c.loop-done.invariant.none k other (omega arith) inside hidden)
