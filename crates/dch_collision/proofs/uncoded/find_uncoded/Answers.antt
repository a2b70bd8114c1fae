use Rattle.std.proofs.Common.{◌-◌, ℕ, List, length, sym, subst, arith}
use Rattle.std.specs.Prelude.{slice_set}
use Rattle.dch_bits.specs.declared.bit.Bit.{Bit}
use Rattle.dch_bits.specs.declared.bit.Bit.TheVariants.{One}
use Rattle.dch_types.specs.declared.channel.Coding.TheVariants.{Uncoded}
use Rattle.dch_collision.specs.Collisions.{IsFirstCollision, copies_kept}
use Rattle.dch_collision.proofs.Plain.{last-lost, none-lost}
use Rattle.dch_collision.proofs.uncoded.find_uncoded.Goals as goal

pub returns-then-not-sent_flags-k-clause-found : goal.returns-then-not-sent_flags-k-clause-found
returns-then-not-sent_flags-k-clause-found c = λ same.
    let k : ℕ = length c.args.out.now - 1 - c.loop-done.done in
    let P : List Bit → Type 0 = λ bits. IsFirstCollision Uncoded (length c.args.out.now) c.args.filler (copies_kept c.args.sent_flags.now) (slice_set bits k One) in
    subst P (sym c.loop-done.invariant.zeros) (last-lost c.args.sent_flags.now (length c.args.out.now) c.args.filler k (omega arith) (omega arith) c.if-not-sent_flags-k.true (λ j after inside. c.loop-done.invariant.sent j (omega arith) inside))

pub returns-clause-none : goal.returns-clause-none
returns-clause-none c = λ same. none-lost c.args.sent_flags.now (length c.args.out.now) c.args.filler (λ k late inside. c.loop-done.invariant.sent k (omega arith) inside)
