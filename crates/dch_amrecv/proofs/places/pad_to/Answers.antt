use Rattle.std.proofs.Common.{◌≡◌, ◌++◌, [], ◌∷◌, None, Option, ℕ, max, ◌∙◌, arith, ap, sym, length, refl}
use Rattle.circular_buffer.specs.Buffer.{Buffer, buffer}
use Rattle.dch_amrecv.specs.Kept.{given}
use Rattle.dch_amrecv.proofs.Putting.{length-pad, pad_most, pad_next, pad_short}
use Rattle.dch_amrecv.proofs.places.pad_to.Goals as goal

pub loop-i-init : goal.loop-i-init
loop-i-init c = (ap (λ xs. buffer xs c.args.ring.now.capacity) (sym (pad_short c.len-len.result c.args.ring.now.items (omega (arith, c.len-len.ensures.len)))), refl)

pub push-requires : goal.push-requires
push-requires c = rw c.loop-i.invariant.0 (omega (arith, length-pad c.loop-i.i c.args.ring.now.items, c.loop-i-test.true, c.max-i-end.ensures, c.requires.room, c.loop-i.auto.i, c.len-len.ensures.len))

pub loop-i-preserved : goal.loop-i-preserved
loop-i-preserved c = (
  c.push.ensures.ring
      ∙ (ap (λ (b : Buffer (Option ℕ)). buffer (b.items ++ None ∷ []) b.capacity) c.loop-i.invariant.0
      ∙ ap (λ xs. buffer xs c.args.ring.now.capacity) (pad_next c.loop-i.i c.args.ring.now.items (omega (arith, c.loop-i.auto.i, c.len-len.ensures.len)))),
  c.give_back.ensures ∙ (ap (λ b. given b c.loop-i.pool) c.push.ensures.none ∙ c.loop-i.invariant.1),
)

pub returns-clause-ring : goal.returns-clause-ring
returns-clause-ring c =
    let at : c.loop-i.i ≡ max c.args.to (length c.args.ring.now.items) = omega (arith, c.loop-i-test.false, c.max-i-end.ensures, c.len-len.ensures.len, c.loop-i.auto.i-end (omega (arith, c.max-i-end.ensures))) in
    c.loop-i.invariant.0 ∙ ap (λ xs. buffer xs c.args.ring.now.capacity) (pad_most c.args.to c.loop-i.i c.args.ring.now.items at)
