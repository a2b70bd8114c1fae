use Rattle.std.proofs.Common.{◌+◌, ◌∙◌, Option, Some, ℕ, arith, ap, set}
use Rattle.circular_buffer.specs.Buffer.{Buffer, buffer}
use Rattle.dch_amrecv.proofs.Putting.{is_kept-pad, length-pad, set_pad}
use Rattle.dch_amrecv.proofs.places.put_at.Goals as goal

pub overflow_add-i : goal.overflow_add-i
overflow_add-i c = omega (arith, c.capacity.ensures.within, c.capacity.ensures.capacity, c.requires.place)

pub pad_to-requires-clause-few : goal.pad_to-requires-clause-few
pad_to-requires-clause-few c = omega (arith, c.capacity.ensures.within, c.capacity.ensures.capacity)

pub set_at-requires-clause-place : goal.set_at-requires-clause-place
set_at-requires-clause-place c = rw c.pad_to.ensures.ring (omega (arith, length-pad (c.args.i + 1) c.args.ring.now.items))

pub set_at-requires-clause-vacant : goal.set_at-requires-clause-vacant
set_at-requires-clause-vacant c = rw c.pad_to.ensures.ring (is_kept-pad (c.args.i + 1) c.args.i c.args.ring.now.items c.requires.vacant)

pub returns-clause-ring : goal.returns-clause-ring
returns-clause-ring c =
    c.set_at.ensures.ring
    ∙ (ap (λ (b : Buffer (Option ℕ)). buffer (set b.items c.args.i (Some c.args.block)) b.capacity) c.pad_to.ensures.ring
    ∙ ap (λ xs. buffer xs c.args.ring.now.capacity) (set_pad c.args.i c.args.block c.args.ring.now.items))
