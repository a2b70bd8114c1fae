use Rattle.std.proofs.Common.{◌≡◌, Option, ℕ, ◌∙◌, arith, ap, drop, slice_get, length-drop}
use Rattle.std.specs.Option.{option_flatten}
use Rattle.circular_buffer.specs.Buffer.{Buffer, buffer}
use Rattle.dch_amrecv.proofs.Blocks.{drop_one, left_more}
use Rattle.dch_amrecv.proofs.places.give_front.Goals as goal

pub loop-done-preserved : goal.loop-done-preserved
loop-done-preserved c =
    let block : c.flatten.result ≡ option_flatten (slice_get (drop c.loop-done.done c.args.ring.now.items) 0) = c.flatten.ensures ∙ ap option_flatten (c.pop_front.ensures.value ∙ ap (λ (b : Buffer (Option ℕ)). slice_get b.items 0) c.loop-done.invariant.0) in (
      c.pop_front.ensures.items
          ∙ (ap (λ (b : Buffer (Option ℕ)). buffer (drop 1 b.items) b.capacity) c.loop-done.invariant.0
          ∙ ap (λ xs. buffer xs c.args.ring.now.capacity) (drop_one c.loop-done.done c.args.ring.now.items)),
      rw (c.give_back.ensures, block) (left_more c.args.pool.now c.loop-done.pool c.args.ring.now.items c.loop-done.done (omega (arith, c.requires.within, c.loop-done-test.true, length-drop c.loop-done.done c.args.ring.now.items)) c.loop-done.invariant.1),
    )
