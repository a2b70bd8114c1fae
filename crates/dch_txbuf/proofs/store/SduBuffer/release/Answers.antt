use Rattle.std.proofs.Common.{◌∙◌, ℕ, List, ap, drop}
use Rattle.std.proofs.lemmas.List.{drop-drop}
use Rattle.circular_buffer.specs.Buffer.{Buffer, buffer}
use Rattle.dch_txbuf.proofs.store.SduBuffer.release.Goals as goal

pub loop-preserved : goal.loop-preserved
loop-preserved c = c.release_first.ensures ∙ (ap (λ (b : Buffer (List ℕ)). buffer (drop 1 b.items) b.capacity) c.loop.invariant ∙ ap (λ us. buffer us c.args.self.now.capacity) (drop-drop 1 c.loop.counter c.args.self.now.items))
