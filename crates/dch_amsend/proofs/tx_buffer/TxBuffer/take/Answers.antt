use Rattle.std.proofs.Common.{◌∙◌, ap, subst, sym}
use Rattle.dch_txbuf.specs.declared.taken.Cut.{Cut}
use Rattle.dch_txbuf.specs.declared.taken.Start.{Start}
use Rattle.dch_txbuf.specs.Cuts.{IsStart, next_start}
use Rattle.dch_txbuf.proofs.Following.{start_next}
use Rattle.dch_amsend.proofs.tx_buffer.TxBuffer.take.Goals as goal

pub invariant_of-self : goal.invariant_of-self
invariant_of-self c = record {
  start_is = subst (λ (a : Start). IsStart c.self.inside.sdus.items a) (sym (c.next_start-self-inside.ensures ∙ ap (λ (k : Cut). next_start c.self.inside.start k) c.next_cut-cut.ensures.cut)) (start_next c.self.inside.sdus.items c.self.inside.start c.room_for.result c.self.invariant.start_is);
  from = c.self.invariant.from;
  most = c.self.invariant.most;
  small = c.self.invariant.small;
}
