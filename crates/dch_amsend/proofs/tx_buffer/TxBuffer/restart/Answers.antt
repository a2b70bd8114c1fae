use Rattle.std.proofs.Common.{◌∙◌, List, ap, length, subst, sym, ℕ}
use Rattle.dch_am.specs.Restart.{restarted_sender}
use Rattle.dch_amsend.specs.BufferStanding.{BufferStands}
use Rattle.dch_amsend.specs.TxBuffer.{TxBuffer}
use Rattle.dch_amsend.proofs.Restarting.{kept_are, restart_keeps}
use Rattle.dch_amsend.proofs.tx_buffer.TxBuffer.restart.Goals as goal

pub returns-clause-history : goal.returns-clause-history
returns-clause-history c = λ d s keeps cut. (
  c.begin.ensures.count ∙ (ap (λ (w : TxBuffer). length w.sdus) c.begin.ensures.after ∙ ap (λ (us : List (List ℕ)). length us) (kept_are d c.args.self.now s cut keeps)),
  subst (λ w. BufferStands d w (restarted_sender s)) (sym c.begin.ensures.after) (restart_keeps d c.args.self.now s cut keeps),
)
