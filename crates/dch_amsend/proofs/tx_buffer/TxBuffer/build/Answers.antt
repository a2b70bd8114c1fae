use Rattle.std.proofs.Common.{subst, sym}
use Rattle.dch_am.specs.Bodies.{next_body}
use Rattle.dch_am.specs.Building.{anew}
use Rattle.dch_am.specs.Sender.{vt_s}
use Rattle.dch_retx.specs.declared.sent_pdu.SentPdu.{SentPdu}
use Rattle.dch_amsend.specs.BufferStanding.{HasBody, BufferStands, Takes}
use Rattle.dch_amsend.proofs.Extents.{next_has, next_keeps, next_takes}
use Rattle.dch_amsend.proofs.tx_buffer.TxBuffer.build.Goals as goal

pub returns-clause-history : goal.returns-clause-history
returns-clause-history c = λ d s keeps cut low. (
  subst (λ f. HasBody d f (next_body d s.unsent)) (sym c.take.ensures.taken) (next_has d c.args.self.now s keeps cut),
  subst (λ (f : SentPdu). Takes (anew d s) (vt_s s) f.extent) (sym c.take.ensures.taken) (next_takes d c.args.self.now s keeps cut),
  subst (λ w. BufferStands d w (anew d s)) (sym c.take.ensures.after) (next_keeps d c.args.self.now s c.take.ensures.small keeps low),
)
