use Rattle.std.proofs.Common.{◌∙◌, subst, sym}
use Rattle.dch_am.specs.Sender.{after_offer}
use Rattle.dch_amsend.specs.BufferStanding.{BufferStands}
use Rattle.dch_amsend.proofs.Offering.{answer_is, offer_keeps}
use Rattle.dch_amsend.proofs.tx_buffer.TxBuffer.offer.Goals as goal

pub returns-clause-history : goal.returns-clause-history
returns-clause-history c = λ rules d s keeps cut room. (
  c.store.ensures.answer ∙ answer_is rules d c.args.self.now s c.args.sdu.now keeps room,
  subst (λ w. BufferStands d w (after_offer c.store.result s c.args.sdu.now)) (sym c.store.ensures.after) (offer_keeps d c.args.self.now s c.args.sdu.now c.store.result cut keeps),
)
