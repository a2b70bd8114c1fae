use Rattle.std.proofs.Common.{◌≡◌, ℕ, List, ap, refl, ◌∙◌}
use Rattle.dch_bits.specs.declared.offer.Offer.{Offer}
use Rattle.dch_bits.specs.declared.offer.Offer.TheVariants.{Accepted, Full, WrongSize}
use Rattle.dch_rlcum.specs.Sending.{after_offer, Sending}
use Rattle.dch_tests.proofs.rlcum.offer.Goals as goal

same_pdu : (o : Offer) (unit : List ℕ) (s : Sending) → (after_offer o unit s).pdu ≡ s.pdu
same_pdu Accepted unit s = refl
same_pdu Full unit s = refl
same_pdu WrongSize unit s = refl

pub returns : goal.returns
returns c = ap (λ s. s.pdu) c.offer.ensures.after ∙ same_pdu c.offer.result c.args.unit.now c.args.sender.now
