use Rattle.std.proofs.Common.{◌∙◌, ap}
use Rattle.std.specs.Prelude.{nat_lt}
use Rattle.circular_buffer.specs.Buffer.{Buffer}
use Rattle.dch_retx.specs.declared.sent_pdu.SentPdu.{SentPdu}
use Rattle.dch_retx.specs.Flights.{requested_in}
use Rattle.dch_retx.proofs.flight.Flight.is_requested.Goals as goal

pub returns : goal.returns
returns c = ap (nat_lt 0) c.self.invariant.count_is ∙ ap (λ (b : Buffer SentPdu). nat_lt 0 (requested_in b.items)) c.self.view_is
