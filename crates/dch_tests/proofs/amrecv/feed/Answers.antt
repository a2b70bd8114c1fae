use Rattle.std.proofs.Common.{arith}
use Rattle.dch_amrecv.proofs.Texts.{payload_size}
use Rattle.dch_tests.proofs.amrecv.feed.Goals as goal

pub pdu-requires-clause-small : goal.pdu-requires-clause-small
pdu-requires-clause-small c =
    omega (arith, payload_size c.args.p.now c.in-Ok-Payload.field-0 c.in-Ok-Payload.sn c.in-Ok-Payload.poll c.in-Ok-Payload.body c.in-Ok-Payload.field-0-3 c.in-Ok-Payload.field-0-is c.in-Ok-Payload.ensures.text, c.requires)
