use Rattle.std.proofs.Common.{arith, refl, [], ◌∷◌}
use Rattle.dch_rlcpdu.specs.Writing.{mrw_ack_text}
use Rattle.dch_rlcpdu.proofs.Backs.{length-status, mrw_status_back}
use Rattle.dch_rlcpdu.proofs.write.write_mrw_status.Goals as goal

pub put_status-requires-clause-place : goal.put_status-requires-clause-place
put_status-requires-clause-place c = omega (arith, length-status c.args.pairs.now c.args.lsn, c.requires.fit)

pub returns-clause-text : goal.returns-clause-text
returns-clause-text c = c.put_status.ensures (0 ∷ mrw_ack_text c.args.n c.args.sn) refl (c.put_mrw_ack.ensures (0 ∷ []) refl c.start.ensures)

pub returns-clause-back : goal.returns-clause-back
returns-clause-back c =
    mrw_status_back c.put_status.new.out c.args.n c.args.sn c.args.pairs.now c.args.lsn
    (c.put_status.ensures (0 ∷ mrw_ack_text c.args.n c.args.sn) refl (c.put_mrw_ack.ensures (0 ∷ []) refl c.start.ensures))
    (omega (arith, c.requires.fit)) c.requires.mrw c.requires.pairs c.requires.number
