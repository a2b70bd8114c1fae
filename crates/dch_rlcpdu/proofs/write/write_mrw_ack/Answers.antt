use Rattle.std.proofs.Common.{arith, refl, [], ◌∷◌}
use Rattle.dch_rlcpdu.proofs.Backs.{mrw_ack_back}
use Rattle.dch_rlcpdu.proofs.write.write_mrw_ack.Goals as goal

pub returns-clause-text : goal.returns-clause-text
returns-clause-text c = c.put_mrw_ack.ensures (0 ∷ []) refl c.start.ensures

pub returns-clause-back : goal.returns-clause-back
returns-clause-back c = mrw_ack_back c.put_mrw_ack.new.out c.args.n c.args.sn (c.put_mrw_ack.ensures (0 ∷ []) refl c.start.ensures) (omega (arith, c.requires.fit)) c.requires.number
