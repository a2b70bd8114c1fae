use Rattle.std.proofs.Common.{arith, refl, [], ◌∷◌}
use Rattle.dch_rlcpdu.proofs.Backs.{mrw_back}
use Rattle.dch_rlcpdu.proofs.write.write_mrw.Goals as goal

pub returns-clause-text : goal.returns-clause-text
returns-clause-text c = c.put_mrw.ensures (0 ∷ []) refl c.start.ensures

pub returns-clause-back : goal.returns-clause-back
returns-clause-back c = mrw_back c.put_mrw.new.out c.args.sn c.args.n (c.put_mrw.ensures (0 ∷ []) refl c.start.ensures) (omega (arith, c.requires.fit)) c.requires.number
