use Rattle.std.proofs.Common.{◌+◌, ◌++◌, [], ◌∷◌, arith, refl}
use Rattle.dch_rlcpdu.specs.Writing.{digits}
use Rattle.dch_rlcpdu.proofs.Texts.{both}
use Rattle.dch_rlcpdu.proofs.put.put_mrw.Goals as goal

pub returns : goal.returns
returns c =
    both (6 ∷ []) (1 ∷ (digits c.args.sn ++ c.args.n ∷ [])) c.args.at (c.args.at + 1) c.args.out.now c.put.new.out c.put-3.new.out refl c.put.ensures
    (both (1 ∷ []) (digits c.args.sn ++ c.args.n ∷ []) (c.args.at + 1) (c.args.at + 2) c.put.new.out c.put-2.new.out c.put-3.new.out (omega arith) c.put-2.ensures
    (both (digits c.args.sn) (c.args.n ∷ []) (c.args.at + 2) (c.args.at + 5) c.put-2.new.out c.put_number.new.out c.put-3.new.out (omega arith) c.put_number.ensures c.put-3.ensures))
