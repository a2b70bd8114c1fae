use Rattle.std.proofs.Common.{◌+◌, [], ◌∷◌, arith, refl}
use Rattle.dch_rlcpdu.specs.Writing.{digits}
use Rattle.dch_rlcpdu.proofs.Texts.{both}
use Rattle.dch_rlcpdu.proofs.put.put_mrw_ack.Goals as goal

pub returns : goal.returns
returns c =
    both (7 ∷ []) (c.args.n ∷ digits c.args.sn) c.args.at (c.args.at + 1) c.args.out.now c.put.new.out c.put_number.new.out refl c.put.ensures
    (both (c.args.n ∷ []) (digits c.args.sn) (c.args.at + 1) (c.args.at + 2) c.put.new.out c.put-2.new.out c.put_number.new.out (omega arith) c.put-2.ensures c.put_number.ensures)
