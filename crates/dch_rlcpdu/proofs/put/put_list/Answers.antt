use Rattle.std.proofs.Common.{◌+◌, [], ◌∷◌, length, arith, refl}
use Rattle.dch_rlcpdu.specs.Writing.{pairs_text}
use Rattle.dch_rlcpdu.proofs.Texts.{both}
use Rattle.dch_rlcpdu.proofs.put.put_list.Goals as goal

pub returns : goal.returns
returns c =
    both (3 ∷ []) (length c.args.pairs.now ∷ pairs_text c.args.pairs.now) c.args.at (c.args.at + 1) c.args.out.now c.put.new.out c.put_pairs.new.out refl c.put.ensures
    (both (length c.args.pairs.now ∷ []) (pairs_text c.args.pairs.now) (c.args.at + 1) (c.args.at + 2) c.put.new.out c.put-2.new.out c.put_pairs.new.out (omega arith) c.put-2.ensures c.put_pairs.ensures)
