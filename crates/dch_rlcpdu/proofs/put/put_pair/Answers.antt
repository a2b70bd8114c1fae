use Rattle.std.proofs.Common.{◌+◌, [], ◌∷◌, refl}
use Rattle.dch_rlcpdu.specs.Writing.{digits}
use Rattle.dch_rlcpdu.proofs.Texts.{both}
use Rattle.dch_rlcpdu.proofs.put.put_pair.Goals as goal

pub returns : goal.returns
returns c = both (digits c.args.pair.0) (c.args.pair.1 ∷ []) c.args.at (c.args.at + 3) c.args.out.now c.put_number.new.out c.put.new.out refl c.put_number.ensures c.put.ensures
