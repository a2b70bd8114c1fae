use Rattle.std.proofs.Common.{◌/◌, ◌%◌, ◌+◌, [], ◌∷◌, arith, refl}
use Rattle.dch_rlcpdu.proofs.Texts.{both}
use Rattle.dch_rlcpdu.proofs.put.put_number.Goals as goal

pub returns : goal.returns
returns c =
    both (c.args.number / 256 ∷ []) (c.args.number / 16 % 16 ∷ c.args.number % 16 ∷ []) c.args.at (c.args.at + 1) c.args.out.now c.put.new.out c.put-3.new.out refl c.put.ensures
    (both (c.args.number / 16 % 16 ∷ []) (c.args.number % 16 ∷ []) (c.args.at + 1) (c.args.at + 2) c.put.new.out c.put-2.new.out c.put-3.new.out (omega arith) c.put-2.ensures c.put-3.ensures)
