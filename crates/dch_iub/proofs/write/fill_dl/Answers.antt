use Rattle.std.proofs.Common.{◌+◌, ℕ, arith}
use Rattle.dch_iub.proofs.Transfers.{front_front, AreOf}
use Rattle.dch_iub.proofs.write.fill_dl.Goals as goal

pub returns-clause-front : goal.returns-clause-front
returns-clause-front c =
    let side = c.args.side.now in
    let end : ℕ = c.write_front-shape.result.header + c.write_front-shape.result.octets + c.tail_octets.result in
    let known : AreOf side c.args.set c.args.numbers.now c.args.blocks.now = record { numbered = c.requires.numbered; formats = c.requires.held } in
    front_front side c.args.set c.args.cfn end c.write_check.new.out c.write_front-shape.new.out c.args.numbers.now c.args.blocks.now known
    (omega (arith, c.write_front-shape.ensures.end)) c.write_check.ensures.before c.write_front-shape.ensures.front
