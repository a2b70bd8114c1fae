use Rattle.std.proofs.Common.{◌≤◌, true, arith}
use Rattle.dch_sar.specs.Taking.{held}
use Rattle.dch_sar.proofs.Cuts.{settled_held}
use Rattle.dch_sar.proofs.Parts.{held_full}
use Rattle.dch_sar.proofs.reassembler.Reassembler.take.Goals.{then-full, else-full}
use Rattle.dch_sar.proofs.reassembler.Reassembler.take.Goals as goal

pub take_parts-requires-clause-octets : goal.take_parts-requires-clause-octets
take_parts-requires-clause-octets c =
    let few : held c.args.self.now ≤ 1501 = settled_held c.self.inside.sizes.items c.self.inside.octets.items c.self.inside.part c.args.self.now c.self.view_is c.self.invariant.0 c.requires.settled in
    elim c.if-full.branch [
      | then-full w ↦ rw (w.self-is, w.end.ensures) (omega (arith, few, c.requires.small, held_full true c.args.self.now))
      | else-full w ↦ rw w.self-is (omega (arith, few, c.requires.small))
    ]
