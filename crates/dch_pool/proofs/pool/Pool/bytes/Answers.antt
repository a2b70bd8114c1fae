-- The block is marked, so its part lies in the region and is what it holds.
use Rattle.std.proofs.Common.{◌≡◌, true, false, get_or, sym}
use Rattle.dch_pool.specs.Blocks.{Blocks}
use Rattle.dch_pool.specs.Held.{contents_of}
use Rattle.dch_pool.proofs.Contents.{lent-marked, Holds-marked, octets_of-Holds, lent-within}
use Rattle.dch_pool.proofs.Flags.{marked-inside}
use Rattle.dch_pool.proofs.pool.Pool.bytes.Goals as goal

pub part-requires : goal.part-requires
part-requires c =
    let marked : get_or c.self.inside.lent.items c.block.inside.number false ≡ true =
    lent-marked c.self.inside.size c.self.inside.region.items c.self.inside.lent.items c.block.inside.number c.self.view_is c.block.view_is c.requires in
    rw c.deref.ensures.value
    (lent-within c.self.inside.size _ c.self.inside.region.items c.self.inside.lent.items _ c.block.inside.number c.self.invariant
    (marked-inside c.self.inside.lent.items c.block.inside.number marked))

pub returns : goal.returns
returns c =
    let marked = lent-marked c.self.inside.size c.self.inside.region.items c.self.inside.lent.items c.block.inside.number c.self.view_is c.block.view_is c.requires in
    let pool : Blocks = record { size = c.self.inside.size; contents = contents_of c.self.inside.size c.self.inside.region.items c.self.inside.lent.items } in
    let holds = Holds-marked c.self.inside.size c.self.inside.region.items c.self.inside.lent.items c.block.inside.number marked in
    rw (c.part.ensures, c.deref.ensures.value, ← c.self.view_is, ← c.block.view_is) (sym (octets_of-Holds pool c.block.inside.number _ holds))
