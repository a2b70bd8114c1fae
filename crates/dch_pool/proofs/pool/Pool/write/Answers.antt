-- The block is marked, so its part of the region is what it holds.
use Rattle.std.proofs.Common.{◌≡◌, ◌≤◌, ◌+◌, true, false, get_or, length, arith, ap}
use Rattle.std.specs.Prelude.{vec_len}
use Rattle.dch_pool.specs.Blocks.{Blocks, IsLent, octets_of, written}
use Rattle.dch_pool.specs.Held.{contents_of}
use Rattle.dch_pool.proofs.Contents.{Holds-octets_of, lent-marked, lent-within}
use Rattle.dch_pool.proofs.Lending.{contents_of-overwritten}
use Rattle.dch_pool.proofs.Flags.{marked-inside}
use Rattle.dch_pool.proofs.pool.Pool.write.Goals as goal

pub overwrite-requires : goal.overwrite-requires
overwrite-requires c =
    let marked : get_or c.self.inside.lent.items c.block.inside.number false ≡ true =
    lent-marked c.self.inside.size c.self.inside.region.items c.self.inside.lent.items c.block.inside.number c.self.view_is c.block.view_is c.requires.lent in
    let within = lent-within c.self.inside.size _ c.self.inside.region.items c.self.inside.lent.items c.self.inside.spare.items c.block.inside.number c.self.invariant (marked-inside c.self.inside.lent.items c.block.inside.number marked) in
    record { block = rw c.deref_mut.ensures.value within; inside = rw (← c.self.view_is) at c.requires.inside }

pub returns : goal.returns
unfolding written
returns c =
    let marked : get_or c.self.inside.lent.items c.block.inside.number false ≡ true =
    lent-marked c.self.inside.size c.self.inside.region.items c.self.inside.lent.items c.block.inside.number c.self.view_is c.block.view_is c.requires.lent in
    let there = marked-inside c.self.inside.lent.items c.block.inside.number marked in
    let within = lent-within c.self.inside.size _ c.self.inside.region.items c.self.inside.lent.items c.self.inside.spare.items c.block.inside.number c.self.invariant there in
    let inside : c.args.at + length c.args.octets.now ≤ c.self.inside.size = rw (← c.self.view_is) at c.requires.inside in
    let pool : Blocks = record { size = c.self.inside.size; contents = contents_of c.self.inside.size c.self.inside.region.items c.self.inside.lent.items } in
    let lent : IsLent pool c.block.inside.number = rw (← c.self.view_is, ← c.block.view_is) at c.requires.lent in
    let over = rw c.deref_mut.ensures.value at c.overwrite.ensures in
    rw (← c.self.view_is, ← c.block.view_is)
    (ap (λ contents. record { size = c.self.inside.size; contents = contents })
    (contents_of-overwritten c.self.inside.size (vec_len c.self.inside.region) c.self.inside.region.items c.self.inside.lent.items c.block.inside.number c.args.at c.args.octets.now (octets_of pool c.block.inside.number) c.overwrite.new.region marked there within inside (omega arith) (Holds-octets_of pool c.block.inside.number lent) over))
