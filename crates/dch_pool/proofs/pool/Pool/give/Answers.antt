-- The block is marked, so there is room for its number.
use Rattle.std.proofs.Common.{◌≡◌, true, false, get_or, arith, ap}
use Rattle.dch_pool.proofs.Contents.{lent-marked, contents_of-given}
use Rattle.dch_pool.proofs.Flags.{marked-inside, room-given, IsHeld-given}
use Rattle.dch_pool.proofs.pool.Pool.give.Goals as goal
use Rattle.dch_pool.proofs.pool.Pool.give.Goals.{After-push, After-unwrap}

pub index_mut-requires : goal.index_mut-requires
index_mut-requires c =
    let marked : get_or c.self.inside.lent.items c.block.inside.number false ≡ true =
    lent-marked c.self.inside.size c.self.inside.region.items c.self.inside.lent.items c.block.inside.number c.self.view_is c.block.view_is c.requires in
    omega (arith, marked-inside c.self.inside.lent.items c.block.inside.number marked)

pub unwrap-requires : goal.unwrap-requires
unwrap-requires c =
    let marked : get_or c.self.inside.lent.items c.block.inside.number false ≡ true =
    lent-marked c.self.inside.size c.self.inside.region.items c.self.inside.lent.items c.block.inside.number c.self.view_is c.block.view_is c.requires in
    let few = room-given c.self.inside.lent.items c.block.inside.number marked in
    c.push.ensures.succeeds (omega (arith, few, c.self.invariant.count, c.self.invariant.numbers))

pub invariant_of-self : goal.invariant_of-self
invariant_of-self c =
    let marked : get_or c.self.inside.lent.items c.block.inside.number false ≡ true =
    lent-marked c.self.inside.size c.self.inside.region.items c.self.inside.lent.items c.block.inside.number c.self.view_is c.block.view_is c.requires in
    let items = rw c.unwrap.ensures at c.push.ensures.items in
    rw items (IsHeld-given c.self.inside.size c.self.inside.region.items c.self.inside.lent.items c.self.inside.spare.items _ _ c.block.inside.number c.self.invariant c.push.ensures.capacity marked)

pub returns : goal.returns
returns c = rw (← c.self.view_is, ← c.block.view_is)
    (ap (λ contents. record { size = c.self.inside.size; contents = contents }) (contents_of-given c.self.inside.size c.self.inside.region.items c.self.inside.lent.items c.block.inside.number))
