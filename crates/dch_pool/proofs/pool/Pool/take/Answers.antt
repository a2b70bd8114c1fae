-- The last spare number is that of a block that is not lent.
use Rattle.std.proofs.Common.{◌≡◌, length, arith, sym, ◌∙◌}
use Rattle.std.specs.Prelude.{vec_len}
use Rattle.dch_pool.proofs.Contents.{count_by-contents_of}
use Rattle.dch_pool.proofs.Lending.{cleared, IsSpare-last, whole-cleared, IsHeld-lent, Takes-lent}
use Rattle.dch_pool.proofs.pool.Pool.take.Goals as goal

pub returns-in_default : goal.returns-in_default
returns-in_default c =
    let none : length c.self.inside.spare.items ≡ 0 = omega (arith, c.in_default.ensures.cases) in
    let counted = count_by-contents_of c.self.inside.size c.self.inside.region.items c.self.inside.lent.items in
    (rw (← c.self.view_is) (counted ∙ sym c.self.invariant.count ∙ none), c.self.view_is)

pub clear-requires : goal.clear-requires
clear-requires c =
    let at = IsSpare-last c.self.inside.size _ c.self.inside.region.items c.self.inside.lent.items c.self.inside.spare.items c.pop.new.self.items c.in-Some.number c.self.invariant c.in-Some.ensures.items in
    rw c.deref_mut.ensures.value at.within

pub invariant_of-self-2 : goal.invariant_of-self-2
invariant_of-self-2 c =
    let at = IsSpare-last c.self.inside.size _ c.self.inside.region.items c.self.inside.lent.items c.self.inside.spare.items c.pop.new.self.items c.in-Some.number c.self.invariant c.in-Some.ensures.items in
    let region : c.clear.new.region ≡ cleared c.self.inside.size c.self.inside.region.items c.in-Some.number = rw c.deref_mut.ensures.value at c.clear.ensures in
    let whole = whole-cleared c.self.inside.size (vec_len c.self.inside.region) c.self.inside.region.items c.self.inside.lent.items c.in-Some.number at (omega arith) in
    rw (region, whole)
    (IsHeld-lent c.self.inside.size _ _ c.self.inside.region.items c.self.inside.lent.items c.self.inside.spare.items c.pop.new.self.items c.in-Some.number c.self.invariant c.in-Some.ensures.items c.pop.ensures.capacity)

pub returns : goal.returns
returns c =
    let at = IsSpare-last c.self.inside.size _ c.self.inside.region.items c.self.inside.lent.items c.self.inside.spare.items c.pop.new.self.items c.in-Some.number c.self.invariant c.in-Some.ensures.items in
    let region : c.clear.new.region ≡ cleared c.self.inside.size c.self.inside.region.items c.in-Some.number = rw c.deref_mut.ensures.value at c.clear.ensures in
    let whole = whole-cleared c.self.inside.size (vec_len c.self.inside.region) c.self.inside.region.items c.self.inside.lent.items c.in-Some.number at (omega arith) in
    rw (← c.self.view_is, region, whole) (Takes-lent c.self.inside.size c.self.inside.region.items c.self.inside.lent.items c.in-Some.number at)
