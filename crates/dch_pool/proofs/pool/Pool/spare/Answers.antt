-- The spare numbers are as many as the blocks that are not lent.
use Rattle.std.proofs.Common.{◌≡◌, sym, ◌∙◌, length, arith}
use Rattle.std.specs.Prelude.{vec_len}
use Rattle.dch_pool.proofs.Contents.{count_by-contents_of}
use Rattle.dch_pool.proofs.pool.Pool.spare.Goals as goal

pub returns : goal.returns
returns c =
    let len : vec_len c.self.inside.spare ≡ length c.self.inside.spare.items = omega arith in
    rw (c.len.ensures, ← c.self.view_is, len)
    (c.self.invariant.count ∙ sym (count_by-contents_of c.self.inside.size c.self.inside.region.items c.self.inside.lent.items))
