-- All blocks are spare.
use Rattle.std.proofs.Common.{◌≡◌, ◌≤◌, ◌*◌, length, arith, ap, false, ◌∙◌}
use Rattle.std.specs.Prelude.{replicate, vec_capacity}
use Rattle.std.specs.List.{range_with_len}
use Rattle.std.proofs.lemmas.List.FromFn.{length-range_with_len}
use Rattle.dch_pool.proofs.Contents.{contents_of-replicate}
use Rattle.dch_pool.proofs.Flags.{IsHeld-opened}
use Rattle.dch_pool.proofs.pool.Pool.open.Goals as goal

pub invariant_of-result : goal.invariant_of-result
invariant_of-result c =
    let numbers : c.in_ok-spare.spare.items ≡ range_with_len 0 c.args.blocks = c.in_ok-spare.ensures in
    let many : length c.in_ok-spare.spare.items ≡ c.args.blocks = ap length numbers ∙ length-range_with_len 0 c.args.blocks in
    let room : c.args.blocks ≤ vec_capacity c.in_ok-spare.spare = omega arith in
    let flags : c.in_ok-lent.lent.items ≡ replicate c.args.blocks false = c.in_ok-lent.ensures in
    let whole : length c.in_ok-region.region.items ≡ c.args.blocks * c.args.size = c.in_ok-region.ensures in
    rw (flags, numbers) (IsHeld-opened c.args.size c.args.blocks (vec_capacity c.in_ok-spare.spare) c.in_ok-region.region.items whole (omega arith) room)

pub returns : goal.returns
returns c =
    let flags : c.in_ok-lent.lent.items ≡ replicate c.args.blocks false = c.in_ok-lent.ensures in
    rw flags (ap (λ contents. record { size = c.args.size; contents = contents }) (contents_of-replicate c.args.size c.in_ok-region.region.items c.args.blocks))
