-- The block is marked, so its part of the region is lent, and what stands there afterwards is in the block.
use Rattle.std.proofs.Common.{◌≡◌, ◌≤◌, ◌+◌, ◌*◌, ◌-◌, ◌∙◌, true, false, get_or, length, take, drop, arith, refl, sym, ap, length-drop, length-take-le}
use Rattle.std.specs.Prelude.{vec_len}
use Rattle.dch_pool.specs.Blocks.{Blocks}
use Rattle.dch_pool.specs.Held.{contents_of}
use Rattle.dch_pool.proofs.Contents.{lent-marked, Holds-marked, octets_of-Holds, lent-within}
use Rattle.dch_pool.proofs.Flags.{marked-inside}
use Rattle.dch_pool.proofs.Spreading.{region_written, written_alone, written_from}
use Rattle.dch_pool.proofs.pool.Pool.bytes_mut.Goals as goal

pub overflow_mul-at : goal.overflow_mul-at
overflow_mul-at c =
    let marked : get_or c.self.inside.lent.items c.block.inside.number false ≡ true = lent-marked c.self.inside.size c.self.inside.region.items c.self.inside.lent.items c.block.inside.number c.self.view_is c.block.view_is c.requires in
    let within = lent-within c.self.inside.size _ c.self.inside.region.items c.self.inside.lent.items _ c.block.inside.number c.self.invariant (marked-inside c.self.inside.lent.items c.block.inside.number marked) in
    omega (arith, within, c.self.invariant.small)

pub overflow_add-at : goal.overflow_add-at
overflow_add-at c =
    let marked : get_or c.self.inside.lent.items c.block.inside.number false ≡ true = lent-marked c.self.inside.size c.self.inside.region.items c.self.inside.lent.items c.block.inside.number c.self.view_is c.block.view_is c.requires in
    let within = lent-within c.self.inside.size _ c.self.inside.region.items c.self.inside.lent.items _ c.block.inside.number c.self.invariant (marked-inside c.self.inside.lent.items c.block.inside.number marked) in
    omega (arith, within, c.self.invariant.small)

pub slice_mut-requires-clause-in_bounds : goal.slice_mut-requires-clause-in_bounds
slice_mut-requires-clause-in_bounds c =
    let marked : get_or c.self.inside.lent.items c.block.inside.number false ≡ true = lent-marked c.self.inside.size c.self.inside.region.items c.self.inside.lent.items c.block.inside.number c.self.view_is c.block.view_is c.requires in
    let within = lent-within c.self.inside.size _ c.self.inside.region.items c.self.inside.lent.items _ c.block.inside.number c.self.invariant (marked-inside c.self.inside.lent.items c.block.inside.number marked) in
    omega (arith, within)

pub returns : goal.returns
returns c =
    let n = c.block.inside.number in
    let size = c.self.inside.size in
    let region = c.self.inside.region.items in
    let lent = c.self.inside.lent.items in
    let marked : get_or lent n false ≡ true = lent-marked size region lent n c.self.view_is c.block.view_is c.requires in
    let there = marked-inside lent n marked in
    let within : n * size + size ≤ length region = lent-within size _ region lent _ n c.self.invariant there in
    let pool : Blocks = record { size = size; contents = contents_of size region lent } in
    let holds = Holds-marked size region lent n marked in
    let far : n * size + size - n * size ≡ size = omega arith in
    let part : c.slice_mut.result.now ≡ take size (drop (n * size) region) = c.slice_mut.ensures.value ∙ ap (λ k. take k (drop (n * size) region)) far in
    let all : vec_len c.self.inside.region ≡ length region = omega arith in
    rw (← c.self.view_is, ← c.block.view_is) (
      (
        refl,
        λ w. ap (λ contents. record { size = size; contents = contents })
            (ap (λ r. contents_of size r lent) (region_written (vec_len c.self.inside.region) (n * size) region w all (omega (arith, within)))
            ∙ written_from size (vec_len c.self.inside.region) region lent n w c.self.invariant.whole all there),
      ),
      record {
        writes_back = tt;
        value = part ∙ sym (octets_of-Holds pool n (take size (drop (n * size) region)) holds);
        size = ap length part ∙ length-take-le size (drop (n * size) region) (omega (arith, within, length-drop (n * size) region));
        alone = λ octets e. ap (λ contents. record { size = size; contents = contents }) (written_alone size region lent n octets marked e);
      },
    )
