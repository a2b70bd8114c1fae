-- What a pool ends as where the octets of one of its blocks are lent to be written.
use Rattle.std.specs.Prelude.{◌++◌, ℕ, List, [], ◌∷◌, Option, Some, None, take, drop}
use Rattle.std.specs.List.{refill}
use Rattle.std.specs.Borrow.{Lends, MutBor, Array, Fml, u8}
use Rattle.dch_pool.specs.Blocks.{Blocks}
use Rattle.dch_pool.specs.contracts.pool.Pool.{the_row}

-- blocks of so many octets, where octets are written over them from the first one on
abbrev pub spread : ℕ → List ℕ → List (Option (List ℕ)) → List (Option (List ℕ))
spread size octets [] = []
spread size octets (None ∷ blocks) = None ∷ spread size (drop size octets) blocks
spread size octets (Some held ∷ blocks) = Some (refill size held octets) ∷ spread size (drop size octets) blocks

-- the pool where octets are written from the start of a block on: just its own, where they are as many as it has
abbrev pub with_written : Blocks → ℕ → List ℕ → Blocks
with_written pool block octets = record pool {
  contents = take block pool.contents
      ++ spread pool.size octets (drop block pool.contents);
}

-- what was written last behind r stands in the block
abbrev pub LendsBlock : MutBor Blocks → ℕ → MutBor (List ℕ) → Fml
LendsBlock pool block r = Lends the_row (Array u8 0) pool r (with_written pool.now block)
