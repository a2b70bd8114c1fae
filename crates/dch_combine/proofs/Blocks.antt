-- The blocks of a TTI, of which one is written.
use Rattle.std.proofs.Common.{◌≡◌, ◌≢◌, ◌<◌, ◌≤◌, ◌+◌, ◌*◌, ℕ, suc, List, length, Bool, false, get_or, arith, refl, get_or-set_same, get_or-set_other}
use Rattle.std.specs.Prelude.{slice_set}
use Rattle.std.proofs.lemmas.List.{length-set}
use Rattle.std.proofs.Math.Nat.{mul-le-mul_right}
use Rattle.dch_bits.specs.declared.bit.Bit.{Bit}
use Rattle.dch_accept.specs.Blocks.{Held, block_at}
use Rattle.dch_accept.specs.BlockLending.{with_block}
use Rattle.dch_accept.proofs.Parts.{over, within}
use Rattle.dch_combine.specs.Steps.{IsSameBlock, IsSameShape}

-- block b is written and marked
pub record IsWritten (b : ℕ) (old new : Held) (block : List Bit) (good : Bool) : Type 0 where
  pub shape : IsSameShape old new
  pub there : block_at new b ≡ block
  pub marked : get_or new.good b false ≡ good
  pub before : (j : ℕ) → j < b → IsSameBlock j old new

-- the blocks after block b was written and marked
abbrev pub rewritten : Held → ℕ → List Bit → Bool → Held
rewritten held b block good = record (with_block held b block) { good = slice_set held.good b good }

pub written : (held : Held) (b : ℕ) (block : List Bit) (good : Bool) → b < length held.good → length (block_at held b) ≡ held.size → length block ≡ held.size → IsWritten b held (rewritten held b block good) block good
written held b block good there long size =
    let o = over (b * held.size) held.size held.bits block size (within b held.size held.bits long) in
    record {
      shape = record { format = refl; size = refl; count = length-set held.good b good; long = o.long; room = refl };
      there = o.there;
      marked = get_or-set_same held.good b good false there;
      before = λ j less.
          let next : suc j * held.size ≤ b * held.size = mul-le-mul_right held.size less in
          let one : suc j * held.size ≡ j * held.size + held.size = omega arith in
          let apart : j ≢ b = omega (arith, less) in
          record {
            bits = o.before (j * held.size) (omega (arith, next, one));
            good = get_or-set_other held.good b j good false apart;
          };
    }
