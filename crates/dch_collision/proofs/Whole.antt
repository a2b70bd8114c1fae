-- No two code blocks collide where each coded bit is sent.
use Rattle.std.proofs.Common.{◌≡◌, ◌<◌, ◌+◌, ◌*◌, ℕ, true, false, arith, refl}
use Rattle.std.specs.Prelude.{replicate}
use Rattle.std.proofs.lemmas.List.{get_or-replicate}
use Rattle.dch_types.specs.declared.channel.Coding.{Coding}
use Rattle.dch_types.specs.declared.channel.Coding.TheVariants.{Uncoded, Half, Third}
use Rattle.dch_types.specs.Lengths.{coded_block}
use Rattle.dch_coding.specs.declared.rate.Rate.TheVariants.{Half as HalfRate, Third as ThirdRate}
use Rattle.dch_collision.specs.Collisions.{NoneCollide, copies_kept}
use Rattle.dch_collision.specs.Hidden.{is_punctured}
use Rattle.dch_collision.proofs.Collide.{none-lost-step}
use Rattle.dch_collision.proofs.Plain.{none-lost}
use Rattle.dch_collision.proofs.Carried.{none_by}

half_kept : (size k : ℕ) → k < size → is_punctured HalfRate (replicate (2 * (size + 8)) true) k ≡ false
half_kept size k inside = rw (get_or-replicate (2 * (size + 8)) (2 * k) true false (omega arith)) refl

third_kept : (size k : ℕ) → k < size → is_punctured ThirdRate (replicate (3 * (size + 8)) true) k ≡ false
third_kept size k inside = rw (get_or-replicate (3 * (size + 8)) (3 * k) true false (omega arith)) refl

pub whole_none : (coding : Coding) (size filler : ℕ) (sent : ℕ → ℕ) → ((t : ℕ) → t < coded_block coding size → 0 < sent t) → NoneCollide coding size filler sent
whole_none Uncoded size filler sent each =
    none_by Uncoded size filler (copies_kept (replicate size true)) sent (λ t within some. each t within)
    (none-lost (replicate size true) size filler (λ k late inside. get_or-replicate size k true false inside))
whole_none Half size filler sent each =
    none_by Half size filler (copies_kept (replicate (2 * (size + 8)) true)) sent (λ t within some. each t within)
    (none-lost-step HalfRate (replicate (2 * (size + 8)) true) size filler (λ k late inside. half_kept size k inside))
whole_none Third size filler sent each =
    none_by Third size filler (copies_kept (replicate (3 * (size + 8)) true)) sent (λ t within some. each t within)
    (none-lost-step ThirdRate (replicate (3 * (size + 8)) true) size filler (λ k late inside. third_kept size k inside))
