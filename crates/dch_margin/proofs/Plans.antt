-- The sizes of a format.
use Rattle.std.proofs.Common.{◌≡◌, ◌<◌, ◌≤◌, ◌-◌, ◌*◌, ℕ, zero, suc, length, refl, ap, sym, ◌∙◌, arith}
use Rattle.std.specs.Int.{div_ceil}
use Rattle.std.proofs.lemmas.Grind.{div_ceil_times}
use Rattle.std.proofs.lemmas.Bool.Decides.{nat_tests}
use Rattle.dch_types.specs.declared.channel.Coding.{Coding}
use Rattle.dch_types.specs.declared.channel.Coding.TheVariants.{Uncoded, Half, Third}
use Rattle.dch_types.specs.declared.channel.Side.{Side}
use Rattle.dch_types.specs.Lengths.{block_count, block_size}
use Rattle.dch_types.specs.Limits.{IsSide}
use Rattle.dch_types.specs.Parts.{channel_at}
use Rattle.dch_coding.specs.declared.cut.Plan.{Plan}
use Rattle.dch_coding.specs.Segments.{plan_of}
use Rattle.dch_coding.proofs.Sizes.{filler_few}
use Rattle.dch_collision.specs.Copies.{bits_in, padded_in}
use Rattle.dch_collision.specs.Clear.{joined_in}
use Rattle.dch_collision.proofs.Sizes.{shape_is}
use Rattle.dch_margin.specs.Differ.{plan_in}
use Rattle.dch_margin.specs.Sizes.{AreSizes}
use Rattle.dch_margin.specs.declared.sizes.Sizes.{Sizes}

no_blocks : (coding : Coding) → block_count 0 coding ≡ 0
no_blocks Uncoded = refl
no_blocks Half = refl
no_blocks Third = refl

-- where there is a code block, it has fewer filler bits than bits
filler_inside : (x : ℕ) (coding : Coding) → 1 ≤ (plan_of x coding).blocks → (plan_of x coding).filler < (plan_of x coding).size
filler_inside zero coding some = absurd (omega (arith, no_blocks coding))
filler_inside (suc x) coding some = filler_few (suc x) coding (omega arith)

plain_whole : (x : ℕ) → 0 < x → block_count x Uncoded * block_size x (block_count x Uncoded) - x ≡ 0
plain_whole x some =
    let one : block_count x Uncoded ≡ 1 = grind (arith, nat_tests) in
    let size : block_size x 1 ≡ div_ceil x 1 = grind (arith, nat_tests) in
    rw one (rw size (omega (arith, div_ceil_times x 1 (omega arith))))

-- and none where it is not coded
no_filler : (x : ℕ) (coding : Coding) → coding ≡ Uncoded → (plan_of x coding).filler ≡ 0
no_filler zero Uncoded is = refl
no_filler (suc x) Uncoded is = plain_whole (suc x) (omega arith)
no_filler x Half is = absurd (grind (arith))
no_filler x Third is = absurd (grind (arith))

pub sizes_are : (side : Side) (i f : ℕ) (sizes : Sizes) → IsSide side → i < length side.channels → f < length (channel_at side i).formats
    → sizes.coding ≡ (channel_at side i).coding → sizes.plan ≡ plan_in side i f → sizes.bits ≡ bits_in side i f → sizes.padded ≡ padded_in side i f → AreSizes side i f sizes
sizes_are side i f sizes good channel format coding plan bits padded =
    let code : Coding = (channel_at side i).coding in
    let x : ℕ = joined_in side i f in
    let is = shape_is side i f (record { coding = sizes.coding; plan = sizes.plan; bits = sizes.bits; padded = sizes.padded }) good channel format coding plan bits padded in
    let blocks : sizes.plan.blocks ≡ (plan_of x code).blocks = ap (λ (p : Plan). p.blocks) plan in
    let filler : sizes.plan.filler ≡ (plan_of x code).filler = ap (λ (p : Plan). p.filler) plan in
    let size : sizes.plan.size ≡ (plan_of x code).size = ap (λ (p : Plan). p.size) plan in
    record {
      coding = coding;
      plan = plan;
      bits = bits;
      padded = padded;
      whole = is.whole;
      fits = is.fits;
      small = omega (arith, is.within, is.few);
      few_blocks = is.few_blocks;
      filler = λ some. omega (arith, filler, size, filler_inside x code (omega (arith, some, blocks)));
      plain = λ un. filler ∙ no_filler x code (sym coding ∙ un);
      short = is.short;
    }
