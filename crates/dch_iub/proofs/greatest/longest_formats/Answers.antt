use Rattle.std.proofs.Common.{◌≡◌, ◌≢◌, ◌<◌, ℕ, List, length, arith, sym, subst, below_more, get_or-set_other, get_or-set_same}
use Rattle.std.specs.Prelude.{slice_index, slice_set}
use Rattle.std.proofs.Math.ListN.{length-set}
use Rattle.dch_types.specs.Parts.{channel_at}
use Rattle.dch_iub.specs.Longest.{IsGreatest}
use Rattle.dch_iub.proofs.greatest.longest_formats.Goals as goal

pub loop-i-preserved : goal.loop-i-preserved
loop-i-preserved c =
    let i : ℕ = c.loop-i.i in
    let old : List ℕ = c.loop-i.numbers in
    let number : ℕ = c.longest_format.result in
    let new : List ℕ = slice_set old i number in
    let P : ℕ → ℕ → Type 0 = λ j n. IsGreatest c.args.dir (channel_at c.args.side.now j) (length (channel_at c.args.side.now j).formats) n in
    let room : i < length old = omega (arith, c.loop-i.invariant.long, c.requires.few) in
    let here : slice_index new i ≡ number = rw get_or-set_same in record {
      long = rw length-set c.loop-i.invariant.long;
      each = below_more (λ j. P j (slice_index new j)) i
          (λ j early. let other : j ≢ i = omega arith in
          let same : slice_index new j ≡ slice_index old j = rw get_or-set_other in
          subst (λ (n : ℕ). P j n) (sym same) (c.loop-i.invariant.each j early))
          (subst (λ (n : ℕ). P i n) (sym here) c.longest_format.ensures);
    }
