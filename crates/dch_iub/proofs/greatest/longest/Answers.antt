use Rattle.std.proofs.Common.{◌<◌, ◌≤◌, ℕ, List, length, sym, subst}
use Rattle.dch_iub.specs.Shape.{frame_octets}
use Rattle.std.specs.Prelude.{slice_index}
use Rattle.dch_types.specs.declared.channel.Side.{Side}
use Rattle.dch_types.specs.Parts.{channel_at, side_of}
use Rattle.dch_iub.specs.Longest.{IsGreatest}
use Rattle.dch_iub.proofs.Weights.{frame_octets-le}
use Rattle.dch_iub.proofs.greatest.longest.Goals as goal

pub returns : goal.returns
returns c =
    let config = c.args.accepted.now.config in
    let dir = c.args.dir in
    let numbers : List ℕ = c.longest_formats-numbers.result in
    let known : (i : ℕ) → i < length (side_of config dir).channels → IsGreatest dir (channel_at (side_of config dir) i) (length (channel_at (side_of config dir) i).formats) (slice_index numbers i) =
    subst (λ (side : Side). (i : ℕ) → i < length side.channels → IsGreatest dir (channel_at side i) (length (channel_at side i).formats) (slice_index numbers i)) c.side.ensures.value c.longest_formats-numbers.ensures in record {
      numbers = numbers;
      formats = λ i inside member. (known i inside).there;
      reached = sym c.frame_octets.ensures;
      most = λ others formats. subst (λ n. frame_octets config dir c.args.set others ≤ n) (sym c.frame_octets.ensures)
          (frame_octets-le config dir c.args.set others numbers (λ i inside member. (known i inside).most (slice_index others i) (formats i inside member)));
    }
