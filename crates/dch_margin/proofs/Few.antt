-- The cells of a code block.
use Rattle.std.proofs.Common.{◌≡◌, ◌≢◌, ◌+◌, ◌<◌, ◌≤◌, ◌^◌, ℕ, List, length, get_or, arith}
use Rattle.std.proofs.lemmas.List.{get_or_default}
use Rattle.std.proofs.lemmas.List.Sums.{sum_by-le}
use Rattle.dch_bits.specs.declared.bit.Vote.{Vote}
use Rattle.dch_types.specs.declared.channel.Coding.{Coding}
use Rattle.dch_types.specs.declared.channel.Coding.TheVariants.{Uncoded, Half, Third}
use Rattle.dch_types.specs.Lengths.{coded_block}
use Rattle.dch_types.proofs.Sizes.{coded_block-le}
use Rattle.dch_trellis.specs.Nearest.{copies, all_copies}
use Rattle.dch_trellis.specs.Search.{no_votes}
use Rattle.dch_trellis.specs.Distance.{copies_at}
use Rattle.dch_margin.specs.Counts.{AreCounts}

few_at : (votes : List Vote) (j : ℕ) (v : Vote) → AreCounts (copies_at votes) votes → j < length votes → (get_or votes j v).zeros + (get_or votes j v).ones ≤ 460800
few_at votes j v counts inside = rw (get_or_default votes j v no_votes inside) (omega (arith, (counts j inside).few))

pub few_copies : (coding : Coding) (votes : List Vote) (size : ℕ) → size ≤ 504 → length votes ≡ coded_block coding size → AreCounts (copies_at votes) votes → all_copies votes < 2 ^ 31
few_copies coding votes size short long counts = omega (arith, coded_block-le coding size, long, sum_by-le copies 460800 votes (λ j v inside. few_at votes j v counts inside))

pub half_is_coded : (coding : Coding) → coding ≡ Half → coding ≢ Uncoded
half_is_coded coding is same = cc

pub third_is_coded : (coding : Coding) → coding ≡ Third → coding ≢ Uncoded
third_is_coded coding is same = cc

pub fewer_copies : (coding : Coding) (votes : List Vote) (size : ℕ) → size ≤ 504 → length votes ≡ coded_block coding size → AreCounts (copies_at votes) votes → all_copies votes < 2 ^ 30
fewer_copies coding votes size short long counts = omega (arith, coded_block-le coding size, long, sum_by-le copies 460800 votes (λ j v inside. few_at votes j v counts inside))
