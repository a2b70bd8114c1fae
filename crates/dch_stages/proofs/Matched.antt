-- What rate matching keeps of each uplink channel, as a part of the multiplexed cells.
use Rattle.std.proofs.Common.{◌≡◌, ◌+◌, ◌-◌, ◌<◌, ◌≤◌, ℕ, zero, suc, List, length, take, drop, map, arith, refl, ◌∙◌, inl, inr, length-take, length-drop}
use Rattle.std.specs.Prelude.{nat_lt, true, false, slice_index}
use Rattle.std.specs.List.{range_with_len}
use Rattle.std.proofs.lemmas.Bool.{cases_lt}
use Rattle.std.proofs.lemmas.Bool.Decides.{nat_tests}
use Rattle.std.proofs.lemmas.List.{get_or-drop, get_or-take}
use Rattle.std.proofs.lemmas.List.FromFn.{fill_by_all, get_or-map-range_with_len, length-map-range_with_len}
use Rattle.dch_bits.specs.declared.bit.Trit.{Trit}
use Rattle.dch_bits.specs.declared.bit.Trit.TheVariants.{Off}
use Rattle.dch_types.proofs.Sums.{part_le}
use Rattle.dch_types.specs.declared.channel.Dir.TheVariants.{Up}
use Rattle.dch_accept.specs.Plans.{Planned}
use Rattle.dch_collision.specs.Plans.{plan_at}
use Rattle.dch_tti.specs.Loaded.{Loaded}
use Rattle.dch_ulphy.specs.Frames.{bits_before, multiplexed_cell, sent_cell}
use Rattle.dch_stages.specs.FrameLines.{matched_cells, multiplexed, multiplexed_cells}

-- the multiplexed cell of a kept place of a channel
multiplexed_cell-at : (planned : Planned) (tti : List Loaded) (cfn c n i q : ℕ) → i < n → q < slice_index (plan_at planned.uplink c).sent i → multiplexed_cell planned tti cfn c n (bits_before (plan_at planned.uplink c) i + q) ≡ sent_cell planned tti cfn c i q
unfolding multiplexed_cell
multiplexed_cell-at planned tti cfn c zero i q inside kept = absurd (omega arith)
multiplexed_cell-at planned tti cfn c (suc n) i q inside kept =
    let before : ℕ → ℕ = λ k. bits_before (plan_at planned.uplink c) k in
    elim (cases_lt i n) [
      | inl early ↦
          let place : before i + q < before n = omega (arith, kept, part_le (slice_index (plan_at planned.uplink c).sent) i n early) in
          let test : nat_lt (before i + q) (before n) ≡ true = grind (arith, nat_tests, place) in
          rw test (multiplexed_cell-at planned tti cfn c n i q early kept)
      | inr late ↦
          let same : i ≡ n = omega (arith, inside, late) in
          let test : nat_lt (before n + q) (before n) ≡ false = grind (arith, nat_tests) in
          let place : before n + q - before n ≡ q = omega arith in
          rw (same, test, place) refl
    ]

-- the cells that are kept of a channel follow those of the channels before it
pub matched_is : (planned : Planned) (tti : List Loaded) (cfn c i count : ℕ) → i < length planned.config.uplink.side.channels → bits_before (plan_at planned.uplink c) i + slice_index (plan_at planned.uplink c).sent i ≤ count → take (slice_index (plan_at planned.uplink c).sent i) (drop (bits_before (plan_at planned.uplink c) i) (multiplexed_cells planned Up tti cfn c count)) ≡ matched_cells planned tti cfn c i
unfolding matched_cells multiplexed_cells
matched_is planned tti cfn c i count channel room =
    let size : ℕ = slice_index (plan_at planned.uplink c).sent i in
    let before : ℕ = bits_before (plan_at planned.uplink c) i in
    let all : List Trit = map (multiplexed planned Up tti cfn c) (range_with_len 0 count) in
    let long : length all ≡ count = length-map-range_with_len (multiplexed planned Up tti cfn c) 0 count in
    let part_long : length (take size (drop before all)) ≡ size = omega (arith, room, long, length-take size (drop before all), length-drop before all) in
    fill_by_all (sent_cell planned tti cfn c i) (take size (drop before all)) size Off part_long
    (λ q inside. get_or-take size (drop before all) q Off inside ∙ get_or-drop before all q Off
    ∙ get_or-map-range_with_len (multiplexed planned Up tti cfn c) 0 count (before + q) (before + q) Off (omega (arith, inside, room)) (omega arith)
    ∙ multiplexed_cell-at planned tti cfn c (length planned.config.uplink.side.channels) i q channel inside)
