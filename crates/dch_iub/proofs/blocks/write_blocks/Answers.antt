use Rattle.std.proofs.Common.{◌≡◌, ◌+◌, ◌*◌, ◌<◌, ◌≤◌, ◌∙◌, ℕ, List, length, take, arith, ap, sym, subst, below_more}
use Rattle.std.specs.Prelude.{if◌then◌else◌, ◌==◌, slice_index}
use Rattle.std.specs.Int.{div_ceil}
use Rattle.dch_types.specs.Parts.{channel_at, format_at}
use Rattle.dch_accept.specs.Blocks.{Held}
use Rattle.dch_accept.specs.HeldSets.{held_at}
use Rattle.dch_accept.specs.Padded.{format_octets}
use Rattle.dch_iub.specs.Shape.{blocks_place, format_in, octets_before}
use Rattle.dch_iub.specs.Steps.{ArePacked}
use Rattle.dch_iub.proofs.Fronts.{front_less, all_packed_front}
use Rattle.dch_iub.proofs.Sums.{sum_before-fits, blocks_place-fits, blocks_place-next, channel_octets}
use Rattle.dch_iub.proofs.blocks.write_blocks.Goals as goal

pub write_channel-at-requires-clause-room : goal.write_channel-at-requires-clause-room
write_channel-at-requires-clause-room c =
    let side = c.args.side.now in
    let numbers : List ℕ = c.args.numbers.now in
    let i : ℕ = c.loop-i.i in
    let inside : i < length side.channels = omega arith in
    let named : c.channel.result.now.format ≡ slice_index numbers i = ap (λ (h : Held). h.format) c.channel.ensures ∙ sym (c.requires.numbered i inside) in
    let fits = blocks_place-fits side c.args.set numbers i c.channel.result.now.format named inside in
    omega (arith, fits, c.loop-i.invariant.place, c.requires.room)

pub loop-i-preserved : goal.loop-i-preserved
loop-i-preserved c =
    let side = c.args.side.now in
    let set : ℕ = c.args.set in
    let held = c.args.blocks.now in
    let numbers : List ℕ = c.args.numbers.now in
    let i : ℕ = c.loop-i.i in
    let at : ℕ = c.loop-i.at in
    let out : List ℕ = c.loop-i.out in
    let new : List ℕ = c.write_channel-at.new.out in
    let inside : i < length side.channels = omega arith in
    let named : c.channel.result.now.format ≡ slice_index numbers i = ap (λ (h : Held). h.format) c.channel.ensures ∙ sym (c.requires.numbered i inside) in
    let place : at ≡ blocks_place side set numbers i = c.loop-i.invariant.place in
    let before : take at new ≡ take at out = c.write_channel-at.ensures.before in record {
      place = c.write_channel-at.ensures.next ∙ ap (λ p. p + (if (channel_at side i).set == set then format_octets (format_at (channel_at side i) c.channel.result.now.format) else 0)) place
          ∙ sym (blocks_place-next side set numbers i c.channel.result.now.format named);
      written = below_more (λ j. (channel_at side j).set ≡ set → ArePacked new (blocks_place side set numbers j) (length (held_at held.blocks j).good) (held_at held.blocks j)) i
          (λ j early member.
          let there : j < length side.channels = omega arith in
          let octets : length (held_at held.blocks j).good * div_ceil (held_at held.blocks j).size 8 ≡ format_octets (format_in side numbers j) =
          channel_octets (channel_at side j) (held_at held.blocks j) (slice_index numbers j) (c.requires.formats j there member) (sym (c.requires.numbered j there)) in
          let fits : octets_before side set numbers j + format_octets (format_in side numbers j) ≤ octets_before side set numbers i =
          sum_before-fits side set (λ k. format_octets (format_in side numbers k)) j i early member in
          all_packed_front at new out (blocks_place side set numbers j) (length (held_at held.blocks j).good) (held_at held.blocks j) (omega (arith, octets, fits, place)) before
          (c.loop-i.invariant.written j early member))
          (λ member. subst (λ (h : Held). ArePacked new (blocks_place side set numbers i) (length h.good) h) c.channel.ensures
          (subst (λ (p : ℕ). ArePacked new p (length c.channel.result.now.good) c.channel.result.now) place (c.write_channel-at.ensures.packed member)));
      before = front_less c.args.header at new out (omega (arith, place, c.requires.header)) before ∙ c.loop-i.invariant.before;
    }
