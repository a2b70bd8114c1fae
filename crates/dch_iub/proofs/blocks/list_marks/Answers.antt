use Rattle.std.proofs.Common.{◌≡◌, ◌+◌, ◌<◌, ◌≤◌, ◌∙◌, ℕ, List, length, arith, ap, sym, subst, below_more}
use Rattle.std.specs.Prelude.{if◌then◌else◌, ◌==◌, slice_index}
use Rattle.dch_bits.specs.declared.bit.Bit.{Bit}
use Rattle.dch_types.specs.Parts.{channel_at, format_at}
use Rattle.dch_accept.specs.Blocks.{Held}
use Rattle.dch_accept.specs.HeldSets.{held_at}
use Rattle.dch_iub.specs.Shape.{marks_before, format_in}
use Rattle.dch_iub.specs.Steps.{AreListed}
use Rattle.dch_iub.proofs.Fronts.{listed_front}
use Rattle.dch_iub.proofs.Sums.{sum_before-fits, marks_before-fits, marks_before-next}
use Rattle.dch_iub.proofs.blocks.list_marks.Goals as goal

pub list_channel-at-requires-clause-room : goal.list_channel-at-requires-clause-room
list_channel-at-requires-clause-room c =
    let side = c.args.side.now in
    let numbers : List ℕ = c.args.numbers.now in
    let i : ℕ = c.loop-i.i in
    let inside : i < length side.channels = omega arith in
    let named : c.channel.result.now.format ≡ slice_index numbers i = ap (λ (h : Held). h.format) c.channel.ensures ∙ sym (c.requires.numbered i inside) in
    let fits = marks_before-fits side c.args.set numbers i c.channel.result.now.format named inside in
    omega (arith, fits, c.loop-i.invariant.place, c.requires.room)

pub loop-i-preserved : goal.loop-i-preserved
loop-i-preserved c =
    let side = c.args.side.now in
    let set : ℕ = c.args.set in
    let held = c.args.blocks.now in
    let numbers : List ℕ = c.args.numbers.now in
    let i : ℕ = c.loop-i.i in
    let at : ℕ = c.loop-i.at in
    let out : List Bit = c.loop-i.out in
    let new : List Bit = c.list_channel-at.new.out in
    let inside : i < length side.channels = omega arith in
    let named : c.channel.result.now.format ≡ slice_index numbers i = ap (λ (h : Held). h.format) c.channel.ensures ∙ sym (c.requires.numbered i inside) in
    let place : at ≡ marks_before side set numbers i = c.loop-i.invariant.place in record {
      place = c.list_channel-at.ensures.next ∙ ap (λ p. p + (if (channel_at side i).set == set then (format_at (channel_at side i) c.channel.result.now.format).number else 0)) place
          ∙ sym (marks_before-next side set numbers i c.channel.result.now.format named);
      collected = below_more (λ j. (channel_at side j).set ≡ set → AreListed new (marks_before side set numbers j) (length (held_at held.blocks j).good) (held_at held.blocks j)) i
          (λ j early member.
          let there : j < length side.channels = omega arith in
          let count : length (held_at held.blocks j).good ≡ (format_in side numbers j).number =
          (c.requires.formats j there member).count ∙ ap (λ n. (format_at (channel_at side j) n).number) (sym (c.requires.numbered j there)) in
          let fits : marks_before side set numbers j + (format_in side numbers j).number ≤ marks_before side set numbers i =
          sum_before-fits side set (λ k. (format_in side numbers k).number) j i early member in
          listed_front at new out (marks_before side set numbers j) (length (held_at held.blocks j).good) (held_at held.blocks j) (omega (arith, count, fits, place)) c.list_channel-at.ensures.before
          (c.loop-i.invariant.collected j early member))
          (λ member. subst (λ (h : Held). AreListed new (marks_before side set numbers i) (length h.good) h) c.channel.ensures
          (subst (λ (p : ℕ). AreListed new p (length c.channel.result.now.good) c.channel.result.now) place (c.list_channel-at.ensures.listed member)));
    }
