use Rattle.std.proofs.Common.{◌≡◌, ◌+◌, ◌≤◌, ◌∙◌, ℕ, List, length, take, arith, ap, sym, below_more}
use Rattle.std.specs.Prelude.{if◌then◌else◌, ◌==◌, slice_index}
use Rattle.dch_types.specs.declared.channel.Side.{Side}
use Rattle.dch_types.specs.Parts.{channel_at}
use Rattle.dch_iub.specs.Shape.{number_place, sum_before}
use Rattle.dch_iub.proofs.Fronts.{front_less, front_at}
use Rattle.dch_iub.proofs.Sums.{sum_before-next, sum_before-up, sum_before-fits}
use Rattle.dch_iub.proofs.header.write_numbers.Goals as goal

-- the place after channel i
next_place : (side : Side) (set : ℕ) (i : ℕ) → number_place side set (i + 1) ≡ number_place side set i + (if (channel_at side i).set == set then 1 else 0)
next_place side set i = let step = sum_before-next side set (λ j. 1) i in omega (arith, step)

pub write_number-at-requires-clause-room : goal.write_number-at-requires-clause-room
write_number-at-requires-clause-room c =
    let side = c.args.side.now in
    let i : ℕ = c.loop-i.i in
    let next = next_place side c.args.set i in
    let up : sum_before side c.args.set (λ j. 1) (i + 1) ≤ sum_before side c.args.set (λ j. 1) (length side.channels) =
    sum_before-up side c.args.set (λ j. 1) (i + 1) (length side.channels) (omega arith) in
    omega (arith, next, up, c.loop-i.invariant.place, c.requires.room)

pub loop-i-preserved : goal.loop-i-preserved
loop-i-preserved c =
    let side = c.args.side.now in
    let set : ℕ = c.args.set in
    let numbers : List ℕ = c.args.numbers.now in
    let i : ℕ = c.loop-i.i in
    let at : ℕ = c.loop-i.at in
    let out : List ℕ = c.loop-i.out in
    let new : List ℕ = c.write_number-at.new.out in
    let place : at ≡ number_place side set i = c.loop-i.invariant.place in
    let before : take at new ≡ take at out = c.write_number-at.ensures.before in
    let next : c.write_number-at.result ≡ number_place side set (i + 1) =
    c.write_number-at.ensures.next ∙ ap (λ p. p + (if (channel_at side i).set == set then 1 else 0)) place ∙ sym (next_place side set i) in record {
      place = next;
      few = omega (arith, c.write_number-at.ensures.most, c.loop-i.invariant.few);
      named = below_more (λ j. (channel_at side j).set ≡ set → slice_index new (number_place side set j) ≡ slice_index numbers j) i
          (λ j early member.
          let fits : sum_before side set (λ k. 1) j + 1 ≤ sum_before side set (λ k. 1) i = sum_before-fits side set (λ k. 1) j i early member in
          front_at at new out (number_place side set j) 0 (omega (arith, fits, place)) before ∙ c.loop-i.invariant.named j early member)
          (λ member. ap (slice_index new) (sym place) ∙ c.write_number-at.ensures.named member);
      before = front_less 2 at new out (omega (arith, place)) before ∙ c.loop-i.invariant.before;
    }
