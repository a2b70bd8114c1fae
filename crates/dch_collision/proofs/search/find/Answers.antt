use Rattle.std.proofs.Common.{◌∙◌, length, arith, ap, refl, below_more}
use Rattle.dch_types.specs.declared.channel.Side.{Side}
use Rattle.dch_collision.specs.Directions.{copies_in, side_in}
use Rattle.dch_collision.specs.Clear.{IsClearChannel}
use Rattle.dch_collision.proofs.Under.{found_of}
use Rattle.dch_collision.proofs.search.find.Goals as goal

pub returns-in-Some-clause-found : goal.returns-in-Some-clause-found
returns-in-Some-clause-found c =
    found_of (side_in c.args.direction) (copies_in c.args.direction) c.loop-i.i c.first_in_channel.new.sequence c.first_in_channel.new.block c.in-Some.hit c.in_ok-found_collision.field-0 c.in_ok-found_collision.ensures
    (omega (arith, c.loop-i-test.true, c.len-i-end.ensures, ap (λ (side : Side). length side.channels) c.side-side.ensures.value)) c.in-Some.ensures.some c.loop-i.invariant.none

pub loop-i-preserved : goal.loop-i-preserved
loop-i-preserved c = record {
  none = below_more (λ i. IsClearChannel (side_in c.args.direction) (copies_in c.args.direction) i) c.loop-i.i c.loop-i.invariant.none (c.in_default.ensures.none refl);
  kept = c.first_in_channel.ensures.kept ∙ c.loop-i.invariant.kept;
}

pub returns-clause-found : goal.returns-clause-found
returns-clause-found c i inside = c.loop-i.invariant.none i (omega (arith, inside, c.loop-i-test.false, c.len-i-end.ensures, ap (λ (side : Side). length side.channels) c.side-side.ensures.value))
