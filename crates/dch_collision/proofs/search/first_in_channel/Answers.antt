use Rattle.std.proofs.Common.{◌∙◌, length, arith, ap, refl, subst, below_more}
use Rattle.dch_types.specs.declared.channel.Side.{Side}
use Rattle.dch_types.specs.declared.channel.Trch.{Trch}
use Rattle.dch_types.specs.Limits.{IsSide}
use Rattle.dch_types.specs.Parts.{channel_at}
use Rattle.dch_collision.specs.Directions.{copies_in, side_in}
use Rattle.dch_collision.specs.Clear.{IsClearFormat}
use Rattle.dch_collision.proofs.Under.{hit_in_channel, clear_channel}
use Rattle.dch_collision.proofs.search.first_in_channel.Goals as goal

pub returns-in-Some-clause-some : goal.returns-in-Some-clause-some
returns-in-Some-clause-some c =
    hit_in_channel (side_in c.args.direction) (copies_in c.args.direction) c.args.i c.loop-f.f c.first_in_format.new.sequence c.first_in_format.new.block c.in-Some.hit c.in-Some.ensures.some c.loop-f.invariant.none

pub loop-f-preserved : goal.loop-f-preserved
loop-f-preserved c = record {
  none = below_more (λ f. IsClearFormat (side_in c.args.direction) (copies_in c.args.direction) c.args.i f) c.loop-f.f c.loop-f.invariant.none (c.in_default.ensures.none refl);
  kept = c.first_in_format.ensures.kept ∙ c.loop-f.invariant.kept;
}

pub returns-clause-none : goal.returns-clause-none
returns-clause-none c same =
    let good : IsSide (side_in c.args.direction) = subst IsSide c.side-side.ensures.value c.side-side.ensures.good in
    clear_channel (side_in c.args.direction) (copies_in c.args.direction) c.args.i good c.requires.channel
    (λ f inside. c.loop-f.invariant.none f (omega (arith, inside, c.loop-f-test.false, c.len-f-end.ensures, ap (λ (t : Trch). length t.formats) (c.channel.ensures.value ∙ ap (channel_at c.side-side.result.now) c.from.ensures ∙ ap (λ (side : Side). channel_at side c.args.i) c.side-side.ensures.value))))
