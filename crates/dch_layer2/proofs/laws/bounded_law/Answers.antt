use Rattle.dch_layer2.proofs.BoundedLayers.{all_bounded, blocks_bounded, offers_bounded, opened_are, start_bounded, ticks_bounded}
use Rattle.dch_layer2.proofs.laws.bounded_law.Goals as goal

pub returns : goal.returns
returns c = record {
  opened = opened_are;
  offers = offers_bounded;
  blocks = blocks_bounded;
  ticks = ticks_bounded;
  starts = start_bounded;
  takes = all_bounded;
}
