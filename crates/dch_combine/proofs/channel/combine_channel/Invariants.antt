use Rattle.dch_combine.specs.Steps.{AreCombined, IsSameShape}
use Rattle.dch_combine.specs.Values.{frames_in}
use Rattle.dch_combine.proofs.channel.combine_channel.Given as goal

abbrev pub invariant-loop-b : goal.invariant-loop-b
invariant-loop-b l = record {
  combined : AreCombined (frames_in l.legs) l.channel l.lead l.b l.tti;
  shape : IsSameShape l.initial.tti l.tti;
}
