use Rattle.dch_top.specs.declared.arguments.Subcommand.TheVariants.{Check, Encode, Gen, Pair}
use Rattle.dch_top.proofs.Checks.{good_answered, refused_answered}
use Rattle.dch_top.proofs.Commands.{runs_as}
use Rattle.dch_top.proofs.Complete.{completes}
use Rattle.dch_top.proofs.GenComplete.{gen_answered}
use Rattle.dch_top.proofs.LinkHandled.{units_handled}
use Rattle.dch_top.proofs.LinkUnits.{units_carried}
use Rattle.dch_top.proofs.NodeComplete.{events_answered}
use Rattle.dch_top.proofs.PairComplete.{pair_answered}
use Rattle.dch_top.proofs.command.run.Goals as goal

pub returns-clause-complete : goal.returns-clause-complete
returns-clause-complete g c asks = completes _ _ _ _ _ _ _ _ c.follow_words.result ((runs_as _ _ _ _ _ Encode c.follow_words.ensures asks).0)

pub returns-clause-events : goal.returns-clause-events
returns-clause-events g c arguments says = events_answered _ _ _ _ _ _ _ _ arguments.subcommand arguments _ c.follow_words.result (c.follow_words.ensures.runs arguments says)

pub returns-clause-paired : goal.returns-clause-paired
returns-clause-paired g c asks = pair_answered _ _ _ _ _ _ _ _ c.follow_words.result ((runs_as _ _ _ _ _ Pair c.follow_words.ensures asks).0)

pub returns-clause-summed : goal.returns-clause-summed
returns-clause-summed g c asks = gen_answered _ _ _ _ c.follow_words.result ((runs_as _ _ _ _ _ Gen c.follow_words.ensures asks).ends)

pub returns-clause-good : goal.returns-clause-good
returns-clause-good g c asks = good_answered _ _ _ _ _ _ _ _ c.follow_words.result ((runs_as _ _ _ _ _ Check c.follow_words.ensures asks).0)

pub returns-clause-refused : goal.returns-clause-refused
returns-clause-refused g c asks = refused_answered _ _ _ _ _ _ _ _ c.follow_words.result ((runs_as _ _ _ _ _ Check c.follow_words.ensures asks).0)

pub returns-clause-headline : goal.returns-clause-headline
returns-clause-headline g c arguments says is well = units_carried arguments.subcommand arguments _ _ _ c.follow_words.result (c.follow_words.ensures.runs arguments says) is well

pub returns-clause-handled : goal.returns-clause-handled
returns-clause-handled g c arguments says is = units_handled arguments.subcommand arguments _ _ _ c.follow_words.result (c.follow_words.ensures.runs arguments says) is
