use Rattle.std.proofs.Common.{subst, sym}
use Rattle.dch_combine.specs.Opened.{IsCombinerOf}
use Rattle.dch_combine.specs.Values.{Combiner}
use Rattle.dch_combine.specs.contracts.combiner.Combiner.{the_view}
use Rattle.dch_combine.proofs.Sets.{set_changed, set_here}
use Rattle.dch_combine.proofs.combiner.Combiner.take.Goals as goal

pub take-requires-clause-opened : goal.take-requires-clause-opened
take-requires-clause-opened c =
    let opened : IsCombinerOf c.args.accepted.now (the_view c.self.inside) = subst (λ (k : Combiner). IsCombinerOf c.args.accepted.now k) (sym c.self.view_is) c.requires.opened in
    set_here c.args.accepted.now.config c.self.inside.legs c.self.inside.sets.items c.index_of.result c.args.set c.index_mut.result.now opened.sets c.index_of.ensures.value c.index_of.ensures.inside c.index_mut.ensures.value

pub returns-clause-opened : goal.returns-clause-opened
returns-clause-opened c =
    let opened : IsCombinerOf c.args.accepted.now (the_view c.self.inside) = subst (λ (k : Combiner). IsCombinerOf c.args.accepted.now k) (sym c.self.view_is) c.requires.opened in
    record {
      sets = set_changed c.args.accepted.now.config c.self.inside.legs c.self.inside.sets.items c.index_of.result c.args.set c.index_mut.result.now c.take.new.self opened.sets c.index_of.ensures.value c.index_of.ensures.inside c.index_mut.ensures.value c.take.ensures.opened;
      room = opened.room;
    }
