use Rattle.std.proofs.Common.{◌≡◌, ◌∙◌, ap, subst, sym}
use Rattle.dch_accept.specs.Blocks.{HoldsTtis}
use Rattle.dch_combine.specs.Opened.{IsCombinerOf}
use Rattle.dch_combine.specs.Taken.{Gives}
use Rattle.dch_combine.specs.Values.{Combiner, SetCombiner, frames_in, set_at}
use Rattle.dch_combine.specs.contracts.combiner.Combiner.{the_view}
use Rattle.dch_combine.proofs.Sets.{set_changed, set_here, set_is}
use Rattle.dch_combine.proofs.combiner.Combiner.give.Goals as goal

pub give-requires-clause-opened : goal.give-requires-clause-opened
give-requires-clause-opened c =
    let opened : IsCombinerOf c.args.accepted.now (the_view c.self.inside) = subst (λ (k : Combiner). IsCombinerOf c.args.accepted.now k) (sym c.self.view_is) c.requires.opened in
    set_here c.args.accepted.now.config c.self.inside.legs c.self.inside.sets.items c.index_of.result c.args.set c.index_mut.result.now opened.sets c.index_of.ensures.value c.index_of.ensures.inside c.index_mut.ensures.value

pub returns-clause-gives : goal.returns-clause-gives
returns-clause-gives c =
    let opened : IsCombinerOf c.args.accepted.now (the_view c.self.inside) = subst (λ (k : Combiner). IsCombinerOf c.args.accepted.now k) (sym c.self.view_is) c.requires.opened in
    let is : c.index_mut.result.now ≡ set_at c.args.self.now.sets c.args.set =
    set_is c.args.accepted.now.config c.self.inside.legs c.self.inside.sets.items c.index_of.result c.args.set c.index_mut.result.now opened.sets c.index_of.ensures.value c.index_of.ensures.inside c.index_mut.ensures.value ∙ ap (λ (k : Combiner). set_at k.sets c.args.set) c.self.view_is in
    subst (λ (s : SetCombiner). Gives c.args.accepted.now.config c.args.set c.args.cfn (frames_in s.legs) c.args.out.now c.give.new.out c.give.result) is c.give.ensures.gives

pub returns-clause-opened : goal.returns-clause-opened
returns-clause-opened c =
    let opened : IsCombinerOf c.args.accepted.now (the_view c.self.inside) = subst (λ (k : Combiner). IsCombinerOf c.args.accepted.now k) (sym c.self.view_is) c.requires.opened in
    record {
      sets = set_changed c.args.accepted.now.config c.self.inside.legs c.self.inside.sets.items c.index_of.result c.args.set c.index_mut.result.now c.give.new.self opened.sets c.index_of.ensures.value c.index_of.ensures.inside c.index_mut.ensures.value c.give.ensures.opened;
      room = subst (λ n. HoldsTtis c.args.accepted.now.config.uplink.side n) (sym c.give.ensures.room) opened.room;
    }
