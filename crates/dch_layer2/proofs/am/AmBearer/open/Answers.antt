use Rattle.std.proofs.Common.{subst, sym}
use Rattle.dch_layer2.specs.Shapes.{IsWhole}
use Rattle.dch_layer2.proofs.Fitting.{am_fit}
use Rattle.dch_layer2.proofs.am.AmBearer.open.Goals as goal

pub open-requires-clause-least : goal.open-requires-clause-least
open-requires-clause-least c = let fit = am_fit c.args.accepted.now.config c.args.out c.args.bearer c.bearer_of-it.ensures.good c.requires.there c.requires.mode in rw c.shape_on-shape.ensures fit.least

pub open-requires-clause-most : goal.open-requires-clause-most
open-requires-clause-most c = let fit = am_fit c.args.accepted.now.config c.args.out c.args.bearer c.bearer_of-it.ensures.good c.requires.there c.requires.mode in rw c.shape_on-shape.ensures fit.most

pub open-requires-clause-comes : goal.open-requires-clause-comes
open-requires-clause-comes c = let fit = am_fit c.args.accepted.now.config c.args.into c.args.bearer c.bearer_of-it.ensures.good c.requires.there c.requires.mode in rw c.shape_on-comes.ensures fit.most

pub new-requires : goal.new-requires
new-requires c = record {
  octets = c.in_ok-entity.ensures.size;
  whole = let fit = am_fit c.args.accepted.now.config c.args.out c.args.bearer c.bearer_of-it.ensures.good c.requires.there c.requires.mode in subst IsWhole (sym c.shape_on-shape.ensures) fit.whole;
  settled = c.in_ok-entity.ensures.settled;
}
