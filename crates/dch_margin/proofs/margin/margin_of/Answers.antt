use Rattle.std.proofs.Common.{subst}
use Rattle.dch_collision.specs.Directions.{copies_in, side_in}
use Rattle.dch_margin.specs.Differ.{IsLeastInFormat}
use Rattle.dch_margin.specs.Margins.{IsFinding}
use Rattle.dch_margin.specs.declared.format.Finding.{Finding}
use Rattle.dch_margin.proofs.Visits.{format_least}
use Rattle.dch_margin.proofs.margin.margin_of.Goals as goal

pub returns-in-Found-clause-margin : goal.returns-in-Found-clause-margin
returns-in-Found-clause-margin c =
    let side = side_in c.args.direction in
    let is : IsLeastInFormat side (copies_in c.args.direction) c.args.i c.args.f c.find.new.best c.in-Found.least =
    subst (λ (finding : Finding). IsFinding side (copies_in c.args.direction) c.args.i c.args.f c.find.new.best finding) c.in-Found.is c.in_ok-least.ensures.finding in
    record {
      distance = c.in-Found.least.cells;
      least = format_least side (copies_in c.args.direction) c.args.i c.args.f c.find.new.best c.in-Found.least is;
      half = c.less_than_half.ensures;
    }
