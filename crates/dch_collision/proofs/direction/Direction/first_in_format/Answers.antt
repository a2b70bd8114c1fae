use Rattle.std.proofs.Common.{sym, subst}
use Rattle.dch_collision.specs.Clear.{IsClearFormat}
use Rattle.dch_collision.specs.Directions.{copies_in, side_in}
use Rattle.dch_collision.specs.declared.direction.Direction.{Direction}
use Rattle.dch_collision.proofs.direction.Direction.first_in_format.Goals as goal

pub returns-in-Up-clause-none : goal.returns-in-Up-clause-none
returns-in-Up-clause-none c none = subst (λ (d : Direction). IsClearFormat (side_in d) (copies_in d) c.args.i c.args.f) (sym c.in-Up.is) (c.first_in_format.ensures.none none)

pub returns-in-Down-clause-none : goal.returns-in-Down-clause-none
returns-in-Down-clause-none c none = subst (λ (d : Direction). IsClearFormat (side_in d) (copies_in d) c.args.i c.args.f) (sym c.in-Down.is) (c.first_in_format-in-Down.ensures.none none)
