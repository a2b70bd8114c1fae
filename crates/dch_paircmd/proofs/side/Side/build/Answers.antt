use Rattle.std.proofs.Common.{◌≡◌, ◌∙◌, subst, sym}
use Rattle.dch_reset.specs.Standing.{Represents, size_of}
use Rattle.dch_reset.specs.State.{Build, IsWritten, step, turn}
use Rattle.dch_paircmd.specs.Handlers.{IsSide, SideValue}
use Rattle.dch_paircmd.specs.contracts.side.Side.{the_view}
use Rattle.dch_paircmd.proofs.side.Side.build.Goals as goal

pub returns-clause-written : goal.returns-clause-written
returns-clause-written c rules s is =
    let here : IsSide rules (the_view c.self.inside) s = subst (λ (v : SideValue). IsSide rules v s) (sym c.self.view_is) is in
    let size : size_of c.self.inside.end ≡ s.size = sym c.self.invariant.size_is ∙ here.size in
    subst (λ n. IsWritten (turn rules s.state) rules n c.build.new.out s.state) size (c.build.ensures.written rules s.state here.end)

pub returns-clause-stands : goal.returns-clause-stands
returns-clause-stands c rules s is =
    let here : IsSide rules (the_view c.self.inside) s = subst (λ (v : SideValue). IsSide rules v s) (sym c.self.view_is) is in
    let size : size_of c.self.inside.end ≡ s.size = sym c.self.invariant.size_is ∙ here.size in
    record {
      end = subst (λ n. Represents rules c.build.new.self (step rules n s.state Build)) size (c.build.ensures.stands rules s.state here.end);
      size = here.size;
      coming = here.coming;
    }
