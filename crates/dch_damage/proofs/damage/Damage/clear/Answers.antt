use Rattle.std.proofs.Common.{◌≡◌, ◌∙◌, List, subst}
use Rattle.std.proofs.lemmas.List.{with_items_is}
use Rattle.std.specs.Vec.{with_items}
use Rattle.dch_damage.specs.contracts.damage.Damage.{the_view}
use Rattle.dch_damage.specs.Opened.{AreClearedTo}
use Rattle.dch_damage.specs.Tables.{IubTables}
use Rattle.dch_damage.proofs.Sizes.{cleared_as_long, still_opened}
use Rattle.dch_damage.proofs.damage.Damage.clear.Goals as goal

pub returns-clause-opened : goal.returns-clause-opened
returns-clause-opened c =
    let up = c.self.inside.up_sets in
    let down = c.self.inside.down_sets in
    let up_written : (with_items up c.clear_sets.new.sets).items ≡ c.clear_sets.new.sets = with_items_is up c.clear_sets.new.sets (c.clear_sets.auto.sets ∙ c.deref_mut.ensures.len) in
    let down_written : (with_items down c.clear_sets-2.new.sets).items ≡ c.clear_sets-2.new.sets =
    with_items_is down c.clear_sets-2.new.sets (c.clear_sets-2.auto.sets ∙ c.deref_mut-2.ensures.len) in
    let up_cleared : AreClearedTo 8 up.items c.clear_sets.new.sets =
    subst (λ (old : List IubTables). AreClearedTo 8 old c.clear_sets.new.sets) c.deref_mut.ensures.value c.clear_sets.ensures in
    let down_cleared : AreClearedTo 8 down.items c.clear_sets-2.new.sets =
    subst (λ (old : List IubTables). AreClearedTo 8 old c.clear_sets-2.new.sets) c.deref_mut-2.ensures.value c.clear_sets-2.ensures in
    rw (← c.self.view_is, c.clear.ensures, c.clear-2.ensures, up_written, down_written)
    (λ planned is. still_opened planned (the_view c.self.inside) _ (cleared_as_long (the_view c.self.inside) c.clear_sets.new.sets c.clear_sets-2.new.sets up_cleared down_cleared) is)
