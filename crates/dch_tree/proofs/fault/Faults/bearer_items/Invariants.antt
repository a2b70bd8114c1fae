use Rattle.std.proofs.Common.{◌≡◌, ◌++◌, drop, []}
use Rattle.std.specs.Prelude.{codes}
use Rattle.toml.specs.View.{items_view}
use Rattle.dch_tree.specs.Faults.{first_found}
use Rattle.dch_tree.specs.Tables.{items_faults, items_values}
use Rattle.dch_tree.specs.Bearers.{bearer_faults, bearer_of}
use Rattle.dch_tree.proofs.fault.Faults.bearer_items.Given as goal

abbrev pub invariant-loop-i : goal.invariant-loop-i
invariant-loop-i l = record {
  first : first_found l.self.first (items_faults (bearer_faults l.ups l.downs) [] (codes "bearer") l.i (items_view (drop l.i l.items)))
      ≡ first_found l.fn.self.first (items_faults (bearer_faults l.ups l.downs) [] (codes "bearer") 0 (items_view l.items));
  value : l.bearers ++ items_values (bearer_of l.ups l.downs) (items_view (drop l.i l.items)) ≡ items_values (bearer_of l.ups l.downs) (items_view l.items);
}
