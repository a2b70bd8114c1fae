use Rattle.std.proofs.Common.{◌≡◌, Bool, false, Option, Some, None, take, map}
use Rattle.std.specs.List.{list_any}
use Rattle.toml.specs.View.{items_view}
use Rattle.dch_tree.specs.declared.side.SetTti.{SetTti}
use Rattle.dch_tree.specs.Faults.{first_found}
use Rattle.dch_tree.specs.Tables.{indexed}
use Rattle.dch_tree.specs.Sides.{sets_and_ttis, set_faults}
use Rattle.dch_tree.proofs.fault.Faults.sets.Given as goal

abbrev pub invariant-loop-i : goal.invariant-loop-i
invariant-loop-i l = record {
  first : l.self.first ≡ first_found l.fn.self.first (indexed (set_faults l.path (sets_and_ttis (items_view l.items))) l.i);
  seen : (test : Option SetTti → Bool) → test None ≡ false
      → list_any test (map (λ other. Some other) l.seen.items) ≡ list_any test (take l.i (sets_and_ttis (items_view l.items)));
}
