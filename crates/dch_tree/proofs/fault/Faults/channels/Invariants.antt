use Rattle.std.proofs.Common.{◌≡◌, ◌++◌, drop}
use Rattle.std.specs.Prelude.{codes}
use Rattle.toml.specs.View.{items_view}
use Rattle.dch_tree.specs.Faults.{first_found}
use Rattle.dch_tree.specs.Tables.{items_faults, items_values}
use Rattle.dch_tree.specs.Channels.{channel_faults, channel_of}
use Rattle.dch_tree.proofs.fault.Faults.channels.Given as goal

abbrev pub invariant-loop-i : goal.invariant-loop-i
invariant-loop-i l = record {
  first : first_found l.self.first (items_faults channel_faults l.path (codes "channel") l.i (items_view (drop l.i l.items)))
      ≡ first_found l.fn.self.first (items_faults channel_faults l.path (codes "channel") 0 (items_view l.items));
  value : l.channels ++ items_values channel_of (items_view (drop l.i l.items)) ≡ items_values channel_of (items_view l.items);
}
