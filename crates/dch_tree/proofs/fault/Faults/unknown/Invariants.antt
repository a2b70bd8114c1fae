use Rattle.std.proofs.Common.{◌≡◌, map}
use Rattle.toml.specs.View.{members_view, table_view}
use Rattle.dch_tree.specs.Faults.{first_found}
use Rattle.dch_tree.specs.Tables.{unknown}
use Rattle.dch_tree.proofs.fault.Faults.unknown.Given as goal

abbrev pub invariant-loop-key : goal.invariant-loop-key
invariant-loop-key l =
    (goal.iterator-loop-key).can_next l.key-iterator × (goal.iterator-loop-key).is_finite l.key-iterator
    × (first_found l.self.first (unknown l.path (map (λ k. k.now) l.known) (members_view l.key-iterator))
    ≡ first_found l.fn.self.first (unknown l.path (map (λ k. k.now) l.known) (table_view l.table)))
