use Rattle.std.proofs.Common.{◌≡◌, Some, None}
use Rattle.std.proofs.lemmas.Result.{on_ok_weaker}
use Rattle.std.specs.Prelude.{codes}
use Rattle.toml.specs.View.{table_view}
use Rattle.dch_tree.specs.Tables.{table_at}
use Rattle.dch_tree.specs.Sides.{downlink_faults, downlink_of, side_from}
use Rattle.dch_tree.specs.Tables.{items_values}
use Rattle.dch_tree.proofs.Parts.{found_table, no_table, table_there, table_missing}
use Rattle.dch_tree.proofs.fault.Faults.downlink_at.Goals as goal

pub returns-in-Some-clause-first : goal.returns-in-Some-clause-first
returns-in-Some-clause-first c =
    let there : table_at (codes "downlink") (table_view c.args.tree.now) ≡ Some (table_view c.in-Some.table.now) =
    found_table (λ t. table_view t.now) c.in_ok-found.found (codes "downlink") (table_view c.args.tree.now) c.in-Some.table c.in_ok-found.ensures.value c.in-Some.is in
    on_ok_weaker c.downlink.result (λ first. table_there _ _ _ downlink_faults (codes "downlink") (table_view c.args.tree.now) _ there c.in_ok-found.ensures.first first) c.downlink.ensures.first

pub returns-in-None-clause-value : goal.returns-in-None-clause-value
unfolding downlink_of side_from items_values
returns-in-None-clause-value c =
    let none : table_at (codes "downlink") (table_view c.args.tree.now) ≡ None =
    no_table (λ t. table_view t.now) c.in_ok-found.found (codes "downlink") (table_view c.args.tree.now) c.in_ok-found.ensures.value c.in-None.is in
    rw c.empty_side.ensures (table_missing downlink_of (codes "downlink") (table_view c.args.tree.now) none)
