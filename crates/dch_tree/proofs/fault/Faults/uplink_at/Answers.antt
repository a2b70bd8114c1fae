use Rattle.std.proofs.Common.{◌≡◌, Some, None}
use Rattle.std.proofs.lemmas.Result.{on_ok_weaker}
use Rattle.std.specs.Prelude.{codes}
use Rattle.toml.specs.View.{table_view}
use Rattle.dch_tree.specs.Tables.{table_at}
use Rattle.dch_tree.specs.Sides.{uplink_faults, uplink_of, side_from}
use Rattle.dch_tree.specs.Tables.{items_values}
use Rattle.dch_tree.proofs.Parts.{found_table, no_table, table_there, table_missing}
use Rattle.dch_tree.proofs.fault.Faults.uplink_at.Goals as goal

pub returns-in-Some-clause-first : goal.returns-in-Some-clause-first
returns-in-Some-clause-first c =
    let there : table_at (codes "uplink") (table_view c.args.tree.now) ≡ Some (table_view c.in-Some.table.now) =
    found_table (λ t. table_view t.now) c.in_ok-found.found (codes "uplink") (table_view c.args.tree.now) c.in-Some.table c.in_ok-found.ensures.value c.in-Some.is in
    on_ok_weaker c.uplink.result (λ first. table_there _ _ _ uplink_faults (codes "uplink") (table_view c.args.tree.now) _ there c.in_ok-found.ensures.first first) c.uplink.ensures.first

pub returns-in-None-clause-value : goal.returns-in-None-clause-value
unfolding uplink_of side_from items_values
returns-in-None-clause-value c =
    let none : table_at (codes "uplink") (table_view c.args.tree.now) ≡ None =
    no_table (λ t. table_view t.now) c.in_ok-found.found (codes "uplink") (table_view c.args.tree.now) c.in_ok-found.ensures.value c.in-None.is in
    rw c.empty_side.ensures (table_missing uplink_of (codes "uplink") (table_view c.args.tree.now) none)
