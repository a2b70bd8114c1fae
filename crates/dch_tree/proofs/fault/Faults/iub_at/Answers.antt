use Rattle.std.proofs.Common.{◌≡◌, Some, None}
use Rattle.std.proofs.lemmas.Result.{on_ok_weaker}
use Rattle.std.specs.Prelude.{codes}
use Rattle.toml.specs.View.{table_view}
use Rattle.dch_tree.specs.Tables.{table_at}
use Rattle.dch_tree.specs.Documents.{iub_faults, iub_of}
use Rattle.dch_tree.proofs.Parts.{found_table, no_table, table_there, table_missing}
use Rattle.dch_tree.proofs.fault.Faults.iub_at.Goals as goal

pub returns-in-Some-clause-first : goal.returns-in-Some-clause-first
returns-in-Some-clause-first c =
    let there : table_at (codes "iub") (table_view c.args.tree.now) ≡ Some (table_view c.in-Some.table.now) =
    found_table (λ t. table_view t.now) c.in_ok-found.found (codes "iub") (table_view c.args.tree.now) c.in-Some.table c.in_ok-found.ensures.value c.in-Some.is in
    on_ok_weaker c.iub.result (λ first. table_there _ _ _ iub_faults (codes "iub") (table_view c.args.tree.now) _ there c.in_ok-found.ensures.first first) c.iub.ensures.first

pub returns-in-None-clause-value : goal.returns-in-None-clause-value
unfolding iub_of
returns-in-None-clause-value c =
    let none : table_at (codes "iub") (table_view c.args.tree.now) ≡ None =
    no_table (λ t. table_view t.now) c.in_ok-found.found (codes "iub") (table_view c.args.tree.now) c.in_ok-found.ensures.value c.in-None.is in
    table_missing iub_of (codes "iub") (table_view c.args.tree.now) none
