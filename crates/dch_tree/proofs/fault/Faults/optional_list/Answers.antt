use Rattle.std.proofs.lemmas.Result.{on_ok_weaker, IfOk-weaker}
use Rattle.toml.specs.Data.{as_array, get_member}
use Rattle.toml.specs.View.{items_view, table_view}
use Rattle.dch_tree.proofs.Seen.{optional_seen, value_seen}
use Rattle.dch_tree.proofs.fault.Faults.optional_list.Goals as goal

pub returns-clause-first : goal.returns-clause-first
returns-clause-first c = on_ok_weaker c.optional.result (λ first. optional_seen (λ items. items_view items.now) _ _ _ _ _ c.items_at.ensures first) c.optional.ensures.first

pub returns-clause-value : goal.returns-clause-value
returns-clause-value c =
    IfOk-weaker c.optional.result _ _ (λ items value. value_seen (λ s. items_view s.now) _ items c.items_at.result as_array (get_member c.args.key.now (table_view c.args.table.now)) c.items_at.ensures value)
    c.optional.ensures.value
