use Rattle.std.proofs.Common.{◌+◌, ◌<◌, ◌^◌, [], get_or, ap, sym, subst, ◌∙◌}
use Rattle.dch_trellis.specs.Classes.{by_zero_near, lesser_near, row_near}
use Rattle.dch_trellis.proofs.Split.{row_after, row_kept, row_written}
use Rattle.dch_trellis.proofs.tiny.fill_row.Goals as goal

pub least_metrics-requires-clause-room : goal.least_metrics-requires-clause-room
least_metrics-requires-clause-room c = λ s small.
    subst (λ later. get_or later s 0 + c.args.total < 2 ^ 8) (sym (row_after c.args.rows.now c.split_at_mut-front.result.1.now c.args.k c.split_at_mut-front.ensures.by_index.1)) (c.requires.room s small)

pub zero_metrics-requires-clause-room : goal.zero_metrics-requires-clause-room
zero_metrics-requires-clause-room c = λ s small.
    subst (λ later. get_or later s 0 + c.args.total < 2 ^ 8) (sym (row_after c.args.rows.now c.split_at_mut-front.result.1.now c.args.k c.split_at_mut-front.ensures.by_index.1)) (c.requires.room s small)

pub returns-then-free-clause-same : goal.returns-then-free-clause-same
returns-then-free-clause-same c = row_kept c.args.rows.now c.split_at_mut-front.result.0.now c.split_at_mut-front.result.1.now c.args.k c.least_metrics.new.path_metrics c.split_at_mut-front.ensures.value c.split_at_mut-front.ensures.front_len

pub returns-then-free-clause-row : goal.returns-then-free-clause-row
returns-then-free-clause-row c = λ s small.
    ap (λ row. get_or row s 0) (row_written c.split_at_mut-front.result.0.now c.split_at_mut-front.result.1.now c.args.k c.least_metrics.new.path_metrics c.split_at_mut-front.ensures.front_len)
    ∙ c.least_metrics.ensures s small
    ∙ ap (λ later. lesser_near later c.args.near.now c.args.total s) (row_after c.args.rows.now c.split_at_mut-front.result.1.now c.args.k c.split_at_mut-front.ensures.by_index.1)
    ∙ ap (λ free. row_near free (get_or c.args.rows.now (c.args.k + 1) []) c.args.near.now c.args.total s) (sym c.if-free.true)

pub returns-else-free-clause-same : goal.returns-else-free-clause-same
returns-else-free-clause-same c = row_kept c.args.rows.now c.split_at_mut-front.result.0.now c.split_at_mut-front.result.1.now c.args.k c.zero_metrics.new.path_metrics c.split_at_mut-front.ensures.value c.split_at_mut-front.ensures.front_len

pub returns-else-free-clause-row : goal.returns-else-free-clause-row
returns-else-free-clause-row c = λ s small.
    ap (λ row. get_or row s 0) (row_written c.split_at_mut-front.result.0.now c.split_at_mut-front.result.1.now c.args.k c.zero_metrics.new.path_metrics c.split_at_mut-front.ensures.front_len)
    ∙ c.zero_metrics.ensures s small
    ∙ ap (λ later. by_zero_near later c.args.near.now c.args.total s) (row_after c.args.rows.now c.split_at_mut-front.result.1.now c.args.k c.split_at_mut-front.ensures.by_index.1)
    ∙ ap (λ free. row_near free (get_or c.args.rows.now (c.args.k + 1) []) c.args.near.now c.args.total s) (sym c.if-free.false)
