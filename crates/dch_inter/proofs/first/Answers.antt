use Rattle.std.proofs.Common.{ap, ◌∙◌, ◌+◌, ◌*◌, ◌/◌, ◌%◌}
use Rattle.dch_inter.specs.Places.{first_of, first_back_of}
use Rattle.dch_inter.proofs.FirstColumns.{first_back_of-first, first_of_row}
use Rattle.dch_inter.proofs.first.Goals as goal

pub returns-clause-value : goal.returns-clause-value
unfolding first_of
returns-clause-value c = ap (λ n. c.args.k % (c.args.len / c.args.f) * c.args.f + n) c.column.ensures.value

pub returns-clause-undone : goal.returns-clause-undone
returns-clause-undone c = ap (first_back_of c.args.f c.args.len) (returns-clause-value c) ∙ first_back_of-first c.args.f c.args.len c.args.k c.requires.frames c.requires.divides c.requires.inside

pub returns-clause-by_columns : goal.returns-clause-by_columns
returns-clause-by_columns c n j row place = returns-clause-value c ∙ ap (first_of c.args.f c.args.len) place ∙ first_of_row c.args.f c.args.len n j row
