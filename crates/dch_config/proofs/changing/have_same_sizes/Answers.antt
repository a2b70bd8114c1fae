use Rattle.std.proofs.Common.{ap, sym, ◌∙◌, ◌&&◌}
use Rattle.std.specs.List.{list_all}
use Rattle.dch_config.proofs.SameSizes.{is_among, same_sizes}
use Rattle.dch_config.proofs.changing.have_same_sizes.Goals as goal

pub returns-then-sends_sizes : goal.returns-then-sends_sizes
returns-then-sends_sizes c =
    same_sizes c.args.formats.now c.args.others.now c.sends_sizes-then-sends_sizes.result
    (ap (λ a. a && list_all (is_among c.args.formats.now) c.args.others.now) (sym c.sends_sizes.ensures ∙ c.if-sends_sizes.true) ∙ sym c.sends_sizes-then-sends_sizes.ensures)

pub returns-else-sends_sizes : goal.returns-else-sends_sizes
returns-else-sends_sizes c =
    same_sizes c.args.formats.now c.args.others.now c.sends_sizes.result
    (ap (λ a. a && list_all (is_among c.args.formats.now) c.args.others.now) (sym c.sends_sizes.ensures ∙ c.if-sends_sizes.false) ∙ sym c.if-sends_sizes.false)
