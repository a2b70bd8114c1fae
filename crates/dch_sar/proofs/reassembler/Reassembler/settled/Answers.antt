use Rattle.std.proofs.Common.{◌∙◌, ap, sym, length}
use Rattle.std.specs.Prelude.{◌==◌}
use Rattle.dch_sar.proofs.Cuts.{length-cut}
use Rattle.dch_sar.proofs.reassembler.Reassembler.settled.Goals as goal

pub returns : goal.returns
returns c = c.is_empty.ensures ∙ ap (λ n. n == 0) (sym (length-cut c.self.inside.sizes.items c.self.inside.octets.items)) ∙ ap (λ r. length r.waiting == 0) c.self.view_is
