use Rattle.std.proofs.Common.{drop, sym, ap, ◌∙◌, length}
use Rattle.dch_rlcpdu.specs.Halves.{halves}
use Rattle.dch_rlcpdu.proofs.Walks.{length-listed}
use Rattle.dch_rlcpdu.proofs.view.StatusView.fields.Goals as goal

pub returns : goal.returns
returns c = sym (length-listed c.self.inside.fields (drop 1 (halves c.self.inside.octets.now))) ∙ ap length c.self.view_is
