use Rattle.std.proofs.Common.{subst}
use Rattle.std.specs.Prelude.{codes}
use Rattle.dch_script.specs.Report.{cells_shown}
use Rattle.dch_stages.specs.Texts.{named_text}
use Rattle.dch_stages.proofs.tti_lines.put_interleaved.Goals as goal

pub returns : goal.returns
returns g c = record {
  text = subst (λ xs. g.P.Page.writes c.args.page.now (named_text (codes "interleaved") (cells_shown xs)) c.put_named_cells.new.page) c.cells.ensures c.put_named_cells.ensures.text;
}
