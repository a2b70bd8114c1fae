use Rattle.std.proofs.Common.{subst}
use Rattle.std.specs.Prelude.{codes}
use Rattle.dch_script.specs.Report.{cells_shown}
use Rattle.dch_stages.specs.Texts.{numbered_text}
use Rattle.dch_stages.proofs.frame_lines.put_interleaved_code.Goals as goal

pub returns : goal.returns
returns g c = record {
  text = subst (λ xs. g.P.Page.writes c.args.page.now (numbered_text (codes "interleaved") c.args.u (cells_shown xs)) c.put_numbered_cells.new.page) c.part_of-cells.ensures.part c.put_numbered_cells.ensures.text;
}
