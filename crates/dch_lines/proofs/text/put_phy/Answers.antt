use Rattle.dch_script.specs.Report.{phy_text}
use Rattle.dch_lines.proofs.text.put_phy.Goals as goal

pub returns : goal.returns
unfolding phy_text
returns g c = let joined = g.met.P.Page.joined in joined _ _ _ _ _ (joined _ _ _ _ _ (joined _ _ _ _ _ (joined _ _ _ _ _ (joined _ _ _ _ _ c.put_text.ensures c.put_dir.ensures) c.put_text-2.ensures) c.put_bits.ensures) c.put_text-3.ensures) c.put_cells.ensures
