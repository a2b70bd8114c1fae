use Rattle.dch_script.specs.Report.{pair_text}
use Rattle.dch_lines.proofs.text.put_pair.Goals as goal

pub returns : goal.returns
unfolding pair_text
returns g c = let joined = g.met.P.Page.joined in joined _ _ _ _ _ (joined _ _ _ _ _ c.put_place.ensures c.put_text.ensures) c.put_small.ensures
