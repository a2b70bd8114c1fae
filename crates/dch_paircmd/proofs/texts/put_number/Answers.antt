use Rattle.dch_paircmd.specs.Texts.{number_text}
use Rattle.dch_paircmd.proofs.texts.put_number.Goals as goal

pub returns : goal.returns
unfolding number_text
returns g c = let joined = g.met.P.Page.joined in joined _ _ _ _ _ (joined _ _ _ _ _ (joined _ _ _ _ _ (joined _ _ _ _ _ c.put_text.ensures c.put_letter.ensures) c.put_text-2.ensures) c.put_small.ensures) c.put_text-3.ensures
