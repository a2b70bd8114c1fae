use Rattle.dch_lines.proofs.text.put_coded.Goals as goal

pub returns : goal.returns
returns g c = let joined = g.met.P.Page.joined in joined _ _ _ _ _ c.put_text.ensures c.put_bits.ensures
