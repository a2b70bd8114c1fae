use Rattle.dch_lines.proofs.text.put_line.Goals as goal

pub returns : goal.returns
returns g c = let joined = g.met.P.Page.joined in joined _ _ _ _ _ c.put_words.ensures c.put_text.ensures
