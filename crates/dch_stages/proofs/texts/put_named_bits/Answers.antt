use Rattle.dch_stages.proofs.texts.put_named_bits.Goals as goal

pub returns : goal.returns
returns g c = let joined = g.met.P.Page.joined in record { text = joined _ _ _ _ _ (joined _ _ _ _ _ (joined _ _ _ _ _ c.put_text.ensures c.put_text-2.ensures) c.put_bits.ensures) c.put_text-3.ensures }
