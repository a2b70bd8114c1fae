use Rattle.dch_stages.proofs.texts.put_placed_cells.Goals as goal

pub returns : goal.returns
returns g c = let joined = g.met.P.Page.joined in record { text = joined _ _ _ _ _ (joined _ _ _ _ _ (joined _ _ _ _ _ (joined _ _ _ _ _ (joined _ _ _ _ _ (joined _ _ _ _ _ (joined _ _ _ _ _ c.put_text.ensures c.put_text-2.ensures) c.put_decimal.ensures) c.put_text-3.ensures) c.put_decimal-2.ensures) c.put_text-4.ensures) c.put_cells.ensures) c.put_text-5.ensures }
