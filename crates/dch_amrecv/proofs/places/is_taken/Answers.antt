use Rattle.std.proofs.Common.{◌∙◌, ap, sym, option_copied}
use Rattle.dch_amrecv.proofs.Fronts.{kept_some, kept_none}
use Rattle.dch_amrecv.proofs.places.is_taken.Goals as goal

pub returns-in-Some : goal.returns-in-Some
returns-in-Some c = c.is_some.ensures ∙ sym (kept_some c.args.ring.now.items c.args.i c.in-Some.place.now (sym c.get.ensures ∙ ap option_copied c.in-Some.is))

pub returns-in-None : goal.returns-in-None
returns-in-None c = sym (kept_none c.args.ring.now.items c.args.i (sym c.get.ensures ∙ ap option_copied c.in-None.is))
