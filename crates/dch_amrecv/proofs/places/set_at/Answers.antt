use Rattle.std.proofs.Common.{◌∙◌, ap, sym, arith}
use Rattle.std.specs.Option.{option_copied_mut}
use Rattle.dch_amrecv.proofs.Fronts.{kept_some}
use Rattle.dch_amrecv.proofs.Putting.{get_inside, none_of}
use Rattle.dch_amrecv.proofs.places.set_at.Goals as goal

pub returns-in-Some-clause-none : goal.returns-in-Some-clause-none
returns-in-Some-clause-none c =
    c.replace.ensures.value
    ∙ none_of c.in-Some.place.now (sym (kept_some c.args.ring.now.items c.args.i c.in-Some.place.now (sym c.get_mut.ensures.value ∙ ap option_copied_mut c.in-Some.is)) ∙ c.requires.vacant)

pub returns-in-None-clause-ring : goal.returns-in-None-clause-ring
returns-in-None-clause-ring c = let no = get_inside c.args.ring.now.items c.args.i c.requires.place (sym c.get_mut.ensures.value ∙ ap option_copied_mut c.in-None.is) in absurd (omega (arith, no))

pub returns-in-None-clause-none : goal.returns-in-None-clause-none
returns-in-None-clause-none c = let no = get_inside c.args.ring.now.items c.args.i c.requires.place (sym c.get_mut.ensures.value ∙ ap option_copied_mut c.in-None.is) in absurd (omega (arith, no))
