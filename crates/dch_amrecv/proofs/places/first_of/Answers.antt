use Rattle.std.proofs.Common.{◌∙◌, ap, sym, option_copied}
use Rattle.dch_amrecv.proofs.Fronts.{first_some, kept_some, kept_within}
use Rattle.dch_amrecv.proofs.Seeing.{copied_some}
use Rattle.dch_amrecv.proofs.places.first_of.Goals as goal

pub unwrap-requires : goal.unwrap-requires
unwrap-requires c = sym (copied_some c.get.result) ∙ first_some (option_copied c.get.result) c.args.ring.now.items (kept_within c.args.ring.now.items 0 c.requires) c.get.ensures

pub unwrap-requires-2 : goal.unwrap-requires-2
unwrap-requires-2 c = c.as_ref.ensures.variant ∙ (sym (kept_some c.args.ring.now.items 0 c.unwrap.result.now (sym c.get.ensures ∙ ap option_copied c.unwrap.ensures)) ∙ c.requires)
