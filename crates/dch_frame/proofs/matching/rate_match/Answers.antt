use Rattle.std.proofs.Common.{◌≡◌, length, get_or, ap, ◌∙◌, sym, arith}
use Rattle.dch_frame.specs.declared.pattern.Kind.{Kind}
use Rattle.dch_frame.specs.declared.pattern.Kind.TheVariants.{Repeat, Puncture}
use Rattle.dch_frame.specs.Patterns.{copies_below}
use Rattle.dch_frame.proofs.Changes.{below-same}
use Rattle.dch_frame.proofs.KeptBits.{kept_all, origin_of-same}
use Rattle.dch_frame.proofs.matching.rate_match.Goals as goal

pub copy_from_slice-requires : goal.copy_from_slice-requires
copy_from_slice-requires g c = c.requires.room ∙ ap (λ (kind : Kind). copies_below kind c.args.pattern.now.len) c.in-Same.is ∙ below-same c.args.pattern.now.len ∙ sym c.requires.bits

pub returns-in-Same : goal.returns-in-Same
returns-in-Same g c k d inside =
    let long : length c.copy_from_slice.new.self ≡ length c.args.bits.now = ap length c.copy_from_slice.ensures.after in
    let same = origin_of-same c.args.pattern.now k c.in-Same.is (omega (arith, inside, long, c.requires.bits)) in
    ap (λ out. get_or out k d) c.copy_from_slice.ensures.after ∙ ap (λ k. get_or c.args.bits.now k d) (sym same)

pub returns-in-Repeat : goal.returns-in-Repeat
returns-in-Repeat g c k d inside = kept_all c.args.pattern.now (Repeat c.in-Repeat.steps) c.args.bits.now c.repeat_bits.new.out (length c.repeat_bits.new.out) k d c.in-Repeat.is c.requires.bits c.repeat_bits.ensures inside

pub returns-in-Puncture : goal.returns-in-Puncture
returns-in-Puncture g c k d inside = kept_all c.args.pattern.now (Puncture c.in-Puncture.steps) c.args.bits.now c.puncture_bits.new.out (length c.puncture_bits.new.out) k d c.in-Puncture.is c.requires.bits c.puncture_bits.ensures inside
