use Rattle.std.proofs.Common.{◌≡◌, ◌<◌, length, ap, ◌∙◌, arith, get_or-set_same, length-set}
use Rattle.dch_types.specs.Parts.{format_number}
use Rattle.dch_collision.proofs.Following.{fits_format}
use Rattle.dch_collision.proofs.Chains.{some_frames}
use Rattle.dch_collision.proofs.Filling.{all_filled}
use Rattle.dch_collision.proofs.NextSequences.{first_is, none_is}
use Rattle.dch_collision.proofs.legal_sequences.first.Goals as goal

pub fill-requires-clause-format : goal.fill-requires-clause-format
fill-requires-clause-format c =
    let some : 0 < length c.args.out.now = omega (arith, some_frames c.args.side.now c.args.channel c.requires.good c.requires.channel) in
    ap (λ k. format_number c.args.side.now k c.args.channel) (get_or-set_same c.args.out.now 0 c.in-Some.combination 0 some)
    ∙ fits_format c.args.side.now c.args.channel c.args.format 0 0 c.in-Some.combination c.in-Some.ensures.some.may

pub returns-in-None-clause-none : goal.returns-in-None-clause-none
returns-in-None-clause-none c not_found =
    none_is c.args.side.now c.args.channel c.args.format c.requires.good (some_frames c.args.side.now c.args.channel c.requires.good c.requires.channel) (c.least.ensures.none c.in-None.is)

pub returns-in-Some-clause-found : goal.returns-in-Some-clause-found
returns-in-Some-clause-found c found =
    let some : 0 < length c.args.out.now = omega (arith, some_frames c.args.side.now c.args.channel c.requires.good c.requires.channel) in
    let whole : length c.fill.new.sequence ≡ length c.args.out.now = c.fill.auto.sequence ∙ length-set c.args.out.now 0 c.in-Some.combination in
    first_is c.args.side.now c.args.channel c.args.format c.fill.new.sequence c.requires.good (whole ∙ c.requires.room)
    (all_filled c.args.side.now c.args.channel c.args.format c.fill.new.sequence c.in-Some.combination
    (c.fill.ensures.same 0 (omega arith) ∙ get_or-set_same c.args.out.now 0 c.in-Some.combination 0 some)
    c.in-Some.ensures.some c.fill.ensures.least)
