use Rattle.std.proofs.Common.{length, arith, sym, ◌∙◌}
use Rattle.dch_collision.proofs.Collide.{short-code, few-asked, lost-start, lost-first, nearest-first, nearest-none}
use Rattle.dch_collision.proofs.Linear.{first-inside}
use Rattle.dch_collision.proofs.coded.starts.Goals as goal

pub nearest-requires-clause-few : goal.nearest-requires-clause-few
nearest-requires-clause-few c =
    omega (arith, few-asked c.args.sent_flags.now c.fill.new.votes c.first_output-at.result (omega arith) c.fill.ensures (omega (arith, first-inside c.args.rate (length c.args.out.now) c.args.k c.requires.inside)), short-code c.args.rate (length c.args.out.now) c.requires.short)

pub returns-clause-found : goal.returns-clause-found
returns-clause-found c = λ none.
    nearest-first c.args.rate c.args.sent_flags.now (length c.args.out.now) c.args.k c.first_output-at.result c.nearest.result c.fill.new.votes c.nearest.new.out c.first_output-at.ensures c.requires.inside (omega arith) c.requires.coded c.fill.ensures (lost-first c.args.rate c.args.sent_flags.now c.first_output-at.result c.args.k c.first_output-at.ensures (sym c.is_punctured.ensures ∙ c.if-not-is_punctured.false)) c.nearest.ensures.nearest c.nearest.ensures.copies none

pub returns-clause-none : goal.returns-clause-none
returns-clause-none c = λ some other hidden.
    nearest-none c.args.rate c.args.sent_flags.now (length c.args.out.now) c.args.k c.first_output-at.result c.nearest.result c.fill.new.votes c.nearest.new.out c.first_output-at.ensures c.requires.inside (omega arith) c.requires.coded c.fill.ensures c.nearest.ensures.nearest c.nearest.ensures.copies some other hidden

pub returns-then-not-is_punctured-clause-none : goal.returns-then-not-is_punctured-clause-none
returns-then-not-is_punctured-clause-none c = λ same other hidden.
    lost-start c.args.rate c.args.sent_flags.now (length c.args.out.now) c.args.k other c.requires.inside (sym c.is_punctured.ensures ∙ c.if-not-is_punctured.true) hidden
