use Rattle.std.proofs.Common.{sym, ◌∙◌, subst, arith}
use Rattle.dch_mac.specs.Candidates.{IsCandidate}
use Rattle.dch_mac.specs.Choices.{IsBestOf}
use Rattle.dch_mac.proofs.Order.{passed, replaced, begun, later}
use Rattle.dch_mac.proofs.moment.Moment.better.Goals as goal

pub returns-then-not-is_candidate : goal.returns-then-not-is_candidate
returns-then-not-is_candidate c = passed c.args.self.now c.args.c c.args.best c.requires.best (λ may. let wrong = c.is_candidate.ensures.1 may in cc)

pub returns-then-is_better : goal.returns-then-is_better
returns-then-is_better c =
    let below = subst (IsBestOf c.args.self.now c.args.c) c.in-Some.is c.requires.best in
    let candidate : IsCandidate c.args.self.now c.choice-choice.result.combination = subst (IsCandidate c.args.self.now) (sym c.choice-choice.ensures.number) (c.is_candidate.ensures.0 c.if-not-is_candidate.false) in
    replaced c.args.self.now c.args.c c.in-Some.earlier c.choice-choice.result below c.choice-choice.ensures.choice c.choice-choice.ensures.number candidate
    (later c.args.self.now c.choice-choice.result c.in-Some.earlier c.choice-choice.ensures.choice below.what (omega (arith, below.below)) ∙ sym c.is_better.ensures ∙ c.if-is_better.true)

pub returns-in-None : goal.returns-in-None
returns-in-None c =
    let none = subst (IsBestOf c.args.self.now c.args.c) c.in-None.is c.requires.best in
    let candidate : IsCandidate c.args.self.now c.choice-choice.result.combination = subst (IsCandidate c.args.self.now) (sym c.choice-choice.ensures.number) (c.is_candidate.ensures.0 c.if-not-is_candidate.false) in
    begun c.args.self.now c.args.c c.choice-choice.result none c.choice-choice.ensures.choice c.choice-choice.ensures.number candidate
