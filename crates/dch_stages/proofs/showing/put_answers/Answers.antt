use Rattle.std.proofs.Common.{◌≡◌, ◌∙◌, List, ℕ, arith, subst, sym}
use Rattle.dch_stages.specs.Rules.{answer_line}
use Rattle.dch_stages.specs.Handlers.{asks}
use Rattle.dch_stages.specs.Texts.{lines_to}
use Rattle.dch_stages.proofs.Lines.{no_lines, one_more}
use Rattle.dch_stages.proofs.showing.put_answers.Goals as goal

pub loop-k-init : goal.loop-k-init
loop-k-init g c =
    let showing = c.args.showing.now in
    (subst (λ (t : List ℕ). g.P.Page.writes c.args.page.now t c.args.page.now) (sym (no_lines (answer_line showing.accepted (asks showing showing.asked)))) (g.met.P.Page.nothing c.args.page.now), c.requires.rooms)

pub loop-k-preserved : goal.loop-k-preserved
loop-k-preserved g c =
    let showing = c.args.showing.now in (
      subst (λ (t : List ℕ). g.P.Page.writes c.args.page.now t c.put_answer.new.page) (sym (one_more (answer_line showing.accepted (asks showing showing.asked)) c.loop-k.k))
          (g.met.P.Page.joined _ _ _ _ _ c.loop-k.invariant.0 c.put_answer.ensures.text),
      c.put_answer.ensures.rooms,
    )

pub returns-clause-text : goal.returns-clause-text
returns-clause-text g c =
    let showing = c.args.showing.now in
    let last : c.loop-k.k ≡ c.lines-k-end.result = omega (arith, c.loop-k-test.false, c.loop-k.auto.k-end) in
    subst (λ (n : ℕ). g.P.Page.writes c.args.page.now (lines_to (answer_line showing.accepted (asks showing showing.asked)) n) c.loop-k.page) (last ∙ c.lines-k-end.ensures) c.loop-k.invariant.0
