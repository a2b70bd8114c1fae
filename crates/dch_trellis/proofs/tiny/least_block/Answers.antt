use Rattle.std.proofs.Common.{◌≡◌, ◌+◌, ◌-◌, ◌*◌, ◌<◌, ℕ, get_or, sym, ap, ap₂, ◌∙◌, arith}
use Rattle.std.specs.Prelude.{min}
use Rattle.dch_trellis.proofs.Classes.{lesser_near-even, lesser_near-odd}
use Rattle.dch_trellis.proofs.tiny.least_block.Goals as goal

pub returns-clause-even : goal.returns-clause-even
returns-clause-even c = λ i low high.
    let j : ℕ = i - c.args.at in
    let place : 2 * c.args.at + 2 * j ≡ 2 * i = omega arith in
    let here : c.args.at + j ≡ i = omega arith in
    let there : 128 + c.args.at + j ≡ 128 + i = omega arith in
    let small : j < 16 = omega arith in
    let near : get_or c.lanes_at-near.result j 0 ≡ get_or c.args.near.now i 0 = c.lanes_at-near.ensures.value j small ∙ ap (λ n. get_or c.args.near.now n 0) here in
    let first : get_or c.lanes_at-low.result j 0 ≡ get_or c.args.later.now i 0 = c.lanes_at-low.ensures.value j small ∙ ap (λ n. get_or c.args.later.now n 0) here in
    let second : get_or c.lanes_at-high.result j 0 ≡ get_or c.args.later.now (128 + i) 0 = c.lanes_at-high.ensures.value j small ∙ ap (λ n. get_or c.args.later.now n 0) there in
    let far : get_or c.rest_of-far.result j 0 ≡ c.args.total - get_or c.args.near.now i 0 = c.rest_of-far.ensures.value j small ∙ ap (λ n. c.args.total - n) near in
    ap (λ n. get_or c.weave.new.path_metrics n 0) (sym place) ∙ c.weave.ensures.even j small ∙ c.lesser_sums-even.ensures.value j small
    ∙ ap₂ min (ap₂ (λ x y. x + y) first near) (ap₂ (λ x y. x + y) second far)
    ∙ sym (lesser_near-even c.args.later.now c.args.near.now c.args.total i)

pub returns-clause-odd : goal.returns-clause-odd
returns-clause-odd c = λ i low high.
    let j : ℕ = i - c.args.at in
    let place : 2 * c.args.at + (2 * j + 1) ≡ 2 * i + 1 = omega arith in
    let here : c.args.at + j ≡ i = omega arith in
    let there : 128 + c.args.at + j ≡ 128 + i = omega arith in
    let small : j < 16 = omega arith in
    let near : get_or c.lanes_at-near.result j 0 ≡ get_or c.args.near.now i 0 = c.lanes_at-near.ensures.value j small ∙ ap (λ n. get_or c.args.near.now n 0) here in
    let first : get_or c.lanes_at-low.result j 0 ≡ get_or c.args.later.now i 0 = c.lanes_at-low.ensures.value j small ∙ ap (λ n. get_or c.args.later.now n 0) here in
    let second : get_or c.lanes_at-high.result j 0 ≡ get_or c.args.later.now (128 + i) 0 = c.lanes_at-high.ensures.value j small ∙ ap (λ n. get_or c.args.later.now n 0) there in
    let far : get_or c.rest_of-far.result j 0 ≡ c.args.total - get_or c.args.near.now i 0 = c.rest_of-far.ensures.value j small ∙ ap (λ n. c.args.total - n) near in
    ap (λ n. get_or c.weave.new.path_metrics n 0) (sym place) ∙ c.weave.ensures.odd j small ∙ c.lesser_sums-odd.ensures.value j small
    ∙ ap₂ min (ap₂ (λ x y. x + y) first far) (ap₂ (λ x y. x + y) second near)
    ∙ sym (lesser_near-odd c.args.later.now c.args.near.now c.args.total i (c.requires.near i (omega (arith, c.requires.inside))))
