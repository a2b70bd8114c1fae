use Rattle.std.proofs.Common.{◌≡◌, ◌+◌, ◌-◌, ◌*◌, ◌/◌, ◌<◌, ℕ, List, length, get_or, refl, ap, ◌∙◌, arith, w8}
use lib.Lanes.{chunk}
use Rattle.std.proofs.lemmas.Simd.{SwzOk-from_below, Each1-from_get_or, length-chunk, get_or-chunk, length-swz_l, get_or-swz_l_below, get_or-put_chunk_at, get_or-put_chunk_below, swz_l}
use Rattle.dch_trellis.proofs.tiny.look_up.Goals as goal

pub swizzle : goal.swizzle
swizzle c =
    let js : List ℕ = chunk c.args.at 16 c.args.classes.now in
    let long : length js ≡ 16 = length-chunk c.args.at 16 c.args.classes.now c.requires.inside in
    SwzOk-from_below w8 16 1 16 0 js refl (omega arith)
    (Each1-from_get_or (λ j. j < 16) js 0 (λ i inside. omega (arith, get_or-chunk c.args.at 16 c.args.classes.now i 0 (omega arith), c.requires.classes (c.args.at + i) (omega arith))))

pub returns-clause-here : goal.returns-clause-here
returns-clause-here c = λ i low high.
    let at : ℕ = c.args.at in
    let js : List ℕ = chunk at 16 c.args.classes.now in
    let ys : List ℕ = swz_l w8 16 c.args.metrics 0 js in
    let j : ℕ = i - at in
    let place : i ≡ at + j = omega arith in
    let long : length js ≡ 16 = length-chunk at 16 c.args.classes.now c.requires.inside in
    let wide : length ys ≡ 16 = length-swz_l w8 16 c.args.metrics 0 js ∙ long in
    let class : get_or js j 0 ≡ get_or c.args.classes.now (at + j) 0 = get_or-chunk at 16 c.args.classes.now j 0 (omega arith) in
    let first : 16 * ((0 + j) / 16) + get_or js j 0 ≡ get_or c.args.classes.now (at + j) 0 = omega (arith, class) in
    rw place
    (get_or-put_chunk_at at c.args.near.now ys j 0 (omega arith) (omega (arith, c.requires.room))
    ∙ get_or-swz_l_below w8 16 c.args.metrics 0 js j (omega arith) (omega (arith, class, c.requires.classes (at + j) (omega arith)))
    ∙ ap (λ n. get_or c.args.metrics n 0) first)

pub returns-clause-before : goal.returns-clause-before
returns-clause-before c = λ i low. get_or-put_chunk_below c.args.at c.args.near.now (swz_l w8 16 c.args.metrics 0 (chunk c.args.at 16 c.args.classes.now)) i 0 low
