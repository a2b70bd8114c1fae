use Rattle.std.proofs.Common.{◌≡◌, ◌+◌, ◌%◌, ◌^◌, ◌<◌, ℕ, suc, List, true, false, cond, ltb, length, get_or, ap, ap₂, ◌∙◌, arith, w16, ⊎_elim}
use Rattle.std.specs.Prelude.{min}
use lib.Lanes.{zip2, sel_l}
use Rattle.std.proofs.lemmas.Simd.{tops_compared, length-zip2, length-sel_l, get_or-sel_l, get_or-zip2}
use Rattle.std.proofs.lemmas.Bool.Decides.{leb_tells}
use Rattle.dch_trellis.proofs.narrow.lesser_sums.Goals as goal

abbrev add16 : ℕ → ℕ → ℕ
add16 a b = (a + b) % 2 ^ 16

chosen_min : (x y : ℕ) → cond (ltb x y) x y ≡ min x y
chosen_min x y = ⊎_elim
    (λ (less : (ltb x y ≡ true) × (x < y)). ap (λ t. cond t x y) less.0 ∙ lesser (omega (arith, less.1)))
    (λ (more : (ltb x y ≡ false) × (y < suc x)). ap (λ t. cond t x y) more.0 ∙ greater (omega (arith, more.1)))
    (leb_tells (suc x) y)
  where
    lesser : min x y ≡ x → x ≡ min x y
    lesser e = omega arith

    greater : min x y ≡ y → y ≡ min x y
    greater e = omega arith

pub returns-clause-long : goal.returns-clause-long
returns-clause-long c =
    let x : List ℕ = zip2 add16 c.args.a c.args.b in
    let y : List ℕ = zip2 add16 c.args.c c.args.d in
    let long_x : length x ≡ 8 = length-zip2 add16 c.args.a c.args.b (omega (arith, c.requires.long)) ∙ c.requires.long.0 in
    let long_y : length y ≡ 8 = length-zip2 add16 c.args.c c.args.d (omega (arith, c.requires.long)) ∙ c.requires.long.2 in
    let long = length-zip2 ltb x y (omega arith) in
    ap length (ap (λ ms. sel_l ms x y) (tops_compared w16 ltb x y)) ∙ omega (arith, length-sel_l (zip2 ltb x y) x y (omega arith) (omega arith))

pub returns-clause-value : goal.returns-clause-value
returns-clause-value c = λ i lt.
    let x : List ℕ = zip2 add16 c.args.a c.args.b in
    let y : List ℕ = zip2 add16 c.args.c c.args.d in
    let long_x : length x ≡ 8 = length-zip2 add16 c.args.a c.args.b (omega (arith, c.requires.long)) ∙ c.requires.long.0 in
    let long_y : length y ≡ 8 = length-zip2 add16 c.args.c c.args.d (omega (arith, c.requires.long)) ∙ c.requires.long.2 in
    let long = length-zip2 ltb x y (omega arith) in
    let first : get_or x i 0 ≡ get_or c.args.a i 0 + get_or c.args.b i 0 = get_or-zip2 add16 c.args.a c.args.b i 0 0 0 (omega (arith, c.requires.long)) (omega (arith, c.requires.long)) ∙ omega (arith, c.requires.first i lt) in
    let second : get_or y i 0 ≡ get_or c.args.c i 0 + get_or c.args.d i 0 = get_or-zip2 add16 c.args.c c.args.d i 0 0 0 (omega (arith, c.requires.long)) (omega (arith, c.requires.long)) ∙ omega (arith, c.requires.second i lt) in
    ap (λ l. get_or l i 0) (ap (λ ms. sel_l ms x y) (tops_compared w16 ltb x y))
    ∙ get_or-sel_l (zip2 ltb x y) x y i 0 (omega arith) (omega arith) (omega arith)
    ∙ ap (λ t. cond t (get_or x i 0) (get_or y i 0)) (get_or-zip2 ltb x y i 0 0 false (omega arith) (omega arith))
    ∙ chosen_min (get_or x i 0) (get_or y i 0)
    ∙ ap₂ min first second
