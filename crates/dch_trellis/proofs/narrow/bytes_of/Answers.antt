use Rattle.std.proofs.Common.{◌≡◌, ◌+◌, ◌*◌, ◌/◌, ◌%◌, ◌<◌, ℕ, zero, suc, List, get_or, ap, ◌∙◌, arith, refl}
use lib.Lanes.{digits_l, number_l, Each1}
use Rattle.std.proofs.lemmas.Simd.{Each1-from_get_or, get_or_narrower}
use Rattle.dch_trellis.proofs.narrow.bytes_of.Goals as goal

digit-small : (n x i : ℕ) → get_or (digits_l 256 n x) i 0 < 256
digit-small zero x i = omega arith
digit-small (suc n) x zero = omega arith
digit-small (suc n) x (suc i) = digit-small n (x / 256) i

-- the two bytes of a number
two_bytes : (digits words : List ℕ) (j : ℕ) → digits ≡ digits_l 256 16 (number_l 65536 words) → Each1 (λ x. x < 65536) words → j < 8 → get_or words j 0 < 65536 → get_or digits (2 * j) 0 + 256 * get_or digits (2 * j + 1) 0 ≡ get_or words j 0
two_bytes digits words j same all inside small =
    let place : 2 * j + 0 ≡ 2 * j = omega arith in
    let first : get_or digits (2 * j + 0) 0 ≡ get_or words j 0 / 1 % 256 = ap (λ l. get_or l (2 * j + 0) 0) same ∙ get_or_narrower 65536 2 256 16 words j 0 refl all (omega arith) (omega arith) in
    let second : get_or digits (2 * j + 1) 0 ≡ get_or words j 0 / 256 % 256 = ap (λ l. get_or l (2 * j + 1) 0) same ∙ get_or_narrower 65536 2 256 16 words j 1 refl all (omega arith) (omega arith) in
    omega (arith, first, second, ap (λ n. get_or digits n 0) place)

pub returns-clause-bytes : goal.returns-clause-bytes
returns-clause-bytes c = λ i. digit-small 16 (number_l 65536 c.args.words) i

pub returns-clause-value : goal.returns-clause-value
returns-clause-value c = λ j small. two_bytes (digits_l 256 16 (number_l 65536 c.args.words)) c.args.words j refl (Each1-from_get_or (λ x. x < 65536) c.args.words 0 (λ i inside. c.requires i)) small (c.requires j)
