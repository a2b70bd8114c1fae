use Rattle.std.proofs.Common.{◌≤◌, ◌+◌, ◌-◌, ◌*◌, ap, ◌∙◌, arith, w64}
use Rattle.std.proofs.lemmas.Nat.{mul-le}
use Rattle.std.proofs.lemmas.Int.{to_z-of_z}
use Rattle.std.specs.Int.{div_ceil}
use Rattle.dch_frame.proofs.Turns.{turn_below, turn_small}
use Rattle.dch_frame.proofs.shifts.q_multiple.Goals as goal

pub overflow_mul-result-else-q-lt0 : goal.overflow_mul-result-else-q-lt0
overflow_mul-result-else-q-lt0 c =
    let size = rw (to_z-of_z w64 c.args.q c.ranges.q) at c.unsigned_abs-size.ensures.value in
    let few : c.args.frames ≤ 8 = omega (arith, c.requires.frames) in
    let all : c.args.frames * c.unsigned_abs-size.result ≤ 8 * 131072 = mul-le c.args.frames c.unsigned_abs-size.result 8 131072 few (omega (arith, size, c.requires.size)) in
    let whole : c.args.x * (c.args.frames * c.unsigned_abs-size.result + c.extra-extra.result) ≤ 8 * 2000000 = mul-le c.args.x (c.args.frames * c.unsigned_abs-size.result + c.extra-extra.result) 8 2000000 (omega arith) (omega arith) in
    omega arith

pub returns-then-q-lt0-clause-value : goal.returns-then-q-lt0-clause-value
returns-then-q-lt0-clause-value c =
    let same = to_z-of_z w64 c.args.q c.ranges.q in
    let size = rw same at c.unsigned_abs-size.ensures.value in
    let below = rw same at c.if-q-lt0.true in
    c.div_ceil.ensures ∙ ap (λ g. div_ceil (c.args.x * (c.args.frames * c.unsigned_abs-size.result - g)) c.args.frames) c.extra-extra.ensures.value
    ∙ turn_below c.args.q c.args.frames c.args.x c.unsigned_abs-size.result c.requires.frames below size

pub returns-then-q-lt0-clause-size : goal.returns-then-q-lt0-clause-size
returns-then-q-lt0-clause-size c =
    let same = to_z-of_z w64 c.args.q c.ranges.q in
    let size = rw same at c.unsigned_abs-size.ensures.value in
    let below = rw same at c.if-q-lt0.true in
    let value = c.div_ceil.ensures ∙ ap (λ g. div_ceil (c.args.x * (c.args.frames * c.unsigned_abs-size.result - g)) c.args.frames) c.extra-extra.ensures.value
    ∙ turn_below c.args.q c.args.frames c.args.x c.unsigned_abs-size.result c.requires.frames below size in
    omega (arith, value, turn_small c.args.q c.args.frames c.args.x c.requires.frames c.requires.size c.requires.inside)
