use Rattle.std.proofs.Common.{◌≡◌, ◌+◌, ◌-◌, ◌*◌, ◌<◌, ◌≤◌, ℕ, zero, suc, List, [], ◌∷◌, ◌++◌, length, get_or, refl, ap, ◌∙◌, arith, ⊎_elim}
use Rattle.std.proofs.lemmas.Bool.{cases_lt}
use lib.Lanes.{put_chunk, pick_l}
use Rattle.std.proofs.lemmas.List.{get_or_append_left, get_or-append_right}
use Rattle.std.proofs.lemmas.Simd.{length-put_chunk, get_or-put_chunk_below, get_or-put_chunk_at}
use Rattle.dch_trellis.proofs.narrow.weave.Goals as goal

-- the lanes of two vectors in turn
abbrev firsts : List ℕ
firsts = 0 ∷ 8 ∷ 1 ∷ 9 ∷ 2 ∷ 10 ∷ 3 ∷ 11 ∷ []

abbrev seconds : List ℕ
seconds = 4 ∷ 12 ∷ 5 ∷ 13 ∷ 6 ∷ 14 ∷ 7 ∷ 15 ∷ []

even_first : (xs : List ℕ) (i : ℕ) → i < 4 → get_or (pick_l 0 xs firsts) (2 * i) 0 ≡ get_or xs i 0
even_first xs zero inside = refl
even_first xs (suc zero) inside = refl
even_first xs (suc (suc zero)) inside = refl
even_first xs (suc (suc (suc zero))) inside = refl
even_first xs (suc (suc (suc (suc i)))) inside = absurd (omega arith)

odd_first : (xs : List ℕ) (i : ℕ) → i < 4 → get_or (pick_l 0 xs firsts) (2 * i + 1) 0 ≡ get_or xs (8 + i) 0
odd_first xs zero inside = refl
odd_first xs (suc zero) inside = refl
odd_first xs (suc (suc zero)) inside = refl
odd_first xs (suc (suc (suc zero))) inside = refl
odd_first xs (suc (suc (suc (suc i)))) inside = absurd (omega arith)

even_second : (xs : List ℕ) (i : ℕ) → i < 4 → get_or (pick_l 0 xs seconds) (2 * i) 0 ≡ get_or xs (4 + i) 0
even_second xs zero inside = refl
even_second xs (suc zero) inside = refl
even_second xs (suc (suc zero)) inside = refl
even_second xs (suc (suc (suc zero))) inside = refl
even_second xs (suc (suc (suc (suc i)))) inside = absurd (omega arith)

odd_second : (xs : List ℕ) (i : ℕ) → i < 4 → get_or (pick_l 0 xs seconds) (2 * i + 1) 0 ≡ get_or xs (12 + i) 0
odd_second xs zero inside = refl
odd_second xs (suc zero) inside = refl
odd_second xs (suc (suc zero)) inside = refl
odd_second xs (suc (suc (suc zero))) inside = refl
odd_second xs (suc (suc (suc (suc i)))) inside = absurd (omega arith)

-- what is stored first stays, and what is stored second stands after it
stored_first : (path_metrics xs : List ℕ) (at j : ℕ) → at + 16 ≤ length path_metrics → j < 8 → get_or (put_chunk (at + 8) (put_chunk at path_metrics (pick_l 0 xs firsts)) (pick_l 0 xs seconds)) (at + j) 0 ≡ get_or (pick_l 0 xs firsts) j 0
stored_first path_metrics xs at j room inside =
    let wide : length (pick_l 0 xs firsts) ≡ 8 = refl in
    get_or-put_chunk_below (at + 8) (put_chunk at path_metrics (pick_l 0 xs firsts)) (pick_l 0 xs seconds) (at + j) 0 (omega arith)
    ∙ get_or-put_chunk_at at path_metrics (pick_l 0 xs firsts) j 0 (omega arith) (omega arith)

stored_second : (path_metrics xs : List ℕ) (at j : ℕ) → at + 16 ≤ length path_metrics → j < 8 → get_or (put_chunk (at + 8) (put_chunk at path_metrics (pick_l 0 xs firsts)) (pick_l 0 xs seconds)) (at + (8 + j)) 0 ≡ get_or (pick_l 0 xs seconds) j 0
stored_second path_metrics xs at j room inside =
    let wide : length (pick_l 0 xs seconds) ≡ 8 = refl in
    let long : length (put_chunk at path_metrics (pick_l 0 xs firsts)) ≡ length path_metrics = length-put_chunk at path_metrics (pick_l 0 xs firsts) in
    let place : at + (8 + j) ≡ at + 8 + j = omega arith in
    ap (λ n. get_or (put_chunk (at + 8) (put_chunk at path_metrics (pick_l 0 xs firsts)) (pick_l 0 xs seconds)) n 0) place
    ∙ get_or-put_chunk_at (at + 8) (put_chunk at path_metrics (pick_l 0 xs firsts)) (pick_l 0 xs seconds) j 0 (omega arith) (omega arith)

woven_even : (path_metrics even odd : List ℕ) (at i : ℕ) → length even ≡ 8 → at + 16 ≤ length path_metrics → i < 8 → get_or (put_chunk (at + 8) (put_chunk at path_metrics (pick_l 0 (even ++ odd) firsts)) (pick_l 0 (even ++ odd) seconds)) (at + 2 * i) 0 ≡ get_or even i 0
woven_even path_metrics even odd at i long room inside = ⊎_elim
    (λ (low : i < 4). stored_first path_metrics (even ++ odd) at (2 * i) room (omega arith) ∙ even_first (even ++ odd) i low ∙ get_or_append_left even odd 0 i (omega arith))
    (λ (high : 4 ≤ i).
    let j : ℕ = i - 4 in
    let place : at + 2 * i ≡ at + (8 + 2 * j) = omega arith in
    let same : 4 + j ≡ i = omega arith in
    ap (λ n. get_or (put_chunk (at + 8) (put_chunk at path_metrics (pick_l 0 (even ++ odd) firsts)) (pick_l 0 (even ++ odd) seconds)) n 0) place
    ∙ stored_second path_metrics (even ++ odd) at (2 * j) room (omega arith) ∙ even_second (even ++ odd) j (omega arith) ∙ ap (λ n. get_or (even ++ odd) n 0) same ∙ get_or_append_left even odd 0 i (omega arith))
    (cases_lt i 4)

woven_odd : (path_metrics even odd : List ℕ) (at i : ℕ) → length even ≡ 8 → at + 16 ≤ length path_metrics → i < 8 → get_or (put_chunk (at + 8) (put_chunk at path_metrics (pick_l 0 (even ++ odd) firsts)) (pick_l 0 (even ++ odd) seconds)) (at + (2 * i + 1)) 0 ≡ get_or odd i 0
woven_odd path_metrics even odd at i long room inside =
    let back : 8 + i - 8 ≡ i = omega arith in
    let right : get_or (even ++ odd) (8 + i) 0 ≡ get_or odd i 0 = get_or-append_right even odd 8 (8 + i) 0 long (omega arith) ∙ ap (λ n. get_or odd n 0) back in
    ⊎_elim
    (λ (low : i < 4). stored_first path_metrics (even ++ odd) at (2 * i + 1) room (omega arith) ∙ odd_first (even ++ odd) i low ∙ right)
    (λ (high : 4 ≤ i).
    let j : ℕ = i - 4 in
    let place : at + (2 * i + 1) ≡ at + (8 + (2 * j + 1)) = omega arith in
    let same : 12 + j ≡ 8 + i = omega arith in
    ap (λ n. get_or (put_chunk (at + 8) (put_chunk at path_metrics (pick_l 0 (even ++ odd) firsts)) (pick_l 0 (even ++ odd) seconds)) n 0) place
    ∙ stored_second path_metrics (even ++ odd) at (2 * j + 1) room (omega arith) ∙ odd_second (even ++ odd) j (omega arith) ∙ ap (λ n. get_or (even ++ odd) n 0) same ∙ right)
    (cases_lt i 4)

pub returns-clause-even : goal.returns-clause-even
returns-clause-even c = λ i inside. woven_even c.args.path_metrics.now c.args.even c.args.odd c.args.at i c.requires.long.0 c.requires.room inside

pub returns-clause-odd : goal.returns-clause-odd
returns-clause-odd c = λ i inside. woven_odd c.args.path_metrics.now c.args.even c.args.odd c.args.at i c.requires.long.0 c.requires.room inside

pub returns-clause-before : goal.returns-clause-before
returns-clause-before c = λ s low. get_or-put_chunk_below (c.args.at + 8) (put_chunk c.args.at c.args.path_metrics.now (pick_l 0 (c.args.even ++ c.args.odd) firsts)) (pick_l 0 (c.args.even ++ c.args.odd) seconds) s 0 (omega arith) ∙ get_or-put_chunk_below c.args.at c.args.path_metrics.now (pick_l 0 (c.args.even ++ c.args.odd) firsts) s 0 low
