-- Rows split after row k, with row k written.
use Rattle.std.proofs.Common.{◌≡◌, ◌≢◌, ◌+◌, ◌++◌, ℕ, List, [], length, get_or, ap, sym, ◌∙◌, arith}
use Rattle.std.specs.Prelude.{slice_set}
use Rattle.std.proofs.lemmas.List.{length-append, get_or-set_same, get_or-set_other, set-append_left}

-- the other rows stay
pub row_kept : (rows front back : List (List ℕ)) (k : ℕ) (row : List ℕ) → rows ≡ front ++ back → length front ≡ k + 1 → (j : ℕ) → j ≢ k → get_or (slice_set front k row ++ back) j [] ≡ get_or rows j []
row_kept rows front back k row parts long j other =
    ap (λ rows. get_or rows j []) (sym (set-append_left front back k row (omega (arith, long))))
    ∙ get_or-set_other (front ++ back) k j row [] other
    ∙ ap (λ rows. get_or rows j []) (sym parts)

-- row k is the one written
pub row_written : (front back : List (List ℕ)) (k : ℕ) (row : List ℕ) → length front ≡ k + 1 → get_or (slice_set front k row ++ back) k [] ≡ row
row_written front back k row long =
    ap (λ rows. get_or rows k []) (sym (set-append_left front back k row (omega (arith, long))))
    ∙ get_or-set_same (front ++ back) k row [] (omega (arith, long, length-append front back))

-- the rest begins with the row after it
pub row_after : (rows back : List (List ℕ)) (k : ℕ) → ((i : ℕ) (d : List ℕ) → get_or back i d ≡ get_or rows (k + 1 + i) d) → get_or back 0 [] ≡ get_or rows (k + 1) []
row_after rows back k rest =
    let next : k + 1 + 0 ≡ k + 1 = omega arith in
    rest 0 [] ∙ ap (λ i. get_or rows i []) next
