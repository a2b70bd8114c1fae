-- The eight sets one by one, and lines one part after another.
use Rattle.std.proofs.Common.{◌≡◌, ◌<◌, ◌+◌, ◌∙◌, ◌++◌, ℕ, zero, suc, List, arith, ap, sym, append_assoc, append-nil}
use Rattle.dch_node.specs.Lines.{Line, joined}

pub by_eight : (P : ℕ → Type 0) → P 0 → P 1 → P 2 → P 3 → P 4 → P 5 → P 6 → P 7 → (s : ℕ) → s < 8 → P s
by_eight P a b c d e f g h zero early = a
by_eight P a b c d e f g h (suc zero) early = b
by_eight P a b c d e f g h (suc (suc zero)) early = c
by_eight P a b c d e f g h (suc (suc (suc zero))) early = d
by_eight P a b c d e f g h (suc (suc (suc (suc zero)))) early = e
by_eight P a b c d e f g h (suc (suc (suc (suc (suc zero))))) early = f
by_eight P a b c d e f g h (suc (suc (suc (suc (suc (suc zero)))))) early = g
by_eight P a b c d e f g h (suc (suc (suc (suc (suc (suc (suc zero))))))) early = h
by_eight P a b c d e f g h (suc (suc (suc (suc (suc (suc (suc (suc s)))))))) early = absurd (omega (arith, early))

-- the lines of the first steps, and then those of others
pub joined-split : (lines : ℕ → List Line) (a b : ℕ) → joined lines (a + b) ≡ joined lines a ++ joined (λ s. lines (a + s)) b
joined-split lines a zero = let here : a + zero ≡ a = omega arith in rw here (sym (append-nil (joined lines a)))
joined-split lines a (suc b) =
    let here : a + suc b ≡ suc (a + b) = omega arith in
    rw here (ap (λ (l : List Line). l ++ lines (a + b)) (joined-split lines a b) ∙ append_assoc (joined lines a) (joined (λ s. lines (a + s)) b) (lines (a + b)))
