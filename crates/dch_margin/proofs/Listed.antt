-- One part more of a list with commas.
use Rattle.std.proofs.Common.{◌≡◌, ◌+◌, ◌++◌, ◌∙◌, ℕ, List, [], add-one, ap₂, refl, sym}
use Rattle.dch_margin.specs.Reports.{comma, listed}

pub listed-none : (part : ℕ → List ℕ) → listed part 0 ≡ []
unfolding listed
listed-none part = refl

listed-more : (part : ℕ → List ℕ) (n : ℕ) → listed part (n + 1) ≡ listed part n ++ (comma n ++ part n)
unfolding listed
listed-more part n = rw add-one refl

pub part_listed : (part : ℕ → List ℕ) (n : ℕ) (before more after : List ℕ) → before ≡ listed part n → more ≡ comma n ++ part n → after ≡ before ++ more → after ≡ listed part (n + 1)
part_listed part n before more after is one grown = grown ∙ ap₂ (λ (a b : List ℕ). a ++ b) is one ∙ sym (listed-more part n)
