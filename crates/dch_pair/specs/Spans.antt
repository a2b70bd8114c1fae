-- Parts of a list, each by its start and its end.
use Rattle.std.specs.Prelude.{ℕ, List, map, slice_range}

-- these parts of it
abbrev pub spanned : List ℕ → List (ℕ × ℕ) → List (List ℕ)
spanned octets spans = map (λ p. slice_range octets p.0 p.1) spans
