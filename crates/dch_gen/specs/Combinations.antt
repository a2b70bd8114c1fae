-- The transport format combinations of `gen`, the same in both directions.
use Rattle.std.specs.Prelude.{ℕ, zero, suc, ◌/◌, ◌%◌, List, [], ◌∷◌, ◌++◌}
use Rattle.dch_types.specs.declared.channel.Combination.{Combination}

-- combination c: six of speech and signalling with each format of packet data; classes B and C go with speech alone
abbrev pub gen_combination : ℕ → Combination
gen_combination c = record { formats = c % 3 ∷ c % 3 / 2 ∷ c % 3 / 2 ∷ c / 3 % 2 ∷ c / 6 ∷ [] }

-- the first combinations
unfoldable pub gen_combinations : ℕ → List Combination
gen_combinations zero = []
gen_combinations (suc c) = gen_combinations c ++ gen_combination c ∷ []
