-- One combination more.
use Rattle.std.proofs.Common.{◌≡◌, ◌+◌, ◌++◌, ℕ, List, [], ◌∷◌, refl, sym, ◌∙◌, add-one}
use Rattle.dch_types.specs.declared.channel.Combination.{Combination}
use Rattle.dch_gen.specs.Combinations.{gen_combination, gen_combinations}

combinations-more : (c : ℕ) → gen_combinations (c + 1) ≡ gen_combinations c ++ gen_combination c ∷ []
unfolding gen_combinations
combinations-more c = rw add-one refl

pub one_more : (before after : List Combination) (made : Combination) (c : ℕ) → before ≡ gen_combinations c → made ≡ gen_combination c → after ≡ before ++ made ∷ [] → after ≡ gen_combinations (c + 1)
one_more before after made c first last joined = joined ∙ rw (first, last) (sym (combinations-more c))
