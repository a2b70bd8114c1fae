-- Rate matching patterns: which bits of a stream are kept, and how often (TS 25.212 4.2.7.5).
use Rattle.std.specs.Prelude.{◌<◌, ◌≤◌, ◌+◌, ◌-◌, ◌*◌, ◌/◌, ◌^◌, ℕ, zero, suc, List, [], ◌++◌, replicate}
use Rattle.dch_frame.specs.declared.pattern.Steps.{Steps}
use Rattle.dch_frame.specs.declared.pattern.Kind.{Kind}
use Rattle.dch_frame.specs.declared.pattern.Kind.TheVariants.{Same, Repeat, Puncture}
use Rattle.dch_frame.specs.declared.pattern.Pattern.{Pattern}

-- the floor of (m*e_minus - e_ini + e_plus) / e_plus: how often bits were removed or repeated among the first m
abbrev pub changes : Steps → ℕ → ℕ
changes steps m = (m * steps.e_minus + steps.e_plus - steps.e_ini) / steps.e_plus

-- the number of copies of bit m, counted from 0
abbrev pub copies : Kind → ℕ → ℕ
copies Same m = 1
copies (Repeat steps) m = 1 + (changes steps (m + 1) - changes steps m)
copies (Puncture steps) m = 1 - (changes steps (m + 1) - changes steps m)

-- the copies of the first m bits together
unfoldable pub copies_below : Kind → ℕ → ℕ
copies_below kind zero = 0
copies_below kind (suc m) = copies_below kind m + copies kind m

-- the first m bits as they are kept: the copies of each in the order of the bits
unfoldable pub kept_list : Kind → ℕ → List ℕ
kept_list kind zero = []
kept_list kind (suc m) = kept_list kind m ++ replicate (copies kind m) m

-- the ranges of the counter's parameters
pub record InRange (steps : Steps) : Type 0 where
  pub least : 1 ≤ steps.e_ini
  pub most : steps.e_ini ≤ steps.e_plus
  pub plus : steps.e_plus < 2 ^ 32
  pub minus : steps.e_minus < 2 ^ 32

-- the counter of a kind is in its ranges, and puncturing removes no bit twice
abbrev pub StepsFit : Kind → Type 0
StepsFit Same = Unit {0}
StepsFit (Repeat steps) = InRange steps
StepsFit (Puncture steps) = InRange steps × (steps.e_minus ≤ steps.e_plus)

-- a pattern in its ranges: at most 131,072 bits, and fewer than 2^32 copies
pub record IsWellFormed (pattern : Pattern) : Type 0 where
  pub short : pattern.len ≤ 131072
  pub steps : StepsFit pattern.kind
  pub few : copies_below pattern.kind pattern.len < 2 ^ 32
