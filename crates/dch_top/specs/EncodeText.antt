-- What `encode` makes of its lines.
use Rattle.std.specs.Prelude.{◌≡◌, ℕ, List, [], ◌++◌, Result, Ok, Err, codes, decimal, if◌then◌else◌, map}
use Rattle.std.specs.Str.{bytes_eq}
use Rattle.dch_bits.specs.declared.bit.Bit.{Bit}
use Rattle.dch_bits.specs.Text.{bit_of_letter}
use Rattle.dch_coding.specs.Chain.{IsCoded}
use Rattle.dch_script.specs.Code.{CodeLine, meaning}
use Rattle.dch_script.specs.Report.{bits_shown}
use Rattle.dch_script.specs.declared.event.LineError.{LineError}
use Rattle.dch_lines.specs.Semantics.{Semantics, one_step}

-- the bits of a bit text, where a dot stands for none
abbrev pub block_of : List ℕ → List Bit
block_of text = if bytes_eq text (codes ".") then [] else map bit_of_letter text

-- the line `coded` of a transport block
pub record IsAnswer (line : CodeLine) (text : List ℕ) : Type 0 where
  pub coded : List Bit
  pub is : IsCoded line.coding line.crc (block_of line.bits) coded
  pub shown : text ≡ codes "coded " ++ bits_shown coded ++ codes "\n"

-- the text for what a line means
abbrev pub Answers : Result CodeLine LineError → List ℕ → Type 0
Answers (Ok line) text = IsAnswer line text
Answers (Err error) text = ⊥

-- the last line of a run whose lines were all good, of which so many aren't empty
unfoldable pub closing : ℕ → List ℕ
closing count = codes "end lines=" ++ decimal count ++ codes "\n"

-- the rules of `encode`, which has no state: a line is answered by its coded bits
abbrev pub encoding : Semantics (Unit {0})
encoding = one_step (λ old line new text. Answers (meaning line) text) (λ state line why. meaning line ≡ Err why)
    (λ state count. closing count)
