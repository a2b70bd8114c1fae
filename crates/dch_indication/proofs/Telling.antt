-- Lines that are told one after another.
use Rattle.std.proofs.Common.{◌++◌, List, [], ◌∷◌, refl, subst}
use Rattle.dch_indication.specs.Lines.{Line}
use Rattle.dch_indication.specs.Told.{Told}

-- one line
pub told_one : {S : Type 0} (shows : S → Line → S → Type 0) (old new : S) (line : Line) → shows old line new → Told shows old (line ∷ []) new
told_one shows old new line is = (new, (is, refl))

-- lines, and then more
pub told-append : {S : Type 0} (shows : S → Line → S → Type 0) (old mid new : S) (lines more : List Line) → Told shows old lines mid → Told shows mid more new → Told shows old (lines ++ more) new
told-append shows old mid new [] more first then = subst (λ m. Told shows m more new) first then
told-append shows old mid new (line ∷ lines) more first then = (first.0, (first.1.0, told-append shows first.0 mid new lines more first.1.1 then))
