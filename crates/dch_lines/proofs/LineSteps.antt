-- What a line does, and how its text goes on its way.
use Rattle.std.proofs.Common.{◌≡◌, ◌+◌, ℕ, List, [], ◌++◌, Bool, true, false, Option, refl, subst, append-nil, inl, inr, ⊎_elim}
use Rattle.std.specs.Prelude.{Ok, Err}
use Rattle.std.proofs.KnownBytes.{Appends-nil}
use Rattle.dch_io.specs.Ends.{End, span}
use Rattle.dch_script.specs.Held.{Held}
use Rattle.dch_lines.specs.Pages.{Shows}
use Rattle.dch_lines.specs.Semantics.{Does, Semantics}
use Rattle.dch_lines.specs.Processor.{AddsLine, BreaksAt, EndsLine, LineOutcome, Progress}
use Rattle.dch_lines.specs.LineTexts.{HandlesLine, is_empty}
use Rattle.dch_lines.specs.declared.stop.Stop.{Stop}
use Rattle.dch_lines.specs.declared.stop.Stop.TheVariants.{Fault, Failed}

-- a line is empty
pub nothing_said : {S : Type 0} (semantics : Semantics S) (old : S) (line text : List ℕ) (a : Option (List ℕ)) (f : ℕ) → is_empty line ≡ true → LineOutcome semantics (span a a f f) old line old text text (Ok 0)
nothing_said semantics old line text a f empty = rw empty ([], ((refl, refl), record { written = []; writes = Appends-nil a; whole = append-nil text }, refl))

-- a line is done
pub all_said : {S : Type 0} (semantics : Semantics S) (sink : End) (old new : S) (line more : List ℕ) (before now : Held) (was is : Bool) → is_empty line ≡ false → was ≡ false → is ≡ false → Does semantics is old line new more → Shows sink before was more now is
    → LineOutcome semantics sink old line new before.text now.text (Ok 1)
all_said semantics sink old new line more before now true is words fresh still does shows = absurd (no fresh)
  where
    no : true ≡ false → ⊥
    no same = cc
all_said semantics sink old new line more before now false true words fresh still does shows = absurd (no still)
  where
    no : true ≡ false → ⊥
    no same = cc
all_said semantics sink old new line more before now false false words fresh still (inl does) shows = rw words (more, (does, shows.goes, refl))
all_said semantics sink old new line more before now false false words fresh still (inr part) shows = absurd (no part.0)
  where
    no : false ≡ true → ⊥
    no same = cc

-- the sink fails within its text, and it is maybe done in part
pub some_said : {S : Type 0} (semantics : Semantics S) (sink : End) (old new : S) (line more : List ℕ) (before now : Held) (was is : Bool) → is_empty line ≡ false → was ≡ false → is ≡ true → Does semantics is old line new more → Shows sink before was more now is → BreaksAt semantics sink old line before.text
some_said semantics sink old new line more before now true is words fresh failed does shows = absurd (no fresh)
  where
    no : true ≡ false → ⊥
    no same = cc
some_said semantics sink old new line more before now false false words fresh failed does shows = absurd (no failed)
  where
    no : false ≡ true → ⊥
    no same = cc
some_said semantics sink old new line more before now false true words fresh failed (inl does) shows = record { next = new; more = more; front = inl handled; breaks = shows.goes }
  where
    handled : HandlesLine semantics old line new more
    handled = rw words does
some_said semantics sink old new line more before now false true words fresh failed (inr part) shows = record { next = new; more = more; front = inr (record { words = words; begins = part.1 }); breaks = shows.goes }

-- a line is counted
pub line_added : {S : Type 0} (semantics : Semantics S) (sink : End) (old new : S) (line before now : List ℕ) (bytes lines nonempty_lines count : ℕ) → LineOutcome semantics sink old line new before now (Ok count)
    → AddsLine semantics sink (record { handler = old; line = line; text = before; bytes = bytes; lines = lines; nonempty_lines = nonempty_lines }) (record { handler = new; line = []; text = now; bytes = bytes; lines = lines + 1; nonempty_lines = nonempty_lines + count })
line_added semantics sink old new line before now bytes lines nonempty_lines count handled =
    rw handled.1.2 (record { handler = new; more = handled.0; handles = handled.1.0; text = now; passes = handled.1.1; added = refl })

-- a line stops the work
stops : {S : Type 0} (semantics : Semantics S) (sink : End) (old new : S) (line before now : List ℕ) (bytes lines nonempty_lines : ℕ) (stop : Stop) → LineOutcome semantics sink old line new before now (Err stop)
    → EndsLine semantics sink (record { handler = old; line = line; text = before; bytes = bytes; lines = lines; nonempty_lines = nonempty_lines }) (record { handler = new; line = line; text = now; bytes = bytes; lines = lines; nonempty_lines = nonempty_lines }) (Err stop)
stops semantics sink old new line before now bytes lines nonempty_lines (Fault fault) said = (said.0, said.2, rw said.1 refl)
stops semantics sink old new line before now bytes lines nonempty_lines Failed said = said

pub line_stopped : {S : Type 0} (semantics : Semantics S) (sink : End) (first : Progress S) (old new : S) (line at before now : List ℕ) (bytes lines nonempty_lines : ℕ) (stop : Stop)
    → record { handler = old; line = line; text = before; bytes = bytes; lines = lines; nonempty_lines = nonempty_lines } ≡ first → at ≡ line → LineOutcome semantics sink old at new before now (Err stop)
    → EndsLine semantics sink first (record { handler = new; line = line; text = now; bytes = bytes; lines = lines; nonempty_lines = nonempty_lines }) (Err stop)
line_stopped semantics sink first old new line at before now bytes lines nonempty_lines stop seen same said =
    let here : LineOutcome semantics sink old line new before now (Err stop) = subst (λ l. LineOutcome semantics sink old l new before now (Err stop)) same said in
    subst (λ p. EndsLine semantics sink p (record { handler = new; line = line; text = now; bytes = bytes; lines = lines; nonempty_lines = nonempty_lines }) (Err stop)) seen (stops semantics sink old new line before now bytes lines nonempty_lines stop here)
