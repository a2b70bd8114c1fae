-- Text on its way to a sink.
use Rattle.std.specs.Prelude.{◌≡◌, ◌≤◌, ◌++◌, ℕ, List, Bool, true, false, length}
use Rattle.dch_io.specs.Ends.{Breaks, End, Passes}
use Rattle.dch_script.specs.Held.{Held}

-- of a text the sink took a front and the rest waits; or it failed within the text; or it had failed before, and took
-- no more
abbrev pub Goes : End → Bool → List ℕ → Bool → List ℕ → Type 0
Goes sink false text false waits = Passes sink text waits
Goes sink false text true waits = Breaks sink text
Goes sink true text false waits = ⊥
Goes sink true text true waits = sink.now ≡ sink.before

-- what becomes of a text behind what waited
pub record Shows (sink : End) (old : Held) (was : Bool) (text : List ℕ) (new : Held) (is : Bool) : Type 0 where
  pub later : sink.faults_before ≤ sink.faults_now
  pub most : new.most ≡ old.most
  pub fits : length old.text ≤ old.most → length new.text ≤ new.most
  pub goes : Goes sink was (old.text ++ text) is new.text
