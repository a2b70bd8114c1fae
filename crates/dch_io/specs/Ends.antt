-- What the two ends of a run took and gave.
use Rattle.std.specs.Prelude.{◌≡◌, ◌<◌, ℕ, List, ◌++◌, length, Option}
use Rattle.std.specs.Io.KnownBytes.{Appends}
use Rattle.dch_io.specs.Causes.{Rose}

-- one end of a run: what it had left or taken, and its count of faults, before and now
pub record End : Type 0 where
  pub before : Option (List ℕ)
  pub now : Option (List ℕ)
  pub faults_before : ℕ
  pub faults_now : ℕ

abbrev pub end_of : {T : Type 0} → (T → Option (List ℕ)) → (T → ℕ) → T → T → End
end_of known faults old new = record {
  before = known old;
  now = known new;
  faults_before = faults old;
  faults_now = faults new;
}

abbrev pub span : Option (List ℕ) → Option (List ℕ) → ℕ → ℕ → End
span before now f g = record { before = before; now = now; faults_before = f; faults_now = g }

-- the end's count of faults rose
abbrev pub Fails : End → Type 0
Fails e = Rose e.faults_before e.faults_now

-- some of the text is not written
pub record IsCutShort (written text : List ℕ) : Type 0 where
  pub rest : List ℕ
  pub some : 0 < length rest
  pub whole : text ≡ written ++ rest

-- the sink failed within a text
pub record Breaks (sink : End) (text : List ℕ) : Type 0 where
  pub fails : Fails sink
  pub written : List ℕ
  pub writes : Appends sink.before sink.now written
  pub cut : IsCutShort written text

-- the sink took the front of a text, and this is left of it
pub record Passes (sink : End) (text left : List ℕ) : Type 0 where
  pub written : List ℕ
  pub writes : Appends sink.before sink.now written
  pub whole : text ≡ written ++ left
