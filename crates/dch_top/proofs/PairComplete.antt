-- A run of `pair` without faults on good lines ends well.
use Rattle.std.proofs.Common.{◌≡◌, ◌⊎◌, ◌≤◌, ℕ, List, [], Option, None, Some, length, length-append, ap, arith, inl, inr, IfSome}
use Rattle.std.specs.Io.KnownBytes.{IsAtEnd}
use Rattle.dch_io.specs.Causes.{Rose}
use Rattle.dch_io.specs.Ends.{span}
use Rattle.dch_io.specs.Pieces.{LIMIT}
use Rattle.dch_script.specs.Lines.{lines_of, rest_of}
use Rattle.dch_lines.specs.declared.stop.Outcome.{Outcome}
use Rattle.dch_lines.specs.declared.stop.Outcome.TheVariants.{Ok as Done, Refused as MetMalformed, ReadFault as FailedReading, WriteFault as FailedWriting, NoMemory as Lacking, TooLong as TookTooMuch}
use Rattle.dch_lines.proofs.Complete.{all_consumed, consumed, none_refused}
use Rattle.dch_paircmd.specs.Overlong.{pair_refuses_long}
use Rattle.dch_paircmd.specs.Rules.{pair_lines}
use Rattle.dch_top.specs.LineRuns.{FollowsLines}
use Rattle.dch_top.specs.PairRuns.{ArePairLines, RunsPair}
use Rattle.dch_check.specs.Configured.{outcome_status}
use Rattle.dch_check.specs.declared.status.Status.{Status}
use Rattle.dch_check.specs.declared.status.Status.TheVariants.{Ok, NoMemory}

-- good lines are not refused
not_refused : (input : List ℕ) (now : Option (List ℕ)) (k l : Option (List ℕ)) (f g h i : ℕ) → FollowsLines pair_lines None (span (Some input) now f g) (span k l h i) MetMalformed → ArePairLines (lines_of input) → rest_of input ≡ [] → ⊥
not_refused input now k l f g h i run good rest =
    let is = run.1 in
    let more = consumed input is.taken now is.takes in
    let all : IsAtEnd now → input ≡ is.taken = λ end. all_consumed input is.taken now is.takes end in
    none_refused pair_lines (span (Some input) now f g) is.answers.state [] input is.taken more.0 is.answers.good is.answers.why pair_refuses_long more.1 all rest
    (λ later line reason lines faulty. good is.answers.good later line is.answers.state is.answers.text reason lines is.answers.handles faulty) is.answers.refused

pub pair_answered : (before now k l : Option (List ℕ)) (f g h i : ℕ) (status : Status) → RunsPair (span before now f g) (span k l h i) status
    → IfSome before (λ input. ArePairLines (lines_of input) → rest_of input ≡ [] → length input ≤ LIMIT → ¬ Rose f g → ¬ Rose h i → (status ≡ Ok) ⊎ (status ≡ NoMemory))
pair_answered None now k l f g h i status run = tt
pair_answered (Some input) now k l f g h i status (inr lacks) = λ good rest size s t. inr lacks.0
pair_answered (Some input) now k l f g h i status (inl ran) = λ good rest size s t. by good rest size s t ran.0 ran.1.0 ran.1.1
  where
    by : ArePairLines (lines_of input) → rest_of input ≡ [] → length input ≤ LIMIT → ¬ Rose f g → ¬ Rose h i → (outcome : Outcome) → status ≡ outcome_status outcome → FollowsLines pair_lines None (span (Some input) now f g) (span k l h i) outcome → (status ≡ Ok) ⊎ (status ≡ NoMemory)
    by good rest size s t Done same run = inl same
    by good rest size s t Lacking same run = inr same
    by good rest size s t MetMalformed same run = absurd (not_refused input now k l f g h i run good rest)
    by good rest size s t FailedReading same run = absurd (s run.1.answers.fails)
    by good rest size s t FailedWriting same run = absurd (t run.1.answers.fails)
    by good rest size s t TookTooMuch same run = let more = consumed input run.1.taken now run.1.takes in absurd (omega (arith, run.1.answers.long, size, ap length more.1, length-append run.1.taken more.0))
