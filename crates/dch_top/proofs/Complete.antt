-- A run without faults on good lines ends well.
use Rattle.std.proofs.Common.{◌≡◌, ◌⊎◌, ◌≤◌, ℕ, List, [], length, refl, subst, sym, arith, inl, inr, ⊎_elim, IfSome, None, Some}
use Rattle.std.specs.Prelude.{IsOk, Err, Result, Ok as Good}
use Rattle.std.proofs.lemmas.Bool.{false≢true}
use Rattle.std.specs.declared.option.Option.{Option}
use Rattle.dch_io.specs.Causes.{Rose}
use Rattle.dch_io.specs.Ends.{End, span}
use Rattle.dch_script.specs.Code.{meaning}
use Rattle.dch_script.specs.Lines.{lines_of, rest_of}
use Rattle.dch_io.specs.Pieces.{LIMIT}
use Rattle.dch_lines.specs.Followed.{FollowsInput}
use Rattle.dch_lines.specs.declared.stop.Outcome.{Outcome}
use Rattle.dch_lines.specs.declared.stop.Outcome.TheVariants.{Ok as Done, Refused as MetMalformed, ReadFault as FailedReading, WriteFault as FailedWriting, NoMemory as Lacking, TooLong as TookTooMuch}
use Rattle.dch_lines.proofs.Complete.{completes as follows_all, never_lacks, TakesAll}
use Rattle.dch_top.specs.Overlong.{encoding_refuses_long}
use Rattle.dch_top.specs.Encoded.{Encodes, AreGood}
use Rattle.dch_top.specs.LineRuns.{FollowsLines, RunsLines, beginning}
use Rattle.dch_check.specs.Configured.{outcome_status}
use Rattle.dch_top.specs.EncodeText.{encoding}
use Rattle.dch_check.specs.declared.status.Status.{Status}
use Rattle.dch_check.specs.declared.status.Status.TheVariants.{Ok, Refused, Usage, ReadFault, WriteFault, NoMemory, TooLong}

error_is_none : {T E : Type 0} (r : Result T E) (e : E) → r ≡ Err e → IsOk r → ⊥
error_is_none (Good value) e same ok = cc
error_is_none (Err error) e same ok = false≢true ok

takes_all : TakesAll encoding (λ line. IsOk (meaning line))
takes_all state line why ok same = error_is_none (meaning line) why same ok

-- no line wants memory
pub lacks_none : (source sink : End) → FollowsInput encoding source sink (beginning tt) tt [] Lacking → ⊥
lacks_none source sink run = never_lacks encoding source sink (beginning tt) tt [] (λ state line wants. wants) run

-- how following the lines ended is what `encode` does
pub encoded : (source sink : End) (status : Status) → RunsLines encoding tt source sink status → Encodes source sink status
encoded source sink status (inr lacks) = subst (λ (s : Status). Encodes source sink s) (sym lacks.0) lacks.1
encoded source sink status (inl ran) = subst (λ (s : Status). Encodes source sink s) (sym ran.1.0) (by ran.0 ran.1.1)
  where
    by : (outcome : Outcome) → FollowsLines encoding tt source sink outcome → Encodes source sink (outcome_status outcome)
    by Done run = run.1
    by MetMalformed run = run.1
    by FailedReading run = run.1
    by FailedWriting run = run.1
    by Lacking run = absurd (lacks_none source sink run.1)
    by TookTooMuch run = run.1

-- good lines are followed to the end
ends_well : (input : List ℕ) (now k l : Option (List ℕ)) (f g h i : ℕ) (outcome : Outcome) → FollowsInput encoding (span (Some input) now f g) (span k l h i) (beginning tt) tt [] outcome → AreGood (lines_of input) → rest_of input ≡ [] → length input ≤ LIMIT → ¬ Rose f g → ¬ Rose h i → outcome ≡ Done
ends_well input now k l f g h i outcome run good rest size s t =
    ⊎_elim (λ done. done) (λ lacks. absurd (lacks_none (span (Some input) now f g) (span k l h i) (subst (λ o. FollowsInput encoding (span (Some input) now f g) (span k l h i) (beginning tt) tt [] o) lacks run)))
    (follows_all encoding (λ line. IsOk (meaning line)) (Some input) now k l f g h i (beginning tt) tt [] outcome encoding_refuses_long takes_all run good rest (omega (arith, size)) s t)

pub completes : (before now k l : Option (List ℕ)) (f g h i : ℕ) (status : Status) → Encodes (span before now f g) (span k l h i) status
    → IfSome before (λ input. AreGood (lines_of input) → rest_of input ≡ [] → length input ≤ LIMIT → ¬ Rose f g → ¬ Rose h i → (status ≡ Ok) ⊎ (status ≡ NoMemory))
completes None now k l f g h i status run = tt
completes (Some input) now k l f g h i Ok run = λ good rest size s t. inl refl
completes (Some input) now k l f g h i NoMemory run = λ good rest size s t. inr refl
completes (Some input) now k l f g h i Usage run = absurd run
completes (Some input) now k l f g h i Refused run = λ good rest size s t. let end = ends_well input now k l f g h i MetMalformed run good rest size s t in cc
completes (Some input) now k l f g h i ReadFault run = λ good rest size s t. let end = ends_well input now k l f g h i FailedReading run good rest size s t in cc
completes (Some input) now k l f g h i WriteFault run = λ good rest size s t. let end = ends_well input now k l f g h i FailedWriting run good rest size s t in cc
completes (Some input) now k l f g h i TooLong run = λ good rest size s t. let end = ends_well input now k l f g h i TookTooMuch run good rest size s t in cc
