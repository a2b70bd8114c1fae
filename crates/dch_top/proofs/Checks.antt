-- What `check` answers by its judgement, and that it answers whole inputs.
use Rattle.std.proofs.Common.{◌≡◌, ◌⊎◌, ◌≤◌, ◌++◌, ℕ, List, [], length, refl, ap, sym, ◌∙◌, subst, length-append, arith, inl, inr, IfSome, None, Some, ⊎_elim}
use Rattle.std.specs.Prelude.{Ok, Err, string_bytes}
use Rattle.std.specs.declared.option.Option.{Option}
use Rattle.std.specs.Io.KnownBytes.{IsAtEnd}
use Rattle.std.proofs.KnownBytes.{Appends-nil}
use Rattle.dch_io.specs.Causes.{Rose}
use Rattle.dch_io.specs.Ends.{End, span}
use Rattle.dch_check.specs.ConfigSection.{configuration_of}
use Rattle.dch_check.specs.Both.{AreAccepted, RefusesBoth}
use Rattle.dch_check.proofs.ConfigSections.{configuration_more}
use Rattle.dch_check.proofs.BothJudgements.{one_both}
use Rattle.dch_io.specs.Pieces.{LIMIT}
use Rattle.dch_lines.proofs.Complete.{consumed, all_consumed}
use Rattle.dch_check.specs.Configured.{HasEnded}
use Rattle.dch_top.specs.Checked.{Answers, Checks, Judged}
use Rattle.dch_top.specs.declared.check.Answer.{Answer}
use Rattle.dch_top.specs.declared.check.Answer.TheVariants.{Accepted as AcceptedBy, Refused as RefusedBy}
use Rattle.dch_check.specs.declared.status.Status.{Status}
use Rattle.dch_check.specs.declared.status.Status.TheVariants.{Ok as Done, Refused, Usage, ReadFault, WriteFault, NoMemory, TooLong}

-- the line of a judgement is written, or a front of it
pub answered : (a b k l : Option (List ℕ)) (f g h i : ℕ) (answer : Answer) (status : Status) → Judged (span a b f g) (Ok answer) → Answers (span k l h i) answer status → Checks (span a b f g) (span k l h i) status
answered a b k l f g h i (AcceptedBy line) Done judged writes = record { taken = judged.taken; written = string_bytes line; takes = judged.takes; writes = writes; answers = judged.finds }
answered a b k l f g h i (AcceptedBy line) WriteFault judged breaks = record {
  taken = judged.taken;
  written = breaks.written;
  takes = judged.takes;
  writes = breaks.writes;
  answers = record { fails = breaks.fails; line = string_bytes line; answers = inl judged.finds; cut = breaks.cut };
}
answered a b k l f g h i (RefusedBy line) Refused judged writes = record { taken = judged.taken; written = string_bytes line; takes = judged.takes; writes = writes; answers = judged.finds }
answered a b k l f g h i (RefusedBy line) WriteFault judged breaks = record {
  taken = judged.taken;
  written = breaks.written;
  takes = judged.takes;
  writes = breaks.writes;
  answers = record { fails = breaks.fails; line = string_bytes line; answers = inr judged.finds; cut = breaks.cut };
}
answered a b k l f g h i answer status judged answers = absurd answers

-- there is no judgement, and nothing is written
pub unanswered : (a b k : Option (List ℕ)) (f g h : ℕ) (status : Status) → Judged (span a b f g) (Err status) → Checks (span a b f g) (span k k h h) status
unanswered a b k f g h ReadFault judged = record { taken = judged.taken; written = []; takes = judged.takes; writes = Appends-nil k; answers = (judged.finds, refl) }
unanswered a b k f g h NoMemory judged = record { taken = judged.taken; written = []; takes = judged.takes; writes = Appends-nil k; answers = (judged.finds, refl) }
unanswered a b k f g h TooLong judged = record { taken = judged.taken; written = []; takes = judged.takes; writes = Appends-nil k; answers = (judged.finds, refl) }
unanswered a b k f g h status judged = absurd judged.finds

-- the configuration that was judged is the input's
pub same_configuration : (source : End) (input taken more : List ℕ) → input ≡ taken ++ more → (IsAtEnd source.now → input ≡ taken) → HasEnded source taken → configuration_of taken ≡ configuration_of input
same_configuration source input taken more cut all ended =
    ⊎_elim (λ done. sym (configuration_more taken more done) ∙ sym (ap configuration_of cut)) (λ end. sym (ap configuration_of (all end))) ended

-- an accepted configuration is answered without a fault
pub good_answered : (before now k l : Option (List ℕ)) (f g h i : ℕ) (status : Status) → Checks (span before now f g) (span k l h i) status
    → IfSome before (λ input. (line : List ℕ) → AreAccepted (configuration_of input) line → length input ≤ LIMIT → ¬ Rose f g → ¬ Rose h i → (status ≡ Done) ⊎ (status ≡ NoMemory))
good_answered None now k l f g h i status run = tt
good_answered (Some input) now k l f g h i Done run = λ line good size s t. inl refl
good_answered (Some input) now k l f g h i NoMemory run = λ line good size s t. inr refl
good_answered (Some input) now k l f g h i Usage run = absurd run.answers
good_answered (Some input) now k l f g h i ReadFault run = λ line good size s t. absurd (s run.answers.0.fails)
good_answered (Some input) now k l f g h i WriteFault run = λ line good size s t. absurd (t run.answers.fails)
good_answered (Some input) now k l f g h i TooLong run = λ line good size s t.
    let more = consumed input run.taken now run.takes in
    absurd (omega (arith, run.answers.0.long, ap length more.1, length-append run.taken more.0))
good_answered (Some input) now k l f g h i Refused run = λ line good size s t.
    let more = consumed input run.taken now run.takes in
    let same = same_configuration (span (Some input) now f g) input run.taken more.0 more.1 (all_consumed input run.taken now run.takes) run.answers.ended in
    absurd (one_both (configuration_of input) line run.written good (subst (λ text. RefusesBoth text run.written) same run.answers.refuses))

-- and so is a refused one
pub refused_answered : (before now k l : Option (List ℕ)) (f g h i : ℕ) (status : Status) → Checks (span before now f g) (span k l h i) status
    → IfSome before (λ input. (line : List ℕ) → RefusesBoth (configuration_of input) line → length input ≤ LIMIT → ¬ Rose f g → ¬ Rose h i → (status ≡ Refused) ⊎ (status ≡ NoMemory))
refused_answered None now k l f g h i status run = tt
refused_answered (Some input) now k l f g h i Refused run = λ line refused size s t. inl refl
refused_answered (Some input) now k l f g h i NoMemory run = λ line refused size s t. inr refl
refused_answered (Some input) now k l f g h i Usage run = absurd run.answers
refused_answered (Some input) now k l f g h i ReadFault run = λ line refused size s t. absurd (s run.answers.0.fails)
refused_answered (Some input) now k l f g h i WriteFault run = λ line refused size s t. absurd (t run.answers.fails)
refused_answered (Some input) now k l f g h i TooLong run = λ line refused size s t.
    let more = consumed input run.taken now run.takes in
    absurd (omega (arith, run.answers.0.long, ap length more.1, length-append run.taken more.0))
refused_answered (Some input) now k l f g h i Done run = λ line refused size s t.
    let whole = all_consumed input run.taken now run.takes run.answers.end in
    absurd (one_both (configuration_of input) run.written line (subst (λ t. AreAccepted t run.written) (sym (ap configuration_of whole)) run.answers.good) refused)
