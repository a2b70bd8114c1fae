-- What may stand in front of the lines of a command, and how it is judged.
use Rattle.std.specs.Prelude.{◌≡◌, ℕ, List, None, false, string_bytes}
use Rattle.dch_check.specs.Both.{AreAcceptedAs, RefusesBoth}
use Rattle.dch_check.specs.Singles.{RefusesSingle, has_second}
use Rattle.dch_check.specs.Verdicts.{IsAcceptedAs}
use Rattle.dch_check.specs.declared.both.Configurations.{Configurations}
use Rattle.dch_check.specs.declared.both.Judgement.{Judgement}
use Rattle.dch_check.specs.declared.both.Judgement.TheVariants.{Accepted, Refused}
use Rattle.dch_check.specs.declared.verdict.Verdict.{Verdict}
use Rattle.dch_check.specs.declared.verdict.Verdict.TheVariants as verdict
use Rattle.dch_check.specs.declared.front.FrontKind.{FrontKind}
use Rattle.dch_check.specs.declared.front.FrontKind.TheVariants.{Single, Both}

-- a text is accepted as one configuration with its plans, without a second one
pub record IsAlone (text : List ℕ) (accepted : Configurations) : Type 0 where
  pub first : IsAcceptedAs text accepted.first
  pub none : accepted.second ≡ None

-- the text is accepted, and these are the configurations with their plans
abbrev pub AdmitsFront : FrontKind → List ℕ → Configurations → Type 0
AdmitsFront Single text accepted = IsAlone text accepted × (has_second text ≡ false)
AdmitsFront Both text accepted = AreAcceptedAs text accepted

-- the text in front of a command's lines is refused by this line, by what may stand there
abbrev pub RefusesFront : FrontKind → List ℕ → List ℕ → Type 0
RefusesFront Single text line = RefusesSingle text line
RefusesFront Both text line = RefusesBoth text line

-- its judgement
abbrev pub JudgesFront : FrontKind → List ℕ → Judgement → Type 0
JudgesFront kind text (Accepted accepted) = AdmitsFront kind text accepted
JudgesFront kind text (Refused line) = RefusesFront kind text (string_bytes line)

-- the judgement of one configuration
abbrev pub judgement_of : Verdict → Judgement
judgement_of (verdict.Accepted accepted) = Accepted (record { first = accepted; second = None })
judgement_of (verdict.Refused line) = Refused line
