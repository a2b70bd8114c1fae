-- What a run of the program does.
use Rattle.std.specs.Prelude.{◌≡◌, ℕ, List, codes}
use Rattle.std.specs.Io.KnownBytes.{Appends}
use Rattle.dch_io.specs.Ends.{End, Fails, IsCutShort}
use Rattle.dch_check.specs.Configured.{RunsConfigured}
use Rattle.dch_check.specs.declared.both.Configurations.{Configurations}
use Rattle.dch_check.specs.declared.front.FrontKind.TheVariants.{Single}
use Rattle.dch_check.specs.declared.status.Status.{Status}
use Rattle.dch_check.specs.declared.status.Status.TheVariants.{Usage, WriteFault}
use Rattle.dch_stages.specs.Rules.{State, opened, rules}

-- the lines behind one configuration are followed from the state in which nothing is loaded
abbrev pub begun : Configurations → State
begun accepted = opened accepted.first

abbrev pub RunsStages : End → End → Status → Type 0
RunsStages source sink status = RunsConfigured Single rules begun (λ after. Unit {0}) source sink status

-- what is written where the program has words
abbrev pub usage : List ℕ
usage = codes "usage: dch_stages\n"

abbrev pub RefusesWords : End → List ℕ → Status → Type 0
RefusesWords sink written Usage = written ≡ usage
RefusesWords sink written WriteFault = Fails sink × IsCutShort written usage
RefusesWords sink written _ = ⊥

pub record Misuses (source sink : End) (status : Status) : Type 0 where
  pub written : List ℕ
  pub writes : Appends sink.before sink.now written
  pub answers : RefusesWords sink written status
  pub unread : source.now ≡ source.before
