-- A run of a command with nodes, by how it ended.
use Rattle.std.proofs.Common.{◌≡◌, ◌≢◌, ℕ, List, [], Option, inl, refl, subst, arith}
use Rattle.std.proofs.KnownBytes.{Appends-nil, Consumes-nil}
use Rattle.dch_io.specs.Ends.{End, span}
use Rattle.dch_check.specs.TakenConfigs.{LacksEarly}
use Rattle.dch_check.specs.declared.both.Configurations.{Configurations}
use Rattle.dch_lines.specs.Semantics.{Semantics}
use Rattle.dch_top.specs.Benches.{Nodes, no_nodes}
use Rattle.dch_check.proofs.Scripts.{runs_with}
use Rattle.dch_check.specs.Configured.{EndsEarly, EndsUnopened, RunsConfigured}
use Rattle.dch_top.specs.NodeRuns.{HeldBy, RunsWith}
use Rattle.dch_check.specs.declared.status.Status.{Status}
use Rattle.dch_check.specs.declared.status.Status.TheVariants.{Ok, Refused, Usage, ReadFault, WriteFault, NoMemory, TooLong}
use Rattle.dch_check.specs.declared.front.FrontKind.{FrontKind}

pub runs_ill : {S : Type 0} {kind : FrontKind} (semantics : Semantics S) (opened : Configurations → S) (Holds : Nodes → S → Type 0) (source sink : End) (nodes : Nodes) (status : Status) → nodes ≡ no_nodes → RunsConfigured kind semantics opened (λ run. Unit {0}) source sink status × (status ≢ Ok)
    → RunsWith kind semantics opened Holds source sink nodes status
runs_ill semantics opened Holds source sink nodes Ok none runs = absurd (runs.1 refl)
runs_ill semantics opened Holds source sink nodes Refused none runs = record { runs = runs.0; idle = λ ill. none }
runs_ill semantics opened Holds source sink nodes Usage none runs = record { runs = runs.0; idle = λ ill. none }
runs_ill semantics opened Holds source sink nodes ReadFault none runs = record { runs = runs.0; idle = λ ill. none }
runs_ill semantics opened Holds source sink nodes WriteFault none runs = record { runs = runs.0; idle = λ ill. none }
runs_ill semantics opened Holds source sink nodes NoMemory none runs = record { runs = runs.0; idle = λ ill. none }
runs_ill semantics opened Holds source sink nodes TooLong none runs = record { runs = runs.0; idle = λ ill. none }

-- the run ended without the line `open`
pub runs_unopened : {S : Type 0} {kind : FrontKind} (semantics : Semantics S) (opened : Configurations → S) (Holds : Nodes → S → Type 0) (source sink : End) (nodes : Nodes) (status : Status) → nodes ≡ no_nodes → EndsUnopened kind source sink status → RunsWith kind semantics opened Holds source sink nodes status
runs_unopened {S} {kind} semantics opened Holds source sink nodes status none ends = runs_ill semantics opened Holds source sink nodes status none (
  record { taken = ends.taken; written = ends.written; takes = ends.takes; writes = ends.writes; answers = inl ends.answers },
  λ well. subst (λ (s : Status). EndsEarly kind source sink ends.taken ends.written s) well ends.answers,
)

-- there was no memory to begin
pub runs_nothing : {S : Type 0} (kind : FrontKind) (semantics : Semantics S) (opened : Configurations → S) (Holds : Nodes → S → Type 0) (a k : Option (List ℕ)) (f h : ℕ) (nodes : Nodes) → nodes ≡ no_nodes → RunsWith kind semantics opened Holds (span a a f f) (span k k h h) nodes NoMemory
runs_nothing kind semantics opened Holds a k f h nodes none = record { runs = record { taken = []; written = []; takes = Consumes-nil a; writes = Appends-nil k; answers = inl (lacks, refl) }; idle = λ ill. none }
  where
    lacks : LacksEarly []
    lacks = record { within = omega arith; soon = record { old = []; piece = []; pieces = refl; small = omega arith; incomplete = refl } }

-- the bench holds what the handler handed over
pub handed : {S C : Type 0} {kind : FrontKind} (semantics : Semantics S) (opened : Configurations → S) (represents : S → C → Type 0) (Holds : Nodes → S → Type 0) (source sink : End) (nodes : Nodes) (status : Status)
    → RunsWith kind semantics opened (HeldBy represents (λ handler nodes. (state : S) → represents state handler → Holds nodes state)) source sink nodes status → RunsWith kind semantics opened Holds source sink nodes status
handed {S} {C} semantics opened represents Holds source sink nodes Ok runs = record {
  runs = runs_with semantics opened (HeldBy represents (λ handler nodes. (state : S) → represents state handler → Holds nodes state) nodes) (Holds nodes) source sink Ok (λ state held. held.1.1 state held.1.0) runs.runs;
  idle = runs.idle;
}
handed semantics opened represents Holds source sink nodes Refused runs = record { runs = runs.runs; idle = runs.idle }
handed semantics opened represents Holds source sink nodes Usage runs = record { runs = runs.runs; idle = runs.idle }
handed semantics opened represents Holds source sink nodes ReadFault runs = record { runs = runs.runs; idle = runs.idle }
handed semantics opened represents Holds source sink nodes WriteFault runs = record { runs = runs.runs; idle = runs.idle }
handed semantics opened represents Holds source sink nodes NoMemory runs = record { runs = runs.runs; idle = runs.idle }
handed semantics opened represents Holds source sink nodes TooLong runs = record { runs = runs.runs; idle = runs.idle }
