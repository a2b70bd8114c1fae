-- How the configuration of an input is judged, and the rest of the input passed over.
use Rattle.std.proofs.Common.{◌≡◌, ◌≤◌, ◌+◌, ◌-◌, ℕ, List, [], ◌++◌, Option, true, false, length, take, arith, ap, sym, ◌∙◌, subst, inl, inr, length-append, ⊎_elim}
use Rattle.std.specs.Prelude.{Result, Ok, Err, String, string_bytes}
use Rattle.std.specs.Io.KnownBytes.{Consumes}
use Rattle.std.proofs.KnownBytes.{Consumes-trans, Consumes-nil, Consumes-kept}
use Rattle.std.proofs.lemmas.Bool.{false≢true}
use Rattle.std.proofs.Math.Seq.{take-append-add}
use Rattle.std.specs.declared.alloc.Global.{Global}
use Rattle.dch_io.specs.Ends.{End, span}
use Rattle.dch_io.specs.Pieces.{IsPiece, LIMIT, ReadsOn}
use Rattle.dch_io.specs.declared.feed.ReadStop.TheVariants as stop
use Rattle.dch_check.specs.ConfigSection.{configuration_of, is_complete, settled}
use Rattle.dch_check.specs.TakenConfigs.{IsTakenConfig, TakesConfig}
use Rattle.dch_check.specs.Both.{AreAccepted, RefusesBoth}
use Rattle.dch_check.specs.declared.taken_config.TakenConfig.{TakenConfig}
use Rattle.dch_check.specs.declared.taken_config.ConfigFault.{ConfigFault}
use Rattle.dch_check.specs.declared.taken_config.ConfigFault.TheVariants as fault
use Rattle.dch_check.proofs.ConfigSections.{configuration_more}
use Rattle.dch_check.specs.Configured.{HasEnded, fault_status}
use Rattle.dch_top.specs.Checked.{Judged, JudgesText, PassesOver}
use Rattle.dch_top.specs.declared.check.Answer.{Answer}
use Rattle.dch_top.specs.declared.check.Answer.TheVariants.{Accepted as AcceptedBy, Refused as RefusedBy}
use Rattle.dch_check.specs.declared.status.Status.{Status}
use Rattle.dch_check.specs.declared.status.Status.TheVariants.{NoMemory, ReadFault, TooLong}

-- the rest of an input is taken, and has not ended
pub record Passing (source : End) (first count : ℕ) : Type 0 where
  pub more : List ℕ
  pub takes : Consumes source.before source.now more
  pub counted : count ≡ first + length more
  pub within : count ≤ LIMIT
  pub later : source.faults_before ≤ source.faults_now

pub passes_first : (a : Option (List ℕ)) (f count : ℕ) → count ≤ LIMIT → Passing (span a a f f) count count
passes_first a f count within = record { more = []; takes = Consumes-nil a; counted = omega arith; within = within; later = omega arith }

pub passes_piece : (a b c : Option (List ℕ)) (f g h first count : ℕ) (piece : List ℕ) → g ≤ h → Passing (span a b f g) first count → IsPiece (span b c g h) count piece → Passing (span a c f h) first (count + length piece)
passes_piece a b c f g h first count piece later passing next = record {
  more = passing.more ++ piece;
  takes = Consumes-trans a b c passing.more piece passing.takes next.takes;
  counted = omega (arith, passing.counted, length-append passing.more piece);
  within = next.within;
  later = omega (arith, passing.later);
}

pub passes_end : (a b c : Option (List ℕ)) (f g h first count : ℕ) (piece : List ℕ) → Passing (span a b f g) first count → IsPiece (span b c g h) count piece → length piece ≡ 0 → PassesOver (span a c f h) first (Ok tt)
passes_end a b c f g h first count piece passing next none = record {
  more = passing.more ++ piece;
  takes = Consumes-trans a b c passing.more piece passing.takes next.takes;
  ends = (next.end none, omega (arith, passing.counted, next.within, length-append passing.more piece));
}

pub passes_fault : (a b c : Option (List ℕ)) (f g h first count : ℕ) (room : List ℕ) → Passing (span a b f g) first count → ReadsOn (span b c g h) count room (Err stop.Failed) → PassesOver (span a c f h) first (Err ReadFault)
passes_fault a b c f g h first count room passing reads = record {
  more = passing.more;
  takes = Consumes-kept a b c passing.more passing.takes reads.1;
  ends = (omega (arith, passing.later, reads.0), omega (arith, passing.counted, passing.within));
}

pub passes_limit : (a b c : Option (List ℕ)) (f g h first count : ℕ) (room : List ℕ) → Passing (span a b f g) first count → ReadsOn (span b c g h) count room (Err stop.TooLong) → PassesOver (span a c f h) first (Err TooLong)
passes_limit a b c f g h first count room passing reads = record {
  more = passing.more ++ reads.piece;
  takes = Consumes-trans a b c passing.more reads.piece passing.takes reads.takes;
  ends = omega (arith, passing.counted, reads.full, reads.one, length-append passing.more reads.piece);
}

-- a fault before the configuration was whole
pub config_fault : (a b : Option (List ℕ)) (f g : ℕ) (room : List ℕ) (fault : ConfigFault) → TakesConfig (span a b f g) room (Err fault) → Judged (span a b f g) (Err (fault_status fault))
config_fault a b f g room fault.ReadFault takes = record {
  taken = takes.taken;
  takes = takes.takes;
  finds = record { fails = takes.fails; within = takes.within; good = λ done. absurd (false≢true (sym takes.soon ∙ done)) };
}
config_fault a b f g room fault.NoMemory takes = record { taken = takes.taken; takes = takes.takes; finds = takes.lacks }
config_fault a b f g room fault.TooLong takes = record {
  taken = takes.taken;
  takes = takes.takes;
  finds = record { long = takes.long; good = λ done. absurd (false≢true (sym takes.soon ∙ done)) };
}

-- the configuration has ended
has_ended : (source : End) (room : List ℕ) (front : TakenConfig) → (is : IsTakenConfig source room front) → HasEnded source is.taken
has_ended source room front is = ⊎_elim (λ whole. inl whole.done) (λ ended. inr ended.end) is.whole

-- it is refused
pub judged_refused : (source : End) (room : List ℕ) (front : TakenConfig) (line : String Global) → IsTakenConfig source room front → RefusesBoth (settled front.section) (string_bytes line) → Judged source (Ok (RefusedBy line))
judged_refused source room front line is refuses = record {
  taken = is.taken;
  takes = is.takes;
  finds = record {
    within = is.within;
    ended = has_ended source room front is;
    refuses = subst (λ t. RefusesBoth t (string_bytes line)) is.text refuses;
    soon = is.soon;
  };
}

-- memory is wanted for its judgement
pub judged_lacks : (source : End) (room : List ℕ) (front : TakenConfig) (status : Status) → IsTakenConfig source room front → status ≡ NoMemory → Judged source (Err status)
judged_lacks source room front status is lacks = rw lacks (record { taken = is.taken; takes = is.takes; finds = record { within = is.within; soon = is.soon } })

-- it is judged at the end of the input
pub judged_whole : (source : End) (room : List ℕ) (front : TakenConfig) (found : Result Answer Status) → IsTakenConfig source room front → front.pending.at_end ≡ true → JudgesText (settled front.section) found → Judged source found
judged_whole source room front (Err status) is end judges = judged_lacks source room front status is judges
judged_whole source room front (Ok (RefusedBy line)) is end judges = judged_refused source room front line is judges
judged_whole source room front (Ok (AcceptedBy line)) is end judges = record {
  taken = is.taken;
  takes = is.takes;
  finds = record { end = ⊎_elim (λ whole. absurd (false≢true (sym whole.going ∙ end))) (λ ended. ended.end) is.whole; within = is.within; good = subst (λ t. AreAccepted t (string_bytes line)) is.text judges };
}

-- an accepted configuration stays so, whatever follows
good_more : (bytes more line : List ℕ) → is_complete bytes ≡ true → AreAccepted (configuration_of bytes) line → AreAccepted (configuration_of (bytes ++ more)) line
good_more bytes more line done good = subst (λ t. AreAccepted t line) (sym (configuration_more bytes more done)) good

-- the line `---` came
came : (source : End) (room : List ℕ) (front : TakenConfig) → (is : IsTakenConfig source room front) → front.pending.at_end ≡ false → is_complete is.taken ≡ true
came source room front is going = ⊎_elim (λ whole. whole.done) (λ ended. absurd (false≢true (sym going ∙ ended.ended))) is.whole

pub judged_good : (a b c : Option (List ℕ)) (f g h : ℕ) (room : List ℕ) (front : TakenConfig) (line : String Global) → IsTakenConfig (span a b f g) room front → front.pending.at_end ≡ false → AreAccepted (settled front.section) (string_bytes line) → PassesOver (span b c g h) front.read (Ok tt)
    → Judged (span a c f h) (Ok (AcceptedBy line))
judged_good a b c f g h room front line is going good passes =
    let done = came (span a b f g) room front is going in
    record {
      taken = is.taken ++ passes.more;
      takes = Consumes-trans a b c is.taken passes.more is.takes passes.takes;
      finds = record {
        end = passes.ends.0;
        within = omega (arith, passes.ends.1, is.counted, length-append is.taken passes.more);
        good = good_more is.taken passes.more (string_bytes line) done (subst (λ t. AreAccepted t (string_bytes line)) is.text good);
      };
    }

pub judged_fault : (a b c : Option (List ℕ)) (f g h : ℕ) (room : List ℕ) (front : TakenConfig) (line : String Global) (status : Status) → IsTakenConfig (span a b f g) room front → front.pending.at_end ≡ false → AreAccepted (settled front.section) (string_bytes line) → PassesOver (span b c g h) front.read (Err status)
    → Judged (span a c f h) (Err status)
judged_fault a b c f g h room front line ReadFault is going good passes =
    let done = came (span a b f g) room front is going in
    record {
      taken = is.taken ++ passes.more;
      takes = Consumes-trans a b c is.taken passes.more is.takes passes.takes;
      finds = record {
        fails = omega (arith, is.later, passes.ends.0);
        within = omega (arith, passes.ends.1, is.counted, length-append is.taken passes.more);
        good = λ whole. (string_bytes line, good_more is.taken passes.more (string_bytes line) done (subst (λ t. AreAccepted t (string_bytes line)) is.text good));
      };
    }
judged_fault a b c f g h room front line TooLong is going good passes =
    let done = came (span a b f g) room front is going in
    let rest : ℕ = LIMIT - length is.taken in
    let split : LIMIT ≡ length is.taken + rest = omega (arith, is.within) in
    let front_is : take LIMIT (is.taken ++ passes.more) ≡ is.taken ++ take rest passes.more = ap (λ n. take n (is.taken ++ passes.more)) split ∙ take-append-add is.taken passes.more rest in
    record {
      taken = is.taken ++ passes.more;
      takes = Consumes-trans a b c is.taken passes.more is.takes passes.takes;
      finds = record {
        long = omega (arith, passes.ends, is.counted, length-append is.taken passes.more);
        good = rw front_is (λ whole. (string_bytes line, good_more is.taken (take rest passes.more) (string_bytes line) done (subst (λ t. AreAccepted t (string_bytes line)) is.text good)));
      };
    }
judged_fault a b c f g h room front line status is going good passes = absurd passes.ends
