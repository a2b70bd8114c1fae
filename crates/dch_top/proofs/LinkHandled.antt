-- A run of `link` carries the units of the bearers in the lines that were handled, however it ended.
use Rattle.std.proofs.Common.{◌≡◌, ◌≢◌, ◌<◌, ◌⊎◌, ◌∙◌, ◌%◌, ◌*◌, ◌++◌, ℕ, List, [], ◌∷◌, Bool, length, arith, refl, ap, sym, subst, append-nil, append_assoc, length-append, inl, inr, ⊎_elim}
use Rattle.std.specs.Prelude.{codes, take, ◌-◌}
use Rattle.std.specs.Io.KnownBytes.{Appends, Consumes}
use Rattle.dch_io.specs.Ends.{End}
use Rattle.dch_io.specs.Pieces.{LIMIT}
use Rattle.dch_script.specs.Lines.{lines_of, rest_of}
use Rattle.dch_check.specs.ConfigSection.{configuration_of, script_of}
use Rattle.dch_check.specs.declared.both.Configurations.{Configurations}
use Rattle.dch_lines.specs.Followed.{FailsWriting, IsRefused}
use Rattle.dch_lines.specs.LineTexts.{BeginsLast, HandlesLines}
use Rattle.dch_lines.specs.declared.stop.Outcome.{Outcome}
use Rattle.dch_lines.specs.declared.stop.Outcome.TheVariants.{Ok as Done, Refused as MetMalformed, ReadFault as FailedReading, WriteFault as FailedWriting, NoMemory as Lacking, TooLong as TookTooMuch}
use Rattle.dch_runlaw.specs.LinkcmdRules.{link_lines}
use Rattle.dch_runlaw.specs.LinkcmdRun.{Run}
use Rattle.dch_runlaw.proofs.Headline.{carried}
use Rattle.dch_top.specs.Benches.{Nodes}
use Rattle.dch_check.specs.Configured.{ArePlannedAs, FollowsScript, outcome_status, script_begin}
use Rattle.dch_top.specs.LinkHandled.{CarriesHandled, CarriesSoFar, CutsOpen, EndsAs, EndsRefused, EndsWhole}
use Rattle.dch_top.specs.LinkRuns.{RunsLink, run_of}
use Rattle.dch_top.specs.NodeRuns.{later_of}
use Rattle.dch_top.specs.Ran.{Runs}
use Rattle.dch_top.specs.declared.arguments.Arguments.{Arguments}
use Rattle.dch_top.specs.declared.arguments.Subcommand.{Subcommand}
use Rattle.dch_top.specs.declared.arguments.Subcommand.TheVariants.{Link}
use Rattle.dch_check.specs.declared.status.Status.{Status}
use Rattle.dch_check.specs.declared.status.Status.TheVariants.{Ok as Well, Refused, ReadFault, WriteFault, TooLong}
use Rattle.dch_check.specs.declared.front.FrontKind.TheVariants.{Both}
use Rattle.dch_top.proofs.Cutting.{CutsOne, cut_in, parted}
use Rattle.dch_top.proofs.Fronts.{second_follows}
use Rattle.dch_top.proofs.LinkUnits.{laters}

-- what a run took and wrote that got as far as the line `open`
record Opened (start : ℕ) (quiet : Bool) (source sink : End) (taken written : List ℕ) : Type 0 where
  takes : Consumes source.before source.now taken
  writes : Appends sink.before sink.now written
  accepted : Configurations
  is : ArePlannedAs Both (configuration_of taken) accepted

-- the lines that were handled carry the units
handled : (start : ℕ) (quiet : Bool) (source sink : End) (taken written : List ℕ) (opened : Opened start quiet source sink taken written) (good : List (List ℕ)) (state : Run) (text last : List ℕ) (status : Status)
    → HandlesLines link_lines (run_of start quiet opened.accepted) good state text → EndsAs source taken good state last status → written ≡ codes "open\n" ++ text ++ last → CarriesHandled start quiet source sink status
handled start quiet source sink taken written opened good state text last status handles ends all =
    let begins : (8 * start) % 8 ≡ 0 = omega arith in
    record {
      taken = taken;
      written = written;
      takes = opened.takes;
      writes = opened.writes;
      accepted = opened.accepted;
      is = opened.is;
      good = good;
      state = state;
      text = text;
      handles = handles;
      last = last;
      ends = ends;
      all = all;
      carries = carried opened.accepted.first (later_of opened.accepted.second) (8 * start) quiet good state text opened.is.plans
          (laters opened.accepted.first opened.accepted.second opened.is.later (second_follows (configuration_of taken) opened.accepted opened.is.judged)) begins handles;
    }

-- a write failed behind the line `open`, and this was written behind it
record Behind (written rest text last more : List ℕ) : Type 0 where
  whole : written ≡ codes "open\n" ++ more
  same : text ++ last ≡ more ++ rest

-- the write failed within the text of one of these lines
cut_line : (start : ℕ) (quiet : Bool) (source sink : End) (taken written : List ℕ) (opened : Opened start quiet source sink taken written) (lines later : List (List ℕ)) (more : List ℕ)
    → lines_of (script_of taken) ≡ lines ++ later → written ≡ codes "open\n" ++ more → CutsOne link_lines (run_of start quiet opened.accepted) lines more → CarriesHandled start quiet source sink WriteFault
cut_line start quiet source sink taken written opened lines later more are whole cut =
    handled start quiet source sink taken written opened cut.good cut.state cut.done cut.last WriteFault cut.handles
    (inl (record {
      line = cut.line;
      later = cut.later ++ later;
      lines = are ∙ ap (λ l. l ++ later) cut.are ∙ append_assoc cut.good (cut.line ∷ cut.later) later;
      new = cut.new;
      text = cut.text;
      adds = inl cut.adds;
      cut = cut.cut;
    }))
    (whole ∙ ap (λ t. codes "open\n" ++ t) cut.whole ∙ sym (append_assoc (codes "open\n") cut.done cut.last))

-- it failed within the text of whole lines, or of the line behind them
cut_whole : (start : ℕ) (quiet : Bool) (source sink : End) (taken written : List ℕ) (opened : Opened start quiet source sink taken written) (good later : List (List ℕ)) (state : Run) (text last more rest : List ℕ)
    → lines_of (script_of taken) ≡ good ++ later → HandlesLines link_lines (run_of start quiet opened.accepted) good state text → Behind written rest text last more → 0 < length rest
    → (last ≡ []) ⊎ (EndsWhole source taken good state last ⊎ EndsRefused source taken good state last) → CarriesHandled start quiet source sink WriteFault
cut_whole start quiet source sink taken written opened good later state text last more rest are handles behind some ends =
    ⊎_elim (cut_line start quiet source sink taken written opened good later more are behind.whole)
    (λ past. ⊎_elim
    (λ none. absurd (omega (arith, ap length (sym none ∙ past.1.1), length-append past.0 rest, some)))
    (λ last_line. handled start quiet source sink taken written opened good state text past.0 WriteFault handles
    (inr (record { text = last; ends = last_line; cut = record { rest = rest; some = some; whole = past.1.1 } }))
    (behind.whole ∙ ap (λ t. codes "open\n" ++ t) past.1.0 ∙ sym (append_assoc (codes "open\n") text past.0)))
    ends)
    (cut_in link_lines (run_of start quiet opened.accepted) state good text last more rest handles behind.same)

-- it failed within the text of whole lines, or of a part of the line behind them
cut_begun : (start : ℕ) (quiet : Bool) (source sink : End) (taken written : List ℕ) (opened : Opened start quiet source sink taken written) (good later : List (List ℕ)) (state : Run) (text more rest : List ℕ)
    → lines_of (script_of taken) ≡ good ++ later → BeginsLast link_lines (run_of start quiet opened.accepted) good state text → Behind written rest text [] more → 0 < length rest → CarriesHandled start quiet source sink WriteFault
cut_begun start quiet source sink taken written opened good later state text more rest are begun behind some =
    let lines : lines_of (script_of taken) ≡ begun.before ++ (begun.line ∷ later) = are ∙ ap (λ l. l ++ later) begun.ends ∙ append_assoc begun.before (begun.line ∷ []) later in
    let same : begun.done ++ begun.more ≡ more ++ rest = sym begun.whole ∙ sym (append-nil text) ∙ behind.same in
    ⊎_elim (cut_line start quiet source sink taken written opened begun.before (begun.line ∷ later) more lines behind.whole)
    (λ past. handled start quiet source sink taken written opened begun.before begun.state begun.done past.0 WriteFault begun.handles
    (inl (record { line = begun.line; later = later; lines = lines; new = state; text = begun.more; adds = inr begun.begins; cut = record { rest = rest; some = some; whole = past.1.1 } }))
    (behind.whole ∙ ap (λ t. codes "open\n" ++ t) past.1.0 ∙ sym (append_assoc (codes "open\n") begun.done past.0)))
    (cut_in link_lines (run_of start quiet opened.accepted) begun.state begun.before begun.done begun.more more rest begun.handles same)

-- a write failed
failed : (start : ℕ) (quiet : Bool) (source sink : End) (taken written : List ℕ) (opened : Opened start quiet source sink taken written) (part later : List ℕ) → script_of taken ≡ part ++ later
    → FailsWriting link_lines source sink (script_begin taken (run_of start quiet opened.accepted)) part later written → CutsOpen sink WriteFault ⊎ CarriesHandled start quiet source sink WriteFault
failed start quiet source sink taken written opened part later script fails =
    ⊎_elim (λ cut. inl (record { failed = refl; written = written; writes = opened.writes; cut = cut }))
    (λ past. inr (in_lines past.0 past.1.0 past.1.1))
    (parted (codes "open\n") (fails.text ++ fails.last) written fails.cut.rest (sym (append_assoc (codes "open\n") fails.text fails.last) ∙ fails.cut.whole))
  where
    are : lines_of (script_of taken) ≡ fails.good ++ fails.later
    are = ap lines_of script ∙ fails.lines

    in_lines : (more : List ℕ) → written ≡ codes "open\n" ++ more → fails.text ++ fails.last ≡ more ++ fails.cut.rest → CarriesHandled start quiet source sink WriteFault
    in_lines more whole same = ⊎_elim
        (λ none. ⊎_elim
        (λ handles. cut_whole start quiet source sink taken written opened fails.good fails.later fails.state fails.text fails.last more fails.cut.rest are handles (record { whole = whole; same = same }) fails.cut.some (inl none))
        (λ begun. cut_begun start quiet source sink taken written opened fails.good fails.later fails.state fails.text more fails.cut.rest are begun
        (record { whole = whole; same = ap (λ l. fails.text ++ l) (sym none) ∙ same }) fails.cut.some) fails.handles)
        (λ some. cut_whole start quiet source sink taken written opened fails.good fails.later fails.state fails.text fails.last more fails.cut.rest are some.0 (record { whole = whole; same = same }) fails.cut.some
        (inr (⊎_elim
        (λ over. inl (record { end = over.0.0; lines = ap lines_of script ∙ over.0.1; ended = ap rest_of script ∙ over.0.2; closes = over.1 }))
        (λ refused. inr (record { why = refused.0; refused = subst (λ (bytes : List ℕ). IsRefused link_lines source fails.state [] bytes fails.good refused.0) (sym script) refused.1.0; names = refused.1.1 })) some.1)))
        fails.follows

-- the lines behind accepted configurations were followed
followed : (start : ℕ) (quiet : Bool) (source sink : End) (taken written : List ℕ) → Consumes source.before source.now taken → Appends sink.before sink.now written → (after : Run) (outcome : Outcome)
    → FollowsScript Both link_lines (run_of start quiet) source sink taken written after outcome → outcome ≢ Lacking → CutsOpen sink (outcome_status outcome) ⊎ CarriesHandled start quiet source sink (outcome_status outcome)
followed start quiet source sink taken written takes writes after Done follows enough =
    let opened : Opened start quiet source sink taken written = record { takes = takes; writes = writes; accepted = follows.accepted; is = follows.is } in
    let answers = follows.answers in
    inr (handled start quiet source sink taken written opened (lines_of (follows.part ++ follows.later)) after answers.text _ Well answers.handles
    (record { end = answers.end; lines = ap lines_of follows.script; ended = ap rest_of follows.script ∙ answers.ended; closes = refl }) answers.all)
followed start quiet source sink taken written takes writes after MetMalformed follows enough =
    let opened : Opened start quiet source sink taken written = record { takes = takes; writes = writes; accepted = follows.accepted; is = follows.is } in
    let answers = follows.answers in
    inr (handled start quiet source sink taken written opened answers.good answers.state answers.text _ Refused answers.handles
    (record { why = answers.why; refused = subst (λ (bytes : List ℕ). IsRefused link_lines source answers.state [] bytes answers.good answers.why) (sym follows.script) answers.refused; names = refl }) answers.all)
followed start quiet source sink taken written takes writes after FailedReading follows enough =
    let opened : Opened start quiet source sink taken written = record { takes = takes; writes = writes; accepted = follows.accepted; is = follows.is } in
    let answers = follows.answers in
    inr (handled start quiet source sink taken written opened (lines_of (follows.part ++ follows.later)) answers.state answers.text [] ReadFault answers.handles
    (ap lines_of follows.script, refl) (answers.all ∙ sym (append-nil (codes "open\n" ++ answers.text))))
followed start quiet source sink taken written takes writes after FailedWriting follows enough =
    failed start quiet source sink taken written (record { takes = takes; writes = writes; accepted = follows.accepted; is = follows.is }) follows.part follows.later follows.script follows.answers
followed start quiet source sink taken written takes writes after Lacking follows enough = absurd (enough refl)
followed start quiet source sink taken written takes writes after TookTooMuch follows enough =
    let opened : Opened start quiet source sink taken written = record { takes = takes; writes = writes; accepted = follows.accepted; is = follows.is } in
    let answers = follows.answers in
    let left : ℕ = LIMIT - (script_begin taken answers.state).bytes in
    inr (handled start quiet source sink taken written opened (lines_of (take left (follows.part ++ follows.later))) answers.state answers.text [] TooLong answers.handles
    (ap (λ bytes. lines_of (take left bytes)) follows.script, refl) (answers.all ∙ sym (append-nil (codes "open\n" ++ answers.text))))

-- what a run of the words for it does, whatever its status
pub units_handled : (subcommand : Subcommand) (arguments : Arguments) (source sink : End) (nodes : Nodes) (status : Status) → Runs subcommand arguments source sink nodes status → subcommand ≡ Link → CarriesSoFar arguments.start arguments.quiet source sink status
units_handled subcommand arguments source sink nodes status runs is = so_far (subst (λ c. Runs c arguments source sink nodes status) is runs)
  where
    so_far : RunsLink arguments.start arguments.quiet source sink nodes status → CarriesSoFar arguments.start arguments.quiet source sink status
    so_far link =
        let all = link.runs in
        ⊎_elim (λ early. inl (record { taken = all.taken; written = all.written; takes = all.takes; writes = all.writes; answers = early }))
        (λ late. inr (subst (λ s. CutsOpen sink s ⊎ CarriesHandled arguments.start arguments.quiet source sink s) (sym late.1.0.same)
        (followed arguments.start arguments.quiet source sink all.taken all.written all.takes all.writes late.0 late.1.0.outcome late.1.0.follows late.1.0.enough))) all.answers
