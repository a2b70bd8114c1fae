use Rattle.std.proofs.Common.{◌≡◌, ◌≤◌, ◌<◌, ◌+◌, ◌∙◌, ap, arith, refl, sym, subst}
use Rattle.std.specs.Prelude.{IfErr, Ok}
use Rattle.dch_io.specs.Pieces.{LIMIT}
use Rattle.dch_script.specs.ParsedLine.{ParsedLine, parsed_of}
use Rattle.dch_lines.specs.Semantics.{IsFault}
use Rattle.dch_nodecmd.specs.Rules.{node_lines}
use Rattle.dch_nodecmd.specs.Run.{Run}
use Rattle.dch_nodecmd.specs.NodeRules.{AsksChange, meaning_for}
use Rattle.dch_nodecmd.specs.Handlers.{Handler, HasRun, IsReady, RepresentsRun}
use Rattle.dch_nodecmd.proofs.Changing.{asked, first_stays, goes_on_in, not_due, on_ok, stays_ready}
use Rattle.dch_nodecmd.proofs.Running.{done_whole, went_on}
use Rattle.dch_nodecmd.proofs.handler.NodeHandlerLineHandler.handle_line.Goals as goal

pub returns-in-Event-clause-ok : goal.returns-in-Event-clause-ok
returns-in-Event-clause-ok g c = λ run stands.
    let node = g.N.CommandNode in
    let inside = c.self.inside in
    let old : Handler g.row.N.Denot = record { accepted = inside.accepted; later = inside.later; node = inside.node; quiet = inside.quiet; frames = inside.frames } in
    let new : Handler g.row.N.Denot = record old { node = c.take.new.node; frames = inside.frames + c.in-Event.frames } in
    let means : meaning_for node.rules inside.accepted.config c.args.line.now ≡ Ok (parsed_of c.in-Ok.event) = sym (rw (c.command.ensures, c.config.ensures.value) at c.in-Ok.ensures.says) in
    let next = went_on g.P.Page.writes node.rules node.represents node.shows g.met.N.CommandNode.active old new run c.args.line.now (parsed_of c.in-Ok.event) c.in-Event.frames c.args.page.now c.take.new.page means c.in-Event.ensures.took refl refl refl refl (rw (← c.self.view_is) at stands) in
    (next.0, next.1, done_whole g.P.Page.writes (g.P.Page.broken c.take.new.page) node.rules run next.0 c.args.line.now c.args.page.now c.take.new.page next.2)

pub returns-in-Event-clause-stands : goal.returns-in-Event-clause-stands
returns-in-Event-clause-stands g c =
    let node = g.N.CommandNode in
    let inside = c.self.inside in
    let old : Handler g.row.N.Denot = record { accepted = inside.accepted; later = inside.later; node = inside.node; quiet = inside.quiet; frames = inside.frames } in
    let new : Handler g.row.N.Denot = record old { node = c.take.new.node; frames = inside.frames + c.in-Event.frames } in
    let means : meaning_for node.rules inside.accepted.config c.args.line.now ≡ Ok (parsed_of c.in-Ok.event) = sym (rw (c.command.ensures, c.config.ensures.value) at c.in-Ok.ensures.says) in
    let ready : IsReady node.rules node.is_opened node.has_next node.represents node.shows old =
    subst (λ (h : Handler g.row.N.Denot). IsReady node.rules node.is_opened node.has_next node.represents node.shows h) (sym c.self.view_is) c.requires.stands in
    let few : old.frames < LIMIT = subst (λ (h : Handler g.row.N.Denot). h.frames < LIMIT) (sym c.self.view_is) c.requires.few in
    let one : c.in-Event.frames ≤ 1 = c.in-Event.ensures.at_most in
    let runs : HasRun node.rules node.represents node.shows new =
    goes_on_in node.rules node.represents node.shows old new ready.runs (λ run stands.
    let next = went_on g.P.Page.writes node.rules node.represents node.shows g.met.N.CommandNode.active old new run c.args.line.now (parsed_of c.in-Ok.event) c.in-Event.frames c.args.page.now c.take.new.page means c.in-Event.ensures.took refl refl refl refl stands in
    (next.0, next.1, first_stays node.rules run next.0 c.args.line.now next.2.more next.2.handles)) in
    stays_ready node.rules node.is_opened node.has_next node.represents node.shows old new ready refl (omega (arith, few, one)) c.in-Event.ensures.opened c.in-Event.ensures.next runs

pub returns-in-Change-clause-ok : goal.returns-in-Change-clause-ok
returns-in-Change-clause-ok g c =
    let node = g.N.CommandNode in
    let inside = c.self.inside in
    let old : Handler g.row.N.Denot = record { accepted = inside.accepted; later = inside.later; node = inside.node; quiet = inside.quiet; frames = inside.frames } in
    let mid : Handler g.row.N.Denot = record old { node = c.take.new.node } in
    let took = c.in-Change.ensures.took in
    let asks : AsksChange node.rules inside.accepted.config c.args.line.now = sym (rw (c.command.ensures, c.config.ensures.value) at c.in-Ok.ensures.says) ∙ ap (λ (p : ParsedLine). Ok p) took.0 in
    let same : mid ≡ old = rw took.1 refl in
    on_ok c.change.result _ _ (λ led run stands. asked g.P.Page.writes (g.P.Page.broken c.change.new.page) node.rules node.represents node.shows g.met.N.CommandNode.active old mid c.change.new.self c.args.line.now c.args.page.now c.take.new.page c.change.new.page same took.2 asks led run (rw (← c.self.view_is) at stands))
    c.change.ensures.ok

pub returns-in-Change-clause-err : goal.returns-in-Change-clause-err
returns-in-Change-clause-err g c =
    let node = g.N.CommandNode in
    let inside = c.self.inside in
    let old : Handler g.row.N.Denot = record { accepted = inside.accepted; later = inside.later; node = inside.node; quiet = inside.quiet; frames = inside.frames } in
    let mid : Handler g.row.N.Denot = record old { node = c.take.new.node } in
    let took = c.in-Change.ensures.took in
    let asks : AsksChange node.rules inside.accepted.config c.args.line.now = sym (rw (c.command.ensures, c.config.ensures.value) at c.in-Ok.ensures.says) ∙ ap (λ (p : ParsedLine). Ok p) took.0 in
    let same : mid ≡ old = rw took.1 refl in
    let none = not_due node.rules node.represents node.shows g.met.N.CommandNode.active old mid c.change.new.self c.args.line.now c.change.result _ same asks c.change.ensures.err c.change.ensures.same in
    subst (λ (h : Handler g.row.N.Denot). IfErr c.change.result (λ fault. (run : Run node.State node.Event) → RepresentsRun node.rules node.represents node.shows run h → IsFault (node_lines node.rules) run c.args.line.now fault × RepresentsRun node.rules node.represents node.shows run c.change.new.self)) c.self.view_is none
