use Rattle.std.proofs.Common.{◌≡◌, None, refl, sym, subst}
use Rattle.dch_accept.specs.Plans.{Planned}
use Rattle.dch_nodecmd.specs.Handlers.{CanChange, Changes, Handler, IsReady, RepresentsRun, ShowsLines}
use Rattle.dch_nodecmd.proofs.Changing.{can_change, changed}
use Rattle.dch_nodecmd.proofs.handler.NodeHandler.change.Goals as goal

pub make_change-requires : goal.make_change-requires
make_change-requires g c =
    let node = g.N.CommandNode in
    let inside = c.self.inside in
    let old : Handler g.row.N.Denot = record { accepted = inside.accepted; later = inside.later; node = inside.node; quiet = inside.quiet; frames = inside.frames } in
    let ready : IsReady node.rules node.is_opened node.has_next node.represents node.shows old =
    subst (λ (h : Handler g.row.N.Denot). IsReady node.rules node.is_opened node.has_next node.represents node.shows h) (sym c.self.view_is) c.requires in
    let due = c.if-not-is_due.ensures.due refl in
    subst (λ (p : Planned). CanChange node.rules node.is_opened node.has_next node.represents p inside.node) (sym c.into_accepted.ensures)
    (can_change node.rules node.is_opened node.has_next node.represents node.shows g.met.N.CommandNode.lasting old due.0 c.in-Some.later ready due.1 (sym c.in-Some.ensures.value))

pub returns-in-Some-clause-ok : goal.returns-in-Some-clause-ok
returns-in-Some-clause-ok g c =
    let node = g.N.CommandNode in
    let inside = c.self.inside in
    let old : Handler g.row.N.Denot = record { accepted = inside.accepted; later = inside.later; node = inside.node; quiet = inside.quiet; frames = inside.frames } in
    let new : Handler g.row.N.Denot = record old { accepted = c.into_accepted.result; later = c.take.new.self; node = c.make_change.new.node } in
    let ready : IsReady node.rules node.is_opened node.has_next node.represents node.shows old =
    subst (λ (h : Handler g.row.N.Denot). IsReady node.rules node.is_opened node.has_next node.represents node.shows h) (sym c.self.view_is) c.requires in
    let due = c.if-not-is_due.ensures.due refl in
    let is : new ≡ record old { accepted = c.in-Some.later.accepted; later = None; node = new.node } = rw (c.into_accepted.ensures, c.take.ensures.after) refl in
    let steps : Changes node.rules node.represents node.has_next node.shows c.in-Some.later.accepted old.node new.node (ShowsLines g.P.Page.writes old.quiet c.args.page.now c.make_change.new.page) =
    subst (λ (p : Planned). Changes node.rules node.represents node.has_next node.shows p old.node new.node (ShowsLines g.P.Page.writes old.quiet c.args.page.now c.make_change.new.page)) c.into_accepted.ensures c.make_change.ensures.steps in
    let opened : node.is_opened c.in-Some.later.accepted new.node = subst (λ (p : Planned). node.is_opened p new.node) c.into_accepted.ensures c.make_change.ensures.opened in
    λ run stands.
    (changed g.P.Page.writes node.rules node.is_opened node.has_next node.represents node.shows g.met.N.CommandNode.lasting old new due.0 c.in-Some.later c.args.page.now c.make_change.new.page ready due.1 (sym c.in-Some.ensures.value) steps opened is).1 run
    (subst (λ (h : Handler g.row.N.Denot). RepresentsRun node.rules node.represents node.shows run h) (sym c.self.view_is) stands)

pub returns-in-Some-clause-stands : goal.returns-in-Some-clause-stands
returns-in-Some-clause-stands g c =
    let node = g.N.CommandNode in
    let inside = c.self.inside in
    let old : Handler g.row.N.Denot = record { accepted = inside.accepted; later = inside.later; node = inside.node; quiet = inside.quiet; frames = inside.frames } in
    let new : Handler g.row.N.Denot = record old { accepted = c.into_accepted.result; later = c.take.new.self; node = c.make_change.new.node } in
    let ready : IsReady node.rules node.is_opened node.has_next node.represents node.shows old =
    subst (λ (h : Handler g.row.N.Denot). IsReady node.rules node.is_opened node.has_next node.represents node.shows h) (sym c.self.view_is) c.requires in
    let due = c.if-not-is_due.ensures.due refl in
    let is : new ≡ record old { accepted = c.in-Some.later.accepted; later = None; node = new.node } = rw (c.into_accepted.ensures, c.take.ensures.after) refl in
    let steps : Changes node.rules node.represents node.has_next node.shows c.in-Some.later.accepted old.node new.node (ShowsLines g.P.Page.writes old.quiet c.args.page.now c.make_change.new.page) =
    subst (λ (p : Planned). Changes node.rules node.represents node.has_next node.shows p old.node new.node (ShowsLines g.P.Page.writes old.quiet c.args.page.now c.make_change.new.page)) c.into_accepted.ensures c.make_change.ensures.steps in
    let opened : node.is_opened c.in-Some.later.accepted new.node = subst (λ (p : Planned). node.is_opened p new.node) c.into_accepted.ensures c.make_change.ensures.opened in
    (changed g.P.Page.writes node.rules node.is_opened node.has_next node.represents node.shows g.met.N.CommandNode.lasting old new due.0 c.in-Some.later c.args.page.now c.make_change.new.page ready due.1 (sym c.in-Some.ensures.value) steps opened is).0
