-- A step of the nodes, and what is counted of it.
use Rattle.std.proofs.Common.{◌≡◌, ◌+◌, ◌*◌, ℕ, List, arith, sym, subst}
use Rattle.dch_accept.specs.Plans.{Planned}
use Rattle.dch_node.specs.Lines.{Line}
use Rattle.dch_node.specs.Standing.{Tells}
use Rattle.dch_link.specs.SteptextReports.{TellsFew}
use Rattle.dch_link.specs.Link.{LinkState}
use Rattle.dch_link.specs.LinkNodes.{IsLinkOf, LeadsTo, Represents}
use Rattle.dch_gen.specs.Counting.{HasRoom, ShowsCounts}
use Rattle.dch_gen.proofs.Counted.{few_room, room_less, told_counts}
use Rattle.dch_gen.specs.Generators.{Advances, HasBearers, IsReady, MayCount, Parts, stage_bytes}

pub stepped : (Does : LinkState → LinkState → List Line → Type 0) (old new : Parts) → IsReady old → MayCount old 1
    → ((began : Planned) (first : ℕ) (link : LinkState) → Represents began old.accepted first link old.link → LeadsTo began old.accepted first (Does link) new.link (Tells ShowsCounts old.counts new.counts))
    → IsLinkOf old.accepted new.link → new.accepted ≡ old.accepted → TellsFew ShowsCounts (stage_bytes old.accepted.config) old.counts new.counts → Advances 1 Does old new
stepped Does old new ready may leads opened same few =
    let bytes : ℕ = stage_bytes old.accepted.config in
    let stays = few_room bytes 0 old.counts new.counts few ready.exact (room_less old.counts (bytes + 0) (1 * bytes) (omega arith) may.room) in
    record {
      goes = λ first link is.
          let own = leads old.accepted first link is in
          record { next = own.next; lines = own.lines; does = own.does; stands = own.stands; counted = λ before was. told_counts old.counts new.counts own.lines before own.tells stays.exact was };
      ready = record {
        opened = subst (λ (p : Planned). IsLinkOf p new.link) (sym same) opened;
        bearers = subst (λ (p : Planned). HasBearers p) (sym same) ready.bearers;
        exact = stays.exact;
      };
      same = same;
      counts = λ more all.
          let grown = few_room bytes (more * bytes) old.counts new.counts few ready.exact (room_less old.counts (bytes + more * bytes) ((1 + more) * bytes) (omega arith) all.room) in
          record { room = subst (λ (p : Planned). HasRoom new.counts (more * stage_bytes p.config)) (sym same) grown.room };
    }
