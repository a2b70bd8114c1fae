-- What is shown of the lines of a step.
use Rattle.std.proofs.Common.{◌≡◌, ℕ, List, [], None}
use Rattle.std.specs.Prelude.{Option}
use Rattle.dch_accept.specs.Plans.{Planned}
use Rattle.dch_node.specs.Lines.{Line}
use Rattle.dch_node.specs.Standing.{Tells}
use Rattle.dch_lines.specs.Shown.{shown}
use Rattle.dch_link.specs.Link.{LinkState}
use Rattle.dch_link.specs.Soft.{SoftState}
use Rattle.dch_link.specs.SoftNodes.{LeadsTo as SoftLeadsTo}
use Rattle.dch_link.specs.SoftValues.{Parts}
use Rattle.dch_link.specs.LinkNodes.{LeadsTo}
use Rattle.dch_link.specs.Values.{Nodes}
use Rattle.dch_lines.specs.Filtering.{ShowsSeen}
use Rattle.dch_lines.specs.Led.{lead_of, led}
use Rattle.dch_lines.specs.declared.filter.Filter.{Filter}
use Rattle.dch_lines.proofs.Filtering.{Joined, Nothing, told_shown}
use Rattle.dch_linkcmd.specs.SoftHandlers.{Shows as SoftShows}
use Rattle.dch_linkcmd.specs.Handlers.{Shows}

-- a filter was told of the lines of a step
pub shows_seen : {P : Type 0} (writes : P → List ℕ → P → Type 0) → Nothing writes → Joined writes → (began planned : Planned) (first : ℕ) (Does : LinkState → List Line → Type 0) (nodes : Nodes) (old new : Filter P) → old.lead.now ≡ []
    → LeadsTo began planned first Does nodes (Tells (ShowsSeen writes) old new) → Shows writes began planned first old.quiet Does nodes old.page.now new.page.now
shows_seen writes nothing joined began planned first Does nodes old new lead leads = record {
  next = leads.next;
  lines = leads.lines;
  does = leads.does;
  stands = leads.stands;
  wrote = told_shown writes nothing joined None old new leads.lines lead leads.tells;
}

-- the same in soft handover, where the lines of a leg are led
pub shows_led : {P : Type 0} (writes : P → List ℕ → P → Type 0) → Nothing writes → Joined writes → (planned : Planned) (first : ℕ) (leg : Option ℕ) (Does : SoftState → List Line → Type 0) (parts : Parts) (old new : Filter P) → old.lead.now ≡ lead_of leg
    → SoftLeadsTo planned first Does parts (Tells (ShowsSeen writes) old new) → SoftShows writes planned first (λ text. led leg (shown old.quiet text)) Does parts old.page.now new.page.now
shows_led writes nothing joined planned first leg Does parts old new lead leads = record {
  next = leads.next;
  lines = leads.lines;
  does = leads.does;
  stands = leads.stands;
  wrote = told_shown writes nothing joined leg old new leads.lines lead leads.tells;
}
