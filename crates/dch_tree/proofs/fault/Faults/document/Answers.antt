use Rattle.std.proofs.Common.{◌≡◌, List, length, ap, ap₂, ◌∙◌}
use Rattle.toml.specs.Data.{Members}
use Rattle.toml.specs.View.{table_view}
use Rattle.dch_types.specs.declared.config.Config.{Config}
use Rattle.dch_types.specs.declared.config.Uplink.{Uplink}
use Rattle.dch_types.specs.declared.config.Downlink.{Downlink}
use Rattle.dch_types.specs.declared.bearer.Bearer.{Bearer}
use Rattle.dch_tree.specs.declared.document.Iub.{Iub}
use Rattle.std.specs.Prelude.{codes}
use Rattle.dch_tree.specs.Tables.{members_at}
use Rattle.dch_tree.specs.Sides.{uplink_of, downlink_of}
use Rattle.dch_tree.specs.Faults.{first_found}
use Rattle.dch_tree.specs.Bearers.{bearers_faults, bearers_of}
use Rattle.dch_tree.specs.Documents.{uplink_channels, downlink_channels, document_faults, config_of}
use Rattle.dch_tree.proofs.FirstFound.{then}
use Rattle.dch_tree.proofs.fault.Faults.document.Goals as goal

pub returns-clause-first : goal.returns-clause-first
unfolding document_faults
returns-clause-first c =
    let tree : Members = table_view c.args.tree.now in
    let ups : c.len-ups.result ≡ uplink_channels tree = c.len-ups.ensures ∙ ap (λ u. length u.side.channels) c.in_ok-uplink.ensures.value in
    let downs : c.len-downs.result ≡ downlink_channels tree = c.len-downs.ensures ∙ ap (λ d. length d.side.channels) c.in_ok-downlink.ensures.value in
    then _ _ _ _ _
    (then _ _ _ _ _
    (then _ _ _ _ _
    (then _ _ _ _ _ c.in_ok-unknown.ensures c.in_ok-iub.ensures.first)
    c.in_ok-uplink.ensures.first)
    c.in_ok-downlink.ensures.first)
    (c.in_ok-bearers.ensures.first ∙ ap₂ (λ u d. first_found c.downlink_at.new.self.first (bearers_faults u d tree)) ups downs)

-- a configuration by its parts
abbrev config_by : Uplink → Downlink → List Bearer → Iub → Config
config_by u d bs i = record { uplink = u; downlink = d; bearers = bs; payload_check = i.payload_check; qe = i.qe }

pub returns-clause-value : goal.returns-clause-value
unfolding config_of
returns-clause-value c =
    let tree : Members = table_view c.args.tree.now in
    let ups : c.len-ups.result ≡ uplink_channels tree = c.len-ups.ensures ∙ ap (λ u. length u.side.channels) c.in_ok-uplink.ensures.value in
    let downs : c.len-downs.result ≡ downlink_channels tree = c.len-downs.ensures ∙ ap (λ d. length d.side.channels) c.in_ok-downlink.ensures.value in
    let bearers : c.in_ok-bearers.bearers ≡ bearers_of (uplink_channels tree) (downlink_channels tree) tree =
    c.in_ok-bearers.ensures.value ∙ ap₂ (λ u d. bearers_of u d tree) ups downs in
    ap₂ (λ u d. config_by u d c.in_ok-bearers.bearers c.in_ok-iub.iub) c.in_ok-uplink.ensures.value c.in_ok-downlink.ensures.value
    ∙ ap₂ (λ bs i. config_by (uplink_of (members_at (codes "uplink") tree)) (downlink_of (members_at (codes "downlink") tree)) bs i) bearers c.in_ok-iub.ensures.value
