-- What the lines of one node keep.
use Rattle.std.proofs.Common.{◌≡◌, ℕ, List, Result, Ok, Err, refl}
use Rattle.std.specs.Prelude.{codes}
use Rattle.std.specs.Str.{bytes_eq}
use Rattle.dch_types.specs.declared.channel.Dir.{Dir}
use Rattle.dch_types.specs.declared.channel.Dir.TheVariants.{Up, Down}
use Rattle.dch_types.specs.declared.config.Config.{Config}
use Rattle.dch_script.specs.declared.event.LineError.{LineError}
use Rattle.dch_script.specs.Forms.{one, two}
use Rattle.dch_script.specs.Good.{IsUnit, IsListed, IsIub, IsPhy, IsOfUe, IsOfNodeB, IsOfRnc}
use Rattle.dch_script.specs.Nodes.{cells_of, node_unit, node_block, node_free, node_iub, none_of, phy_of, node_phy, ue_words, node_b_words, rnc_words}
use Rattle.dch_script.specs.Parts.{combination_of, hex_of, set_of, tfci_of}
use Rattle.dch_script.specs.ParsedLine.{ParsedLine, unit, block, free, iub, down, phy, phy_none, tick, change}
use Rattle.dch_script.proofs.Kept.{alone_keeps, bind_keeps, cells_keeps, combination_keeps, hex_keeps, if_keeps, ok_keeps, set_keeps, tfci_keeps, unit_keeps}

-- `unit`
pub node_unit_keeps : (config : Config) (dir : Dir) (words : List (List ℕ)) (parsed : ParsedLine) (P : ParsedLine → Type 0) → ((b : ℕ) (t : List ℕ) → IsUnit config dir b t → P (unit dir b t)) → node_unit config dir words ≡ Ok parsed → P parsed
unfolding node_unit
node_unit_keeps config dir words parsed P go is =
    bind_keeps (two words) _ parsed (P parsed) (λ w _ last. unit_keeps config dir w.0 w.1 parsed P go last) is

-- `block`
pub node_block_keeps : (config : Config) (dir : Dir) (words : List (List ℕ)) (parsed : ParsedLine) (P : ParsedLine → Type 0) → ((c : ℕ) → IsListed config dir c → P (block dir c)) → node_block config dir words ≡ Ok parsed → P parsed
unfolding node_block
node_block_keeps config dir words parsed P go is =
    bind_keeps (one words) _ parsed (P parsed) (λ word _ rest.
    bind_keeps (combination_of config dir word) _ parsed (P parsed) (λ c listed last.
    ok_keeps (block dir c) parsed P (go c (combination_keeps config dir word c listed)) _ refl last) rest) is

-- `free`
pub node_free_keeps : (config : Config) (dir : Dir) (words : List (List ℕ)) (parsed : ParsedLine) (P : ParsedLine → Type 0) → ((c : ℕ) → IsListed config dir c → P (free dir c)) → node_free config dir words ≡ Ok parsed → P parsed
unfolding node_free
node_free_keeps config dir words parsed P go is =
    bind_keeps (one words) _ parsed (P parsed) (λ word _ rest.
    bind_keeps (combination_of config dir word) _ parsed (P parsed) (λ c listed last.
    ok_keeps (free dir c) parsed P (go c (combination_keeps config dir word c listed)) _ refl last) rest) is

-- `iub`
node_iub_keeps : (config : Config) (dir : Dir) (words : List (List ℕ)) (parsed : ParsedLine) (P : ParsedLine → Type 0) → ((set : ℕ) (hex : List ℕ) → IsIub config dir set hex → P (iub set hex)) → node_iub config dir words ≡ Ok parsed → P parsed
unfolding node_iub
node_iub_keeps config dir words parsed P go is =
    bind_keeps (two words) _ parsed (P parsed) (λ w _ rest.
    bind_keeps (set_of config dir w.0) _ parsed (P parsed) (λ set held more.
    bind_keeps (hex_of w.1) _ parsed (P parsed) (λ hex octets last.
    ok_keeps (iub set hex) parsed P (go set hex (set_keeps config dir w.0 set held, hex_keeps w.1 hex octets)) _ refl last) more) rest) is

-- `phy none`
none_of_keeps : (word : List ℕ) (parsed : ParsedLine) (P : ParsedLine → Type 0) → P phy_none → none_of word ≡ Ok parsed → P parsed
none_of_keeps word parsed P here is =
    if_keeps (bytes_eq word (codes "none")) _ _ parsed (P parsed) (λ last. ok_keeps phy_none parsed P here _ refl last) (λ wrong. absurd (cc)) is

-- `phy`, by its two forms
phy_of_keeps : (config : Config) (dir : Dir) (words : List (List ℕ)) (pair : Result (List ℕ × List ℕ) LineError) (parsed : ParsedLine) (P : ParsedLine → Type 0) → ((tfci cells : List ℕ) → IsPhy config dir tfci cells → P (phy tfci cells)) → P phy_none → phy_of config dir words pair ≡ Ok parsed → P parsed
phy_of_keeps config dir words (Ok w) parsed P go here is =
    bind_keeps (tfci_of config dir w.0) _ parsed (P parsed) (λ tfci bits rest.
    bind_keeps (cells_of dir w.1) _ parsed (P parsed) (λ cells letters last.
    ok_keeps (phy tfci cells) parsed P (go tfci cells (tfci_keeps config dir w.0 tfci bits, cells_keeps dir w.1 cells letters)) _ refl last) rest) is
phy_of_keeps config dir words (Err error) parsed P go here is =
    bind_keeps (one words) _ parsed (P parsed) (λ word _ last. none_of_keeps word parsed P here last) is

-- `phy`
pub node_phy_keeps : (config : Config) (dir : Dir) (words : List (List ℕ)) (parsed : ParsedLine) (P : ParsedLine → Type 0) → ((tfci cells : List ℕ) → IsPhy config dir tfci cells → P (phy tfci cells)) → P phy_none → node_phy config dir words ≡ Ok parsed → P parsed
unfolding node_phy
node_phy_keeps config dir words parsed P go here is = phy_of_keeps config dir words (two words) parsed P go here is

-- every line of `ue`
pub ue_keeps : (config : Config) (first : List ℕ) (words : List (List ℕ)) (parsed : ParsedLine) → ue_words config first words ≡ Ok parsed → IsOfUe config parsed
unfolding ue_words
ue_keeps config first words parsed is =
    let P = IsOfUe config in
    if_keeps (bytes_eq first (codes "unit")) _ _ parsed (P parsed) (node_unit_keeps config Up words parsed P (λ b t good. (refl, good))) (λ not_unit.
    if_keeps (bytes_eq first (codes "block")) _ _ parsed (P parsed) (node_block_keeps config Up words parsed P (λ c good. (refl, good))) (λ not_block.
    if_keeps (bytes_eq first (codes "free")) _ _ parsed (P parsed) (node_free_keeps config Up words parsed P (λ c good. (refl, good))) (λ not_free.
    if_keeps (bytes_eq first (codes "phy")) _ _ parsed (P parsed) (node_phy_keeps config Down words parsed P (λ tfci cells good. good) tt) (λ not_phy.
    if_keeps (bytes_eq first (codes "tick")) _ _ parsed (P parsed) (alone_keeps tick parsed words P tt) (λ not_tick.
    if_keeps (bytes_eq first (codes "change")) _ _ parsed (P parsed) (alone_keeps change parsed words P tt) (λ none. absurd (cc)) not_tick) not_phy) not_free) not_block) not_unit) is

-- every line of `nodeb`
pub node_b_keeps : (config : Config) (first : List ℕ) (words : List (List ℕ)) (parsed : ParsedLine) → node_b_words config first words ≡ Ok parsed → IsOfNodeB config parsed
unfolding node_b_words
node_b_keeps config first words parsed is =
    let P = IsOfNodeB config in
    if_keeps (bytes_eq first (codes "iub")) _ _ parsed (P parsed) (node_iub_keeps config Down words parsed P (λ set hex good. good)) (λ not_iub.
    if_keeps (bytes_eq first (codes "down")) _ _ parsed (P parsed) (alone_keeps down parsed words P tt) (λ not_down.
    if_keeps (bytes_eq first (codes "phy")) _ _ parsed (P parsed) (node_phy_keeps config Up words parsed P (λ tfci cells good. good) tt) (λ not_phy.
    if_keeps (bytes_eq first (codes "change")) _ _ parsed (P parsed) (alone_keeps change parsed words P tt) (λ none. absurd (cc)) not_phy) not_down) not_iub) is

-- every line of `rnc`
pub rnc_keeps : (config : Config) (first : List ℕ) (words : List (List ℕ)) (parsed : ParsedLine) → rnc_words config first words ≡ Ok parsed → IsOfRnc config parsed
unfolding rnc_words
rnc_keeps config first words parsed is =
    let P = IsOfRnc config in
    if_keeps (bytes_eq first (codes "unit")) _ _ parsed (P parsed) (node_unit_keeps config Down words parsed P (λ b t good. (refl, good))) (λ not_unit.
    if_keeps (bytes_eq first (codes "block")) _ _ parsed (P parsed) (node_block_keeps config Down words parsed P (λ c good. (refl, good))) (λ not_block.
    if_keeps (bytes_eq first (codes "free")) _ _ parsed (P parsed) (node_free_keeps config Down words parsed P (λ c good. (refl, good))) (λ not_free.
    if_keeps (bytes_eq first (codes "iub")) _ _ parsed (P parsed) (node_iub_keeps config Up words parsed P (λ set hex good. good)) (λ not_iub.
    if_keeps (bytes_eq first (codes "tick")) _ _ parsed (P parsed) (alone_keeps tick parsed words P tt) (λ not_tick.
    if_keeps (bytes_eq first (codes "change")) _ _ parsed (P parsed) (alone_keeps change parsed words P tt) (λ none. absurd (cc)) not_tick) not_iub) not_free) not_block) not_unit) is
