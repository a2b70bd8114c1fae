-- What a line of a command with one node says.
use Rattle.std.proofs.Common.{◌≡◌, ℕ, List, sym, subst}
use Rattle.std.specs.Prelude.{Ok, Option, None, Result, Some}
use Rattle.dch_types.specs.declared.config.Config.{Config}
use Rattle.dch_script.specs.ParsedLine.{ParsedLine, change}
use Rattle.dch_script.specs.declared.event.LineError.{LineError}
use Rattle.dch_nodecmd.specs.NodeRules.{AreLasting, AsksChange, NodeRules, SaysEvent, meaning_for}

-- a line has one meaning
one_meaning : {A : Type 0} (a b : A) (r : Result A LineError) → r ≡ Ok a → r ≡ Ok b → b ≡ a
one_meaning a b r one two = cc

one_of : {E : Type 0} (event other : E) (r : Option E) → r ≡ Some event → r ≡ Some other → other ≡ event
one_of event other r one two = cc

none_some : {E : Type 0} (event : E) (r : Option E) → r ≡ None → r ≡ Some event → ⊥
none_some event r none some = cc

-- it says one event
pub one_event : {S E : Type 0} (rules : NodeRules S E) (config : Config) (line : List ℕ) (event other : E) → SaysEvent rules config line event → SaysEvent rules config line other → other ≡ event
one_event {S} {E} rules config line event other one two =
    let parsed : two.parsed ≡ one.parsed = one_meaning one.parsed two.parsed (meaning_for rules config line) one.says two.says in
    one_of event other (rules.event_of config one.parsed) one.is (subst (λ (p : ParsedLine). rules.event_of config p ≡ Some other) parsed two.is)

-- and doesn't ask for a change then
pub says_or_asks : {S E : Type 0} (rules : NodeRules S E) → AreLasting rules → (config : Config) (line : List ℕ) (event : E) → SaysEvent rules config line event → AsksChange rules config line → ⊥
says_or_asks rules lasting config line event says asks =
    let parsed : change ≡ says.parsed = one_meaning says.parsed change (meaning_for rules config line) says.says asks in
    none_some event (rules.event_of config change) (lasting.changeless config) (subst (λ (p : ParsedLine). rules.event_of config p ≡ Some event) (sym parsed) says.is)
