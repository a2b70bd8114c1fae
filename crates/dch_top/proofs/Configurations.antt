-- Lines lead to one configuration.
use Rattle.std.proofs.Common.{◌≡◌, ◌+◌, ◌∙◌, ◌++◌, ℕ, List, [], ◌∷◌, Bool, true, false, Option, Some, inl, inr, refl, ap, sym, subst, arith}
use Rattle.dch_accept.specs.Plans.{Planned}
use Rattle.dch_lines.specs.LineTexts.{HandlesLine, HandlesLines, is_empty}
use Rattle.dch_nodecmd.specs.NodeRules.{AreLasting, AsksChange, NodeRules, SaysEvent}
use Rattle.dch_nodecmd.specs.Rules.{MakesChange, TakesLine, TakesSaid, node_lines}
use Rattle.dch_nodecmd.specs.Run.{Run, frames_in}
use Rattle.dch_lines.specs.declared.later.Later.{Later}
use Rattle.dch_nodecmd.proofs.Running.{frames_next}
use Rattle.dch_nodecmd.proofs.Said.{one_event, says_or_asks}

-- two runs have one configuration, the same one is to come, and as many radio frames have passed
record AreAlike {S E : Type 0} (rules : NodeRules S E) (run other : Run S E) : Type 0 where
  planned : rules.planned other.node ≡ rules.planned run.node
  second : other.second ≡ run.second
  frames : frames_in rules other.events ≡ frames_in rules run.events

-- a line that says an event leaves the configuration
said_planned : {S E : Type 0} (rules : NodeRules S E) → AreLasting rules → (run new : Run S E) (line text : List ℕ) → (says : TakesSaid rules run line new text) → rules.planned says.takes.node ≡ rules.planned run.node
said_planned {S} {E} rules lasting run new line text says =
    lasting.stays run.node says.takes.node says.event says.takes.output (λ planned same. lasting.unsaid (rules.planned run.node).config says.says.parsed planned (says.says.is ∙ ap (λ (e : E). Some e) same)) says.takes.step

said_alike : {S E : Type 0} (rules : NodeRules S E) → AreLasting rules → (run other new newer : Run S E) (line text more : List ℕ) → AreAlike rules run other → TakesSaid rules run line new text → TakesSaid rules other line newer more → AreAlike rules new newer
said_alike {S} {E} rules lasting run other new newer line text more alike one two =
    let says : SaysEvent rules (rules.planned run.node).config line two.event = subst (λ (p : Planned). SaysEvent rules p.config line two.event) alike.planned two.says in
    let event : two.event ≡ one.event = one_event rules (rules.planned run.node).config line one.event two.event one.says says in
    let next = frames_next rules run.events one.event in
    let then = frames_next rules other.events two.event in
    let frames : frames_in rules (other.events ++ two.event ∷ []) ≡ frames_in rules (run.events ++ one.event ∷ []) = then ∙ ap (λ (e : E). frames_in rules other.events + rules.frames e) event ∙ ap (λ n. n + rules.frames one.event) alike.frames ∙ sym next in
    record {
      planned = ap (λ (r : Run S E). rules.planned r.node) two.takes.goes_on ∙ said_planned rules lasting other newer line more two ∙ alike.planned ∙ sym (said_planned rules lasting run new line text one) ∙ sym (ap (λ (r : Run S E). rules.planned r.node) one.takes.goes_on);
      second = ap (λ (r : Run S E). r.second) two.takes.goes_on ∙ alike.second ∙ sym (ap (λ (r : Run S E). r.second) one.takes.goes_on);
      frames = ap (λ (r : Run S E). frames_in rules r.events) two.takes.goes_on ∙ frames ∙ sym (ap (λ (r : Run S E). frames_in rules r.events) one.takes.goes_on);
    }

some_is : (a b : Later) (o : Option Later) → o ≡ Some a → o ≡ Some b → b ≡ a
some_is a b o one two = cc

changed_alike : {S E : Type 0} (rules : NodeRules S E) → AreLasting rules → (run other new newer : Run S E) (text more : List ℕ) → AreAlike rules run other → MakesChange rules run new text → MakesChange rules other newer more → AreAlike rules new newer
changed_alike {S} {E} rules lasting run other new newer text more alike one two =
    let same : two.later ≡ one.later = some_is one.later two.later run.second one.due.waits (sym alike.second ∙ two.due.waits) in
    let next = frames_next rules run.events (rules.change one.later.accepted) in
    let then = frames_next rules other.events (rules.change two.later.accepted) in
    let none = lasting.uncounted one.later.accepted in
    let neither = lasting.uncounted two.later.accepted in
    let before = alike.frames in
    let frames : frames_in rules (other.events ++ rules.change two.later.accepted ∷ []) ≡ frames_in rules (run.events ++ rules.change one.later.accepted ∷ []) = omega (arith, next, then, none, neither, before) in
    let first = lasting.changes run.node one.takes.node one.later.accepted one.takes.output one.takes.step in
    let last = lasting.changes other.node two.takes.node two.later.accepted two.takes.output two.takes.step in
    record {
      planned = ap (λ (r : Run S E). rules.planned r.node) two.takes.goes_on ∙ last ∙ ap (λ (l : Later). l.accepted) same ∙ sym first ∙ sym (ap (λ (r : Run S E). rules.planned r.node) one.takes.goes_on);
      second = ap (λ (r : Run S E). r.second) two.takes.goes_on ∙ sym (ap (λ (r : Run S E). r.second) one.takes.goes_on);
      frames = ap (λ (r : Run S E). frames_in rules r.events) two.takes.goes_on ∙ frames ∙ sym (ap (λ (r : Run S E). frames_in rules r.events) one.takes.goes_on);
    }

taken_alike : {S E : Type 0} (rules : NodeRules S E) → AreLasting rules → (run other new newer : Run S E) (line text more : List ℕ) → AreAlike rules run other → TakesLine rules run line new text → TakesLine rules other line newer more → AreAlike rules new newer
taken_alike rules lasting run other new newer line text more alike (inl one) (inl two) = said_alike rules lasting run other new newer line text more alike one two
taken_alike rules lasting run other new newer line text more alike (inl one) (inr two) =
    absurd (says_or_asks rules lasting (rules.planned run.node).config line one.event one.says (subst (λ (p : Planned). AsksChange rules p.config line) alike.planned two.0))
taken_alike rules lasting run other new newer line text more alike (inr one) (inl two) =
    absurd (says_or_asks rules lasting (rules.planned run.node).config line two.event (subst (λ (p : Planned). SaysEvent rules p.config line two.event) alike.planned two.says) one.0)
taken_alike rules lasting run other new newer line text more alike (inr one) (inr two) = changed_alike rules lasting run other new newer text more alike one.1 two.1

line_alike : {S E : Type 0} (rules : NodeRules S E) → AreLasting rules → (run other new newer : Run S E) (line text more : List ℕ) → AreAlike rules run other → HandlesLine (node_lines rules) run line new text → HandlesLine (node_lines rules) other line newer more → AreAlike rules new newer
line_alike {S} {E} rules lasting run other new newer line text more alike one two = cases (is_empty line) refl
  where
    cases : (b : Bool) → is_empty line ≡ b → AreAlike rules new newer
    cases true empty =
        let here : (new ≡ run) × (text ≡ []) = rw empty at one in
        let there : (newer ≡ other) × (more ≡ []) = rw empty at two in
        subst (λ (r : Run S E). AreAlike rules r newer) (sym here.0) (subst (λ (r : Run S E). AreAlike rules run r) (sym there.0) alike)
    cases false words =
        let here : TakesLine rules run line new text = rw words at one in
        let there : TakesLine rules other line newer more = rw words at two in
        taken_alike rules lasting run other new newer line text more alike here there

lines_alike : {S E : Type 0} (rules : NodeRules S E) → AreLasting rules → (run other new newer : Run S E) (lines : List (List ℕ)) (text more : List ℕ) → AreAlike rules run other → HandlesLines (node_lines rules) run lines new text → HandlesLines (node_lines rules) other lines newer more → AreAlike rules new newer
lines_alike {S} {E} rules lasting run other new newer [] text more alike one two =
    subst (λ (r : Run S E). AreAlike rules r newer) (sym one.0) (subst (λ (r : Run S E). AreAlike rules run r) (sym two.0) alike)
lines_alike rules lasting run other new newer (line ∷ lines) text more alike (mid, (first, (rest, (handles, later, whole)))) (amid, (front, (back, (handled, behind, all)))) =
    lines_alike rules lasting mid amid new newer lines rest back (line_alike rules lasting run other mid amid line first front alike handles handled) later behind

-- wherever the lines lead, the configuration is the same
pub one_planned : {S E : Type 0} (rules : NodeRules S E) → AreLasting rules → (run new newer : Run S E) (lines : List (List ℕ)) (text more : List ℕ) → HandlesLines (node_lines rules) run lines new text → HandlesLines (node_lines rules) run lines newer more → rules.planned newer.node ≡ rules.planned new.node
one_planned rules lasting run new newer lines text more one two = (lines_alike rules lasting run run new newer lines text more (record { planned = refl; second = refl; frames = refl }) one two).planned
