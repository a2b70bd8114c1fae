-- Lines of which none is refused where those before it lead.
use Rattle.std.proofs.Common.{◌≡◌, ◌+◌, ◌∙◌, ◌++◌, ℕ, List, [], ◌∷◌, Bool, true, false, inl, inr, refl, ap, sym, subst, arith}
use Rattle.std.specs.Prelude.{◌⊎◌, Option, None, Some}
use Rattle.dch_types.specs.declared.config.Config.{Config}
use Rattle.dch_accept.specs.Plans.{Planned}
use Rattle.dch_script.specs.declared.event.LineError.{LineError}
use Rattle.dch_lines.specs.LineTexts.{HandlesLine, HandlesLines, is_empty}
use Rattle.dch_nodecmd.specs.NodeRules.{AreLasting, NodeRules}
use Rattle.dch_nodecmd.specs.Rules.{RefusesLine, TakesLine, config_of, node_lines}
use Rattle.dch_nodecmd.specs.Run.{Run, frames_in}
use Rattle.dch_lines.specs.Coming.{IsDue, coming}
use Rattle.dch_nodecmd.specs.RunLines.{AreRunLines, AsksFirst, SaysFirst}
use Rattle.dch_lines.specs.declared.later.Later.{Later}
use Rattle.dch_nodecmd.proofs.Running.{frames_next}
use Rattle.dch_nodecmd.proofs.Said.{one_event, says_or_asks}
use Rattle.dch_lines.proofs.Meanings.{ok_err}

one_pair : (a b : ℕ × Config) → Some a ≡ Some b → a ≡ b
one_pair a b same = cc

none_some : (a : ℕ × Config) → None ≡ Some a → ⊥
none_some a same = cc

-- a configuration that comes with this radio frame is due, and is the one that is to come
is_due : (second : Option Later) (frames : ℕ) (next : Config) → coming second ≡ Some (frames, next) → (later : Later) × IsDue second frames later × (next ≡ later.accepted.config)
is_due None frames next due = absurd (none_some (frames, next) due)
is_due (Some later) frames next due =
    let same = one_pair (later.frame, later.accepted.config) (frames, next) due in
    (later, record { waits = refl; now = sym (ap (λ (p : ℕ × Config). p.0) same) }, sym (ap (λ (p : ℕ × Config). p.1) same))

-- where the next line of a run is good, the line isn't refused
good_taken : {S E : Type 0} (rules : NodeRules S E) → AreLasting rules → (run : Run S E) (line : List ℕ) (why : LineError) (Rest : ℕ → Type 0) (Then : Config → Type 0)
    → SaysFirst rules (config_of rules run) (frames_in rules run.events) line Rest ⊎ AsksFirst rules (config_of rules run) (coming run.second) (frames_in rules run.events) line Then → RefusesLine rules run line why → ⊥
good_taken rules lasting run line why Rest Then (inl good) (inl wrong) = ok_err good.says.parsed _ why good.says.says wrong
good_taken rules lasting run line why Rest Then (inl good) (inr early) = says_or_asks rules lasting (config_of rules run) line good.event good.says early.asks
good_taken rules lasting run line why Rest Then (inr good) (inl wrong) = ok_err _ _ why good.asks wrong
good_taken rules lasting run line why Rest Then (inr good) (inr early) = let due = is_due run.second (frames_in rules run.events) good.next good.due in early.undue due.0 due.1

-- lines that are good stay so where the same is active and to come
moved : {S E : Type 0} (rules : NodeRules S E) (lines : List (List ℕ)) (c d : Config) (s t : Option (ℕ × Config)) (m n : ℕ) → d ≡ c → t ≡ s → n ≡ m → AreRunLines rules c s m lines → AreRunLines rules d t n lines
moved rules lines c d s t m n config second frames good =
    subst (λ (x : Config). AreRunLines rules x t n lines) (sym config) (subst (λ (x : Option (ℕ × Config)). AreRunLines rules c x n lines) (sym second) (subst (λ x. AreRunLines rules c s x lines) (sym frames) good))

one_later : (a b : Later) (r : Option Later) → r ≡ Some a → r ≡ Some b → b ≡ a
one_later a b r one two = cc

-- the lines behind a good one are good where it leads
next_good : {S E : Type 0} (rules : NodeRules S E) → AreLasting rules → (run mid : Run S E) (line text : List ℕ) (lines : List (List ℕ))
    → SaysFirst rules (config_of rules run) (frames_in rules run.events) line (λ now. AreRunLines rules (config_of rules run) (coming run.second) now lines)
    ⊎ AsksFirst rules (config_of rules run) (coming run.second) (frames_in rules run.events) line (λ next. AreRunLines rules next None (frames_in rules run.events) lines)
    → TakesLine rules run line mid text → AreRunLines rules (config_of rules mid) (coming mid.second) (frames_in rules mid.events) lines
next_good {S} {E} rules lasting run mid line text lines (inl good) (inl takes) =
    let event : takes.event ≡ good.event = one_event rules (config_of rules run) line good.event takes.event good.says takes.says in
    let stays : rules.planned takes.takes.node ≡ rules.planned run.node =
    lasting.stays run.node takes.takes.node takes.event takes.takes.output (λ planned same. lasting.unsaid (config_of rules run) takes.says.parsed planned (takes.says.is ∙ ap (λ (e : E). Some e) same)) takes.takes.step in
    let config : config_of rules mid ≡ config_of rules run = ap (λ (r : Run S E). config_of rules r) takes.takes.goes_on ∙ ap (λ (p : Planned). p.config) stays in
    let frames : frames_in rules mid.events ≡ frames_in rules run.events + rules.frames good.event =
    ap (λ (r : Run S E). frames_in rules r.events) takes.takes.goes_on ∙ frames_next rules run.events takes.event ∙ ap (λ (e : E). frames_in rules run.events + rules.frames e) event in
    moved rules lines (config_of rules run) (config_of rules mid) (coming run.second) (coming mid.second) (frames_in rules run.events + rules.frames good.event) (frames_in rules mid.events) config (ap (λ (r : Run S E). coming r.second) takes.takes.goes_on) frames good.rest
next_good rules lasting run mid line text lines (inl good) (inr changes) = absurd (says_or_asks rules lasting (config_of rules run) line good.event good.says changes.0)
next_good rules lasting run mid line text lines (inr good) (inl takes) = absurd (says_or_asks rules lasting (config_of rules run) line takes.event takes.says good.asks)
next_good {S} {E} rules lasting run mid line text lines (inr good) (inr changes) =
    let makes = changes.1 in
    let due = is_due run.second (frames_in rules run.events) good.next good.due in
    let later : makes.later ≡ due.0 = one_later due.0 makes.later run.second due.1.waits makes.due.waits in
    let active : rules.planned makes.takes.node ≡ makes.later.accepted = lasting.changes run.node makes.takes.node makes.later.accepted makes.takes.output makes.takes.step in
    let config : config_of rules mid ≡ good.next =
    ap (λ (r : Run S E). config_of rules r) makes.takes.goes_on ∙ ap (λ (p : Planned). p.config) active ∙ ap (λ (l : Later). l.accepted.config) later ∙ sym due.2 in
    let one = frames_next rules run.events (rules.change makes.later.accepted) in
    let zero = lasting.uncounted makes.later.accepted in
    let counted : frames_in rules (run.events ++ rules.change makes.later.accepted ∷ []) ≡ frames_in rules run.events = omega (arith, one, zero) in
    let frames : frames_in rules mid.events ≡ frames_in rules run.events = ap (λ (r : Run S E). frames_in rules r.events) makes.takes.goes_on ∙ counted in
    moved rules lines good.next (config_of rules mid) None (coming mid.second) (frames_in rules run.events) (frames_in rules mid.events) config (ap (λ (r : Run S E). coming r.second) makes.takes.goes_on) frames good.rest

-- the lines behind a line are good where it leads
behind : {S E : Type 0} (rules : NodeRules S E) → AreLasting rules → (run next : Run S E) (line text : List ℕ) (lines : List (List ℕ)) → AreRunLines rules (config_of rules run) (coming run.second) (frames_in rules run.events) (line ∷ lines)
    → HandlesLine (node_lines rules) run line next text → AreRunLines rules (config_of rules next) (coming next.second) (frames_in rules next.events) lines
behind {S} {E} rules lasting run next line text lines good handles = cases (is_empty line) refl
  where
    cases : (b : Bool) → is_empty line ≡ b → AreRunLines rules (config_of rules next) (coming next.second) (frames_in rules next.events) lines
    cases true empty =
        let own : (next ≡ run) × (text ≡ []) = rw empty at handles in
        let here : AreRunLines rules (config_of rules run) (coming run.second) (frames_in rules run.events) lines = rw empty at good in
        subst (λ (r : Run S E). AreRunLines rules (config_of rules r) (coming r.second) (frames_in rules r.events) lines) (sym own.0) here
    cases false some =
        let own : TakesLine rules run line next text = rw some at handles in
        let here : SaysFirst rules (config_of rules run) (frames_in rules run.events) line (λ now. AreRunLines rules (config_of rules run) (coming run.second) now lines)
        ⊎ AsksFirst rules (config_of rules run) (coming run.second) (frames_in rules run.events) line (λ then. AreRunLines rules then None (frames_in rules run.events) lines) = rw some at good in
        next_good rules lasting run next line text lines here own

-- of good lines none is refused where those before it lead
pub none_refused : {S E : Type 0} (rules : NodeRules S E) → AreLasting rules → (run mid : Run S E) (good later : List (List ℕ)) (line text : List ℕ) (why : LineError)
    → AreRunLines rules (config_of rules run) (coming run.second) (frames_in rules run.events) (good ++ line ∷ later) → HandlesLines (node_lines rules) run good mid text → is_empty line ≡ false → RefusesLine rules mid line why → ⊥
none_refused {S} {E} rules lasting run mid [] later line text why lines handles words refuses =
    let here : RefusesLine rules run line why = subst (λ (r : Run S E). RefusesLine rules r line why) handles.0 refuses in
    let first : SaysFirst rules (config_of rules run) (frames_in rules run.events) line (λ now. AreRunLines rules (config_of rules run) (coming run.second) now later)
    ⊎ AsksFirst rules (config_of rules run) (coming run.second) (frames_in rules run.events) line (λ next. AreRunLines rules next None (frames_in rules run.events) later) = rw words at lines in
    good_taken rules lasting run line why _ _ first here
none_refused rules lasting run mid (head ∷ good) later line text why lines (next, (first, (rest, (handles, more, whole)))) words refuses =
    none_refused rules lasting next mid good later line rest why (behind rules lasting run next head first (good ++ line ∷ later) lines handles) more words refuses
