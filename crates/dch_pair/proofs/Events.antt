-- A running entity after a call.
use Rattle.std.proofs.Common.{◌≡◌, ℕ, List, [], ◌∷◌, ◌++◌, refl, sym, ap, ◌∙◌, subst}
use Rattle.dch_am.specs.Entities.{Entity, Event, step, steps}
use Rattle.dch_am.specs.Receiver.{Receiver}
use Rattle.dch_am.specs.Rules.{Rules, rules_of}
use Rattle.dch_amrecv.specs.Holding.{Holding}
use Rattle.dch_amrecv.specs.Standing.{Stands}
use Rattle.dch_pair.specs.EntityStanding.{Represents, Running}

-- one event more
pub steps-append : (rules : Rules) (size : ℕ) (e : Entity) (events : List Event) (event : Event) → steps rules size e (events ++ event ∷ []) ≡ step rules size (steps rules size e events) event
steps-append rules size e [] event = refl
steps-append rules size e (x ∷ events) event = steps-append rules size (step rules size e x) events event

-- the rules stay
pub rules_stay : (rules : Rules) (v : Running) (e : Entity) (h : Holding) → Represents rules v e → h.rules ≡ v.receiver.rules → rules ≡ rules_of rules.buffer h.rules
rules_stay rules v e h is same = is.rules_are ∙ ap (rules_of rules.buffer) (sym same)

-- what a call does to the receiver, by its rules
abbrev pub Follows : (Rules → Receiver → Receiver) → Holding → Holding → Type 0
Follows next before h = (buffer given : ℕ) (r : Receiver) → Stands before given r → Stands h given (next (rules_of buffer before.rules) r)

pub follows : (next : Rules → Receiver → Receiver) (rules : Rules) (v : Running) (e : Entity) (h : Holding) → Represents rules v e → Follows next v.receiver h → Stands h e.handed (next rules e.receiver)
follows next rules v e h is step = subst (λ x. Stands h e.handed (next x e.receiver)) (sym is.rules_are) (step rules.buffer e.handed e.receiver is.receiver)

-- what it answers, by its rules
pub answers : {A : Type 0} → (answer : Rules → A) (rules : Rules) (v : Running) (e : Entity) (x : A) → Represents rules v e → x ≡ answer (rules_of rules.buffer v.receiver.rules) → x ≡ answer rules
answers answer rules v e x is q = q ∙ ap answer (sym is.rules_are)
