-- A running receiver after a call, by all that happened at it since opening.
use Rattle.std.proofs.Common.{◌≡◌, ◌+◌, ◌∙◌, ℕ, List, [], ◌∷◌, ◌++◌, Option, arith, ap, cond, drop, length, length-drop, refl, subst, sym}
use Rattle.std.specs.Prelude.{nat_lt}
use Rattle.std.proofs.lemmas.Bool.{le-ltb, lt-ltb}
use Rattle.dch_rlcpdu.specs.declared.handed.Handed.{Handed}
use Rattle.dch_am.specs.ReceiverHistory.{HandUp, ReceiverEvent, ReceivingSide, opened_side, receiver_after, receiver_step}
use Rattle.dch_am.specs.Rules.{Rules, rules_of}
use Rattle.dch_am.proofs.Histories.{receiver-append}
use Rattle.dch_sar.specs.Taking.{handed_of}
use Rattle.dch_amrecv.specs.History.{IsReceiverOf}
use Rattle.dch_amrecv.specs.Holding.{Holding}
use Rattle.dch_amrecv.specs.Standing.{Stands, given_after}

-- what is held stands for a receiver of which so many units were handed up
abbrev pub StandsFor : Holding → ReceivingSide → Type 0
StandsFor h side = Stands h side.handed side.receiver

-- a call that makes of each receiver what an event makes of it
pub happened : (rules : Rules) (events : List ReceiverEvent) (event : ReceiverEvent) (h now : Holding) → now.rules ≡ h.rules → ((side : ReceivingSide) → StandsFor h side → StandsFor now (receiver_step (rules_of rules.buffer h.rules) side event)) → IsReceiverOf rules events h → IsReceiverOf rules (events ++ event ∷ []) now
happened rules events event h now same goes is =
    let side : ReceivingSide = receiver_after rules events in
    record {
      rules_are = is.rules_are ∙ ap (rules_of rules.buffer) (sym same);
      stands = subst (StandsFor now) (sym (receiver-append rules (opened_side rules) events event)) (subst (λ x. StandsFor now (receiver_step x side event)) (sym is.rules_are) (goes side is.stands));
    }

-- the next unit is handed up, where one waits
pub hand_on : (given : ℕ) (units : List (List ℕ)) → given_after (handed_of (drop given units)) given ≡ cond (nat_lt given (length units)) (given + 1) given
hand_on given units = go (drop given units) refl
  where
    go : (rest : List (List ℕ)) → drop given units ≡ rest → given_after (handed_of rest) given ≡ cond (nat_lt given (length units)) (given + 1) given
    go [] e = sym (ap (λ b. cond b (given + 1) given) (le-ltb given (length units) (omega (arith, length-drop given units, ap length e))))
    go (x ∷ rest) e = sym (ap (λ b. cond b (given + 1) given) (lt-ltb given (length units) (omega (arith, length-drop given units, ap length e))))

pub handed_on : (rules : Rules) (now : Holding) (side : ReceivingSide) (answer : Option Handed) → answer ≡ handed_of (drop side.handed side.receiver.reading.units) → Stands now (given_after answer side.handed) side.receiver → StandsFor now (receiver_step rules side HandUp)
handed_on rules now side answer e is = subst (λ n. Stands now n side.receiver) (ap (λ o. given_after o side.handed) e ∙ hand_on side.handed side.receiver.reading.units) is
