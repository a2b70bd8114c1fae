-- A running sender after a call, by all that happened at it since opening.
use Rattle.std.proofs.Common.{◌≡◌, ◌-◌, ◌∙◌, ℕ, List, [], ◌∷◌, ◌++◌, true, subst, sym}
use Rattle.dch_am.specs.Building.{after_build, choice, number_of, polls_at}
use Rattle.dch_am.specs.Listed.{IsListed, listed_text}
use Rattle.dch_am.specs.Rules.{Rules}
use Rattle.dch_am.specs.Sender.{Sender, opened_sender}
use Rattle.dch_am.specs.SenderHistory.{SenderEvent, sender_after, sender_step}
use Rattle.dch_am.specs.Texts.{next_pdu}
use Rattle.dch_am.proofs.Histories.{sender-append, written_listed}
use Rattle.dch_amsend.specs.History.{IsSenderOf}
use Rattle.dch_amsend.specs.Standing.{Sending, Stands, is_due, room_in}
use Rattle.dch_amsend.proofs.Due.{can_build_gives}

-- a call that makes of each sender what an event makes of it
pub happened : (rules : Rules) (events : List SenderEvent) (event : SenderEvent) (v now : Sending) → now.outgoing.size ≡ v.outgoing.size → ((s : Sender) → Stands rules v s → Stands rules now (sender_step rules (room_in v) s event)) → IsSenderOf rules events v → IsSenderOf rules (events ++ event ∷ []) now
happened rules events event v now same goes is =
    subst (λ n. Stands rules now (sender_after rules (n - 2) (events ++ event ∷ []))) (sym same)
    (subst (Stands rules now) (sym (sender-append rules (room_in v) opened_sender events event)) (goes (sender_after rules (room_in v) events) is))

-- what a listed sender writes is the PDU of its number in the list
pub build_listed : (rules : Rules) (v : Sending) (s : Sender) (out : List ℕ) → is_due v ≡ true → out ≡ next_pdu rules (room_in v) s → Stands rules v s → IsListed (room_in v) s → out ≡ listed_text (room_in v) (after_build rules (room_in v) s) (number_of (choice rules s) s) (polls_at (choice rules s) rules (room_in v) s)
build_listed rules v s out due text is listed = text ∙ written_listed rules (room_in v) s is.outgoing.tx_buffer.from (sym (can_build_gives rules (room_in v) v.outgoing s is.outgoing) ∙ due) listed
