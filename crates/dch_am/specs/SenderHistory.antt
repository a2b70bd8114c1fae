-- A sender of the acknowledged mode, named by all that happened at it since opening (TS 25.322 9.7, 11.3 to 11.6).
use Rattle.std.specs.Prelude.{ℕ, List, [], ◌∷◌}
use Rattle.dch_rlcpdu.specs.Fields.{Field}
use Rattle.dch_am.specs.Acknowledging.{after_fields}
use Rattle.dch_am.specs.Building.{after_build}
use Rattle.dch_am.specs.Discards.{after_moving, tick_sender}
use Rattle.dch_am.specs.Restart.{restarted_sender}
use Rattle.dch_am.specs.Rules.{Rules}
use Rattle.dch_am.specs.Sender.{Sender, after_offer, offered, opened_sender}

-- what happens at a sender
pub data SenderEvent : Type 0 where
  Offer : (unit : List ℕ) → SenderEvent
  Build : SenderEvent  -- a data PDU is written, for the first time or again
  Hear : (fields : List Field) → SenderEvent  -- a status comes
  Move : SenderEvent  -- the MRW of the running discard is written
  Tick : SenderEvent
  Restart : SenderEvent

-- a sender whose PDUs have d octets behind the header, after an event
abbrev pub sender_step : Rules → ℕ → Sender → SenderEvent → Sender
sender_step rules d s (Offer unit) = after_offer (offered rules s unit) s unit
sender_step rules d s Build = after_build rules d s
sender_step rules d s (Hear fields) = after_fields rules s fields
sender_step rules d s Move = after_moving rules s s.discard
sender_step rules d s Tick = tick_sender rules s
sender_step rules d s Restart = restarted_sender s

-- and after a list of events
abbrev pub sender_steps : Rules → ℕ → Sender → List SenderEvent → Sender
sender_steps rules d s [] = s
sender_steps rules d s (event ∷ events) = sender_steps rules d (sender_step rules d s event) events

-- the sender after all events since opening
abbrev pub sender_after : Rules → ℕ → List SenderEvent → Sender
sender_after rules d events = sender_steps rules d opened_sender events
