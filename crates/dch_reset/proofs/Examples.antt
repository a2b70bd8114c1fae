-- A few histories, computed.
use Rattle.std.proofs.Common.{◌≡◌, ℕ, List, [], ◌∷◌, ◌++◌, true, false, refl, None, Some}
use Rattle.dch_am.specs.Rules.{Rules}
use Rattle.dch_amlaw.specs.Pair.{Payload}
use Rattle.dch_reset.specs.Ends.{Data, ResetPdu, ResetAckPdu, Offer, Build, Arrive, Lose, Tick, Reset, At, Near, Far, ResetPair, opened, after}
use Rattle.dch_reset.specs.Law.{handed}

bearer : Rules
bearer = record { window = 128; buffer = 4; poll_pdus = 0; poll_units = 0; poll_window = 0; poll_timer = 0; missing = false; status_period = 0; status_prohibit = 0; discard_age = 0; discard_sent = 0; discard_repeat = 30 }

run : List At → ResetPair
run events = after bearer (opened bearer 18 18) events

-- one end resets
one : List At
one = Near Reset ∷ Near Build ∷ Far Arrive ∷ Far Build ∷ Near Arrive ∷ []

first_out : (run (Near Reset ∷ Near Build ∷ [])).out ≡ ResetPdu false 0 ∷ []
unfolding bearer run
first_out = refl

answer_back : (run (Near Reset ∷ Near Build ∷ Far Arrive ∷ Far Build ∷ [])).back ≡ ResetAckPdu false 1 ∷ []
unfolding bearer run
answer_back = refl

near_once : (run one).near.restarts ≡ 1
unfolding bearer run one
near_once = refl

far_once : (run one).far.restarts ≡ 1
unfolding bearer run one
far_once = refl

not_pending : (run one).near.pending ≡ None
unfolding bearer run one
not_pending = refl

-- both ends reset at once: each RESET, then each RESET ACK
ten : List ℕ
ten = 0 ∷ 1 ∷ 2 ∷ 3 ∷ 4 ∷ 5 ∷ 6 ∷ 7 ∷ 8 ∷ 9 ∷ []

both : List At
both = Near (Offer ten) ∷ Near Reset ∷ Far Reset ∷ Far Build ∷ Near Build ∷ Far Arrive ∷ Near Arrive ∷ Far Build ∷ Near Build ∷ Near Arrive ∷ Far Arrive ∷ []

near_twice : (run both).near.restarts ≡ 2
unfolding bearer run both ten
near_twice = refl

far_twice : (run both).far.restarts ≡ 2
unfolding bearer run both ten
far_twice = refl

-- the unit of which nothing was built is handed up afterwards
later : handed (run (both ++ Near Build ∷ Far Arrive ∷ [])).far ≡ ten ∷ []
unfolding bearer run both ten
later = refl

-- a unit of which an octet was built is dropped by the restart, and the next one is PDU 0
eight : List ℕ
eight = 1 ∷ 2 ∷ 3 ∷ 4 ∷ 5 ∷ 6 ∷ 7 ∷ 8 ∷ []

dropped : List At
dropped = Near (Offer ten) ∷ Near (Offer ten) ∷ Near (Offer eight) ∷ Near Build ∷ Far Lose ∷ Near Reset ∷ Near Build ∷ Far Arrive ∷ Far Build ∷ Near Arrive ∷ []

kept : (run dropped).near.sides.entity.sender.accepted ≡ eight ∷ []
unfolding bearer run dropped ten eight
kept = refl

anew : (run (dropped ++ Near Build ∷ [])).out ≡ Data 1 (Payload 0 true (record { full = false; pieces = eight ∷ []; rest = [] })) ∷ []
unfolding bearer run dropped ten eight
anew = refl

-- a RESET again is answered again and restarts nothing
again : List At
again = one ++ Near Reset ∷ Near Build ∷ Far Arrive ∷ Far Build ∷ Near Lose ∷ []

second_rsn : (run again).near.pending ≡ Some (record { rsn = true; rst_timer = 30 })
unfolding bearer run again one
second_rsn = refl

-- one end resets while units are offered, and the other end answers: window and buffer are 1
narrow : Rules
narrow = record { window = 1; buffer = 1; poll_pdus = 0; poll_units = 0; poll_window = 0; poll_timer = 0; missing = false; status_period = 0; status_prohibit = 0; discard_age = 0; discard_sent = 0; discard_repeat = 30 }

six : List ℕ
six = 0 ∷ 0 ∷ 21 ∷ 109 ∷ 109 ∷ 109 ∷ []

offered_on : List At
offered_on = Near Tick ∷ Near Tick ∷ Near Tick ∷ Far Reset ∷ Far Tick ∷ Far Build ∷ Near Tick ∷ Far (Offer six) ∷ Far Tick ∷ Near Tick ∷ Near Tick ∷ Far (Offer ten) ∷ Far Tick ∷ Near Tick ∷ Far Tick ∷ Far Reset ∷ []

asked : (after narrow (opened narrow 24 29) offered_on).back ≡ ResetPdu false 0 ∷ []
unfolding narrow offered_on six ten
asked = refl

-- the second unit found no room
one_taken : (after narrow (opened narrow 24 29) offered_on).far.accepted ≡ six ∷ []
unfolding narrow offered_on six ten
one_taken = refl

waits : (after narrow (opened narrow 24 29) offered_on).far.pending ≡ Some (record { rsn = false; rst_timer = 27 })
unfolding narrow offered_on six ten
waits = refl

answered : (after narrow (opened narrow 24 29) (offered_on ++ Near Arrive ∷ Near Build ∷ [])).out ≡ ResetAckPdu false 1 ∷ []
unfolding narrow offered_on six ten
answered = refl

both_once : (after narrow (opened narrow 24 29) (offered_on ++ Near Arrive ∷ Near Build ∷ Far Arrive ∷ [])).far.restarts ≡ 1
unfolding narrow offered_on six ten
both_once = refl

-- the unit that was accepted meanwhile is PDU 0 of the new stretch
sent_then : (after narrow (opened narrow 24 29) (offered_on ++ Near Arrive ∷ Near Build ∷ Far Arrive ∷ Far Build ∷ [])).back ≡ Data 1 (Payload 0 true (record { full = false; pieces = six ∷ []; rest = [] })) ∷ []
unfolding narrow offered_on six ten
sent_then = refl

-- three PDUs of which none resets anything: full, with two indicators, and with the rest
plain : Rules
plain = record { window = 128; buffer = 8; poll_pdus = 0; poll_units = 0; poll_window = 0; poll_timer = 0; missing = false; status_period = 0; status_prohibit = 0; discard_age = 0; discard_sent = 0; discard_repeat = 30 }

long : List ℕ
long = 0 ∷ 0 ∷ 0 ∷ 138 ∷ 138 ∷ 138 ∷ 138 ∷ 138 ∷ 138 ∷ 138 ∷ 138 ∷ 138 ∷ 138 ∷ 138 ∷ 138 ∷ 138 ∷ 138 ∷ 138 ∷ 138 ∷ 138 ∷ 138 ∷ 138 ∷ 138 ∷ 138 ∷ 138 ∷ 138 ∷ 138 ∷ 138 ∷ 138 ∷ 138 ∷ 138 ∷ 138 ∷ 138 ∷ 138 ∷ 138 ∷ 138 ∷ 138 ∷ 138 ∷ 138 ∷ 138 ∷ 138 ∷ 138 ∷ 138 ∷ []

three : List ℕ
three = 0 ∷ 0 ∷ 2 ∷ []

-- the second carries the rest of the long unit and the short one, and polls, since nothing is left
second_body : (after plain (opened plain 40 22) (Near (Offer long) ∷ Far Tick ∷ Near (Offer three) ∷ Near Build ∷ Far Arrive ∷ Near Build ∷ [])).out ≡ Data 0 (Payload 1 true (record { full = false; pieces = (138 ∷ 138 ∷ 138 ∷ 138 ∷ 138 ∷ []) ∷ three ∷ []; rest = [] })) ∷ []
unfolding plain long three
second_body = refl
