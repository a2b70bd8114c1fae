-- A few histories, computed.
use Rattle.std.proofs.Common.{◌≡◌, ℕ, List, [], ◌∷◌, ◌++◌, true, refl, None}
use Rattle.dch_am.specs.Rules.{Rules}
use Rattle.dch_amlaw.specs.Pair.{Offer, Build, Arrive, Lose, Tick, At, Near, Far, opened, after, Mrw, Report}
use Rattle.dch_am.specs.Status.{AckAndStatus, OnlyAck}

bearer : Rules
bearer = record { window = 128; buffer = 4; poll_pdus = 0; poll_units = 0; poll_window = 0; poll_timer = 0; missing = true; status_period = 0; status_prohibit = 0; discard_age = 5; discard_sent = 0; discard_repeat = 3 }

ten : List ℕ
ten = 0 ∷ 1 ∷ 2 ∷ 3 ∷ 4 ∷ 5 ∷ 6 ∷ 7 ∷ 8 ∷ 9 ∷ []

-- a PDU is lost, and five ticks after the offer its unit is discarded
lost : List At
lost = Near (Offer ten) ∷ Near Build ∷ Far Lose ∷ Near Tick ∷ Near Tick ∷ Near Tick ∷ Near Tick ∷ Near Tick ∷ Near Build ∷ []

move : (after bearer (opened bearer 18 18) lost).out ≡ Mrw 0 1 1 ∷ []
unfolding bearer lost ten
move = refl

answer : (after bearer (opened bearer 18 18) (lost ++ Far Arrive ∷ Far Build ∷ [])).back ≡ Report (OnlyAck (record { number = 0; n = 1 })) ∷ []
unfolding bearer lost ten
answer = refl

-- where the MRW comes, is written again, and the PDU comes between
late : List At
late = Near (Offer ten) ∷ Near Build ∷ Near Tick ∷ Near Tick ∷ Near Tick ∷ Near Tick ∷ Near Tick ∷ Near Build ∷ Near Tick ∷ Near Tick ∷ Near Tick ∷ Near Build ∷ Far Lose ∷ Far Arrive ∷ Far Build ∷ Near Lose ∷ []

twice : (after bearer (opened bearer 18 18) late).out ≡ Mrw 0 1 1 ∷ []
unfolding bearer late ten
twice = refl

freed : (after bearer (opened bearer 18 18) (lost ++ Far Arrive ∷ Far Build ∷ Near Arrive ∷ [])).near.entity.sender.discard ≡ None
unfolding bearer lost ten
freed = refl

counted : (after bearer (opened bearer 18 18) lost).near.entity.sender.discarded_units ≡ 0 ∷ []
unfolding bearer lost ten
counted = refl

-- the PDU comes after the MRW: it is kept and hands up nothing, and an MRW that comes again is answered by the number after it
again : List At
again = Near (Offer ten) ∷ Near Build ∷ Far Arrive ∷ []

up : (after bearer (opened bearer 18 18) again).far.entity.receiver.reading.units ≡ ten ∷ []
unfolding bearer again ten
up = refl

-- the first of two units is discarded, the second is handed up once the PDU of the first has come
two : List At
two = Near (Offer ten) ∷ Near Build ∷ Far Lose ∷ Near Tick ∷ Near Tick ∷ Near Tick ∷ Near (Offer (7 ∷ [])) ∷ Near Build ∷ Far Arrive ∷ Near Tick ∷ Near Tick ∷ Near Build ∷ Far Arrive ∷ Far Build ∷ []

both_told : (after bearer (opened bearer 18 18) two).back ≡ Report (AckAndStatus (record { number = 0; n = 1 }) (record { pairs = (0, 0) ∷ []; lsn = 2 })) ∷ []
unfolding bearer two ten
both_told = refl

second_up : (after bearer (opened bearer 18 18) (two ++ Near Arrive ∷ Near Build ∷ Far Arrive ∷ [])).far.entity.receiver.reading.units ≡ (7 ∷ []) ∷ []
unfolding bearer two ten
second_up = refl
