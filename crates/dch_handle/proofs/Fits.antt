-- A queue with room for what a step tells loses none of it.
use Rattle.std.proofs.Common.{◌≡◌, ◌≤◌, ◌<◌, ◌+◌, ◌-◌, ◌*◌, ◌++◌, ◌∙◌, ◌&&◌, ℕ, List, [], ◌∷◌, Bool, true, false, if◌then◌else◌, length, map, arith, refl, ap, sym, subst, length-append}
use Rattle.std.specs.Prelude.{nat_le, nat_lt}
use Rattle.std.proofs.lemmas.Bool.{false≢true, le-leb, lt-ltb}
use Rattle.dch_indication.specs.Lines.{Line}
use Rattle.dch_indication.specs.Told.{Told as AreTold}
use Rattle.dch_script.specs.LineText.{text_of}
use Rattle.dch_steptext.specs.Reports.{TellsFew}
use Rattle.dch_handle.specs.declared.told.Told.{Told}
use Rattle.dch_handle.specs.Telling.{Enters, HasRoomFor, IsToldAnew, IsWhole, Wait, Waiting, all_long, emptied, entered, has_place, payload_of, payloads, queued, told_of}
use Rattle.dch_handle.proofs.Behind.{behind}
use Rattle.dch_handle.proofs.LineLengths.{all_behind, lines_long}

both : (a b : Bool) → a ≡ true → b ≡ true → (a && b) ≡ true
both true b one two = two
both false b one two = absurd (false≢true one)

there : (old : Waiting) (payload : List ℕ) → 0 < old.heads_left → length payload ≤ old.room_left → has_place old payload ≡ true
there old payload heads octets =
    both (nat_lt 0 old.heads_left) (nat_le (length payload) old.room_left) (lt-ltb 0 old.heads_left heads) (le-leb (length payload) old.room_left octets)

chosen : (b : Bool) (old new : Waiting) (told : Told) (payload : List ℕ) → b ≡ true
    → new ≡ (if b then queued old told payload else record old { lost = true }) → new ≡ queued old told payload
chosen true old new told payload place is = is
chosen false old new told payload place is = absurd (false≢true place)

fits : (old new : Waiting) (lines : List Line) → AreTold Enters old lines new → old.lost ≡ false → length lines ≤ old.heads_left → length (payloads lines) ≤ old.room_left → new.lost ≡ false
fits old new [] told kept heads octets = ap (λ (q : Waiting). q.lost) told ∙ kept
fits old new (line ∷ lines) told kept heads octets =
    let mid = told.0 in
    let payload = payload_of line in
    let all : length (payloads (line ∷ lines)) ≡ length payload + length (payloads lines) = length-append payload (payloads lines) in
    let place : has_place old payload ≡ true = there old payload (omega (arith, heads)) (omega (arith, octets, all)) in
    let is : mid ≡ queued old (told_of line) payload = chosen (has_place old payload) old mid (told_of line) payload place told.1.0 in
    let left : mid.heads_left ≡ old.heads_left - 1 = ap (λ (q : Waiting). q.heads_left) is in
    let room : mid.room_left ≡ old.room_left - length payload = ap (λ (q : Waiting). q.room_left) is in
    fits mid new lines told.1.1 (ap (λ (q : Waiting). q.lost) is ∙ kept) (omega (arith, left, heads)) (omega (arith, room, octets, all))

-- what doesn't change as lines enter
record AreSame (old new : Waiting) : Type 0 where
  most : new.most ≡ old.most
  room : new.room ≡ old.room

one_same : (b : Bool) (old new : Waiting) (told : Told) (payload : List ℕ)
    → new ≡ (if b then queued old told payload else record old { lost = true }) → AreSame old new
one_same true old new told payload is = record { most = ap (λ (q : Waiting). q.most) is; room = ap (λ (q : Waiting). q.room) is }
one_same false old new told payload is = record { most = ap (λ (q : Waiting). q.most) is; room = ap (λ (q : Waiting). q.room) is }

same : (old new : Waiting) (lines : List Line) → AreTold Enters old lines new → AreSame old new
same old new [] told = record { most = ap (λ (q : Waiting). q.most) told; room = ap (λ (q : Waiting). q.room) told }
same old new (line ∷ lines) told =
    let first = one_same (has_place old (payload_of line)) old told.0 (told_of line) (payload_of line) told.1.0 in
    let rest = same told.0 new lines told.1.1 in
    record { most = rest.most ∙ first.most; room = rest.room ∙ first.room }

-- of a step from an empty queue
pub told_all : (bytes : ℕ) (old new : Waiting) → HasRoomFor bytes old → TellsFew Enters bytes (emptied old) new → IsToldAnew old new
told_all bytes old new has few =
    let long = lines_long few.lines in
    let none = fits (emptied old) new few.lines few.told refl (omega (arith, has.heads, few.few, long.least)) (omega (arith, has.octets, few.few, long.behind)) in
    let is = behind (emptied old) new few.lines few.told none in
    let kept = same (emptied old) new few.lines few.told in
    record {
      kept = none;
      most = kept.most;
      room = kept.room;
      whole = ap length is.letters ∙ (all_behind few.lines ∙ sym (ap all_long is.told));
    }

-- and just the lines that it was told of wait
pub all_wait : (bytes : ℕ) (old new : Waiting) → HasRoomFor bytes old → TellsFew Enters bytes (emptied old) new → (lines : List Line) → AreTold Enters (emptied old) lines new → Wait lines new
all_wait bytes old new has few lines told =
    let is = behind (emptied old) new lines told (told_all bytes old new has few).kept in
    record { told = is.told; letters = is.letters }
