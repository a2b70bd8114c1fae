-- What following bytes to the end of one line does.
use Rattle.std.proofs.Common.{◌≡◌, ◌+◌, ◌-◌, ◌<◌, ◌≤◌, ◌⊎◌, ℕ, List, [], ◌∷◌, ◌++◌, Option, Bool, true, false, length, take, arith, refl, ap, sym, ◌∙◌, append_assoc, append-nil, inl, inr, length-append, length-take, ⊎_elim, eqb-true}
use Rattle.std.specs.Prelude.{Result, Ok, Err, ◌==◌, ◌&&◌, if◌then◌else◌, not}
use Rattle.std.proofs.KnownBytes.{Appends-nil}
use Rattle.dch_io.specs.Ends.{End, Passes, span}
use Rattle.dch_script.specs.Code.{longest, content, is_ended}
use Rattle.dch_script.specs.Lines.{lines_after, rest_after}
use Rattle.dch_script.specs.declared.event.LineError.TheVariants.{Long}
use Rattle.dch_lines.specs.Semantics.{Semantics, RefusesLong}
use Rattle.dch_lines.specs.Processor.{Progress, AddsLine, BreaksAt, IsOverlong, HasFaulty, Takes, StopsAt, FailsIn, EndsLine, EndsIn, FollowsPart, Advances, Steps, Follows}
use Rattle.dch_lines.specs.LineTexts.{IsFaulty, is_empty, nonempty_lines}
use Rattle.dch_lines.specs.declared.stop.LineFault.{LineFault}
use Rattle.dch_lines.specs.declared.stop.LineFault.TheVariants.{Malformed}
use Rattle.dch_lines.specs.declared.stop.Stop.{Stop}
use Rattle.dch_lines.specs.declared.stop.Stop.TheVariants.{Fault, Failed}
use Rattle.dch_lines.proofs.Parts.{Followed, lines_on, rest_on, takes_on, stops_on, fails_on}

-- a part is held
abbrev pub held_of : {S : Type 0} → Progress S → List ℕ → Progress S
held_of old part = record old { line = old.line ++ part; bytes = old.bytes + length part }

one_spoken : (line : List ℕ) → nonempty_lines (line ∷ []) ≡ (if is_empty line then 0 else 1)
one_spoken line = one (is_empty line)
  where
    one : (t : Bool) → 0 + (if not t then 1 else 0) ≡ (if t then 0 else 1)
    one true = refl
    one false = refl

pub line_taken : {S : Type 0} (semantics : Semantics S) (s : End) (old new : Progress S) (part : List ℕ) → EndsIn old.line part → AddsLine semantics s (held_of old part) new → Takes semantics s old new part
line_taken semantics s old new part ends adds =
    let line : List ℕ = old.line ++ part in
    rw adds.added (record {
      more = adds.more;
      handles = rw ends.0 (adds.handler, (adds.more, ([], (adds.handles, (refl, refl), sym (append-nil adds.more)))));
      passes = adds.passes;
      line = sym ends.1;
      short = omega arith;
      counted = refl;
      lines = rw ends.0 refl;
      nonempty_lines = rw ends.0 (sym (ap (λ n. old.nonempty_lines + n) (one_spoken line)));
    })

pub line_stops : {S : Type 0} (semantics : Semantics S) (s : End) (old new : Progress S) (part remaining : List ℕ) (fault : LineFault) → EndsIn old.line part → IsFaulty semantics old.handler (old.line ++ part) fault → Passes s old.text new.text → new.lines ≡ old.lines → StopsAt semantics s old new (part ++ remaining) fault
line_stops semantics s old new part remaining fault ends faulty passes same = record {
  good = [];
  state = old.handler;
  meets = inl (record { line = old.line ++ part; later = lines_after [] remaining; lines = lines_on old.line [] part remaining (sym ends.1) ∙ ap (λ l. l ++ lines_after [] remaining) ends.0; faulty = faulty });
  more = [];
  handles = (refl, refl);
  passes = rw append-nil passes;
  lines = omega arith;
}

pub line_fails : {S : Type 0} (semantics : Semantics S) (s : End) (old : Progress S) (part remaining : List ℕ) → EndsIn old.line part → BreaksAt semantics s old.handler (old.line ++ part) old.text → FailsIn semantics s old (part ++ remaining)
line_fails semantics s old part remaining ends breaks =
    let lines : lines_after old.line (part ++ remaining) ≡ (old.line ++ part) ∷ lines_after [] remaining = lines_on old.line [] part remaining (sym ends.1) ∙ ap (λ l. l ++ lines_after [] remaining) ends.0 in
    record {
      good = (old.line ++ part) ∷ [];
      later = lines_after [] remaining;
      lines = lines;
      state = breaks.next;
      more = breaks.more;
      handles = ⊎_elim
          (λ whole. inl (breaks.next, (breaks.more, ([], (whole, (refl, refl), sym (append-nil breaks.more))))))
          (λ begun. inr (record { before = []; line = old.line ++ part; ends = refl; state = old.handler; done = []; handles = (refl, refl); more = breaks.more; begins = begun; whole = refl }))
          breaks.front;
      breaks = breaks.breaks;
    }

-- bytes in which no line ends
pub part_taken : {S : Type 0} (semantics : Semantics S) (a : Option (List ℕ)) (f : ℕ) (old : Progress S) (part : List ℕ) → lines_after old.line part ≡ [] → rest_after old.line part ≡ old.line ++ part → length (old.line ++ part) ≤ longest → Takes semantics (span a a f f) old (held_of old part) part
part_taken semantics a f old part none rest short = record {
  more = [];
  handles = rw none (refl, refl);
  passes = record { written = []; writes = Appends-nil a; whole = append-nil old.text };
  line = sym rest;
  short = short;
  counted = refl;
  lines = rw none (omega arith);
  nonempty_lines = rw none (omega arith);
}

and_false : (t : Bool) → (t && false) ≡ false
and_false true = refl
and_false false = refl

more_than_a_feed : (begun : List ℕ) → 0 < length begun → is_empty (begun ++ 10 ∷ []) ≡ false
more_than_a_feed [] some = absurd (omega arith)
more_than_a_feed (b ∷ []) some = and_false (b == 10)
more_than_a_feed (b ∷ (d ∷ rest)) some = and_false (b == 10)

content_long : (line : List ℕ) → length line ≤ length (content line) + 1
content_long line = one (is_ended line)
  where
    one : (t : Bool) → length line ≤ length (if t then take (length line - 1) line else line) + 1
    one true = omega (arith, length-take (length line - 1) line)
    one false = omega arith

ended_long : {S : Type 0} (semantics : Semantics S) (state : S) (begun : List ℕ) → RefusesLong semantics → longest < length begun → IsFaulty semantics state (begun ++ 10 ∷ []) (Malformed Long)
ended_long semantics state begun strict long =
    let line : List ℕ = begun ++ 10 ∷ [] in
    let over : longest < length (content line) = omega (arith, long, content_long line, length-append begun (10 ∷ [])) in
    record {
      words = more_than_a_feed begun (omega (arith, long));
      cause = strict state line over;
    }

-- a line that begins with too many bytes is malformed, wherever it ends
abbrev Overlong : {S : Type 0} → Semantics S → S → List ℕ → List ℕ → Type 0
Overlong semantics state begun bytes = HasFaulty semantics state begun bytes [] (Malformed Long) ⊎ IsOverlong begun bytes []

overlong_at : {S : Type 0} (semantics : Semantics S) (state : S) (begun : List ℕ) (c : ℕ) (bytes : List ℕ) (t : Bool) → RefusesLong semantics → (c == 10) ≡ t → longest < length begun → Overlong semantics state (begun ++ c ∷ []) bytes → Overlong semantics state begun (c ∷ bytes)
overlong_at semantics state begun c bytes true strict same long later =
    let feed : c ≡ 10 = eqb-true c 10 same in
    inl (record { line = begun ++ 10 ∷ []; later = lines_after [] bytes; lines = rw (same, feed) refl; faulty = ended_long semantics state begun strict long })
overlong_at semantics state begun c bytes false strict same long later =
    ⊎_elim
    (λ m. inl (record { line = m.line; later = m.later; lines = rw same m.lines; faulty = m.faulty }))
    (λ m. inr (record { lines = rw same m.lines; long = rw same m.long }))
    later

pub overlong : {S : Type 0} (semantics : Semantics S) (state : S) (begun bytes : List ℕ) → RefusesLong semantics → longest < length begun → Overlong semantics state begun bytes
overlong semantics state begun [] strict long = inr (record { lines = refl; long = long })
overlong semantics state begun (c ∷ bytes) strict long =
    overlong_at semantics state begun c bytes (c == 10) strict refl long (overlong semantics state (begun ++ c ∷ []) bytes strict (omega (arith, long, length-append begun (c ∷ []))))

-- a part after which the line is too long
pub part_stops : {S : Type 0} (semantics : Semantics S) (a : Option (List ℕ)) (f : ℕ) (old : Progress S) (part remaining : List ℕ) → RefusesLong semantics → lines_after old.line part ≡ [] → rest_after old.line part ≡ old.line ++ part → longest < length (old.line ++ part) → StopsAt semantics (span a a f f) old (held_of old part) (part ++ remaining) (Malformed Long)
part_stops semantics a f old part remaining strict none rest long =
    let lines : lines_after old.line (part ++ remaining) ≡ lines_after (old.line ++ part) remaining = lines_on old.line (old.line ++ part) part remaining (sym rest) ∙ ap (λ l. l ++ lines_after (old.line ++ part) remaining) none in
    let last : rest_after old.line (part ++ remaining) ≡ rest_after (old.line ++ part) remaining = rest_on old.line (old.line ++ part) part remaining (sym rest) in
    record {
      good = [];
      state = old.handler;
      meets = ⊎_elim
          (λ m. inl (record { line = m.line; later = m.later; lines = lines ∙ m.lines; faulty = m.faulty }))
          (λ m. inr (refl, record { lines = lines ∙ m.lines; long = rw last m.long }))
          (overlong semantics old.handler (old.line ++ part) remaining strict long);
      more = [];
      handles = (refl, refl);
      passes = record { written = []; writes = Appends-nil a; whole = append-nil old.text };
      lines = omega arith;
    }

-- ending a line with a part
pub part_ended : {S : Type 0} (semantics : Semantics S) (s : End) (old mid new : Progress S) (part : List ℕ) (result : Result (Unit {0}) Stop) → EndsIn old.line part → mid ≡ held_of old part → EndsLine semantics s mid new result → FollowsPart semantics s old new part result
part_ended semantics s old mid new part (Ok done) ends held line =
    let line : EndsLine semantics s (held_of old part) new (Ok done) = rw held at line in
    line_taken semantics s old new part ends line
part_ended semantics s old mid new part (Err (Fault fault)) ends held line =
    let line : EndsLine semantics s (held_of old part) new (Err (Fault fault)) = rw held at line in
    λ remaining. line_stops semantics s old new part remaining fault ends line.0 line.1 (ap (λ w. w.lines) line.2)
part_ended semantics s old mid new part (Err Failed) ends held line =
    let line : EndsLine semantics s (held_of old part) new (Err Failed) = rw held at line in
    λ remaining. line_fails semantics s old part remaining ends line

-- the bytes followed so far, and a step that stops
pub follows_stop : {S : Type 0} (semantics : Semantics S) (a b c : Option (List ℕ)) (f g h : ℕ) (old mid new : Progress S) (bytes done remaining : List ℕ) (stop : Stop) → f ≤ g → bytes ≡ done ++ remaining → Takes semantics (span a b f g) old mid done → Steps semantics (span b c g h) mid new remaining (Err stop) → Follows semantics (span a c f h) old new bytes (Err stop)
follows_stop semantics a b c f g h old mid new bytes done remaining (Fault fault) later cut first next = rw cut (stops_on semantics a b c f g h old mid new done remaining fault first next)
follows_stop semantics a b c f g h old mid new bytes done remaining Failed later cut first next = rw cut (fails_on semantics a b c f g h old mid done remaining later first next)

pub follows_step : {S : Type 0} (semantics : Semantics S) (a b c : Option (List ℕ)) (f g h : ℕ) (old mid new : Progress S) (bytes mid_left remaining : List ℕ) → Followed semantics (span a b f g) old mid bytes mid_left → Advances semantics (span b c g h) mid new mid_left remaining → Followed semantics (span a c f h) old new bytes remaining
follows_step semantics a b c f g h old mid new bytes mid_left remaining first next = record {
  done = first.done ++ next.part;
  cut = first.cut ∙ ap (λ l. first.done ++ l) next.cut ∙ sym (append_assoc first.done next.part remaining);
  takes = takes_on semantics a b c f g h old mid new first.done next.part first.takes next.takes;
}

-- all bytes are followed
pub all_followed : {S : Type 0} (semantics : Semantics S) (sink : End) (old new : Progress S) (bytes remaining : List ℕ) → Followed semantics sink old new bytes remaining → length remaining ≡ 0 → Takes semantics sink old new bytes
all_followed semantics sink old new bytes [] followed none = rw (followed.cut ∙ append-nil followed.done) followed.takes
all_followed semantics sink old new bytes (c ∷ remaining) followed none = absurd (omega (arith, none))

-- before the first byte
pub none_followed : {S : Type 0} (semantics : Semantics S) (a : Option (List ℕ)) (f : ℕ) (old : Progress S) (bytes : List ℕ) → length old.line ≤ longest → Followed semantics (span a a f f) old old bytes bytes
none_followed semantics a f old bytes short = record {
  done = [];
  cut = refl;
  takes = record {
    more = [];
    handles = (refl, refl);
    passes = record { written = []; writes = Appends-nil a; whole = append-nil old.text };
    line = refl;
    short = short;
    counted = omega arith;
    lines = omega arith;
    nonempty_lines = omega arith;
  };
}
