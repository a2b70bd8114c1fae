-- How following an input goes on and ends, by what the pieces do.
use Rattle.std.proofs.Common.{◌≡◌, ◌⊎◌, ◌+◌, ◌-◌, ◌<◌, ◌≤◌, ℕ, List, [], ◌∷◌, ◌++◌, Option, None, Some, length, take, arith, refl, ap, sym, ◌∙◌, subst, append_assoc, append-nil, inl, inr, ⊎_elim, length-append}
use Rattle.std.proofs.lemmas.List.{take-append-le, take_all}
use Rattle.std.specs.Prelude.{Err}
use Rattle.std.specs.Io.KnownBytes.{Consumes, IsAtEnd, Keeps}
use Rattle.std.proofs.KnownBytes.{Appends-trans, Consumes-trans, Appends-nil, Consumes-nil}
use Rattle.dch_io.specs.Ends.{End, Breaks, Fails, span}
use Rattle.dch_io.specs.Pieces.{LIMIT, PIECE}
use Rattle.dch_script.specs.Code.{longest}
use Rattle.dch_script.specs.Lines.{lines_after}
use Rattle.dch_script.specs.declared.event.LineError.TheVariants.{Cut, Long}
use Rattle.dch_lines.specs.Semantics.{Semantics}
use Rattle.dch_lines.specs.Processor.{HasFaulty, MeetsFault, Progress, Takes}
use Rattle.dch_lines.specs.Followed.{CoversAll, FollowsInput, IsCutOff, IsMetSoon, MayFollow}
use Rattle.dch_lines.specs.Pieces.{Going, RefusesIn, LacksIn, BreaksIn, TakesPiece, EndsInput}
use Rattle.dch_lines.specs.LineTexts.{refusal, nonempty_lines}
use Rattle.dch_lines.specs.declared.stop.LineFault.TheVariants.{Malformed, NoMemory}
use Rattle.dch_lines.specs.declared.stop.Outcome.{Outcome}
use Rattle.dch_lines.specs.declared.stop.Outcome.TheVariants.{Ok, Refused, ReadFault, WriteFault, NoMemory as Lacking, TooLong}
use Rattle.dch_lines.proofs.Parts.{lines_on, meets_on, takes_on}
use Rattle.dch_lines.proofs.Cuts.{front_append, says_append}

-- what is written and waits, with more text at its end
joined : (w t x y last new : List ℕ) → x ++ y ≡ w ++ t → last ≡ new → w ++ (t ++ last) ≡ x ++ y ++ new
joined w t x y last new whole same = rw same (sym (append_assoc w t new) ∙ ap (λ l. l ++ new) (sym whole))

joined_more : (w t x y z last new : List ℕ) → x ++ y ≡ w ++ t → last ≡ new → w ++ (t ++ z ++ last) ≡ x ++ (y ++ z) ++ new
joined_more w t x y z last new whole same =
    rw same (sym (append_assoc w (t ++ z) new) ∙ ap (λ l. l ++ new) (sym (append_assoc w t z) ∙ ap (λ l. l ++ z) (sym whole) ∙ append_assoc x y z))

-- before the first byte
pub nothing_taken : {S : Type 0} (semantics : Semantics S) (k : Option (List ℕ)) (h : ℕ) (old : Progress S) → length old.line ≤ longest → Takes semantics (span k k h h) old old []
nothing_taken semantics k h old short = record {
  more = [];
  handles = (refl, refl);
  passes = record { written = []; writes = Appends-nil k; whole = append-nil old.text };
  line = refl;
  short = short;
  counted = omega arith;
  lines = omega arith;
  nonempty_lines = omega arith;
}

-- the part at hand is taken
pub begins : {S : Type 0} (semantics : Semantics S) (a k l : Option (List ℕ)) (f h i : ℕ) (old new : Progress S) (part : List ℕ) → Takes semantics (span k l h i) old new part → new.text ≡ [] → h ≤ i → Going semantics (span a a f f) (span k l h i) old new part
begins semantics a k l f h i old new part takes idle later = record {
  taken = [];
  takes = Consumes-nil a;
  at = rw append-nil takes;
  idle = idle;
  source_later = omega arith;
  sink_later = later;
}

-- a piece is taken
pub goes_on : {S : Type 0} (semantics : Semantics S) (a b c k l m : Option (List ℕ)) (f g e h i j : ℕ) (first old new : Progress S) (part piece : List ℕ) → Going semantics (span a b f g) (span k l h i) first old part → Consumes b c piece → Takes semantics (span l m i j) old new piece → new.text ≡ [] → g ≤ e → i ≤ j
    → Going semantics (span a c f e) (span k m h j) first new part
goes_on semantics a b c k l m f g e h i j first old new part piece going consumes takes idle source_later sink_later = record {
  taken = going.taken ++ piece;
  takes = Consumes-trans a b c going.taken piece going.takes consumes;
  at = rw (← append_assoc part going.taken piece) (takes_on semantics k l m h i j first old new (part ++ going.taken) piece going.at takes);
  idle = idle;
  source_later = omega (arith, going.source_later);
  sink_later = omega (arith, going.sink_later);
}

-- what stops the work is met with the piece behind what was followed before
met_soon : {S : Type 0} (semantics : Semantics S) (sink : End) (first old : Progress S) (bytes done piece : List ℕ) (good : List (List ℕ)) → bytes ≡ done ++ piece → length piece ≤ PIECE → Takes semantics sink first old done → IsMetSoon first.line bytes (lines_after first.line done ++ good)
met_soon semantics sink first old bytes done piece good cut small at = record { before = done; piece = piece; pieces = cut; small = small; since = good; lines = refl; short = rw (← at.line) at.short }

-- a line is refused: `done` was followed before, and then the piece
refuses : {S : Type 0} (semantics : Semantics S) (a c k l m : Option (List ℕ)) (f e h i j : ℕ) (first old : Progress S) (state : S) (part taken done piece : List ℕ) → part ++ taken ≡ done ++ piece → Consumes a c taken
    → Takes semantics (span k l h i) first old done → old.bytes + length piece ≤ LIMIT → length piece ≤ PIECE → RefusesIn semantics (span l m i j) old piece → FollowsInput semantics (span a c f e) (span k m h j) first state part Refused
refuses semantics a c k l m f e h i j first old state part taken done piece cut consumes at within small stops =
    let before : List (List ℕ) = lines_after first.line done in
    let last : List ℕ = refusal (old.lines + length stops.good) stops.why in
    let count : old.lines + length stops.good ≡ first.lines + length (before ++ stops.good) = omega (arith, at.lines, length-append before stops.good) in
    record {
      taken = taken;
      written = at.passes.written ++ (old.text ++ stops.more ++ last);
      takes = consumes;
      writes = Appends-trans k l m at.passes.written (old.text ++ stops.more ++ last) at.passes.writes stops.writes;
      answers = record {
        within = rw cut (omega (arith, at.counted, length-append done piece));
        good = before ++ stops.good;
        state = stops.state;
        why = stops.why;
        refused = rw cut (inl (meets_on semantics stops.state first.line old.line done piece stops.good (Malformed stops.why) at.line stops.meets));
        soon = met_soon semantics (span k l h i) first old (part ++ taken) done piece stops.good cut small at;
        text = at.more ++ stops.more;
        handles = says_append semantics first.handler old.handler stops.state before stops.good at.more stops.more at.handles stops.handles;
        all = joined_more at.passes.written old.text first.text at.more stops.more last (refusal (first.lines + length (before ++ stops.good)) stops.why) at.passes.whole (ap (λ n. refusal n stops.why) count);
      };
    }

-- only a whole line wants memory
lacking_line : {S : Type 0} (semantics : Semantics S) (state : S) (begun bytes : List ℕ) (good : List (List ℕ)) → MeetsFault semantics state begun bytes good NoMemory → HasFaulty semantics state begun bytes good NoMemory
lacking_line semantics state begun bytes good meets = ⊎_elim (λ m. m) (λ m. absurd (apart m.0)) meets
  where
    apart : NoMemory ≡ Malformed Long → ⊥
    apart same = cc

-- a line wants memory: `done` was followed before, and then the piece
lacks : {S : Type 0} (semantics : Semantics S) (a c k l m : Option (List ℕ)) (f e h i j : ℕ) (first old : Progress S) (state : S) (part taken done piece : List ℕ) → part ++ taken ≡ done ++ piece → Consumes a c taken
    → Takes semantics (span k l h i) first old done → old.bytes + length piece ≤ LIMIT → length piece ≤ PIECE → LacksIn semantics (span l m i j) old piece → FollowsInput semantics (span a c f e) (span k m h j) first state part Lacking
lacks semantics a c k l m f e h i j first old state part taken done piece cut consumes at within small stops =
    let before : List (List ℕ) = lines_after first.line done in
    record {
      taken = taken;
      written = at.passes.written ++ (old.text ++ stops.more);
      takes = consumes;
      writes = Appends-trans k l m at.passes.written (old.text ++ stops.more) at.passes.writes stops.writes;
      answers = record {
        within = rw cut (omega (arith, at.counted, length-append done piece));
        good = before ++ stops.good;
        state = stops.state;
        lacks = rw cut (lacking_line semantics stops.state first.line (done ++ piece) (before ++ stops.good) (meets_on semantics stops.state first.line old.line done piece stops.good NoMemory at.line stops.meets));
        soon = met_soon semantics (span k l h i) first old (part ++ taken) done piece stops.good cut small at;
        text = at.more ++ stops.more;
        handles = says_append semantics first.handler old.handler stops.state before stops.good at.more stops.more at.handles stops.handles;
        all = sym (append_assoc at.passes.written old.text stops.more) ∙ ap (λ l. l ++ stops.more) (sym at.passes.whole) ∙ append_assoc first.text at.more stops.more;
      };
    }

-- the sink fails
breaks_off : {S : Type 0} (semantics : Semantics S) (a c k l m : Option (List ℕ)) (f e h i j : ℕ) (first old : Progress S) (state : S) (part taken done piece : List ℕ) → part ++ taken ≡ done ++ piece → Consumes a c taken → h ≤ i
    → (at : Takes semantics (span k l h i) first old done) → old.bytes + length piece ≤ LIMIT → ((since : List ℕ) → ((taken ≡ []) × (length part ≤ PIECE)) ⊎ CoversAll semantics first (part ++ taken) (at.passes.written ++ since)) → BreaksIn semantics (span l m i j) old piece
    → FollowsInput semantics (span a c f e) (span k m h j) first state part WriteFault
breaks_off semantics a c k l m f e h i j first old state part taken done piece cut consumes later at within covers breaks =
    let before : List (List ℕ) = lines_after first.line done in
    let written : List ℕ = at.passes.written in
    let since : List ℕ = breaks.breaks.written in
    let count : old.lines + length breaks.good ≡ first.lines + length (before ++ breaks.good) = omega (arith, at.lines, length-append before breaks.good) in
    record {
      taken = taken;
      written = written ++ since;
      takes = consumes;
      writes = Appends-trans k l m written since at.passes.writes breaks.breaks.writes;
      answers = record {
        fails = omega (arith, later, breaks.breaks.fails);
        within = rw cut (omega (arith, at.counted, length-append done piece));
        good = before ++ breaks.good;
        later = breaks.later;
        lines = rw cut (lines_on first.line old.line done piece at.line ∙ ap (λ l. before ++ l) breaks.lines ∙ sym (append_assoc before breaks.good breaks.later));
        state = breaks.state;
        text = at.more ++ breaks.more;
        handles = front_append semantics first.handler old.handler breaks.state before breaks.good at.more breaks.more at.handles breaks.handles;
        last = breaks.last;
        follows = ⊎_elim
            (λ none. inl none)
            (λ m. inr (
              says_append semantics first.handler old.handler breaks.state before breaks.good at.more breaks.more at.handles m.0,
              inr (m.1.0, (rw cut (inl (meets_on semantics breaks.state first.line old.line done piece breaks.good (Malformed m.1.0) at.line m.1.1.0)), m.1.1.1 ∙ ap (λ n. refusal n m.1.0) count)),
            ))
            breaks.follows;
        cut = record {
          rest = breaks.breaks.cut.rest;
          some = breaks.breaks.cut.some;
          whole = sym (joined_more written old.text first.text at.more breaks.more breaks.last breaks.last at.passes.whole refl)
              ∙ ap (λ l. written ++ l) breaks.breaks.cut.whole ∙ sym (append_assoc written since breaks.breaks.cut.rest);
        };
        covers = covers since;
      };
    }

-- all before a piece is written
covers_before : {S : Type 0} (semantics : Semantics S) (sink : End) (first old : Progress S) (bytes done piece since : List ℕ) → bytes ≡ done ++ piece → length piece ≤ PIECE → (at : Takes semantics sink first old done) → old.text ≡ [] → CoversAll semantics first bytes (at.passes.written ++ since)
covers_before semantics sink first old bytes done piece since cut small at idle = record {
  before = done;
  piece = piece;
  pieces = cut;
  small = small;
  state = old.handler;
  text = at.more;
  handles = at.handles;
  short = rw (← at.line) at.short;
  since = since;
  begins = ap (λ l. l ++ since) (sym (at.passes.whole ∙ ap (λ l. at.passes.written ++ l) idle ∙ append-nil at.passes.written));
}

-- the part at hand ends the work
pub part_ends : {S : Type 0} (semantics : Semantics S) (a k m : Option (List ℕ)) (f h j : ℕ) (first new : Progress S) (part : List ℕ) (outcome : Outcome) → length first.line ≤ longest → first.bytes + length part ≤ LIMIT → length part ≤ PIECE
    → TakesPiece semantics (span k m h j) first new part (Err outcome) → FollowsInput semantics (span a a f f) (span k m h j) first new.handler part outcome
part_ends semantics a k m f h j first new part Refused short within small takes = refuses semantics a a k k m f f h h j first first new.handler part [] [] part (append-nil part) (Consumes-nil a) (nothing_taken semantics k h first short) within small takes
part_ends semantics a k m f h j first new part WriteFault short within small takes =
    breaks_off semantics a a k k m f f h h j first first new.handler part [] [] part (append-nil part) (Consumes-nil a) (omega arith) (nothing_taken semantics k h first short) within (λ since. inl (refl, small)) takes
part_ends semantics a k m f h j first new part Lacking short within small takes = lacks semantics a a k k m f f h h j first first new.handler part [] [] part (append-nil part) (Consumes-nil a) (nothing_taken semantics k h first short) within small takes
part_ends semantics a k m f h j first new part Ok short within small takes = absurd takes
part_ends semantics a k m f h j first new part ReadFault short within small takes = absurd takes
part_ends semantics a k m f h j first new part TooLong short within small takes = absurd takes

-- a piece ends the work
pub piece_ends : {S : Type 0} (semantics : Semantics S) (a b c k l m : Option (List ℕ)) (f g e h i j : ℕ) (first old new : Progress S) (part piece : List ℕ) (outcome : Outcome) → Going semantics (span a b f g) (span k l h i) first old part → Consumes b c piece → old.bytes + length piece ≤ LIMIT → length piece ≤ PIECE
    → TakesPiece semantics (span l m i j) old new piece (Err outcome) → FollowsInput semantics (span a c f e) (span k m h j) first new.handler part outcome
piece_ends semantics a b c k l m f g e h i j first old new part piece Refused going consumes within small takes =
    refuses semantics a c k l m f e h i j first old new.handler part (going.taken ++ piece) (part ++ going.taken) piece (sym (append_assoc part going.taken piece)) (Consumes-trans a b c going.taken piece going.takes consumes) going.at within small takes
piece_ends semantics a b c k l m f g e h i j first old new part piece WriteFault going consumes within small takes =
    let cut : part ++ (going.taken ++ piece) ≡ part ++ going.taken ++ piece = sym (append_assoc part going.taken piece) in
    breaks_off semantics a c k l m f e h i j first old new.handler part (going.taken ++ piece) (part ++ going.taken) piece cut (Consumes-trans a b c going.taken piece going.takes consumes) going.sink_later going.at within
    (λ since. inr (covers_before semantics (span k l h i) first old (part ++ (going.taken ++ piece)) (part ++ going.taken) piece since cut small going.at going.idle)) takes
piece_ends semantics a b c k l m f g e h i j first old new part piece Lacking going consumes within small takes =
    lacks semantics a c k l m f e h i j first old new.handler part (going.taken ++ piece) (part ++ going.taken) piece (sym (append_assoc part going.taken piece)) (Consumes-trans a b c going.taken piece going.takes consumes) going.at within small takes
piece_ends semantics a b c k l m f g e h i j first old new part piece Ok going consumes within small takes = absurd takes
piece_ends semantics a b c k l m f g e h i j first old new part piece ReadFault going consumes within small takes = absurd takes
piece_ends semantics a b c k l m f g e h i j first old new part piece TooLong going consumes within small takes = absurd takes

-- one byte more than may come is taken
pub too_long : {S : Type 0} (semantics : Semantics S) (a b c k l : Option (List ℕ)) (f g e h i : ℕ) (first old : Progress S) (part piece : List ℕ) → Going semantics (span a b f g) (span k l h i) first old part → Consumes b c piece → old.bytes ≡ LIMIT → length piece ≡ 1
    → FollowsInput semantics (span a c f e) (span k l h i) first old.handler part TooLong
too_long semantics a b c k l f g e h i first old part piece going consumes full one =
    let done : List ℕ = part ++ going.taken in
    let count : first.bytes + length done ≡ LIMIT = omega (arith, going.at.counted) in
    let front : take (LIMIT - first.bytes) (done ++ piece) ≡ done = take-append-le (LIMIT - first.bytes) done piece (omega (arith, count)) ∙ take_all (LIMIT - first.bytes) done (omega (arith, count)) in
    record {
      taken = going.taken ++ piece;
      written = going.at.passes.written;
      takes = Consumes-trans a b c going.taken piece going.takes consumes;
      writes = going.at.passes.writes;
      answers = record {
        long = rw (← append_assoc part going.taken piece) (omega (arith, count, length-append done piece));
        short = rw (← append_assoc part going.taken piece, front, ← going.at.line) going.at.short;
        state = old.handler;
        text = going.at.more;
        handles = rw (← append_assoc part going.taken piece, front) going.at.handles;
        all = sym (going.at.passes.whole ∙ ap (λ l. going.at.passes.written ++ l) going.idle ∙ append-nil going.at.passes.written);
      };
    }

-- the bytes taken, where a read gave none
taken_all : (a b c : Option (List ℕ)) (taken : List ℕ) → Consumes a b taken → Consumes b c [] → Consumes a c taken
taken_all a b c taken first none = subst (Consumes a c) (append-nil taken) (Consumes-trans a b c taken [] first none)

-- the sink fails at the end of the input
breaks_at_end : {S : Type 0} (semantics : Semantics S) (a b c k l m : Option (List ℕ)) (f g e h i j : ℕ) (first old : Progress S) (state : S) (part last new : List ℕ) → (going : Going semantics (span a b f g) (span k l h i) first old part) → Consumes b c []
    → last ≡ new → MayFollow semantics (span a c f e) first old.handler going.at.more (part ++ going.taken) (lines_after first.line (part ++ going.taken)) new → old.bytes ≤ LIMIT → Breaks (span l m i j) (old.text ++ last) → FollowsInput semantics (span a c f e) (span k m h j) first state part WriteFault
breaks_at_end semantics a b c k l m f g e h i j first old state part last new going none same follows within breaks =
    let done : List ℕ = part ++ going.taken in
    let written : List ℕ = going.at.passes.written in
    record {
      taken = going.taken;
      written = written ++ breaks.written;
      takes = taken_all a b c going.taken going.takes none;
      writes = Appends-trans k l m written breaks.written going.at.passes.writes breaks.writes;
      answers = record {
        fails = omega (arith, going.sink_later, breaks.fails);
        within = omega (arith, going.at.counted);
        good = lines_after first.line done;
        later = [];
        lines = sym (append-nil (lines_after first.line done));
        state = old.handler;
        text = going.at.more;
        handles = inl going.at.handles;
        last = new;
        follows = follows;
        cut = record {
          rest = breaks.cut.rest;
          some = breaks.cut.some;
          whole = sym (joined written old.text first.text going.at.more last new going.at.passes.whole same) ∙ ap (λ l. written ++ l) breaks.cut.whole ∙ sym (append_assoc written breaks.written breaks.cut.rest);
        };
        covers = inr (covers_before semantics (span k l h i) first old done done [] breaks.written (sym (append-nil done)) (omega arith) going.at going.idle);
      };
    }

-- the input ended within a line
cut_off : {S : Type 0} (semantics : Semantics S) (source sink : End) (first old : Progress S) (bytes : List ℕ) → IsAtEnd source.now → Takes semantics sink first old bytes → 0 < length old.line → IsCutOff source first.line bytes (lines_after first.line bytes)
cut_off semantics source sink first old bytes end at some = record { end = end; lines = refl; some = rw (← at.line) some; short = rw (← at.line) at.short }

-- the input ends
pub ends : {S : Type 0} (semantics : Semantics S) (a b c k l m : Option (List ℕ)) (f g e h i j : ℕ) (first old new : Progress S) (part : List ℕ) (outcome : Outcome) → Going semantics (span a b f g) (span k l h i) first old part → Consumes b c [] → IsAtEnd c → old.bytes ≤ LIMIT
    → EndsInput semantics (span l m i j) old new outcome → FollowsInput semantics (span a c f e) (span k m h j) first new.handler part outcome
ends semantics a b c k l m f g e h i j first old new part Ok going none end within ended =
    let lines : List (List ℕ) = lines_after first.line (part ++ going.taken) in
    let same : semantics.closing old.handler old.nonempty_lines ≡ semantics.closing new.handler (first.nonempty_lines + nonempty_lines lines) = rw ended.1 (ap (λ n. semantics.closing old.handler n) going.at.nonempty_lines) in
    record {
      taken = going.taken;
      written = going.at.passes.written ++ (old.text ++ semantics.closing old.handler old.nonempty_lines);
      takes = taken_all a b c going.taken going.takes none;
      writes = Appends-trans k l m going.at.passes.written (old.text ++ semantics.closing old.handler old.nonempty_lines) going.at.passes.writes ended.2;
      answers = record {
        end = end;
        within = omega (arith, going.at.counted);
        ended = sym going.at.line ∙ ended.0;
        text = going.at.more;
        handles = rw ended.1 going.at.handles;
        all = joined going.at.passes.written old.text first.text going.at.more (semantics.closing old.handler old.nonempty_lines) (semantics.closing new.handler (first.nonempty_lines + nonempty_lines lines)) going.at.passes.whole same;
      };
    }
ends semantics a b c k l m f g e h i j first old new part Refused going none end within ended =
    let lines : List (List ℕ) = lines_after first.line (part ++ going.taken) in
    record {
      taken = going.taken;
      written = going.at.passes.written ++ (old.text ++ refusal old.lines Cut);
      takes = taken_all a b c going.taken going.takes none;
      writes = Appends-trans k l m going.at.passes.written (old.text ++ refusal old.lines Cut) going.at.passes.writes ended.1;
      answers = record {
        within = omega (arith, going.at.counted);
        good = lines;
        state = old.handler;
        why = Cut;
        refused = inr (refl, cut_off semantics (span a c f e) (span k l h i) first old (part ++ going.taken) end going.at ended.0);
        soon = rw (← append-nil lines) (met_soon semantics (span k l h i) first old (part ++ going.taken) (part ++ going.taken) [] [] (sym (append-nil (part ++ going.taken))) (omega arith) going.at);
        text = going.at.more;
        handles = going.at.handles;
        all = joined going.at.passes.written old.text first.text going.at.more (refusal old.lines Cut) (refusal (first.lines + length lines) Cut) going.at.passes.whole (ap (λ n. refusal n Cut) going.at.lines);
      };
    }
ends semantics a b c k l m f g e h i j first old new part WriteFault going none end within ended =
    let lines : List (List ℕ) = lines_after first.line (part ++ going.taken) in
    ⊎_elim
    (λ done. breaks_at_end semantics a b c k l m f g e h i j first old new.handler part (semantics.closing old.handler old.nonempty_lines) (semantics.closing old.handler (first.nonempty_lines + nonempty_lines lines)) going none
    (ap (λ n. semantics.closing old.handler n) going.at.nonempty_lines) (inr (going.at.handles, inl ((end, refl, sym going.at.line ∙ done.0), refl))) within done.1)
    (λ cut. breaks_at_end semantics a b c k l m f g e h i j first old new.handler part (refusal old.lines Cut) (refusal (first.lines + length lines) Cut) going none
    (ap (λ n. refusal n Cut) going.at.lines) (inr (going.at.handles, inr (Cut, (inr (refl, cut_off semantics (span a c f e) (span k l h i) first old (part ++ going.taken) end going.at cut.0), refl)))) within cut.1)
    ended
ends semantics a b c k l m f g e h i j first old new part ReadFault going none end within ended = absurd ended
ends semantics a b c k l m f g e h i j first old new part Lacking going none end within ended = absurd ended
ends semantics a b c k l m f g e h i j first old new part TooLong going none end within ended = absurd ended

kept_none : (b c : Option (List ℕ)) → Keeps b c → Consumes b c []
kept_none None c kept = tt
kept_none (Some x) None kept = absurd kept
kept_none (Some x) (Some y) kept = sym kept

-- a read fails
pub read_fails : {S : Type 0} (semantics : Semantics S) (a b c k l : Option (List ℕ)) (f g e h i : ℕ) (first old : Progress S) (part : List ℕ) → Going semantics (span a b f g) (span k l h i) first old part → Keeps b c → old.bytes ≤ LIMIT → Fails (span b c g e)
    → FollowsInput semantics (span a c f e) (span k l h i) first old.handler part ReadFault
read_fails semantics a b c k l f g e h i first old part going kept within fails = record {
  taken = going.taken;
  written = going.at.passes.written;
  takes = taken_all a b c going.taken going.takes (kept_none b c kept);
  writes = going.at.passes.writes;
  answers = record {
    fails = omega (arith, going.source_later, fails);
    within = omega (arith, going.at.counted);
    short = rw (← going.at.line) going.at.short;
    state = old.handler;
    text = going.at.more;
    handles = going.at.handles;
    all = sym (going.at.passes.whole ∙ ap (λ l. going.at.passes.written ++ l) going.idle ∙ append-nil going.at.passes.written);
  };
}

-- the end of the input, as a piece of no bytes
pub ends_by : {S : Type 0} (semantics : Semantics S) (a b c k l m : Option (List ℕ)) (f g e h i j : ℕ) (first old new : Progress S) (part piece : List ℕ) (outcome : Outcome) → Going semantics (span a b f g) (span k l h i) first old part → Consumes b c piece → length piece ≡ 0 → IsAtEnd c → old.bytes ≤ LIMIT
    → EndsInput semantics (span l m i j) old new outcome → FollowsInput semantics (span a c f e) (span k m h j) first new.handler part outcome
ends_by semantics a b c k l m f g e h i j first old new part [] outcome going none empty end within ended = ends semantics a b c k l m f g e h i j first old new part outcome going none end within ended
ends_by semantics a b c k l m f g e h i j first old new part (x ∷ piece) outcome going none empty end within ended = absurd (omega arith)
