-- What following some bytes and then others does.
use Rattle.std.proofs.Common.{◌≡◌, ◌≤◌, ℕ, List, [], ◌∷◌, ◌++◌, Option, Result, Ok, Err, OnOk, OnErr, arith, refl, ap, sym, subst, ◌∙◌, append-nil, append_assoc, inl, inr, length-append, ⊎_elim}
use Rattle.std.specs.Io.KnownBytes.{Appends}
use Rattle.std.proofs.KnownBytes.{Appends-nil, Appends-trans}
use Rattle.dch_io.specs.Ends.{End, Passes, Breaks, end_of, span}
use Rattle.dch_script.specs.Held.{Held}
use Rattle.dch_script.specs.Lines.{lines_after, rest_after}
use Rattle.dch_script.proofs.Lines.{lines_after-append, rest_after-append}
use Rattle.dch_lines.specs.Semantics.{Semantics}
use Rattle.dch_lines.specs.Processor.{Progress, MeetsFault, Takes, StopsAt, FailsIn}
use Rattle.dch_lines.specs.declared.stop.LineFault.{LineFault}
use Rattle.dch_lines.proofs.Cuts.{front_append, says_append, nonempty_lines-append}

pub passes_on : (a b c : Option (List ℕ)) (f g h : ℕ) (text mid more remaining : List ℕ) → Passes (span a b f g) text mid → Passes (span b c g h) (mid ++ more) remaining → Passes (span a c f h) (text ++ more) remaining
passes_on a b c f g h text mid more remaining first then = record {
  written = first.written ++ then.written;
  writes = Appends-trans a b c _ _ first.writes then.writes;
  whole = ap (λ l. l ++ more) first.whole ∙ append_assoc first.written mid more ∙ ap (λ l. first.written ++ l) then.whole ∙ sym (append_assoc first.written then.written remaining);
}

pub breaks_on : (a b c : Option (List ℕ)) (f g h : ℕ) (text mid more : List ℕ) → f ≤ g → Passes (span a b f g) text mid → Breaks (span b c g h) (mid ++ more) → Breaks (span a c f h) (text ++ more)
breaks_on a b c f g h text mid more later first then = record {
  fails = omega (arith, then.fails);
  written = first.written ++ then.written;
  writes = Appends-trans a b c _ _ first.writes then.writes;
  cut = record {
    rest = then.cut.rest;
    some = then.cut.some;
    whole = ap (λ l. l ++ more) first.whole ∙ append_assoc first.written mid more ∙ ap (λ l. first.written ++ l) then.cut.whole ∙ sym (append_assoc first.written then.written then.cut.rest);
  };
}

-- the lines of two parts, where the first leaves a line begun
pub lines_on : (begun mid xs ys : List ℕ) → mid ≡ rest_after begun xs → lines_after begun (xs ++ ys) ≡ lines_after begun xs ++ lines_after mid ys
lines_on begun mid xs ys remaining = lines_after-append begun xs ys ∙ sym (ap (λ l. lines_after begun xs ++ lines_after l ys) remaining)

pub rest_on : (begun mid xs ys : List ℕ) → mid ≡ rest_after begun xs → rest_after begun (xs ++ ys) ≡ rest_after mid ys
rest_on begun mid xs ys remaining = rest_after-append begun xs ys ∙ sym (ap (λ l. rest_after l ys) remaining)

pub takes_on : {S : Type 0} (semantics : Semantics S) (a b c : Option (List ℕ)) (f g h : ℕ) (old mid new : Progress S) (xs ys : List ℕ) → Takes semantics (span a b f g) old mid xs → Takes semantics (span b c g h) mid new ys → Takes semantics (span a c f h) old new (xs ++ ys)
takes_on semantics a b c f g h old mid new xs ys first then =
    let lines = lines_on old.line mid.line xs ys first.line in
    let here : List (List ℕ) = lines_after old.line xs in
    let there : List (List ℕ) = lines_after mid.line ys in
    record {
      more = first.more ++ then.more;
      handles = rw lines (says_append semantics old.handler mid.handler new.handler here there first.more then.more first.handles then.handles);
      passes = rw (← append_assoc old.text first.more then.more) (passes_on a b c f g h (old.text ++ first.more) mid.text then.more new.text first.passes then.passes);
      line = then.line ∙ sym (rest_on old.line mid.line xs ys first.line);
      short = then.short;
      counted = omega (arith, first.counted, then.counted, length-append xs ys);
      lines = rw lines (omega (arith, first.lines, then.lines, length-append here there));
      nonempty_lines = rw lines (omega (arith, first.nonempty_lines, then.nonempty_lines, nonempty_lines-append here there));
    }

-- what the later bytes meet is what all meet
pub meets_on : {S : Type 0} (semantics : Semantics S) (state : S) (begun mid xs ys : List ℕ) (good : List (List ℕ)) (fault : LineFault) → mid ≡ rest_after begun xs
    → MeetsFault semantics state mid ys good fault → MeetsFault semantics state begun (xs ++ ys) (lines_after begun xs ++ good) fault
meets_on semantics state begun mid xs ys good fault remaining meets =
    let lines = lines_on begun mid xs ys remaining in
    let rest = rest_on begun mid xs ys remaining in
    let here : List (List ℕ) = lines_after begun xs in
    ⊎_elim
    (λ m. inl (record { line = m.line; later = m.later; lines = lines ∙ ap (λ l. here ++ l) m.lines ∙ sym (append_assoc here good (m.line ∷ m.later)); faulty = m.faulty }))
    (λ m. inr (m.0, record { lines = lines ∙ ap (λ l. here ++ l) m.1.lines; long = rw rest m.1.long }))
    meets

pub stops_on : {S : Type 0} (semantics : Semantics S) (a b c : Option (List ℕ)) (f g h : ℕ) (old mid new : Progress S) (xs ys : List ℕ) (fault : LineFault) → Takes semantics (span a b f g) old mid xs → StopsAt semantics (span b c g h) mid new ys fault → StopsAt semantics (span a c f h) old new (xs ++ ys) fault
stops_on semantics a b c f g h old mid new xs ys fault first then =
    let here : List (List ℕ) = lines_after old.line xs in
    record {
      good = here ++ then.good;
      state = then.state;
      meets = meets_on semantics then.state old.line mid.line xs ys then.good fault first.line then.meets;
      more = first.more ++ then.more;
      handles = says_append semantics old.handler mid.handler then.state here then.good first.more then.more first.handles then.handles;
      passes = rw (← append_assoc old.text first.more then.more) (passes_on a b c f g h (old.text ++ first.more) mid.text then.more new.text first.passes then.passes);
      lines = omega (arith, first.lines, then.lines, length-append here then.good);
    }

pub fails_on : {S : Type 0} (semantics : Semantics S) (a b c : Option (List ℕ)) (f g h : ℕ) (old mid : Progress S) (xs ys : List ℕ) → f ≤ g → Takes semantics (span a b f g) old mid xs → FailsIn semantics (span b c g h) mid ys → FailsIn semantics (span a c f h) old (xs ++ ys)
fails_on semantics a b c f g h old mid xs ys later first then =
    let lines = lines_on old.line mid.line xs ys first.line in
    let here : List (List ℕ) = lines_after old.line xs in
    record {
      good = here ++ then.good;
      later = then.later;
      lines = lines ∙ ap (λ l. here ++ l) then.lines ∙ sym (append_assoc here then.good then.later);
      state = then.state;
      more = first.more ++ then.more;
      handles = front_append semantics old.handler mid.handler then.state here then.good first.more then.more first.handles then.handles;
      breaks = rw (← append_assoc old.text first.more then.more) (breaks_on a b c f g h (old.text ++ first.more) mid.text then.more later first.passes then.breaks);
    }

-- some of the bytes are followed, and these are left
pub record Followed {S : Type 0} (semantics : Semantics S) (sink : End) (old new : Progress S) (bytes remaining : List ℕ) : Type 0 where
  pub done : List ℕ
  pub cut : bytes ≡ done ++ remaining
  pub takes : Takes semantics sink old new done

-- the front that was written before, and the rest with a last text
pub appends_on : (a b c : Option (List ℕ)) (f g : ℕ) (text mid last : List ℕ) → Passes (span a b f g) text mid → Appends b c (mid ++ last) → Appends a c (text ++ last)
appends_on a b c f g text mid last first next =
    rw (ap (λ l. l ++ last) first.whole ∙ append_assoc first.written mid last) (Appends-trans a b c first.written (mid ++ last) first.writes next)

pub appends_all : (a b c : Option (List ℕ)) (f g : ℕ) (text mid : List ℕ) → Passes (span a b f g) text mid → Appends b c mid → Appends a c text
appends_all a b c f g text mid first next = subst (Appends a c) (sym first.whole) (Appends-trans a b c first.written mid first.writes next)

pub breaks_all : (a b c : Option (List ℕ)) (f g h : ℕ) (text mid : List ℕ) → f ≤ g → Passes (span a b f g) text mid → Breaks (span b c g h) mid → Breaks (span a c f h) text
breaks_all a b c f g h text mid later first then =
    subst (Breaks (span a c f h)) (append-nil text) (breaks_on a b c f g h text mid [] later first (subst (Breaks (span b c g h)) (sym (append-nil mid)) then))

-- nothing is written where nothing changes
pub passes_same : {K : Type 0} (taken : K → Option (List ℕ)) (faults : K → ℕ) (old new : K) (was is : Held) → new ≡ old → is ≡ was → Passes (end_of taken faults old new) was.text is.text
passes_same {K} taken faults old new was is same held =
    subst (λ (k : K). Passes (end_of taken faults old k) was.text is.text) (sym same) (subst (λ (h : Held). Passes (end_of taken faults old old) was.text h.text) (sym held) (record { written = []; writes = Appends-nil (taken old); whole = refl }))

-- the same where an answer is good, or a failure
pub on_ok : {A E X Y : Type 0} (r : Result A E) → OnOk r X → (X → Y) → OnOk r Y
on_ok (Ok value) x f = f x
on_ok (Err error) x f = tt

pub on_err : {A E X Y : Type 0} (r : Result A E) → OnErr r X → (X → Y) → OnErr r Y
on_err (Ok value) x f = tt
on_err (Err error) x f = f x

-- what waited is written, and then more
pub written_whole : (a b c : Option (List ℕ)) (f g : ℕ) (text more waits : List ℕ) → Appends a b text → Appends b c more → waits ≡ [] → Passes (span a c f g) (text ++ more) waits
written_whole a b c f g text more waits first then none = record {
  written = text ++ more;
  writes = Appends-trans a b c text more first then;
  whole = sym (append-nil (text ++ more)) ∙ ap (λ l. (text ++ more) ++ l) (sym none);
}

pub breaks_more : (sink : End) (text last : List ℕ) → Breaks sink text → Breaks sink (text ++ last)
breaks_more sink text last breaks = record {
  fails = breaks.fails;
  written = breaks.written;
  writes = breaks.writes;
  cut = record {
    rest = breaks.cut.rest ++ last;
    some = omega (arith, breaks.cut.some, length-append breaks.cut.rest last);
    whole = ap (λ l. l ++ last) breaks.cut.whole ∙ append_assoc breaks.written breaks.cut.rest last;
  };
}
