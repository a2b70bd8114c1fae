-- How the configuration at the front of an input is taken, piece by piece.
use Rattle.std.proofs.Common.{◌≡◌, ◌≤◌, ◌+◌, ◌-◌, ◌==◌, ℕ, suc, List, [], ◌∷◌, ◌++◌, Option, Bool, true, false, length, take, drop, arith, refl, ap, sym, ◌∙◌, subst, length-drop, append-nil, inl, inr, length-append, if◌then◌else◌}
use Rattle.std.specs.Prelude.{Err, cond, count_by, slice_range}
use Rattle.std.specs.Io.KnownBytes.{Consumes}
use Rattle.std.proofs.KnownBytes.{Consumes-trans, Consumes-nil, Consumes-kept}
use Rattle.std.proofs.lemmas.Bool.{false≢true, ne_eqb}
use Rattle.std.proofs.lemmas.List.{drop-take, length-take-le, nil_from_length, take-append-le, take_all}
use Rattle.std.proofs.lemmas.List.Recursion.{is_count_by}
use Rattle.dch_io.specs.Ends.{End, span}
use Rattle.dch_io.specs.Pieces.{IsPiece, LIMIT, ReadsOn}
use Rattle.dch_io.specs.declared.feed.ReadStop.TheVariants.{Failed, TooLong}
use Rattle.dch_script.specs.Lines.{lines_after, rest_after, lines_of}
use Rattle.dch_check.specs.ConfigSection.{Gathered, behind, behind_separator, configuration_of, gathered, has_separator, is_complete, is_separator, nothing, script_of, section_of, settled}
use Rattle.dch_check.specs.TakenConfigs.{FailsInConfig, IsTakenConfig, IsConfigTooLong, LacksInConfig}
use Rattle.dch_check.proofs.ConfigSections.{gathered_nil, gathered_on, section_of-append, settled_all}

-- no line `---` has come yet
pub record Gathering (source : End) (section : Gathered) (count : ℕ) : Type 0 where
  pub taken : List ℕ
  pub takes : Consumes source.before source.now taken
  pub counted : count ≡ length taken
  pub within : count ≤ LIMIT
  pub gathers : section ≡ gathered nothing taken
  pub going : is_complete taken ≡ false
  pub later : source.faults_before ≤ source.faults_now

pub gathers_first : (a : Option (List ℕ)) (f : ℕ) (section : Gathered) → section ≡ nothing → Gathering (span a a f f) section 0
gathers_first a f section empty = record { taken = []; takes = Consumes-nil a; counted = refl; within = omega arith; gathers = empty; going = refl; later = omega arith }

-- what has come with the next piece
gathers_next : (section next : Gathered) (taken piece : List ℕ) → section ≡ gathered nothing taken → next ≡ gathered section piece → next ≡ gathered nothing (taken ++ piece)
gathers_next section next taken piece first then_is = then_is ∙ ap (λ (s : Gathered). gathered s piece) first ∙ gathered_on nothing taken piece

pub gathers_piece : (a b c : Option (List ℕ)) (f g h count : ℕ) (section next : Gathered) (piece : List ℕ) → g ≤ h → Gathering (span a b f g) section count → IsPiece (span b c g h) count piece
    → next ≡ gathered section piece → next.complete ≡ false → Gathering (span a c f h) next (count + length piece)
gathers_piece a b c f g h count section next piece later gathering is_piece is_next going =
    let whole = gathers_next section next gathering.taken piece gathering.gathers is_next in
    record {
      taken = gathering.taken ++ piece;
      takes = Consumes-trans a b c gathering.taken piece gathering.takes is_piece.takes;
      counted = omega (arith, gathering.counted, length-append gathering.taken piece);
      within = is_piece.within;
      gathers = whole;
      going = sym (ap (λ (s : Gathered). s.complete) whole) ∙ going;
      later = omega (arith, gathering.later);
    }

-- a fault while no line `---` has come
pub fails_in_config : (a b c : Option (List ℕ)) (f g h count : ℕ) (section : Gathered) (room : List ℕ) → Gathering (span a b f g) section count → ReadsOn (span b c g h) count room (Err Failed) → FailsInConfig (span a c f h)
fails_in_config a b c f g h count section room gathering reads = record {
  taken = gathering.taken;
  takes = Consumes-kept a b c gathering.taken gathering.takes reads.1;
  within = omega (arith, gathering.counted, gathering.within);
  soon = gathering.going;
  fails = omega (arith, gathering.later, reads.0);
}

pub too_long_config : (a b c : Option (List ℕ)) (f g h count : ℕ) (section : Gathered) (room : List ℕ) → Gathering (span a b f g) section count → ReadsOn (span b c g h) count room (Err TooLong) → IsConfigTooLong (span a c f h)
too_long_config a b c f g h count section room gathering reads =
    let full : LIMIT ≡ length gathering.taken = omega (arith, gathering.counted, reads.full) in
    let front_is : take LIMIT (gathering.taken ++ reads.piece) ≡ gathering.taken = take-append-le LIMIT gathering.taken reads.piece (omega arith) ∙ take_all LIMIT gathering.taken (omega arith) in
    record {
      taken = gathering.taken ++ reads.piece;
      takes = Consumes-trans a b c gathering.taken reads.piece gathering.takes reads.takes;
      long = omega (arith, reads.one, length-append gathering.taken reads.piece);
      soon = rw front_is gathering.going;
    }

-- want of memory, after some bytes
pub lacks_in_config : (a b c : Option (List ℕ)) (f g h count : ℕ) (section : Gathered) (piece : List ℕ) → Gathering (span a b f g) section count → IsPiece (span b c g h) count piece → LacksInConfig (span a c f h)
lacks_in_config a b c f g h count section piece gathering next = record {
  taken = gathering.taken ++ piece;
  takes = Consumes-trans a b c gathering.taken piece gathering.takes next.takes;
  lacks = record {
    within = omega (arith, gathering.counted, next.within, length-append gathering.taken piece);
    soon = record { old = gathering.taken; piece = piece; pieces = refl; small = next.small; incomplete = gathering.going };
  };
}

-- what follows the line `---`, where that line doesn't end in the first bytes
behind_on : (begun a b : List ℕ) → has_separator (lines_after begun a) ≡ false → behind_separator begun (a ++ b) ≡ behind_separator (rest_after begun a) b
behind_on begun [] b none = refl
behind_on begun (c ∷ a) b none = by (c == 10) refl (behind_on [] a b) (behind_on (begun ++ c ∷ []) a b)
  where
    On : List ℕ → Type 0
    On line = has_separator (lines_after line a) ≡ false → behind_separator line (a ++ b) ≡ behind_separator (rest_after line a) b

    by : (feed : Bool) → (c == 10) ≡ feed → On [] → On (begun ++ c ∷ []) → behind_separator begun (c ∷ (a ++ b)) ≡ behind_separator (rest_after begun (c ∷ a)) b
    by true is next more = by_line (is_separator (begun ++ c ∷ [])) refl next
      where
        by_line : (mark : Bool) → is_separator (begun ++ c ∷ []) ≡ mark → On [] → behind_separator begun (c ∷ (a ++ b)) ≡ behind_separator (rest_after begun (c ∷ a)) b
        by_line true here rest = absurd (false≢true (sym none ∙ rw (is, here) refl))
        by_line false here rest = rw (is, here) (rest (rw (is, here) at none))
    by false is next more = rw is (more (rw is at none))

-- no line `---` ends in the bytes, and nothing follows it
pub script_none : (bytes : List ℕ) → is_complete bytes ≡ false → script_of bytes ≡ []
script_none bytes soon = ap (behind_separator []) (sym (append-nil bytes)) ∙ behind_on [] bytes [] soon

-- what follows that line goes on with what follows
behind_goes_on : (begun a b : List ℕ) → has_separator (lines_after begun a) ≡ true → behind_separator begun (a ++ b) ≡ behind_separator begun a ++ b
behind_goes_on begun [] b done = absurd (false≢true done)
behind_goes_on begun (c ∷ a) b done = by (c == 10) refl (behind_goes_on [] a b) (behind_goes_on (begun ++ c ∷ []) a b)
  where
    On : List ℕ → Type 0
    On line = has_separator (lines_after line a) ≡ true → behind_separator line (a ++ b) ≡ behind_separator line a ++ b

    by : (feed : Bool) → (c == 10) ≡ feed → On [] → On (begun ++ c ∷ []) → behind_separator begun (c ∷ (a ++ b)) ≡ behind_separator begun (c ∷ a) ++ b
    by false is next more = rw is (more (rw is at done))
    by true is next more = by_line (is_separator (begun ++ c ∷ [])) refl next
      where
        by_line : (mark : Bool) → is_separator (begun ++ c ∷ []) ≡ mark → On [] → behind_separator begun (c ∷ (a ++ b)) ≡ behind_separator begun (c ∷ a) ++ b
        by_line true here rest = rw (is, here) refl
        by_line false here rest = rw (is, here) (rest (rw (is, here) at done))

pub script_more : (a b : List ℕ) → is_complete a ≡ true → script_of (a ++ b) ≡ script_of a ++ b
script_more a b done = behind_goes_on [] a b done

-- what has come, by its parts
abbrev came : List ℕ → List ℕ → Bool → Gathered
came text line complete = record { text = text; line = line; complete = complete }

behind_more : (section : Gathered) (taken piece : List ℕ) → section ≡ gathered nothing taken → is_complete taken ≡ false → behind section piece ≡ script_of (taken ++ piece)
behind_more section taken piece is going =
    let none : section ≡ record { text = section_of (lines_of taken); line = rest_after [] taken; complete = false } = is ∙ same (section_of (lines_of taken)) (rest_after [] taken) (has_separator (lines_of taken)) going in
    ap (λ (s : Gathered). behind s piece) none ∙ sym (behind_on [] taken piece going)
  where
    same : (text rest : List ℕ) (mark : Bool) → mark ≡ false → came text (if mark then [] else rest) mark ≡ came text rest false
    same text rest true none = absurd (false≢true (sym none))
    same text rest false none = refl

-- no bytes change nothing
same_with_none : (section next : Gathered) (piece : List ℕ) → length piece ≡ 0 → next ≡ gathered section piece → next ≡ section
same_with_none section next piece none is = is ∙ ap (gathered section) (nil_from_length piece none) ∙ gathered_nil section

-- the bytes behind, as places of the room
placed : (room : List ℕ) (from read : ℕ) → from ≤ read → slice_range room from read ≡ drop from (take read room)
placed room from read ordered =
    let split : from + (read - from) ≡ read = omega (arith, ordered) in
    sym (ap (λ n. drop from (take n room)) (sym split) ∙ drop-take from (read - from) room)

-- whole lines are no more than bytes
lines_few : (begun bytes : List ℕ) → length (lines_after begun bytes) ≤ length bytes
lines_few begun [] = omega arith
lines_few begun (c ∷ bytes) = by (c == 10) refl (lines_few [] bytes) (lines_few (begun ++ c ∷ []) bytes)
  where
    by : (feed : Bool) → (c == 10) ≡ feed → length (lines_after [] bytes) ≤ length bytes → length (lines_after (begun ++ c ∷ []) bytes) ≤ length bytes → length (lines_after begun (c ∷ bytes)) ≤ length (c ∷ bytes)
    by true is next more = rw is (omega (arith, next))
    by false is next more = rw is (omega (arith, more))

-- the configuration is shorter than the bytes up to the line `---`
abbrev IsBefore : List ℕ → List ℕ → Type 0
IsBefore begun bytes = has_separator (lines_after begun bytes) ≡ true → length (section_of (lines_after begun bytes)) + 1 + length (behind_separator begun bytes) ≤ length begun + length bytes

section_before : (begun bytes : List ℕ) → IsBefore begun bytes
section_before begun [] done = absurd (false≢true done)
section_before begun (c ∷ bytes) done = by (c == 10) refl (section_before [] bytes) (section_before (begun ++ c ∷ []) bytes)
  where
    by : (feed : Bool) → (c == 10) ≡ feed → IsBefore [] bytes → IsBefore (begun ++ c ∷ []) bytes → length (section_of (lines_after begun (c ∷ bytes))) + 1 + length (behind_separator begun (c ∷ bytes)) ≤ length begun + length (c ∷ bytes)
    by false is next more = rw is (omega (arith, more (rw is at done), length-append begun (c ∷ [])))
    by true is next more = by_line (is_separator (begun ++ c ∷ [])) refl next
      where
        by_line : (mark : Bool) → is_separator (begun ++ c ∷ []) ≡ mark → IsBefore [] bytes → length (section_of (lines_after begun (c ∷ bytes))) + 1 + length (behind_separator begun (c ∷ bytes)) ≤ length begun + length (c ∷ bytes)
        by_line true here rest = rw (is, here) (omega arith)
        by_line false here rest = rw (is, here) (omega (arith, rest (rw (is, here) at done), length-append (begun ++ c ∷ []) (section_of (lines_after [] bytes)), length-append begun (c ∷ [])))

-- it is no longer than the bytes in any case
abbrev IsWithin : List ℕ → List ℕ → Type 0
IsWithin begun bytes = length (section_of (lines_after begun bytes ++ rest_after begun bytes ∷ [])) ≤ length begun + length bytes

section_within : (begun bytes : List ℕ) → IsWithin begun bytes
section_within begun [] = by (is_separator begun) refl
  where
    by : (mark : Bool) → is_separator begun ≡ mark → IsWithin begun []
    by true is = rw is (omega arith)
    by false is = rw is (omega (arith, length-append begun []))
section_within begun (c ∷ bytes) = by (c == 10) refl (section_within [] bytes) (section_within (begun ++ c ∷ []) bytes)
  where
    by : (feed : Bool) → (c == 10) ≡ feed → IsWithin [] bytes → IsWithin (begun ++ c ∷ []) bytes → IsWithin begun (c ∷ bytes)
    by false is next more = rw is (omega (arith, more, length-append begun (c ∷ [])))
    by true is next more = by_line (is_separator (begun ++ c ∷ [])) refl next
      where
        by_line : (mark : Bool) → is_separator (begun ++ c ∷ []) ≡ mark → IsWithin [] bytes → IsWithin begun (c ∷ bytes)
        by_line true here rest = rw (is, here) (omega arith)
        by_line false here rest = rw (is, here) (omega (arith, rest, length-append (begun ++ c ∷ []) (section_of (lines_after [] bytes ++ rest_after [] bytes ∷ [])), length-append begun (c ∷ [])))

-- up to the line `---` the bytes that are pending don't matter for the configuration
configuration_done : (bytes : List ℕ) → is_complete bytes ≡ true → configuration_of bytes ≡ section_of (lines_of bytes)
configuration_done bytes done = section_of-append (lines_of bytes) (rest_after [] bytes ∷ []) ∙ rw done (append-nil (section_of (lines_of bytes)))

-- the configuration is whole with the piece
pub config_completed : (a b c : Option (List ℕ)) (f g h count read from : ℕ) (section next : Gathered) (room : List ℕ) → g ≤ h → Gathering (span a b f g) section count → IsPiece (span b c g h) count (take read room) → read ≤ length room
    → next ≡ gathered section (take read room) → from ≤ read → drop from (take read room) ≡ behind section (take read room) → next.complete ≡ true
    → IsTakenConfig (span a c f h) room (record { section = next; read = count + read; pending = record { from = from; to = read; at_end = read == 0 } })
config_completed a b c f g h count read from section next room later gathering is_piece inside is_next ordered behind_is done =
    let piece : List ℕ = take read room in
    let long : length piece ≡ read = length-take-le read room inside in
    let whole = gathers_next section next gathering.taken piece gathering.gathers is_next in
    let all : List ℕ = gathering.taken ++ piece in
    let text : settled next ≡ configuration_of all = ap settled whole ∙ settled_all all in
    let marked : is_complete all ≡ true = sym (ap (λ (s : Gathered). s.complete) whole) ∙ done in
    let left : drop from piece ≡ script_of all = behind_is ∙ behind_more section gathering.taken piece gathering.gathers gathering.going in
    let pending : length (script_of all) ≡ read - from = sym (ap length left) ∙ length-drop from piece ∙ ap (λ n. n - from) long in
    let few : length (lines_of (settled next)) + 1 + (read - from) ≤ count + read =
    omega (arith, ap (λ t. length (lines_of t)) text, lines_few [] (configuration_of all), ap length (configuration_done all marked), section_before [] all marked, pending, gathering.counted, long, length-append gathering.taken piece) in
    let some : read ≡ 0 → ⊥ = λ none. false≢true (sym gathering.going ∙ sym (ap (λ (s : Gathered). s.complete) gathering.gathers) ∙ sym (ap (λ (s : Gathered). s.complete) (same_with_none section next piece (long ∙ none) is_next)) ∙ done) in
    record {
      taken = gathering.taken ++ piece;
      takes = Consumes-trans a b c gathering.taken piece gathering.takes is_piece.takes;
      within = omega (arith, gathering.counted, is_piece.within, length-append gathering.taken piece);
      counted = omega (arith, gathering.counted, long, length-append gathering.taken piece);
      text = text;
      whole = inl (record {
        done = marked;
        going = ne_eqb read 0 some;
        behind = placed room from read ordered ∙ left;
      });
      sized = rw text (omega (arith, section_within [] all));
      few = rw (ne_eqb read 0 some) few;
      ordered = ordered;
      inside = inside;
      soon = record { old = gathering.taken; piece = piece; pieces = refl; small = is_piece.small; incomplete = gathering.going };
      later = omega (arith, gathering.later, later);
    }

-- the input ended
pub config_ended : (a b c : Option (List ℕ)) (f g h count read from : ℕ) (section next : Gathered) (room : List ℕ) → g ≤ h → Gathering (span a b f g) section count → IsPiece (span b c g h) count (take read room) → read ≤ length room
    → next ≡ gathered section (take read room) → from ≤ read → read ≡ 0
    → IsTakenConfig (span a c f h) room (record { section = next; read = count + read; pending = record { from = from; to = read; at_end = read == 0 } })
config_ended a b c f g h count read from section next room later gathering is_piece inside is_next ordered none =
    let piece : List ℕ = take read room in
    let empty : piece ≡ [] = ap (λ n. take n room) none in
    let same : next ≡ section = same_with_none section next piece (ap length empty) is_next in
    let text : settled next ≡ configuration_of gathering.taken = ap settled (same ∙ gathering.gathers) ∙ settled_all gathering.taken in
    record {
      taken = gathering.taken;
      takes = subst (Consumes a c) (ap (λ l. gathering.taken ++ l) empty ∙ append-nil gathering.taken) (Consumes-trans a b c gathering.taken piece gathering.takes is_piece.takes);
      within = omega (arith, gathering.counted, gathering.within);
      counted = omega (arith, gathering.counted, none);
      text = text;
      whole = inr (record { soon = gathering.going; ended = rw none refl; none = omega (arith, ordered, none); end = is_piece.end (ap length empty) });
      sized = rw text (omega (arith, section_within [] gathering.taken));
      few = rw (none, text) (omega (arith, lines_few [] (configuration_of gathering.taken), section_within [] gathering.taken, gathering.counted));
      ordered = ordered;
      inside = inside;
      soon = record { old = gathering.taken; piece = []; pieces = sym (append-nil gathering.taken); small = omega arith; incomplete = gathering.going };
      later = omega (arith, gathering.later, later);
    }

-- the line feeds of a text are as many as its whole lines
abbrev pub is_feed : ℕ → Bool
is_feed c = c == 10

abbrev feeds : List ℕ → ℕ
feeds [] = 0
feeds (c ∷ bytes) = cond (is_feed c) (1 + feeds bytes) (feeds bytes)

feeds_are_lines : (begun bytes : List ℕ) → feeds bytes ≡ length (lines_after begun bytes)
feeds_are_lines begun [] = refl
feeds_are_lines begun (c ∷ bytes) = by (c == 10) refl (feeds_are_lines [] bytes) (feeds_are_lines (begun ++ c ∷ []) bytes)
  where
    by : (feed : Bool) → (c == 10) ≡ feed → feeds bytes ≡ length (lines_after [] bytes) → feeds bytes ≡ length (lines_after (begun ++ c ∷ []) bytes) → feeds (c ∷ bytes) ≡ length (lines_after begun (c ∷ bytes))
    by true is next more = rw is (omega (arith, next))
    by false is next more = rw is more

pub lines_by_feeds : (bytes : List ℕ) → count_by is_feed bytes ≡ length (lines_of bytes)
lines_by_feeds bytes = sym (is_count_by feeds is_feed refl (λ x xs. refl) bytes) ∙ feeds_are_lines [] bytes

-- a list that stands at the end of the bytes
abbrev pub EndsIn : List ℕ → List ℕ → Type 0
EndsIn bytes left = (length left ≤ length bytes) × (drop (length bytes - length left) bytes ≡ left)

ends_whole : (bytes : List ℕ) → EndsIn bytes bytes
ends_whole bytes = let none : length bytes - length bytes ≡ 0 = omega arith in (omega arith, ap (λ n. drop n bytes) none)

ends_later : (c : ℕ) (bytes left : List ℕ) → EndsIn bytes left → EndsIn (c ∷ bytes) left
ends_later c bytes left ends =
    let one : length (c ∷ bytes) - length left ≡ suc (length bytes - length left) = omega (arith, ends.0) in
    (omega (arith, ends.0), ap (λ n. drop n (c ∷ bytes)) one ∙ ends.1)

-- what follows the line `---` stands at the end of the bytes
behind_ends : (begun bytes : List ℕ) → EndsIn bytes (behind_separator begun bytes)
behind_ends begun [] = ends_whole []
behind_ends begun (c ∷ bytes) = by (c == 10) refl (behind_ends [] bytes) (behind_ends (begun ++ c ∷ []) bytes)
  where
    by : (feed : Bool) → (c == 10) ≡ feed → EndsIn bytes (behind_separator [] bytes) → EndsIn bytes (behind_separator (begun ++ c ∷ []) bytes) → EndsIn (c ∷ bytes) (behind_separator begun (c ∷ bytes))
    by false is next more = rw is (ends_later c bytes (behind_separator (begun ++ c ∷ []) bytes) more)
    by true is next more = by_line (is_separator (begun ++ c ∷ [])) refl next
      where
        by_line : (mark : Bool) → is_separator (begun ++ c ∷ []) ≡ mark → EndsIn bytes (behind_separator [] bytes) → EndsIn (c ∷ bytes) (behind_separator begun (c ∷ bytes))
        by_line true here rest = rw (is, here) (ends_later c bytes bytes (ends_whole bytes))
        by_line false here rest = rw (is, here) (ends_later c bytes (behind_separator [] bytes) rest)

pub behind_at_end : (old : Gathered) (bytes : List ℕ) → EndsIn bytes (behind old bytes)
behind_at_end old bytes = by old.complete refl
  where
    by : (done : Bool) → old.complete ≡ done → EndsIn bytes (behind old bytes)
    by true is = rw is (ends_whole bytes)
    by false is = rw is (behind_ends old.line bytes)
