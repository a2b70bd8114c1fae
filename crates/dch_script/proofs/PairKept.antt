-- What the lines of `pair` keep.
use Rattle.std.proofs.Common.{◌≡◌, ◌≤◌, ℕ, List, [], ◌∷◌, Bool, true, false, Result, Ok, Err, refl, sym, ◌∙◌, IfOk, lit≤}
use Rattle.std.specs.Prelude.{codes}
use Rattle.std.specs.Str.{bytes_eq}
use Rattle.dch_types.specs.declared.bearer.Mode.TheVariants.{Am}
use Rattle.dch_script.specs.declared.event.LineError.{LineError}
use Rattle.dch_script.specs.declared.pair.PairLine.{PairLine}
use Rattle.dch_script.specs.Forms.{one, two, four}
use Rattle.dch_script.specs.LineWords.{words_of}
use Rattle.dch_script.specs.Meaning.{content_of}
use Rattle.dch_script.specs.Pair.{ParsedPair, ends, offer, build, arrive, lose, tick, reset, IsOfPair, end_of, event_at, begins_with_ends, is_first_ends, is_opening, lone_end, pair_ends, pair_event, pair_line_words, pair_meaning, pair_of, pair_offer, pair_words, parsed_pair}
use Rattle.dch_script.specs.ParsedLine.{◌>>=◌}
use Rattle.dch_script.specs.Parts.{number_from}
use Rattle.dch_script.specs.Units.{text_of}
use Rattle.dch_script.proofs.Kept.{bind_keeps, from_keeps, if_keeps, ok_keeps, text_keeps}

-- an end that is read is 0 or 1
end_keeps : (word : List ℕ) (end : ℕ) → end_of word ≡ Ok end → end ≤ 1
unfolding end_of
end_keeps word end is =
    if_keeps (bytes_eq word (codes "a")) _ _ end (end ≤ 1) (λ first. ok_keeps 0 end (λ (e : ℕ). e ≤ 1) (lit≤ tt) _ refl first) (λ not_first.
    if_keeps (bytes_eq word (codes "b")) _ _ end (end ≤ 1) (λ second. ok_keeps 1 end (λ (e : ℕ). e ≤ 1) (lit≤ tt) _ refl second) (λ none. absurd (cc)) not_first) is

lone_keeps : (words : List (List ℕ)) (end : ℕ) → lone_end words ≡ Ok end → end ≤ 1
unfolding lone_end
lone_keeps words end is = bind_keeps (one words) _ end (end ≤ 1) (λ word _ last. end_keeps word end last) is

-- `ends`
ends_keeps : (words : List (List ℕ)) (parsed : ParsedPair) → pair_ends words ≡ Ok parsed → IsOfPair parsed
unfolding pair_ends
ends_keeps words parsed is =
    bind_keeps (four words) _ parsed (IsOfPair parsed) (λ w _ rest.
    bind_keeps (number_from 6 126 w.0) _ parsed (IsOfPair parsed) (λ p first more.
    bind_keeps (number_from 6 126 w.1) _ parsed (IsOfPair parsed) (λ q second most.
    bind_keeps (number_from 1 4096 w.2) _ parsed (IsOfPair parsed) (λ buffer blocks end.
    bind_keeps (number_from 1 2048 w.3) _ parsed (IsOfPair parsed) (λ window pdus last.
    let a = from_keeps 6 126 w.0 p first in
    let b = from_keeps 6 126 w.1 q second in
    let c = from_keeps 1 4096 w.2 buffer blocks in
    let d = from_keeps 1 2048 w.3 window pdus in
    ok_keeps (ends p q buffer window) parsed IsOfPair (a.0, a.1, b.0, b.1, c.0, c.1, d.0, d.1) _ refl last) end) most) more) rest) is

-- `offer`
offer_keeps : (words : List (List ℕ)) (parsed : ParsedPair) → pair_offer words ≡ Ok parsed → IsOfPair parsed
unfolding pair_offer
offer_keeps words parsed is =
    bind_keeps (two words) _ parsed (IsOfPair parsed) (λ w _ rest.
    bind_keeps (end_of w.0) _ parsed (IsOfPair parsed) (λ end named more.
    bind_keeps (text_of Am w.1) _ parsed (IsOfPair parsed) (λ hex fits last.
    ok_keeps (offer end hex) parsed IsOfPair (end_keeps w.0 end named, text_keeps Am w.1 hex fits) _ refl last) more) rest) is

-- an event of one end
event_keeps : (event : ℕ → ParsedPair) (end : Result ℕ LineError) (parsed : ParsedPair) → ((e : ℕ) → end ≡ Ok e → IsOfPair (event e)) → event_at event end ≡ Ok parsed → IsOfPair parsed
event_keeps event (Ok end) parsed go is = ok_keeps (event end) parsed IsOfPair (go end refl) _ refl is
event_keeps event (Err error) parsed go is = absurd (cc)

-- every event, and every line
events_keep : (first : List ℕ) (words : List (List ℕ)) (parsed : ParsedPair) → pair_event first words ≡ Ok parsed → IsOfPair parsed
unfolding pair_event
events_keep first words parsed is =
    let P = IsOfPair parsed in
    let end = lone_end words in
    let known = lone_keeps words in
    if_keeps (bytes_eq first (codes "offer")) _ _ parsed P (offer_keeps words parsed) (λ not_offer.
    if_keeps (bytes_eq first (codes "build")) _ _ parsed P (event_keeps build end parsed known) (λ not_build.
    if_keeps (bytes_eq first (codes "arrive")) _ _ parsed P (event_keeps arrive end parsed known) (λ not_arrive.
    if_keeps (bytes_eq first (codes "lose")) _ _ parsed P (event_keeps lose end parsed known) (λ not_lose.
    if_keeps (bytes_eq first (codes "tick")) _ _ parsed P (event_keeps tick end parsed known) (λ not_tick.
    if_keeps (bytes_eq first (codes "reset")) _ _ parsed P (event_keeps reset end parsed known) (λ none. absurd (cc)) not_tick) not_lose) not_arrive) not_build) not_offer) is

words_keep : (first : List ℕ) (words : List (List ℕ)) (parsed : ParsedPair) → pair_words first words ≡ Ok parsed → IsOfPair parsed
unfolding pair_words
words_keep first words parsed is = if_keeps (bytes_eq first (codes "ends")) _ _ parsed (IsOfPair parsed) (ends_keeps words parsed) (events_keep first words parsed) is

line_words_keep : (words : List (List ℕ)) (parsed : ParsedPair) → pair_line_words words ≡ Ok parsed → IsOfPair parsed
line_words_keep [] parsed is = absurd (cc)
line_words_keep (first ∷ words) parsed is = words_keep first words parsed is

meaning_keeps : (line : List ℕ) (parsed : ParsedPair) → pair_meaning line ≡ Ok parsed → IsOfPair parsed
unfolding pair_meaning
meaning_keeps line parsed is =
    bind_keeps (content_of line) (λ text. pair_line_words (words_of text)) parsed (IsOfPair parsed) (λ text _ last. line_words_keep (words_of text) parsed last) is

-- the same of the answer
pub pair_keeps : (line : List ℕ) (answer : Result PairLine LineError) → parsed_pair answer ≡ pair_meaning line → IfOk answer (λ parsed. IsOfPair (pair_of parsed))
pair_keeps line (Ok parsed) says = meaning_keeps line (pair_of parsed) (sym says)
pair_keeps line (Err error) says = tt

-- `ends` opens the ends, and no event does
ends_open : (words : List (List ℕ)) (parsed : ParsedPair) → pair_ends words ≡ Ok parsed → is_opening parsed ≡ true
unfolding pair_ends
ends_open words parsed is =
    let P = is_opening parsed ≡ true in
    bind_keeps (four words) _ parsed P (λ w _ rest.
    bind_keeps (number_from 6 126 w.0) _ parsed P (λ p _ more.
    bind_keeps (number_from 6 126 w.1) _ parsed P (λ q _ most.
    bind_keeps (number_from 1 4096 w.2) _ parsed P (λ buffer _ end.
    bind_keeps (number_from 1 2048 w.3) _ parsed P (λ window _ last. ok_keeps (ends p q buffer window) parsed (λ e. is_opening e ≡ true) refl _ refl last) end) most) more) rest) is

offer_open : (words : List (List ℕ)) (parsed : ParsedPair) → pair_offer words ≡ Ok parsed → is_opening parsed ≡ false
unfolding pair_offer
offer_open words parsed is =
    let P = is_opening parsed ≡ false in
    bind_keeps (two words) _ parsed P (λ w _ rest.
    bind_keeps (end_of w.0) _ parsed P (λ end _ more.
    bind_keeps (text_of Am w.1) _ parsed P (λ hex _ last. ok_keeps (offer end hex) parsed (λ e. is_opening e ≡ false) refl _ refl last) more) rest) is

event_open : (event : ℕ → ParsedPair) (end : Result ℕ LineError) (parsed : ParsedPair) → ((e : ℕ) → is_opening (event e) ≡ false) → event_at event end ≡ Ok parsed → is_opening parsed ≡ false
event_open event (Ok end) parsed none is = ok_keeps (event end) parsed (λ e. is_opening e ≡ false) (none end) _ refl is
event_open event (Err error) parsed none is = absurd (cc)

events_open : (first : List ℕ) (words : List (List ℕ)) (parsed : ParsedPair) → pair_event first words ≡ Ok parsed → is_opening parsed ≡ false
unfolding pair_event
events_open first words parsed is =
    let P = is_opening parsed ≡ false in
    let end = lone_end words in
    if_keeps (bytes_eq first (codes "offer")) _ _ parsed P (offer_open words parsed) (λ not_offer.
    if_keeps (bytes_eq first (codes "build")) _ _ parsed P (event_open build end parsed (λ e. refl)) (λ not_build.
    if_keeps (bytes_eq first (codes "arrive")) _ _ parsed P (event_open arrive end parsed (λ e. refl)) (λ not_arrive.
    if_keeps (bytes_eq first (codes "lose")) _ _ parsed P (event_open lose end parsed (λ e. refl)) (λ not_lose.
    if_keeps (bytes_eq first (codes "tick")) _ _ parsed P (event_open tick end parsed (λ e. refl)) (λ not_tick.
    if_keeps (bytes_eq first (codes "reset")) _ _ parsed P (event_open reset end parsed (λ e. refl)) (λ none. absurd (cc)) not_tick) not_lose) not_arrive) not_build) not_offer) is

-- a line opens the ends where its first word is `ends`
first_open : (first : List ℕ) (words : List (List ℕ)) (parsed : ParsedPair) (begins : Bool) → bytes_eq first (codes "ends") ≡ begins → pair_words first words ≡ Ok parsed → is_opening parsed ≡ begins
unfolding pair_words
first_open first words parsed true same is = ends_open words parsed (rw same at is)
first_open first words parsed false same is = events_open first words parsed (rw same at is)

words_open : (words : List (List ℕ)) (parsed : ParsedPair) → pair_line_words words ≡ Ok parsed → is_opening parsed ≡ is_first_ends words
words_open [] parsed is = absurd (cc)
words_open (first ∷ words) parsed is = first_open first words parsed _ refl is

content_opens : (content : Result (List ℕ) LineError) (begins : Bool) (parsed : ParsedPair) → (content >>= (λ text. Ok (is_first_ends (words_of text)))) ≡ Ok begins → (content >>= (λ text. pair_line_words (words_of text))) ≡ Ok parsed → is_opening parsed ≡ begins
content_opens (Ok text) begins parsed first says = let same : is_first_ends (words_of text) ≡ begins = cc in words_open (words_of text) parsed says ∙ same
content_opens (Err error) begins parsed first says = absurd (cc)

pub line_opens : (line : List ℕ) (begins : Bool) (parsed : ParsedPair) → begins_with_ends line ≡ Ok begins → pair_meaning line ≡ Ok parsed → is_opening parsed ≡ begins
unfolding begins_with_ends pair_meaning
line_opens line begins parsed first says = content_opens (content_of line) begins parsed first says
