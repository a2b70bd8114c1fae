-- The state after a line, for which a handler stands that did what the line says.
use Rattle.std.proofs.Common.{◌≡◌, ◌≢◌, ◌<◌, ℕ, List, Option, Some, None, IfOk, IfSome, length, replicate, refl, ap, sym, subst, ◌∙◌, inl, inr, ⊎_elim}
use Rattle.std.specs.Prelude.{Result, Ok, Err}
use Rattle.std.proofs.lemmas.Bool.{cases_eq}
use Rattle.std.proofs.lemmas.Bool.Decides.{eqb_tells}
use Rattle.std.proofs.lemmas.List.{get_or-replicate}
use Rattle.dch_bits.specs.declared.bit.Bit.{Bit}
use Rattle.dch_types.specs.declared.channel.Dir.{Dir}
use Rattle.dch_types.specs.declared.channel.Dir.TheVariants.{Up, Down}
use Rattle.dch_types.specs.Parts.{channel_at, format_at, side_of}
use Rattle.dch_coding.specs.Ttis.{AreJoined}
use Rattle.dch_accept.specs.Plans.{Planned}
use Rattle.dch_script.specs.declared.event.LineError.{LineError}
use Rattle.dch_script.specs.Stages.{IsOfStages, ParsedStage, ask, frame, load, stage_meaning}
use Rattle.dch_lines.specs.Texts.{bits_of}
use Rattle.dch_tti.specs.Loaded.{Loaded, loaded_at}
use Rattle.dch_stages.specs.Answers.{amount_of}
use Rattle.dch_stages.specs.Rules.{AreOf, Asks, Given, Handles, IsOutside, IsUntimely, LoadsTti, Refuses, SendsFrame, State, answer_text, cfn_in, format_given, given_in, gives, goes_on, next_cfn, opened, put, radio_frame}
use Rattle.dch_stages.specs.Shows.{IsLoaded}
use Rattle.dch_script.specs.declared.stages.Question.{Question}
use Rattle.dch_stages.specs.Showing.{Done, HasAsked, HasLoaded, HasSent, IsBegun, IsEarly, IsRefused, Obeys, loads_cfn}
use Rattle.dch_stages.specs.Handlers.{AreKept, IsShowing, Represents, asks, format_in, formats_in, tti_in}
use Rattle.dch_stages.specs.declared.handler.StagesHandler.{StagesHandler}
use Rattle.dch_stages.specs.declared.showing.Showing.{Showing}

-- what is given of a channel, and of another one
put_here : (i : ℕ) (new : Given) (given : ℕ → Option Given) → put i new given i ≡ Some new
put_here i new given = elim (eqb_tells i i) [
  | inl same ↦ rw same.0 refl
  | inr other ↦ absurd (other.1 refl)
]

put_there : (i j : ℕ) (new : Given) (given : ℕ → Option Given) → j ≢ i → put i new given j ≡ given j
put_there i j new given apart = elim (eqb_tells j i) [
  | inl same ↦ absurd (apart same.1)
  | inr other ↦ rw other.0 refl
]

-- nothing is loaded, as nothing was given
kept_none : (planned : Planned) (dir : Dir) (formats : List (Option ℕ)) (tti : List Loaded) → formats ≡ replicate (length (side_of planned.config dir).channels) None → AreKept planned dir (λ i. None) formats tti
kept_none planned dir formats tti none = record {
  formats = λ i inside. sym (ap (λ xs. format_in xs i) none ∙ get_or-replicate (length (side_of planned.config dir).channels) i None None inside);
  loaded = λ i inside. tt;
}

pub begun_stands : (accepted : Planned) (h : StagesHandler) → IsBegun accepted h.showing → Represents (opened accepted) h
begun_stands accepted h is = record {
  planned = sym is.accepted_is;
  up = subst (λ (p : Planned). AreKept p Up (λ i. None) h.showing.up.loads.formats.items h.showing.up.tti) (sym is.accepted_is) (kept_none accepted Up h.showing.up.loads.formats.items h.showing.up.tti is.up);
  down = subst (λ (p : Planned). AreKept p Down (λ i. None) h.showing.down.loads.formats.items h.showing.down.tti) (sym is.accepted_is) (kept_none accepted Down h.showing.down.loads.formats.items h.showing.down.tti is.down);
  up_cfn = sym is.up_cfn;
  down_cfn = sym is.down_cfn;
}

-- what is kept of a direction where the TTI of a channel is loaded
kept_put : (planned : Planned) (dir : Dir) (given : ℕ → Option Given) (formats later : List (Option ℕ)) (before after : List Loaded) (i f : ℕ) (bits : List Bit) → AreKept planned dir given formats before → format_in later i ≡ Some f → ((j : ℕ) → j ≢ i → format_in later j ≡ format_in formats j)
    → IsLoaded planned dir i f bits (loaded_at after i) → ((j : ℕ) → j ≢ i → loaded_at after j ≡ loaded_at before j) → AreKept planned dir (put i (record { format = f; bits = bits }) given) later after
kept_put planned dir given formats later before after i f bits kept here there is others =
    let new : Given = record { format = f; bits = bits } in
    record {
      formats = λ j inside. elim (cases_eq j i) [
        | inl same ↦ subst (λ k. format_given (put i new given k) ≡ format_in later k) (sym same) (ap format_given (put_here i new given) ∙ sym here)
        | inr apart ↦ ap format_given (put_there i j new given apart) ∙ kept.formats j inside ∙ sym (there j apart)
      ];
      loaded = λ j inside. elim (cases_eq j i) [
        | inl same ↦ subst (λ k. IfSome (put i new given k) (λ g. IsLoaded planned dir k g.format g.bits (loaded_at after k))) (sym same)
            (subst (λ o. IfSome o (λ g. IsLoaded planned dir i g.format g.bits (loaded_at after i))) (sym (put_here i new given)) is)
        | inr apart ↦ subst (λ o. IfSome o (λ g. IsLoaded planned dir j g.format g.bits (loaded_at after j))) (sym (put_there i j new given apart))
            (subst (λ (l : Loaded). IfSome (given j) (λ g. IsLoaded planned dir j g.format g.bits l)) (sym (others j apart)) (kept.loaded j inside))
      ];
    }

-- what is kept stays where what is loaded stays
kept_same : (one other : Planned) (dir : Dir) (given : ℕ → Option Given) (formats later : List (Option ℕ)) (before after : List Loaded) → other ≡ one → later ≡ formats → after ≡ before → AreKept one dir given formats before → AreKept other dir given later after
kept_same one other dir given formats later before after same formats_same tti_same kept = rw (same, formats_same, tti_same) kept

-- the state in which a TTI is loaded
abbrev loaded_state : State → Dir → ℕ → ℕ → List Bit → State
loaded_state state dir i f bits = gives dir i (record { format = f; bits = bits }) state

load_stands : (dir : Dir) (i f : ℕ) (bits : List Bit) (state : State) (old new : StagesHandler) → Represents state old → HasLoaded dir i f bits old.showing new.showing → Represents (loaded_state state dir i f bits) new
load_stands Up i f bits state old new is has = record {
  planned = is.planned ∙ sym has.accepted;
  up = subst (λ (p : Planned). AreKept p Up (put i (record { format = f; bits = bits }) state.up) new.showing.up.loads.formats.items new.showing.up.tti) (sym has.accepted)
      (kept_put old.showing.accepted Up state.up old.showing.up.loads.formats.items new.showing.up.loads.formats.items old.showing.up.tti new.showing.up.tti i f bits is.up has.format has.formats has.is has.others);
  down = rw (has.accepted, has.down refl) is.down;
  up_cfn = is.up_cfn ∙ sym has.up_cfn;
  down_cfn = is.down_cfn ∙ sym has.down_cfn;
}
load_stands Down i f bits state old new is has = record {
  planned = is.planned ∙ sym has.accepted;
  up = rw (has.accepted, has.up refl) is.up;
  down = subst (λ (p : Planned). AreKept p Down (put i (record { format = f; bits = bits }) state.down) new.showing.down.loads.formats.items new.showing.down.tti) (sym has.accepted)
      (kept_put old.showing.accepted Down state.down old.showing.down.loads.formats.items new.showing.down.loads.formats.items old.showing.down.tti new.showing.down.tti i f bits is.down has.format has.formats has.is has.others);
  up_cfn = is.up_cfn ∙ sym has.up_cfn;
  down_cfn = is.down_cfn ∙ sym has.down_cfn;
}

load_does : (dir : Dir) (i f : ℕ) (bits : List Bit) (state : State) (old new : StagesHandler) → Represents state old → HasLoaded dir i f bits old.showing new.showing → LoadsTti dir i f bits state (loaded_state state dir i f bits) (asks new.showing new.showing.asked)
load_does dir i f bits state old new is has = record {
  joined = new.showing.stages.joined;
  are = subst (λ (p : Planned). AreJoined (channel_at (side_of p.config dir) i) (format_at (channel_at (side_of p.config dir) i) f) bits new.showing.stages.joined) (sym is.planned) has.joined;
  loaded = loaded_at (tti_in new.showing dir) i;
  is = subst (λ (p : Planned). IsLoaded p dir i f bits (loaded_at (tti_in new.showing dir) i)) (sym is.planned) has.is;
  same = refl;
  asks = ap (asks new.showing) has.asked;
}

-- the state in which a radio frame was sent
send_stands : (dir : Dir) (c : ℕ) (state : State) (old new : StagesHandler) → Represents state old → HasSent dir c old.showing new.showing → Represents (goes_on dir state) new
send_stands Up c state old new is has = record {
  planned = is.planned ∙ sym has.accepted;
  up = rw (has.accepted, has.up, has.up_formats) is.up;
  down = rw (has.accepted, has.down, has.down_formats) is.down;
  up_cfn = ap next_cfn is.up_cfn ∙ sym has.cfn;
  down_cfn = is.down_cfn ∙ sym (has.down_cfn refl);
}
send_stands Down c state old new is has = record {
  planned = is.planned ∙ sym has.accepted;
  up = rw (has.accepted, has.up, has.up_formats) is.up;
  down = rw (has.accepted, has.down, has.down_formats) is.down;
  up_cfn = is.up_cfn ∙ sym (has.up_cfn refl);
  down_cfn = ap next_cfn is.down_cfn ∙ sym has.cfn;
}

-- what was given is that of which the formats are loaded
kept_of : (dir : Dir) (state : State) (h : StagesHandler) → Represents state h → AreKept h.showing.accepted dir (given_in state dir) (formats_in h.showing dir) (tti_in h.showing dir)
kept_of Up state h is = is.up
kept_of Down state h is = is.down

cfn_of : (dir : Dir) (state : State) (h : StagesHandler) → Represents state h → cfn_in state dir ≡ loads_cfn h.showing dir
cfn_of Up state h is = is.up_cfn
cfn_of Down state h is = is.down_cfn

same_tti : (dir : Dir) (c : ℕ) (e : Dir) (old new : Showing) → HasSent dir c old new → tti_in new e ≡ tti_in old e
same_tti dir c Up old new has = has.up
same_tti dir c Down old new has = has.down

long_tti : (dir : Dir) (h : Showing) → IsShowing h → length (tti_in h dir) ≡ length (side_of h.accepted.config dir).channels
long_tti Up h is = is.up.channels
long_tti Down h is = is.down.channels

send_does : (dir : Dir) (c : ℕ) (state : State) (old new : StagesHandler) → Represents state old → IsShowing old.showing → HasSent dir c old.showing new.showing → SendsFrame dir c state (goes_on dir state) (asks new.showing new.showing.asked)
send_does dir c state old new is ready has =
    let kept = kept_of dir state old is in
    let tti : tti_in new.showing dir ≡ tti_in old.showing dir = same_tti dir c dir old.showing new.showing has in
    record {
      are = subst (λ (p : Planned). AreOf p dir (given_in state dir) c) (sym is.planned) (λ i inside. kept.formats i inside ∙ has.are i inside);
      loaded = tti_in new.showing dir;
      all = subst (λ (p : Planned). length (tti_in new.showing dir) ≡ length (side_of p.config dir).channels) (sym is.planned) (ap length tti ∙ long_tti dir old.showing ready);
      is = subst (λ (p : Planned). (i : ℕ) → i < length (side_of p.config dir).channels → IfSome (given_in state dir i) (λ g. IsLoaded p dir i g.format g.bits (loaded_at (tti_in new.showing dir) i))) (sym is.planned)
          (subst (λ (t : List Loaded). (i : ℕ) → i < length (side_of old.showing.accepted.config dir).channels → IfSome (given_in state dir i) (λ g. IsLoaded old.showing.accepted dir i g.format g.bits (loaded_at t i))) (sym tti) kept.loaded);
      same = refl;
      asks = ap (asks new.showing) has.asked ∙ ap (λ cfn. radio_frame dir (tti_in new.showing dir) cfn c) (sym (cfn_of dir state old is));
    }

-- a question leaves the state as it is
asked_stands : (question : Question) (dir : Dir) (i n : ℕ) (state : State) (old new : StagesHandler) → Represents state old → HasAsked question dir i n old.showing new.showing → Represents state new
asked_stands question dir i n state old new is has = record {
  planned = is.planned ∙ sym (ap (λ (s : Showing). s.accepted) has.same);
  up = subst (λ (s : Showing). AreKept s.accepted Up state.up s.up.loads.formats.items s.up.tti) (sym has.same) is.up;
  down = subst (λ (s : Showing). AreKept s.accepted Down state.down s.down.loads.formats.items s.down.tti) (sym has.same) is.down;
  up_cfn = is.up_cfn ∙ sym (ap (λ (s : Showing). s.up.loads.cfn) has.same);
  down_cfn = is.down_cfn ∙ sym (ap (λ (s : Showing). s.down.loads.cfn) has.same);
}

asked_does : (question : Question) (dir : Dir) (i n : ℕ) (state : State) (old new : StagesHandler) → Represents state old → i < length (side_of old.showing.accepted.config dir).channels → HasAsked question dir i n old.showing new.showing → Asks question dir i n state state (asks new.showing new.showing.asked)
asked_does question dir i n state old new is inside has = record {
  format = has.format;
  given = (kept_of dir state old is).formats i inside ∙ has.given;
  inside = subst (λ (q : Planned). n < amount_of q question dir i has.format) (sym is.planned) has.inside;
  same = refl;
  asks = ap (λ (s : Showing). asks s s.asked) has.same;
}

-- the state after a good line
pub record After (state : State) (line : List ℕ) (new : StagesHandler) : Type 0 where
  pub after : State
  pub stands : Represents after new
  pub handles : Handles state line after (answer_text new.showing.accepted (asks new.showing new.showing.asked))

after_by : (line : List ℕ) (state : State) (old new : StagesHandler) (parsed : ParsedStage) → Represents state old → IsShowing old.showing → IsOfStages old.showing.accepted.config parsed → stage_meaning old.showing.accepted.config line ≡ Ok parsed → Done parsed old.showing new.showing → After state line new
after_by line state old new (load dir i f text) is ready good says done = record {
  after = loaded_state state dir i f (bits_of text);
  stands = load_stands dir i f (bits_of text) state old new is done;
  handles = record {
    parsed = load dir i f text;
    says = subst (λ (p : Planned). stage_meaning p.config line ≡ Ok (load dir i f text)) (sym is.planned) says;
    asked = asks new.showing new.showing.asked;
    does = load_does dir i f (bits_of text) state old new is done;
    shown = ap (λ (p : Planned). answer_text p (asks new.showing new.showing.asked)) (done.accepted ∙ sym is.planned);
  };
}
after_by line state old new (frame dir c) is ready good says done = record {
  after = goes_on dir state;
  stands = send_stands dir c state old new is done;
  handles = record {
    parsed = frame dir c;
    says = subst (λ (p : Planned). stage_meaning p.config line ≡ Ok (frame dir c)) (sym is.planned) says;
    asked = asks new.showing new.showing.asked;
    does = send_does dir c state old new is ready done;
    shown = ap (λ (p : Planned). answer_text p (asks new.showing new.showing.asked)) (done.accepted ∙ sym is.planned);
  };
}
after_by line state old new (ask question dir i n) is ready good says done = record {
  after = state;
  stands = asked_stands question dir i n state old new is done;
  handles = record {
    parsed = ask question dir i n;
    says = subst (λ (q : Planned). stage_meaning q.config line ≡ Ok (ask question dir i n)) (sym is.planned) says;
    asked = asks new.showing new.showing.asked;
    does = asked_does question dir i n state old new is good done;
    shown = ap (λ (q : Planned). answer_text q (asks new.showing new.showing.asked)) (ap (λ (s : Showing). s.accepted) done.same ∙ sym is.planned);
  };
}

pub after_line : (line : List ℕ) (state : State) (old new : StagesHandler) → Represents state old → IsShowing old.showing → Obeys line old.showing new.showing → After state line new
after_line line state old new is ready obeys = after_by line state old new obeys.parsed is ready obeys.good obeys.says obeys.done

-- a line that is refused leaves the state as it is
pub stands_on : (state : State) (old new : StagesHandler) → Represents state old → new.showing ≡ old.showing → Represents state new
stands_on state old new is same = record {
  planned = is.planned ∙ sym (ap (λ (s : Showing). s.accepted) same);
  up = subst (λ (s : Showing). AreKept s.accepted Up state.up s.up.loads.formats.items s.up.tti) (sym same) is.up;
  down = subst (λ (s : Showing). AreKept s.accepted Down state.down s.down.loads.formats.items s.down.tti) (sym same) is.down;
  up_cfn = is.up_cfn ∙ sym (ap (λ (s : Showing). s.up.loads.cfn) same);
  down_cfn = is.down_cfn ∙ sym (ap (λ (s : Showing). s.down.loads.cfn) same);
}

-- why a line is refused, by the state
outside_of : (question : Question) (dir : Dir) (i n : ℕ) (state : State) (h : StagesHandler) (why : LineError) → Represents state h → i < length (side_of h.showing.accepted.config dir).channels
    → IsOutside (amount_of h.showing.accepted question dir i) (format_in (formats_in h.showing dir) i) n why → IsOutside (amount_of h.showing.accepted question dir i) (format_given (given_in state dir i)) n why
outside_of question dir i n state h why is inside early = subst (λ o. IsOutside (amount_of h.showing.accepted question dir i) o n why) (sym ((kept_of dir state h is).formats i inside)) early

early_of : (state : State) (h : StagesHandler) (why : LineError) (said : Result ParsedStage LineError) → Represents state h → IfOk said (IsOfStages h.showing.accepted.config) → IsEarly h.showing said why → IsUntimely (record state { planned = h.showing.accepted }) said why
early_of state h why (Ok (frame dir c)) is good early = (
  early.0,
  λ are.
      let kept = kept_of dir state h is in
      early.1 (λ i inside. sym (kept.formats i inside) ∙ are i inside),
)
early_of state h why (Ok (load dir i f text)) is good early = early
early_of state h why (Ok (ask question dir i n)) is good early = outside_of question dir i n state h why is good early
early_of state h why (Err other) is good early = early

pub refuses_for : (line : List ℕ) (state : State) (h : StagesHandler) (why : LineError) → Represents state h → IsRefused h.showing line why → Refuses state line why
refuses_for line state h why is refused = subst (λ (p : Planned). Refuses (record state { planned = p }) line why) (sym is.planned)
    (⊎_elim (λ bad. inl bad) (λ early. inr (early_of state h why (stage_meaning h.showing.accepted.config line) is early.0 early.1)) refused)
