-- What is shown of lines on their way to a page: with quiet none of frames, and each behind the words that lead it.
use Rattle.std.specs.Prelude.{◌≡◌, ◌&&◌, ◌++◌, ℕ, List, [], ◌∷◌, Bool, true, false, if◌then◌else◌}
use Rattle.dch_indication.specs.Lines.{Line, Took, Full, Wrong, Bad, Reserved, NoBearer, Nobody, PduBad, Outside, Overlong, Got, GotBits, Iub, IubBad, Phy, PhyNone, BadTti, Differs}
use Rattle.dch_script.specs.LineText.{text_of}
use Rattle.dch_lines.specs.declared.filter.Filter.{Filter}

-- a line shows an Iub frame or a radio frame, or that none is sent
abbrev pub is_frame : Line → Bool
is_frame (Iub dir set octets) = true
is_frame (Phy dir tfci cells) = true
is_frame PhyNone = true
is_frame (Took dir b) = false
is_frame (Full dir b) = false
is_frame (Wrong dir b) = false
is_frame (Bad dir i block) = false
is_frame (Reserved dir i) = false
is_frame (NoBearer dir i ct) = false
is_frame (Nobody dir i) = false
is_frame (PduBad dir b n) = false
is_frame (Outside dir b) = false
is_frame (Overlong dir b) = false
is_frame (Got dir b octets) = false
is_frame (GotBits dir b bits) = false
is_frame (IubBad dir set n) = false
is_frame (BadTti dir i n) = false
is_frame (Differs dir i) = false

-- the lines that show no frame
abbrev pub without_frames : List Line → List Line
without_frames [] = []
without_frames (line ∷ lines) = if is_frame line then without_frames lines else (line ∷ without_frames lines)

-- the lines that are shown: with quiet these, and else all
abbrev pub seen : Bool → List Line → List Line
seen true lines = without_frames lines
seen false lines = lines

-- the text of lines, each behind the words that lead it
abbrev pub led_text : List ℕ → List Line → List ℕ
led_text words [] = []
led_text words (line ∷ lines) = (words ++ text_of (line ∷ [])) ++ led_text words lines

-- what a line makes of a page, behind the words that lead it: nothing where it is hidden
abbrev pub ShowsLed : {P : Type 0} → (P → List ℕ → P → Type 0) → Bool → List ℕ → P → Line → P → Type 0
ShowsLed writes true words old line new = new ≡ old
ShowsLed writes false words old line new = writes old (words ++ text_of (line ∷ [])) new

-- and of a filter, which keeps its page
pub record ShowsSeen {P : Type 0} (writes : P → List ℕ → P → Type 0) (old : Filter P) (line : Line) (new : Filter P) : Type 0 where
  pub quiet : new.quiet ≡ old.quiet
  pub lead : new.lead ≡ old.lead
  pub same : new.page.ghost_name ≡ old.page.ghost_name
  pub shows : ShowsLed writes (old.quiet && is_frame line) old.lead.now old.page.now line new.page.now
