-- Lines that are told to a filter.
use Rattle.std.proofs.Common.{◌≡◌, ◌++◌, ◌∙◌, ℕ, List, [], ◌∷◌, Bool, true, false, Bor, refl, ap, sym, subst}
use Rattle.std.specs.Prelude.{◌&&◌, Option, if◌then◌else◌}
use Rattle.dch_indication.specs.Told.{Told}
use Rattle.dch_indication.specs.Lines.{Line}
use Rattle.dch_script.specs.LineText.{text_of}
use Rattle.dch_lines.specs.Filtering.{ShowsLed, ShowsSeen, is_frame, led_text, seen, without_frames}
use Rattle.dch_lines.specs.Led.{lead_of, led}
use Rattle.dch_lines.specs.Shown.{shown}
use Rattle.dch_lines.specs.declared.filter.Filter.{Filter}
use Rattle.dch_lines.proofs.Seen.{led_is}

-- no text leaves a page as it is
abbrev pub Nothing : {P : Type 0} → (P → List ℕ → P → Type 0) → Type 0
Nothing {P} writes = (page : P) → writes page [] page

-- a text and then more is the text of both
abbrev pub Joined : {P : Type 0} → (P → List ℕ → P → Type 0) → Type 0
Joined {P} writes = (a b c : P) (x y : List ℕ) → writes a x b → writes b y c → writes a (x ++ y) c

-- a line, and then more lines
writes_line : {P : Type 0} (writes : P → List ℕ → P → Type 0) → Joined writes → (quiet : Bool) (words : List ℕ) (line : Line) (lines : List Line) (old mid new : P) → ShowsLed writes (quiet && is_frame line) words old line mid → writes mid (led_text words (seen quiet lines)) new
    → writes old (led_text words (seen quiet (line ∷ lines))) new
writes_line writes joined false words line lines old mid new first later = joined old mid new (words ++ text_of (line ∷ [])) (led_text words lines) first later
writes_line {P} writes joined true words line lines old mid new first later = of (is_frame line) first
  where
    of : (frame : Bool) → ShowsLed writes frame words old line mid → writes old (led_text words (if frame then without_frames lines else (line ∷ without_frames lines))) new
    of true same = subst (λ (p : P). writes p (led_text words (without_frames lines)) new) same later
    of false wrote = joined old mid new (words ++ text_of (line ∷ [])) (led_text words (without_frames lines)) wrote later

-- a filter that was told of lines keeps its page, to which what is shown of them is written
pub record GoesOn {P : Type 0} (writes : P → List ℕ → P → Type 0) (old : Filter P) (lines : List Line) (new : Filter P) : Type 0 where
  pub quiet : new.quiet ≡ old.quiet
  pub lead : new.lead ≡ old.lead
  pub same : new.page.ghost_name ≡ old.page.ghost_name
  pub wrote : writes old.page.now (led_text old.lead.now (seen old.quiet lines)) new.page.now

pub told_on : {P : Type 0} (writes : P → List ℕ → P → Type 0) → Nothing writes → Joined writes → (old new : Filter P) (lines : List Line) → Told (ShowsSeen writes) old lines new → GoesOn writes old lines new
told_on {P} writes nothing joined old new [] told = record {
  quiet = ap (λ (f : Filter P). f.quiet) told;
  lead = ap (λ (f : Filter P). f.lead) told;
  same = ap (λ (f : Filter P). f.page.ghost_name) told;
  wrote = subst (λ (p : P). writes old.page.now (led_text old.lead.now (seen old.quiet [])) p) (sym (ap (λ (f : Filter P). f.page.now) told)) (none old.quiet);
}
  where
    none : (quiet : Bool) → writes old.page.now (led_text old.lead.now (seen quiet [])) old.page.now
    none true = nothing old.page.now
    none false = nothing old.page.now
told_on {P} writes nothing joined old new (line ∷ lines) told =
    let mid : Filter P = told.0 in
    let first : ShowsSeen writes old line mid = told.1.0 in
    let rest : GoesOn writes mid lines new = told_on writes nothing joined mid new lines told.1.1 in
    record {
      quiet = rest.quiet ∙ first.quiet;
      lead = rest.lead ∙ first.lead;
      same = rest.same ∙ first.same;
      wrote = writes_line writes joined old.quiet old.lead.now line lines old.page.now mid.page.now new.page.now first.shows
          (subst (λ (q : Bool). writes mid.page.now (led_text old.lead.now (seen q lines)) new.page.now) first.quiet
          (subst (λ (l : Bor (List ℕ)). writes mid.page.now (led_text l.now (seen mid.quiet lines)) new.page.now) first.lead rest.wrote));
    }

-- what is shown of the text of lines, each led where they are those of a leg
pub told_shown : {P : Type 0} (writes : P → List ℕ → P → Type 0) → Nothing writes → Joined writes → (leg : Option ℕ) (old new : Filter P) (lines : List Line) → old.lead.now ≡ lead_of leg → Told (ShowsSeen writes) old lines new → writes old.page.now (led leg (shown old.quiet (text_of lines))) new.page.now
told_shown writes nothing joined leg old new lines words told =
    let on : GoesOn writes old lines new = told_on writes nothing joined old new lines told in
    subst (λ t. writes old.page.now t new.page.now) (sym (led_is leg old.quiet lines)) (subst (λ (w : List ℕ). writes old.page.now (led_text w (seen old.quiet lines)) new.page.now) words on.wrote)
