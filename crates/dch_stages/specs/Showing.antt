-- What the lines of an input do to what is loaded.
use Rattle.std.specs.Prelude.{◌≡◌, ◌≢◌, ◌<◌, ◌⊎◌, ℕ, List, IfOk, Some, None, Result, Ok, Err, length, replicate}
use Rattle.dch_bits.specs.declared.bit.Bit.{Bit}
use Rattle.dch_types.specs.declared.channel.Dir.{Dir}
use Rattle.dch_types.specs.declared.channel.Dir.TheVariants.{Up, Down}
use Rattle.dch_types.specs.Parts.{channel_at, format_at, format_number, side_of}
use Rattle.dch_coding.specs.Ttis.{AreJoined}
use Rattle.dch_accept.specs.Plans.{Planned}
use Rattle.dch_tti.specs.Loaded.{loaded_at}
use Rattle.dch_script.specs.declared.event.LineError.{LineError}
use Rattle.dch_script.specs.declared.event.LineError.TheVariants.{When}
use Rattle.dch_script.specs.Stages.{IsOfStages, ParsedStage, ask, frame, load, stage_meaning}
use Rattle.dch_lines.specs.Texts.{bits_of}
use Rattle.dch_stages.specs.Answers.{amount_of}
use Rattle.dch_stages.specs.Rules.{IsOutside, next_cfn}
use Rattle.dch_stages.specs.Shows.{IsLoaded}
use Rattle.dch_stages.specs.Handlers.{IsShowing, format_in, formats_in, tti_in}
use Rattle.dch_script.specs.declared.stages.Question.{Question}
use Rattle.dch_stages.specs.declared.showing.Asking.TheVariants.{Nothing, Tti, Frame, Bits}
use Rattle.dch_stages.specs.declared.showing.Showing.{Showing}

abbrev pub loads_cfn : Showing → Dir → ℕ
loads_cfn showing Up = showing.up.loads.cfn
loads_cfn showing Down = showing.down.loads.cfn

-- nothing is loaded, and nothing was asked for
pub record IsBegun (accepted : Planned) (showing : Showing) : Type 0 where
  pub accepted_is : showing.accepted ≡ accepted
  pub showing_is : IsShowing showing
  pub up : showing.up.loads.formats.items ≡ replicate (length accepted.config.uplink.side.channels) None
  pub down : showing.down.loads.formats.items ≡ replicate (length accepted.config.downlink.side.channels) None
  pub up_cfn : showing.up.loads.cfn ≡ 0
  pub down_cfn : showing.down.loads.cfn ≡ 0
  pub asked : showing.asked ≡ Nothing

-- the TTI of a channel is loaded, and nothing else is changed
pub record HasLoaded (dir : Dir) (i f : ℕ) (bits : List Bit) (old new : Showing) : Type 0 where
  pub accepted : new.accepted ≡ old.accepted
  pub joined : AreJoined (channel_at (side_of old.accepted.config dir) i)
      (format_at (channel_at (side_of old.accepted.config dir) i) f) bits new.stages.joined
  pub is : IsLoaded old.accepted dir i f bits (loaded_at (tti_in new dir) i)
  pub others : (j : ℕ) → j ≢ i → loaded_at (tti_in new dir) j ≡ loaded_at (tti_in old dir) j
  pub format : format_in (formats_in new dir) i ≡ Some f
  pub formats : (j : ℕ) → j ≢ i → format_in (formats_in new dir) j ≡ format_in (formats_in old dir) j
  pub up : dir ≡ Down → new.up ≡ old.up
  pub down : dir ≡ Up → new.down ≡ old.down
  pub up_cfn : new.up.loads.cfn ≡ old.up.loads.cfn
  pub down_cfn : new.down.loads.cfn ≡ old.down.loads.cfn
  pub asked : new.asked ≡ Tti dir i f

-- a radio frame is sent in a combination
pub record HasSent (dir : Dir) (c : ℕ) (old new : Showing) : Type 0 where
  pub accepted : new.accepted ≡ old.accepted
  pub are : (i : ℕ) → i < length (side_of old.accepted.config dir).channels → format_in (formats_in old dir) i ≡
      Some (format_number (side_of old.accepted.config dir) c i)
  pub up : new.up.tti ≡ old.up.tti
  pub down : new.down.tti ≡ old.down.tti
  pub up_formats : new.up.loads.formats.items ≡ old.up.loads.formats.items
  pub down_formats : new.down.loads.formats.items ≡ old.down.loads.formats.items
  pub cfn : loads_cfn new dir ≡ next_cfn (loads_cfn old dir)
  pub up_cfn : dir ≡ Down → new.up.loads.cfn ≡ old.up.loads.cfn
  pub down_cfn : dir ≡ Up → new.down.loads.cfn ≡ old.down.loads.cfn
  pub asked : new.asked ≡ Frame dir (record { cfn = loads_cfn old dir; combination = c })

-- a question of the TTI that is loaded of a channel is asked, and nothing else is changed
pub record HasAsked (question : Question) (dir : Dir) (i n : ℕ) (old new : Showing) : Type 0 where
  pub format : ℕ
  pub given : format_in (formats_in old dir) i ≡ Some format
  pub inside : n < amount_of old.accepted question dir i format
  pub same : new ≡ record old { asked = Bits question (record { dir = dir; channel = i; format = format }) n }

-- what a line says was done
abbrev pub Done : ParsedStage → Showing → Showing → Type 0
Done (load dir i f text) old new = HasLoaded dir i f (bits_of text) old new
Done (frame dir c) old new = HasSent dir c old new
Done (ask question dir i n) old new = HasAsked question dir i n old new

pub record Obeys (line : List ℕ) (old new : Showing) : Type 0 where
  pub parsed : ParsedStage
  pub says : stage_meaning old.accepted.config line ≡ Ok parsed
  pub good : IsOfStages old.accepted.config parsed
  pub done : Done parsed old new

-- why a line is refused
abbrev pub IsEarly : Showing → Result ParsedStage LineError → LineError → Type 0
IsEarly showing (Ok (frame dir c)) why = (why ≡ When) ×
    (((i : ℕ) → i < length (side_of showing.accepted.config dir).channels → format_in (formats_in showing dir) i ≡
    Some (format_number (side_of showing.accepted.config dir) c i)) → ⊥)
IsEarly showing (Ok (load dir i f text)) why = ⊥
IsEarly showing (Ok (ask question dir i n)) why = IsOutside (amount_of showing.accepted question dir i)
    (format_in (formats_in showing dir) i) n why
IsEarly showing (Err other) why = ⊥

abbrev pub IsRefused : Showing → List ℕ → LineError → Type 0
IsRefused showing line why = (stage_meaning showing.accepted.config line ≡ Err why) ⊎
    (IfOk (stage_meaning showing.accepted.config line) (IsOfStages showing.accepted.config) ×
    IsEarly showing (stage_meaning showing.accepted.config line) why)
