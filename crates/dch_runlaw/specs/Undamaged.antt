-- What the lines and the text of a run tell where no damage has an effect.
use Rattle.std.specs.Prelude.{ℕ, List, Bool}
use Rattle.dch_types.specs.declared.channel.Dir.TheVariants.{Up, Down}
use Rattle.dch_node.specs.Lines.{Line}
use Rattle.dch_script.specs.LineText.{text_of}
use Rattle.dch_lines.specs.Shown.{shown}
use Rattle.dch_linkcmd.specs.LinkLink.{LinkState}
use Rattle.dch_runlaw.specs.HonestBearers.{IsAcknowledged, IsTransparent, IsUnacknowledged, Parts, active, down_way, up_way}
use Rattle.dch_runlaw.specs.Plain.{ArePlain}
use Rattle.dch_runlaw.specs.UndamagedHandedUp.{HandsUpMarked, HandsUpSent, HandsUpWhole}

-- the lines `got` of each bearer in an undamaged run
pub record HandsUpAll (parts : Parts) (link : LinkState) (text : List ℕ) : Type 0 where
  pub acknowledged : (b up down : ℕ) → IsAcknowledged (active parts) b up down → HandsUpWhole parts b up down link text
  pub unacknowledged_up : (b up : ℕ) → IsUnacknowledged (active parts) Up b up
      → HandsUpMarked (active parts).config Up b up link.ue.state.layer link.rnc.lines (up_way (active parts) up link)
      text
  pub unacknowledged_down : (b down : ℕ) → IsUnacknowledged (active parts) Down b down
      → HandsUpMarked (active parts).config Down b down link.rnc.state.layer link.ue.lines
      (down_way (active parts) down link) text
  pub transparent_up : (b up : ℕ) → IsTransparent (active parts) Up b up
      → HandsUpSent (active parts).config Up b up link.ue.state.layer link.rnc.lines (up_way (active parts) up link)
      text
  pub transparent_down : (b down : ℕ) → IsTransparent (active parts) Down b down
      → HandsUpSent (active parts).config Down b down link.rnc.state.layer link.ue.lines
      (down_way (active parts) down link) text

-- no line tells of trouble, and the rows of the lines' text, with the rows of frames or without them, hand up all that
-- was sent whole
pub record CarriesAll (parts : Parts) (link : LinkState) (lines : List Line) : Type 0 where
  pub plain : ArePlain lines
  pub told : (quiet : Bool) → HandsUpAll parts link (shown quiet (text_of lines))
