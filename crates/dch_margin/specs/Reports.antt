-- The lines of a report: for each direction, channel and format of a configuration how many cells may be wrong, or a
-- worst case.
use Rattle.std.specs.Prelude.{◌≡◌, ◌==◌, ◌++◌, ℕ, zero, suc, List, [], length, codes, decimal, if◌then◌else◌, slice_index, slice_index_or}
use Rattle.dch_types.specs.declared.channel.Dir.{Dir}
use Rattle.dch_types.specs.declared.channel.Dir.TheVariants.{Up, Down}
use Rattle.dch_types.specs.declared.channel.Side.{Side}
use Rattle.dch_types.specs.declared.config.Config.{Config}
use Rattle.dch_types.specs.Parts.{channel_at, side_of}
use Rattle.dch_script.specs.Report.{dir_word}
use Rattle.dch_collision.specs.Clear.{Copies}
use Rattle.dch_accept.specs.Answers.{copies_of}
use Rattle.dch_margin.specs.Carriers.{Carriers, carriers_of}
use Rattle.dch_margin.specs.Margins.{IsMargin}
use Rattle.dch_margin.specs.Worst.{IsWorst}
use Rattle.dch_margin.specs.declared.margin.Margin.{Margin}
use Rattle.dch_margin.specs.declared.margin.Margin.TheVariants.{AtLeast, Cells, Unsent}
use Rattle.dch_margin.specs.declared.places.Place.{Place}
use Rattle.dch_margin.specs.declared.telling.Telling.{Telling}
use Rattle.dch_margin.specs.declared.telling.Telling.TheVariants.{Margins, WorstCases}
use Rattle.dch_margin.specs.declared.worst.Worst.{Worst}
use Rattle.dch_margin.specs.declared.worst.Worst.TheVariants.{Case, Unsent as IsNotSent, Sequences as AreSequences}
use Rattle.dch_margin.specs.declared.worst.WorstCase.{WorstCase}

-- the end of a line
abbrev pub at_least_text : ℕ → ℕ → List ℕ
at_least_text cells sequences = codes " at-least=" ++ decimal cells ++ codes " sequences=" ++ decimal sequences ++
    codes "\n"

abbrev pub margin_text : Margin → List ℕ
margin_text (Cells cells) = codes " cells=" ++ decimal cells ++ codes "\n"
margin_text Unsent = codes " cells=none\n"
margin_text (AtLeast cells sequences) = at_least_text cells sequences

-- what stands in front of part n of a list
abbrev pub comma : ℕ → List ℕ
comma n = if n == 0 then [] else codes ","

-- the first parts of a list, with commas between them
unfoldable pub listed : (ℕ → List ℕ) → ℕ → List ℕ
listed part zero = []
listed part (suc n) = listed part n ++ (comma n ++ part n)

-- a cell, as its radio frame and its place there
abbrev pub place_text : Place → List ℕ
place_text place = decimal place.frame ++ codes ":" ++ decimal place.cell

abbrev pub no_place : Place
no_place = record { frame = 0; cell = 0 }

abbrev pub fields_text : ℕ → ℕ → List ℕ → List ℕ → List ℕ
fields_text cells block combinations places = codes " cells=" ++ decimal cells ++ codes " block=" ++ decimal block
    ++ codes " combinations=" ++ combinations ++ codes " places=" ++ places ++ codes "\n"

abbrev pub case_text : WorstCase → List ℕ
case_text worst = fields_text worst.cells worst.block
    (listed (λ n. decimal (slice_index worst.combinations n)) (length worst.combinations))
    (listed (λ n. place_text (slice_index_or worst.places n no_place)) (length worst.places))

abbrev pub worst_text : Worst → List ℕ
worst_text (Case worst) = case_text worst
worst_text IsNotSent = codes " cells=none\n"
worst_text (AreSequences sequences) = codes " sequences=" ++ decimal sequences ++ codes "\n"

-- the lines of channel i in format f
abbrev pub margin_line : Dir → ℕ → ℕ → Margin → List ℕ
margin_line dir i f margin = codes "corrects " ++ dir_word dir ++ codes " channel=" ++ decimal i ++ codes " format=" ++
    decimal f ++ margin_text margin

abbrev pub worst_line : Dir → ℕ → ℕ → Worst → List ℕ
worst_line dir i f worst = codes "worst " ++ dir_word dir ++ codes " channel=" ++ decimal i ++ codes " format=" ++
    decimal f ++ worst_text worst

-- with the margin that it has
pub record IsMarginLine (side : Side) (sent : Copies) (dir : Dir) (i f : ℕ) (line : List ℕ) : Type 0 where
  pub margin : Margin
  pub is : IsMargin side sent i f margin
  pub shown : line ≡ margin_line dir i f margin

-- or with a worst case
pub record IsWorstLine (side : Side) (sent : Copies) (carriers : Carriers) (dir : Dir) (i f : ℕ)
    (line : List ℕ) : Type 0 where
  pub worst : Worst
  pub is : IsWorst side sent carriers i f worst
  pub shown : line ≡ worst_line dir i f worst

-- as it is asked for
abbrev pub IsFormatLine : Telling → Side → Copies → Carriers → Dir → ℕ → ℕ → List ℕ → Type 0
IsFormatLine Margins side sent carriers dir i f line = IsMarginLine side sent dir i f line
IsFormatLine WorstCases side sent carriers dir i f line = IsWorstLine side sent carriers dir i f line

-- parts 0 to n - 1 of a text, one after another
abbrev pub AreParts : (ℕ → List ℕ → Type 0) → ℕ → List ℕ → Type 0
AreParts Part zero text = text ≡ []
AreParts Part (suc n) text = (before : List ℕ) × (last : List ℕ) × AreParts Part n before × Part n last ×
    (text ≡ before ++ last)

-- the lines of the formats of channel i
abbrev pub AreChannelLines : Telling → Side → Copies → Carriers → Dir → ℕ → List ℕ → Type 0
AreChannelLines telling side sent carriers dir i text =
    AreParts (IsFormatLine telling side sent carriers dir i) (length (channel_at side i).formats) text

-- and of all channels of a direction
abbrev pub AreDirectionLines : Telling → Config → Dir → List ℕ → Type 0
AreDirectionLines telling config dir text = AreParts (AreChannelLines telling (side_of config dir)
    (copies_of config dir) (carriers_of config dir) dir) (length (side_of config dir).channels) text

-- and of both directions
pub record AreLines (telling : Telling) (config : Config) (text : List ℕ) : Type 0 where
  pub up : List ℕ
  pub down : List ℕ
  pub uplink : AreDirectionLines telling config Up up
  pub downlink : AreDirectionLines telling config Down down
  pub whole : text ≡ up ++ down
