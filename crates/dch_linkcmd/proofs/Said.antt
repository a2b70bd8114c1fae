-- What a line of `link` says.
use Rattle.std.proofs.Common.{◌≡◌, ◌≤◌, ◌∙◌, ℕ, List, Some, ap, subst}
use Rattle.std.specs.Prelude.{Ok, Option, Result}
use Rattle.dch_types.specs.declared.config.Config.{Config}
use Rattle.dch_script.specs.Meaning.{meaning_in}
use Rattle.dch_script.specs.ParsedLine.{ParsedLine, code, unit, block, free, flip, lose, lose_iub, spoil, frame, iub, phy, phy_none, down, tick, change}
use Rattle.dch_script.specs.declared.event.Command.TheVariants.{Link}
use Rattle.dch_script.specs.declared.event.LineError.{LineError}
use Rattle.dch_script.proofs.Judged.{meaning_keeps}
use Rattle.dch_linkcmd.specs.LineEvents.{Frames, Said, Says, said_by}

-- a line that asks for radio frames asks for at least one
some_parsed : (config : Config) (parsed : ParsedLine) (count : ℕ) → said_by config parsed ≡ Some (Frames count) → parsed ≡ frame count
some_parsed config (unit dir b text) count is = cc
some_parsed config (block dir c) count is = cc
some_parsed config (free dir c) count is = cc
some_parsed config (flip dir tfci place) count is = cc
some_parsed config (lose dir) count is = cc
some_parsed config (lose_iub dir set) count is = cc
some_parsed config (spoil dir set octet mask) count is = cc
some_parsed config (frame n) count is = cc
some_parsed config (code coding crc bits) count is = cc
some_parsed config (iub set octets) count is = cc
some_parsed config down count is = cc
some_parsed config (phy tfci cells) count is = cc
some_parsed config phy_none count is = cc
some_parsed config tick count is = cc
some_parsed config change count is = cc

pub some_frames : (config : Config) (line : List ℕ) (count : ℕ) → Says config line (Frames count) → 1 ≤ count
some_frames config line count says =
    let parsed : says.parsed ≡ frame count = some_parsed config says.parsed count says.is in
    (meaning_keeps Link config line (frame count) (says.is_parsed ∙ ap Ok parsed)).0

one_meaning : (a b : ParsedLine) (r : Result ParsedLine LineError) → r ≡ Ok a → r ≡ Ok b → b ≡ a
one_meaning a b r one two = cc

one_of : (said other : Said) (r : Option Said) → r ≡ Some said → r ≡ Some other → other ≡ said
one_of said other r one two = cc

-- it says one thing
pub one_said : (config : Config) (line : List ℕ) (said other : Said) → Says config line said → Says config line other → other ≡ said
one_said config line said other one two =
    let parsed : two.parsed ≡ one.parsed = one_meaning one.parsed two.parsed (meaning_in Link config line) one.is_parsed two.is_parsed in
    one_of said other (said_by config one.parsed) one.is (subst (λ (p : ParsedLine). said_by config p ≡ Some other) parsed two.is)
