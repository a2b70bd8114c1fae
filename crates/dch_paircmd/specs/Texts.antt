-- The lines of the report of `pair`.
use Rattle.std.specs.Prelude.{◌==◌, ◌≤◌, ◌++◌, ℕ, List, [], ◌∷◌, codes, decimal, length, nat_lt, if◌then◌else◌, take}
use Rattle.dch_bits.specs.declared.offer.Offer.{Offer}
use Rattle.dch_bits.specs.declared.offer.Offer.TheVariants.{Accepted, Full, WrongSize}
use Rattle.dch_script.specs.Report.{octets_shown}
use Rattle.dch_rlcpdu.specs.declared.handed.Handed.{Handed}
use Rattle.dch_rlcpdu.specs.declared.handed.Handed.TheVariants.{Whole, Overlong}
use Rattle.dch_rlcpdu.specs.Errors.{error_number}
use Rattle.dch_reset.specs.declared.answers.Got.{Got}
use Rattle.dch_reset.specs.declared.answers.Got.TheVariants.{Bad, Restarted, Repeated, Ignored, Taken, Duplicate, Outside}

-- END, by its number
abbrev pub end_word : ℕ → List ℕ
end_word end = if end == 0 then codes "a" else codes "b"

-- a line of a word and an end, and one that shows octets or a number too
unfoldable pub end_text : List ℕ → ℕ → List ℕ
end_text word end = word ++ end_word end ++ codes "\n"

unfoldable pub octets_text : List ℕ → ℕ → List ℕ → List ℕ
octets_text word end octets = word ++ end_word end ++ codes " " ++ octets_shown octets ++ codes "\n"

unfoldable pub number_text : List ℕ → ℕ → ℕ → List ℕ
number_text word end number = word ++ end_word end ++ codes " " ++ decimal number ++ codes "\n"

-- the line on a unit that was offered
abbrev pub offer_text : ℕ → Offer → List ℕ
offer_text end Accepted = end_text (codes "took ") end
offer_text end Full = end_text (codes "full ") end
offer_text end WrongSize = end_text (codes "wrong ") end

-- the line on a PDU that arrived, where there is one
abbrev pub got_text : ℕ → Got → List ℕ
got_text end (Bad error) = number_text (codes "pdubad ") end (error_number error)
got_text end Restarted = end_text (codes "restart ") end
got_text end Repeated = []
got_text end Ignored = []
got_text end Taken = []
got_text end Duplicate = []
got_text end Outside = end_text (codes "outside ") end

-- the line on a unit that ended, and those on several
abbrev pub unit_text : ℕ → List ℕ → List ℕ
unit_text end unit = if nat_lt 1500 (length unit) then end_text (codes "overlong ") end
    else octets_text (codes "got ") end unit

abbrev pub units_text : ℕ → List (List ℕ) → List ℕ
units_text end [] = []
units_text end (unit ∷ units) = unit_text end unit ++ units_text end units

-- the line on a unit that stands at the front of these octets, or is overlong
abbrev pub handed_text : ℕ → Handed → List ℕ → List ℕ
handed_text end (Whole size) room = octets_text (codes "got ") end (take size room)
handed_text end Overlong room = end_text (codes "overlong ") end

abbrev pub IsWithin : Handed → ℕ → Type 0
IsWithin (Whole size) room = size ≤ room
IsWithin Overlong room = Unit {0}
