-- What a data PDU that was read holds (TS 25.322 9.2.2.8).
use Rattle.std.specs.Prelude.{ℕ, List, [], ◌∷◌}
use Rattle.dch_rlcpdu.specs.Parts.{Content, begins_with, parts_of}
use Rattle.dch_am.specs.Bodies.{Body}

-- all but the last
abbrev pub all_but_last : List (List ℕ) → List (List ℕ)
all_but_last [] = []
all_but_last (p ∷ []) = []
all_but_last (p ∷ q ∷ ps) = p ∷ all_but_last (q ∷ ps)

-- the last
abbrev pub last_of : List (List ℕ) → List ℕ
last_of [] = []
last_of (p ∷ []) = p
last_of (p ∷ q ∷ ps) = last_of (q ∷ ps)

-- what a PDU with these indicators and octets holds
abbrev pub body_in : Content → Body
body_in c = record {
  full = begins_with 0 c.indicators;
  pieces = all_but_last (parts_of c);
  rest = last_of (parts_of c);
}
