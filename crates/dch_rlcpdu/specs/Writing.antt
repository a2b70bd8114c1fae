-- Fields as half octets, as they are written (TS 25.322 9.2.2.11).
use Rattle.std.specs.Prelude.{◌≡◌, ◌-◌, ◌*◌, ◌/◌, ◌%◌, ℕ, List, [], ◌∷◌, ◌++◌, length, replicate}
use Rattle.dch_rlcpdu.specs.Fields.{fifteens}
use Rattle.dch_rlcpdu.specs.Halves.{halves}

-- a number of twelve bits
abbrev pub digits : ℕ → List ℕ
digits n = n / 256 ∷ n / 16 % 16 ∷ n % 16 ∷ []

abbrev pub pairs_text : List (ℕ × ℕ) → List ℕ
pairs_text [] = []
pairs_text (p ∷ ps) = digits p.0 ++ (p.1 ∷ pairs_text ps)

-- a LIST of pairs, and several one after another
abbrev pub list_text : List (ℕ × ℕ) → List ℕ
list_text ps = 3 ∷ length ps ∷ pairs_text ps

abbrev pub lists_text : List (List (ℕ × ℕ)) → List ℕ
lists_text [] = []
lists_text (ps ∷ rest) = list_text ps ++ lists_text rest

abbrev pub ack_text : ℕ → List ℕ
ack_text lsn = 2 ∷ digits lsn

-- the octets of a status: LISTs of these pairs, and an ACK
abbrev pub status_text : List (ℕ × ℕ) → ℕ → List ℕ
status_text pairs lsn = lists_text (fifteens (length pairs) pairs) ++ ack_text lsn

-- an MRW with one number
abbrev pub mrw_text : ℕ → ℕ → List ℕ
mrw_text sn n = 6 ∷ 1 ∷ (digits sn ++ n ∷ [])

abbrev pub mrw_ack_text : ℕ → ℕ → List ℕ
mrw_ack_text n sn = 7 ∷ n ∷ digits sn

-- the half octets of these octets are a text, and zeros behind it
pub record IsText (octets : List ℕ) (text : List ℕ) : Type 0 where
  pub is : halves octets ≡ text ++ replicate (2 * length octets - length text) 0
