-- Damage to the frames of a radio frame (10 ms) on their way between the nodes, the newest first, and what arrives of a
-- frame.
use Rattle.std.specs.Prelude.{ℕ, zero, suc, List, [], ◌∷◌, Bool, true, false, ◌&&◌, ◌||◌, ◌==◌, if◌then◌else◌, Option, Some, None, bit_xor}
use Rattle.std.specs.Bool.{beq}
use Rattle.dch_types.specs.declared.channel.Dir.{Dir}
use Rattle.dch_types.specs.declared.channel.Dir.TheVariants.{Up, Down}
use Rattle.dch_node.specs.Values.{Radio}
use Rattle.dch_damage.specs.Turns.{turned_bit, turned_cell}

-- a TFCI bit or a cell of a direction's radio frame is turned over, the radio frame is lost, an Iub frame of a set is
-- lost, or an octet of it is spoiled
pub data Damage : Type 0 where
  Flip : (dir : Dir) → (tfci : Bool) → (place : ℕ) → Damage
  Lose : (dir : Dir) → Damage
  LoseIub : (dir : Dir) → (set : ℕ) → Damage
  Spoil : (dir : Dir) → (set : ℕ) → (octet : ℕ) → (mask : ℕ) → Damage

abbrev pub same_dir : Dir → Dir → Bool
same_dir Up Up = true
same_dir Up Down = false
same_dir Down Up = false
same_dir Down Down = true

-- whether it turns over this place of a direction's TFCI bits or cells
abbrev pub flips_at : Damage → Dir → Bool → ℕ → Bool
flips_at (Flip dir' tfci' place') dir tfci place = same_dir dir' dir && beq tfci' tfci && (place' == place)
flips_at (Lose dir') dir tfci place = false
flips_at (LoseIub dir' set') dir tfci place = false
flips_at (Spoil dir' set' octet' mask) dir tfci place = false

-- how often the place is turned over
abbrev pub flips : List Damage → Dir → Bool → ℕ → ℕ
flips [] dir tfci place = 0
flips (one ∷ damage) dir tfci place = if flips_at one dir tfci place then suc (flips damage dir tfci place)
    else flips damage dir tfci place

-- whether it takes a direction's radio frame away
abbrev pub loses : Damage → Dir → Bool
loses (Flip dir' tfci' place') dir = false
loses (Lose dir') dir = same_dir dir' dir
loses (LoseIub dir' set') dir = false
loses (Spoil dir' set' octet' mask) dir = false

-- whether the radio frame is lost
abbrev pub is_lost : List Damage → Dir → Bool
is_lost [] dir = false
is_lost (one ∷ damage) dir = loses one dir || is_lost damage dir

-- whether it takes the Iub frame of a direction's set away
abbrev pub loses_iub : Damage → Dir → ℕ → Bool
loses_iub (Flip dir' tfci' place') dir set = false
loses_iub (Lose dir') dir set = false
loses_iub (LoseIub dir' set') dir set = same_dir dir' dir && (set' == set)
loses_iub (Spoil dir' set' octet' mask) dir set = false

-- whether the Iub frame is lost
abbrev pub is_iub_lost : List Damage → Dir → ℕ → Bool
is_iub_lost [] dir set = false
is_iub_lost (one ∷ damage) dir set = loses_iub one dir set || is_iub_lost damage dir set

-- its mask for an octet of the Iub frame of a direction's set, 0 for none
abbrev pub mask_of : Damage → Dir → ℕ → ℕ → ℕ
mask_of (Flip dir' tfci' place') dir set octet = 0
mask_of (Lose dir') dir set octet = 0
mask_of (LoseIub dir' set') dir set octet = 0
mask_of (Spoil dir' set' octet' mask) dir set octet = if same_dir dir' dir && (set' == set) && (octet' == octet)
    then mask else 0

-- the masks for the octet, joined by exclusive or
abbrev pub mask_on : List Damage → Dir → ℕ → ℕ → ℕ
mask_on [] dir set octet = 0
mask_on (one ∷ damage) dir set octet = bit_xor (mask_of one dir set octet) (mask_on damage dir set octet)

-- each element of a list changed, given its place
abbrev pub each_changed : {X : Type 0} → (ℕ → X → X) → List X → List X
each_changed change [] = []
each_changed change (x ∷ xs) = change zero x ∷ each_changed (λ place. change (suc place)) xs

-- what arrives of the radio frame of a direction
abbrev pub radio_after : List Damage → Dir → Option Radio → Option Radio
radio_after damage dir None = None
radio_after damage dir (Some radio) = if is_lost damage dir then None else Some (record {
  tfci = each_changed (λ place. turned_bit (flips damage dir true place)) radio.tfci;
  cells = each_changed (λ place. turned_cell (flips damage dir false place)) radio.cells;
})

-- what arrives of the Iub frame of a direction's set
abbrev pub iub_after : List Damage → Dir → ℕ → Option (List ℕ) → Option (List ℕ)
iub_after damage dir set None = None
iub_after damage dir set (Some octets) = if is_iub_lost damage dir set then None
    else Some (each_changed (λ k octet. bit_xor octet (mask_on damage dir set k)) octets)
