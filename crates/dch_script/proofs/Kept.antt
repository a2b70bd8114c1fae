-- What the words of good lines keep.
use Rattle.std.proofs.Common.{◌≡◌, ◌≤◌, ◌&&◌, ℕ, List, [], ◌∷◌, Bool, true, false, Option, Some, None, Result, Ok, Err, if◌then◌else◌, refl, subst, length}
use Rattle.std.specs.Prelude.{nat_lt, nat_le}
use Rattle.std.specs.Option.{ok_or}
use Rattle.std.proofs.lemmas.Bool.{leb-true, ltb-true}
use Rattle.dch_types.specs.declared.bearer.Mode.{Mode}
use Rattle.dch_types.specs.declared.channel.Dir.{Dir}
use Rattle.dch_types.specs.declared.config.Config.{Config}
use Rattle.dch_types.specs.Parts.{side_of}
use Rattle.dch_types.specs.Timing.{has_set}
use Rattle.dch_script.specs.declared.event.LineError.{LineError}
use Rattle.dch_script.specs.declared.event.LineError.TheVariants.{Number, Text, Bearer as NoBearer}
use Rattle.dch_script.specs.Forms.{alone}
use Rattle.dch_script.specs.Good.{IsListed, IsUnit}
use Rattle.dch_script.specs.Nodes.{cells_of}
use Rattle.dch_script.specs.Numbers.{is_numeral, number_of, value_after}
use Rattle.dch_script.specs.Parts.{provided, combination_of, hex_of, number_from, number_in, set_of, tfci_letters, tfci_of}
use Rattle.dch_script.specs.ParsedLine.{ParsedLine, unit, ◌>>=◌}
use Rattle.dch_script.specs.Texts.{are_cells, is_octets, is_unit, is_word_of_bits}
use Rattle.dch_script.specs.Units.{bearer_of, has_channel, mode_at, named_bearer, text_of, unit_of}

-- where a second step gives a value, so did the first
pub bind_keeps : {A B : Type 0} (first : Result A LineError) (later : A → Result B LineError) (y : B) (P : Type 0) → ((x : A) → first ≡ Ok x → later x ≡ Ok y → P) → (first >>= later) ≡ Ok y → P
bind_keeps (Ok x) later y P go is = go x refl is
bind_keeps (Err error) later y P go is = absurd (cc)

-- a value that is given is the one value
pub ok_keeps : {A : Type 0} (x y : A) (P : A → Type 0) → P x → (r : Result A LineError) → r ≡ Ok x → r ≡ Ok y → P y
ok_keeps x y P here r is_x is_y = let same : x ≡ y = cc in subst P same here

-- a value that is given under a test is the one value, and the test holds
pub provided_keeps : {A : Type 0} (test : Bool) (x y : A) (error : LineError) (P : A → Type 0) → (test ≡ true → P x) → provided test x error ≡ Ok y → P y
provided_keeps true x y error P go is = let same : x ≡ y = cc in subst P same (go refl)
provided_keeps false x y error P go is = absurd (cc)

-- a value of a choice comes from one side of it
pub if_keeps : {A : Type 0} (test : Bool) (x y : Result A LineError) (z : A) (P : Type 0) → (x ≡ Ok z → P) → (y ≡ Ok z → P) → (if test then x else y) ≡ Ok z → P
if_keeps true x y z P first second is = first is
if_keeps false x y z P first second is = second is

-- a form without further words says its event
pub alone_keeps : (event parsed : ParsedLine) (words : List (List ℕ)) (P : ParsedLine → Type 0) → P event → alone event words ≡ Ok parsed → P parsed
alone_keeps event parsed [] P here is = ok_keeps event parsed P here (Ok event) refl is
alone_keeps event parsed (word ∷ words) P here is = absurd (cc)

-- a number that is read is one of at most so much
read_number : (good : Bool) (value most number : ℕ) → (good ≡ true → value ≤ most) → ok_or (if good then Some value else None) Number ≡ Ok number → number ≤ most
read_number true value most number small is = let same : value ≡ number = cc in subst (λ (n : ℕ). n ≤ most) same (small refl)
read_number false value most number small is = absurd (cc)

-- both tests hold
pub left_holds : (a b : Bool) → (a && b) ≡ true → a ≡ true
left_holds true b both = refl
left_holds false b both = absurd (cc)

pub right_holds : (a b : Bool) → (a && b) ≡ true → b ≡ true
right_holds true b both = both
right_holds false b both = absurd (cc)

-- a number is at most as large as it may be
pub number_keeps : (most number : ℕ) (word : List ℕ) → number_in most word ≡ Ok number → number ≤ most
unfolding number_in number_of
number_keeps most number word is =
    let value = value_after 0 word in
    read_number (is_numeral word && nat_le value most) value most number (λ good. leb-true value most (right_holds (is_numeral word) (nat_le value most) good)) is

-- a combination that is read stands in the list
pub combination_keeps : (config : Config) (dir : Dir) (word : List ℕ) (c : ℕ) → combination_of config dir word ≡ Ok c → IsListed config dir c
unfolding combination_of
combination_keeps config dir word c is =
    let count = length (side_of config dir).combinations in
    bind_keeps (number_in 65535 word) (λ n. provided (nat_lt n count) n Number) c (IsListed config dir c)
    (λ n _ later. provided_keeps (nat_lt n count) n c Number (IsListed config dir) (λ yes. ltb-true n count yes) later) is

-- a set that is read is one of the direction
pub set_keeps : (config : Config) (dir : Dir) (word : List ℕ) (set : ℕ) → set_of config dir word ≡ Ok set → has_set (side_of config dir) set ≡ true
unfolding set_of
set_keeps config dir word set is =
    bind_keeps (number_in 255 word) (λ n. provided (has_set (side_of config dir) n) n Number) set (has_set (side_of config dir) set ≡ true)
    (λ n _ later. provided_keeps (has_set (side_of config dir) n) n set Number (λ (s : ℕ). has_set (side_of config dir) s ≡ true) (λ yes. yes) later) is

-- a number that is read is within its limits
pub from_keeps : (least most : ℕ) (word : List ℕ) (number : ℕ) → number_from least most word ≡ Ok number → (least ≤ number) × (number ≤ most)
unfolding number_from
from_keeps least most word number is =
    bind_keeps (number_in most word) (λ n. provided (nat_le least n) n Number) number ((least ≤ number) × (number ≤ most))
    (λ n read later. provided_keeps (nat_le least n) n number Number (λ (m : ℕ). (least ≤ m) × (m ≤ most)) (λ yes. (leb-true least n yes, number_keeps most n word read)) later) is

-- a text that is read is octets
pub hex_keeps : (word text : List ℕ) → hex_of word ≡ Ok text → is_octets text ≡ true
unfolding hex_of
hex_keeps word text is = provided_keeps (is_octets word) word text Text (λ (t : List ℕ). is_octets t ≡ true) (λ yes. yes) is

-- a text that is read is a TFCI
pub tfci_keeps : (config : Config) (dir : Dir) (word text : List ℕ) → tfci_of config dir word ≡ Ok text → is_word_of_bits (tfci_letters config dir) text ≡ true
unfolding tfci_of
tfci_keeps config dir word text is =
    let count = tfci_letters config dir in
    provided_keeps (is_word_of_bits count word) word text Text (λ (t : List ℕ). is_word_of_bits count t ≡ true) (λ yes. yes) is

-- a text that is read is cells
pub cells_keeps : (dir : Dir) (word text : List ℕ) → cells_of dir word ≡ Ok text → are_cells dir text ≡ true
unfolding cells_of
cells_keeps dir word text is = provided_keeps (are_cells dir word) word text Text (λ (t : List ℕ). are_cells dir t ≡ true) (λ yes. yes) is

-- a bearer that is read has a channel in the direction
named_keeps : (config : Config) (dir : Dir) (number : Option ℕ) (b : ℕ) → named_bearer config dir number ≡ Ok b → has_channel config dir b ≡ true
named_keeps config dir None b is = absurd (cc)
named_keeps config dir (Some n) b is = provided_keeps (has_channel config dir n) n b NoBearer (λ (m : ℕ). has_channel config dir m ≡ true) (λ yes. yes) is

-- the same of its word
bearer_keeps : (config : Config) (dir : Dir) (word : List ℕ) (b : ℕ) → bearer_of config dir word ≡ Ok b → has_channel config dir b ≡ true
unfolding bearer_of
bearer_keeps config dir word b is =
    if_keeps (is_numeral word) (named_bearer config dir (number_of 255 word)) (Err Number) b (has_channel config dir b ≡ true) (named_keeps config dir (number_of 255 word) b) (λ wrong. absurd (cc)) is

-- a text that is read is one of the bearer's units
pub text_keeps : (mode : Mode) (word text : List ℕ) → text_of mode word ≡ Ok text → is_unit mode text ≡ true
unfolding text_of
text_keeps mode word text is = provided_keeps (is_unit mode word) word text Text (λ (t : List ℕ). is_unit mode t ≡ true) (λ yes. yes) is

-- a unit that is read has such a bearer and such a text
pub unit_keeps : (config : Config) (dir : Dir) (bearer text : List ℕ) (parsed : ParsedLine) (P : ParsedLine → Type 0) → ((b : ℕ) (t : List ℕ) → IsUnit config dir b t → P (unit dir b t)) → unit_of config dir bearer text ≡ Ok parsed → P parsed
unfolding unit_of
unit_keeps config dir bearer text parsed P go is =
    bind_keeps (bearer_of config dir bearer) _ parsed (P parsed) (λ b named rest.
    bind_keeps (text_of (mode_at config b) text) _ parsed (P parsed) (λ t fits last.
    ok_keeps (unit dir b t) parsed P (go b t (bearer_keeps config dir bearer b named, text_keeps (mode_at config b) text t fits)) _ refl last) rest) is
