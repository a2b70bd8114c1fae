-- Which blocks the bearers give to a channel.
use Rattle.std.specs.Prelude.{◌+◌, ◌-◌, ◌==◌, ◌&&◌, ◌||◌, ℕ, Bool, if◌then◌else◌, length, min, nat_lt, slice_index_or}
use Rattle.dch_types.specs.declared.channel.Format.{Format}
use Rattle.dch_config.specs.Bearers.{names}
use Rattle.dch_types.specs.Parts.{channel_number}
use Rattle.dch_types.specs.Sums.{total}
use Rattle.dch_tree.specs.Bearers.{bearer_at}
use Rattle.dch_mac.specs.Asked.{Asked, priority_of}
use Rattle.dch_mac.specs.declared.head.Head.{Head}

-- the offer of bearer b
abbrev pub head_at : Asked → ℕ → Head
head_at asked b = slice_index_or asked.offers b (record { size = 0; count = 0 })

-- bearer b is on channel i and offers blocks of this size
abbrev pub fits : Asked → ℕ → ℕ → ℕ → Bool
fits asked i size b = names (channel_number asked.dir (bearer_at asked.bearers b)) i && (head_at asked b).size == size

-- the blocks of this size that bearer b has for channel i
unfoldable pub offered : Asked → ℕ → ℕ → ℕ → ℕ
offered asked i size b = if fits asked i size b then (head_at asked b).count else 0

-- how many blocks of a size all bearers have for a channel
abbrev pub waiting : Asked → ℕ → ℕ → ℕ
waiting asked i size = total (offered asked i size) (length asked.bearers)

-- bearer a is served before bearer b: its priority is of a lesser number, or the same and its own number is less
abbrev pub is_before : Asked → ℕ → ℕ → Bool
is_before asked a b = nat_lt (priority_of asked a)
    (priority_of asked b) || (priority_of asked a == priority_of asked b && nat_lt a b)

-- the blocks of this size of those that are served before bearer b
abbrev pub ahead : Asked → ℕ → ℕ → ℕ → ℕ
ahead asked i size b = total (λ a. if is_before asked a b then offered asked i size a else 0) (length asked.bearers)

-- how many blocks of a format bearer b gives to channel i: what it has, up to what is left to those before it
abbrev pub given : Asked → ℕ → Format → ℕ → ℕ
given asked i format b = min (offered asked i format.size b) (format.number - ahead asked i format.size b)

-- how many blocks of a size the bearers of a priority give to a channel
unfoldable pub given_by : Asked → ℕ → Format → ℕ → ℕ
given_by asked i format priority = total (λ b. if priority_of asked b == priority then given asked i format b else 0)
    (length asked.bearers)

-- the blocks of this size that the first bearers of a priority have for channel i
abbrev pub offered_at : Asked → ℕ → ℕ → ℕ → ℕ → ℕ
offered_at asked i size priority b = if priority_of asked b == priority then offered asked i size b else 0

unfoldable pub waiting_below : Asked → ℕ → ℕ → ℕ → ℕ → ℕ
waiting_below asked i size priority bearers = total (offered_at asked i size priority) bearers

-- and those of all bearers of a priority
abbrev pub waiting_at : Asked → ℕ → ℕ → ℕ → ℕ
waiting_at asked i size priority = waiting_below asked i size priority (length asked.bearers)

-- and those of the first priorities
unfoldable pub waiting_above : Asked → ℕ → ℕ → ℕ → ℕ
waiting_above asked i size priorities = total (λ q. waiting_at asked i size (q + 1)) priorities
