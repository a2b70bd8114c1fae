-- The good blocks of a TTI that was read are those that layer 2 takes.
use Rattle.std.proofs.Common.{◌≡◌, ◌<◌, ◌≤◌, ◌+◌, ◌*◌, ◌∙◌, ℕ, zero, suc, List, [], ◌∷◌, ◌++◌, Bool, true, false, length, take, drop, arith, refl, sym, ap, append_assoc, length-drop}
use Rattle.std.specs.Prelude.{◌==◌, cond, slice_index_or}
use Rattle.std.proofs.lemmas.Bool.Decides.{nat_tests}
use Rattle.std.proofs.lemmas.List.{length-take-le}
use Rattle.std.proofs.lemmas.Nat.{row_fits}
use Rattle.dch_bits.specs.declared.bit.Bit.{Bit}
use Rattle.dch_accept.specs.Blocks.{Held, block_at}
use Rattle.dch_layer2.specs.Layers.{Came}
use Rattle.dch_layer2.specs.Coming.{came_at, came_below, came_of}
use Rattle.dch_layer2.specs.Reading.{Bad, Nothing, Read, Reading}
use Rattle.dch_linkcmd.specs.Checks.{good_blocks as good_of, good_from, good_in}
use Rattle.dch_runlaw.specs.Doings.{block_if, good_blocks, has_bits}
use Rattle.dch_runlaw.proofs.Sublists.{either}

-- so many blocks have their bits
abbrev pub IsWhole : Held → Type 0
IsWhole held = length held.bits ≡ length held.good * held.size

-- what is read of a channel, if anything, is whole
abbrev pub IsWholeReading : Reading → Type 0
IsWholeReading Nothing = Unit {0}
IsWholeReading (Read held) = IsWhole held
IsWholeReading (Bad frame) = Unit {0}

-- the good blocks that layer 2 takes of a channel
abbrev pub good_taken : Reading → List (List Bit)
good_taken Nothing = []
good_taken (Read held) = good_blocks (came_of held)
good_taken (Bad frame) = []

blocks-append : (xs ys : List Came) → good_blocks (xs ++ ys) ≡ good_blocks xs ++ good_blocks ys
blocks-append [] ys = refl
blocks-append (x ∷ xs) ys = ap (λ (l : List (List Bit)). block_if x.good (has_bits x.bits) x.bits ++ l) (blocks-append xs ys) ∙ sym (append_assoc (block_if x.good (has_bits x.bits) x.bits) (good_blocks xs) (good_blocks ys))

-- one good block more
abbrev good_at : Held → ℕ → List (List Bit)
good_at held k = cond (slice_index_or held.good k false) (block_at held k ∷ []) []

if-here : (b : Bool) (x : List Bit) (l : List (List Bit)) → cond b (x ∷ l) l ≡ cond b (x ∷ []) [] ++ l
if-here true x l = refl
if-here false x l = refl

from-more : (held : Held) (k count : ℕ) → good_from held k (suc count) ≡ good_from held k count ++ good_at held (k + count)
from-more held k zero =
    let here : k + zero ≡ k = omega arith in
    ap (good_at held) (sym here)
from-more held k (suc count) =
    let here : (k + 1) + count ≡ k + suc count = omega arith in
    if-here (slice_index_or held.good k false) (block_at held k) (good_from held (k + 1) (suc count))
    ∙ ap (λ (l : List (List Bit)). good_at held k ++ l) (from-more held (k + 1) count ∙ ap (λ n. good_from held (k + 1) count ++ good_at held n) here)
    ∙ sym (append_assoc (good_at held k) (good_from held (k + 1) count) (good_at held (k + suc count)))
    ∙ sym (ap (λ (l : List (List Bit)). l ++ good_at held (k + suc count)) (if-here (slice_index_or held.good k false) (block_at held k) (good_from held (k + 1) count)))

has-some : (bits : List Bit) → 0 < length bits → has_bits bits ≡ true
has-some [] l = absurd (omega arith)
has-some (bit ∷ bits) l = refl

-- a block that has bits
block-bits : (held : Held) (k : ℕ) → IsWhole held → 0 < held.size → k < length held.good → has_bits (block_at held k) ≡ true
block-bits held k whole some inside =
    let fits : k * held.size + held.size ≤ length held.good * held.size = row_fits k held.size (length held.good) held.size inside (omega arith) in
    let long : length (block_at held k) ≡ held.size = length-take-le held.size (drop (k * held.size) held.bits) (omega (arith, whole, fits, length-drop (k * held.size) held.bits)) in
    has-some (block_at held k) (omega (arith, long, some))

one-good : (good : Bool) (bits : List Bit) → has_bits bits ≡ true → block_if good (has_bits bits) bits ++ [] ≡ cond good (bits ∷ []) []
one-good true bits some = rw some refl
one-good false bits some = refl

below-some : (held : Held) (n : ℕ) → IsWhole held → 0 < held.size → n ≤ length held.good → good_blocks (came_below held n) ≡ good_from held 0 n
below-some held zero whole some l = refl
below-some held (suc n) whole some l =
    let here : n ≡ 0 + n = omega arith in
    blocks-append (came_below held n) (came_at held n ∷ [])
    ∙ ap (λ (x : List (List Bit)). x ++ (block_if (slice_index_or held.good n false) (has_bits (block_at held n)) (block_at held n) ++ [])) (below-some held n whole some (omega (arith, l)))
    ∙ ap (λ (x : List (List Bit)). good_from held 0 n ++ x) (one-good (slice_index_or held.good n false) (block_at held n) (block-bits held n whole some (omega (arith, l))))
    ∙ ap (λ k. good_from held 0 n ++ good_at held k) here
    ∙ sym (from-more held 0 n)

-- and blocks without bits
no-bits : (good : Bool) → block_if good false [] ++ [] ≡ []
no-bits true = refl
no-bits false = refl

below-none : (held : Held) (n : ℕ) → held.size ≡ 0 → good_blocks (came_below held n) ≡ []
below-none held zero none = refl
below-none held (suc n) none =
    let empty : block_at held n ≡ [] = ap (λ s. take s (drop (n * s) held.bits)) none in
    blocks-append (came_below held n) (came_at held n ∷ [])
    ∙ ap (λ (x : List (List Bit)). x ++ (block_if (slice_index_or held.good n false) (has_bits (block_at held n)) (block_at held n) ++ [])) (below-none held n none)
    ∙ ap (λ (bits : List Bit). block_if (slice_index_or held.good n false) (has_bits bits) bits ++ []) empty
    ∙ no-bits (slice_index_or held.good n false)

held-same : (held : Held) → IsWhole held → good_blocks (came_of held) ≡ good_of held
held-same held whole = either (held.size == 0)
    (λ e. let none : held.size ≡ 0 = grind (arith, nat_tests) in rw e (below-none held (length held.good) none))
    (λ e. let some : 0 < held.size = grind (arith, nat_tests) in rw e (below-some held (length held.good) whole some (omega arith)))

-- what is taken of a channel is what is compared
pub taken-same : (reading : Reading) → IsWholeReading reading → good_taken reading ≡ good_in reading
taken-same Nothing whole = refl
taken-same (Read held) whole = held-same held whole
taken-same (Bad frame) whole = refl
