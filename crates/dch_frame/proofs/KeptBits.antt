-- The kept places of a stream.
use Rattle.std.proofs.Common.{◌≡◌, ◌+◌, ◌<◌, ◌≤◌, ℕ, zero, suc, List, length, get_or, arith, refl, ap, sym, ◌∙◌, add-one, inl, inr, below_more}
use Rattle.std.proofs.Math.ListN.{set}
use Rattle.std.proofs.lemmas.List.{get_or-set_other, get_or-set_same, get_or_default}
use Rattle.std.proofs.lemmas.Bool.{cases_lt}
use Rattle.dch_frame.specs.declared.pattern.Kind.{Kind}
use Rattle.dch_frame.specs.declared.pattern.Pattern.{Pattern}
use Rattle.dch_frame.specs.declared.pattern.Kind.TheVariants.{Same}
use Rattle.dch_frame.specs.Patterns.{copies, copies_below, kept_list}
use Rattle.dch_frame.proofs.Changes.{below-more, below-same, below_le, shown}
use Rattle.dch_frame.specs.Stages.{AreKept, origin_of}

-- a copy of bit m shows bit m
pub origin_of_copy : (pattern : Pattern) (m c : ℕ) → m < pattern.len → c < copies pattern.kind m → origin_of pattern (copies_below pattern.kind m + c) ≡ m
unfolding origin_of
origin_of_copy pattern m c inside copy = shown pattern.kind m pattern.len (copies_below pattern.kind m + c) inside (omega arith) (omega (arith, below-more pattern.kind m))

-- the copies of a bit lie within those of all
pub copy_inside : (pattern : Pattern) (m c : ℕ) → m < pattern.len → c < copies pattern.kind m → copies_below pattern.kind m + c < copies_below pattern.kind pattern.len
copy_inside pattern m c inside copy = omega (arith, below-more pattern.kind m, below_le pattern.kind (m + 1) pattern.len (omega arith))

pub copies_inside : (pattern : Pattern) (m : ℕ) → m < pattern.len → copies_below pattern.kind m + copies pattern.kind m ≤ copies_below pattern.kind pattern.len
copies_inside pattern m inside = omega (arith, below-more pattern.kind m, below_le pattern.kind (m + 1) pattern.len (omega arith))

pub copies_below-none : (kind : Kind) → copies_below kind 0 ≡ 0
unfolding copies_below
copies_below-none kind = refl

-- the bit whose copy stands at a place
owner_of : (kind : Kind) (n k : ℕ) → k < copies_below kind n → (m : ℕ) × ((m < n) × ((copies_below kind m ≤ k) × (k < copies_below kind (m + 1))))
owner_of kind zero k inside = absurd (omega (arith, copies_below-none kind))
owner_of kind (suc n) k inside = elim (cases_lt k (copies_below kind n)) [
  | inl before ↦ let (m, (below, rest)) = owner_of kind n k before in (m, (omega arith, rest))
  | inr here ↦ (n, (omega arith, (here, rw add-one inside)))
]

-- a kept place shows one of the bits
pub origin_of-inside : (pattern : Pattern) (k : ℕ) → k < copies_below pattern.kind pattern.len → origin_of pattern k < pattern.len
unfolding origin_of
origin_of-inside pattern k inside =
    let (m, (below, (from, to))) = owner_of pattern.kind pattern.len k inside in
    rw (shown pattern.kind m pattern.len k below from to) below

-- one place more, which shows the bit that stands there
pub kept_more : {X : Type 0} (kind : Kind) (bits out : List X) (bit at : ℕ) (x : X) → AreKept kind bits out at → bit < length bits → copies_below kind bit ≤ at → at < copies_below kind (bit + 1) → at < length out → x ≡ get_or bits bit x → AreKept kind bits (set out at x) (at + 1)
kept_more {X = X} kind bits out bit at x done inside from to room is k d early =
    let P : ℕ → Type 0 = λ k. get_or (set out at x) k d ≡ get_or bits (get_or (kept_list kind (length bits)) k 0) d in
    let place : get_or (kept_list kind (length bits)) at 0 ≡ bit = shown kind bit (length bits) at inside from to in
    below_more P at
    (λ k before. get_or-set_other out at k x d (λ same. omega arith) ∙ done k d before)
    (get_or-set_same out at x d room ∙ is ∙ get_or_default bits bit x d inside ∙ ap (λ m. get_or bits m d) (sym place))
    k early

-- where nothing changes, each place shows its own bit
pub origin_of-same : (pattern : Pattern) (k : ℕ) → pattern.kind ≡ Same → k < pattern.len → origin_of pattern k ≡ k
unfolding origin_of
origin_of-same pattern k same inside = ap (λ kind. get_or (kept_list kind pattern.len) k 0) same ∙ shown Same k pattern.len k inside (omega (arith, below-same k)) (omega (arith, below-same (k + 1)))

-- the places that are written for the kind of a pattern
pub kept_all : {X : Type 0} (pattern : Pattern) (kind : Kind) (bits out : List X) (n k : ℕ) (d : X) → pattern.kind ≡ kind → length bits ≡ pattern.len → AreKept kind bits out n → k < n → get_or out k d ≡ get_or bits (origin_of pattern k) d
unfolding origin_of
kept_all pattern kind bits out n k d same long done inside = done k d inside ∙ ap (λ m. get_or bits m d) (ap (λ len. get_or (kept_list kind len) k 0) long ∙ ap (λ kind. get_or (kept_list kind pattern.len) k 0) (sym same))
