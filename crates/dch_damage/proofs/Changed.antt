-- Lists that are changed place by place.
use Rattle.std.proofs.Common.{◌≡◌, ◌<◌, ◌≤◌, ◌∙◌, ℕ, zero, suc, List, [], ◌∷◌, get_or, length, take, arith, ap, refl, sym}
use Rattle.std.proofs.lemmas.List.{get_or-replicate}
use Rattle.std.specs.Int.Bits.{xor_zero_r}
use Rattle.std.specs.Prelude.{bit_xor, replicate, slice_index}
use Rattle.dch_damage.specs.Damage.{each_changed}
use Rattle.dch_damage.specs.declared.turned.Turned.{Turned}
use Rattle.dch_damage.specs.declared.turned.Turned.TheVariants.{Not}

-- the front of a list in which each element is that of another list, changed
pub changed_front : {X : Type 0} (change : ℕ → X → X) (d : X) (xs ys : List X) → length xs ≤ length ys → ((k : ℕ) → k < length xs → get_or ys k d ≡ change k (get_or xs k d))
    → take (length xs) ys ≡ each_changed change xs
changed_front change d [] ys room are = refl
changed_front change d (x ∷ xs) [] room are = absurd (omega arith)
changed_front change d (x ∷ xs) (y ∷ ys) room are =
    ap (λ z. z ∷ take (length xs) ys) (are zero (omega arith))
    ∙ ap (λ zs. change zero x ∷ zs) (changed_front (λ k. change (suc k)) d xs ys (omega arith) (λ k early. are (suc k) (omega arith)))

-- two ways to change a list that agree on its places
pub changed_same : {X : Type 0} (one other : ℕ → X → X) (xs : List X) → ((k : ℕ) (x : X) → k < length xs → one k x ≡ other k x) → each_changed one xs ≡ each_changed other xs
changed_same one other [] agree = refl
changed_same one other (x ∷ xs) agree =
    ap (λ y. y ∷ each_changed (λ k. one (suc k)) xs) (agree zero x (omega arith))
    ∙ ap (λ ys. other zero x ∷ ys) (changed_same (λ k. one (suc k)) (λ k. other (suc k)) xs (λ k y early. agree (suc k) y (omega arith)))

-- a way that changes nothing
pub unchanged : {X : Type 0} (change : ℕ → X → X) (xs : List X) → ((k : ℕ) (x : X) → k < length xs → change k x ≡ x) → xs ≡ each_changed change xs
unchanged change [] keeps = refl
unchanged change (x ∷ xs) keeps =
    ap (λ ys. x ∷ ys) (unchanged (λ k. change (suc k)) xs (λ k y early. keeps (suc k) y (omega arith)))
    ∙ ap (λ y. y ∷ each_changed (λ k. change (suc k)) xs) (sym (keeps zero x (omega arith)))

-- what a table without turns does to bits or cells
pub untouched_turns : {X : Type 0} (after : Turned → X → X) (table : List Turned) (xs : List X) → ((x : X) → after Not x ≡ x) → table ≡ replicate (length table) Not → length xs ≤ length table
    → xs ≡ each_changed (λ place. after (get_or table place Not)) xs
untouched_turns after table xs keeps none within =
    unchanged (λ place. after (get_or table place Not)) xs (λ k x early. ap (λ (turned : Turned). after turned x)
    (ap (λ (turns : List Turned). get_or turns k Not) none ∙ get_or-replicate (length table) k Not Not (omega arith)) ∙ keeps x)

-- what a table without masks does to octets
pub untouched_masks : (masks octets : List ℕ) → masks ≡ replicate (length masks) 0 → length octets ≤ length masks → octets ≡ each_changed (λ k octet. bit_xor octet (slice_index masks k)) octets
untouched_masks masks octets none within =
    unchanged (λ k octet. bit_xor octet (slice_index masks k)) octets (λ k octet early. ap (bit_xor octet)
    (ap (λ (list : List ℕ). get_or list k 0) none ∙ get_or-replicate (length masks) k 0 0 (omega arith)) ∙ xor_zero_r octet)
