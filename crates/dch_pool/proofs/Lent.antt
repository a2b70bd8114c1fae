-- Which blocks are lent after a step.
use Rattle.std.proofs.Common.{◌≡◌, ℕ, zero, suc, ◌<◌, List, [], ◌∷◌, Option, None, Some, length, get_or, arith, refl, inl, inr, subst}
use Rattle.std.specs.Prelude.{replicate, IsSome}
use Rattle.std.proofs.lemmas.Bool.{cases_eq}
use Rattle.std.proofs.lemmas.List.{get_or-set_same, get_or-set_other}
use Rattle.dch_pool.specs.Blocks.{Blocks, IsLent, Takes, written, with_octets}

-- a lent block is there
lent-there : (contents : List (Option (List ℕ))) (a : ℕ) → IsSome (get_or contents a None) → a < length contents
lent-there [] a h = cc
lent-there (x ∷ xs) zero h = omega arith
lent-there (x ∷ xs) (suc a) h = let ih = lent-there xs a h in omega arith

-- a block after octets were written to one
pub IsLent-with_octets : (pool : Blocks) (b : ℕ) (octets : List ℕ) (a : ℕ) → IsLent pool a → IsLent (with_octets pool b octets) a
IsLent-with_octets pool b octets a lent = elim (cases_eq a b) [
  | inl e ↦ let there : b < length pool.contents = subst (λ n. n < length pool.contents) e (lent-there pool.contents a lent) in rw (e, get_or-set_same pool.contents b (Some octets) None there) refl
  | inr ne ↦ rw (get_or-set_other pool.contents b a (Some octets) None ne) lent
]

-- the block that was taken
pub IsLent-taken : (old new : Blocks) (b : ℕ) → Takes old new b → IsLent new b
IsLent-taken old new b takes = rw (takes.now, get_or-set_same old.contents b (Some (replicate old.size 0)) None takes.there) refl

-- no step changes how many octets a block has
pub size-Takes : (old new : Blocks) (b : ℕ) → Takes old new b → new.size ≡ old.size
size-Takes old new b takes = rw takes.now refl

pub size-written : (pool : Blocks) (b at : ℕ) (octets : List ℕ) → (written pool b at octets).size ≡ pool.size
unfolding written
size-written pool b at octets = refl
