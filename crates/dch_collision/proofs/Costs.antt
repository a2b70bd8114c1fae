-- What blocks cost by the votes that ask for zeros where a bit is sent.
use Rattle.std.proofs.Common.{◌≡◌, ◌+◌, ◌*◌, ◌<◌, ◌≤◌, ℕ, zero, suc, List, [], ◌∷◌, Bool, true, false, length, get_or, arith, refl}
use Rattle.std.proofs.lemmas.List.Sums.{sum_by-cons}
use Rattle.dch_bits.specs.declared.bit.Bit.{Bit}
use Rattle.dch_bits.specs.declared.bit.Bit.TheVariants.{Zero, One}
use Rattle.dch_bits.specs.declared.bit.Vote.{Vote}
use Rattle.dch_trellis.specs.Nearest.{differing, disagreement, copies, all_copies}
use Rattle.dch_trellis.specs.Search.{no_votes}
use Rattle.dch_collision.specs.Hidden.{vote_for, AreVotes, missing, removed}

-- where all costs nothing, each place does
pub free_at : (votes : List Vote) (bits : List Bit) (t : ℕ) → disagreement votes bits ≡ 0 → t < length votes → t < length bits → differing (get_or votes t no_votes) (get_or bits t Zero) ≡ 0
free_at [] bits t free few short = absurd (omega arith)
free_at (v ∷ votes) [] t free few short = absurd (omega arith)
free_at (v ∷ votes) (b ∷ bits) zero free few short = omega (arith, free)
free_at (v ∷ votes) (b ∷ bits) (suc t) free few short = free_at votes bits t (omega (arith, free)) (omega arith) (omega arith)

pub free_all : (votes : List Vote) (bits : List Bit) → ((t : ℕ) → t < length votes → differing (get_or votes t no_votes) (get_or bits t Zero) ≡ 0) → disagreement votes bits ≡ 0
free_all [] bits free = refl
free_all (v ∷ votes) [] free = refl
free_all (v ∷ votes) (b ∷ bits) free = omega (arith, free 0 (omega arith), free_all votes bits (λ t within. free (suc t) (omega arith)))

-- few copies at each place are few in all
pub all_copies-le : (votes : List Vote) → ((t : ℕ) → t < length votes → copies (get_or votes t no_votes) ≤ 2048) → all_copies votes ≤ 2048 * length votes
all_copies-le [] few = omega arith
all_copies-le (v ∷ votes) few = omega (arith, sum_by-cons copies v votes, few 0 (omega arith), all_copies-le votes (λ t within. few (suc t) (omega arith)))

pub vote-few : (zeros ones : ℕ) (sent : Bool) → zeros ≤ 2048 → ones ≤ 2048 → copies (vote_for zeros ones sent) ≤ 2048
vote-few low high true few less = omega arith
vote-few low high false few less = omega arith

-- a bit that is Zero where it is sent costs no more than a place that is not sent
bit-cost : (weight : ℕ) (sent : Bool) (b : Bit) → (sent ≡ true → b ≡ Zero) → differing (vote_for weight 1 sent) b ≤ missing sent
bit-cost weight true b silent = rw (silent refl) (omega arith)
bit-cost weight false Zero silent = omega arith
bit-cost weight false One silent = omega arith

removed-cons : (sent : Bool) (sent_flags : List Bool) → removed (sent ∷ sent_flags) ≡ missing sent + removed sent_flags
removed-cons sent sent_flags = sum_by-cons missing sent sent_flags

pub removed-le : (sent_flags : List Bool) → removed sent_flags ≤ length sent_flags
removed-le [] = omega arith
removed-le (true ∷ sent_flags) = omega (arith, removed-cons true sent_flags, removed-le sent_flags)
removed-le (false ∷ sent_flags) = omega (arith, removed-cons false sent_flags, removed-le sent_flags)

-- bits that are zero where they are sent cost at most the places that are not
silent-cost : (weight : ℕ) (sent_flags : List Bool) (votes : List Vote) (bits : List Bit) → length votes ≡ length sent_flags → AreVotes weight 1 sent_flags votes → ((t : ℕ) → get_or sent_flags t false ≡ true → get_or bits t Zero ≡ Zero) → disagreement votes bits ≤ removed sent_flags
silent-cost weight [] [] bits sized stand silent = omega arith
silent-cost weight [] (v ∷ votes) bits sized stand silent = absurd (omega arith)
silent-cost weight (s ∷ sent_flags) [] bits sized stand silent = absurd (omega arith)
silent-cost weight (s ∷ sent_flags) (v ∷ votes) [] sized stand silent = omega arith
silent-cost weight (s ∷ sent_flags) (v ∷ votes) (b ∷ bits) sized stand silent =
    let here : differing v b ≤ missing s = rw (stand 0 (omega arith)) (bit-cost weight s b (silent 0)) in
    omega (arith, here, removed-cons s sent_flags, silent-cost weight sent_flags votes bits (omega arith) (λ t within. stand (suc t) (omega arith)) (λ t. silent (suc t)))

-- and fewer, where a One stands among those
pub some-cost : (weight : ℕ) (sent_flags : List Bool) (votes : List Vote) (bits : List Bit) (t : ℕ) → length votes ≡ length sent_flags → AreVotes weight 1 sent_flags votes → ((t : ℕ) → get_or sent_flags t false ≡ true → get_or bits t Zero ≡ Zero) → t < length sent_flags → get_or bits t Zero ≡ One → disagreement votes bits < removed sent_flags
some-cost weight [] votes bits t sized stand silent within one = absurd (omega arith)
some-cost weight (s ∷ sent_flags) [] bits t sized stand silent within one = absurd (omega arith)
some-cost weight (s ∷ sent_flags) (v ∷ votes) [] t sized stand silent within one = cc
some-cost weight (s ∷ sent_flags) (v ∷ votes) (b ∷ bits) zero sized stand silent within one =
    let here : differing v b < missing s = rw (stand 0 (omega arith)) (less s b one (silent 0)) in
    omega (arith, here, removed-cons s sent_flags, silent-cost weight sent_flags votes bits (omega arith) (λ t within. stand (suc t) (omega arith)) (λ t. silent (suc t)))
  where
    less : (sent : Bool) (b : Bit) → b ≡ One → (sent ≡ true → b ≡ Zero) → differing (vote_for weight 1 sent) b < missing sent
    less true b one silent = let zero : b ≡ Zero = silent refl in cc
    less false b one silent = rw one (omega arith)
some-cost weight (s ∷ sent_flags) (v ∷ votes) (b ∷ bits) (suc t) sized stand silent within one =
    let here : differing v b ≤ missing s = rw (stand 0 (omega arith)) (bit-cost weight s b (silent 0)) in
    omega (arith, here, removed-cons s sent_flags, some-cost weight sent_flags votes bits t (omega arith) (λ t within. stand (suc t) (omega arith)) (λ t. silent (suc t)) (omega arith) one)
