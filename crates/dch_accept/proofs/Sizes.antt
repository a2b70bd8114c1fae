-- The sizes that a plan can give a frame.
use Rattle.std.proofs.Common.{ℕ, Bool, true, false, List, [], ◌∷◌, arith, refl, subst, inl, inr}
use Rattle.std.specs.Prelude.{Option, Some, None, find, filter, if◌then◌else◌, nat_le}
use Rattle.dch_types.specs.declared.config.Uplink.{Uplink}
use Rattle.dch_types.specs.Limits.{frame_sizes}
use Rattle.dch_frame.specs.declared.uplink_plan.Demand.{Demand}
use Rattle.dch_frame.specs.declared.uplink_plan.UplinkPlan.{UplinkPlan}
use Rattle.dch_frame.specs.Uplinks.{IsPlan, chosen, set2, in_set1, in_set2, one_code, raised, first_raised, codes}
use Rattle.dch_frame.specs.Sizes.{IsFrameSize}

-- a size, if there is one, is that of a frame
abbrev IsSized : Option ℕ → Type 0
IsSized None = Unit {0}
IsSized (Some n) = IsFrameSize n

-- each of these is the size of a frame
abbrev AreSizes : List ℕ → Type 0
AreSizes [] = Unit {0}
AreSizes (n ∷ sizes) = IsFrameSize n × AreSizes sizes

are_sizes : AreSizes frame_sizes
are_sizes = (record { code = λ _. inl refl; whole = refl }, (record { code = λ _. inr (inl refl); whole = refl }, (record { code = λ _. inr (inr (inl refl)); whole = refl }, (record { code = λ _. inr (inr (inr (inl refl))); whole = refl }, (record { code = λ _. inr (inr (inr (inr (inl refl)))); whole = refl }, (record { code = λ _. inr (inr (inr (inr (inr (inl refl))))); whole = refl }, (record { code = λ _. inr (inr (inr (inr (inr (inr refl))))); whole = refl }, (record { code = λ _. inr (inr (inr (inr (inr (inr refl))))); whole = refl }, (record { code = λ _. inr (inr (inr (inr (inr (inr refl))))); whole = refl }, (record { code = λ _. inr (inr (inr (inr (inr (inr refl))))); whole = refl }, (record { code = λ _. inr (inr (inr (inr (inr (inr refl))))); whole = refl }, (record { code = λ _. inr (inr (inr (inr (inr (inr refl))))); whole = refl }, tt))))))))))))

sized_if : (b : Bool) (x y : Option ℕ) → IsSized x → IsSized y → IsSized (if b then x else y)
sized_if true x y first second = first
sized_if false x y first second = second

size_if : (b : Bool) (m n : ℕ) → IsFrameSize m → IsFrameSize n → IsFrameSize (if b then m else n)
size_if true m n first second = first
size_if false m n first second = second

found_sized : (p : ℕ → Bool) (sizes : List ℕ) → AreSizes sizes → IsSized (find p sizes)
found_sized p [] all = tt
found_sized p (n ∷ sizes) all = sized_if (p n) (Some n) (find p sizes) all.0 (found_sized p sizes all.1)

filtered_if : (b : Bool) (n : ℕ) (sizes : List ℕ) → IsFrameSize n → AreSizes sizes → AreSizes (if b then n ∷ sizes else sizes)
filtered_if true n sizes first rest = (first, rest)
filtered_if false n sizes first rest = rest

filtered_sized : (p : ℕ → Bool) (sizes : List ℕ) → AreSizes sizes → AreSizes (filter p sizes)
filtered_sized p [] all = tt
filtered_sized p (n ∷ sizes) all = filtered_if (p n) n (filter p sizes) all.0 (filtered_sized p sizes all.1)

raised_sized : (n : ℕ) (sizes : List ℕ) → IsFrameSize n → AreSizes sizes → IsFrameSize (raised n sizes)
raised_sized n [] first all = first
raised_sized n (next ∷ sizes) first all = size_if (nat_le (codes next) (codes n)) (raised next sizes) n (raised_sized next sizes all.0 all.1) first

first_raised_sized : (sizes : List ℕ) → AreSizes sizes → IsSized (first_raised sizes)
first_raised_sized [] all = tt
first_raised_sized (n ∷ sizes) all = raised_sized n sizes all.0 all.1

chosen_sized : (demand : Demand) → IsSized (chosen demand)
unfolding chosen set2
chosen_sized demand =
    let least : Option ℕ = find (in_set1 demand) frame_sizes in
    let others : Option ℕ = first_raised (filter (in_set2 demand) frame_sizes) in
    let few : IsSized (if one_code least then least else others) = sized_if (one_code least) least others (found_sized (in_set1 demand) frame_sizes are_sizes) (first_raised_sized (filter (in_set2 demand) frame_sizes) (filtered_sized (in_set2 demand) frame_sizes are_sizes)) in
    sized_if _ (Some 0) _ (record { code = λ some. absurd (omega arith); whole = refl }) few

-- the size of a plan
pub plan_sized : (uplink : Uplink) (c : ℕ) (plan : UplinkPlan) → IsPlan uplink c plan → IsFrameSize plan.ndata
plan_sized uplink c plan is = let sized : IsSized (Some plan.ndata) = subst IsSized is.size (chosen_sized _) in sized
