-- The combination in which all channels that start are idle is in the list.
use Rattle.std.proofs.Common.{◌≡◌, ◌<◌, ◌≤◌, ◌%◌, ℕ, zero, suc, List, [], ◌∷◌, true, false, length, get_or, nat_le, nat_lt, refl, ap, sym, ◌∙◌, subst, arith, inl, inr}
use Rattle.std.specs.Prelude.{◌==◌, if◌then◌else◌}
use Rattle.std.proofs.lemmas.Bool.{and_parts, cases_eq, cases_lt}
use Rattle.std.proofs.lemmas.List.{get_or_default}
use Rattle.std.proofs.lemmas.Bool.Decides.{nat_tests}
use Rattle.dch_types.specs.declared.channel.Coding.TheVariants.{Uncoded}
use Rattle.dch_types.specs.declared.channel.Crc.TheVariants.{C0}
use Rattle.dch_types.specs.declared.channel.Trch.{Trch}
use Rattle.dch_types.specs.declared.channel.Combination.{Combination}
use Rattle.dch_types.specs.declared.channel.Side.{Side}
use Rattle.dch_types.specs.Limits.{IsFrames, idle_format, idled}
use Rattle.dch_types.specs.Parts.{channel_at, combination_at, format_number}
use Rattle.dch_types.specs.Timing.{starts}
use Rattle.dch_mac.specs.Asked.{Asked, IsAsked}
use Rattle.dch_mac.specs.Candidates.{IsCandidate}

-- the TTIs that start at a frame number are those of at most so many frames
record IsReach (cfn longest : ℕ) : Type 0 where
  frames : IsFrames longest
  starts : (f : ℕ) → IsFrames f → cfn % f ≡ 0 → f ≤ longest
  going : (f : ℕ) → IsFrames f → f ≤ longest → cfn % f ≡ 0

-- what holds of 1, 2, 4 and 8 holds of the frames of every TTI
each_frames : (P : ℕ → Type 0) → P 1 → P 2 → P 4 → P 8 → (f : ℕ) → IsFrames f → P f
each_frames P one two four eight f (inl e) = subst P (sym e) one
each_frames P one two four eight f (inr (inl e)) = subst P (sym e) two
each_frames P one two four eight f (inr (inr (inl e))) = subst P (sym e) four
each_frames P one two four eight f (inr (inr (inr e))) = subst P (sym e) eight

reach : (cfn : ℕ) → (longest : ℕ) × IsReach cfn longest
reach cfn = elim (cases_eq (cfn % 8) 0) [
  | inl eight ↦ (
    8,
    record {
      frames = inr (inr (inr refl));
      starts = each_frames (λ f. cfn % f ≡ 0 → f ≤ 8) (λ h. omega arith) (λ h. omega arith) (λ h. omega arith) (λ h. omega arith);
      going = each_frames (λ f. f ≤ 8 → cfn % f ≡ 0) (λ h. omega arith) (λ h. omega arith) (λ h. omega arith) (λ h. omega arith);
    },
  )
  | inr no_eight ↦ elim (cases_eq (cfn % 4) 0) [
    | inl four ↦ (
      4,
      record {
        frames = inr (inr (inl refl));
        starts = each_frames (λ f. cfn % f ≡ 0 → f ≤ 4) (λ h. omega arith) (λ h. omega arith) (λ h. omega arith) (λ h. absurd (no_eight h));
        going = each_frames (λ f. f ≤ 4 → cfn % f ≡ 0) (λ h. omega arith) (λ h. omega arith) (λ h. omega arith) (λ h. omega arith);
      },
    )
    | inr no_four ↦ elim (cases_eq (cfn % 2) 0) [
      | inl two ↦ (
        2,
        record {
          frames = inr (inl refl);
          starts = each_frames (λ f. cfn % f ≡ 0 → f ≤ 2) (λ h. omega arith) (λ h. omega arith) (λ h. absurd (no_four h)) (λ h. absurd (no_eight h));
          going = each_frames (λ f. f ≤ 2 → cfn % f ≡ 0) (λ h. omega arith) (λ h. omega arith) (λ h. omega arith) (λ h. omega arith);
        },
      )
      | inr no_two ↦ (
        1,
        record {
          frames = inl refl;
          starts = each_frames (λ f. cfn % f ≡ 0 → f ≤ 1) (λ h. omega arith) (λ h. absurd (no_two h)) (λ h. absurd (no_four h)) (λ h. absurd (no_eight h));
          going = each_frames (λ f. f ≤ 1 → cfn % f ≡ 0) (λ h. omega arith) (λ h. omega arith) (λ h. omega arith) (λ h. omega arith);
        },
      )
    ]
  ]
]

-- a channel's format after idling
idled_at : (longest : ℕ) (channels : List Trch) (formats : List ℕ) (i : ℕ) (d : Trch) → i < length channels → length formats ≡ length channels
    → get_or (idled longest channels formats) i 0 ≡ (if nat_le (get_or channels i d).frames longest then idle_format (get_or channels i d) else get_or formats i 0)
idled_at longest [] formats i d inside same = absurd (omega arith)
idled_at longest (channel ∷ channels) [] i d inside same = absurd (omega arith)
idled_at longest (channel ∷ channels) (f ∷ formats) zero d inside same = refl
idled_at longest (channel ∷ channels) (f ∷ formats) (suc i) d inside same = idled_at longest channels formats i d (omega arith) (omega arith)

is_within : (f longest : ℕ) → f ≤ longest → nat_le f longest ≡ true
is_within f longest h = grind (arith, nat_tests)

is_beyond : (f longest : ℕ) → longest < f → nat_le f longest ≡ false
is_beyond f longest h = grind (arith, nat_tests)

-- a TTI starts where its frames divide the frame number, and else it goes on
starting_divides : (frames cfn : ℕ) → starts frames cfn ≡ true → cfn % frames ≡ 0
starting_divides frames cfn h = grind (arith, nat_tests, (and_parts (nat_lt 0 frames) (cfn % frames == 0) h).1)

going_not : (frames cfn : ℕ) → 0 < frames → starts frames cfn ≡ false → cfn % frames ≡ 0 → ⊥
going_not frames cfn some h divides =
    let positive : nat_lt 0 frames ≡ true = grind (arith, nat_tests) in
    let zero_left : (cfn % frames == 0) ≡ true = grind (arith, nat_tests) in
    let yes : starts frames cfn ≡ true = rw (positive, zero_left) refl in
    cc

some_frames : (f : ℕ) → IsFrames f → 0 < f
some_frames = each_frames (λ f. 0 < f) (omega arith) (omega arith) (omega arith) (omega arith)

-- one that may always be chosen
pub some_candidate : (asked : Asked) → IsAsked asked → (c : ℕ) × IsCandidate asked c
some_candidate asked good =
    let side : Side = asked.side in
    let running : List ℕ = (combination_at side asked.running).formats in
    let (longest, reached) = reach asked.cfn in
    let here = good.side.combinations asked.running good.running in
    let target : Combination = record { formats = idled longest side.channels running } in
    let (k, there, found) = here.closed longest reached.frames in
    let same : combination_at side k ≡ target = get_or_default side.combinations k (record { formats = [] }) target there ∙ found in
    let at : (i : ℕ) → i < length side.channels → format_number side k i ≡ (if nat_le (channel_at side i).frames longest then idle_format (channel_at side i) else format_number side asked.running i)
    = λ i inside. ap (λ combination. get_or combination.formats i 0) same ∙ idled_at longest side.channels running i (record { frames = 1; coding = Uncoded; crc = C0; rm = 1; set = 0; formats = [] }) inside here.width in (
      k,
      record {
        there = there;
        kept = λ i inside going.
            let beyond : longest < (channel_at side i).frames = elim (cases_lt longest (channel_at side i).frames) [
              | inl past ↦ past
              | inr within ↦ absurd (going_not (channel_at side i).frames asked.cfn (some_frames (channel_at side i).frames (good.side.channels i inside).frames) going (reached.going (channel_at side i).frames (good.side.channels i inside).frames within))
            ] in
            at i inside ∙ ap (λ b. if b then idle_format (channel_at side i) else format_number side asked.running i) (is_beyond (channel_at side i).frames longest beyond);
        may = inr (λ i inside starting.
            let within : (channel_at side i).frames ≤ longest = reached.starts (channel_at side i).frames (good.side.channels i inside).frames (starting_divides (channel_at side i).frames asked.cfn starting) in
            at i inside ∙ ap (λ b. if b then idle_format (channel_at side i) else format_number side asked.running i) (is_within (channel_at side i).frames longest within));
      },
    )
