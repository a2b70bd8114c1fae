-- Legal sequences radio frame by radio frame.
use Rattle.std.proofs.Common.{◌≡◌, ◌<◌, ◌≤◌, ◌+◌, ◌-◌, ◌%◌, ◌/◌, ℕ, zero, suc, true, List, length, get_or, refl, sym, ap, ◌∙◌, subst, arith, inl, inr}
use Rattle.std.proofs.lemmas.Bool.{cases_lt}
use Rattle.dch_types.specs.declared.channel.Side.{Side}
use Rattle.dch_types.specs.Limits.{IsSide, IsFrames}
use Rattle.dch_types.specs.Parts.{format_number}
use Rattle.dch_collision.specs.Sequences.{IsLegal, frames_of}
use Rattle.dch_collision.specs.Steps.{fits, previous_of}
use Rattle.dch_collision.proofs.Following.{fits_from, fits_format, fits_stays, stays_from, stays_same}

-- in each radio frame of a list stands a combination that fits after the one before
pub record IsChain (side : Side) (i f : ℕ) (sequence : List ℕ) : Type 0 where
  pub there : (n : ℕ) → n < length sequence → get_or sequence n 0 < length side.combinations
  pub step : (n : ℕ) → n < length sequence → fits side i f n (previous_of sequence n) (get_or sequence n 0) ≡ true

-- what holds of 1, 2, 4 and 8 holds of the radio frames of every TTI
each_frames : (P : ℕ → Type 0) → P 1 → P 2 → P 4 → P 8 → (frames : ℕ) → IsFrames frames → P frames
each_frames P one two four eight frames (inl e) = subst P (sym e) one
each_frames P one two four eight frames (inr (inl e)) = subst P (sym e) two
each_frames P one two four eight frames (inr (inr (inl e))) = subst P (sym e) four
each_frames P one two four eight frames (inr (inr (inr e))) = subst P (sym e) eight

-- a radio frame that is no TTI's first one lies in the TTI of the one before
going_on : (frames : ℕ) → IsFrames frames → (n : ℕ) → (suc n % frames ≡ 0 → ⊥) → suc n / frames ≡ n / frames
going_on = each_frames (λ frames. (n : ℕ) → (suc n % frames ≡ 0 → ⊥) → suc n / frames ≡ n / frames)
    (λ n going. absurd (going (omega arith))) (λ n going. omega arith) (λ n going. omega arith) (λ n going. omega arith)

-- between two radio frames of one TTI none starts
same_before : (frames : ℕ) → IsFrames frames → (n m : ℕ) → n ≤ m → suc m / frames ≡ n / frames → m / frames ≡ n / frames
same_before = each_frames (λ frames. (n m : ℕ) → n ≤ m → suc m / frames ≡ n / frames → m / frames ≡ n / frames)
    (λ n m order same. omega arith) (λ n m order same. omega arith) (λ n m order same. omega arith) (λ n m order same. omega arith)

none_starts : (frames : ℕ) → IsFrames frames → (n m : ℕ) → n ≤ m → suc m / frames ≡ n / frames → suc m % frames ≡ 0 → ⊥
none_starts = each_frames (λ frames. (n m : ℕ) → n ≤ m → suc m / frames ≡ n / frames → suc m % frames ≡ 0 → ⊥)
    (λ n m order same start. omega arith) (λ n m order same start. omega arith) (λ n m order same start. omega arith) (λ n m order same start. omega arith)

short : (frames : ℕ) → IsFrames frames → (n : ℕ) → n < frames → n / frames ≡ 0
short = each_frames (λ frames. (n : ℕ) → n < frames → n / frames ≡ 0)
    (λ n less. omega arith) (λ n less. omega arith) (λ n less. omega arith) (λ n less. omega arith)

-- a channel keeps its format over each of its TTIs
keeps : (side : Side) (i f : ℕ) (sequence : List ℕ) → IsSide side → IsChain side i f sequence → (j n d : ℕ) → j < length side.channels → d + n < length sequence
    → (d + n) / frames_of side j ≡ n / frames_of side j → format_number side (get_or sequence (d + n) 0) j ≡ format_number side (get_or sequence n 0) j
keeps side i f sequence good chain j n zero inside within same = let none : 0 + n ≡ n = omega arith in ap (λ k. format_number side (get_or sequence k 0) j) none
keeps side i f sequence good chain j n (suc d) inside within same =
    let next : suc d + n ≡ suc (d + n) = omega arith in
    let together : suc (d + n) / frames_of side j ≡ n / frames_of side j = ap (λ k. k / frames_of side j) (sym next) ∙ same in
    let before : (d + n) / frames_of side j ≡ n / frames_of side j = same_before (frames_of side j) (good.channels j inside).frames n (d + n) (omega arith) together in
    let going : suc (d + n) % frames_of side j ≡ 0 → ⊥ = none_starts (frames_of side j) (good.channels j inside).frames n (d + n) (omega arith) together in
    let fit : fits side i f (suc (d + n)) (get_or sequence (d + n) 0) (get_or sequence (suc (d + n)) 0) ≡ true = chain.step (suc (d + n)) (omega arith) in
    ap (λ k. format_number side (get_or sequence k 0) j) next
    ∙ stays_same (suc (d + n) % frames_of side j) 0 (format_number side (get_or sequence (suc (d + n)) 0) j) (format_number side (get_or sequence (d + n) 0) j)
    (fits_stays side i f (suc (d + n)) (get_or sequence (d + n) 0) (get_or sequence (suc (d + n)) 0) j fit inside) going
    ∙ keeps side i f sequence good chain j n d inside (omega arith) before

keeps_up : (side : Side) (i f : ℕ) (sequence : List ℕ) → IsSide side → IsChain side i f sequence → (j n m : ℕ) → j < length side.channels → n ≤ m → m < length sequence
    → m / frames_of side j ≡ n / frames_of side j → format_number side (get_or sequence m 0) j ≡ format_number side (get_or sequence n 0) j
keeps_up side i f sequence good chain j n m inside order within same =
    let split : m - n + n ≡ m = omega arith in
    ap (λ k. format_number side (get_or sequence k 0) j) (sym split)
    ∙ keeps side i f sequence good chain j n (m - n) inside (omega arith) (ap (λ k. k / frames_of side j) split ∙ same)

-- a chain of the right length is legal
pub chain_legal : (side : Side) (i f : ℕ) (sequence : List ℕ) → IsSide side → length sequence ≡ frames_of side i → IsChain side i f sequence → IsLegal side i f sequence
chain_legal side i f sequence good whole chain = record {
  whole = whole;
  there = chain.there;
  format = λ n within. fits_format side i f n (previous_of sequence n) (get_or sequence n 0) (chain.step n within);
  constant = λ j n m inside within_n within_m same. elim (cases_lt n m) [
    | inl before ↦ sym (keeps_up side i f sequence good chain j n m inside (omega arith) within_m (sym same))
    | inr after ↦ keeps_up side i f sequence good chain j m n inside after within_n same
  ];
}

-- and a legal sequence is a chain
legal_step : (side : Side) (i f : ℕ) (sequence : List ℕ) → IsSide side → IsLegal side i f sequence → (n : ℕ) → n < length sequence
    → fits side i f n (previous_of sequence n) (get_or sequence n 0) ≡ true
legal_step side i f sequence good legal zero within =
    fits_from side i f 0 0 (get_or sequence 0 0) (legal.format 0 within)
    (λ j inside. stays_from (0 % frames_of side j) 0 (format_number side (get_or sequence 0 0) j) (format_number side 0 j) (λ going. absurd (going (starts j inside))))
  where
    starts : (j : ℕ) → j < length side.channels → 0 % frames_of side j ≡ 0
    starts j inside = each_frames (λ frames. 0 % frames ≡ 0) refl refl refl refl (frames_of side j) (good.channels j inside).frames
legal_step side i f sequence good legal (suc n) within =
    fits_from side i f (suc n) (get_or sequence n 0) (get_or sequence (suc n) 0) (legal.format (suc n) within)
    (λ j inside. stays_from (suc n % frames_of side j) 0 (format_number side (get_or sequence (suc n) 0) j) (format_number side (get_or sequence n 0) j)
    (λ going. legal.constant j (suc n) n inside within (omega arith) (going_on (frames_of side j) (good.channels j inside).frames n going)))

pub legal_chain : (side : Side) (i f : ℕ) (sequence : List ℕ) → IsSide side → IsLegal side i f sequence → IsChain side i f sequence
legal_chain side i f sequence good legal = record { there = legal.there; step = legal_step side i f sequence good legal }

pub some_frames : (side : Side) (i : ℕ) → IsSide side → i < length side.channels → 0 < frames_of side i
some_frames side i good inside = each_frames (λ frames. 0 < frames) (omega arith) (omega arith) (omega arith) (omega arith) (frames_of side i) (good.channels i inside).frames

pub few_frames : (side : Side) (i : ℕ) → IsSide side → i < length side.channels → frames_of side i ≤ 8
few_frames side i good inside = each_frames (λ frames. frames ≤ 8) (omega arith) (omega arith) (omega arith) (omega arith) (frames_of side i) (good.channels i inside).frames
