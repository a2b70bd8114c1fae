-- Ages and discards stand for the sender behind each event.
use Rattle.std.proofs.Common.{◌≡◌, ◌+◌, ◌-◌, ◌<◌, ◌≤◌, ℕ, zero, suc, List, [], ◌∷◌, ◌++◌, length, drop, arith, refl, sym, ap, ◌∙◌, subst, ⊎_elim, length-drop, length-append}
use Rattle.std.specs.Prelude.{◌^◌, Some, max, min, slice_index}
use Rattle.std.proofs.lemmas.Bool.{cases_lt}
use Rattle.std.proofs.lemmas.List.{get_or_append_left, get_or-drop, get_or_past, get_or_push}
use Rattle.dch_bits.specs.declared.offer.Offer.TheVariants.{Accepted}
use Rattle.dch_am.specs.Rules.{Rules}
use Rattle.dch_am.specs.Numbers.{range}
use Rattle.dch_am.specs.Cuts.{IsCut}
use Rattle.dch_am.specs.Discards.{discards_at}
use Rattle.dch_am.specs.Restart.{begun, octets_in, restarted_sender}
use Rattle.dch_am.specs.Sender.{Sender, after_offer, discarded, vt_a, opened_sender}
use Rattle.dch_am.proofs.Reading.{cut_few, ends_split}
use Rattle.dch_am.proofs.Restarting.{begun_few, front_begun}
use Rattle.dch_amsend.specs.SduDiscard.{SduDiscard, age_at, capped, discarded_to, without_front, no_sdu_held, restarted_discards, one_tick_older, with_sdu}
use Rattle.dch_amsend.specs.DiscardStanding.{AreReleased, DiscardStands, HasSameSdus, IsTicked, released}
use Rattle.dch_amsend.proofs.Aging.{at_aged, length-aged}

-- what is kept after the same steps
same_stands : (rules : Rules) (h now : SduDiscard) (s : Sender) → now ≡ h → DiscardStands rules h s → DiscardStands rules now s
same_stands rules h now s e is = subst (λ x. DiscardStands rules x s) (sym e) is

-- an age of the same SDU at the same tick
same_tick : (a b m n : ℕ) (us ts : List ℕ) → us ≡ ts → a ≡ b → m ≡ n → min 65535 (a - slice_index ts m) ≡ min 65535 (b - slice_index us n)
same_tick a b m n us ts e p q = ap (λ x. min 65535 (x - slice_index ts m)) p ∙ (ap (λ x. min 65535 (b - slice_index ts x)) q ∙ ap (λ xs. min 65535 (b - slice_index xs n)) (sym e))

-- a sender that differs in no_sdu_held of which they tell
pub alike_stands : (rules : Rules) (h : SduDiscard) (s now : Sender) → HasSameSdus s now → DiscardStands rules h s → DiscardStands rules h now
alike_stands rules h s now a is = record {
  count = omega (arith, is.count, length-drop (released s) s.accepted, length-drop (released now) now.accepted, ap (λ (us : List (List ℕ)). length us) a.accepted, a.low);
  ages = λ i l on. is.ages i l on ∙ same_tick s.ticks now.ticks (released s + i) (released now + i) now.accepted_at s.accepted_at a.accepted_at (sym a.ticks) (omega (arith, a.low));
  early = λ i. omega (arith, is.early i, ap (λ ts. slice_index ts i) a.accepted_at, a.ticks);
  times = ap (λ (ts : List ℕ). length ts) a.accepted_at ∙ (is.times ∙ ap (λ (us : List (List ℕ)). length us) (sym a.accepted));
  passed = omega (arith, is.passed, a.dropped, a.low);
  discarded = is.discarded ∙ ap capped (sym a.discard_count);
}

-- counts that end at the greatest number
capped_none : 0 ≡ capped 0
unfolding capped
capped_none = omega arith

-- what is added to a count that has ended does not show
capped_more : (n k : ℕ) → capped (capped n + k) ≡ capped (k + n)
unfolding capped
capped_more n k = at_most (2 ^ 64 - 1)
  where
    at_most : (m : ℕ) → min (min n m + k) m ≡ min (k + n) m
    at_most m = omega arith

-- opening
pub opened_stands : (rules : Rules) (h : SduDiscard) (most : ℕ) → h ≡ no_sdu_held most → DiscardStands rules h opened_sender
opened_stands rules h most e = same_stands rules (no_sdu_held most) h opened_sender e (record {
  count = refl;
  ages = λ i l on. absurd (omega arith);
  early = λ i. omega arith;
  times = refl;
  passed = omega arith;
  discarded = capped_none;
})

-- no more SDUs are released than were accepted
pub few_released : (s : Sender) → IsCut s.accepted s.unsent s.bodies → released s ≤ length s.accepted
few_released s cut = omega (arith, cut_few s.accepted s.unsent s.bodies cut, ends_split (vt_a s) s.bodies)

-- the released SDUs and those that are held are the accepted ones
pub sdus_held : (rules : Rules) (h : SduDiscard) (s : Sender) → IsCut s.accepted s.unsent s.bodies → DiscardStands rules h s → released s + length h.ages ≡ length s.accepted
sdus_held rules h s cut is = omega (arith, is.count, length-drop (released s) s.accepted, few_released s cut)

-- an offer
pub accept_stands : (rules : Rules) (h now : SduDiscard) (s : Sender) (unit : List ℕ) → now ≡ with_sdu h → IsCut s.accepted s.unsent s.bodies → DiscardStands rules h s → DiscardStands rules now (after_offer Accepted s unit)
accept_stands rules h now s unit e cut is = same_stands rules (with_sdu h) now (after_offer Accepted s unit) e (record {
  count = omega (arith, is.count, few_released s cut, length-append h.ages (0 ∷ []), length-append s.accepted (unit ∷ []), length-drop (released s) s.accepted, length-drop (released s) (s.accepted ++ unit ∷ []));
  ages = ages;
  early = early;
  times = omega (arith, is.times, length-append s.accepted_at (s.ticks ∷ []), length-append s.accepted (unit ∷ []));
  passed = is.passed;
  discarded = is.discarded;
})
  where
    count : released s + length h.ages ≡ length s.accepted_at
    count = sdus_held rules h s cut is ∙ sym is.times

    old_time : (i : ℕ) → i < length s.accepted_at → slice_index (s.accepted_at ++ s.ticks ∷ []) i ≡ slice_index s.accepted_at i
    old_time i l = get_or_append_left s.accepted_at (s.ticks ∷ []) 0 i l

    new_time : (i : ℕ) → length s.accepted_at ≡ i → slice_index (s.accepted_at ++ s.ticks ∷ []) i ≡ s.ticks
    new_time i l = get_or_push s.accepted_at s.ticks 0 i l

    ages : (i : ℕ) → i < length (h.ages ++ 0 ∷ []) → 0 < rules.discard_age → slice_index (h.ages ++ 0 ∷ []) i ≡ min 65535 (s.ticks - slice_index (s.accepted_at ++ s.ticks ∷ []) (released s + i))
    ages i l on = ⊎_elim old new (cases_lt i (length h.ages))
      where
        old : i < length h.ages → slice_index (h.ages ++ 0 ∷ []) i ≡ min 65535 (s.ticks - slice_index (s.accepted_at ++ s.ticks ∷ []) (released s + i))
        old m = get_or_append_left h.ages (0 ∷ []) 0 i m ∙ (is.ages i m on ∙ ap (λ t. min 65535 (s.ticks - t)) (sym (old_time (released s + i) (omega (arith, count)))))

        new : length h.ages ≤ i → slice_index (h.ages ++ 0 ∷ []) i ≡ min 65535 (s.ticks - slice_index (s.accepted_at ++ s.ticks ∷ []) (released s + i))
        new m = get_or_push h.ages 0 0 i (omega (arith, length-append h.ages (0 ∷ []))) ∙ omega (arith, new_time (released s + i) (omega (arith, count, length-append h.ages (0 ∷ []))))

    early : (i : ℕ) → slice_index (s.accepted_at ++ s.ticks ∷ []) i ≤ s.ticks
    early i = ⊎_elim old new (cases_lt i (length s.accepted_at))
      where
        old : i < length s.accepted_at → slice_index (s.accepted_at ++ s.ticks ∷ []) i ≤ s.ticks
        old m = omega (arith, old_time i m, is.early i)

        past : length s.accepted_at < i → slice_index (s.accepted_at ++ s.ticks ∷ []) i ≤ s.ticks
        past m = omega (arith, get_or_past (s.accepted_at ++ s.ticks ∷ []) i 0 (omega (arith, length-append s.accepted_at (s.ticks ∷ []))))

        new : length s.accepted_at ≤ i → slice_index (s.accepted_at ++ s.ticks ∷ []) i ≤ s.ticks
        new m = ⊎_elim past (λ n. omega (arith, new_time i (omega arith))) (cases_lt (length s.accepted_at) i)

-- SDUs in front are released
pub released_stands : (rules : Rules) (h after : SduDiscard) (s now : Sender) (sdus : ℕ) → after ≡ without_front sdus h → AreReleased sdus s now → DiscardStands rules h s → DiscardStands rules after now
released_stands rules h after s now sdus e a is = same_stands rules (without_front sdus h) after now e (record {
  count = omega (arith, is.count, length-drop sdus h.ages, length-drop (released s) s.accepted, length-drop (released now) now.accepted, ap (λ (us : List (List ℕ)). length us) a.accepted, a.low);
  ages = λ i l on. get_or-drop sdus h.ages i 0 ∙ (is.ages (sdus + i) (omega (arith, l, length-drop sdus h.ages)) on ∙ same_tick s.ticks now.ticks (released s + (sdus + i)) (released now + i) now.accepted_at s.accepted_at a.accepted_at (sym a.ticks) (omega (arith, a.low)));
  early = λ i. omega (arith, is.early i, ap (λ ts. slice_index ts i) a.accepted_at, a.ticks);
  times = ap (λ (ts : List ℕ). length ts) a.accepted_at ∙ (is.times ∙ ap (λ (us : List (List ℕ)). length us) (sym a.accepted));
  passed = omega (arith, is.passed, a.dropped, a.low);
  discarded = is.discarded ∙ ap capped (sym a.discard_count);
})

-- a tick
one_older : (age time ticks : ℕ) → time ≤ ticks → age ≡ min 65535 (ticks - time) → min (age + 1) 65535 ≡ min 65535 (ticks + 1 - time)
one_older age time ticks le e = omega arith

-- all SDUs are one older
pub ticked_stands : (rules : Rules) (h after : SduDiscard) (s now : Sender) → after ≡ one_tick_older h → IsTicked s now → DiscardStands rules h s → DiscardStands rules after now
ticked_stands rules h after s now e a is = same_stands rules (one_tick_older h) after now e (record {
  count = omega (arith, is.count, length-aged h.ages, length-drop (released s) s.accepted, length-drop (released now) now.accepted, ap (λ (us : List (List ℕ)). length us) a.accepted, a.low);
  ages = λ i l on. at_aged h.ages i (omega (arith, l, length-aged h.ages)) ∙ (one_older (age_at h i) (slice_index s.accepted_at (released s + i)) s.ticks (is.early (released s + i)) (is.ages i (omega (arith, l, length-aged h.ages)) on) ∙ same_tick (s.ticks + 1) now.ticks (released s + i) (released now + i) now.accepted_at s.accepted_at a.accepted_at (sym a.ticks) (omega (arith, a.low)));
  early = λ i. omega (arith, is.early i, ap (λ ts. slice_index ts i) a.accepted_at, a.ticks);
  times = ap (λ (ts : List ℕ). length ts) a.accepted_at ∙ (is.times ∙ ap (λ (us : List (List ℕ)). length us) (sym a.accepted));
  passed = omega (arith, is.passed, a.dropped, a.low);
  discarded = is.discarded ∙ ap capped (sym a.discard_count);
})

-- SDUs in front are discarded
length-range : (first n : ℕ) → length (range first n) ≡ n
length-range first zero = refl
length-range first (suc n) = ap suc (length-range (first + 1) n)

-- each is counted once
pub discarding_stands : (rules : Rules) (h after : SduDiscard) (s : Sender) (to r : ℕ) (p : ℕ × ℕ) → after ≡ discarded_to to h → to ≡ r + 1 → DiscardStands rules h s → DiscardStands rules after (discards_at s (released s + r) (Some p))
discarding_stands rules h after s to r p e to_is is = same_stands rules (discarded_to to h) after (discards_at s (released s + r) (Some p)) e (record {
  count = is.count;
  ages = is.ages;
  early = is.early;
  times = is.times;
  passed = omega (arith, to_is);
  discarded = ap (λ n. capped (n + (to - h.passed))) is.discarded ∙ (capped_more (discarded s) (to - h.passed) ∙ ap capped (omega (arith, to_is, is.passed, length-append (range from count) s.discarded_units, length-range from count)));
})
  where
    from : ℕ
    from = max s.dropped (released s)

    count : ℕ
    count = released s + r + 1 - max s.dropped (released s)

-- the sender begins anew with the SDUs of which no_sdu_held was built
pub restarted_stands : (rules : Rules) (h after : SduDiscard) (s : Sender) (kept : ℕ) → after ≡ restarted_discards kept h → kept ≡ length (restarted_sender s).accepted → IsCut s.accepted s.unsent s.bodies → DiscardStands rules h s → DiscardStands rules after (restarted_sender s)
restarted_stands rules h after s kept e count cut is = same_stands rules (restarted_discards kept h) after (restarted_sender s) e (record {
  count = omega (arith, count, more, length-drop fewer h.ages, length-drop (begun s) s.accepted, sdus_held rules h s cut is);
  ages = λ i l on. get_or-drop fewer h.ages i 0 ∙ (is.ages (fewer + i) (omega (arith, l, length-drop fewer h.ages)) on ∙ ap (λ t. min 65535 (s.ticks - t)) (time i));
  early = λ i. omega (arith, get_or-drop (begun s) s.accepted_at i 0, is.early (begun s + i));
  times = omega (arith, length-drop (begun s) s.accepted_at, length-drop (begun s) s.accepted, is.times);
  passed = omega arith;
  discarded = is.discarded ∙ ap capped (omega arith);
})
  where
    fewer : ℕ
    fewer = length h.ages - kept

    more : released s + fewer ≡ begun s
    more = omega (arith, count, length-drop (begun s) s.accepted, sdus_held rules h s cut is, front_begun s.accepted s.unsent s.bodies (vt_a s) cut, begun_few (octets_in s.bodies) s.accepted)

    time : (i : ℕ) → slice_index s.accepted_at (released s + (fewer + i)) ≡ slice_index (drop (begun s) s.accepted_at) (0 + i)
    time i =
        let old : released s + (fewer + i) ≡ begun s + i = omega (arith, more) in
        let new : i ≡ 0 + i = omega arith in
        ap (slice_index s.accepted_at) old ∙ (sym (get_or-drop (begun s) s.accepted_at i 0) ∙ ap (slice_index (drop (begun s) s.accepted_at)) new)
