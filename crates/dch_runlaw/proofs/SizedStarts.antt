-- At the start of TTIs each channel is given just the blocks of its format.
use Rattle.std.proofs.Common.{◌≡◌, ◌<◌, ◌≤◌, ◌+◌, ◌-◌, ◌*◌, ℕ, zero, suc, List, [], ◌∷◌, ◌++◌, true, cond, ◌&&◌, ◌||◌, Option, Some, None, length, arith, refl, sym, ap, ap₂, ◌∙◌, subst, ⊎_elim, length-append}
use Rattle.std.specs.Prelude.{◌==◌, min, nat_le}
use Rattle.std.proofs.lemmas.Bool.Decides.{nat_tests}
use Rattle.std.proofs.lemmas.List.{append-nil}
use Rattle.std.proofs.lemmas.List.FromFn.{get_or-map-range_with_len}
use Rattle.std.proofs.Math.Nat.{zero-mul, mul-zero}
use Rattle.dch_bits.specs.declared.bit.Bit.{Bit}
use Rattle.dch_types.specs.declared.channel.Dir.{Dir}
use Rattle.dch_types.specs.declared.channel.Format.{Format}
use Rattle.dch_types.specs.declared.config.Config.{Config}
use Rattle.dch_types.specs.Limits.{idle_format, is_idle}
use Rattle.dch_types.specs.Parts.{channel_at, format_at, format_number, side_of}
use Rattle.dch_config.specs.Bearers.{names}
use Rattle.dch_config.specs.Changes.{KeepsBearer}
use Rattle.dch_config.specs.Good.{IsGood}
use Rattle.dch_accept.specs.Blocks.{bits_of}
use Rattle.dch_mac.specs.declared.head.Head.{Head}
use Rattle.dch_mac.specs.Asked.{Asked, format_in, priority_of, starts}
use Rattle.dch_mac.specs.Candidates.{IsCandidate, IsServed, StartsIdle}
use Rattle.dch_mac.specs.Offered.{ahead, fits, given, head_at, offered, waiting}
use Rattle.dch_layer2.specs.Bearings.{Bearing, channel_of, head_of}
use Rattle.dch_layer2.specs.Building.{Gives}
use Rattle.dch_layer2.specs.Layers.{Given, Layer, changed_layer, opened_layer}
use Rattle.dch_layer2.specs.Starting.{IsStart, asked_in, blocks_for, count_on, in_turn, is_on, joined, of_priority}
use Rattle.dch_layer2.proofs.Good.{there}
use Rattle.dch_layer2.proofs.PduSizes.{side_good}
use Rattle.dch_layer2.specs.Joined.{joined_bits}
use Rattle.dch_layer2.proofs.Openings.{idle_is_idle}
use Rattle.dch_layer2.proofs.Sums.{both_true, either, number_same}
use Rattle.dch_layer2.proofs.Turns.{joined-append}
use Rattle.dch_runlaw.specs.Sized.{AreGiven, AreSized}
use Rattle.dch_runlaw.proofs.SizedBlocks.{Fits, gives_count, gives_fits, gives_sized, opened_fits, kept_fits}
use Rattle.dch_runlaw.proofs.SizedSums.{all_give, sum_on, sum_on-append}

-- blocks of a size, and how many they are
record Row (size n : ℕ) (blocks : List (List Bit)) : Type 0 where
  sized : AreSized size blocks
  count : length blocks ≡ n

sized-append : (size : ℕ) (xs ys : List (List Bit)) → AreSized size xs → AreSized size ys → AreSized size (xs ++ ys)
sized-append size [] ys h k = k
sized-append size (x ∷ xs) ys h k = (h.0, h.1, sized-append size xs ys h.2 k)

sized_bits : (size : ℕ) (xs : List (List Bit)) → AreSized size xs → length (joined_bits xs) ≡ length xs * size
sized_bits size [] h = sym (zero-mul size)
sized_bits size (x ∷ xs) h = length-append x (joined_bits xs) ∙ ap₂ (λ a b. a + b) h.0 (sized_bits size xs h.2) ∙ more (length xs) size
  where
    more : (n s : ℕ) → s + n * s ≡ suc n * s
    more n s = grind (arith)

-- a bearer on a channel that starts
named_is : (o : Option ℕ) (i : ℕ) → names o i ≡ true → o ≡ Some i
named_is None i e = absurd (cc)
named_is (Some j) i e = ap (λ (k : ℕ). Some k) (number_same j i e)

fit_size : (asked : Asked) (i size b : ℕ) → 1 ≤ offered asked i size b → ((head_at asked b).size ≡ size) × (offered asked i size b ≡ (head_at asked b).count)
unfolding offered
fit_size asked i size b l = either (fits asked i size b)
    (λ e. (number_same (head_at asked b).size size (both_true _ _ e).1, rw e refl))
    (λ e. absurd (omega (arith, l, ap (λ c. cond c (head_at asked b).count 0) e)))

head_there : (config : Config) (out : Dir) (cfn : ℕ) (layer : Layer) (b : ℕ) → b < length config.bearers → head_at (asked_in config out cfn layer) b ≡ head_of config out b (layer.bearings b)
head_there config out cfn layer b l = get_or-map-range_with_len (λ c. head_of config out c (layer.bearings c)) 0 (length config.bearers) b b (record { size = 0; count = 0 }) l (omega arith)

one_built : (config : Config) (out : Dir) (cfn i : ℕ) (format : Format) (layer : Layer) (b : ℕ) (new : Bearing) (blocks : List (List Bit)) → IsGood config → Fits config out b (layer.bearings b) → channel_of config out b ≡ Some i
    → Gives config out b (given (asked_in config out cfn layer) i format b) (layer.bearings b) new blocks → Row format.size (given (asked_in config out cfn layer) i format b) blocks
one_built config out cfn i format layer b new blocks good f on g = record { sized = go (given asked i format b) refl g; count = gives_count config out b (given asked i format b) (layer.bearings b) new blocks g }
  where
    asked : Asked
    asked = asked_in config out cfn layer

    within : (n : ℕ) → suc n ≡ min (offered asked i format.size b) (format.number - ahead asked i format.size b) → suc n ≤ offered asked i format.size b
    within n e = grind (arith, nat_tests, e)

    go : (n : ℕ) → given asked i format b ≡ n → Gives config out b (given asked i format b) (layer.bearings b) new blocks → AreSized format.size blocks
    go zero e g = let h : Gives config out b zero (layer.bearings b) new blocks = subst (λ n. Gives config out b n (layer.bearings b) new blocks) e g in subst (AreSized format.size) (sym h.1) tt
    go (suc n) e g =
        let h : Gives config out b (suc n) (layer.bearings b) new blocks = subst (λ n. Gives config out b n (layer.bearings b) new blocks) e g in
        let low : suc n ≤ offered asked i format.size b = within n (sym e) in
        let fit = fit_size asked i format.size b (omega (arith, low)) in
        let head = head_there config out cfn layer b (there config out b i on) in
        let size : (head_of config out b (layer.bearings b)).size ≡ format.size = ap (λ (x : Head). x.size) (sym head) ∙ fit.0 in
        let count : offered asked i format.size b ≡ (head_of config out b (layer.bearings b)).count = fit.1 ∙ ap (λ (x : Head). x.count) head in
        subst (λ s. AreSized s blocks) size (gives_sized config out b i (suc n) (layer.bearings b) new blocks good on f (omega (arith, low, count)) h)

-- all bearers of a channel in turn
row-append : (size m n : ℕ) (xs ys : List (List Bit)) → Row size m xs → Row size n ys → Row size (m + n) (xs ++ ys)
row-append size m n xs ys r s = record { sized = sized-append size xs ys r.sized s.sized; count = length-append xs ys ∙ ap₂ (λ a b. a + b) r.count s.count }

abbrev TurnRow : Asked → ℕ → Format → (ℕ → List (List Bit)) → List ℕ → Type 0
TurnRow asked i format built bs = Row format.size (sum_on (given asked i format) bs) (joined built bs)

turns-append : (asked : Asked) (i : ℕ) (format : Format) (built : ℕ → List (List Bit)) (xs ys : List ℕ) → TurnRow asked i format built xs → TurnRow asked i format built ys → TurnRow asked i format built (xs ++ ys)
turns-append asked i format built xs ys r s =
    subst (Row format.size (sum_on (given asked i format) (xs ++ ys))) (sym (joined-append built xs ys))
    (subst (λ n. Row format.size n (joined built xs ++ joined built ys)) (sym (sum_on-append (given asked i format) xs ys))
    (row-append format.size (sum_on (given asked i format) xs) (sum_on (given asked i format) ys) (joined built xs) (joined built ys) r s))

of_some : (asked : Asked) (i : ℕ) (format : Format) (built : ℕ → List (List Bit)) (q n : ℕ) → ((b : ℕ) → is_on asked i b ≡ true → Row format.size (given asked i format b) (built b)) → TurnRow asked i format built (of_priority asked i q n)
of_some asked i format built q zero each = record { sized = tt; count = refl }
of_some asked i format built q (suc b) each = either (priority_of asked b == q && is_on asked i b)
    (λ e. rw e (turns-append asked i format built (of_priority asked i q b) (b ∷ []) (of_some asked i format built q b each) (one (each b (both_true _ _ e).1))))
    (λ e. rw e (subst (TurnRow asked i format built) (sym (append-nil (of_priority asked i q b))) (of_some asked i format built q b each)))
  where
    one : Row format.size (given asked i format b) (built b) → TurnRow asked i format built (b ∷ [])
    one r = subst (Row format.size (given asked i format b + 0)) (sym (append-nil (built b))) (subst (λ n. Row format.size n (built b)) (omega arith) r)

turn_rows : (asked : Asked) (i : ℕ) (format : Format) (built : ℕ → List (List Bit)) (q : ℕ) → ((b : ℕ) → is_on asked i b ≡ true → Row format.size (given asked i format b) (built b)) → TurnRow asked i format built (in_turn asked i q)
turn_rows asked i format built zero each = record { sized = tt; count = refl }
turn_rows asked i format built (suc q) each = turns-append asked i format built (in_turn asked i q) (of_priority asked i (suc q) (length asked.bearers)) (turn_rows asked i format built q each) (of_some asked i format built (suc q) (length asked.bearers) each)

-- the format's bits
no_bits : (number size w : ℕ) → number * size ≡ 0 → min number w * size ≡ number * size
no_bits zero size w e = ap (λ n. n * size) (none w)
  where
    none : (w : ℕ) → min 0 w ≡ 0
    none w = grind (arith, nat_tests)
no_bits (suc n) size w e =
    let nothing : size ≡ 0 = grind (arith, e) in
    ap (λ s. min (suc n) w * s) nothing ∙ mul-zero (min (suc n) w) ∙ sym e

all_bits : (number size w : ℕ) → number ≤ w → min number w * size ≡ number * size
all_bits number size w l = ap (λ n. n * size) (least number w l)
  where
    least : (a b : ℕ) → a ≤ b → min a b ≡ a
    least a b l = grind (arith, nat_tests, l)

idle_none : (config : Config) (out : Dir) (i : ℕ) → IsGood config → i < length (side_of config out).channels → bits_of (format_at (channel_at (side_of config out) i) (idle_format (channel_at (side_of config out) i))) ≡ 0
idle_none config out i good l = number_same _ 0 (idle_is_idle (channel_at (side_of config out) i) ((side_good config out good).channels i l))

finds_whole : (asked : Asked) (i c : ℕ) → (is_idle (format_in asked c i) || nat_le (format_in asked c i).number (waiting asked i (format_in asked c i).size)) ≡ true
    → min (format_in asked c i).number (waiting asked i (format_in asked c i).size) * (format_in asked c i).size ≡ bits_of (format_in asked c i)
finds_whole asked i c e = either (is_idle (format_in asked c i))
    (λ h. no_bits (format_in asked c i).number (format_in asked c i).size (waiting asked i (format_in asked c i).size) (number_same (bits_of (format_in asked c i)) 0 h))
    (λ h. all_bits (format_in asked c i).number (format_in asked c i).size (waiting asked i (format_in asked c i).size) (less (format_in asked c i).number (waiting asked i (format_in asked c i).size) (ap (λ x. x || nat_le (format_in asked c i).number (waiting asked i (format_in asked c i).size)) (sym h) ∙ e)))
  where
    less : (a b : ℕ) → nat_le a b ≡ true → a ≤ b
    less a b e = grind (arith, nat_tests, e)

chosen_whole : (config : Config) (out : Dir) (cfn i c : ℕ) (old : Layer) → IsGood config → i < length (side_of config out).channels → starts (asked_in config out cfn old) i ≡ true → IsCandidate (asked_in config out cfn old) c
    → min (format_in (asked_in config out cfn old) c i).number (waiting (asked_in config out cfn old) i (format_in (asked_in config out cfn old) c i).size) * (format_in (asked_in config out cfn old) c i).size ≡ bits_of (format_in (asked_in config out cfn old) c i)
chosen_whole config out cfn i c old good l start candidate = ⊎_elim
    (λ (s : IsServed (asked_in config out cfn old) c). finds_whole (asked_in config out cfn old) i c (s.found i l start))
    (λ (s : StartsIdle (asked_in config out cfn old) c). no_bits (format_in (asked_in config out cfn old) c i).number (format_in (asked_in config out cfn old) c i).size (waiting (asked_in config out cfn old) i (format_in (asked_in config out cfn old) c i).size)
    (ap (λ f. bits_of (format_at (channel_at (side_of config out) i) f)) (s i l start) ∙ idle_none config out i good l))
    candidate.may

-- what holds between events: bearings fit, and the channels have the blocks of their formats
pub record Stands (config : Config) (out : Dir) (layer : Layer) : Type 0 where
  pub fit : (b : ℕ) → Fits config out b (layer.bearings b)
  pub given : AreGiven (side_of config out) layer

pub opened_stands : (config : Config) (out : Dir) → IsGood config → Stands config out (opened_layer config out)
opened_stands config out good = record { fit = opened_fits config out; given = record { sized = λ i l. tt; whole = λ i l. sym (idle_none config out i good l) } }

-- where another configuration becomes active, in which every bearer goes on
pub changed_stands : (first second : Config) (out : Dir) (layer : Layer) → IsGood second → ((b : ℕ) → KeepsBearer first second b) → Stands first out layer → Stands second out (changed_layer second out layer)
changed_stands first second out layer good kept s = record {
  fit = λ b. kept_fits first second out b (layer.bearings b) (kept b) (s.fit b);
  given = record { sized = λ i l. tt; whole = λ i l. sym (idle_none second out i good l) };
}

record Held (config : Config) (out : Dir) (i : ℕ) (g : Given) : Type 0 where
  sized : AreSized (format_at (channel_at (side_of config out) i) g.format).size g.blocks
  whole : length (joined_bits g.blocks) ≡ bits_of (format_at (channel_at (side_of config out) i) g.format)

start_held : (config : Config) (out : Dir) (cfn i : ℕ) (old new : Layer) → IsGood config → IsStart config out cfn old new → Stands config out old → i < length (side_of config out).channels → Held config out i (new.given i)
start_held config out cfn i old new good st s l = subst (Held config out i) (sym (st.given i)) (either (starts asked i)
    (λ e. rw e (now e))
    (λ e. rw e (record { sized = s.given.sized i l; whole = s.given.whole i l })))
  where
    asked : Asked
    asked = asked_in config out cfn old

    format : Format
    format = format_in (asked_in config out cfn old) new.running i

    each : starts (asked_in config out cfn old) i ≡ true → (b : ℕ) → is_on (asked_in config out cfn old) i b ≡ true → Row format.size (given (asked_in config out cfn old) i format b) (st.built b)
    each e b on =
        let here : channel_of config out b ≡ Some i = named_is (channel_of config out b) i on in
        let count : count_on (asked_in config out cfn old) new.running b (channel_of config out b) ≡ given (asked_in config out cfn old) i format b = ap (count_on (asked_in config out cfn old) new.running b) here ∙ ap (λ c. cond c (given (asked_in config out cfn old) i format b) 0) e in
        one_built config out cfn i format old b (new.bearings b) (st.built b) good (s.fit b) here (subst (λ n. Gives config out b n (old.bearings b) (new.bearings b) (st.built b)) count (st.gives b))

    now : starts (asked_in config out cfn old) i ≡ true → Held config out i (record { format = format_number (side_of config out) new.running i; blocks = blocks_for (asked_in config out cfn old) st.built i })
    now e =
        let r = turn_rows (asked_in config out cfn old) i format st.built 8 (each e) in
        let all = all_give (asked_in config out cfn old) i format (λ b m. (good.bearers b m).least_priority) (λ b m. (good.bearers b m).most_priority) in
        record {
          sized = r.sized;
          whole = sized_bits format.size (blocks_for (asked_in config out cfn old) st.built i) r.sized ∙ ap (λ n. n * format.size) (r.count ∙ all) ∙ chosen_whole config out cfn i new.running old good l e st.best.candidate;
        }

pub start_stands : (config : Config) (out : Dir) (cfn : ℕ) (old new : Layer) → IsGood config → IsStart config out cfn old new → Stands config out old → Stands config out new
start_stands config out cfn old new good st s = record {
  fit = λ b. gives_fits config out b (count_on (asked_in config out cfn old) new.running b (channel_of config out b)) (old.bearings b) (new.bearings b) (st.built b) (st.gives b) (s.fit b);
  given = record {
    sized = λ i l. (start_held config out cfn i old new good st s l).sized;
    whole = λ i l. (start_held config out cfn i old new good st s l).whole;
  };
}
