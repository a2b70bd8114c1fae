-- What a good configuration says of the PDUs and the C/T field of its bearers.
use Rattle.std.proofs.Common.{◌≡◌, ◌≢◌, ◌<◌, ◌≤◌, ◌+◌, ◌-◌, ◌*◌, ◌/◌, ℕ, zero, suc, List, [], ◌∷◌, Bool, true, false, cond, ◌&&◌, ◌||◌, Option, Some, None, length, arith, refl, sym, ap, ◌∙◌, subst}
use Rattle.std.specs.Prelude.{◌==◌, ◌%◌, nat_le, count_by, find, not, option_map}
use Rattle.std.specs.Option.{option_map_or}
use Rattle.std.proofs.lemmas.Bool.{leb-true}
use Rattle.std.proofs.lemmas.Bool.Decides.{nat_tests}
use Rattle.std.proofs.lemmas.List.Sums.{sum_by-cons}
use Rattle.dch_types.specs.declared.channel.Dir.{Dir}
use Rattle.dch_types.specs.declared.channel.Dir.TheVariants.{Up, Down}
use Rattle.dch_types.specs.declared.channel.Format.{Format}
use Rattle.dch_types.specs.declared.bearer.Bearer.{Bearer}
use Rattle.dch_types.specs.declared.bearer.Mode.{Mode}
use Rattle.dch_types.specs.declared.bearer.Mode.TheVariants.{Tm, Um, Am}
use Rattle.dch_types.specs.declared.config.Config.{Config}
use Rattle.dch_types.specs.Limits.{is_idle}
use Rattle.dch_types.specs.Parts.{channel_at, side_of, channel_number}
use Rattle.dch_tree.specs.Bearers.{bearer_at, same_channel, shares}
use Rattle.dch_config.specs.Bearers.{are_pdus, first_size, has_ct, have_one_size, is_pdu_size, names}
use Rattle.dch_config.specs.Good.{IsGood, IsPlaced, IsSharing}
use Rattle.dch_config.specs.Sides.{is_within}
use Rattle.dch_mac.specs.Field.{field_bits}
use Rattle.dch_layer2.specs.Bearings.{bearer_in, block_bits, channel_of, ct_of, field_on, pdu_octets, size_in, size_on}

-- a Bool is one of the two
either : {A : Type 0} (b : Bool) → (b ≡ true → A) → (b ≡ false → A) → A
either true f g = f refl
either false f g = g refl

-- tests of numbers
same_number : (a b : ℕ) → a ≡ b → (a == b) ≡ true
same_number a b e = grind (arith, nat_tests)

number_same : (a b : ℕ) → (a == b) ≡ true → a ≡ b
number_same a b e = grind (arith, nat_tests)

-- a channel that is named
named_is : (o : Option ℕ) (i : ℕ) → names o i ≡ true → o ≡ Some i
named_is None i e = absurd (cc)
named_is (Some j) i e = ap (λ (k : ℕ). Some k) (number_same j i e)

is_named_by : (o : Option ℕ) (i : ℕ) → o ≡ Some i → names o i ≡ true
is_named_by o i e = ap (λ p. names p i) e ∙ same_number i i refl

both_true : (a b : Bool) → a && b ≡ true → (a ≡ true) × (b ≡ true)
both_true true b e = (refl, e)
both_true false b e = absurd (cc)

-- the bearer past all has no channel
nobody_there : (dir : Dir) (i : ℕ) → names (channel_number dir (bearer_at [] 0)) i ≡ false
nobody_there Up i = refl
nobody_there Down i = refl

-- a bearer with a channel is there
there_by : (dir : Dir) (xs : List Bearer) (b i : ℕ) → names (channel_number dir (bearer_at xs b)) i ≡ true → b < length xs
there_by dir [] b i e =
    let f : names (channel_number dir (bearer_at [] b)) i ≡ false = nobody_there dir i in
    absurd (cc)
there_by dir (x ∷ xs) zero i e = omega arith
there_by dir (x ∷ xs) (suc b) i e =
    let l : b < length xs = there_by dir xs b i e in
    omega arith

pub there : (config : Config) (dir : Dir) (b i : ℕ) → channel_of config dir b ≡ Some i → b < length config.bearers
there config dir b i e = there_by dir config.bearers b i (is_named_by (channel_of config dir b) i e)

-- how many pass a test
count_cons : (p : Bearer → Bool) (x : Bearer) (xs : List Bearer) → count_by p (x ∷ xs) ≡ cond (p x) 1 0 + count_by p xs
count_cons p x xs = sum_by-cons (λ y. cond (p y) 1 0) x xs

count_some : (p : Bearer → Bool) (xs : List Bearer) (b : ℕ) → b < length xs → p (bearer_at xs b) ≡ true → 1 ≤ count_by p xs
count_some p [] b l e = absurd (omega arith)
count_some p (x ∷ xs) zero l e = omega (arith, count_cons p x xs ∙ ap (λ c. cond c 1 0 + count_by p xs) e)
count_some p (x ∷ xs) (suc b) l e = omega (arith, count_some p xs b (omega arith) e, count_cons p x xs)

record Other (p : Bearer → Bool) (xs : List Bearer) (b : ℕ) : Type 0 where
  at : ℕ
  inside : at < length xs
  differs : b ≡ at → ⊥
  passes : p (bearer_at xs at) ≡ true

record Any (p : Bearer → Bool) (xs : List Bearer) : Type 0 where
  at : ℕ
  inside : at < length xs
  passes : p (bearer_at xs at) ≡ true

any_of : (p : Bearer → Bool) (xs : List Bearer) → 1 ≤ count_by p xs → Any p xs
any_of p [] l = absurd (omega arith)
any_of p (x ∷ xs) l = either (p x)
    (λ e. record { at = 0; inside = omega arith; passes = e })
    (λ e. let a = any_of p xs (omega (arith, l, count_cons p x xs ∙ ap (λ c. cond c 1 0 + count_by p xs) e)) in record { at = suc a.at; inside = omega (arith, a.inside); passes = a.passes })

other_of : (p : Bearer → Bool) (xs : List Bearer) (b : ℕ) → 2 ≤ count_by p xs → p (bearer_at xs b) ≡ true → b < length xs → Other p xs b
other_of p [] b l e m = absurd (omega arith)
other_of p (x ∷ xs) zero l e m =
    let a = any_of p xs (omega (arith, l, count_cons p x xs ∙ ap (λ c. cond c 1 0 + count_by p xs) e)) in
    record { at = suc a.at; inside = omega (arith, a.inside); differs = λ s. absurd (omega (arith, s)); passes = a.passes }
other_of p (x ∷ xs) (suc b) l e m = either (p x)
    (λ q. record { at = 0; inside = omega arith; differs = λ s. absurd (omega (arith, s)); passes = q })
    (λ q. let a = other_of p xs b (omega (arith, l, count_cons p x xs ∙ ap (λ c. cond c 1 0 + count_by p xs) q)) e (omega arith) in
    record { at = suc a.at; inside = omega (arith, a.inside); differs = λ s. a.differs (omega (arith, s)); passes = a.passes })

-- two bearers of a channel share it
share_at : (dir : Dir) (i : ℕ) (a b : Bearer) → channel_number dir a ≡ Some i → channel_number dir b ≡ Some i → shares a b ≡ true
share_at Up i a b e f = rw (e, f, same_number i i refl) refl
share_at Down i a b e f = rw (e, f, same_number i i refl) (or_true (same_channel a.up b.up))
  where
    or_true : (x : Bool) → (x || true) ≡ true
    or_true true = refl
    or_true false = refl

shared : (config : Config) (dir : Dir) (i b c : ℕ) → IsGood config → channel_of config dir b ≡ Some i → channel_of config dir c ≡ Some i → (b ≡ c → ⊥) → IsSharing (bearer_in config b) (bearer_in config c)
shared config dir i b c good e f differs = good.sharing b c (there config dir b i e) (there config dir c i f) differs (share_at dir i (bearer_in config b) (bearer_in config c) e f)

unpacked : (n s : ℕ) → ◌≡◌ {A = Option ℕ} (Some n) (Some s) → n ≡ s
unpacked n s h = cc

-- the size of the blocks of a channel
pub first_is : (formats : List Format) (s : ℕ) → first_size formats ≡ Some s → size_in formats ≡ s
first_is [] s e = absurd (cc)
first_is (f ∷ formats) s e = go (λ h. first_is formats s h) (is_idle f) refl
  where
    front : option_map (λ (x : Format). x.size) (cond (not (is_idle f)) (Some f) (find (λ x. not (is_idle x)) formats)) ≡ Some s
    front = e

    go : (first_size formats ≡ Some s → size_in formats ≡ s) → (b : Bool) → is_idle f ≡ b → size_in (f ∷ formats) ≡ s
    go rest true q = rw q (rest (subst (λ b. option_map (λ (x : Format). x.size) (cond (not b) (Some f) (find (λ x. not (is_idle x)) formats)) ≡ Some s) q front))
    go rest false q =
        let head : option_map (λ (x : Format). x.size) (Some f) ≡ Some s = subst (λ b. option_map (λ (x : Format). x.size) (cond (not b) (Some f) (find (λ x. not (is_idle x)) formats)) ≡ Some s) q front in
        rw q (unpacked f.size s head)

-- the formats of a channel of PDUs
fits_by : (m : Mode) (formats : List Format) (ct : Bool) (o : Option ℕ) → first_size formats ≡ o → option_map_or (λ size. have_one_size formats size && is_pdu_size m ct size) o false ≡ true →
    (have_one_size formats (size_in formats) ≡ true) × (is_pdu_size m ct (size_in formats) ≡ true)
fits_by m formats ct None e is = absurd (cc)
fits_by m formats ct (Some s) e is =
    let both = both_true (have_one_size formats s) (is_pdu_size m ct s) is in
    subst (λ n. (have_one_size formats n ≡ true) × (is_pdu_size m ct n ≡ true)) (sym (first_is formats s e)) both

pub field_size : (x : Bool) (c : ℕ) → field_bits (cond x (Some c) None) ≡ cond x 4 0
field_size true c = refl
field_size false c = refl

-- the PDUs of a bearer on its channel: all blocks have one size, and whole octets fill it behind the field
pub record AreFilled (config : Config) (dir : Dir) (b i low high : ℕ) : Type 0 where
  pub one_size : have_one_size (channel_at (side_of config dir) i).formats (block_bits config dir b) ≡ true
  pub whole : field_bits (ct_of config dir b) + 8 * pdu_octets config dir b ≡ block_bits config dir b
  pub least : low ≤ pdu_octets config dir b
  pub most : pdu_octets config dir b ≤ high

filled : (f s : ℕ) → (s - f) % 8 ≡ 0 → 1 ≤ (s - f) / 8 → f + 8 * ((s - f) / 8) ≡ s
filled f s e l = omega (arith, e, l)

-- behind a field of so many bits
octets_by : (least most f s : ℕ) → 1 ≤ least → ((s - f) % 8 == 0 && is_within least most ((s - f) / 8)) ≡ true → (f + 8 * ((s - f) / 8) ≡ s) × (least ≤ (s - f) / 8) × ((s - f) / 8 ≤ most)
octets_by least most f s some is =
    let parts = both_true ((s - f) % 8 == 0) (is_within least most ((s - f) / 8)) is in
    let within = both_true (nat_le least ((s - f) / 8)) (nat_le ((s - f) / 8) most) parts.1 in
    let low : least ≤ (s - f) / 8 = leb-true least ((s - f) / 8) within.0 in
    let high : (s - f) / 8 ≤ most = leb-true ((s - f) / 8) most within.1 in
    (filled f s (number_same ((s - f) % 8) 0 parts.0) (omega (arith, low, some)), low, high)

placed_fits : (config : Config) (dir : Dir) (b i least most : ℕ) (m : Mode) → 1 ≤ least → channel_of config dir b ≡ Some i → (bearer_in config b).mode ≡ m → m ≢ Tm →
    ((ct : Bool) (size : ℕ) → is_pdu_size m ct size ≡ true → ((size - cond ct 4 0) % 8 == 0 && is_within least most ((size - cond ct 4 0) / 8)) ≡ true) → IsPlaced config (bearer_in config b) dir → AreFilled config dir b i least most
placed_fits config dir b i least most m some e mode not asks placed =
    let ct : Bool = has_ct config dir i in
    let formats : List Format = (channel_at (side_of config dir) i).formats in
    let not_tm : (bearer_in config b).mode ≢ Tm = λ t. not (sym mode ∙ t) in
    let pdus : are_pdus m ct formats ≡ true = subst (λ x. are_pdus x ct formats ≡ true) mode (placed.pdus i e not_tm) in
    let fits = fits_by m formats ct (first_size formats) refl pdus in
    let size : block_bits config dir b ≡ size_in formats = ap (size_on config dir) e in
    let field : field_bits (ct_of config dir b) ≡ cond ct 4 0 = ap (λ o. field_bits (field_on config dir b o)) e ∙ field_size ct (bearer_in config b).logical in
    let octets = octets_by least most (cond ct 4 0) (size_in formats) some (asks ct (size_in formats) fits.1) in
    let behind : pdu_octets config dir b ≡ (size_in formats - cond ct 4 0) / 8 = ap (λ n. (n - field_bits (ct_of config dir b)) / 8) size ∙ ap (λ n. (size_in formats - n) / 8) field in
    record {
      one_size = subst (λ n. have_one_size formats n ≡ true) (sym size) fits.0;
      whole = omega (arith, octets.0, behind, size, field);
      least = omega (arith, octets.1, behind);
      most = omega (arith, octets.2, behind);
    }

placed_in : (config : Config) (dir : Dir) (b i : ℕ) → IsGood config → channel_of config dir b ≡ Some i → IsPlaced config (bearer_in config b) dir
placed_in config Up b i good e = (good.bearers b (there config Up b i e)).up
placed_in config Down b i good e = (good.bearers b (there config Down b i e)).down

-- of the unacknowledged and of the acknowledged mode
pub um_fits : (config : Config) (dir : Dir) (b i : ℕ) → IsGood config → channel_of config dir b ≡ Some i → (bearer_in config b).mode ≡ Um → AreFilled config dir b i 3 125
um_fits config dir b i good e m = placed_fits config dir b i 3 125 Um (omega arith) e m (λ (t : ◌≡◌ {A = Mode} Um Tm). cc) (λ ct size is. is) (placed_in config dir b i good e)

pub am_fits : (config : Config) (dir : Dir) (b i : ℕ) → IsGood config → channel_of config dir b ≡ Some i → (bearer_in config b).mode ≡ Am → AreFilled config dir b i 6 126
am_fits config dir b i good e m = placed_fits config dir b i 6 126 Am (omega arith) e m (λ (t : ◌≡◌ {A = Mode} Am Tm). cc) (λ ct size is. is) (placed_in config dir b i good e)

-- a bearer whose channel has the field shares it with another one
record Sharer (config : Config) (b : ℕ) : Type 0 where
  other : ℕ
  is : IsSharing (bearer_in config b) (bearer_in config other)

sharing_by : (config : Config) (dir : Dir) (b i : ℕ) → IsGood config → channel_of config dir b ≡ Some i → has_ct config dir i ≡ true → Sharer config b
sharing_by config dir b i good e h =
    let two : 2 ≤ count_by on config.bearers = grind (arith, nat_tests, h) in
    let o = other_of on config.bearers b two (is_named_by (channel_of config dir b) i e) (there config dir b i e) in
    record { other = o.at; is = shared config dir i b o.at good e (named_is (channel_of config dir o.at) i o.passes) o.differs }
  where
    on : Bearer → Bool
    on = λ bearer. names (channel_number dir bearer) i

-- a transparent bearer is alone on its channel, which has no field
pub no_field : (config : Config) (dir : Dir) (b : ℕ) (o : Option ℕ) → IsGood config → channel_of config dir b ≡ o → (bearer_in config b).mode ≡ Tm → ct_of config dir b ≡ None
no_field config dir b None good e m = ap (field_on config dir b) e
no_field config dir b (Some i) good e m = ap (field_on config dir b) e ∙ either (has_ct config dir i)
    (λ h. absurd ((sharing_by config dir b i good e h).is.mode m))
    (λ h. rw h refl)

-- the logical channel of a field is 1 to 15
pub field_named : (config : Config) (dir : Dir) (b i : ℕ) → IsGood config → channel_of config dir b ≡ Some i → has_ct config dir i ≡ true → (1 ≤ (bearer_in config b).logical) × ((bearer_in config b).logical ≤ 15)
field_named config dir b i good e h = ((sharing_by config dir b i good e h).is.logical, (good.bearers b (there config dir b i e)).logical)
