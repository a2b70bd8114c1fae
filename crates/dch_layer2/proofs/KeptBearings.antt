-- What stays of a bearer that is kept where another configuration becomes active.
use Rattle.std.proofs.Common.{◌≡◌, ◌≢◌, ◌-◌, ◌/◌, ◌∙◌, ℕ, List, [], ◌∷◌, Bool, true, false, cond, ◌&&◌, ◌||◌, Option, Some, None, arith, refl, sym, ap, ap₂, subst}
use Rattle.std.specs.Prelude.{◌==◌, find, is_some, not, option_map}
use Rattle.std.specs.List.{list_any}
use Rattle.std.specs.Option.{option_map_or}
use Rattle.dch_types.specs.declared.channel.Dir.{Dir}
use Rattle.dch_types.specs.declared.channel.Dir.TheVariants.{Up, Down}
use Rattle.dch_types.specs.declared.channel.Format.{Format}
use Rattle.dch_types.specs.declared.bearer.Bearer.{Bearer}
use Rattle.dch_types.specs.declared.bearer.Mode.{Mode}
use Rattle.dch_types.specs.declared.bearer.Mode.TheVariants.{Tm, Um, Am}
use Rattle.dch_types.specs.declared.config.Config.{Config}
use Rattle.dch_types.specs.Limits.{is_idle}
use Rattle.dch_types.specs.Parts.{channel_at, side_of}
use Rattle.dch_config.specs.Bearers.{first_size, has_ct}
use Rattle.dch_config.specs.Changes.{GoesOnAs, HaveSameSizes, SendsAlike, bearer_formats, ct_bits, formats_on, pdu_octets as octets_in, sends_size}
use Rattle.dch_am.specs.Rules.{rules_of}
use Rattle.dch_mac.specs.Field.{field_bits}
use Rattle.dch_rlctm.specs.Waiting.{is_size}
use Rattle.dch_layer2.specs.Bearings.{bearer_in, channel_of, field_on, pdu_octets, rules_in, size_in, size_on, sizes_in, sizes_on}
use Rattle.dch_layer2.proofs.Good.{field_size, first_is}

-- bearer b of one configuration goes on as that of the other
abbrev Goes : Config → Config → ℕ → Type 0
Goes first second b = GoesOnAs first second (bearer_in first b) (bearer_in second b)

sends_on : (first second : Config) (dir : Dir) (b : ℕ) → Goes first second b → SendsAlike (bearer_in first b).mode first second dir (bearer_in first b) (bearer_in second b)
sends_on first second Up b goes = goes.sends_up
sends_on first second Down b goes = goes.sends_down

-- it has a channel in a direction where it had one
pub kept_channel : (first second : Config) (dir : Dir) (b : ℕ) → Goes first second b → is_some (channel_of second dir b) ≡ is_some (channel_of first dir b)
kept_channel first second Up b goes = sym goes.alike.up
kept_channel first second Down b goes = sym goes.alike.down

pub kept_rules : (first second : Config) (b : ℕ) → Goes first second b → rules_in second b ≡ rules_in first b
kept_rules first second b goes = ap₂ rules_of (sym goes.alike.buffer) (sym goes.alike.rules)

-- a size is among those of the formats where it is sent
among : (formats : List Format) (n : ℕ) → list_any (λ size. size == n) (sizes_in formats) ≡ sends_size formats n
among [] n = refl
among (format ∷ formats) n = by (among formats n) (is_idle format)
  where
    by : list_any (λ size. size == n) (sizes_in formats) ≡ sends_size formats n → (idle : Bool) → list_any (λ size. size == n) (cond idle (sizes_in formats) (format.size ∷ sizes_in formats)) ≡ ((not idle && format.size == n) || sends_size formats n)
    by rest true = rest
    by rest false = ap (λ more. format.size == n || more) rest

sizes_are : (config : Config) (dir : Dir) (o : Option ℕ) → sizes_on config dir o ≡ sizes_in (formats_on config dir o)
sizes_are config dir None = refl
sizes_are config dir (Some i) = refl

size_among : (config : Config) (dir : Dir) (b n : ℕ) → is_size (sizes_on config dir (channel_of config dir b)) n ≡ (not (n == 0) && sends_size (bearer_formats config dir (bearer_in config b)) n)
size_among config dir b n =
    ap (λ sizes. is_size sizes n) (sizes_are config dir (channel_of config dir b)) ∙ ap (λ sent. not (n == 0) && sent) (among (formats_on config dir (channel_of config dir b)) n)

-- in transparent mode the sizes of its blocks stay
pub kept_sizes : (first second : Config) (dir : Dir) (b n : ℕ) → Goes first second b → (bearer_in first b).mode ≡ Tm → is_size (sizes_on second dir (channel_of second dir b)) n ≡ is_size (sizes_on first dir (channel_of first dir b)) n
kept_sizes first second dir b n goes mode =
    let same : HaveSameSizes (bearer_formats first dir (bearer_in first b)) (bearer_formats second dir (bearer_in second b)) =
    subst (λ m. SendsAlike m first second dir (bearer_in first b) (bearer_in second b)) mode (sends_on first second dir b goes) in
    size_among second dir b n ∙ (ap (λ sent. not (n == 0) && sent) (sym (same n)) ∙ sym (size_among first dir b n))

-- no size is sent
none_is : (formats : List Format) → first_size formats ≡ None → size_in formats ≡ 0
none_is [] e = refl
none_is (f ∷ formats) e = by (λ h. none_is formats h) (is_idle f) refl
  where
    front : option_map (λ (x : Format). x.size) (cond (not (is_idle f)) (Some f) (find (λ x. not (is_idle x)) formats)) ≡ None
    front = e

    by : (first_size formats ≡ None → size_in formats ≡ 0) → (b : Bool) → is_idle f ≡ b → size_in (f ∷ formats) ≡ 0
    by rest true q = rw q (rest (subst (λ b. option_map (λ (x : Format). x.size) (cond (not b) (Some f) (find (λ x. not (is_idle x)) formats)) ≡ None) q front))
    by rest false q =
        let head : option_map (λ (x : Format). x.size) (Some f) ≡ None = subst (λ b. option_map (λ (x : Format). x.size) (cond (not b) (Some f) (find (λ x. not (is_idle x)) formats)) ≡ None) q front in
        absurd (cc)

octets_by : (formats : List Format) (o : Option ℕ) (f : ℕ) → first_size formats ≡ o → (size_in formats - f) / 8 ≡ option_map_or (λ size. (size - f) / 8) o 0
octets_by formats None f e = ap (λ n. (n - f) / 8) (none_is formats e) ∙ nothing f
  where
    nothing : (f : ℕ) → (0 - f) / 8 ≡ 0
    nothing f = omega arith
octets_by formats (Some s) f e = ap (λ n. (n - f) / 8) (first_is formats s e)

octets_at : (config : Config) (dir : Dir) (b : ℕ) (o : Option ℕ) → (size_on config dir o - field_bits (field_on config dir b o)) / 8 ≡ option_map_or (λ size. (size - ct_bits config dir o) / 8) (first_size (formats_on config dir o)) 0
octets_at config dir b None = refl
octets_at config dir b (Some i) =
    let formats : List Format = (channel_at (side_of config dir) i).formats in
    ap (λ f. (size_in formats - f) / 8) (field_size (has_ct config dir i) (bearer_in config b).logical) ∙ octets_by formats (first_size formats) (cond (has_ct config dir i) 4 0) refl

octets_are : (config : Config) (dir : Dir) (b : ℕ) → pdu_octets config dir b ≡ octets_in config dir (bearer_in config b)
octets_are config dir b = octets_at config dir b (channel_of config dir b)

octets_alike : (first second : Config) (dir : Dir) (one other : Bearer) (m : Mode) → m ≢ Tm → SendsAlike m first second dir one other → octets_in first dir one ≡ octets_in second dir other
octets_alike first second dir one other Tm not same = absurd (not refl)
octets_alike first second dir one other Um not same = same
octets_alike first second dir one other Am not same = same

-- otherwise the octets of its PDUs stay
pub kept_octets : (first second : Config) (dir : Dir) (b : ℕ) → Goes first second b → (bearer_in first b).mode ≢ Tm → pdu_octets second dir b ≡ pdu_octets first dir b
kept_octets first second dir b goes not =
    octets_are second dir b ∙ (sym (octets_alike first second dir (bearer_in first b) (bearer_in second b) (bearer_in first b).mode not (sends_on first second dir b goes)) ∙ sym (octets_are first dir b))
