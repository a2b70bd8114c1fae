-- The bearer of a block that a bearer built.
use Rattle.std.proofs.Common.{◌≡◌, ◌+◌, ◌<◌, ◌≤◌, ℕ, List, [], ◌++◌, Bool, true, false, ◌&&◌, Option, Some, None, length, get_or, arith, refl, sym, ap, ◌∙◌, subst}
use Rattle.std.specs.Prelude.{◌==◌, nat_lt, position}
use Rattle.std.specs.List.{position_or_len}
use Rattle.std.proofs.lemmas.List.Quantifiers.{position-Some}
use Rattle.std.proofs.lemmas.List.Sums.{fails_before_first}
use Rattle.std.proofs.lemmas.Bool.Decides.{nat_tests}
use Rattle.dch_bits.specs.declared.bit.Bit.{Bit}
use Rattle.dch_types.specs.declared.channel.Dir.{Dir}
use Rattle.dch_types.specs.declared.bearer.Bearer.{Bearer}
use Rattle.dch_types.specs.declared.config.Config.{Config}
use Rattle.dch_tree.specs.Bearers.{bearer_at}
use Rattle.dch_config.specs.Bearers.{has_ct, names}
use Rattle.dch_types.specs.Parts.{channel_number}
use Rattle.dch_mac.specs.declared.answer.Demux.TheVariants.{To}
use Rattle.dch_mac.specs.Field.{field_bits, field_of}
use Rattle.dch_mac.specs.Receivers.{alone, is_named, named_by, only_receiver, receiver, receiver_of_field}
use Rattle.dch_layer2.specs.Bearings.{bearer_in, channel_of, ct_of, field_on}
use Rattle.dch_layer2.specs.Octets.{field_for}
use Rattle.dch_layer2.proofs.Good.{there}
use Rattle.dch_layer2.proofs.Octets.{field_is}
use Rattle.dch_runlaw.specs.History.{AreApart}
use Rattle.dch_runlaw.proofs.Sublists.{either}

-- tests of numbers
pub same_number : (a b : ℕ) → a ≡ b → (a == b) ≡ true
same_number a b e = grind (arith, nat_tests)

pub number_same : (a b : ℕ) → (a == b) ≡ true → a ≡ b
number_same a b e = grind (arith, nat_tests)

pub other_number : (a b : ℕ) → (a ≡ b → ⊥) → (a == b) ≡ false
other_number a b f = either (a == b) (λ e. absurd (f (number_same a b e))) (λ e. e)

-- a channel that is named
pub named_is : (o : Option ℕ) (i : ℕ) → names o i ≡ true → o ≡ Some i
named_is None i e = absurd (cc)
named_is (Some j) i e = ap (λ (k : ℕ). Some k) (number_same j i e)

pub is_named_by : (o : Option ℕ) (i : ℕ) → o ≡ Some i → names o i ≡ true
is_named_by o i e = ap (λ p. names p i) e ∙ same_number i i refl

pub both_true : (a b : Bool) → a && b ≡ true → (a ≡ true) × (b ≡ true)
both_true true b e = (refl, e)
both_true false b e = absurd (cc)

-- where there is no place the test fails
never : (p : Bearer → Bool) (xs : List Bearer) (c : ℕ) (d : Bearer) → position p xs ≡ None → c < length xs → p (get_or xs c d) ≡ false
never p xs c d e l = either (nat_lt (position_or_len p xs) (length xs))
    (λ t. let s : position p xs ≡ Some (position_or_len p xs) = rw t refl in absurd (cc))
    (λ t. let far : length xs ≤ position_or_len p xs = grind (arith, nat_tests) in fails_before_first p xs c d (omega arith))

-- the only place at which a test passes
only_at : (p : Bearer → Bool) (xs : List Bearer) (c : ℕ) (o : Option ℕ) → position p xs ≡ o → c < length xs → p (bearer_at xs c) ≡ true → ((k : ℕ) → p (bearer_at xs k) ≡ true → k ≡ c) → o ≡ Some c
only_at p xs c None e l here one =
    let n : p (bearer_at xs c) ≡ false = never p xs c (bearer_at [] 0) e l in
    absurd (cc)
only_at p xs c (Some k) e l here one = ap (λ (j : ℕ). Some j) (one k (position-Some p xs k (bearer_at [] 0) e).1)

-- what a block that a bearer built is read as
ct_at : (config : Config) (dir : Dir) (c i : ℕ) → channel_of config dir c ≡ Some i → ct_of config dir c ≡ field_on config dir c (Some i)
ct_at config dir c i e = ap (field_on config dir c) e

apart_alone : (config : Config) (dir : Dir) (i c : ℕ) → AreApart config dir i → has_ct config dir i ≡ false → channel_of config dir c ≡ Some i → only_receiver config.bearers dir i ≡ To c 0
apart_alone config dir i c a h e =
    ap alone (only_at (λ bearer. names (channel_number dir bearer) i) config.bearers c (position (λ bearer. names (channel_number dir bearer) i) config.bearers) refl (there config dir c i e) (is_named_by (channel_of config dir c) i e)
    (λ k t. a.alone k c h (named_is (channel_of config dir k) i t) e))

apart_field : (config : Config) (dir : Dir) (i c : ℕ) (n : ℕ) → AreApart config dir i → has_ct config dir i ≡ true → channel_of config dir c ≡ Some i → n + 1 ≡ (bearer_in config c).logical → receiver_of_field config.bearers dir i n ≡ To c 4
apart_field config dir i c n a h e f =
    let small : n < 15 = omega (arith, a.most c h e, f) in
    let differs : (n == 15) ≡ false = grind (arith, nat_tests) in
    let named : is_named dir i (n + 1) (bearer_in config c) ≡ true = rw (is_named_by (channel_of config dir c) i e) (same_number (bearer_in config c).logical (n + 1) (sym f)) in
    rw differs (ap (λ o. named_by o (n + 1)) (only_at (is_named dir i (n + 1)) config.bearers c (position (is_named dir i (n + 1)) config.bearers) refl (there config dir c i e) named
    (λ k t. let p = both_true (names (channel_of config dir k) i) ((bearer_in config k).logical == n + 1) t in a.other k c h (named_is (channel_of config dir k) i p.0) e (number_same (bearer_in config k).logical (n + 1) p.1 ∙ f))))

pub comes_to : (config : Config) (dir : Dir) (i c : ℕ) (payload : List Bit) → AreApart config dir i → channel_of config dir c ≡ Some i → receiver config dir i (field_for (ct_of config dir c) ++ payload) ≡ To c (field_bits (ct_of config dir c))
comes_to config dir i c payload a e = either (has_ct config dir i)
    (λ h. let ct : ct_of config dir c ≡ Some (bearer_in config c).logical = ct_at config dir c i e ∙ rw h refl in
    rw (ct, h) (apart_field config dir i c (field_of (field_for (Some (bearer_in config c).logical) ++ payload)) a h e (field_is (bearer_in config c).logical payload (a.least c h e) (a.most c h e))))
    (λ h. let ct : ct_of config dir c ≡ None = ct_at config dir c i e ∙ rw h refl in
    rw (ct, h) (apart_alone config dir i c a h e))

-- who gets a block of a channel has it
named_has : (config : Config) (dir : Dir) (i n c skip : ℕ) (o : Option ℕ) → position (is_named dir i n) config.bearers ≡ o → named_by o n ≡ To c skip → channel_of config dir c ≡ Some i
named_has config dir i n c skip None e f = absurd (cc)
named_has config dir i n c skip (Some k) e f =
    let k_is : k ≡ c = cc in
    let p = both_true (names (channel_of config dir k) i) ((bearer_in config k).logical == n) (position-Some (is_named dir i n) config.bearers k (bearer_at [] 0) e).1 in
    subst (λ x. channel_of config dir x ≡ Some i) k_is (named_is (channel_of config dir k) i p.0)

alone_has : (config : Config) (dir : Dir) (i c skip : ℕ) (o : Option ℕ) → position (λ bearer. names (channel_number dir bearer) i) config.bearers ≡ o → alone o ≡ To c skip → channel_of config dir c ≡ Some i
alone_has config dir i c skip None e f = absurd (cc)
alone_has config dir i c skip (Some k) e f =
    let k_is : k ≡ c = cc in
    subst (λ x. channel_of config dir x ≡ Some i) k_is (named_is (channel_of config dir k) i (position-Some (λ bearer. names (channel_number dir bearer) i) config.bearers k (bearer_at [] 0) e).1)

field_has : (config : Config) (dir : Dir) (i n c skip : ℕ) → receiver_of_field config.bearers dir i n ≡ To c skip → channel_of config dir c ≡ Some i
field_has config dir i n c skip = either (n == 15)
    (λ h. rw h (λ f. absurd (cc)))
    (λ h. rw h (λ f. named_has config dir i (n + 1) c skip (position (is_named dir i (n + 1)) config.bearers) refl f))

pub receiver_has : (config : Config) (dir : Dir) (i c skip : ℕ) (block : List Bit) → receiver config dir i block ≡ To c skip → channel_of config dir c ≡ Some i
receiver_has config dir i c skip block = either (has_ct config dir i)
    (λ h. rw h (λ f. field_has config dir i (field_of block) c skip f))
    (λ h. rw h (λ f. alone_has config dir i c skip (position (λ bearer. names (channel_number dir bearer) i) config.bearers) refl f))

-- the field that is skipped is that of its channel
named_skip : (n c skip : ℕ) (o : Option ℕ) → named_by o n ≡ To c skip → skip ≡ 4
named_skip n c skip None f = absurd (cc)
named_skip n c skip (Some k) f = cc

alone_skip : (c skip : ℕ) (o : Option ℕ) → alone o ≡ To c skip → skip ≡ 0
alone_skip c skip None f = absurd (cc)
alone_skip c skip (Some k) f = cc

field_skip : (config : Config) (dir : Dir) (i n c skip : ℕ) → receiver_of_field config.bearers dir i n ≡ To c skip → skip ≡ 4
field_skip config dir i n c skip = either (n == 15)
    (λ h. rw h (λ f. absurd (cc)))
    (λ h. rw h (λ f. named_skip (n + 1) c skip (position (is_named dir i (n + 1)) config.bearers) f))

pub receiver_skips : (config : Config) (dir : Dir) (i c skip : ℕ) (block : List Bit) → channel_of config dir c ≡ Some i → receiver config dir i block ≡ To c skip → skip ≡ field_bits (ct_of config dir c)
receiver_skips config dir i c skip block e = either (has_ct config dir i)
    (λ h. let ct : ct_of config dir c ≡ Some (bearer_in config c).logical = ct_at config dir c i e ∙ rw h refl in
    rw (ct, h) (λ f. field_skip config dir i (field_of block) c skip f))
    (λ h. let ct : ct_of config dir c ≡ None = ct_at config dir c i e ∙ rw h refl in
    rw (ct, h) (λ f. alone_skip c skip (position (λ bearer. names (channel_number dir bearer) i) config.bearers) f))
