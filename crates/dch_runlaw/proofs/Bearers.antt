-- The bearers of a good configuration can be told apart on their channels, and their PDUs have few octets.
use Rattle.std.proofs.Common.{◌≡◌, ◌<◌, ◌≤◌, ◌+◌, ℕ, zero, suc, List, [], ◌∷◌, Bool, true, false, cond, ◌||◌, Some, length, arith, refl, ap, ◌∙◌, ⊎_elim}
use Rattle.std.specs.Prelude.{◌==◌, count_by}
use Rattle.std.proofs.lemmas.Bool.{cases_lt}
use Rattle.std.proofs.lemmas.Bool.Decides.{nat_tests}
use Rattle.std.proofs.lemmas.List.Sums.{sum_by-cons}
use Rattle.dch_types.specs.declared.bearer.Bearer.{Bearer}
use Rattle.dch_types.specs.declared.bearer.Mode.TheVariants.{Tm, Um, Am}
use Rattle.dch_types.specs.declared.channel.Dir.{Dir}
use Rattle.dch_types.specs.declared.channel.Dir.TheVariants.{Up, Down}
use Rattle.dch_types.specs.declared.config.Config.{Config}
use Rattle.dch_tree.specs.Bearers.{bearer_at, same_channel, shares}
use Rattle.dch_config.specs.Bearers.{has_ct, names}
use Rattle.dch_types.specs.Parts.{channel_number}
use Rattle.dch_config.specs.Good.{IsBearer, IsGood, IsSharing}
use Rattle.dch_layer2.specs.Bearings.{bearer_in, channel_of}
use Rattle.dch_layer2.proofs.Good.{am_fits, field_named, there, um_fits}
use Rattle.dch_runlaw.specs.History.{AreApart, IsAmBearer}
use Rattle.dch_runlaw.specs.TmHistory.{IsTmBearer}
use Rattle.dch_runlaw.specs.UmHistory.{IsUmBearer}
use Rattle.dch_runlaw.proofs.Names.{is_named_by, number_same, same_number}
use Rattle.dch_runlaw.proofs.Sublists.{either}

-- how many pass a test
count_cons : (p : Bearer → Bool) (x : Bearer) (xs : List Bearer) → count_by p (x ∷ xs) ≡ cond (p x) 1 0 + count_by p xs
count_cons p x xs = sum_by-cons (λ y. cond (p y) 1 0) x xs

count_some : (p : Bearer → Bool) (xs : List Bearer) (b : ℕ) → b < length xs → p (bearer_at xs b) ≡ true → 1 ≤ count_by p xs
count_some p [] b l e = absurd (omega arith)
count_some p (x ∷ xs) zero l e = omega (arith, count_cons p x xs ∙ ap (λ c. cond c 1 0 + count_by p xs) e)
count_some p (x ∷ xs) (suc b) l e = omega (arith, count_some p xs b (omega arith) e, count_cons p x xs)

count_two : (p : Bearer → Bool) (xs : List Bearer) (b c : ℕ) → b < c → c < length xs → p (bearer_at xs b) ≡ true → p (bearer_at xs c) ≡ true → 2 ≤ count_by p xs
count_two p [] b c l m e f = absurd (omega arith)
count_two p (x ∷ xs) zero zero l m e f = absurd (omega arith)
count_two p (x ∷ xs) zero (suc c) l m e f = omega (arith, count_some p xs c (omega arith) f, count_cons p x xs ∙ ap (λ d. cond d 1 0 + count_by p xs) e)
count_two p (x ∷ xs) (suc b) zero l m e f = absurd (omega arith)
count_two p (x ∷ xs) (suc b) (suc c) l m e f = omega (arith, count_two p xs b c (omega arith) (omega arith) e f, count_cons p x xs)

-- two bearers of a channel share it
share_at : (dir : Dir) (i : ℕ) (a b : Bearer) → channel_number dir a ≡ Some i → channel_number dir b ≡ Some i → shares a b ≡ true
share_at Up i a b e f = rw (e, f, same_number i i refl) refl
share_at Down i a b e f = rw (e, f, same_number i i refl) (or_true (same_channel a.up b.up))
  where
    or_true : (x : Bool) → (x || true) ≡ true
    or_true true = refl
    or_true false = refl

shared : (config : Config) (dir : Dir) (i b c : ℕ) → IsGood config → channel_of config dir b ≡ Some i → channel_of config dir c ≡ Some i → (b ≡ c → ⊥) → IsSharing (bearer_in config b) (bearer_in config c)
shared config dir i b c good e f differs = good.sharing b c (there config dir b i e) (there config dir c i f) differs (share_at dir i (bearer_in config b) (bearer_in config c) e f)

-- the bearers of a channel
pub is_apart : (config : Config) (dir : Dir) (i : ℕ) → IsGood config → AreApart config dir i
is_apart config dir i good = record {
  least = λ b h e. (field_named config dir b i good e h).0;
  most = λ b h e. (field_named config dir b i good e h).1;
  other = λ b c h e f s. either (b == c) (λ q. number_same b c q) (λ q. absurd ((shared config dir i b c good e f (differ b c q)).other s));
  alone = λ b c h e f. either (b == c) (λ q. number_same b c q) (λ q. absurd (too_many b c h e f (differ b c q)));
}
  where
    on : Bearer → Bool
    on = λ bearer. names (channel_number dir bearer) i

    differ : (b c : ℕ) → (b == c) ≡ false → b ≡ c → ⊥
    differ b c q s = let t : (b == c) ≡ true = same_number b c s in absurd (cc)

    too_many : (b c : ℕ) → has_ct config dir i ≡ false → channel_of config dir b ≡ Some i → channel_of config dir c ≡ Some i → (b ≡ c → ⊥) → ⊥
    too_many b c h e f s =
        let few : count_by on config.bearers ≤ 1 = grind (arith, nat_tests, h) in
        ⊎_elim
        (λ (l : b < c). omega (arith, few, count_two on config.bearers b c l (there config dir c i f) (is_named_by (channel_of config dir b) i e) (is_named_by (channel_of config dir c) i f)))
        (λ (l : c ≤ b). omega (arith, few, count_two on config.bearers c b (omega (arith, l, s)) (there config dir b i e) (is_named_by (channel_of config dir c) i f) (is_named_by (channel_of config dir b) i e)))
        (cases_lt b c)

-- an acknowledged bearer of a good configuration, seen from the terminal
pub is_am_bearer : (config : Config) (b up down : ℕ) → IsGood config → b < length config.bearers → (bearer_in config b).mode ≡ Am → channel_of config Up b ≡ Some up → channel_of config Down b ≡ Some down → IsAmBearer config Up Down b up down
is_am_bearer config b up down good l m e f =
    let bearer : IsBearer config (bearer_in config b) = good.bearers b l in
    record {
      mode = m;
      window = bearer.rules.most_window;
      least = bearer.least_priority;
      most = bearer.most_priority;
      up_is = e;
      down_is = f;
      up_apart = is_apart config Up up good;
      down_apart = is_apart config Down down good;
      up_size = (am_fits config Up b up good e m).most;
      down_size = (am_fits config Down b down good f m).most;
    }

-- an unacknowledged one on one channel
pub is_um_bearer : (config : Config) (dir : Dir) (b i : ℕ) → IsGood config → b < length config.bearers → (bearer_in config b).mode ≡ Um → channel_of config dir b ≡ Some i → IsUmBearer config dir b i
is_um_bearer config dir b i good l m e = record {
  mode = m;
  least = (good.bearers b l).least_priority;
  most = (good.bearers b l).most_priority;
  channel = e;
  apart = is_apart config dir i good;
  least_size = (um_fits config dir b i good e m).least;
  most_size = (um_fits config dir b i good e m).most;
}

-- and a transparent one
pub is_tm_bearer : (config : Config) (dir : Dir) (b i : ℕ) → IsGood config → b < length config.bearers → (bearer_in config b).mode ≡ Tm → channel_of config dir b ≡ Some i → IsTmBearer config dir b i
is_tm_bearer config dir b i good l m e = record {
  mode = m;
  least = (good.bearers b l).least_priority;
  most = (good.bearers b l).most_priority;
  channel = e;
  apart = is_apart config dir i good;
}
