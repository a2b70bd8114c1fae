-- The blocks of a bearer among those of channels.
use Rattle.std.proofs.Common.{◌≡◌, ℕ, List, [], ◌∷◌, ◌++◌, true, false, cond, Option, Some, None, refl, sym, ap, ◌∙◌}
use Rattle.std.specs.Prelude.{◌==◌, filter}
use Rattle.std.proofs.lemmas.List.Elements.{filter-append}
use Rattle.dch_bits.specs.declared.bit.Bit.{Bit}
use Rattle.dch_types.specs.declared.channel.Dir.{Dir}
use Rattle.dch_types.specs.declared.config.Config.{Config}
use Rattle.dch_mac.specs.declared.answer.Demux.{Demux}
use Rattle.dch_mac.specs.declared.answer.Demux.TheVariants.{To, Reserved, NoBearer, Nobody}
use Rattle.dch_mac.specs.Receivers.{receiver}
use Rattle.dch_layer2.specs.Bearings.{channel_of}
use Rattle.dch_layer2.specs.Layers.{Came}
use Rattle.dch_runlaw.specs.Calls.{own_blocks, own_on}
use Rattle.dch_runlaw.specs.Doings.{Takes, good_blocks, taken_by}
use Rattle.dch_runlaw.specs.History.{is_mine, is_to}
use Rattle.dch_runlaw.proofs.Names.{number_same, other_number, receiver_has, same_number}
use Rattle.dch_runlaw.proofs.Sublists.{either}

-- on a channel that is not the bearer's no block is its own
not_to : (config : Config) (dir : Dir) (b i : ℕ) (block : List Bit) (to : Demux) → (channel_of config dir b ≡ Some i → ⊥) → receiver config dir i block ≡ to → is_to b to ≡ false
not_to config dir b i block (To c skip) f e = other_number b c (λ same. f (ap (channel_of config dir) same ∙ receiver_has config dir i c skip block e))
not_to config dir b i block Reserved f e = refl
not_to config dir b i block (NoBearer ct) f e = refl
not_to config dir b i block Nobody f e = refl

none_own : (config : Config) (dir : Dir) (b i : ℕ) (blocks : List (List Bit)) → (channel_of config dir b ≡ Some i → ⊥) → filter (is_mine config dir b i) blocks ≡ []
none_own config dir b i [] f = refl
none_own config dir b i (x ∷ xs) f = rw (not_to config dir b i x (receiver config dir i x) f refl) (none_own config dir b i xs f)

-- of the blocks of one channel
pub own_at : (config : Config) (dir : Dir) (b i : ℕ) (blocks : List (List Bit)) → own_blocks config dir b (λ j. cond (i == j) blocks []) ≡ filter (is_mine config dir b i) blocks
own_at config dir b i blocks = go (channel_of config dir b) refl
  where
    none_some : (j : ℕ) → ◌≡◌ {A = Option ℕ} None (Some j) → ⊥
    none_some j e = cc

    same_some : (j k : ℕ) → ◌≡◌ {A = Option ℕ} (Some j) (Some k) → j ≡ k
    same_some j k e = cc

    go : (o : Option ℕ) → channel_of config dir b ≡ o → own_on config dir b o (λ j. cond (i == j) blocks []) ≡ filter (is_mine config dir b i) blocks
    go None e = sym (none_own config dir b i blocks (λ here. none_some i (sym e ∙ here)))
    go (Some j) e = either (i == j)
        (λ q. rw q (ap (λ k. filter (is_mine config dir b k) blocks) (sym (number_same i j q))))
        (λ q. rw q (sym (none_own config dir b i blocks (λ here. let t : (i == j) ≡ true = same_number i j (sym (same_some j i (sym e ∙ here))) in absurd (cc)))))

-- what is the bearer's of what comes on a channel
pub taken_mine : (config : Config) (into : Dir) (b down i : ℕ) (came : List Came) → channel_of config into b ≡ Some down → filter (is_mine config into b down) (taken_by (Takes i came) down) ≡ filter (is_mine config into b i) (good_blocks came)
taken_mine config into b down i came on = ap (λ (o : Option ℕ). own_on config into b o (taken_by (Takes i came))) (sym on) ∙ own_at config into b i (good_blocks came)

-- of no blocks, of more blocks, and of the same blocks
pub own_none : (config : Config) (dir : Dir) (b : ℕ) → own_blocks config dir b (λ j. []) ≡ []
own_none config dir b = go (channel_of config dir b)
  where
    go : (o : Option ℕ) → own_on config dir b o (λ j. []) ≡ []
    go None = refl
    go (Some j) = refl

pub own-append : (config : Config) (dir : Dir) (b : ℕ) (f g : ℕ → List (List Bit)) → own_blocks config dir b (λ j. f j ++ g j) ≡ own_blocks config dir b f ++ own_blocks config dir b g
own-append config dir b f g = go (channel_of config dir b)
  where
    go : (o : Option ℕ) → own_on config dir b o (λ j. f j ++ g j) ≡ own_on config dir b o f ++ own_on config dir b o g
    go None = refl
    go (Some j) = filter-append (is_mine config dir b j) (f j) (g j)

pub own_same : (config : Config) (dir : Dir) (b : ℕ) (f g : ℕ → List (List Bit)) → ((i : ℕ) → f i ≡ g i) → own_blocks config dir b f ≡ own_blocks config dir b g
own_same config dir b f g e = go (channel_of config dir b)
  where
    go : (o : Option ℕ) → own_on config dir b o f ≡ own_on config dir b o g
    go None = refl
    go (Some j) = ap (filter (is_mine config dir b j)) (e j)
