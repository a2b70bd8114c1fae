-- Each block that layer 2 gives to a channel comes to one of the channel's bearers.
use Rattle.std.proofs.Common.{◌≡◌, ℕ, zero, suc, List, [], ◌∷◌, ◌++◌, Bool, true, false, cond, ◌&&◌, Some, length, refl, sym, ap, ◌∙◌, subst}
use Rattle.std.specs.Prelude.{◌==◌}
use Rattle.std.proofs.lemmas.List.{append-nil}
use Rattle.dch_bits.specs.declared.bit.Bit.{Bit}
use Rattle.dch_types.specs.declared.channel.Dir.{Dir}
use Rattle.dch_types.specs.declared.config.Config.{Config}
use Rattle.dch_config.specs.Good.{IsGood}
use Rattle.dch_mac.specs.declared.answer.Demux.TheVariants.{To}
use Rattle.dch_mac.specs.Field.{field_bits}
use Rattle.dch_mac.specs.Receivers.{receiver}
use Rattle.dch_mac.specs.Asked.{Asked, priority_of, starts}
use Rattle.dch_layer2.specs.Bearings.{Bearing, channel_of, ct_of}
use Rattle.dch_layer2.specs.Building.{Gives}
use Rattle.dch_layer2.specs.Layers.{Given, Layer}
use Rattle.dch_layer2.specs.Starting.{IsStart, asked_in, count_on, in_turn, is_on, joined, of_priority}
use Rattle.dch_runlaw.specs.History.{AreApart}
use Rattle.dch_runlaw.proofs.Bearers.{is_apart}
use Rattle.dch_runlaw.proofs.Giving.{HasField, has_field, joined-append}
use Rattle.dch_runlaw.proofs.Names.{both_true, comes_to, named_is}
use Rattle.dch_runlaw.proofs.Sublists.{either}

-- a block of a channel is for a bearer
pub record Reaches (config : Config) (dir : Dir) (i : ℕ) (block : List Bit) : Type 0 where
  pub bearer : ℕ
  pub skip : ℕ
  pub is : receiver config dir i block ≡ To bearer skip

-- and so are all of these
abbrev pub AllReach : Config → Dir → ℕ → List (List Bit) → Type 0
AllReach config dir i [] = Unit {0}
AllReach config dir i (block ∷ blocks) = Reaches config dir i block × AllReach config dir i blocks

-- and those that each channel was given
abbrev pub GivenReach : Config → Dir → Layer → Type 0
GivenReach config dir layer = (i : ℕ) → AllReach config dir i (layer.given i).blocks

reach-append : (config : Config) (dir : Dir) (i : ℕ) (xs ys : List (List Bit)) → AllReach config dir i xs → AllReach config dir i ys → AllReach config dir i (xs ++ ys)
reach-append config dir i [] ys first second = second
reach-append config dir i (x ∷ xs) ys first second = (first.0, reach-append config dir i xs ys first.1 second)

-- a block that a bearer of the channel built
built_reaches : (config : Config) (dir : Dir) (c i : ℕ) (block : List Bit) → AreApart config dir i → channel_of config dir c ≡ Some i → HasField config dir c block → Reaches config dir i block
built_reaches config dir c i block apart on h = record {
  bearer = c;
  skip = field_bits (ct_of config dir c);
  is = ap (receiver config dir i) h.is ∙ comes_to config dir i c h.payload apart on;
}

-- so many blocks of a bearer
all_built : (config : Config) (dir : Dir) (c i n : ℕ) (old new : Bearing) (blocks : List (List Bit)) → AreApart config dir i → channel_of config dir c ≡ Some i → Gives config dir c n old new blocks → AllReach config dir i blocks
all_built config dir c i zero old new blocks apart on g = subst (AllReach config dir i) (sym g.1) tt
all_built config dir c i (suc n) old new blocks apart on g =
    subst (AllReach config dir i) (sym g.all) (built_reaches config dir c i g.block apart on (has_field config dir c old g.next g.block g.first), all_built config dir c i n g.next new g.rest apart on g.later)

-- those of all bearers of a channel, in turn
one_more : (config : Config) (dir : Dir) (i : ℕ) (built : ℕ → List (List Bit)) (bs : List ℕ) (b : ℕ) (on : Bool) → AllReach config dir i (joined built bs) → (on ≡ true → AllReach config dir i (built b)) → AllReach config dir i (joined built (bs ++ cond on (b ∷ []) []))
one_more config dir i built bs b true before own =
    subst (AllReach config dir i) (sym (joined-append built bs (b ∷ []))) (reach-append config dir i (joined built bs) (built b ++ []) before (subst (AllReach config dir i) (sym (append-nil (built b))) (own refl)))
one_more config dir i built bs b false before own = subst (λ l. AllReach config dir i (joined built l)) (sym (append-nil bs)) before

priority_reaches : (config : Config) (dir : Dir) (asked : Asked) (i q n : ℕ) (built : ℕ → List (List Bit)) → ((b : ℕ) → is_on asked i b ≡ true → AllReach config dir i (built b)) → AllReach config dir i (joined built (of_priority asked i q n))
priority_reaches config dir asked i q zero built all = tt
priority_reaches config dir asked i q (suc b) built all =
    one_more config dir i built (of_priority asked i q b) b (priority_of asked b == q && is_on asked i b) (priority_reaches config dir asked i q b built all) (λ t. all b (both_true (priority_of asked b == q) (is_on asked i b) t).1)

turns_reach : (config : Config) (dir : Dir) (asked : Asked) (i q : ℕ) (built : ℕ → List (List Bit)) → ((b : ℕ) → is_on asked i b ≡ true → AllReach config dir i (built b)) → AllReach config dir i (joined built (in_turn asked i q))
turns_reach config dir asked i zero built all = tt
turns_reach config dir asked i (suc q) built all =
    subst (AllReach config dir i) (sym (joined-append built (in_turn asked i q) (of_priority asked i (suc q) (length asked.bearers))))
    (reach-append config dir i (joined built (in_turn asked i q)) (joined built (of_priority asked i (suc q) (length asked.bearers))) (turns_reach config dir asked i q built all) (priority_reaches config dir asked i (suc q) (length asked.bearers) built all))

-- after the start of TTIs
pub start_reaches : (config : Config) (out : Dir) (cfn : ℕ) (old new : Layer) → IsGood config → IsStart config out cfn old new → GivenReach config out old → GivenReach config out new
start_reaches config out cfn old new good st before = λ i. subst (λ (g : Given). AllReach config out i g.blocks) (sym (st.given i)) (either (starts asked i)
    (λ e. rw e (turns_reach config out asked i 8 st.built (λ b t. all_built config out b i (count_on asked new.running b (channel_of config out b)) (old.bearings b) (new.bearings b) (st.built b) (is_apart config out i good) (named_is (channel_of config out b) i t) (st.gives b))))
    (λ e. rw e (before i)))
  where
    asked : Asked
    asked = asked_in config out cfn old

-- and where a layer keeps what channels were given
pub kept_reaches : (config : Config) (out : Dir) (old new : Layer) → ((i : ℕ) → new.given i ≡ old.given i) → GivenReach config out old → GivenReach config out new
kept_reaches config out old new same before = λ i. subst (λ (g : Given). AllReach config out i g.blocks) (sym (same i)) (before i)
