-- Clean readings give no line of trouble of the radio side.
use Rattle.std.proofs.Common.{◌≡◌, ◌<◌, ◌+◌, ◌∙◌, ℕ, zero, suc, List, [], ◌∷◌, ◌++◌, Bool, true, false, length, get_or, arith, refl, ap, inl, inr}
use Rattle.std.specs.Prelude.{IsTrue}
use Rattle.dch_bits.specs.declared.bit.Bit.{Bit}
use Rattle.dch_types.specs.declared.channel.Dir.{Dir}
use Rattle.dch_types.specs.declared.config.Config.{Config}
use Rattle.dch_accept.specs.Blocks.{Held}
use Rattle.dch_node.specs.Lines.{Line}
use Rattle.dch_layer2.specs.Layers.{Came, Layer, takes, takes_good, takes_one}
use Rattle.dch_layer2.specs.Coming.{came_at, came_below, came_of}
use Rattle.dch_layer2.specs.Reading.{Bad, Nothing, Read, Reading, reads, reads_below}
use Rattle.dch_linkcmd.specs.Checks.{AreChecked, IsSublist}
use Rattle.dch_runlaw.specs.ClearSound.{AreSound, is_sound}
use Rattle.dch_runlaw.proofs.ClearClean.{IsClean}
use Rattle.dch_runlaw.proofs.TextTakes.{Covers, Every, good_all}

pub sound-append : (a b : List Line) → AreSound a → AreSound b → AreSound (a ++ b)
sound-append [] b first second = second
sound-append (x ∷ a) b first second = (first.0, sound-append a b first.1 second)

sound_covers : (dir : Dir) (count : ℕ) → Covers (λ line. is_sound line ≡ true) dir count
sound_covers dir count = record {
  bearer = λ b l. record { pdu_bad = λ n. refl; outside = refl; overlong = refl; got = λ octets. refl; got_bits = λ bits. refl };
  reserved = λ i. refl;
  no_bearer = λ i ct. refl;
  nobody = λ i. refl;
}

all_sound : (xs : List Line) → Every (λ line. is_sound line ≡ true) xs → AreSound xs
all_sound [] h = tt
all_sound (x ∷ xs) h = (h.0, all_sound xs h.1)

good_sound : (config : Config) (into : Dir) (i : ℕ) (bits : List Bit) (layer : Layer) → AreSound (takes_good config into i bits layer).lines
good_sound config into i bits layer = all_sound (takes_good config into i bits layer).lines (good_all (λ line. is_sound line ≡ true) config into (sound_covers into (length config.bearers)) i bits layer)

one_sound : (config : Config) (into : Dir) (i k : ℕ) (bits : List Bit) (good : Bool) (layer : Layer) → good ≡ true → AreSound (takes_one config into i k bits good layer).lines
one_sound config into i k bits true layer is = good_sound config into i bits layer
one_sound config into i k bits false layer is = absurd (cc)

-- all blocks of a list are good
abbrev AreGood : List Came → Type 0
AreGood [] = Unit {0}
AreGood (came ∷ later) = (came.good ≡ true) × AreGood later

good-append : (a b : List Came) → AreGood a → AreGood b → AreGood (a ++ b)
good-append [] b first second = second
good-append (x ∷ a) b first second = (first.0, good-append a b first.1 second)

came_good : (held : Held) (n : ℕ) → ((k : ℕ) → k < n → IsTrue (get_or held.good k false)) → AreGood (came_below held n)
came_good held zero good = tt
came_good held (suc n) good = good-append (came_below held n) (came_at held n ∷ []) (came_good held n (λ k early. good k (omega (arith, early)))) (good n (omega arith), tt)

takes_sound : (config : Config) (into : Dir) (i k : ℕ) (came : List Came) (layer : Layer) → AreGood came → AreSound (takes config into i k came layer).lines
takes_sound config into i k [] layer good = tt
takes_sound config into i k (c ∷ came) layer good =
    let mid : Layer = (takes_one config into i k c.bits c.good layer).layer in
    sound-append (takes_one config into i k c.bits c.good layer).lines (takes config into i (k + 1) came mid).lines (one_sound config into i k c.bits c.good layer good.0) (takes_sound config into i (k + 1) came mid good.1)

reads_sound : (config : Config) (into : Dir) (i : ℕ) (r : Reading) (layer : Layer) → IsClean r → AreSound (reads config into i r layer).lines
reads_sound config into i Nothing layer clean = tt
reads_sound config into i (Read held) layer clean = takes_sound config into i 0 (came_of held) layer (came_good held (length held.good) clean)
reads_sound config into i (Bad frame) layer clean = absurd clean

pub below_sound : (config : Config) (into : Dir) (readings : ℕ → Reading) (n : ℕ) (layer : Layer) → ((i : ℕ) → i < n → IsClean (readings i)) → AreSound (reads_below config into readings n layer).lines
below_sound config into readings zero layer clean = tt
below_sound config into readings (suc i) layer clean =
    let mid : Layer = (reads_below config into readings i layer).layer in
    sound-append (reads_below config into readings i layer).lines (reads config into i (readings i) mid).lines
    (below_sound config into readings i layer (λ j early. clean j (omega arith)))
    (reads_sound config into i (readings i) mid (clean i (omega arith)))

pub self_sub : (xs : List (List Bit)) → IsSublist xs xs
self_sub [] = tt
self_sub (x ∷ xs) = inl (refl, self_sub xs)

-- what is some of what was given makes no line
pub no_checks : (dir : Dir) (taken given : ℕ → List (List Bit)) (n : ℕ) (checks : List Line) → ((i : ℕ) → i < n → IsSublist (taken i) (given i)) → AreChecked dir taken given n checks → checks ≡ []
no_checks dir taken given zero checks fits is = is
no_checks dir taken given (suc n) checks fits is =
    let front : is.front ≡ [] = no_checks dir taken given n is.front (λ i early. fits i (omega arith)) is.before in
    let own : is.own ≡ [] = elim is.is [
      | inl same ↦ same.1
      | inr other ↦ absurd (other.0 (fits n (omega arith)))
    ] in
    is.all ∙ ap (λ l. l ++ is.own) front ∙ own
