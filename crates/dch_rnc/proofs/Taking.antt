-- The blocks of an Iub frame that layer 2 takes, channel by channel.
use Rattle.std.proofs.Common.{◌≡◌, ◌≢◌, ◌<◌, ◌+◌, ◌∙◌, ◌++◌, ◌&&◌, ℕ, List, [], length, get_or, arith, refl, ap, sym, subst, inl, inr, true, false, cond, Bool, get_or-set_same, get_or-set_other, ◌∷◌, length-append, eq-eqb}
use Rattle.std.specs.Prelude.{◌==◌, nat_lt, slice_set}
use Rattle.std.proofs.lemmas.Bool.{lt-ltb}
use Rattle.std.proofs.lemmas.Bool.Decides.{eqb_tells}
use Rattle.std.proofs.lemmas.List.{get_or_append_left, get_or_default, get_or_push, length-set}
use Rattle.dch_types.specs.declared.channel.Dir.TheVariants.{Up}
use Rattle.dch_types.specs.declared.channel.Side.{Side}
use Rattle.dch_types.specs.declared.config.Config.{Config}
use Rattle.dch_types.specs.Parts.{channel_at}
use Rattle.dch_accept.specs.HeldSets.{HeldSet, IsSetOf, held_at}
use Rattle.dch_accept.specs.Blocks.{Held}
use Rattle.dch_accept.specs.Plans.{Planned}
use Rattle.dch_indication.specs.Lines.{IubBad, Line}
use Rattle.dch_indication.specs.Told.{Told}
use Rattle.dch_iub.specs.Answers.{IsCause}
use Rattle.dch_iub.specs.Forms.{IsReadForm}
use Rattle.dch_iub.specs.declared.error.IubError.{IubError}
use Rattle.dch_node.specs.IubFrames.{refusal_number}
use Rattle.dch_layer2.specs.Layers.{Layer, takes}
use Rattle.dch_layer2.specs.Bounded.{HasRead, IsTti}
use Rattle.dch_layer2.specs.Coming.{came_of}
use Rattle.dch_layer2.specs.Reading.{Nothing, Read, Reading}
use Rattle.dch_layer2.specs.Standing.{IsSameEnd, Represents as StandsFor}
use Rattle.dch_layer2.specs.Values.{LayerRunning}
use Rattle.dch_layer2.proofs.Readings.{taken_on}
use Rattle.dch_rnc.specs.Moves.{IsTaken, Receives, TakesSet}
use Rattle.dch_rnc.specs.Opened.{AreNewRxSets, AreRxSetsOf}
use Rattle.dch_rnc.specs.State.{set_readings}
use Rattle.dch_rnc.specs.Values.{rx_set_at}

below_is : (i n : ℕ) → i < n → nat_lt i n ≡ true
below_is i n inside = lt-ltb i n inside

-- what is read of a channel of the set, and of one of another set
pub reading_on : (side : Side) (set : ℕ) (held : HeldSet) (i : ℕ) → i < length side.channels → (channel_at side i).set ≡ set → set_readings side set held i ≡ Read (held_at held.blocks i)
reading_on side set held i inside member = rw (below_is i (length side.channels) inside) (rw (eq-eqb (channel_at side i).set set member) refl)

pub reading_off : (side : Side) (set : ℕ) (held : HeldSet) (i : ℕ) → (channel_at side i).set ≢ set → set_readings side set held i ≡ Nothing
reading_off side set held i other = elim (eqb_tells (channel_at side i).set set) [
  | inl same ↦ absurd (other same.1)
  | inr apart ↦ go (nat_lt i (length side.channels)) ((channel_at side i).set == set) apart.0
]
  where
    go : (a b : Bool) → b ≡ false → cond (a && b) (Read (held_at held.blocks i)) Nothing ≡ Nothing
    go true true e = absurd cc
    go true false e = refl
    go false b e = refl

-- memory for the blocks of one more set
pub new_rx_set : (planned : Planned) (count : ℕ) (rx_sets : List HeldSet) (held : HeldSet) → AreNewRxSets planned count rx_sets → IsSetOf planned.config Up count held → AreNewRxSets planned (count + 1) (rx_sets ++ held ∷ [])
new_rx_set planned count rx_sets held are is =
    let own : rx_set_at (rx_sets ++ held ∷ []) count ≡ held = get_or_push rx_sets held _ count are.all in
    record {
      all = omega (arith, length-append rx_sets (held ∷ []), are.all);
      each = λ s early. elim (eqb_tells s count) [
        | inl same ↦ subst (λ n. IsSetOf planned.config Up n (rx_set_at (rx_sets ++ held ∷ []) n)) (sym same.1) (subst (λ (h : HeldSet). IsSetOf planned.config Up count h) (sym own) is)
        | inr other ↦ (
            let apart : s ≢ count = other.1 in
            let less : s < count = omega arith in
            subst (λ (h : HeldSet). IsSetOf planned.config Up s h) (sym (get_or_append_left rx_sets (held ∷ []) _ s (omega (arith, are.all)))) (are.each s less))
      ];
    }

-- the blocks of a set, whatever stands for ones past the end
pub rx_set_in : (planned : Planned) (rx_sets : List HeldSet) (at set : ℕ) (other : HeldSet) → AreRxSetsOf planned rx_sets → at ≡ set → set < 8 → get_or rx_sets at other ≡ rx_set_at rx_sets set
rx_set_in planned rx_sets at set other are same few =
    let inside : at < length rx_sets = omega (arith, same, few, are.all) in
    get_or_default rx_sets at other _ inside ∙ ap (λ n. rx_set_at rx_sets n) same

-- those of a set are written
pub own_rx_set : (planned : Planned) (rx_sets : List HeldSet) (at set : ℕ) (new : HeldSet) → AreRxSetsOf planned rx_sets → at ≡ set → set < 8 → rx_set_at (slice_set rx_sets at new) set ≡ new
own_rx_set planned rx_sets at set new are same few =
    subst (λ n. rx_set_at (slice_set rx_sets n new) set ≡ new) (sym same) (get_or-set_same rx_sets set new _ (subst (λ n. set < n) (sym are.all) few))

pub still_rx_sets : (planned : Planned) (rx_sets : List HeldSet) (at set : ℕ) (new : HeldSet) → AreRxSetsOf planned rx_sets → at ≡ set → set < 8 → IsSetOf planned.config Up set new → AreRxSetsOf planned (slice_set rx_sets at new)
still_rx_sets planned rx_sets at set new are place few is = record {
  all = length-set rx_sets at new ∙ are.all;
  each = λ s inside. elim (eqb_tells s set) [
    | inl same ↦ subst (λ k. IsSetOf planned.config Up k (rx_set_at (slice_set rx_sets at new) k)) (sym same.1)
        (subst (λ (h : HeldSet). IsSetOf planned.config Up set h) (sym (own_rx_set planned rx_sets at set new are place few)) is)
    | inr other ↦ (
        let apart : s ≢ at = λ (e : s ≡ at). other.1 (e ∙ place) in
        subst (λ (h : HeldSet). IsSetOf planned.config Up s h) (sym (get_or-set_other rx_sets at s new _ apart)) (are.each s inside))
  ];
}

-- a frame was read into the blocks of its set, and layer 2 took them
pub got_taken : {S : Type 0} (shows : S → Line → S → Type 0) (planned : Planned) (set at : ℕ) (octets : List ℕ) (rx_sets : List HeldSet) (new : HeldSet) (cfn qe : ℕ) (old now : LayerRunning) (before after : S) → AreRxSetsOf planned rx_sets → at ≡ set → set < 8
    → IsSetOf planned.config Up set new → IsReadForm planned.config Up set octets cfn qe new → TakesSet shows planned set new old now before after → Receives shows planned set octets true (slice_set rx_sets at new) old now before after
got_taken shows planned set at octets rx_sets new cfn qe old now before after are place few is read takes = record {
  few = few;
  opened = still_rx_sets planned rx_sets at set new are place few is;
  answers = subst (λ (h : HeldSet). IsTaken shows planned set octets h old now before after) (sym (own_rx_set planned rx_sets at set new are place few)) (record { filled = record { cfn = cfn; qe = qe; read = read }; takes = takes });
}

-- it was refused, and the blocks of its set are as they were
pub got_refusal : {S : Type 0} (shows : S → Line → S → Type 0) (planned : Planned) (set at : ℕ) (octets : List ℕ) (rx_sets : List HeldSet) (last new : HeldSet) (error : IubError) (v : LayerRunning) (before after : S) → AreRxSetsOf planned rx_sets → at ≡ set → set < 8
    → last ≡ rx_set_at rx_sets set → new ≡ last → IsCause planned.config Up set octets error → shows before (IubBad Up set (refusal_number error)) after → Receives shows planned set octets false (slice_set rx_sets at new) v v before after
got_refusal shows planned set at octets rx_sets last new error v before after are place few own same cause shown = record {
  few = few;
  opened = still_rx_sets planned rx_sets at set new are place few (subst (λ (h : HeldSet). IsSetOf planned.config Up set h) (sym (same ∙ own)) (are.each set few));
  answers = record { error = error; cause = cause; same = refl; shown = shown };
}

-- the blocks of one more channel of a set were taken
pub taken_next : {S : Type 0} (shows : S → Line → S → Type 0) (planned : Planned) (set i : ℕ) (blocks : HeldSet) (held : Held) (old now next : LayerRunning) (before after later : S) → HasRead shows planned.config Up (set_readings planned.config.uplink.side set blocks) i old now before after
    → now.into ≡ Up → held ≡ held_at blocks.blocks i → i < length planned.config.uplink.side.channels → (channel_at planned.config.uplink.side i).set ≡ set → IsSameEnd now next
    → ((layer : Layer) → StandsFor planned.config layer now → Told shows after (takes planned.config now.into i 0 (came_of held) layer).lines later)
    → ((layer : Layer) → StandsFor planned.config layer now → StandsFor planned.config (takes planned.config now.into i 0 (came_of held) layer).layer next)
    → HasRead shows planned.config Up (set_readings planned.config.uplink.side set blocks) (i + 1) old next before later
taken_next shows planned set i blocks held old now next before after later has up own inside member same told stands =
    taken_on shows planned.config Up (set_readings planned.config.uplink.side set blocks) i held old now next before after later has
    (reading_on planned.config.uplink.side set blocks i inside member ∙ ap Read (sym own)) up same told stands

-- what was read of a channel is a TTI of it, or nothing
pub tti_in : (config : Config) (set : ℕ) (held : HeldSet) (i : ℕ) → IsSetOf config Up set held → i < length config.uplink.side.channels → IsTti config Up i (set_readings config.uplink.side set held i)
tti_in config set held i is inside = elim (eqb_tells (channel_at config.uplink.side i).set set) [
  | inl same ↦ subst (λ (r : Reading). IsTti config Up i r) (sym (reading_on config.uplink.side set held i inside same.1)) (is.formats i inside same.1)
  | inr other ↦ subst (λ (r : Reading). IsTti config Up i r) (sym (reading_off config.uplink.side set held i other.1)) tt
]
