-- The blocks of a TTI, taken one after another.
use Rattle.std.proofs.Common.{◌≡◌, ◌+◌, ◌++◌, ◌∙◌, ℕ, zero, suc, List, [], ◌∷◌, false, length, arith, refl, sym, ap, ap₂, subst, append_assoc, length-append}
use Rattle.std.specs.Prelude.{slice_index_or}
use Rattle.std.proofs.lemmas.List.{append-nil}
use Rattle.dch_types.specs.declared.channel.Dir.{Dir}
use Rattle.dch_types.specs.declared.config.Config.{Config}
use Rattle.dch_accept.specs.Blocks.{Held, block_at}
use Rattle.dch_indication.specs.Lines.{Line}
use Rattle.dch_indication.specs.Told.{Told}
use Rattle.dch_indication.proofs.Telling.{told-append}
use Rattle.dch_layer2.specs.Layers.{Came, Layer, Outcome, takes, takes_one}
use Rattle.dch_layer2.specs.Coming.{AreTaken, came_at, came_below}
use Rattle.dch_layer2.specs.Standing.{IsSameEnd, Represents}
use Rattle.dch_layer2.specs.Values.{LayerRunning}

-- one more block behind others
abbrev one_more : Config → Dir → ℕ → ℕ → Came → Outcome → Outcome
one_more config into channel k c o = record {
  layer = (takes_one config into channel k c.bits c.good o.layer).layer;
  lines = o.lines ++ (takes_one config into channel k c.bits c.good o.layer).lines;
}

takes_last : (config : Config) (into : Dir) (channel j k : ℕ) (cs : List Came) (c : Came) (layer : Layer) → j + length cs ≡ k → takes config into channel j (cs ++ c ∷ []) layer ≡ one_more config into channel k c (takes config into channel j cs layer)
takes_last config into channel j k [] c layer e =
    let same : j ≡ k = omega (arith, e) in
    ap₂ (λ (n : ℕ) (lines : List Line). record { layer = (takes_one config into channel n c.bits c.good layer).layer; lines = lines }) same
    (append-nil (takes_one config into channel j c.bits c.good layer).lines ∙ ap (λ n. (takes_one config into channel n c.bits c.good layer).lines) same)
takes_last config into channel j k (x ∷ cs) c layer e =
    let next : Layer = (takes_one config into channel j x.bits x.good layer).layer in
    let rest : takes config into channel (j + 1) (cs ++ c ∷ []) next ≡ one_more config into channel k c (takes config into channel (j + 1) cs next) = takes_last config into channel (j + 1) k cs c next (omega (arith, e)) in
    ap (λ (o : Outcome). record { layer = o.layer; lines = (takes_one config into channel j x.bits x.good layer).lines ++ o.lines }) rest
    ∙ ap (λ (lines : List Line). record { layer = (takes_one config into channel k c.bits c.good (takes config into channel (j + 1) cs next).layer).layer; lines = lines })
    (sym (append_assoc (takes_one config into channel j x.bits x.good layer).lines (takes config into channel (j + 1) cs next).lines (takes_one config into channel k c.bits c.good (takes config into channel (j + 1) cs next).layer).lines))

length-came : (held : Held) (k : ℕ) → length (came_below held k) ≡ k
length-came held zero = refl
length-came held (suc k) = omega (arith, length-append (came_below held k) (came_at held k ∷ []), length-came held k)

pub takes_step : (config : Config) (into : Dir) (channel k : ℕ) (held : Held) (layer : Layer) → takes config into channel 0 (came_below held (k + 1)) layer ≡ one_more config into channel k (came_at held k) (takes config into channel 0 (came_below held k) layer)
takes_step config into channel k held layer =
    let more : k + 1 ≡ suc k = omega arith in
    ap (λ n. takes config into channel 0 (came_below held n) layer) more ∙ takes_last config into channel 0 k (came_below held k) (came_at held k) layer (omega (arith, length-came held k))

pub none_taken : {S : Type 0} (shows : S → Line → S → Type 0) (config : Config) (channel : ℕ) (held : Held) (v : LayerRunning) (user : S) → AreTaken shows config channel 0 held v v user user
none_taken shows config channel held v user = record { ends = record { sends = refl; receives = refl }; stands = λ layer is. is; told = λ layer is. refl }

pub one_taken : {S : Type 0} (shows : S → Line → S → Type 0) (config : Config) (channel k : ℕ) (held : Held) (old now next : LayerRunning) (before after later : S) → AreTaken shows config channel k held old now before after → IsSameEnd now next →
    ((layer : Layer) → Represents config layer now → Told shows after (takes_one config now.into channel k (block_at held k) (slice_index_or held.good k false) layer).lines later) →
    ((layer : Layer) → Represents config layer now → Represents config (takes_one config now.into channel k (block_at held k) (slice_index_or held.good k false) layer).layer next) →
    AreTaken shows config channel (k + 1) held old next before later
one_taken shows config channel k held old now next before after later taken same told stands = record {
  ends = record { sends = same.sends ∙ taken.ends.sends; receives = same.receives ∙ taken.ends.receives };
  stands = λ layer is.
      subst (λ (o : Outcome). Represents config o.layer next) (sym (takes_step config old.into channel k held layer))
      (subst (λ d. Represents config (takes_one config d channel k (block_at held k) (slice_index_or held.good k false) (takes config old.into channel 0 (came_below held k) layer).layer).layer next) taken.ends.receives
      (stands (takes config old.into channel 0 (came_below held k) layer).layer (taken.stands layer is)));
  told = λ layer is.
      let first : Outcome = takes config old.into channel 0 (came_below held k) layer in
      subst (λ (o : Outcome). Told shows before o.lines later) (sym (takes_step config old.into channel k held layer))
      (told-append shows before after later first.lines (takes_one config old.into channel k (block_at held k) (slice_index_or held.good k false) first.layer).lines (taken.told layer is)
      (subst (λ d. Told shows after (takes_one config d channel k (block_at held k) (slice_index_or held.good k false) first.layer).lines later) taken.ends.receives
      (told first.layer (taken.stands layer is))));
}
