-- What a node does is what its layer 2 does, doing by doing.
use Rattle.std.proofs.Common.{◌≡◌, ◌<◌, ◌≤◌, ℕ, zero, suc, List, [], ◌∷◌, ◌++◌, Bool, true, false, cond, arith, refl, sym, ap, ◌∙◌, subst, append_assoc, ⊎_elim}
use Rattle.std.specs.Prelude.{◌==◌}
use Rattle.std.proofs.lemmas.Bool.{cases_lt}
use Rattle.std.proofs.lemmas.List.{append-nil, map-append}
use Rattle.dch_bits.specs.declared.bit.Bit.{Bit}
use Rattle.dch_types.specs.declared.channel.Dir.{Dir}
use Rattle.dch_types.specs.declared.config.Config.{Config}
use Rattle.dch_amlaw.specs.Pair.{Arrive, Event}
use Rattle.dch_layer2.specs.Layers.{Layer}
use Rattle.dch_node.specs.Lines.{BadTti, Line}
use Rattle.dch_layer2.specs.Coming.{came_of}
use Rattle.dch_layer2.specs.Reading.{Bad, Nothing, Read, Reading, reads, reads_below}
use Rattle.dch_runlaw.specs.Calls.{calls_in, calls_in_all, for_each, own_blocks}
use Rattle.dch_runlaw.specs.Doings.{Does, Doing, Says, Takes, given_by, good_blocks, taken_by}
use Rattle.dch_runlaw.specs.Worlds.{DoesAll, DoesNear, World}
use Rattle.dch_runlaw.proofs.Names.{number_same, other_number, same_number}
use Rattle.dch_runlaw.proofs.OwnBlocks.{own-append, own_at, own_none}
use Rattle.dch_runlaw.proofs.Sublists.{either}
use Rattle.dch_runlaw.proofs.NodesTaken.{good_taken}

-- doings that lead from a world to another one, and the calls that each bearer gets in them
pub record Lifts (config : Config) (out into : Dir) (w new : World) (calls : ℕ → List Event) : Type 0 where
  pub doings : List Doing
  pub all : DoesAll config out into w doings new
  pub called : (b : ℕ) → calls_in_all config out into b w doings new all ≡ calls b

pub single : (config : Config) (out into : Dir) (w new : World) (doing : Doing) → DoesNear config out into w doing new → Lifts config out into w new (λ b. calls_in config out into b w.near.layer doing new.near.layer)
single config out into w new doing d = record {
  doings = doing ∷ [];
  all = record { next = new; first = d; later = refl };
  called = λ b. append-nil (calls_in config out into b w.near.layer doing new.near.layer);
}

-- the same calls
pub as_calls : (config : Config) (out into : Dir) (w new : World) (cs ds : ℕ → List Event) → Lifts config out into w new cs → ((b : ℕ) → cs b ≡ ds b) → Lifts config out into w new ds
as_calls config out into w new cs ds l e = record { doings = l.doings; all = l.all; called = λ b. l.called b ∙ e b }

-- one list of doings after another
joined : (config : Config) (out into : Dir) (w m new : World) (xs : List Doing) (ds : ℕ → List Event) → (d : DoesAll config out into w xs m) → Lifts config out into m new ds → Lifts config out into w new (λ b. calls_in_all config out into b w xs m d ++ ds b)
joined config out into w m new [] ds d l = subst (λ x. Lifts config out into x new ds) d l
joined config out into w m new (x ∷ xs) ds d l =
    let r = joined config out into d.next m new xs ds d.later l in
    record {
      doings = x ∷ r.doings;
      all = record { next = d.next; first = d.first; later = r.all };
      called = λ b.
          let own : List Event = calls_in config out into b w.near.layer x d.next.near.layer in
          ap (λ (l : List Event). own ++ l) (r.called b) ∙ sym (append_assoc own (calls_in_all config out into b d.next xs m d.later) (ds b));
    }

pub then_ : (config : Config) (out into : Dir) (w m new : World) (cs ds : ℕ → List Event) → Lifts config out into w m cs → Lifts config out into m new ds → Lifts config out into w new (λ b. cs b ++ ds b)
then_ config out into w m new cs ds l k =
    as_calls config out into w new (λ b. calls_in_all config out into b w l.doings m l.all ++ ds b) (λ b. cs b ++ ds b)
    (joined config out into w m new l.doings ds l.all k) (λ b. ap (λ (x : List Event). x ++ ds b) (l.called b))

-- the near end changed, and said more
abbrev pub with_near : World → Layer → List Line → World
with_near w layer lines = record { near = record { layer = layer; said = w.near.said ++ lines }; far = w.far; out = w.out; back = w.back }

-- a doing that neither gives nor takes
pub quietly : (config : Config) (out into : Dir) (w : World) (doing : Doing) (layer : Layer) (lines : List Line) → Does config out into w.near.layer doing layer lines → ((i : ℕ) → given_by config out w.near.layer doing layer i ≡ []) → ((i : ℕ) → taken_by doing i ≡ []) → Lifts config out into w (with_near w layer lines) (λ b. calls_in config out into b w.near.layer doing layer)
quietly config out into w doing layer lines does none empty = single config out into w (with_near w layer lines) doing (record {
  lines = lines;
  does = does;
  said = refl;
  far = refl;
  out_log = λ i. sym (ap (λ l. record { given = (w.out i).given ++ l; taken = (w.out i).taken }) (none i) ∙ ap (λ l. record { given = l; taken = (w.out i).taken }) (append-nil (w.out i).given));
  back_log = λ i. sym (ap (λ l. record { given = (w.back i).given; taken = (w.back i).taken ++ l }) (empty i) ∙ ap (λ l. record { given = (w.back i).given; taken = l }) (append-nil (w.back i).taken));
})

-- what is read of a channel is a doing
abbrev pub doing_of : Dir → ℕ → Reading → Doing
doing_of into i Nothing = Says []
doing_of into i (Read held) = Takes i (came_of held)
doing_of into i (Bad frame) = Says (BadTti into i frame ∷ [])

reads_does : (config : Config) (out into : Dir) (i : ℕ) (r : Reading) (layer : Layer) → Does config out into layer (doing_of into i r) (reads config into i r layer).layer (reads config into i r layer).lines
reads_does config out into i Nothing layer = (refl, refl, λ b. refl)
reads_does config out into i (Read held) layer = (refl, refl)
reads_does config out into i (Bad frame) layer = (refl, refl, λ b. refl)

none_given : (config : Config) (out into : Dir) (i : ℕ) (r : Reading) (old new : Layer) (j : ℕ) → given_by config out old (doing_of into i r) new j ≡ []
none_given config out into i Nothing old new j = refl
none_given config out into i (Read held) old new j = refl
none_given config out into i (Bad frame) old new j = refl

both_none : (b : Bool) → ◌≡◌ {A = List (List Bit)} (cond b [] []) []
both_none true = refl
both_none false = refl

taken_is : (into : Dir) (i : ℕ) (r : Reading) (j : ℕ) → taken_by (doing_of into i r) j ≡ cond (i == j) (good_taken r) []
taken_is into i Nothing j = sym (both_none (i == j))
taken_is into i (Read held) j = refl
taken_is into i (Bad frame) j = sym (both_none (i == j))

-- what the first channels brought for channel j
abbrev pub took_below : (ℕ → Reading) → ℕ → ℕ → List (List Bit)
took_below readings zero j = []
took_below readings (suc i) j = took_below readings i j ++ cond (i == j) (good_taken (readings i)) []

-- the world after the first channels were read
abbrev pub world_below : Config → Dir → (ℕ → Reading) → ℕ → World → World
world_below config into readings n w = record {
  near = record { layer = (reads_below config into readings n w.near.layer).layer; said = w.near.said ++ (reads_below config into readings n w.near.layer).lines };
  far = w.far;
  out = w.out;
  back = λ j. record { given = (w.back j).given; taken = (w.back j).taken ++ took_below readings n j };
}

-- a PDU arrives for a bearer in each of its good blocks
reading_calls : (config : Config) (out into : Dir) (b i : ℕ) (r : Reading) (old new : Layer) → calls_in config out into b old (doing_of into i r) new ≡ for_each Arrive (own_blocks config into b (λ j. cond (i == j) (good_taken r) []))
reading_calls config out into b i Nothing old new = sym (ap (for_each Arrive) (own_at config into b i []))
reading_calls config out into b i (Read held) old new = sym (ap (for_each Arrive) (own_at config into b i (good_blocks (came_of held))))
reading_calls config out into b i (Bad frame) old new = sym (ap (for_each Arrive) (own_at config into b i []))

abbrev pub took_calls : Config → Dir → (ℕ → Reading) → ℕ → ℕ → List Event
took_calls config into readings n b = for_each Arrive (own_blocks config into b (took_below readings n))

more_calls : (config : Config) (out into : Dir) (readings : ℕ → Reading) (i b : ℕ) (old new : Layer) → took_calls config into readings i b ++ calls_in config out into b old (doing_of into i (readings i)) new ≡ took_calls config into readings (suc i) b
more_calls config out into readings i b old new =
    let own : ℕ → List (List Bit) = λ j. cond (i == j) (good_taken (readings i)) [] in
    ap (λ l. took_calls config into readings i b ++ l) (reading_calls config out into b i (readings i) old new)
    ∙ sym (map-append (λ block. Arrive) (own_blocks config into b (took_below readings i)) (own_blocks config into b own))
    ∙ ap (for_each Arrive) (sym (own-append config into b (took_below readings i) own))

pub reads_all : (config : Config) (out into : Dir) (readings : ℕ → Reading) (n : ℕ) (w : World) → Lifts config out into w (world_below config into readings n w) (took_calls config into readings n)
reads_all config out into readings zero w =
    as_calls config out into w (world_below config into readings zero w) (λ b. []) (took_calls config into readings zero)
    (single config out into w (world_below config into readings zero w) (Says []) (record {
      lines = [];
      does = (refl, refl, λ b. refl);
      said = refl;
      far = refl;
      out_log = λ i. sym (ap (λ l. record { given = l; taken = (w.out i).taken }) (append-nil (w.out i).given));
      back_log = λ i. refl;
    }))
    (λ b. sym (ap (for_each Arrive) (own_none config into b)))
reads_all config out into readings (suc i) w =
    let m : World = world_below config into readings i w in
    let new : World = world_below config into readings (suc i) w in
    as_calls config out into w new (λ b. took_calls config into readings i b ++ calls_in config out into b m.near.layer (doing_of into i (readings i)) new.near.layer) (took_calls config into readings (suc i))
    (then_ config out into w m new (took_calls config into readings i) (λ b. calls_in config out into b m.near.layer (doing_of into i (readings i)) new.near.layer) (reads_all config out into readings i w)
    (single config out into m new (doing_of into i (readings i)) (record {
      lines = (reads config into i (readings i) (reads_below config into readings i w.near.layer).layer).lines;
      does = reads_does config out into i (readings i) (reads_below config into readings i w.near.layer).layer;
      said = sym (append_assoc w.near.said (reads_below config into readings i w.near.layer).lines (reads config into i (readings i) (reads_below config into readings i w.near.layer).layer).lines);
      far = refl;
      out_log = λ j. sym (ap (λ l. record { given = (w.out j).given ++ l; taken = (w.out j).taken }) (none_given config out into i (readings i) (reads_below config into readings i w.near.layer).layer (reads_below config into readings (suc i) w.near.layer).layer j) ∙ ap (λ l. record { given = l; taken = (w.out j).taken }) (append-nil (w.out j).given));
      back_log = λ j. sym (ap (λ l. record { given = (w.back j).given; taken = l }) (ap (λ l. ((w.back j).taken ++ took_below readings i j) ++ l) (taken_is into i (readings i) j) ∙ append_assoc (w.back j).taken (took_below readings i j) (cond (i == j) (good_taken (readings i)) [])));
    })))
    (λ b. more_calls config out into readings i b m.near.layer new.near.layer)

-- that is what its own reading brought
took_none : (readings : ℕ → Reading) (n j : ℕ) → n ≤ j → took_below readings n j ≡ []
took_none readings zero j l = refl
took_none readings (suc i) j l =
    let differ : (i == j) ≡ false = other_number i j (λ e. absurd (omega (arith, l, e))) in
    rw (took_none readings i j (omega arith), differ) refl

pub took_own : (readings : ℕ → Reading) (n j : ℕ) → j < n → took_below readings n j ≡ good_taken (readings j)
took_own readings zero j l = absurd (omega arith)
took_own readings (suc i) j l = either (i == j)
    (λ e. let same : i ≡ j = number_same i j e in rw (e, took_none readings i j (omega (arith, same))) (ap (λ k. good_taken (readings k)) same))
    (λ e. let differs : i ≡ j → ⊥ = λ same. let t : (i == j) ≡ true = same_number i j same in absurd (cc) in
    rw (e, took_own readings i j (omega (arith, l, differs))) (append-nil (good_taken (readings j))))

pub took_is : (readings : ℕ → Reading) (n j : ℕ) → ((i : ℕ) → n ≤ i → readings i ≡ Nothing) → took_below readings n j ≡ good_taken (readings j)
took_is readings n j rest = ⊎_elim (λ (l : j < n). took_own readings n j l) (λ (l : n ≤ j). took_none readings n j l ∙ sym (ap good_taken (rest j l))) (cases_lt j n)
