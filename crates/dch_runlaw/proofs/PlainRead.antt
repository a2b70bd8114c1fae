-- The lines on what is read of channels, where the good blocks that are read are for bearers of their channel.
use Rattle.std.proofs.Common.{◌≡◌, ◌<◌, ◌≤◌, ◌+◌, ◌*◌, ℕ, zero, suc, List, [], ◌∷◌, ◌++◌, true, false, length, take, drop, arith, ap, sym, subst, inl, inr}
use Rattle.std.specs.Prelude.{◌==◌, slice_index_or}
use Rattle.std.proofs.lemmas.Bool.Decides.{nat_tests}
use Rattle.dch_types.specs.declared.channel.Dir.{Dir}
use Rattle.dch_types.specs.declared.config.Config.{Config}
use Rattle.dch_accept.specs.Blocks.{Held, block_at}
use Rattle.dch_layer2.specs.Layers.{Came, Layer}
use Rattle.dch_layer2.specs.Coming.{came_at, came_below, came_of}
use Rattle.dch_layer2.specs.Reading.{Bad, Nothing, Read, Reading, reads, reads_below}
use Rattle.dch_linkcmd.specs.Checks.{good_blocks, good_from, good_in}
use Rattle.dch_runlaw.proofs.Sublists.{either}
use Rattle.dch_runlaw.proofs.PlainKnown.{AllMayReach, AreKnown, MayReach, known-append, takes_known}
use Rattle.dch_runlaw.proofs.PlainReaching.{AllReach, Reaches}

-- a good block is among the good ones
among : (config : Config) (into : Dir) (i : ℕ) (held : Held) (k count j : ℕ) → AllReach config into i (good_from held k count) → k ≤ j → j < k + count → slice_index_or held.good j false ≡ true → Reaches config into i (block_at held j)
among config into i held k zero j all low high good = absurd (omega arith)
among config into i held k (suc count) j all low high good = either (k == j)
    (λ e. let same : k ≡ j = grind (arith, nat_tests) in
    let here : slice_index_or held.good k false ≡ true = subst (λ n. slice_index_or held.good n false ≡ true) (sym same) good in
    subst (λ n. Reaches config into i (block_at held n)) same (first here all))
    (λ e. let past : k + 1 ≤ j = grind (arith, nat_tests, low) in among config into i held (k + 1) count j (later all) past (omega (arith, high)) good)
  where
    first : slice_index_or held.good k false ≡ true → AllReach config into i (good_from held k (suc count)) → Reaches config into i (block_at held k)
    first here = rw here (λ all. all.0)

    later : AllReach config into i (good_from held k (suc count)) → AllReach config into i (good_from held (k + 1) count)
    later = either (slice_index_or held.good k false) (λ e. rw e (λ all. all.1)) (λ e. rw e (λ all. all))

one_may : (config : Config) (into : Dir) (i : ℕ) (held : Held) (k : ℕ) → k < length held.good → AllReach config into i (good_blocks held) → MayReach config into i (came_at held k)
one_may config into i held k inside = either (held.size == 0)
    (λ e. let none : held.size ≡ 0 = grind (arith, nat_tests) in λ all good. inl (ap (λ s. take s (drop (k * s) held.bits)) none))
    (λ e. rw e (λ all good. inr (among config into i held 0 (length held.good) k all (omega arith) (omega (arith, inside)) good)))

may-append : (config : Config) (into : Dir) (i : ℕ) (xs ys : List Came) → AllMayReach config into i xs → AllMayReach config into i ys → AllMayReach config into i (xs ++ ys)
may-append config into i [] ys first second = second
may-append config into i (x ∷ xs) ys first second = (first.0, may-append config into i xs ys first.1 second)

all_may : (config : Config) (into : Dir) (i : ℕ) (held : Held) (n : ℕ) → n ≤ length held.good → AllReach config into i (good_blocks held) → AllMayReach config into i (came_below held n)
all_may config into i held zero few all = tt
all_may config into i held (suc n) few all = may-append config into i (came_below held n) (came_at held n ∷ []) (all_may config into i held n (omega (arith, few)) all) (one_may config into i held n (omega (arith, few)) all, tt)

reads_known : (config : Config) (into : Dir) (i : ℕ) (r : Reading) (layer : Layer) → AllReach config into i (good_in r) → AreKnown config into (reads config into i r layer).lines
reads_known config into i Nothing layer all = tt
reads_known config into i (Read held) layer all = takes_known config into i 0 (came_of held) layer (all_may config into i held (length held.good) (omega arith) all)
reads_known config into i (Bad frame) layer all = (tt, tt)

pub below_known : (config : Config) (into : Dir) (readings : ℕ → Reading) (n : ℕ) (layer : Layer) → ((i : ℕ) → i < n → AllReach config into i (good_in (readings i))) → AreKnown config into (reads_below config into readings n layer).lines
below_known config into readings zero layer all = tt
below_known config into readings (suc i) layer all =
    let mid : Layer = (reads_below config into readings i layer).layer in
    known-append config into (reads_below config into readings i layer).lines (reads config into i (readings i) mid).lines
    (below_known config into readings i layer (λ j early. all j (omega (arith, early))))
    (reads_known config into i (readings i) mid (all i (omega arith)))
