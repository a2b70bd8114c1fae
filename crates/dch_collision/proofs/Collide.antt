-- Collisions are blocks that are hidden from their first One on.
use Rattle.std.proofs.Common.{◌≡◌, ◌≢◌, ◌+◌, ◌*◌, ◌<◌, ◌≤◌, ℕ, zero, suc, List, Bool, true, false, length, get_or, arith, refl, ap, sym, subst, ◌∙◌, ⊎_elim}
use Rattle.std.specs.Prelude.{◌&&◌, not, replicate, nat_lt, nat_eq, slice_set, if◌then◌else◌}
use Rattle.std.proofs.lemmas.List.{length-replicate, length-set, get_or_past, get_or-set_same, get_or-set_other}
use Rattle.std.proofs.lemmas.Bool.{cases_lt, cases_eq}
use Rattle.std.proofs.lemmas.Bool.Decides.{leb_tells, nat_tests}
use Rattle.dch_bits.specs.declared.bit.Bit.{Bit}
use Rattle.dch_bits.specs.declared.bit.Bit.TheVariants.{Zero, One}
use Rattle.dch_bits.specs.declared.bit.Vote.{Vote}
use Rattle.dch_types.specs.Lengths.{coded_block}
use Rattle.dch_coding.specs.Chain.{coded_as}
use Rattle.dch_coding.specs.declared.rate.Rate.{Rate}
use Rattle.dch_coding.specs.declared.rate.Rate.TheVariants.{Half, Third}
use Rattle.dch_coding.specs.Conv.{outputs, coded_length, encoded}
use Rattle.dch_coding.proofs.Codes.{length-encoded}
use Rattle.dch_coding.proofs.Linear.{sum, get_or-sum, length-sum, sum-zeros, sum-same}
use Rattle.dch_trellis.specs.Nearest.{differing, disagreement, all_copies, IsBlock, IsFirst, IsNearest}
use Rattle.dch_trellis.specs.Search.{no_votes}
use Rattle.dch_collision.specs.Collisions.{IsCollision, IsFirstCollision, NoneCollide, copies_kept}
use Rattle.dch_collision.specs.Hidden.{coding_of, is_punctured, vote_for, removed, AreVotes, IsHidden, IsFirstHidden}
use Rattle.dch_collision.proofs.Linear.{encoded-agreed, encoded-start, encoded-first, encoded-zeros, start-inside, first-inside, get_or-zeros}
use Rattle.dch_collision.proofs.BlockLists.{leading, leading-zero, leading-one, first_when}
use Rattle.dch_collision.proofs.Costs.{free_at, free_all, all_copies-le, vote-few, some-cost}

code-same : (rate : Rate) (block : List Bit) → coded_as (coding_of rate) block ≡ encoded rate block
code-same Half block = refl
code-same Third block = refl

length-same : (rate : Rate) (size : ℕ) → coded_block (coding_of rate) size ≡ coded_length rate size
length-same Half size = refl
length-same Third size = refl

pub short-code : (rate : Rate) (size : ℕ) → size ≤ 504 → coded_length rate size ≤ 1536
short-code Half size short = omega arith
short-code Third size short = omega arith

-- a bit that is sent
pub sent-one : (sent_flags : List Bool) (t : ℕ) → get_or sent_flags t false ≡ true → 0 < copies_kept sent_flags t
sent-one sent_flags t sent = rw sent (omega arith)

pub one-sent : (sent_flags : List Bool) (t : ℕ) → 0 < copies_kept sent_flags t → get_or sent_flags t false ≡ true
one-sent sent_flags t some = by_flag (get_or sent_flags t false) some
  where
    by_flag : (sent : Bool) → 0 < (if sent then 1 else 0) → sent ≡ true
    by_flag true some = refl
    by_flag false some = absurd (omega arith)

sent-inside : (sent_flags : List Bool) (t : ℕ) → get_or sent_flags t false ≡ true → t < length sent_flags
sent-inside sent_flags t sent = ⊎_elim
    (λ (inside : t < length sent_flags). inside)
    (λ (past : length sent_flags ≤ t). let none : get_or sent_flags t false ≡ false = get_or_past sent_flags t false past in cc)
    (cases_lt t (length sent_flags))

wider : (size filler k : ℕ) (block : List Bit) → filler ≤ k → IsBlock size k block → IsBlock size filler block
wider size filler k block late shape = record {
  sized = shape.sized;
  filled = λ j early. shape.filled j (omega arith);
}

pub zeros-block : (size filler : ℕ) → IsBlock size filler (replicate size Zero)
zeros-block size filler = record {
  sized = length-replicate {A = Bit} size Zero;
  filled = λ k early. get_or-zeros size k;
}

-- a hidden block after the filler
record Hides (rate : Rate) (sent_flags : List Bool) (size filler : ℕ) (block : List Bit) : Type 0 where
  late : filler ≤ leading block
  inside : leading block < size
  hidden : IsHidden rate sent_flags size (leading block) block

-- the sum of two blocks that collide
sum-filled : (size filler : ℕ) (a b : List Bit) → IsBlock size filler a → IsBlock size filler b → (k : ℕ) → k < filler → get_or (sum a b) k Zero ≡ Zero
sum-filled size filler a b first second k early = get_or-sum a b k ∙ rw (first.filled k early, second.filled k early) refl

agree-sent : (rate : Rate) (sent_flags : List Bool) (size filler : ℕ) (a b : List Bit) → IsCollision (coding_of rate) size filler (copies_kept sent_flags) a b → (t : ℕ) → t < coded_length rate size → get_or sent_flags t false ≡ true → get_or (encoded rate a) t Zero ≡ get_or (encoded rate b) t Zero
agree-sent rate sent_flags size filler a b collision t within sent =
    ap (λ code. get_or code t Zero) (sym (code-same rate a))
    ∙ collision.agree t (omega (arith, length-same rate size)) (sent-one sent_flags t sent)
    ∙ ap (λ code. get_or code t Zero) (code-same rate b)

hides-sum : (rate : Rate) (sent_flags : List Bool) (size filler : ℕ) (a b : List Bit) → IsCollision (coding_of rate) size filler (copies_kept sent_flags) a b → Hides rate sent_flags size filler (sum a b)
hides-sum rate sent_flags size filler a b collision =
    let long : length (sum a b) ≡ size = length-sum a b (collision.first.sized ∙ sym collision.second.sized) ∙ collision.first.sized in
    let inside : leading (sum a b) < length (sum a b) = ⊎_elim
    (λ (inside : leading (sum a b) < length (sum a b)). inside)
    (λ (past : length (sum a b) ≤ leading (sum a b)). absurd (collision.differ (sum-same a b (collision.first.sized ∙ sym collision.second.sized) (all-zero (sum a b) past))))
    (cases_lt (leading (sum a b)) (length (sum a b))) in
    let one : get_or (sum a b) (leading (sum a b)) Zero ≡ One = leading-one (sum a b) inside in
    record {
      late = ⊎_elim
          (λ (early : leading (sum a b) < filler). let none : get_or (sum a b) (leading (sum a b)) Zero ≡ Zero = sum-filled size filler a b collision.first collision.second (leading (sum a b)) early in cc)
          (λ (late : filler ≤ leading (sum a b)). late)
          (cases_lt (leading (sum a b)) filler);
      inside = omega (arith, inside, long);
      hidden = record {
        shape = record { sized = long; filled = λ k early. leading-zero (sum a b) k early };
        one = one;
        silent = λ t within sent. encoded-agreed rate a b t (collision.first.sized ∙ sym collision.second.sized) (agree-sent rate sent_flags size filler a b collision t within sent);
      };
    }
  where
    all-zero : (bits : List Bit) → length bits ≤ leading bits → (t : ℕ) → get_or bits t Zero ≡ Zero
    all-zero bits past t = ⊎_elim
        (λ (early : t < leading bits). leading-zero bits t early)
        (λ (late : leading bits ≤ t). get_or_past bits t Zero (omega arith))
        (cases_lt t (leading bits))

-- a hidden block and zeros collide
hidden-collides : (rate : Rate) (sent_flags : List Bool) (size filler k : ℕ) (block : List Bit) → filler ≤ k → IsHidden rate sent_flags size k block → IsCollision (coding_of rate) size filler (copies_kept sent_flags) (replicate size Zero) block
hidden-collides rate sent_flags size filler k block late hidden = record {
  first = zeros-block size filler;
  second = wider size filler k block late hidden.shape;
  differ = λ same.
      let none : get_or block k Zero ≡ Zero = ap (λ bits. get_or bits k Zero) (sym same) ∙ get_or-zeros size k in
      let one : get_or block k Zero ≡ One = hidden.one in
      cc;
  agree = λ t within some.
      let inside : t < coded_length rate size = omega (arith, within, length-same rate size) in
      ap (λ code. get_or code t Zero) (code-same rate (replicate size Zero))
      ∙ encoded-zeros rate size t (let P : ℕ → Type 0 = λ n. t < coded_length rate n in subst P (sym (length-replicate {A = Bit} size Zero)) inside)
      ∙ sym (ap (λ code. get_or code t Zero) (code-same rate block) ∙ hidden.silent t inside (one-sent sent_flags t some));
}

-- no block is hidden
pub none-hidden : (rate : Rate) (sent_flags : List Bool) (size filler : ℕ) → ((k : ℕ) (other : List Bit) → filler ≤ k → k < size → IsHidden rate sent_flags size k other → ⊥) → NoneCollide (coding_of rate) size filler (copies_kept sent_flags)
none-hidden rate sent_flags size filler none a b collision =
    let hides : Hides rate sent_flags size filler (sum a b) = hides-sum rate sent_flags size filler a b collision in
    none (leading (sum a b)) (sum a b) hides.late hides.inside hides.hidden

-- the first block that is hidden from the last place that some block is hidden from
pub first-hidden : (rate : Rate) (sent_flags : List Bool) (size filler k : ℕ) (block : List Bit) → filler ≤ k → IsFirstHidden rate sent_flags size k block → ((j : ℕ) (other : List Bit) → k < j → j < size → IsHidden rate sent_flags size j other → ⊥) → IsFirstCollision (coding_of rate) size filler (copies_kept sent_flags) block
first-hidden rate sent_flags size filler k block late is none = record {
  collides = hidden-collides rate sent_flags size filler k block late is.hidden;
  first = λ other collision.
      let same : sum (replicate size Zero) other ≡ other = sum-zeros size other (sym collision.second.sized) in
      let P : List Bit → Type 0 = λ bits. Hides rate sent_flags size filler bits in
      by_place other (subst P same (hides-sum rate sent_flags size filler (replicate size Zero) other collision));
}
  where
    by_place : (other : List Bit) → Hides rate sent_flags size filler other → IsFirst block other
    by_place other hides = ⊎_elim
        (λ (early : leading other < k). first_when block other (λ i one same. ⊎_elim
        (λ (before : i < k). let none : get_or block i Zero ≡ Zero = is.hidden.shape.filled i before in cc)
        (λ (past : k ≤ i).
        let shared : get_or block (leading other) Zero ≡ get_or other (leading other) Zero = same (leading other) (omega arith) in
        let zero : get_or block (leading other) Zero ≡ Zero = is.hidden.shape.filled (leading other) early in
        let top : get_or other (leading other) Zero ≡ One = hides.hidden.one in
        cc)
        (cases_lt i k)))
        (λ (past : k ≤ leading other). ⊎_elim
        (λ (after : k < leading other). absurd (none (leading other) other after hides.inside hides.hidden))
        (λ (within : leading other ≤ k).
        let here : leading other ≡ k = omega arith in
        let P : ℕ → Type 0 = λ j. IsHidden rate sent_flags size j other in
        is.first other (subst P here hides.hidden))
        (cases_lt k (leading other)))
        (cases_lt (leading other) k)

-- an output of the step from which a block is hidden is not sent
sent-start : (rate : Rate) (sent_flags : List Bool) (size k t at : ℕ) (other : List Bit) → k < size → t < outputs rate → at ≡ outputs rate * k + t → IsHidden rate sent_flags size k other → get_or sent_flags at false ≡ false
sent-start rate sent_flags size k t at other inside within place hidden = by_flag (get_or sent_flags at false) refl
  where
    by_flag : (sent : Bool) → get_or sent_flags at false ≡ sent → sent ≡ false
    by_flag false flag = refl
    by_flag true flag =
        let one : get_or (encoded rate other) at Zero ≡ One = encoded-start rate size k t at other hidden.shape inside within place ∙ hidden.one in
        let none : get_or (encoded rate other) at Zero ≡ Zero = hidden.silent at (omega (arith, place, start-inside rate size k t inside within)) flag in
        cc

pub lost-start : (rate : Rate) (sent_flags : List Bool) (size k : ℕ) (other : List Bit) → k < size → is_punctured rate sent_flags k ≡ false → IsHidden rate sent_flags size k other → ⊥
lost-start Half sent_flags size k other inside some hidden =
    let first : get_or sent_flags (2 * k) false ≡ false = sent-start Half sent_flags size k 0 (2 * k) other inside (omega arith) (omega arith) hidden in
    let second : get_or sent_flags (2 * k + 1) false ≡ false = sent-start Half sent_flags size k 1 (2 * k + 1) other inside (omega arith) (omega arith) hidden in
    let lost : is_punctured Half sent_flags k ≡ true = rw (first, second) refl in
    cc
lost-start Third sent_flags size k other inside some hidden =
    let first : get_or sent_flags (3 * k) false ≡ false = sent-start Third sent_flags size k 0 (3 * k) other inside (omega arith) (omega arith) hidden in
    let second : get_or sent_flags (3 * k + 1) false ≡ false = sent-start Third sent_flags size k 1 (3 * k + 1) other inside (omega arith) (omega arith) hidden in
    let third : get_or sent_flags (3 * k + 2) false ≡ false = sent-start Third sent_flags size k 2 (3 * k + 2) other inside (omega arith) (omega arith) hidden in
    let lost : is_punctured Third sent_flags k ≡ true = rw (first, second, third) refl in
    cc

-- the first output of a step that is lost is not sent
pub lost-first : (rate : Rate) (sent_flags : List Bool) (at k : ℕ) → at ≡ outputs rate * k → is_punctured rate sent_flags k ≡ true → get_or sent_flags at false ≡ false
lost-first Half sent_flags at k place lost = rw place (by_flags (get_or sent_flags (2 * k) false) (not (get_or sent_flags (2 * k + 1) false)) lost)
  where
    by_flags : (a b : Bool) → (not a && b) ≡ true → a ≡ false
    by_flags false b lost = refl
    by_flags true b lost = cc
lost-first Third sent_flags at k place lost = rw place (by_flags (get_or sent_flags (3 * k) false) (not (get_or sent_flags (3 * k + 1) false)) (not (get_or sent_flags (3 * k + 2) false)) lost)
  where
    by_flags : (a b c : Bool) → (not a && b && c) ≡ true → a ≡ false
    by_flags false b c lost = refl
    by_flags true true c lost = cc
    by_flags true false c lost = cc

-- where no step is lost no two blocks collide
pub none-lost-step : (rate : Rate) (sent_flags : List Bool) (size filler : ℕ) → ((k : ℕ) → filler ≤ k → k < size → is_punctured rate sent_flags k ≡ false) → NoneCollide (coding_of rate) size filler (copies_kept sent_flags)
none-lost-step rate sent_flags size filler some = none-hidden rate sent_flags size filler (λ k other late inside hidden. lost-start rate sent_flags size k other inside (some k late inside) hidden)

-- the copies of the votes
pub few-votes : (low high : ℕ) (sent_flags : List Bool) (votes : List Vote) → length votes ≡ length sent_flags → AreVotes low high sent_flags votes → low ≤ 2048 → high ≤ 2048 → all_copies votes ≤ 2048 * length votes
few-votes low high sent_flags votes sized stand small less = all_copies-le votes (λ t within. rw (stand t (omega arith)) (vote-few low high (get_or sent_flags t false) small less))

abbrev pub one_vote : Vote
one_vote = record { zeros = 0; ones = 1 }

pub few-asked : (sent_flags : List Bool) (votes : List Vote) (at : ℕ) → length votes ≡ length sent_flags → AreVotes 1 0 sent_flags votes → at < length votes → all_copies (slice_set votes at one_vote) ≤ 2048 * length votes
few-asked sent_flags votes at sized stand inside =
    omega (
      arith,
      all_copies-le (slice_set votes at one_vote) (λ t within. ⊎_elim
          (λ (here : t ≡ at). rw (here, get_or-set_same votes at one_vote no_votes inside) (omega arith))
          (λ (other : t ≢ at). rw (get_or-set_other votes at t one_vote no_votes other, stand t (omega (arith, length-set {A = Vote}))) (vote-few 1 0 (get_or sent_flags t false) (omega arith) (omega arith)))
          (cases_eq t at)),
      length-set {A = Vote},
    )

-- what the votes of a step cost a hidden block
pub free-hidden : (rate : Rate) (sent_flags : List Bool) (size k at : ℕ) (votes : List Vote) (other : List Bit) → at ≡ outputs rate * k → k < size → length votes ≡ length sent_flags → length sent_flags ≡ coded_length rate size → AreVotes 1 0 sent_flags votes → IsHidden rate sent_flags size k other → disagreement (slice_set votes at one_vote) (encoded rate other) ≡ 0
free-hidden rate sent_flags size k at votes other place inside sized coded stand hidden = free_all (slice_set votes at one_vote) (encoded rate other) (λ t within. ⊎_elim
    (λ (here : t ≡ at).
    let one : get_or (encoded rate other) at Zero ≡ One = ap (λ at. get_or (encoded rate other) at Zero) place ∙ encoded-first rate size k other hidden.shape inside ∙ hidden.one in
    rw (here, get_or-set_same votes at one_vote no_votes (omega (arith, place, first-inside rate size k inside)), one) refl)
    (λ (elsewhere : t ≢ at). rw (get_or-set_other votes at t one_vote no_votes elsewhere, stand t (omega (arith, length-set {A = Vote}))) (by_flag (get_or sent_flags t false) (get_or (encoded rate other) t Zero) (λ sent. hidden.silent t (omega (arith, length-set {A = Vote})) sent)))
    (cases_eq t at))
  where
    by_flag : (sent : Bool) (b : Bit) → (sent ≡ true → b ≡ Zero) → differing (vote_for 1 0 sent) b ≡ 0
    by_flag true b silent = rw (silent refl) refl
    by_flag false Zero silent = refl
    by_flag false One silent = refl

-- a block that costs nothing is hidden
pub hidden-free : (rate : Rate) (sent_flags : List Bool) (size k at : ℕ) (votes : List Vote) (block : List Bit) → at ≡ outputs rate * k → k < size → length votes ≡ length sent_flags → length sent_flags ≡ coded_length rate size → AreVotes 1 0 sent_flags votes → get_or sent_flags at false ≡ false → IsBlock size k block → disagreement (slice_set votes at one_vote) (encoded rate block) ≡ 0 → IsHidden rate sent_flags size k block
hidden-free rate sent_flags size k at votes block place inside sized coded stand lost shape free =
    let long : length (encoded rate block) ≡ coded_length rate size = length-encoded rate block ∙ ap (coded_length rate) shape.sized in
    let room : at < length votes = omega (arith, place, first-inside rate size k inside) in
    record {
      shape = shape;
      one =
          let asked : differing one_vote (get_or (encoded rate block) at Zero) ≡ 0 = ap (λ vote. differing vote (get_or (encoded rate block) at Zero)) (sym (get_or-set_same votes at one_vote no_votes room)) ∙ free_at (slice_set votes at one_vote) (encoded rate block) at free (omega (arith, length-set {A = Vote})) (omega arith) in
          sym (encoded-first rate size k block shape inside) ∙ ap (λ at. get_or (encoded rate block) at Zero) (sym place) ∙ is_one (get_or (encoded rate block) at Zero) asked;
      silent = λ t within sent.
          let elsewhere : t ≢ at = λ here. let clash : get_or sent_flags at false ≡ true = ap (λ t. get_or sent_flags t false) (sym here) ∙ sent in cc in
          let vote : get_or (slice_set votes at one_vote) t no_votes ≡ vote_for 1 0 true = get_or-set_other votes at t one_vote no_votes elsewhere ∙ stand t (omega arith) ∙ ap (vote_for 1 0) sent in
          is_zero (get_or (encoded rate block) t Zero) (ap (λ vote. differing vote (get_or (encoded rate block) t Zero)) (sym vote) ∙ free_at (slice_set votes at one_vote) (encoded rate block) t free (omega (arith, length-set {A = Vote})) (omega arith));
    }
  where
    is_one : (b : Bit) → differing one_vote b ≡ 0 → b ≡ One
    is_one Zero free = absurd (omega (arith, free))
    is_one One free = refl

    is_zero : (b : Bit) → differing (vote_for 1 0 true) b ≡ 0 → b ≡ Zero
    is_zero Zero free = refl
    is_zero One free = absurd (omega (arith, free))

is-zero : (n : ℕ) → nat_eq n 0 ≡ true → n ≡ 0
is-zero zero same = refl
is-zero (suc n) same = let other : nat_eq (suc n) 0 ≡ false = grind (arith, nat_tests) in cc

not-zero : (n : ℕ) → nat_eq n 0 ≡ false → n ≢ 0
not-zero zero same = cc
not-zero (suc n) same = λ none. absurd (omega (arith, none))

-- the nearest block is the first that is hidden
pub nearest-first : (rate : Rate) (sent_flags : List Bool) (size k at cost : ℕ) (votes : List Vote) (block : List Bit) → at ≡ outputs rate * k → k < size → length votes ≡ length sent_flags → length sent_flags ≡ coded_length rate size → AreVotes 1 0 sent_flags votes → get_or sent_flags at false ≡ false → IsNearest rate (slice_set votes at one_vote) size k block → cost ≡ disagreement (slice_set votes at one_vote) (encoded rate block) → nat_eq cost 0 ≡ true → IsFirstHidden rate sent_flags size k block
nearest-first rate sent_flags size k at cost votes block place inside sized coded stand lost nearest counted none =
    let free : disagreement (slice_set votes at one_vote) (encoded rate block) ≡ 0 = sym counted ∙ is-zero cost none in
    record {
      hidden = hidden-free rate sent_flags size k at votes block place inside sized coded stand lost nearest.shape free;
      first = λ other hidden. nearest.first other hidden.shape (free-hidden rate sent_flags size k at votes other place inside sized coded stand hidden ∙ sym free);
    }

-- or no block is hidden from there on
pub nearest-none : (rate : Rate) (sent_flags : List Bool) (size k at cost : ℕ) (votes : List Vote) (block : List Bit) → at ≡ outputs rate * k → k < size → length votes ≡ length sent_flags → length sent_flags ≡ coded_length rate size → AreVotes 1 0 sent_flags votes → IsNearest rate (slice_set votes at one_vote) size k block → cost ≡ disagreement (slice_set votes at one_vote) (encoded rate block) → nat_eq cost 0 ≡ false → (other : List Bit) → IsHidden rate sent_flags size k other → ⊥
nearest-none rate sent_flags size k at cost votes block place inside sized coded stand nearest counted some other hidden =
    not-zero cost some (omega (arith, counted, nearest.least other hidden.shape, free-hidden rate sent_flags size k at votes other place inside sized coded stand hidden))

-- no block collides with zeros where none costs less than they do
pub none-cheaper : (rate : Rate) (sent_flags : List Bool) (size filler weight cost : ℕ) (votes : List Vote) (block : List Bit) → length votes ≡ length sent_flags → length sent_flags ≡ coded_length rate size → AreVotes weight 1 sent_flags votes → IsNearest rate votes size filler block → cost ≡ disagreement votes (encoded rate block) → nat_lt cost (removed sent_flags) ≡ false → NoneCollide (coding_of rate) size filler (copies_kept sent_flags)
none-cheaper rate sent_flags size filler weight cost votes block sized coded stand nearest counted dear = none-hidden rate sent_flags size filler (λ k other late inside hidden.
    let one : get_or (encoded rate other) (outputs rate * k) Zero ≡ One = encoded-first rate size k other hidden.shape inside ∙ hidden.one in
    let cheap : disagreement votes (encoded rate other) < removed sent_flags = some-cost weight sent_flags votes (encoded rate other) (outputs rate * k) sized stand (λ t sent. hidden.silent t (omega (arith, sent-inside sent_flags t sent)) sent) (omega (arith, first-inside rate size k inside)) one in
    let least : disagreement votes (encoded rate block) ≤ disagreement votes (encoded rate other) = nearest.least other (wider size filler k other late hidden.shape) in
    ⊎_elim
    (λ (below : (nat_lt cost (removed sent_flags) ≡ true) × (cost < removed sent_flags)). cc)
    (λ (above : (nat_lt cost (removed sent_flags) ≡ false) × (removed sent_flags < suc cost)). absurd (omega (arith, above.1, counted)))
    (leb_tells (suc cost) (removed sent_flags)))
