-- A block that differs from zeros in the least cells.
use Rattle.std.proofs.Common.{◌≡◌, ◌⊎◌, ◌+◌, ◌*◌, ◌<◌, ◌≤◌, ℕ, zero, suc, Bool, false, List, [], ◌∷◌, length, get_or, arith, refl, ap, sym, subst, ◌∙◌, inl, inr, ⊎_elim, below_more}
use Rattle.std.specs.Prelude.{IsTrue, nat_eq, replicate}
use Rattle.std.proofs.Math.ListN.{set}
use Rattle.std.proofs.lemmas.Bool.{cases_lt}
use Rattle.std.proofs.lemmas.Bool.Decides.{eqb_tells}
use Rattle.std.proofs.lemmas.List.{get_or_past, length-replicate}
use Rattle.std.proofs.lemmas.List.Sums.{sum_by-cons}
use Rattle.dch_bits.specs.declared.bit.Bit.{Bit}
use Rattle.dch_bits.specs.declared.bit.Bit.TheVariants.{Zero, One}
use Rattle.dch_bits.specs.declared.bit.Vote.{Vote}
use Rattle.dch_bits.specs.Bits.{number_of, plus}
use Rattle.dch_coding.specs.declared.rate.Rate.{Rate}
use Rattle.dch_coding.specs.Conv.{coded_length, encoded, outputs}
use Rattle.dch_coding.proofs.Codes.{length-encoded}
use Rattle.dch_coding.proofs.Linear.{sum, get_or-sum, length-sum, encoded-sum, sum-same, sum-zeros}
use Rattle.dch_trellis.specs.Distance.{AreOfZeros, copies_at, copies_between}
use Rattle.dch_trellis.specs.Nearest.{IsBlock, IsNearest, all_copies, copies, differing, disagreement}
use Rattle.dch_trellis.specs.Search.{no_votes}
use Rattle.dch_collision.proofs.BlockLists.{leading, leading-zero, leading-one}
use Rattle.dch_collision.proofs.Collide.{zeros-block}
use Rattle.dch_collision.proofs.Linear.{encoded-first, first-inside, get_or-zeros}
use Rattle.dch_margin.specs.Differ.{DifferIn, IsFromZeros, IsLeast}

-- the copies between two codes are those that speak against their sum
paid : (vote : Vote) (x y : Bit) → vote.ones ≡ 0 → copies vote * number_of (plus x y) ≡ differing vote (plus x y)
paid vote Zero Zero none = omega arith
paid vote Zero One none = omega arith
paid vote One Zero none = omega arith
paid vote One One none = omega arith

copies-sum : (votes : List Vote) (xs ys : List Bit) → length xs ≡ length votes → length ys ≡ length votes → AreOfZeros votes → copies_between (copies_at votes) xs ys ≡ disagreement votes (sum xs ys)
copies-sum [] [] ys first second zeros = refl
copies-sum [] (x ∷ xs) ys first second zeros = absurd (omega arith)
copies-sum (v ∷ votes) [] ys first second zeros = absurd (omega arith)
copies-sum (v ∷ votes) (x ∷ xs) [] first second zeros = absurd (omega arith)
copies-sum (v ∷ votes) (x ∷ xs) (y ∷ ys) first second zeros =
    omega (arith, paid v x y (zeros 0), copies-sum votes xs ys (omega arith) (omega arith) (λ j. zeros (suc j)))

copies-blocks : (rate : Rate) (votes : List Vote) (size : ℕ) (a b : List Bit) → length votes ≡ coded_length rate size → length a ≡ size → length b ≡ size → AreOfZeros votes → copies_between (copies_at votes) (encoded rate a) (encoded rate b) ≡ disagreement votes (encoded rate (sum a b))
copies-blocks rate votes size a b sized first second zeros =
    copies-sum votes (encoded rate a) (encoded rate b) (length-encoded rate a ∙ ap (coded_length rate) first ∙ sym sized) (length-encoded rate b ∙ ap (coded_length rate) second ∙ sym sized) zeros
    ∙ ap (disagreement votes) (sym (encoded-sum rate a b (first ∙ sym second)))

-- a block that has a One differs from zeros
pub from_zeros : (rate : Rate) (votes : List Vote) (size filler k cells : ℕ) (block : List Bit) → length votes ≡ coded_length rate size → AreOfZeros votes → filler ≤ k → IsBlock size k block → get_or block k Zero ≡ One → disagreement votes (encoded rate block) ≡ cells → IsFromZeros (encoded rate) size filler (copies_at votes) cells block
from_zeros rate votes size filler k cells block sized zeros past shape one cost = record {
  pair = record {
    first = replicate size Zero;
    second = block;
    shape = zeros-block size filler;
    other = record { sized = shape.sized; filled = λ j early. shape.filled j (omega arith) };
    differ = λ same. (let none : get_or block k Zero ≡ Zero = ap (λ (bits : List Bit). get_or bits k Zero) (sym same) ∙ get_or-zeros size k in cc);
    between = copies-blocks rate votes size (replicate size Zero) block sized (length-replicate {A = Bit} size Zero) shape.sized zeros
        ∙ ap (λ (bits : List Bit). disagreement votes (encoded rate bits)) (sum-zeros size block (sym shape.sized)) ∙ cost;
  };
  zeros = refl;
  is = refl;
}

-- a block that begins with a One at a bit and costs what the least two differ in
pub record BeginsAt (rate : Rate) (votes : List Vote) (size filler least k : ℕ) : Type 0 where
  pub block : List Bit
  pub past : filler ≤ k
  pub inside : k < size
  pub shape : IsBlock size k block
  pub one : get_or block k Zero ≡ One
  pub cost : disagreement votes (encoded rate block) ≡ least

pub record Begins (rate : Rate) (votes : List Vote) (size filler least : ℕ) : Type 0 where
  pub place : ℕ
  pub is : BeginsAt rate votes size filler least place

all-zero : (bits : List Bit) → length bits ≤ leading bits → (t : ℕ) → get_or bits t Zero ≡ Zero
all-zero bits past t = ⊎_elim
    (λ (early : t < leading bits). leading-zero bits t early)
    (λ (late : leading bits ≤ t). get_or_past bits t Zero (omega arith))
    (cases_lt t (leading bits))

sum-filled : (size filler : ℕ) (a b : List Bit) → IsBlock size filler a → IsBlock size filler b → (k : ℕ) → k < filler → get_or (sum a b) k Zero ≡ Zero
sum-filled size filler a b first second k early = get_or-sum a b k ∙ rw (first.filled k early, second.filled k early) refl

-- the sum of two blocks that differ is one
pub begins : (rate : Rate) (votes : List Vote) (size filler least : ℕ) → length votes ≡ coded_length rate size → AreOfZeros votes → DifferIn (encoded rate) size filler (copies_at votes) least → Begins rate votes size filler least
begins rate votes size filler least sized zeros pair =
    let a : List Bit = pair.first in
    let b : List Bit = pair.second in
    let same : length a ≡ length b = pair.shape.sized ∙ sym pair.other.sized in
    let long : length (sum a b) ≡ size = length-sum a b same ∙ pair.shape.sized in
    let inside : leading (sum a b) < length (sum a b) = ⊎_elim
    (λ (inside : leading (sum a b) < length (sum a b)). inside)
    (λ (past : length (sum a b) ≤ leading (sum a b)). absurd (pair.differ (sum-same a b same (all-zero (sum a b) past))))
    (cases_lt (leading (sum a b)) (length (sum a b))) in
    let one : get_or (sum a b) (leading (sum a b)) Zero ≡ One = leading-one (sum a b) inside in
    record {
      place = leading (sum a b);
      is = record {
        block = sum a b;
        past = ⊎_elim
            (λ (early : leading (sum a b) < filler). let none : get_or (sum a b) (leading (sum a b)) Zero ≡ Zero = sum-filled size filler a b pair.shape pair.other (leading (sum a b)) early in cc)
            (λ (late : filler ≤ leading (sum a b)). late)
            (cases_lt (leading (sum a b)) filler);
        inside = omega (arith, inside, long);
        shape = record { sized = long; filled = λ k early. leading-zero (sum a b) k early };
        one = one;
        cost = sym (copies-blocks rate votes size a b sized pair.shape.sized pair.other.sized zeros) ∙ pair.between;
      };
    }

-- a One is asked for at a place, so many times
abbrev pub asked : List Vote → ℕ → ℕ → List Vote
asked votes at times = set votes at (record { zeros = (get_or votes at no_votes).zeros; ones = times })

asked-one : (votes : List Vote) (bits : List Bit) (at times : ℕ) → get_or bits at Zero ≡ One → disagreement (asked votes at times) bits ≡ disagreement votes bits
asked-one [] bits at times one = refl
asked-one (v ∷ votes) [] at times one = absurd (let clash : Zero ≡ One = one in cc)
asked-one (v ∷ votes) (Zero ∷ bits) zero times one = absurd (let clash : Zero ≡ One = one in cc)
asked-one (v ∷ votes) (One ∷ bits) zero times one = refl
asked-one (v ∷ votes) (b ∷ bits) (suc at) times one = ap (λ n. differing v b + n) (asked-one votes bits at times one)

asked-zero : (votes : List Vote) (bits : List Bit) (at times : ℕ) → at < length votes → at < length bits → get_or bits at Zero ≡ Zero → times ≤ disagreement (asked votes at times) bits
asked-zero [] bits at times inside within none = absurd (omega arith)
asked-zero (v ∷ votes) [] at times inside within none = absurd (omega arith)
asked-zero (v ∷ votes) (Zero ∷ bits) zero times inside within none = omega arith
asked-zero (v ∷ votes) (One ∷ bits) zero times inside within none = absurd (let clash : One ≡ Zero = none in cc)
asked-zero (v ∷ votes) (b ∷ bits) (suc at) times inside within none = omega (arith, asked-zero votes bits at times (omega arith) (omega arith) none)

pub asked-few : (votes : List Vote) (at times : ℕ) → all_copies (asked votes at times) ≤ all_copies votes + times
asked-few [] at times = omega arith
asked-few (v ∷ votes) zero times =
    omega (arith, sum_by-cons copies (record { zeros = v.zeros; ones = times }) votes, sum_by-cons copies v votes)
asked-few (v ∷ votes) (suc at) times = omega (arith, sum_by-cons copies v (asked votes at times), sum_by-cons copies v votes, asked-few votes at times)

pub length-asked : (votes : List Vote) (at times : ℕ) → length (asked votes at times) ≡ length votes
length-asked [] at times = refl
length-asked (v ∷ votes) zero times = refl
length-asked (v ∷ votes) (suc at) times = ap suc (length-asked votes at times)

pub restored : (votes : List Vote) (at : ℕ) (vote : Vote) → set (set votes at vote) at (get_or votes at no_votes) ≡ votes
restored [] at vote = refl
restored (v ∷ votes) zero vote = refl
restored (v ∷ votes) (suc at) vote = ap (λ vs. v ∷ vs) (restored votes at vote)

-- two codes differ in no more copies than there are
one-of : (n : ℕ) (x y : Bit) → n * number_of (plus x y) ≤ n
one-of n Zero Zero = omega arith
one-of n Zero One = omega arith
one-of n One Zero = omega arith
one-of n One One = omega arith

pub between-few : (votes : List Vote) (xs ys : List Bit) → length xs ≡ length votes → copies_between (copies_at votes) xs ys ≤ all_copies votes
between-few [] [] ys sized = omega arith
between-few [] (x ∷ xs) ys sized = absurd (omega arith)
between-few (v ∷ votes) [] ys sized = absurd (omega arith)
between-few (v ∷ votes) (x ∷ xs) [] sized = omega arith
between-few (v ∷ votes) (x ∷ xs) (y ∷ ys) sized =
    let rest : copies_between (λ j. copies_at (v ∷ votes) (suc j)) xs ys ≤ all_copies votes = between-few votes xs ys (omega arith) in
    let here : copies_at (v ∷ votes) 0 * number_of (plus x y) ≤ v.zeros + v.ones = one-of (copies v) x y in
    omega (arith, rest, here, sum_by-cons copies v votes)

pub least-few : (rate : Rate) (votes : List Vote) (size filler least : ℕ) → length votes ≡ coded_length rate size → DifferIn (encoded rate) size filler (copies_at votes) least → least ≤ all_copies votes
least-few rate votes size filler least sized pair = omega (arith, pair.between, between-few votes (encoded rate pair.first) (encoded rate pair.second) (length-encoded rate pair.first ∙ ap (coded_length rate) pair.shape.sized ∙ sym sized))

-- the nearest block, where a One is asked for at its bit k
pub asked_cost : (rate : Rate) (votes : List Vote) (size k at times : ℕ) (block : List Bit) → at ≡ outputs rate * k → k < size → IsBlock size k block → get_or block k Zero ≡ One → disagreement (asked votes at times) (encoded rate block) ≡ disagreement votes (encoded rate block)
asked_cost rate votes size k at times block place inside shape one = asked-one votes (encoded rate block) at times
    (ap (λ at. get_or (encoded rate block) at Zero) place ∙ encoded-first rate size k block shape inside ∙ one)

pub nearest_found : (rate : Rate) (votes : List Vote) (size filler k at times copies least : ℕ) (block : List Bit) → at ≡ outputs rate * k → k < size → filler ≤ k → length votes ≡ coded_length rate size → AreOfZeros votes
    → IsBlock size k block → copies ≡ disagreement (asked votes at times) (encoded rate block) → get_or block k Zero ≡ One → copies ≡ least → IsFromZeros (encoded rate) size filler (copies_at votes) least block
nearest_found rate votes size filler k at times copies least block place inside past sized zeros shape cost one same =
    from_zeros rate votes size filler k least block sized zeros past shape one (sym (asked_cost rate votes size k at times block place inside shape one) ∙ sym cost ∙ same)

bit_cases : (b : Bit) → (b ≡ Zero) ⊎ (b ≡ One)
bit_cases Zero = inl refl
bit_cases One = inr refl

pub nearest_begins : (rate : Rate) (votes : List Vote) (size filler k at copies least : ℕ) (block other : List Bit) → at ≡ outputs rate * k → k < size → filler ≤ k → length votes ≡ coded_length rate size → AreOfZeros votes
    → IsNearest rate (asked votes at (least + 1)) size k block → copies ≡ disagreement (asked votes at (least + 1)) (encoded rate block) → IsLeast (DifferIn (encoded rate) size filler (copies_at votes)) least
    → IsBlock size k other → get_or other k Zero ≡ One → disagreement votes (encoded rate other) ≡ least → (get_or block k Zero ≡ One) × (copies ≡ least)
nearest_begins rate votes size filler k at copies least block other place inside past sized zeros nearest cost is shape one costs =
    let cheap : copies ≤ least = omega (arith, nearest.least other shape, cost, asked_cost rate votes size k at (least + 1) other place inside shape one, costs) in
    elim (bit_cases (get_or block k Zero)) [
      | inl none ↦
          let room : at < length votes = omega (arith, place, first-inside rate size k inside, sized) in
          let long : length (encoded rate block) ≡ length votes = length-encoded rate block ∙ ap (coded_length rate) nearest.shape.sized ∙ sym sized in
          let silent : get_or (encoded rate block) at Zero ≡ Zero = ap (λ at. get_or (encoded rate block) at Zero) place ∙ encoded-first rate size k block nearest.shape inside ∙ none in
          absurd (omega (arith, cheap, cost, asked-zero votes (encoded rate block) at (least + 1) room (omega (arith, room, long)) silent))
      | inr here ↦
          let found : IsFromZeros (encoded rate) size filler (copies_at votes) copies block = nearest_found rate votes size filler k at (least + 1) copies copies block place inside past sized zeros nearest.shape cost here refl in
          (here, omega (arith, cheap, is.least copies found.pair))
    ]

pub are_same : (m n : ℕ) → IsTrue (nat_eq m n) → m ≡ n
are_same m n same = elim (eqb_tells m n) [ inl alike ↦ alike.1 | inr other ↦ absurd (let clash : nat_eq m n ≡ false = other.0 in cc) ]

pub same_are : (m n : ℕ) → m ≡ n → IsTrue (nat_eq m n)
same_are m n same = elim (eqb_tells m n) [ inl alike ↦ alike.0 | inr other ↦ absurd (other.1 same) ]

-- no block that costs as much begins at one of the first bits
abbrev pub NoneBegins : Rate → List Vote → ℕ → ℕ → ℕ → ℕ → Type 0
NoneBegins rate votes size filler least k = (j : ℕ) → j < k → BeginsAt rate votes size filler least j → ⊥

pub none_more : (rate : Rate) (votes now : List Vote) (size long filler least k : ℕ) (result : Bool) → now ≡ votes → long ≡ size → ((other : List Bit) → IsBlock long k other → get_or other k Zero ≡ One → disagreement now (encoded rate other) ≡ least → IsTrue result) → result ≡ false
    → NoneBegins rate votes size filler least k → NoneBegins rate votes size filler least (k + 1)
none_more rate votes now size long filler least k result stays same found not none = below_more (λ j. BeginsAt rate votes size filler least j → ⊥) k none
    (λ is. (let told : IsTrue result = found is.block (subst (λ (n : ℕ). IsBlock n k is.block) (sym same) is.shape) is.one (ap (λ (vs : List Vote). disagreement vs (encoded rate is.block)) stays ∙ is.cost) in cc))

pub found_there : (rate : Rate) (votes now : List Vote) (size long filler least : ℕ) (block : List Bit) → now ≡ votes → long ≡ size → IsFromZeros (encoded rate) long filler (copies_at now) least block → IsFromZeros (encoded rate) size filler (copies_at votes) least block
found_there rate votes now size long filler least block stays same is =
    subst (λ (vs : List Vote). IsFromZeros (encoded rate) size filler (copies_at vs) least block) stays
    (subst (λ (n : ℕ). IsFromZeros (encoded rate) n filler (copies_at now) least block) same is)
