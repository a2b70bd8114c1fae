-- A bearer fills its share of a channel's blocks.
use Rattle.std.proofs.Common.{◌≡◌, ◌<◌, ◌≤◌, ◌+◌, ◌*◌, ◌++◌, ◌∙◌, ℕ, zero, suc, List, [], ◌∷◌, cond, length, arith, refl, sym, ap, subst, append_assoc}
use Rattle.std.specs.Prelude.{◌==◌, min}
use Rattle.std.proofs.lemmas.Bool.Decides.{nat_tests}
use Rattle.std.proofs.lemmas.List.{append-nil}
use Rattle.std.proofs.Math.Nat.{mul-le-mul_right}
use Rattle.dch_bits.specs.declared.bit.Bit.{Bit}
use Rattle.dch_types.specs.declared.channel.Dir.{Dir}
use Rattle.dch_types.specs.declared.config.Config.{Config}
use Rattle.dch_accept.specs.Blocks.{Held, block_at}
use Rattle.dch_accept.specs.BlockLending.{with_block}
use Rattle.dch_accept.proofs.Parts.{over, within}
use Rattle.dch_mac.specs.declared.head.Head.{Head}
use Rattle.dch_layer2.specs.Bearings.{Bearing, head_of}
use Rattle.dch_layer2.specs.BearerStanding.{Built, CanBuild, Represents as StandsFor}
use Rattle.dch_layer2.specs.declared.bearer.Bearer.{Bearer}
use Rattle.dch_layer2.specs.Sharing.{Fills, IsSameShape, Offers, front, share}
use Rattle.dch_layer2.proofs.Serving.{HasMore}
use Rattle.dch_layer2.proofs.Offers.{gives_has, gives_join, gives_one}
use Rattle.dch_layer2.proofs.Sharing.{same_shape, shape_on}
use Rattle.dch_layer2.proofs.Sums.{either, number_same}

-- block k is written
record IsWritten (k : ℕ) (old new : Held) (block : List Bit) : Type 0 where
  pub shape : IsSameShape old new
  pub there : block_at new k ≡ block
  pub before : (j : ℕ) → j < k → block_at new j ≡ block_at old j

written : (held : Held) (k : ℕ) (block : List Bit) → length (block_at held k) ≡ held.size → length block ≡ held.size → IsWritten k held (with_block held k block) block
written held k block long size =
    let o = over (k * held.size) held.size held.bits block size (within k held.size held.bits long) in
    record {
      shape = record { format = refl; size = refl; good = refl; long = o.long; room = refl };
      there = o.there;
      before = λ j less.
          let next : suc j * held.size ≤ k * held.size = mul-le-mul_right held.size less in
          let one : suc j * held.size ≡ j * held.size + held.size = omega arith in
          o.before (j * held.size) (omega (arith, next, one));
    }

front_same : (k n : ℕ) (old new : Held) → ((j : ℕ) → j < k → block_at new j ≡ block_at old j) → n ≤ k → front new n ≡ front old n
front_same k zero old new same l = refl
front_same k (suc n) old new same l = ap (λ b. front new n ++ b ∷ []) (same n (omega (arith, l))) ∙ ap (λ xs. xs ++ block_at old n ∷ []) (front_same k n old new same (omega (arith, l)))

-- none is built
pub none_filled : (config : Config) (out into : Dir) (b from : ℕ) (bearing : Bearing) (bearer : Bearer) (held : Held) → StandsFor config out into b bearing bearer → Fills config out into b 0 from bearing bearer held held
none_filled config out into b from bearing bearer held is = record {
  next = bearing;
  blocks = [];
  gives = (refl, refl);
  stands = is;
  shape = same_shape held;
  filled = let same : from + 0 ≡ from = omega arith in ap (front held) same ∙ sym (append-nil (front held from));
}

-- and one more
pub one_filled : (config : Config) (out into : Dir) (b k from : ℕ) (old : Bearing) (bearer next : Bearer) (before held : Held) (block : List Bit) → length (block_at held (from + k)) ≡ held.size → length block ≡ held.size →
    Fills config out into b k from old bearer before held → ((bearing : Bearing) → StandsFor config out into b bearing bearer → Built config out into b bearing block next) → Fills config out into b (k + 1) from old next before (with_block held (from + k) block)
one_filled config out into b k from old bearer next before held block long size fills built =
    let one = built fills.next fills.stands in
    let w = written held (from + k) block long size in
    let more : from + (k + 1) ≡ suc (from + k) = omega arith in
    record {
      next = one.next;
      blocks = fills.blocks ++ block ∷ [];
      gives = gives_join config out b k 1 old fills.next one.next fills.blocks (block ∷ []) fills.gives (gives_one config out b fills.next one.next block one.builds);
      stands = one.stands;
      shape = shape_on before held (with_block held (from + k) block) fills.shape w.shape;
      filled = ap (front (with_block held (from + k) block)) more
          ∙ (ap (λ x. front (with_block held (from + k) block) (from + k) ++ x ∷ []) w.there
          ∙ (ap (λ xs. xs ++ block ∷ []) (front_same (from + k) (from + k) held (with_block held (from + k) block) w.before (omega arith) ∙ fills.filled)
          ∙ append_assoc (front before from) fills.blocks (block ∷ [])));
    }

-- there is a block to build
share_has : (head : Head) (size left n : ℕ) → n ≤ share head size left → HasMore head size n
share_has head size left n l = either (head.size == size)
    (λ e. record { count = under head.count (ap (λ c. min (cond c head.count 0) left) e); size = λ some. number_same head.size size e })
    (λ e. let none : n ≤ 0 = under 0 (ap (λ c. min (cond c head.count 0) left) e) in record { count = omega (arith, none); size = λ some. absurd (omega (arith, none, some)) })
  where
    less : (m : ℕ) → n ≤ min m left → n ≤ m
    less m h = grind (arith, nat_tests, h)

    under : (m : ℕ) → share head size left ≡ min m left → n ≤ m
    under m e = less m (subst (λ k. n ≤ k) e l)

pub can_fill : (head : Head) (size left k from : ℕ) (bearer now : Bearer) (before held : Held) (block : List Bit) → Offers bearer head → k < share head size left → length block ≡ size →
    ((config : Config) (out into : Dir) (b : ℕ) (old : Bearing) → StandsFor config out into b old bearer → Fills config out into b k from old now before held) → CanBuild now (length block)
can_fill head size left k from bearer now before held block offers below long fills =
    let f = fills offers.config offers.out offers.into offers.b offers.bearing offers.stands in
    let has : HasMore (head_of offers.config offers.out offers.b offers.bearing) size (k + 1) = subst (λ (h : Head). HasMore h size (k + 1)) offers.head_is (share_has head size left (k + 1) (omega (arith, below))) in
    let left_has : HasMore (head_of offers.config offers.out offers.b f.next) size 1 = gives_has offers.config offers.out offers.b k 1 size offers.bearing f.next f.blocks f.gives has in
    record {
      config = offers.config;
      out = offers.out;
      into = offers.into;
      b = offers.b;
      bearing = f.next;
      stands = f.stands;
      some = left_has.count;
      size = left_has.size (omega arith) ∙ sym long;
    }

-- so far
pub record AreFilled (k from : ℕ) (bearer now : Bearer) (before held : Held) : Type 0 where
  pub shape : IsSameShape before held
  pub fills : (config : Config) (out into : Dir) (b : ℕ) (old : Bearing) → StandsFor config out into b old bearer → Fills config out into b k from old now before held

pub fill_more : (k from : ℕ) (bearer now next : Bearer) (before held : Held) (block : List Bit) → length (block_at held (from + k)) ≡ held.size → length block ≡ held.size → AreFilled k from bearer now before held →
    ((config : Config) (out into : Dir) (b : ℕ) (bearing : Bearing) → StandsFor config out into b bearing now → Built config out into b bearing block next) → AreFilled (k + 1) from bearer next before (with_block held (from + k) block)
fill_more k from bearer now next before held block long size filled built = record {
  shape = shape_on before held (with_block held (from + k) block) filled.shape (written held (from + k) block long size).shape;
  fills = λ config out into b old is. one_filled config out into b k from old now next before held block long size (filled.fills config out into b old is) (λ bearing stands. built config out into b bearing stands);
}
