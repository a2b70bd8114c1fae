-- The first of some faults comes before all others.
use Rattle.std.proofs.Common.{◌≡◌, ℕ, zero, suc, true, false, List, [], ◌∷◌, Option, Some, None, fold, refl, ap, sym, ◌∙◌, subst, ⊎_elim, arith, Ordering, Less, Equal, Greater, nat_cmp}
use Rattle.std.specs.Prelude.{Contains}
use Rattle.std.specs.Ordering.{is_lt, is_gt, ordering_reverse, on, then_cmp}
use Rattle.std.specs.Cmp.{IsTotalOrder}
use Rattle.std.specs.Cmp.Lexicographic.{slice_cmp}
use Rattle.std.proofs.lemmas.Bool.{cases_Bool}
use Rattle.std.proofs.lemmas.Cmp.{upto, tied_itself, nat_cmp_total, nat_list_cmp_total, on_total, then_total}
use Rattle.dch_tree.specs.declared.fault.Fault.{Fault}
use Rattle.dch_tree.specs.declared.fault.Fault.TheVariants.{Key, Range}
use Rattle.dch_tree.specs.Faults.{is_before, earlier, first_found}
use Rattle.dch_tree.specs.Documents.{IsFirst, document_faults, config_of, unless, Reads}
use Rattle.toml.specs.Data.{Members}
use Rattle.dch_types.specs.declared.config.Config.{Config}

-- the order of faults: by kind, and then by path
abbrev kind_of : Fault → ℕ
kind_of (Key path) = 11
kind_of (Range path) = 12

abbrev path_of : Fault → List ℕ
path_of (Key path) = path
path_of (Range path) = path

abbrev fault_cmp : Fault → Fault → Ordering
fault_cmp = then_cmp (on kind_of nat_cmp) (on path_of (slice_cmp nat_cmp))

fault_order : IsTotalOrder fault_cmp
fault_order = then_total (on_total kind_of nat_cmp_total) (on_total path_of nat_list_cmp_total)

is_before-cmp : (a b : Fault) → is_before a b ≡ is_lt (fault_cmp a b)
is_before-cmp (Key p) (Key q) = refl
is_before-cmp (Key p) (Range q) = refl
is_before-cmp (Range p) (Key q) = refl
is_before-cmp (Range p) (Range q) = refl

is_lt-reverse : (o : Ordering) → is_lt o ≡ is_gt (ordering_reverse o)
is_lt-reverse Less = refl
is_lt-reverse Equal = refl
is_lt-reverse Greater = refl

is_before-gt : (a b : Fault) → is_before a b ≡ is_gt (fault_cmp b a)
is_before-gt a b = is_before-cmp a b ∙ (is_lt-reverse (fault_cmp a b) ∙ sym (ap is_gt (fault_order.antisymm b a)))

-- not before itself, and no circle
not_before_itself : (a : Fault) → is_before a a ≡ false
not_before_itself a = is_before-cmp a a ∙ ap is_lt (tied_itself fault_order a)

through : (a b c : Fault) → is_before b a ≡ false → is_before c b ≡ false → is_before c a ≡ false
through a b c first second = is_before-gt c a ∙ upto fault_order a b c (sym (is_before-gt b a) ∙ first) (sym (is_before-gt c b) ∙ second)

lt_not_gt : (o : Ordering) → is_lt o ≡ true → is_gt o ≡ false
lt_not_gt Less e = refl
lt_not_gt Equal e = refl
lt_not_gt Greater e = sym e

not_back : (a b : Fault) → is_before a b ≡ true → is_before b a ≡ false
not_back a b e = is_before-gt b a ∙ lt_not_gt (fault_cmp a b) (sym (is_before-cmp a b) ∙ e)

later : {A : Type 0} (x y : A) (xs : List A) → Contains xs y → Contains (x ∷ xs) y
later x y xs (k, inside, e) = (suc k, omega arith, e)

-- what is found among the faults after a first one
record IsFound (first found : Fault) (faults : List Fault) : Type 0 where
  before : is_before first found ≡ false
  listed : Contains (first ∷ faults) found
  least : (other : Fault) → Contains faults other → is_before other found ≡ false

least_more : (x found : Fault) (xs : List Fault) → is_before x found ≡ false → ((other : Fault) → Contains xs other → is_before other found ≡ false)
    → (other : Fault) → Contains (x ∷ xs) other → is_before other found ≡ false
least_more x found xs here rest other (zero, inside, e) = subst (λ y. is_before y found ≡ false) e here
least_more x found xs here rest other (suc k, inside, e) = rest other (k, omega arith, e)

found_is : (first found : Fault) (faults : List Fault) → fold earlier (Some first) faults ≡ Some found → IsFound first found faults
found_is first found [] e =
    let same : first ≡ found = cc in
    record {
      before = subst (λ f. is_before first f ≡ false) same (not_before_itself first);
      listed = (0, omega arith, same);
      least = λ other (k, inside, at). absurd (omega arith);
    }
found_is first found (x ∷ xs) e =
    ⊎_elim
    (λ earlier_one.
    let rest : IsFound x found xs = found_is x found xs (rw earlier_one at e) in
    record {
      before = through found x first rest.before (not_back x first earlier_one);
      listed = later first found (x ∷ xs) rest.listed;
      least = least_more x found xs rest.before rest.least;
    })
    (λ later_one.
    let rest : IsFound first found xs = found_is first found xs (rw later_one at e) in
    record {
      before = rest.before;
      listed = skip first x found xs rest.listed;
      least = least_more x found xs (through found first x rest.before later_one) rest.least;
    })
    (cases_Bool (is_before x first))
  where
    skip : (first x found : Fault) (xs : List Fault) → Contains (first ∷ xs) found → Contains (first ∷ x ∷ xs) found
    skip first x found xs (zero, inside, at) = (0, omega arith, at)
    skip first x found xs (suc k, inside, at) = (suc (suc k), omega arith, at)

-- the fault that was found is the first
pub first_is : (found : Fault) (faults : List Fault) → first_found None faults ≡ Some found → IsFirst found faults
unfolding first_found
first_is found [] e = cc
first_is found (x ∷ xs) e =
    let rest : IsFound x found xs = found_is x found xs e in
    record { listed = rest.listed; least = least_more x found xs rest.before rest.least }

some_stays : (first : Fault) (faults : List Fault) → fold earlier (Some first) faults ≡ None → ⊥
some_stays first [] e = cc
some_stays first (x ∷ xs) e =
    ⊎_elim (λ yes. some_stays x xs (rw yes at e)) (λ no. some_stays first xs (rw no at e)) (cases_Bool (is_before x first))

-- where none was found there is none
pub none_is : (faults : List Fault) → first_found None faults ≡ None → faults ≡ []
unfolding first_found
none_is [] e = refl
none_is (x ∷ xs) e = absurd (some_stays x xs e)

-- the outcome of reading a document
pub reads : (tree : Members) (first : Option Fault) (config : Config) → first ≡ first_found None (document_faults tree) → config ≡ config_of tree → Reads tree (unless first config)
reads tree None config found same = (none_is (document_faults tree) (sym found), same)
reads tree (Some fault) config found same = first_is fault (document_faults tree) (sym found)
