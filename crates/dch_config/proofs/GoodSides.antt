-- The limits of a direction, where none of them refuses.
use Rattle.std.proofs.Common.{◌≡◌, ◌<◌, ◌≤◌, ◌||◌, ℕ, zero, suc, Bool, true, false, not, List, [], ◌∷◌, length, get_or, take, nat_lt, None, refl, ap, sym, ◌∙◌, subst, ⊎_elim, arith, length-take}
use Rattle.std.specs.Prelude.{position, Contains}
use Rattle.std.specs.List.{list_any}
use Rattle.std.proofs.lemmas.Bool.{cases_Bool}
use Rattle.std.proofs.lemmas.Bool.Decides.{nat_tests, eqb_tells}
use Rattle.std.proofs.lemmas.List.{get_or-take}
use Rattle.dch_types.specs.declared.channel.Dir.{Dir}
use Rattle.dch_types.specs.declared.channel.Trch.{Trch}
use Rattle.dch_types.specs.declared.channel.Combination.{Combination}
use Rattle.dch_types.specs.declared.channel.Side.{Side}
use Rattle.dch_types.specs.Lengths.{tti_bits}
use Rattle.dch_types.specs.Limits.{is_idle, idled, IsChannel, IsCombination, IsSide}
use Rattle.dch_types.specs.Parts.{channel_at, format_at, combination_at}
use Rattle.dch_tree.proofs.Channels.{KeepsRanges}
use Rattle.dch_tree.proofs.Whole.{KeepsSide}
use Rattle.dch_config.specs.Sides.{is_within, channel_count_refusal, format_count_refusal, has_no_idle, idle_refusal, combination_count_refusal, names_formats, same_formats, is_wrong, combination_refusal, lacks_idled, is_not_closed, closure_refusal, is_large, has_large, block_refusal, has_long, bits_refusal}
use Rattle.dch_config.proofs.Places.{none_test, none_place, position_none, position_none_below, any_none, any_some, same_numbers, numbers_same, or_first, or_second, and_first, and_second, not_none, not_true}

-- no refusal of a direction
pub record RefusesNone (dir : Dir) (side : Side) : Type 0 where
  pub channels : channel_count_refusal dir side ≡ None
  pub formats : format_count_refusal dir side ≡ None
  pub idle : idle_refusal dir side ≡ None
  pub combinations : combination_count_refusal dir side ≡ None
  pub names : combination_refusal dir side ≡ None
  pub closure : closure_refusal dir side ≡ None
  pub blocks : block_refusal dir side ≡ None
  pub bits : bits_refusal dir side ≡ None

-- a number that is not outside
pub within : (least most n : ℕ) → not (is_within least most n) ≡ false → (least ≤ n) × (n ≤ most)
within least most n e =
    let both : is_within least most n ≡ true = not_true (is_within least most n) e in
    let low : least ≤ n = grind (arith, nat_tests) in
    let high : n ≤ most = grind (arith, nat_tests) in
    (low, high)

not_above : (most n : ℕ) → nat_lt most n ≡ false → n ≤ most
not_above most n e = grind (arith, nat_tests)

channel_good : (dir : Dir) (side : Side) → RefusesNone dir side → KeepsSide side → (i : ℕ) → i < length side.channels → IsChannel (channel_at side i)
channel_good dir side none keeps i inside =
    let ranges : KeepsRanges (channel_at side i) = keeps.channels i inside in
    let count = within 1 32 (length (channel_at side i).formats) (position_none (λ channel. not (is_within 1 32 (length channel.formats))) side.channels (none_place _ _ none.formats) i _ inside) in
    let idle = position_none has_no_idle side.channels (none_place _ _ none.idle) i _ inside in
    let blocks = position_none has_large side.channels (none_place _ _ none.blocks) i _ inside in
    let bits = position_none has_long side.channels (none_place _ _ none.bits) i _ inside in
    record {
      frames = ranges.frames;
      least_rm = ranges.rm.0;
      most_rm = ranges.rm.1;
      set = ranges.set;
      some = count.0;
      few = count.1;
      idle = not_none (position is_idle (channel_at side i).formats) idle;
      formats = λ f here.
          let large = any_none is_large (channel_at side i).formats blocks f _ here in
          let long = any_none (λ format. nat_lt 131072 (tti_bits (channel_at side i) format)) (channel_at side i).formats bits f _ here in
          record {
            number = not_above 64 (format_at (channel_at side i) f).number (or_second _ _ large);
            size = not_above 5000 (format_at (channel_at side i) f).size (or_first _ _ large);
            bits = not_above 131072 (tti_bits (channel_at side i) (format_at (channel_at side i) f)) long;
          };
    }

-- what a combination that names formats has
names_width : (channels : List Trch) (formats : List ℕ) → names_formats channels formats ≡ true → length formats ≡ length channels
names_width [] [] e = refl
names_width [] (f ∷ formats) e = cc
names_width (channel ∷ channels) [] e = cc
names_width (channel ∷ channels) (f ∷ formats) e = ap (λ n. suc n) (names_width channels formats (and_second _ _ e))

names_at : (channels : List Trch) (formats : List ℕ) → names_formats channels formats ≡ true → (i : ℕ) (d : Trch) → i < length channels → get_or formats i 0 < length (get_or channels i d).formats
names_at [] formats e i d inside = absurd (omega arith)
names_at (channel ∷ channels) [] e i d inside = cc
names_at (channel ∷ channels) (f ∷ formats) e zero d inside = let here = and_first (nat_lt f (length channel.formats)) (names_formats channels formats) e in grind (arith, nat_tests)
names_at (channel ∷ channels) (f ∷ formats) e (suc i) d inside = names_at channels formats (and_second _ _ e) i d (omega arith)

listed : (side : Side) (c frames : ℕ) → lacks_idled side c frames ≡ false → Contains side.combinations (record { formats = idled frames side.channels (combination_at side c).formats })
listed side c frames e =
    let target : List ℕ = idled frames side.channels (combination_at side c).formats in
    let wanted : Combination = record { formats = target } in
    let (k, inside, at) = any_some (λ other. same_formats other.formats target) side.combinations (not_true _ e) in
    (k, inside, ap (λ formats. let made : Combination = record { formats = formats } in made) (same_numbers (get_or side.combinations k wanted).formats target (at wanted)))

combination_good : (dir : Dir) (side : Side) → RefusesNone dir side → (c : ℕ) → c < length side.combinations → IsCombination side c
combination_good dir side none c inside =
    let right : is_wrong side c ≡ false = position_none_below (is_wrong side) (length side.combinations) (none_place _ _ none.names) c inside in
    let closed : is_not_closed side c ≡ false = position_none_below (is_not_closed side) (length side.combinations) (none_place _ _ none.closure) c inside in
    let names : names_formats side.channels (combination_at side c).formats ≡ true = not_true _ (or_first _ _ right) in
    let new : list_any (λ other. same_formats (combination_at side c).formats other.formats) (take c side.combinations) ≡ false = or_second _ _ right in
    let one : Bool = lacks_idled side c 1 in
    let two : Bool = lacks_idled side c 2 in
    let four : Bool = lacks_idled side c 4 in
    let eight : Bool = lacks_idled side c 8 in
    let to_four : ((one || two) || four) ≡ false = or_first ((one || two) || four) eight closed in
    let to_two : (one || two) ≡ false = or_first (one || two) four to_four in
    record {
      width = names_width side.channels (combination_at side c).formats names;
      formats = λ i here. names_at side.channels (combination_at side c).formats names i _ here;
      new = λ earlier before same.
          let short : earlier < length (take c side.combinations) = rw length-take (omega arith) in
          let other : same_formats (combination_at side c).formats (get_or (take c side.combinations) earlier (record { formats = [] })).formats ≡ false =
          any_none (λ x. same_formats (combination_at side c).formats x.formats) (take c side.combinations) new earlier (record { formats = [] }) short in
          let there : get_or (take c side.combinations) earlier (record { formats = [] }) ≡ combination_at side c = get_or-take c side.combinations earlier (record { formats = [] }) before ∙ same in
          let no : true ≡ false = sym (numbers_same (combination_at side c).formats) ∙ subst (λ x. same_formats (combination_at side c).formats x.formats ≡ false) there other in
          cc no;
      closed = λ frames is.
          ⊎_elim (λ e. subst (λ n. Contains side.combinations (record { formats = idled n side.channels (combination_at side c).formats })) (sym e) (listed side c 1 (or_first one two to_two)))
          (λ more. ⊎_elim (λ e. subst (λ n. Contains side.combinations (record { formats = idled n side.channels (combination_at side c).formats })) (sym e) (listed side c 2 (or_second one two to_two)))
          (λ more2. ⊎_elim (λ e. subst (λ n. Contains side.combinations (record { formats = idled n side.channels (combination_at side c).formats })) (sym e) (listed side c 4 (or_second (one || two) four to_four)))
          (λ e. subst (λ n. Contains side.combinations (record { formats = idled n side.channels (combination_at side c).formats })) (sym e) (listed side c 8 (or_second ((one || two) || four) eight closed)))
          more2)
          more)
          is;
    }

sets_good : (side : Side) → KeepsSide side → (i j : ℕ) → i < length side.channels → j < length side.channels → (channel_at side i).set ≡ (channel_at side j).set → (channel_at side i).frames ≡ (channel_at side j).frames
sets_good side keeps i j here there same =
    ⊎_elim (λ (told, equal). ap (λ k. (channel_at side k).frames) equal)
    (λ (told, other).
    ⊎_elim
    (λ before. let low : i < j = grind (arith, nat_tests) in keeps.sets i j low there same)
    (λ after. let low : j ≤ i = grind (arith, nat_tests) in sym (keeps.sets j i (omega arith) here (sym same)))
    (cases_Bool (nat_lt i j)))
    (eqb_tells i j)

pub side_good : (dir : Dir) (side : Side) → RefusesNone dir side → KeepsSide side → IsSide side
side_good dir side none keeps =
    let channels = within 1 8 (length side.channels) (none_test _ _ none.channels) in
    let combinations = within 1 128 (length side.combinations) (none_test _ _ none.combinations) in
    record {
      some = channels.0;
      few = channels.1;
      channels = channel_good dir side none keeps;
      sets = sets_good side keeps;
      some_combination = combinations.0;
      few_combinations = combinations.1;
      combinations = combination_good dir side none;
    }
