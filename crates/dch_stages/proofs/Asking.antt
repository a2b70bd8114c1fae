-- What is loaded of a direction after a line, and what can be shown of it.
use Rattle.std.proofs.Common.{◌≡◌, ◌≢◌, ◌<◌, ◌∙◌, ℕ, List, Option, Some, None, IfSome, length, replicate, ap, sym, subst, inl, inr}
use Rattle.std.proofs.lemmas.Bool.{cases_eq}
use Rattle.std.proofs.lemmas.List.{get_or-replicate, length-replicate}
use Rattle.dch_types.specs.declared.channel.Dir.{Dir}
use Rattle.dch_types.specs.Parts.{channel_at, format_number, side_of}
use Rattle.dch_accept.specs.Plans.{Planned}
use Rattle.dch_tti.specs.Loaded.{AreFormats, Loaded, loaded_at}
use Rattle.dch_stages.specs.Handlers.{AreLoads, format_in}

-- nothing is loaded
pub none_loaded : (planned : Planned) (dir : Dir) (formats : List (Option ℕ)) (tti : List Loaded) → formats ≡ replicate (length (side_of planned.config dir).channels) None → AreLoads planned dir formats tti
none_loaded planned dir formats tti is =
    let channels : ℕ = length (side_of planned.config dir).channels in
    record {
      all = ap length is ∙ length-replicate channels None;
      each = λ i inside. subst (λ o. IfSome o (λ f. (loaded_at tti i).format ≡ Some f)) (sym (ap (λ xs. format_in xs i) is ∙ get_or-replicate channels i None None inside)) tt;
      there = λ i inside. subst (λ o. IfSome o (λ f. f < length (channel_at (side_of planned.config dir) i).formats)) (sym (ap (λ xs. format_in xs i) is ∙ get_or-replicate channels i None None inside)) tt;
    }

-- one more TTI is loaded
pub loads_more : (planned : Planned) (dir : Dir) (i f : ℕ) (formats later : List (Option ℕ)) (before after : List Loaded) → AreLoads planned dir formats before → f < length (channel_at (side_of planned.config dir) i).formats → length later ≡ length formats → format_in later i ≡ Some f → ((j : ℕ) → j ≢ i → format_in later j ≡ format_in formats j)
    → (loaded_at after i).format ≡ Some f → ((j : ℕ) → j ≢ i → loaded_at after j ≡ loaded_at before j) → AreLoads planned dir later after
loads_more planned dir i f formats later before after are inside long here same is others = record {
  all = long ∙ are.all;
  each = λ j known. elim (cases_eq j i) [
    | inl equal ↦ subst (λ k. IfSome (format_in later k) (λ f. (loaded_at after k).format ≡ Some f)) (sym equal) (subst (λ o. IfSome o (λ f. (loaded_at after i).format ≡ Some f)) (sym here) is)
    | inr apart ↦ subst (λ o. IfSome o (λ f. (loaded_at after j).format ≡ Some f)) (sym (same j apart)) (subst (λ (l : Loaded). IfSome (format_in formats j) (λ f. l.format ≡ Some f)) (sym (others j apart)) (are.each j known))
  ];
  there = λ j known. elim (cases_eq j i) [
    | inl equal ↦ subst (λ k. IfSome (format_in later k) (λ f. f < length (channel_at (side_of planned.config dir) k).formats)) (sym equal) (subst (λ o. IfSome o (λ f. f < length (channel_at (side_of planned.config dir) i).formats)) (sym here) inside)
    | inr apart ↦ subst (λ o. IfSome o (λ f. f < length (channel_at (side_of planned.config dir) j).formats)) (sym (same j apart)) (are.there j known)
  ];
}

-- the formats of a combination are loaded
pub formats_are : (planned : Planned) (dir : Dir) (c : ℕ) (formats : List (Option ℕ)) (tti : List Loaded) → AreLoads planned dir formats tti → ((i : ℕ) → i < length (side_of planned.config dir).channels → format_in formats i ≡ Some (format_number (side_of planned.config dir) c i)) → AreFormats (side_of planned.config dir) c tti
formats_are planned dir c formats tti are all = λ i inside. subst (λ o. IfSome o (λ f. (loaded_at tti i).format ≡ Some f)) (all i inside) (are.each i inside)
