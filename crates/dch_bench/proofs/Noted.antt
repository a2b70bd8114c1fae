-- The formats that a trip notes of what it loads.
use Rattle.std.proofs.Common.{◌≡◌, ◌≢◌, ℕ, List, sym, ◌∙◌, ap, inl, inr}
use Rattle.std.specs.Prelude.{Option, Some, None, slice_index_or}
use Rattle.std.proofs.lemmas.Bool.{cases_eq}
use Rattle.dch_tti.specs.Loaded.{Loaded, loaded_at}
use Rattle.dch_bench.specs.Trips.{AreNoted}

-- one more channel is loaded and noted
pub noted_on : (before after : List Loaded) (old new : List (Option ℕ)) (channel format : ℕ)
    → (loaded_at after channel).format ≡ Some format
    → ((i : ℕ) → i ≢ channel → loaded_at after i ≡ loaded_at before i)
    → slice_index_or new channel None ≡ Some format
    → ((i : ℕ) → i ≢ channel → slice_index_or new i None ≡ slice_index_or old i None)
    → AreNoted before old → AreNoted after new
noted_on before after old new channel format is others it same noted i f here = elim (cases_eq i channel) [
  | inl this ↦ ap (λ k. (loaded_at after k).format) this ∙ is ∙ sym it ∙ sym (ap (λ k. slice_index_or new k None) this) ∙ here
  | inr other ↦ ap (λ (loaded : Loaded). loaded.format) (others i other) ∙ noted i f (sym (same i other) ∙ here)
]
