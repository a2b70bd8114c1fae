-- In which line the text of some lines was cut.
use Rattle.std.proofs.Common.{◌≡◌, ◌⊎◌, ◌∙◌, ℕ, List, [], ◌∷◌, ◌++◌, arith, refl, ap, ap₂, sym, append_assoc, inl, inr, ⊎_elim}
use Rattle.dch_io.specs.Ends.{IsCutShort}
use Rattle.dch_lines.specs.LineTexts.{HandlesLine, HandlesLines}
use Rattle.dch_lines.specs.Semantics.{Semantics}

-- where two texts are together two others, the first of these ends within the first one, or behind it
pub parted : (a b c d : List ℕ) → a ++ b ≡ c ++ d → IsCutShort c a ⊎ ((more : List ℕ) × ((c ≡ a ++ more) × (b ≡ more ++ d)))
parted [] b c d same = inr (c, (refl, same))
parted (x ∷ a) b [] d same = inl (record { rest = x ∷ a; some = omega arith; whole = refl })
parted (x ∷ a) b (y ∷ c) d same =
    let first : x ≡ y = cc in
    let others : a ++ b ≡ c ++ d = cc in
    ⊎_elim (λ cut. inl (record { rest = cut.rest; some = cut.some; whole = ap₂ (λ h t. h ∷ t) first cut.whole }))
    (λ past. inr (past.0, (ap₂ (λ h t. h ∷ t) (sym first) past.1.0, past.1.1))) (parted a b c d others)

-- what is written ends within the text of one of these lines
pub record CutsOne {S : Type 0} (semantics : Semantics S) (old : S) (lines : List (List ℕ)) (written : List ℕ) : Type 0 where
  pub good : List (List ℕ)
  pub line : List ℕ
  pub later : List (List ℕ)
  pub are : lines ≡ good ++ (line ∷ later)
  pub state : S
  pub done : List ℕ
  pub handles : HandlesLines semantics old good state done
  pub new : S
  pub text : List ℕ
  pub adds : HandlesLine semantics state line new text
  pub last : List ℕ
  pub whole : written ≡ done ++ last
  pub cut : IsCutShort last text

-- so it is, or it ends behind the text of all
pub cut_in : {S : Type 0} (semantics : Semantics S) (old new : S) (lines : List (List ℕ)) (text tail written rest : List ℕ) → HandlesLines semantics old lines new text → text ++ tail ≡ written ++ rest
    → CutsOne semantics old lines written ⊎ ((more : List ℕ) × ((written ≡ text ++ more) × (tail ≡ more ++ rest)))
cut_in semantics old new [] text tail written rest handles same = inr (written, (ap (λ t. t ++ written) (sym handles.1), sym (ap (λ t. t ++ tail) handles.1) ∙ same))
cut_in semantics old new (line ∷ lines) text tail written rest (mid, (first, (others, (handles, more, whole)))) same =
    let joined : first ++ (others ++ tail) ≡ written ++ rest = sym (append_assoc first others tail) ∙ ap (λ t. t ++ tail) (sym whole) ∙ same in
    ⊎_elim
    (λ cut. inl (record { good = []; line = line; later = lines; are = refl; state = old; done = []; handles = (refl, refl); new = mid; text = first; adds = handles; last = written; whole = refl; cut = cut }))
    (λ past. ⊎_elim
    (λ cut. inl (record {
      good = line ∷ cut.good;
      line = cut.line;
      later = cut.later;
      are = ap (λ l. line ∷ l) cut.are;
      state = cut.state;
      done = first ++ cut.done;
      handles = (mid, (first, (cut.done, (handles, cut.handles, refl))));
      new = cut.new;
      text = cut.text;
      adds = cut.adds;
      last = cut.last;
      whole = past.1.0 ∙ ap (λ t. first ++ t) cut.whole ∙ sym (append_assoc first cut.done cut.last);
      cut = cut.cut;
    }))
    (λ behind. inr (behind.0, (past.1.0 ∙ ap (λ t. first ++ t) behind.1.0 ∙ sym (append_assoc first others behind.0) ∙ ap (λ t. t ++ behind.0) (sym whole), behind.1.1)))
    (cut_in semantics mid new lines others tail past.0 rest more past.1.1))
    (parted first (others ++ tail) written rest joined)
