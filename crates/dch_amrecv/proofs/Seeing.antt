-- What the places hold, in place of how they hold it.
use Rattle.std.proofs.Common.{◌≡◌, ◌+◌, ℕ, zero, suc, List, [], ◌∷◌, Option, Some, None, map, length, drop, slice_get, option_copied, is_some, Bor, refl, ap}
use Rattle.dch_amrecv.specs.Places.{front, is_kept, put, vacant}
use Rattle.dch_pool.specs.Blocks.{Blocks}
use Rattle.dch_amrecv.specs.Kept.{body_at, seen}

pub is_kept-seen : (pool : Blocks) → (ps : List (Option ℕ)) (i : ℕ) → is_kept (map (seen pool) ps) i ≡ is_kept ps i
is_kept-seen pool [] i = refl
is_kept-seen pool (None ∷ ps) zero = refl
is_kept-seen pool (Some k ∷ ps) zero = refl
is_kept-seen pool (p ∷ ps) (suc i) = is_kept-seen pool ps i

pub front-seen : (pool : Blocks) → (ps : List (Option ℕ)) → front (map (seen pool) ps) ≡ front ps
front-seen pool [] = refl
front-seen pool (None ∷ ps) = refl
front-seen pool (Some k ∷ ps) = ap suc (front-seen pool ps)

pub vacant-seen : (pool : Blocks) → (n : ℕ) (ps : List (Option ℕ)) → vacant n (map (seen pool) ps) ≡ vacant n ps
vacant-seen pool n [] = refl
vacant-seen pool n (None ∷ ps) = ap (λ xs. n ∷ xs) (vacant-seen pool (n + 1) ps)
vacant-seen pool n (Some k ∷ ps) = vacant-seen pool (n + 1) ps

pub put-seen : (pool : Blocks) → (i : ℕ) (k : ℕ) (ps : List (Option ℕ)) → map (seen pool) (put i k ps) ≡ put i (body_at pool k) (map (seen pool) ps)
put-seen pool zero k [] = refl
put-seen pool zero k (p ∷ ps) = refl
put-seen pool (suc i) k [] = ap (λ xs. None ∷ xs) (put-seen pool i k [])
put-seen pool (suc i) k (p ∷ ps) = ap (λ xs. seen pool p ∷ xs) (put-seen pool i k ps)

pub get-seen : (pool : Blocks) → (i : ℕ) (k : ℕ) (ps : List (Option ℕ)) → slice_get ps i ≡ Some (Some k) → slice_get (map (seen pool) ps) i ≡ Some (Some (body_at pool k))
get-seen pool i k [] e = absurd (cc)
get-seen pool zero k (p ∷ ps) e = let s : p ≡ Some k = cc in ap (λ q. Some (seen pool q)) s
get-seen pool (suc i) k (p ∷ ps) e = get-seen pool i k ps e

pub drop-seen : (pool : Blocks) → (n : ℕ) (ps : List (Option ℕ)) → map (seen pool) (drop n ps) ≡ drop n (map (seen pool) ps)
drop-seen pool zero ps = refl
drop-seen pool (suc n) [] = refl
drop-seen pool (suc n) (p ∷ ps) = drop-seen pool n ps

pub copied_some : {A : Type 0} (o : Option (Bor A)) → is_some (option_copied o) ≡ is_some o
copied_some None = refl
copied_some (Some x) = refl

pub length-seen : (pool : Blocks) → (ps : List (Option ℕ)) → length (map (seen pool) ps) ≡ length ps
length-seen pool [] = refl
length-seen pool (p ∷ ps) = ap suc (length-seen pool ps)
