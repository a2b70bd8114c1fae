-- Layer 2 at opening, one bearer and one channel after another.
use Rattle.std.proofs.Common.{◌≡◌, ◌<◌, ◌≤◌, ◌+◌, ◌*◌, ◌++◌, ◌∙◌, ℕ, zero, suc, List, [], ◌∷◌, Bool, true, false, cond, Option, Some, None, get_or, length, map, arith, refl, sym, ap, subst, length-append, ⊎_elim}
use Rattle.std.specs.Prelude.{◌==◌, IsSome, position, unwrap_or}
use Rattle.std.specs.List.{range_with_len}
use Rattle.std.proofs.lemmas.Bool.{cases_lt, eqb-false, eqb-true}
use Rattle.std.proofs.lemmas.List.{length-replicate}
use Rattle.std.proofs.lemmas.List.Quantifiers.{position-Some}
use Rattle.dch_bits.specs.declared.bit.Bit.TheVariants.{Zero}
use Rattle.dch_types.specs.declared.channel.Dir.{Dir}
use Rattle.dch_types.specs.declared.channel.Format.{Format}
use Rattle.dch_types.specs.declared.channel.Trch.{Trch}
use Rattle.dch_types.specs.declared.config.Config.{Config}
use Rattle.dch_types.specs.Limits.{IsChannel, idle_format, is_idle}
use Rattle.dch_types.specs.Parts.{channel_at, format_at, side_of}
use Rattle.dch_accept.specs.Blocks.{Held, HoldsTtis, bits_of, block_at, zero_blocks}
use Rattle.dch_layer2.specs.Bearings.{opened_bearing}
use Rattle.dch_layer2.specs.BearerStanding.{Represents as StandsFor}
use Rattle.dch_layer2.specs.declared.bearer.Bearer.{Bearer}
use Rattle.dch_layer2.specs.Opening.{AreOpened, IsIdle, blocks_in}
use Rattle.dch_layer2.specs.Values.{entity_at}

old_place : (xs : List Bearer) (x d : Bearer) (k : ℕ) → k < length xs → get_or (xs ++ x ∷ []) k d ≡ get_or xs k d
old_place [] x d k inside = absurd (omega arith)
old_place (y ∷ xs) x d zero inside = refl
old_place (y ∷ xs) x d (suc k) inside = old_place xs x d k (omega arith)

new_place : (xs : List Bearer) (x d : Bearer) (k : ℕ) → length xs ≡ k → get_or (xs ++ x ∷ []) k d ≡ x
new_place [] x d zero e = refl
new_place [] x d (suc k) e = absurd (omega (arith, e))
new_place (y ∷ xs) x d zero e = absurd (omega (arith, e))
new_place (y ∷ xs) x d (suc k) e = new_place xs x d k (omega (arith, e))

pub opened_more : (config : Config) (out into : Dir) (n : ℕ) (xs : List Bearer) (x : Bearer) → AreOpened config out into n xs → StandsFor config out into n (opened_bearing config out n) x → AreOpened config out into (n + 1) (xs ++ x ∷ [])
opened_more config out into n xs x are is = record {
  all = omega (arith, are.all, length-append xs (x ∷ []));
  each = λ b below. ⊎_elim
      (λ (l : b < n). subst (StandsFor config out into b (opened_bearing config out b)) (sym (old_place xs x (entity_at [] 0) b (omega (arith, l, are.all)))) (are.each b l))
      (λ (l : n ≤ b). let here : n ≡ b = omega (arith, l, below) in
      subst (λ k. StandsFor config out into k (opened_bearing config out k) (entity_at (xs ++ x ∷ []) k)) here
      (subst (StandsFor config out into n (opened_bearing config out n)) (sym (new_place xs x (entity_at [] 0) n are.all)) is))
      (cases_lt b n);
}

-- the idle format of a channel sends no bit
place_by : (formats : List Format) (o : Option ℕ) (d : Format) → position is_idle formats ≡ o → IsSome o → is_idle (get_or formats (unwrap_or o 0) d) ≡ true
place_by formats None d e some = let h : false ≡ true = some in absurd (cc)
place_by formats (Some k) d e some = (position-Some is_idle formats k d e).1

pub idle_is_idle : (channel : Trch) → IsChannel channel → is_idle (format_at channel (idle_format channel)) ≡ true
idle_is_idle channel good = place_by channel.formats (position is_idle channel.formats) (record { number = 0; size = 0 }) refl good.idle

no_number : (n size : ℕ) → 1 ≤ size → n * size ≡ 0 → n ≡ 0
no_number zero size some e = refl
no_number (suc n) size some e = let product : suc n * size ≡ n * size + size = omega arith in absurd (omega (arith, some, e, product))

none_by : (held : Held) (n size : ℕ) → length held.good ≡ n → held.size ≡ size → (n * size == 0) ≡ true → blocks_in held ≡ []
none_by held n size count same idle = go (held.size == 0) refl
  where
    go : (c : Bool) → (held.size == 0) ≡ c → cond c [] (map (block_at held) (range_with_len 0 (length held.good))) ≡ []
    go true e = refl
    go false e =
        let product : n * size ≡ 0 = eqb-true (n * size) 0 idle in
        let some : 1 ≤ size = ⊎_elim (λ (l : size < 1). absurd (eqb-false held.size 0 e (omega (arith, l, same)))) (λ (l : 1 ≤ size). l) (cases_lt size 1) in
        let none : length held.good ≡ 0 = count ∙ no_number n size some product in
        ap (λ k. map (block_at held) (range_with_len 0 k)) none

pub idle_opened : (config : Config) (out : Dir) (i f room : ℕ) (held : Held) → IsChannel (channel_at (side_of config out) i) → f ≡ idle_format (channel_at (side_of config out) i) → f < length (channel_at (side_of config out) i).formats →
    HoldsTtis (side_of config out) room → held ≡ zero_blocks f (format_at (channel_at (side_of config out) i) f) room → IsIdle config out i held
idle_opened config out i f room held good number there holds is =
    let channel : Trch = channel_at (side_of config out) i in
    let format : Format = format_at channel f in
    let idle : is_idle format ≡ true = subst (λ k. is_idle (format_at channel k) ≡ true) (sym number) (idle_is_idle channel good) in
    subst (IsIdle config out i) (sym is) (record {
      number = number;
      blocks = none_by (zero_blocks f format room) format.number format.size (length-replicate format.number true) refl idle;
      format = record { there = there; size = refl; count = length-replicate format.number true; long = length-replicate (bits_of format) Zero };
      room = holds;
    })
