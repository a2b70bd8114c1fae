-- The blocks that layer 2 gave to a channel, as the bits that stand one after another.
use Rattle.std.proofs.Common.{◌≡◌, ◌<◌, ◌+◌, ◌*◌, ◌++◌, ◌∙◌, ℕ, zero, suc, List, [], ◌∷◌, Bool, true, false, cond, length, map, take, arith, refl, sym, ap, ap₂, subst, append_assoc, append-nil}
use Rattle.std.specs.Prelude.{◌==◌}
use Rattle.std.specs.List.{range_with_len}
use Rattle.std.proofs.Math.Seq.{take-add, take-length}
use Rattle.std.proofs.lemmas.Bool.{eqb-true}
use Rattle.std.proofs.lemmas.List.{nil_from_length}
use Rattle.std.proofs.lemmas.List.FromFn.{map-range_with_len_more}
use Rattle.dch_bits.specs.declared.bit.Bit.{Bit}
use Rattle.dch_types.specs.declared.channel.Dir.{Dir}
use Rattle.dch_types.specs.declared.channel.Trch.{Trch}
use Rattle.dch_types.specs.declared.config.Config.{Config}
use Rattle.dch_types.specs.Parts.{channel_at, side_of}
use Rattle.dch_accept.specs.Blocks.{Held, block_at}
use Rattle.dch_accept.specs.HeldSets.{HasFormat, held_at}
use Rattle.dch_layer2.specs.Layers.{Given, Layer}
use Rattle.dch_layer2.specs.Joined.{CarriesGiven, joined_bits}
use Rattle.dch_layer2.specs.Opening.{IsGiven, blocks_in}
use Rattle.dch_layer2.specs.Standing.{IsLayerOf, Represents}
use Rattle.dch_layer2.specs.Values.{LayerRunning}

joined_bits-push : (blocks : List (List Bit)) (block : List Bit) → joined_bits (blocks ++ block ∷ []) ≡ joined_bits blocks ++ block
joined_bits-push [] block = append-nil block
joined_bits-push (b ∷ blocks) block = ap (λ (bits : List Bit). b ++ bits) (joined_bits-push blocks block) ∙ sym (append_assoc b (joined_bits blocks) block)

-- the first blocks are the front of the bits
joined_bits-front : (held : Held) (n : ℕ) → joined_bits (map (block_at held) (range_with_len 0 n)) ≡ take (n * held.size) held.bits
joined_bits-front held zero =
    let none : 0 * held.size ≡ 0 = omega arith in
    sym (ap (λ k. take k held.bits) none)
joined_bits-front held (suc n) =
    let more : n + 1 ≡ suc n = omega arith in
    let wide : n * held.size + held.size ≡ suc n * held.size = omega arith in
    ap (λ k. joined_bits (map (block_at held) (range_with_len 0 k))) (sym more)
    ∙ ap joined_bits (map-range_with_len_more (block_at held) 0 n n (omega arith))
    ∙ joined_bits-push (map (block_at held) (range_with_len 0 n)) (block_at held n)
    ∙ ap (λ (bits : List Bit). bits ++ block_at held n) (joined_bits-front held n)
    ∙ sym (take-add (n * held.size) held.size held.bits)
    ∙ ap (λ k. take k held.bits) wide

-- all blocks are all bits
pub joined_bits-blocks_in : (held : Held) → length held.bits ≡ length held.good * held.size → joined_bits (blocks_in held) ≡ held.bits
joined_bits-blocks_in held long = go (held.size == 0) refl
  where
    go : (c : Bool) → (held.size == 0) ≡ c → joined_bits (cond c [] (map (block_at held) (range_with_len 0 (length held.good)))) ≡ held.bits
    go true none = sym (nil_from_length held.bits (long ∙ ap (λ n. length held.good * n) (eqb-true held.size 0 none) ∙ omega arith))
    go false some = joined_bits-front held (length held.good) ∙ ap (λ n. take n held.bits) (sym long) ∙ take-length held.bits

bits_long : (channel : Trch) (held : Held) → HasFormat channel held → length held.bits ≡ length held.good * held.size
bits_long channel held is = is.long ∙ ap₂ (λ n m. n * m) (sym is.count) (sym is.size)

-- the blocks of a running TTI are those that layer 2 gave
pub carries : (config : Config) (out : Dir) (i : ℕ) (given : Given) (held : Held) → IsGiven config out i given held → CarriesGiven given held
carries config out i given held is = record {
  format = is.number;
  bits = sym (joined_bits-blocks_in held (bits_long (channel_at (side_of config out) i) held is.format)) ∙ ap joined_bits is.blocks;
}

-- what layer 2 that sends in a direction gave to a channel
pub given_at : (config : Config) (out : Dir) (layer : Layer) (v : LayerRunning) (i : ℕ) → Represents config layer v → v.out ≡ out → i < length (side_of config out).channels → IsGiven config out i (layer.given i) (held_at v.given i)
given_at config out layer v i is sends inside =
    subst (λ d. IsGiven config d i (layer.given i) (held_at v.given i)) sends (is.given i (subst (λ d. i < length (side_of config d).channels) (sym sends) inside))

pub given_format : (config : Config) (out : Dir) (v : LayerRunning) (i : ℕ) → IsLayerOf config v → v.out ≡ out → i < length (side_of config out).channels → HasFormat (channel_at (side_of config out) i) (held_at v.given i)
given_format config out v i is sends inside = (given_at config out is.layer v i is.stands sends inside).format

pub given_inside : (config : Config) (out : Dir) (v : LayerRunning) (i : ℕ) → IsLayerOf config v → v.out ≡ out → i < length (side_of config out).channels → i < length v.given
given_inside config out v i is sends inside = subst (λ n. i < n) (sym (is.stands.given_all ∙ ap (λ d. length (side_of config d).channels) sends)) inside

-- and so what it lends
pub given_carries : (config : Config) (out : Dir) (layer : Layer) (v : LayerRunning) (i : ℕ) → Represents config layer v → v.out ≡ out → i < length (side_of config out).channels → CarriesGiven (layer.given i) (held_at v.given i)
given_carries config out layer v i is sends inside = carries config out i (layer.given i) (held_at v.given i) (given_at config out layer v i is sends inside)
