-- How the downlink of `gen` matches its channels: those of speech and signalling are repeated, that of packet data is punctured.
use Rattle.std.proofs.Common.{◌≡◌, ◌<◌, ℕ, refl, subst, sym, arith}
use Rattle.dch_types.specs.Lengths.{tti_bits}
use Rattle.dch_types.specs.Sums.{total}
use Rattle.dch_frame.specs.declared.pattern.Steps.{Steps}
use Rattle.dch_frame.specs.declared.pattern.Kind.{Kind}
use Rattle.dch_frame.specs.declared.pattern.Kind.TheVariants.{Repeat, Puncture}
use Rattle.dch_frame.specs.Matched.{steps_of}
use Rattle.dch_frame.specs.Patterns.{copies}
use Rattle.dch_frame.specs.Downlinks.{most_below, pattern_of}
use Rattle.dch_gen.specs.Channels.{gen_channels}
use Rattle.dch_gen.specs.Configuration.{gen_side, gen_config}

-- the kind of the pattern of a channel, in each format
abbrev pub kind_of : ℕ → ℕ → Kind
kind_of i f = (pattern_of gen_config.downlink i f).kind

class_a_is : (f : ℕ) → kind_of 0 f ≡ Repeat (steps_of 303 452 1)
unfolding gen_config gen_side gen_channels tti_bits total most_below
class_a_is f = refl

class_b_is : (f : ℕ) → kind_of 1 f ≡ Repeat (steps_of 333 472 1)
unfolding gen_config gen_side gen_channels tti_bits total most_below
class_b_is f = refl

class_c_is : (f : ℕ) → kind_of 2 f ≡ Repeat (steps_of 136 238 1)
unfolding gen_config gen_side gen_channels tti_bits total most_below
class_c_is f = refl

signalling_is : (f : ℕ) → kind_of 3 f ≡ Repeat (steps_of 516 736 1)
unfolding gen_config gen_side gen_channels tti_bits total most_below
signalling_is f = refl

-- of 8,604 bits 8,355 are kept
pub packets_are : (f : ℕ) → kind_of 4 f ≡ Puncture (steps_of 8604 8355 1)
unfolding gen_config gen_side gen_channels tti_bits total most_below
packets_are f = refl

repeated : (kind : Kind) (steps : Steps) (m : ℕ) → kind ≡ Repeat steps → 0 < copies kind m
repeated kind steps m is = subst (λ k. 0 < copies k m) (sym is) (omega arith)

pub class_a_sent : (f m : ℕ) → 0 < copies (kind_of 0 f) m
class_a_sent f m = repeated (kind_of 0 f) (steps_of 303 452 1) m (class_a_is f)

pub class_b_sent : (f m : ℕ) → 0 < copies (kind_of 1 f) m
class_b_sent f m = repeated (kind_of 1 f) (steps_of 333 472 1) m (class_b_is f)

pub class_c_sent : (f m : ℕ) → 0 < copies (kind_of 2 f) m
class_c_sent f m = repeated (kind_of 2 f) (steps_of 136 238 1) m (class_c_is f)

pub signalling_sent : (f m : ℕ) → 0 < copies (kind_of 3 f) m
signalling_sent f m = repeated (kind_of 3 f) (steps_of 516 736 1) m (signalling_is f)
