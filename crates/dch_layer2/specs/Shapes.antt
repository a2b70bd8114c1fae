-- The transport blocks of a bearer in a direction.
use Rattle.std.specs.Prelude.{◌≡◌, ◌≤◌, ◌+◌, ◌*◌, ℕ, Option, Some, None}
use Rattle.dch_types.specs.declared.channel.Dir.{Dir}
use Rattle.dch_types.specs.declared.config.Config.{Config}
use Rattle.dch_mac.specs.Field.{field_bits}
use Rattle.dch_layer2.specs.Bearings.{block_bits, ct_of, pdu_octets}
use Rattle.dch_layer2.specs.declared.shape.Shape.{Shape}

-- those of bearer b
abbrev pub shape_of : Config → Dir → ℕ → Shape
shape_of config dir b = record {
  ct = ct_of config dir b;
  bits = block_bits config dir b;
  octets = pdu_octets config dir b;
}

-- the number of a logical channel, if one is given
abbrev pub IsNumber : Option ℕ → Type 0
IsNumber None = Unit {0}
IsNumber (Some channel) = (1 ≤ channel) × (channel ≤ 15)

-- the field, where there is one, and whole octets fill the block
pub record IsWhole (shape : Shape) : Type 0 where
  pub number : IsNumber shape.ct
  pub whole : field_bits shape.ct + 8 * shape.octets ≡ shape.bits
