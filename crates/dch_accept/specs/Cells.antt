-- How many cells a radio frame has in a combination, and each of its codes (TS 25.212 4.2.7, 4.2.10).
use Rattle.std.specs.Prelude.{ℕ, min}
use Rattle.dch_types.specs.declared.channel.Dir.{Dir}
use Rattle.dch_types.specs.declared.channel.Dir.TheVariants.{Up, Down}
use Rattle.dch_types.specs.Lengths.{code_bits, frame_bits}
use Rattle.dch_collision.specs.Plans.{plan_at}
use Rattle.dch_accept.specs.Plans.{Planned}

-- Ndata: the cells of a radio frame of a direction in combination c; the downlink's have the same in each
abbrev pub frame_cells : Planned → Dir → ℕ → ℕ
frame_cells planned Up c = (plan_at planned.uplink c).ndata
frame_cells planned Down c = frame_bits planned.config.downlink

-- V: the cells of a code in a radio frame of so many. An uplink frame has one code, or up to six of 9,600 cells
abbrev pub code_cells : Planned → Dir → ℕ → ℕ
code_cells planned Up cells = min cells 9600
code_cells planned Down cells = code_bits planned.config.downlink
