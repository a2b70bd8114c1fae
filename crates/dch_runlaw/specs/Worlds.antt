-- Two ends, and what went over their channels: the blocks that were given to each channel, and those that were taken of
-- it as good.
use Rattle.std.specs.Prelude.{◌≡◌, ◌++◌, ℕ, List, [], ◌∷◌}
use Rattle.dch_bits.specs.declared.bit.Bit.{Bit}
use Rattle.dch_types.specs.declared.channel.Dir.{Dir}
use Rattle.dch_types.specs.declared.config.Config.{Config}
use Rattle.dch_node.specs.Lines.{Line}
use Rattle.dch_layer2.specs.Layers.{Layer, changed_layer, opened_layer}
use Rattle.dch_linkcmd.specs.Checks.{IsSublist}
use Rattle.dch_runlaw.specs.Doings.{Doing, Does, given_by, taken_by}

-- what went over a channel: the blocks that were given to it, and those that were taken of it as good. Blocks without
-- bits are left out
pub record Log : Type 0 where
  pub given : List (List Bit)
  pub taken : List (List Bit)

-- an end, with all that it has reported
pub record Side : Type 0 where
  pub layer : Layer
  pub said : List Line

-- the two ends as one of them sees it, and what went over each channel from it and to it
pub record World : Type 0 where
  pub near : Side
  pub far : Side
  pub out : ℕ → Log
  pub back : ℕ → Log

-- as the other end sees it
abbrev pub turned : World → World
turned w = record { near = w.far; far = w.near; out = w.back; back = w.out }

-- at opening. The near end sends in one direction and receives in the other
abbrev pub opened_side : Config → Dir → Side
opened_side config dir = record { layer = opened_layer config dir; said = [] }

abbrev pub no_log : Log
no_log = record { given = []; taken = [] }

abbrev pub opened_world : Config → Dir → Dir → World
opened_world config out into = record {
  near = opened_side config out;
  far = opened_side config into;
  out = λ i. no_log;
  back = λ i. no_log;
}

-- the near end does something
pub record DoesNear (config : Config) (out into : Dir) (old : World) (doing : Doing) (new : World) : Type 0 where
  pub lines : List Line
  pub does : Does config out into old.near.layer doing new.near.layer lines
  pub said : new.near.said ≡ old.near.said ++ lines
  pub far : new.far ≡ old.far
  pub out_log : (i : ℕ) → new.out i ≡ record {
    given = (old.out i).given
        ++ given_by config out old.near.layer doing new.near.layer i;
    taken = (old.out i).taken;
  }
  pub back_log : (i : ℕ) → new.back i ≡ record {
    given = (old.back i).given;
    taken = (old.back i).taken
        ++ taken_by doing i;
  }

-- it does something, and then more
pub record DoesFirst (config : Config) (out into : Dir) (Rest : World → Type 0) (old : World)
    (doing : Doing) : Type 0 where
  pub next : World
  pub first : DoesNear config out into old doing next
  pub later : Rest next

-- it does these things one after another
abbrev pub DoesAll : Config → Dir → Dir → World → List Doing → World → Type 0
DoesAll config out into old [] new = new ≡ old
DoesAll config out into old (doing ∷ doings) new = DoesFirst config out into
    (λ next. DoesAll config out into next doings new) old doing

-- an event at one of the two ends, by what it does with layer 2
pub data At : Type 0 where
  Near : (doings : List Doing) → At
  Far : (doings : List Doing) → At

-- the world after an event
abbrev pub Happens : Config → Dir → Dir → World → At → World → Type 0
Happens config out into old (Near doings) new = DoesAll config out into old doings new
Happens config out into old (Far doings) new = DoesAll config into out (turned old) doings (turned new)

-- an event after which something holds, and more behind it
pub record HappensFirst (config : Config) (out into : Dir) (Holds Rest : World → Type 0) (old : World)
    (event : At) : Type 0 where
  pub next : World
  pub first : Happens config out into old event next
  pub holds : Holds next
  pub later : Rest next

-- a list of events, after each of which it holds
abbrev pub Runs : Config → Dir → Dir → (World → Type 0) → World → List At → World → Type 0
Runs config out into Holds old [] new = new ≡ old
Runs config out into Holds old (event ∷ events) new =
    HappensFirst config out into Holds (λ next. Runs config out into Holds next events new) old event

-- these begin it
abbrev pub IsFront : List (List Bit) → List (List Bit) → Type 0
IsFront [] ys = Unit {0}
IsFront (x ∷ xs) [] = ⊥
IsFront (x ∷ xs) (y ∷ ys) = (x ≡ y) × IsFront xs ys

-- what was taken of a channel is some of what was given to it, in order
abbrev pub IsFaithful : Log → Type 0
IsFaithful log = IsSublist log.taken log.given

-- a channel from the near end and one to it are faithful
pub record AreFaithful (up down : ℕ) (w : World) : Type 0 where
  pub out : IsFaithful (w.out up)
  pub back : IsFaithful (w.back down)

-- nothing was lost on a channel from the near end and on one to it: what was taken begins what was given
pub record AreWholeSoFar (up down : ℕ) (w : World) : Type 0 where
  pub out : IsFront (w.out up).taken (w.out up).given
  pub back : IsFront (w.back down).taken (w.back down).given

-- an end goes on in another configuration: its channels run their idle formats in it, no combination is blocked, and
-- the bearers stay
abbrev pub changed_side : Config → Dir → Side → Side
changed_side config dir old = record { layer = changed_layer config dir old.layer; said = old.said }

-- another configuration becomes active at both ends. In it nothing has gone over any channel yet
pub record HasChanged (config : Config) (out into : Dir) (old new : World) : Type 0 where
  pub near : new.near ≡ changed_side config out old.near
  pub far : new.far ≡ changed_side config into old.far
  pub out_log : (i : ℕ) → new.out i ≡ no_log
  pub back_log : (i : ℕ) → new.back i ≡ no_log

-- two parts of a run from opening, in each of which something holds after each event, and the change between them
pub record RunsInTwo (first second : Config) (out into : Dir) (Before Behind : World → Type 0) (earlier later : List At)
    (new : World) : Type 0 where
  pub mid : World
  pub next : World
  pub before : Runs first out into Before (opened_world first out into) earlier mid
  pub changes : HasChanged second out into mid next
  pub behind : Runs second out into Behind next later new
