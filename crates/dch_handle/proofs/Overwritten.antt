-- A list that is written over whole.
use Rattle.std.proofs.Common.{◌≡◌, List, length, drop}
use Rattle.std.proofs.lemmas.List.{take_at}
use Rattle.dch_accept.specs.Frames.{overwritten}

pub overwritten_all : {X : Type 0} (xs ws : List X) → length ws ≡ length xs → overwritten xs ws ≡ ws
overwritten_all xs ws long = take_at ws (drop (length ws) xs) (length xs) long
