-- What `encode` answers, by the bytes that it took and wrote.
use Rattle.std.specs.Prelude.{◌≡◌, ◌⊎◌, List, ℕ, [], All, IsOk, true}
use Rattle.dch_io.specs.Ends.{End}
use Rattle.dch_script.specs.Code.{meaning}
use Rattle.dch_lines.specs.Followed.{FollowsInput}
use Rattle.dch_lines.specs.LineTexts.{is_empty}
use Rattle.dch_lines.specs.declared.stop.Outcome.TheVariants.{Ok as Done, Refused as MetMalformed, ReadFault as FailedReading, WriteFault as FailedWriting, TooLong as TookTooMuch}
use Rattle.dch_top.specs.EncodeText.{encoding}
use Rattle.dch_top.specs.LineRuns.{beginning}
use Rattle.dch_check.specs.Untouched.{IsUntouched}
use Rattle.dch_check.specs.declared.status.Status.{Status}
use Rattle.dch_check.specs.declared.status.Status.TheVariants.{Ok, Refused, Usage, ReadFault, WriteFault, NoMemory, TooLong}

-- what `encode` does: it follows the lines of its input
abbrev pub Encodes : End → End → Status → Type 0
Encodes source sink Ok = FollowsInput encoding source sink (beginning tt) tt [] Done
Encodes source sink Refused = FollowsInput encoding source sink (beginning tt) tt [] MetMalformed
Encodes source sink Usage = ⊥
Encodes source sink ReadFault = FollowsInput encoding source sink (beginning tt) tt [] FailedReading
Encodes source sink WriteFault = FollowsInput encoding source sink (beginning tt) tt [] FailedWriting
Encodes source sink NoMemory = IsUntouched source sink
Encodes source sink TooLong = FollowsInput encoding source sink (beginning tt) tt [] TookTooMuch

-- each of the lines is empty or well formed
abbrev pub AreGood : List (List ℕ) → Type 0
AreGood lines = All (λ line. (is_empty line ≡ true) ⊎ IsOk (meaning line)) lines
