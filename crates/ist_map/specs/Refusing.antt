-- What a worker was refused when it asks for a tree with more words.
use Rattle.std.specs.Prelude.{◌≡◌, ℕ, Option}
use Rattle.ist_core.specs.declared.ports.Full.{Full}
use Rattle.ist_core.specs.Logs.{Log, GoesOn}
use Rattle.ist_tree.specs.Calls.{HasSeenMore}
use Rattle.ist_tree.specs.Faces.{TreeFace, PassFace}
use Rattle.ist_tree.specs.Refusals.{IsRefused, IsRowRefused}
use Rattle.ist_reopen.specs.Generations.{Generation}

-- in this call of a pass a put or a remove was refused with these numbers, or the rebuild of a row
-- that it brought to its limit
pub data IsRefusedTo (p q : PassFace) (full : Full) : Type 0 where
  to_update : {key : ℕ} {value : Option ℕ} → IsRefused p q key value full → IsRefusedTo p q full
  to_rebuild : {row : ℕ} → IsRowRefused p q row full → IsRefusedTo p q full

-- a pass was refused so in a call of its own, after it was as `first` is, and it had seen no more than
-- this log by the end of the call
pub record WasRefusedSince (first : PassFace) (log : Log) (full : Full) : Type 0 where
  pub began : PassFace
  pub ended : PassFace
  pub since : HasSeenMore first began
  pub call : HasSeenMore began ended
  pub until : GoesOn ended.seen log
  pub cause : IsRefusedTo began ended full

-- a pass of this tree was refused so
abbrev pub IsRefusalOn : TreeFace → Log → Full → Type 0
IsRefusalOn tree log full =
    (first : PassFace) × (first.tree ≡ tree) × WasRefusedSince first log full

-- a pass of this closed tree was refused so while it was open
abbrev pub WasRefusedOn : Generation → Full → Type 0
WasRefusedOn g full =
    (first : PassFace) × (first.tree.start ≡ g.start) × (first.tree.words ≡ g.words)
    × WasRefusedSince first g.log full
