-- A walk over the pairs of a shot between two keys, one at a time.
use Rattle.std.specs.Prelude.{◌≡◌, ℕ, ◌+◌, Bool, true, false, List}
use Rattle.ist_core.specs.declared.pairs.Pair.{Pair}
use Rattle.ist_core.specs.Lawful.{Lawful}
use Rattle.ist_core.specs.Logs.{GoesOn}
use Rattle.ist_tree.specs.declared.freezing.Frozen.{Frozen}
use Rattle.ist_tree.specs.Faces.{PassFace}
use Rattle.ist_scan.specs.Cuts.{CutsAt}
use Rattle.ist_scan.specs.Shots.{ArePairsOf}

-- a walk: its shot, its interval, how many pairs it has given, and the number of the next pair once
-- the first one was looked for
pub record WalkFace : Type 0 where
  pub shot : Frozen
  pub first : ℕ
  pub last : ℕ
  pub given : ℕ
  pub next : ℕ
  pub begun : Bool

-- both are walks over one interval of one shot
pub record AreOneWalk (w v : WalkFace) : Type 0 where
  pub shot : v.shot ≡ w.shot
  pub first : v.first ≡ w.first
  pub last : v.last ≡ w.last

-- a walk that has begun: where the first pair of its interval is among the pairs of the shot; the
-- next pair comes after those that were given
pub record WalkHasBegun (p : PassFace) (w : WalkFace) : Type 0 where
  pub pairs : List Pair
  pub has : ArePairsOf p w.shot pairs
  pub start : ℕ
  pub cut : CutsAt pairs w.first start
  pub next_is : w.next ≡ start + w.given

-- the walk is where it should be, for the pass: it has given nothing or has begun
pub record IsWalkOfPass (p : PassFace) (w : WalkFace) : Type 0 where
  pub fresh : w.begun ≡ false → w.given ≡ 0
  pub way : w.begun ≡ true → WalkHasBegun p w

-- ---- laws

-- a walk is where it should be for each pass that has seen more
abbrev pub WalksStay : Type 0
WalksStay =
    (p q : PassFace) → q.tree ≡ p.tree → GoesOn p.seen q.seen
    → Lawful q.tree.start q.tree.words q.seen → (w : WalkFace) → IsWalkOfPass p w → IsWalkOfPass q w
