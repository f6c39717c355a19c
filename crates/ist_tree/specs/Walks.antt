-- How many walks the calls of a pass begin together. `src/laws.rt` names the laws.
use Rattle.std.specs.Prelude.{◌⊎◌, ◌+◌, ◌*◌, ◌≤◌, List, [], ◌∷◌, length}
use Rattle.ist_core.specs.Lawful.{Lawful}
use Rattle.ist_tree.specs.Calls.{BeginsFewWalks, HasSeenMore}
use Rattle.ist_tree.specs.Faces.{PassFace, changes_seen}
use Rattle.ist_tree.specs.Rounds.{BeginsFewRounds}

-- a call that begins one walk at most begins few walks
abbrev pub OneWalkIsFew : Type 0
OneWalkIsFew =
    (p q : PassFace) → HasSeenMore p q → q.searches ≤ p.searches + 1 → BeginsFewWalks p q

-- the pass went through these states one after another, each a call that begins few walks
abbrev pub GoesThrough : PassFace → List PassFace → Type 0
GoesThrough p [] = Unit {0}
GoesThrough p (q ∷ more) = BeginsFewWalks p q × GoesThrough q more

-- the state of the pass after the last of these calls
abbrev pub last_of : PassFace → List PassFace → PassFace
last_of p [] = p
last_of p (q ∷ more) = last_of q more

-- n calls one after another begin at most n walks, and in the life of the table at most as many more as
-- it has words, however many passes call the tree
abbrev pub WalksAddUp : Type 0
WalksAddUp =
    (p : PassFace) (steps : List PassFace) → GoesThrough p steps
    → (let q = last_of p steps in Lawful q.tree.start q.tree.words q.seen)
    → (let q = last_of p steps in q.searches ≤ p.searches + length steps + q.tree.words)

-- ---- calls that may begin rounds

-- the pass went through these states one after another, each a call that begins few walks or rounds
abbrev pub GoesInRounds : PassFace → List PassFace → Type 0
GoesInRounds p [] = Unit {0}
GoesInRounds p (q ∷ more) =
    HasSeenMore p q × (BeginsFewWalks p q ⊎ BeginsFewRounds p q) × GoesInRounds q more

-- n such calls begin at most twice n walks, as many more as the table has words, and two more for each
-- change of the map that was seen
abbrev pub RoundsAddUp : Type 0
RoundsAddUp =
    (p : PassFace) (steps : List PassFace) → GoesInRounds p steps
    → (let q = last_of p steps in Lawful q.tree.start q.tree.words q.seen)
    → (let q = last_of p steps in
    q.searches ≤ p.searches + 2 * length steps + q.tree.words + 2 * length (changes_seen q))
