-- Words read as rows, as the code takes them apart. Serves `publishing.rt`.
use Rattle.std.proofs.Common.{◌≡◌, ◌∙◌, ◌≤◌, ◌-◌, ℕ, min, List, [], ◌∷◌, length, take, drop, get_or, Option, Some, refl, sym, ap, arith, ◌≢◌, ◌<◌, ◌==◌, if◌then◌else◌}
use Rattle.std.proofs.lemmas.List.{take_min}
use Rattle.ist_core.specs.declared.lists.Row.{Row}
use Rattle.ist_core.specs.declared.states.ChangeRow.{ChangeRow}
use Rattle.ist_core.specs.WordTerms.{Piece, Leaf, Inner, Rebuild, leaf_of, inner_of, rebuild_of, with_row, with_inners, ChangeAt, word_of, start_kind, Change, change_of, anchor}
use Rattle.ist_core.specs.LogTerms.{Snapshot, with_slot_at, with_fresh, installed}
use Rattle.check_events.specs.declared.replicas.Replica.{Replica}
use Rattle.check_events.specs.Mirroring.{Mirrors}
use Rattle.check_fairness.proofs.AnswerLemmas.{following, split_first}
use Rattle.check_builds.proofs.PartCutLemmas.{from, from-drop, drop_min}
use Rattle.std.proofs.lemmas.Bool.Decides.{eqb_tells}

-- the replica mirrors a snapshot with other rows, if these are the same
pub mirrors_row : (r : Replica) (t : Snapshot) (base : ℕ) (a b : Option Piece) → a ≡ b
    → Mirrors r (record t { pieces = with_row t.pieces base a })
    → Mirrors r (record t { pieces = with_row t.pieces base b })
mirrors_row r t base a b e h = grind arith

-- two words are a leaf's words
pub two_words : (ws : List ℕ) → length ws ≡ 2
    → Some (Leaf record { key = get_or ws 0 0; value = get_or ws 1 0 }) ≡ leaf_of ws
two_words [] n = absurd (omega arith)
two_words (a ∷ []) n = absurd (omega arith)
two_words (a ∷ b ∷ []) n = refl
two_words (a ∷ b ∷ c ∷ ws) n = absurd (omega arith)

-- five words are a rebuild's words
pub five_words : (ws : List ℕ) → length ws ≡ 5
    → Some (Rebuild record {
      target = get_or ws 0 0;
      parent = get_or ws 1 0;
      index = get_or ws 2 0;
      root = get_or ws 3 0;
      draw = get_or ws 4 0;
    }) ≡ rebuild_of ws
five_words [] n = absurd (omega arith)
five_words (a ∷ []) n = absurd (omega arith)
five_words (a ∷ b ∷ []) n = absurd (omega arith)
five_words (a ∷ b ∷ c ∷ []) n = absurd (omega arith)
five_words (a ∷ b ∷ c ∷ d ∷ []) n = absurd (omega arith)
five_words (a ∷ b ∷ c ∷ d ∷ e ∷ []) n = refl
five_words (a ∷ b ∷ c ∷ d ∷ e ∷ f ∷ ws) n = absurd (omega arith)

-- an inner row of these words, with the keys and slots that were copied
pub long_words : (ws : List ℕ) (end : ℕ) (keys slots : List ℕ) → 4 ≤ length ws
    → end ≡ min (get_or ws 2 0 - 1) (length (from ws 4)) → keys ≡ take end (from ws 4) → slots
    ≡ from (from ws 4) end
    → Some (Inner record {
      status = get_or ws 0 0;
      count = get_or ws 1 0;
      degree = get_or ws 2 0;
      size = get_or ws 3 0;
      keys = keys;
      slots = slots;
    }) ≡ inner_of ws
long_words [] end keys slots n e k s = absurd (omega arith)
long_words (a ∷ []) end keys slots n e k s = absurd (omega arith)
long_words (a ∷ b ∷ []) end keys slots n e k s = absurd (omega arith)
long_words (a ∷ b ∷ c ∷ []) end keys slots n e k s = absurd (omega arith)
long_words (a ∷ b ∷ c ∷ d ∷ ws) end keys slots n e k s =
    let whole = from-drop (a ∷ b ∷ c ∷ d ∷ ws) 4 in let rest = from (a ∷ b ∷ c ∷ d ∷ ws) 4 in
    let keys_are : keys ≡ take (c - 1) ws = k ∙ ap (λ m. take m rest) e ∙ take_min (c - 1) rest
    ∙ ap (take (c - 1)) whole in
    let slots_are : slots ≡ drop (c - 1) ws = s ∙ from-drop rest end ∙ ap (λ m. drop m rest) e
    ∙ drop_min (c - 1) rest ∙ ap (drop (c - 1)) whole in
    (λ i. Some (Inner record {
      status = a;
      count = b;
      degree = c;
      size = d;
      keys = keys_are i;
      slots = slots_are i;
    }))

-- rows published from the last to the first
pub first_published : (r : Replica) (t : Snapshot) (rows : List Row) (row : Row) → 1 ≤ length rows
    → row ≡ get_or rows 0 row
    → Mirrors r (record t {
      pieces = with_row (with_inners t.pieces (following rows)) row.base (inner_of row.words);
    })
    → Mirrors r (record t { pieces = with_inners t.pieces rows })
first_published r t rows row n at h = grind (arith, split_first)

-- ---- what an Install publishes, as the code takes its rows apart. Serves `installing.rt`.

-- a test that holds chooses the first, and one that fails the second
pub start_chosen : {A : Type 0} (kind : ℕ) (a b : A) → kind ≡ start_kind → a
    ≡ (if kind == start_kind then a else b)
start_chosen kind a b e = grind (arith, eqb_tells)

-- for another kind than a start, the second value is chosen
pub other_chosen : {A : Type 0} (kind : ℕ) (a b : A) → kind ≢ start_kind → b
    ≡ (if kind == start_kind then a else b)
other_chosen kind a b ne = grind (arith, eqb_tells)

-- one row, and two
pub one_row : (rows : List Row) (row : Row) → 1 ≤ length rows → length rows < 2 → row ≡ get_or rows
    0 row → rows ≡ row ∷ []
one_row [] row n m e = absurd (omega arith)
one_row (x ∷ []) row n m e = ap (λ y. y ∷ []) (sym e)
one_row (x ∷ y ∷ rows) row n m e = absurd (omega arith)

-- a list of two rows is its first and its second row
pub two_rows : (rows : List Row) (a b : Row) → 2 ≤ length rows → length rows < 3 → a ≡ get_or rows 0
    a → b ≡ get_or rows 1 b → rows ≡ a ∷ b ∷ []
two_rows [] a b n m e f = absurd (omega arith)
two_rows (x ∷ []) a b n m e f = absurd (omega arith)
two_rows (x ∷ y ∷ []) a b n m e f = (λ i. sym e i ∷ sym f i ∷ [])
two_rows (x ∷ y ∷ z ∷ rows) a b n m e f = absurd (omega arith)

module _ (r : Replica) (t : Snapshot) (change : ChangeRow) where
  -- a replica with one fresh row
  pub one_fresh : (rows : List Row) (row : Row) (kind : ℕ) → rows ≡ row ∷ [] → change.kind ≡ kind
      → Mirrors r (record t {
        pieces = with_row t.pieces row.base
            (if kind == start_kind then rebuild_of row.words else leaf_of row.words);
      })
      → Mirrors r (record t { pieces = with_fresh t.pieces change rows })
  one_fresh rows row kind is same h = grind arith

  -- with two
  pub two_fresh : (rows : List Row) (pair leaf : Row) → rows ≡ pair ∷ leaf ∷ []
      → Mirrors r (record t {
        pieces = with_row (with_row t.pieces leaf.base (leaf_of leaf.words))
            pair.base (inner_of pair.words);
      })
      → Mirrors r (record t { pieces = with_fresh t.pieces change rows })
  two_fresh rows pair leaf is h = grind arith

-- the rows of an Install, published
pub install_is : (r : Replica) (t : Snapshot) (base : ℕ) (rows : List Row) (row : Row)
    (change : ChangeRow)
    → 1 ≤ length rows → row ≡ get_or rows 0 row → Some change ≡ change_of row.words
    → Mirrors r (with_slot_at (record t {
      pieces = with_row (with_fresh t.pieces change (following rows)) base (Some (Change change));
    }) change.node change.index (word_of (ChangeAt base)))
    → Mirrors r (installed t base rows)
install_is r t base rows row change n at is h = grind (arith, split_first, following)

-- ---- what a replica says after a single write. Serves `writes.rt`.

-- a word for the anchor's slot
abbrev pub anchored : Snapshot → ℕ → ℕ → Snapshot
anchored t node word = record t { anchor = if node == anchor then word else t.anchor }

-- writing the anchor's word keeps the replica right
pub anchor_written : (r s : Replica) (t : Snapshot) (node word : ℕ) → Mirrors r t → node ≡ anchor
    → s ≡ record r { anchor = word } → Mirrors s (anchored t node word)
anchor_written r s t node word h here is = grind arith

-- a write at another node leaves the anchor's word, and the replica right
pub anchor_kept : (r s : Replica) (t : Snapshot) (node word : ℕ) → Mirrors r t → node ≢ anchor
    → s ≡ r → Mirrors s (anchored t node word)
anchor_kept r s t node word h away is = grind (arith, eqb_tells)
