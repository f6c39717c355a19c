-- The form of each published change, by its kind, from its first moment on; and that a rebuild with a root has a finished
-- target. Serves the linked law and the replacement law.
use Rattle.std.proofs.Common.{Some, ap, arith, subst, sym, ℕ, ◌<◌, ◌∙◌, ◌≡◌, ◌≢◌}
use Rattle.ist_core.specs.declared.states.ChangeRow.{ChangeRow}
use Rattle.ist_core.specs.declared.states.InnerRow.{InnerRow}
use Rattle.ist_core.specs.declared.states.RebuildRow.{RebuildRow}
use Rattle.ist_core.specs.TreeTerms.{AllGrow, Grows, inner_grows, HasRoomFor, IsLeafOf, new_leaf, nothing, pair_row, same_key, IsFinishedWith, IsReplaced, IsStarted}
use Rattle.ist_core.specs.WordTerms.{Inner, Rebuild, Empty, InnerAt, LeafAt, RebuildAt, ref_of, unset_word, finish_kind, put_kind, remove_kind, start_kind}
use Rattle.ist_core.specs.LogTerms.{Snapshot}
use Rattle.laws_links.specs.Linking.{IsFinished}
use Rattle.ist_core.proofs.AllLogLemmas.{finished_grows as finished_stays, change_there, grows_on, inner_there, leaf_there, rebuild_there}

-- ---- growing keeps it

-- a row that is finished with k keys stays so as rows grow
pub finished_with_grows : (t u : Snapshot) → AllGrow t.pieces u.pieces → (node k : ℕ)
    → IsFinishedWith t node k → IsFinishedWith u node k
finished_with_grows t u g node k h = finished_stays t u node k g h

-- a finished row stays finished as rows grow
pub finished_grows : (t u : Snapshot) → AllGrow t.pieces u.pieces → (node : ℕ) → IsFinished t node
    → IsFinished u node
finished_grows t u g node h = (h.0, finished_with_grows t u g node h.0 h.1)

-- a leaf of a key stays one as rows grow
pub leaf_of_grows : (t u : Snapshot) → AllGrow t.pieces u.pieces → (base key : ℕ)
    → IsLeafOf t base key → IsLeafOf u base key
leaf_of_grows t u g base key h = grind (arith, leaf_there)

-- a word that has room for a key keeps it as rows grow
pub room_grows : (t u : Snapshot) → AllGrow t.pieces u.pieces → (key word : ℕ)
    → HasRoomFor t key word → HasRoomFor u key word
room_grows t u g key word (nothing e) = nothing e
room_grows t u g key word (same_key leaf e h) = same_key leaf e (leaf_of_grows t u g leaf key h)

-- a started rebuild stays started as rows grow
pub started_grows : (t u : Snapshot) → AllGrow t.pieces u.pieces → (rebuild : ℕ)
    → IsStarted t rebuild → IsStarted u rebuild
started_grows t u g rebuild h = grind (arith, change_there)

-- a replaced rebuild stays replaced as rows grow
pub replaced_grows : (t u : Snapshot) → AllGrow t.pieces u.pieces → (rebuild : ℕ)
    → IsReplaced t rebuild → IsReplaced u rebuild
replaced_grows t u g rebuild h = grind (arith, change_there)

-- ---- the forms

-- a put of a leaf into an empty slot, or in place of a leaf of its key
pub record IsLeafPut (t : Snapshot) (change : ChangeRow) : Type 0 where
  pub kind : change.kind ≡ put_kind
  pub from : HasRoomFor t change.key change.from
  pub leaf : ℕ
  pub to : ref_of change.to ≡ Some (LeafAt leaf)
  pub new : t.pieces leaf ≡ Some (new_leaf change)

-- a put of a pair row in place of a leaf of another key
pub record IsPairPut (t : Snapshot) (change : ChangeRow) : Type 0 where
  pub kind : change.kind ≡ put_kind
  pub other : ℕ
  pub other_key : ℕ
  pub from : ref_of change.from ≡ Some (LeafAt other)
  pub stands : IsLeafOf t other other_key
  pub differs : other_key ≢ change.key
  pub leaf : ℕ
  pub new : t.pieces leaf ≡ Some (new_leaf change)
  pub pair : ℕ
  pub to : ref_of change.to ≡ Some (InnerAt pair)
  pub above : change.node < pair
  pub row : InnerRow
  pub published : t.pieces pair ≡ Some (Inner row)
  pub grew : Grows (pair_row change.key leaf other_key other) (Inner row)

-- a remove of the leaf of its key
pub record IsRemove (t : Snapshot) (change : ChangeRow) : Type 0 where
  pub kind : change.kind ≡ remove_kind
  pub leaf : ℕ
  pub from : ref_of change.from ≡ Some (LeafAt leaf)
  pub stands : IsLeafOf t leaf change.key
  pub to : ref_of change.to ≡ Some Empty

-- a start of a rebuild of the row that it takes out of the slot
pub record IsStart (t : Snapshot) (change : ChangeRow) : Type 0 where
  pub kind : change.kind ≡ start_kind
  pub rebuild : ℕ
  pub row : RebuildRow
  pub from : ref_of change.from ≡ Some (InnerAt row.target)
  pub to : ref_of change.to ≡ Some (RebuildAt rebuild)
  pub published : t.pieces rebuild ≡ Some (Rebuild row)
  pub parent : row.parent ≡ change.node
  pub index : row.index ≡ change.index

-- a finish of a started rebuild of a finished row, which puts the root in its place
pub record IsFinish (t : Snapshot) (change : ChangeRow) : Type 0 where
  pub kind : change.kind ≡ finish_kind
  pub rebuild : ℕ
  pub row : RebuildRow
  pub from : ref_of change.from ≡ Some (RebuildAt rebuild)
  pub published : t.pieces rebuild ≡ Some (Rebuild row)
  pub to : change.to ≡ row.root
  pub set : row.root ≢ unset_word
  pub parent : row.parent ≡ change.node
  pub index : row.index ≡ change.index
  pub started : IsStarted t rebuild
  pub finished : IsFinished t row.target

-- the change has the form of its kind
pub data IsFormed (t : Snapshot) (change : ChangeRow) : Type 0 where
  of_leaf_put : IsLeafPut t change → IsFormed t change
  of_pair_put : IsPairPut t change → IsFormed t change
  of_remove : IsRemove t change → IsFormed t change
  of_start : IsStart t change → IsFormed t change
  of_finish : IsFinish t change → IsFormed t change

-- ---- growing and deciding keep the form

-- a formed change stays formed as rows grow
pub formed_grows : (t u : Snapshot) → AllGrow t.pieces u.pieces → (change : ChangeRow)
    → IsFormed t change → IsFormed u change
formed_grows t u g change (of_leaf_put h) = of_leaf_put record {
  kind = h.kind;
  from = room_grows t u g change.key change.from h.from;
  leaf = h.leaf;
  to = h.to;
  new =
      leaf_there t.pieces u.pieces g h.leaf record { key = change.key; value = change.value } h.new;
}
formed_grows t u g change (of_pair_put h) =
    let it = inner_there t.pieces u.pieces g h.pair h.row h.published in of_pair_put record {
      kind = h.kind;
      other = h.other;
      other_key = h.other_key;
      from = h.from;
      stands = leaf_of_grows t u g h.other h.other_key h.stands;
      differs = h.differs;
      leaf = h.leaf;
      new =
          leaf_there t.pieces u.pieces g h.leaf record { key = change.key; value = change.value } h.new;
      pair = h.pair;
      to = h.to;
      above = h.above;
      row = it.0;
      published = it.1;
      grew =
          grows_on (pair_row change.key h.leaf h.other_key h.other) (Inner h.row) (Inner it.0) h.grew (inner_grows it.2);
    }
formed_grows t u g change (of_remove h) = grind (arith, leaf_of_grows)
formed_grows t u g change (of_start h) =
    let it = rebuild_there t.pieces u.pieces g h.rebuild h.row h.published in of_start record {
      kind = h.kind;
      rebuild = h.rebuild;
      row = it.0;
      from = h.from ∙ ap (λ n. Some (InnerAt n)) (sym it.2.target);
      to = h.to;
      published = it.1;
      parent = it.2.parent ∙ h.parent;
      index = it.2.index ∙ h.index;
    }
formed_grows t u g change (of_finish h) =
    let it = rebuild_there t.pieces u.pieces g h.rebuild h.row h.published in
    let root = it.2.rooted h.set in of_finish record {
      kind = h.kind;
      rebuild = h.rebuild;
      row = it.0;
      from = h.from;
      published = it.1;
      to = h.to ∙ sym root;
      set = λ none. h.set (sym root ∙ none);
      parent = it.2.parent ∙ h.parent;
      index = it.2.index ∙ h.index;
      started = started_grows t u g h.rebuild h.started;
      finished =
          subst (λ n. IsFinished u n) (sym it.2.target) (finished_grows t u g h.row.target h.finished);
    }

-- the form of a change doesn't depend on its decision
pub formed_decided : (t : Snapshot) (change : ChangeRow) (word : ℕ) → IsFormed t change
    → IsFormed t record change { decision = word }
formed_decided t change word (of_leaf_put h) =
    of_leaf_put record { kind = h.kind; from = h.from; leaf = h.leaf; to = h.to; new = h.new }
formed_decided t change word (of_pair_put h) = grind arith
formed_decided t change word (of_remove h) = grind arith
formed_decided t change word (of_start h) = grind arith
formed_decided t change word (of_finish h) = grind arith
