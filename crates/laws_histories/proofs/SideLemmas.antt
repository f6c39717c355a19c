-- What the sides of a put and of a remove give each key. Serves the changes law.
use Rattle.std.proofs.Common.{◌≡◌, ◌≢◌, ℕ, ◌<◌, ◌≤◌, ◌==◌, nat_lt, if◌then◌else◌, true, [], ◌∷◌, slice_get, Option, Some, None, refl, sym, ap, ◌∙◌, subst, ⊎_elim, arith}
use Rattle.std.proofs.lemmas.Bool.{cases_lt}
use Rattle.std.proofs.lemmas.Bool.Decides.{nat_tests}
use Rattle.std.specs.FinMap as fin
use Rattle.std.specs.FinMap.{gets}
use Rattle.ist_core.specs.declared.commands.Command.{Command}
use Rattle.ist_core.specs.declared.commands.Command.TheVariants.{Put, Remove}
use Rattle.ist_core.specs.declared.states.LeafRow.{LeafRow}
use Rattle.ist_core.specs.declared.states.InnerRow.{InnerRow}
use Rattle.ist_core.specs.declared.states.ChangeRow.{ChangeRow}
use Rattle.ist_core.specs.WordTerms.{child_count, Ref, Empty, LeafAt, InnerAt, IsGoodBase, ref_of, word_of, put_kind, remove_kind, start_kind, finish_kind, Pieces, Piece, Leaf, Inner, past_rebuild, logical}
use Rattle.ist_core.specs.TreeTerms.{Map, map_after, key_of, command_of, value_in, value_at, reply_of, IsUpdate, new_leaf}
use Rattle.ist_core.specs.LogTerms.{Snapshot}
use Rattle.ist_core.proofs.AllWordLemmas.{ref_of-word_of}
use Rattle.laws_histories.specs.Finding.{Finds, in_nothing, in_leaf, in_node}
use Rattle.laws_histories.proofs.LedLemmas.{IsPair, HasForm, into_nothing, over_leaf, beside_low, beside_high, takes_out, begins, ends}

-- ---- leaves and pairs

-- the value that a leaf of this row gives the key
abbrev pub says : LeafRow → ℕ → Option ℕ
says r key = value_in (Some (Leaf r)) key

-- the leaf row of a put
abbrev pub put_row : ChangeRow → LeafRow
put_row change = record { key = change.key; value = change.value }

-- a row says its value for its key
says_self : (r : LeafRow) (key : ℕ) → r.key ≡ key → says r key ≡ Some r.value
says_self r key e = let same : (r.key == key) ≡ true = grind (arith, nat_tests) in rw same refl

-- a leaf gives no value for another key
says_other : (r : LeafRow) (key : ℕ) → r.key ≢ key → says r key ≡ None
says_other r key ne = grind (arith, nat_tests)

-- the value that a pair row gives the key: from its right key on the right leaf's, below it the
-- left leaf's
pub pair_says : LeafRow → ℕ → LeafRow → ℕ → Option ℕ
pair_says left right_key right key = if nat_lt key right_key then says left key else says right key

-- a pair says for a low key what its left row says
left_says : (left : LeafRow) (right_key : ℕ) (right : LeafRow) (key : ℕ) → key < right_key
    → pair_says left right_key right key ≡ says left key
unfolding pair_says
left_says left right_key right key h = grind (arith, nat_tests)

-- a pair row gives a high key what its right leaf gives
right_says : (left : LeafRow) (right_key : ℕ) (right : LeafRow) (key : ℕ) → right_key ≤ key
    → pair_says left right_key right key ≡ says right key
unfolding pair_says
right_says left right_key right key h = grind (arith, nat_tests)

-- the left slot is for keys below the right key
left_slot : (left right : ℕ) (right_key key : ℕ) → key < right_key
    → slice_get (left ∷ right ∷ []) (child_count (right_key ∷ []) key) ≡ Some left
left_slot left right right_key key h = grind (arith, nat_tests)

-- the right slot is for keys from the right key on
right_slot : (left right : ℕ) (right_key key : ℕ) → right_key ≤ key
    → slice_get (left ∷ right ∷ []) (child_count (right_key ∷ []) key) ≡ Some right
right_slot left right right_key key h = grind (arith, nat_tests)

module _ (ps : Pieces) (key : ℕ) where
  -- what is found through a slot of a pair row
  pair_through : (pair right_key left right at : ℕ) (value : Option ℕ) → IsGoodBase at
      → (h : IsPair ps pair right_key left right)
      → slice_get (word_of (LeafAt left) ∷ word_of (LeafAt right) ∷ [])
      (child_count (right_key ∷ []) key) ≡ Some (word_of (LeafAt at))
      → Finds ps key (Some (LeafAt at)) value → Finds ps key (Some (InnerAt pair)) value
  pair_through pair right_key left right at value good h e f = in_node h.row h.published
      (subst (λ ws. slice_get ws (child_count h.row.keys key) ≡ Some (word_of (LeafAt at))) (sym h.slots)
      (subst (λ ks. slice_get (word_of (LeafAt left) ∷ word_of (LeafAt right) ∷ []) (child_count ks key) ≡ Some (word_of (LeafAt at))) (sym h.keys) e))
      (subst (λ ref. Finds ps key ref value) (sym (leaf_logical good)) f)
    where
      leaf_logical : IsGoodBase at → logical ps (word_of (LeafAt at)) ≡ Some (LeafAt at)
      leaf_logical good = rw (ref_of-word_of (LeafAt at) good) refl

  -- a pair row gives each key what one of its leaves gives it
  pub pair_finds : (pair right_key left right : ℕ) (l r : LeafRow) → IsGoodBase left
      → IsGoodBase right → IsPair ps pair right_key left right
      → ps left ≡ Some (Leaf l) → ps right ≡ Some (Leaf r)
      → Finds ps key (Some (InnerAt pair)) (pair_says l right_key r key)
  pair_finds pair right_key left right l r gl gr h el er = ⊎_elim
      (λ low. subst (λ v. Finds ps key (Some (InnerAt pair)) v) (sym (left_says l right_key r key low)) (pair_through pair right_key left right left (says l key) gl h (left_slot _ _ right_key key low) (in_leaf l el)))
      (λ high. subst (λ v. Finds ps key (Some (InnerAt pair)) v) (sym (right_says l right_key r key high)) (pair_through pair right_key left right right (says r key) gr h (right_slot _ _ right_key key high) (in_leaf r er)))
      (cases_lt key right_key)

-- ---- commands

-- what a command does to a map at its key, and to the other keys
pub record MakesOfMap (change : ChangeRow) (new : Option ℕ) : Type 0 where
  pub command : Command
  pub command_is : command_of change ≡ Some command
  pub key_is : key_of command ≡ change.key
  -- after the command a map has the new value at that key
  pub made : (m : Map) → fin.get (map_after m command) change.key ≡ new
  -- at each other key the map is as before
  pub others : (m : Map) (key : ℕ) → key ≢ change.key
      → fin.get (map_after m command) key ≡ fin.get m key

-- a start has no command
pub start_commands : (change : ChangeRow) → change.kind ≡ start_kind → command_of change ≡ None
start_commands change kind = rw kind refl

-- a finish has no command
pub finish_commands : (change : ChangeRow) → change.kind ≡ finish_kind → command_of change ≡ None
finish_commands change kind = rw kind refl

-- what a put makes of a map
put_makes : (change : ChangeRow) (new : Option ℕ) → change.kind ≡ put_kind → new ≡ Some change.value
    → MakesOfMap change new
put_makes change new kind is = record {
  command = Put change.key change.value;
  command_is = rw kind refl;
  key_is = refl;
  made =
      λ m. (let got : fin.get (fin.insert m change.key change.value) change.key ≡ Some change.value = grind (arith, nat_tests, gets) in got ∙ sym is);
  others = λ m key ne. grind (arith, nat_tests, gets);
}

-- what a remove makes of one
remove_makes : (change : ChangeRow) (new : Option ℕ) → change.kind ≡ remove_kind → new ≡ None
    → MakesOfMap change new
remove_makes change new kind is = record {
  command = Remove change.key;
  command_is = rw kind refl;
  key_is = refl;
  made =
      λ m. (let got : fin.get (fin.remove m change.key) change.key ≡ None = grind (arith, nat_tests, gets) in got ∙ sym is);
  others = λ m key ne. grind (arith, nat_tests, gets);
}

-- ---- sides

-- what both sides of an update give each key: `from` before it, and `to` after it
pub record Sides (t u : Snapshot) (change : ChangeRow) : Type 0 where
  -- the value of each key before the change
  pub old : ℕ → Option ℕ
  -- the value of each key after it
  pub new : ℕ → Option ℕ
  -- a search for a key in what the change takes out finds its old value
  pub from_finds : (key : ℕ)
      → Finds t.pieces key (past_rebuild t.pieces (ref_of change.from)) (old key)
  -- a search for a key in what the change puts in finds its new value
  pub to_finds : (key : ℕ) → Finds u.pieces key (past_rebuild t.pieces (ref_of change.to)) (new key)
  -- each key but the change's keeps its value
  pub others : (key : ℕ) → key ≢ change.key → new key ≡ old key
  pub reply : old change.key ≡ reply_of t.pieces change
  pub makes : MakesOfMap change (new change.key)

-- leaves and inner rows stay
pub record RowsStay (ps qs : Pieces) : Type 0 where
  -- a leaf of the first is also in the second
  pub leaves : (base : ℕ) (r : LeafRow) → ps base ≡ Some (Leaf r) → qs base ≡ Some (Leaf r)
  -- an inner row of the first is also in the second
  pub inners : (base : ℕ) (r : InnerRow) → ps base ≡ Some (Inner r) → qs base ≡ Some (Inner r)

-- a pair row stays if rows stay
pair_stays : (ps qs : Pieces) (pair key left right : ℕ) → RowsStay ps qs
    → IsPair ps pair key left right → IsPair qs pair key left right
pair_stays ps qs pair key left right s h = grind arith

-- what is found from a word that reads as the reference
at_ref : (ps qs : Pieces) (key word : ℕ) (ref : Option Ref) (value : Option ℕ) → ref_of word ≡ ref
    → Finds qs key (past_rebuild ps ref) value → Finds qs key (past_rebuild ps (ref_of word)) value
at_ref ps qs key word ref value e f = subst (λ x. Finds qs key (past_rebuild ps x) value) (sym e) f

-- the reply of a change over a leaf is what the leaf says
leaf_reply : (ps : Pieces) (change : ChangeRow) (base : ℕ) (r : LeafRow)
    → ref_of change.from ≡ Some (LeafAt base) → ps base ≡ Some (Leaf r)
    → says r change.key ≡ reply_of ps change
leaf_reply ps change base r from e = grind arith

module _ (t u : Snapshot) (change : ChangeRow) (stay : RowsStay t.pieces u.pieces)
    (good : (base : ℕ) (p : Piece) → t.pieces base ≡ Some p → IsGoodBase base) where
  -- an update that replaces a leaf
  leaf_from : (base : ℕ) (r : LeafRow) → ref_of change.from ≡ Some (LeafAt base)
      → t.pieces base ≡ Some (Leaf r) → (key : ℕ)
      → Finds t.pieces key (past_rebuild t.pieces (ref_of change.from)) (says r key)
  leaf_from base r from e key =
      at_ref t.pieces t.pieces key change.from (Some (LeafAt base)) (says r key) from (in_leaf r e)

  -- what a put of one leaf leaves is its row
  put_to : (leaf : ℕ) → ref_of change.to ≡ Some (LeafAt leaf)
      → t.pieces leaf ≡ Some (new_leaf change) → (key : ℕ)
      → Finds u.pieces key (past_rebuild t.pieces (ref_of change.to)) (says (put_row change) key)
  put_to leaf to new key =
      at_ref t.pieces u.pieces key change.to (Some (LeafAt leaf)) (says (put_row change) key) to
      (in_leaf (put_row change) (stay.leaves leaf (put_row change) new))

  -- what a put beside a leaf leaves is a pair of rows
  pair_to : (pair right_key left right : ℕ) (l r : LeafRow) → ref_of change.to ≡ Some (InnerAt pair)
      → IsPair t.pieces pair right_key left right
      → t.pieces left ≡ Some (Leaf l) → t.pieces right ≡ Some (Leaf r) → (key : ℕ)
      → Finds u.pieces key (past_rebuild t.pieces (ref_of change.to)) (pair_says l right_key r key)
  pair_to pair right_key left right l r to h el er key =
      at_ref t.pieces u.pieces key change.to (Some (InnerAt pair)) (pair_says l right_key r key) to
      (pair_finds u.pieces key pair right_key left right l r (good left (Leaf l) el) (good right (Leaf r) er) (pair_stays t.pieces u.pieces pair right_key left right stay h) (stay.leaves left l el) (stay.leaves right r er))

  -- the two sides of an update in its form
  pub sides : HasForm t change → IsUpdate change.kind → Sides t u change
  sides (into_nothing leaf kind from to new) update = record {
    old = λ key. None;
    new = says (put_row change);
    from_finds = λ key. at_ref t.pieces t.pieces key change.from (Some Empty) None from in_nothing;
    to_finds = put_to leaf to new;
    others = λ key ne. says_other (put_row change) key (λ e. ne (sym e));
    reply = sym (ap (λ x. value_at t.pieces x change.key) from);
    makes = put_makes change (says (put_row change) change.key) kind
        (says_self (put_row change) change.key refl);
  }
  sides (over_leaf old leaf kind from is to new) update = record {
    old = says is.row;
    new = says (put_row change);
    from_finds = leaf_from old is.row from is.published;
    to_finds = put_to leaf to new;
    others = λ key ne. says_other (put_row change) key (λ e. ne (sym e))
        ∙ sym (says_other is.row key (λ e. ne (sym e ∙ is.key_is)));
    reply = leaf_reply t.pieces change old is.row from is.published;
    makes = put_makes change (says (put_row change) change.key) kind
        (says_self (put_row change) change.key refl);
  }
  sides (beside_low other other_key leaf pair kind from is less to p new) update = record {
    old = says is.row;
    new = pair_says is.row change.key (put_row change);
    from_finds = leaf_from other is.row from is.published;
    to_finds = pair_to pair change.key other leaf is.row (put_row change) to p is.published new;
    others = λ key ne. low_other key ne;
    reply = leaf_reply t.pieces change other is.row from is.published;
    makes = put_makes change (pair_says is.row change.key (put_row change) change.key) kind
        (right_says is.row change.key (put_row change) change.key (omega arith) ∙ says_self (put_row change) change.key refl);
  }
    where
      low_other : (key : ℕ) → key ≢ change.key
          → pair_says is.row change.key (put_row change) key ≡ says is.row key
      low_other key ne = grind (arith, left_says, right_says, says_other, cases_lt)
  sides (beside_high other other_key leaf pair kind from is less to p new) update = record {
    old = says is.row;
    new = pair_says (put_row change) other_key is.row;
    from_finds = leaf_from other is.row from is.published;
    to_finds = pair_to pair other_key leaf other (put_row change) is.row to p new is.published;
    others = λ key ne. high_other key ne;
    reply = leaf_reply t.pieces change other is.row from is.published;
    makes = put_makes change (pair_says (put_row change) other_key is.row change.key) kind
        (left_says (put_row change) other_key is.row change.key less ∙ says_self (put_row change) change.key refl);
  }
    where
      high_other : (key : ℕ) → key ≢ change.key
          → pair_says (put_row change) other_key is.row key ≡ says is.row key
      high_other key ne = grind (arith, left_says, says_other, right_says, cases_lt)
  sides (takes_out leaf kind from is to) update = record {
    old = says is.row;
    new = λ key. None;
    from_finds = leaf_from leaf is.row from is.published;
    to_finds = λ key. at_ref t.pieces u.pieces key change.to (Some Empty) None to in_nothing;
    others = λ key ne. sym (says_other is.row key (λ e. ne (sym e ∙ is.key_is)));
    reply = leaf_reply t.pieces change leaf is.row from is.published;
    makes = remove_makes change None kind refl;
  }
  sides (begins target rebuild kind from to h) update = grind arith
  sides (ends rebuild row kind from e f set) update = grind arith
