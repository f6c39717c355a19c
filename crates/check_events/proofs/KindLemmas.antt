-- What the code tests of a change, by its kind, is what the conditions say. Serves `kinds.rt`.
use Rattle.std.proofs.Common.{◌≡◌, ◌↔◌, ◌∙◌, ◌≢◌, ℕ, IsTrue, nat_eq, List, [], ◌∷◌, Option, Some, subst, arith}
use Rattle.ist_core.specs.declared.states.ChangeRow.{ChangeRow}
use Rattle.ist_core.specs.declared.lists.Row.{Row}
use Rattle.ist_core.specs.WordTerms.{Ref, Empty, LeafAt, InnerAt, ref_of, row_at, IsChildFor}
use Rattle.ist_core.specs.LogTerms.{Snapshot, Log, state}
use Rattle.ist_core.specs.TreeTerms.{WasLedTo, IsLeafOf, HasRoomFor, nothing, same_key, ComesByKey, PutsLeaf, PutsPair, Removes, new_leaf}
use Rattle.check_events.specs.Kinds.{NamesLeafOf, PairsWith}
use Rattle.check_fairness.proofs.AnswerLemmas.{is_equal}

-- ---- words

one_leaf : (o : Option Ref) (a b : ℕ) → o ≡ Some (LeafAt a) → o ≡ Some (LeafAt b) → a ≡ b
one_leaf o a b e i = cc

-- a reference names one inner row
pub one_target : (o : Option Ref) (a b : ℕ) → o ≡ Some (InnerAt a) → o ≡ Some (InnerAt b) → a ≡ b
one_target o a b e i = cc

module _ (t : Snapshot) (word leaf : ℕ) (e : ref_of word ≡ Some (LeafAt leaf)) where
  -- a word names a leaf of the key that its leaf has
  pub names_is : (found key : ℕ) → IsLeafOf t leaf found → ((k : ℕ) → IsLeafOf t leaf k → k ≡ found)
      → IsTrue (nat_eq found key) ↔ NamesLeafOf t word key
  names_is found key stands one = grind (arith, is_equal, one_leaf)

  -- if there is no leaf at the base, the word names no leaf of a key
  pub names_none : (key : ℕ) → ((k : ℕ) → ¬ (IsLeafOf t leaf k)) → ¬ (NamesLeafOf t word key)
  names_none key none h = none key (subst (λ l. IsLeafOf t l key) (one_leaf (ref_of word) h.leaf
      leaf h.names e) h.stands)

-- unless the word is empty, it has room for a leaf of the key exactly if it names one
pub room_is : (t : Snapshot) (key word : ℕ) → ¬ (ref_of word ≡ Some Empty)
    → NamesLeafOf t word key ↔ HasRoomFor t key word
room_is t key word far = ((λ h. same_key h.leaf h.names h.stands), back)
  where
    back : HasRoomFor t key word → NamesLeafOf t word key
    back (nothing e) = absurd (far e)
    back (same_key l e s) = record { leaf = l; names = e; stands = s }

-- a key that led to the node leads on by the child for it
pub key_is : (first : Snapshot) (log : Log) (change : ChangeRow) → WasLedTo first log change.key
    change.node
    → IsChildFor (state first log) change.node change.key change.index ↔ ComesByKey first log change
key_is first log change led = ((λ c. record { led = led; index = c }), (λ h. h.index))

-- ---- puts and removes

module _ (first : Snapshot) (log : Log) (change : ChangeRow) (fresh : List Row)
    (key : ComesByKey first log change) where
  -- a change that empties its slot is a remove exactly if its slot names a leaf of its key
  pub removes_is : change.kind ≡ 2 → change.value ≡ 0 → fresh ≡ [] → ref_of change.to ≡ Some Empty
      → NamesLeafOf (state first log) change.from change.key ↔ Removes first log change fresh
  removes_is kind value none to = (
    (λ n. record {
      kind = kind;
      by_key = key;
      leaf = n.leaf;
      from = n.names;
      stands = n.stands;
      to = to;
      value = value;
      fresh_are = none;
    }),
    (λ h. record { leaf = h.leaf; names = h.from; stands = h.stands }),
  )

  -- a change that puts in a leaf is a put exactly if its fresh row is the new leaf
  pub puts_leaf_is : (leaf : ℕ) → change.kind ≡ 1 → HasRoomFor (state first log) change.key
      change.from → ref_of change.to ≡ Some (LeafAt leaf)
      → (fresh ≡ row_at leaf (new_leaf change) ∷ []) ↔ PutsLeaf first log change fresh
  puts_leaf_is leaf kind room to = (
    (λ are. record {
      kind = kind;
      by_key = key;
      from = room;
      leaf = leaf;
      to = to;
      fresh_are = are;
    }),
    (λ h. grind (arith, one_leaf)),
  )

  -- without room for its key a change isn't a put of a leaf
  pub puts_leaf_not : ¬ (HasRoomFor (state first log) change.key change.from)
      → ¬ (PutsLeaf first log change fresh)
  puts_leaf_not full h = full h.from

  -- a pair row is over the one leaf that its slot names
  pub puts_pair_is : (other other_key : ℕ) → change.kind ≡ 1 → ref_of change.from
      ≡ Some (LeafAt other) → IsLeafOf (state first log) other other_key
      → ((k : ℕ) → IsLeafOf (state first log) other k → k ≡ other_key) → other_key ≢ change.key
      → PairsWith change fresh other other_key ↔ PutsPair first log change fresh
  puts_pair_is other other_key kind from stands one differs = (
    (λ p.
        record {
          kind = kind;
          by_key = key;
          other = other;
          other_key = other_key;
          from = from;
          stands = stands;
          differs = differs;
          pair = p.pair;
          leaf = p.rows.leaf;
          to = p.to;
          above = p.above;
          fresh_are = p.rows.rows_are;
        }),
    (λ h.
        grind (arith, one_leaf)),
  )

  -- if the slot names no published leaf, the change isn't a put of a pair
  pub puts_pair_none : (other : ℕ) → ref_of change.from ≡ Some (LeafAt other)
      → ((k : ℕ) → ¬ (IsLeafOf (state first log) other k)) → ¬ (PutsPair first log change fresh)
  puts_pair_none other from none h = none h.other_key
      (subst (λ l. IsLeafOf (state first log) l h.other_key) (one_leaf (ref_of change.from) h.other
      other h.from from) h.stands)

  -- if the leaf has the change's key, the change isn't a put of a pair
  pub puts_pair_same : (other other_key : ℕ) → ref_of change.from ≡ Some (LeafAt other)
      → ((k : ℕ) → IsLeafOf (state first log) other k → k ≡ other_key) → other_key ≡ change.key
      → ¬ (PutsPair first log change fresh)
  puts_pair_same other other_key from one is h =
      let same = one_leaf (ref_of change.from) h.other other h.from from in
      h.differs (one h.other_key (subst (λ l. IsLeafOf (state first log) l h.other_key) same
      h.stands) ∙ is)
