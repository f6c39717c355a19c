-- Each slot of a finished row was passed, and what it reads as stays. Serves the order law and each
-- law on finished rows.
use Rattle.std.proofs.Common.{◌≡◌, ℕ, List, Some, refl, arith, ◌≢◌, zero, suc, ◌+◌, ◌⊎◌, [], ◌∷◌, length, slice_get, Option, sym, ap, ◌∙◌, subst, inl, inr, ⊎_elim}
use Rattle.ist_core.specs.WordTerms.{finished_word, Piece, Leaf, Inner, Change, Rebuild, counted, with_root, drawn, rows_within, first_row, Ref, ref_of, changed_at, with_status, start, rows_from}
use Rattle.ist_core.specs.LogTerms.{Snapshot, Each, Log, state, Happened, Passes, Enabled, EachEnabled, CanOpen, state_of}
use Rattle.ist_core.specs.TreeTerms.{IsFinishedWith, CountsFor, no_key, one_key, of_child, of_target, ArePassed, past_end, one_passed, CanFinish, AllGrow}
use Rattle.ist_core.specs.Types.{Pair, InnerRow, Event, Count, Mark, Finish, Root, Draw}
use Rattle.ist_core.proofs.FieldLemmas.{IsRare, Has, LeavesField, has_step, field_in}
use Rattle.ist_core.proofs.OptionLemmas.{each-among, changed_at-some, among-pieces_of, same_inner}
use Rattle.ist_core.proofs.MoveLemmas.{HeldLieApart}
use Rattle.ist_core.proofs.SoundLemmas.{sound}
use Rattle.ist_core.proofs.StepLemmas.{sound_start}
use Rattle.ist_core.proofs.GrowingLemmas.{inner_there, rebuild_there, get_alike}
use Rattle.ist_core.proofs.DrawLemmas.{finished_grows}
use Rattle.ist_core.proofs.FateLemmas.{grow_after}
use Rattle.ist_core.proofs.FieldLemmas as fields

-- ---- the status of a row as a field that few events write. Serves the laws on finished rows.

-- the status of an inner row, or 0 for other rows
abbrev pub status_in : Piece → ℕ
status_in = field_in (λ status _. status) (λ _ _. 0) 0

-- a root leaves the status of a row
pub root_same : (word : ℕ) (p : Piece) → status_in (with_root word p) ≡ status_in p
root_same = fields.root_same (λ status _. status) (λ _ _. 0) 0 (λ _ _ _. refl)

-- a Count leaves the status of a row
pub count_same : (p : Piece) → status_in (counted p) ≡ status_in p
count_same = fields.count_same (λ status _. status) (λ _ _. 0) 0 (λ _ _. refl)

-- a Draw leaves the status of a row
pub draw_same : (p : Piece) → status_in (drawn p) ≡ status_in p
draw_same = fields.draw_same (λ status _. status) (λ _ _. 0) 0 (λ _ _. refl)

-- few events write a status
pub status_rare : IsRare status_in 0
status_rare = fields.field_rare (λ status _. status) (λ _ _. 0) 0 refl refl

-- the rows of a new tree are open
pub start_untouched : (fuel base : ℕ) (pairs : List Pair)
    → Each (λ row. status_in row.1 ≡ 0) (rows_within fuel base pairs)
start_untouched = fields.rows_fresh (λ status _. status) (λ _ _. 0) 0 refl refl

-- a finished row has the status word of its keys
pub finished_has : (t : Snapshot) (node k : ℕ) → IsFinishedWith t node k
    → Has status_in 0 status_rare t.pieces node (finished_word k)
finished_has t node k h = (Inner h.row, h.published, h.status)

-- a row with the word of k keys as its status is finished with k keys
pub has_finished : (t : Snapshot) (node k : ℕ)
    → Has status_in 0 status_rare t.pieces node (finished_word k) → IsFinishedWith t node k
has_finished t node k h = grind arith

-- ---- which event finishes a row

-- the node may be finished
abbrev pub MayBeFinished : Snapshot → Log → ℕ → Type 0
MayBeFinished t log node = (caller : ℕ) × (keys : ℕ) × CanFinish t log caller node keys

-- the row was finished with k keys, or the event finishes it
abbrev FinishedBy : Snapshot → ℕ → ℕ → Event → Type 0
FinishedBy t node k event =
    IsFinishedWith t node k ⊎ ((caller : ℕ) × (event ≡ Finish caller node k))

-- a row that is finished after an event was finished before, or the event finishes it
pub finished_by : (first : Snapshot) (log : Log) (event : Event) → Enabled first log event
    → HeldLieApart (state first log) → (node k : ℕ) → IsFinishedWith (state first (event ∷ log)) node k
    → IsFinishedWith (state first log) node k ⊎ ((caller : ℕ) × (event ≡ Finish caller node k))
finished_by first log event h s node k f = at event h
    (finished_has (state first (event ∷ log)) node k f)
  where
    t : Snapshot
    t = state first log

    some : finished_word k ≢ 0
    some e = omega arith

    -- what leaves the status of rows finishes none
    plain : (event : Event) → Enabled first log event → LeavesField status_in event
        → Has status_in 0 status_rare (state first (event ∷ log)).pieces node (finished_word k)
        → FinishedBy t node k event
    plain event h same has = inl (has_finished t node k
        (has_step status_in 0 status_rare first log event h s same node (finished_word k) some has))

    -- a status that was written belongs to an inner row
    word_is : (word : ℕ) (p : Piece) → status_in (with_status word p) ≡ finished_word k
        → word ≡ finished_word k
    word_is word (Inner r) e = e
    word_is word (Leaf r) e = absurd (omega arith)
    word_is word (Change r) e = absurd (omega arith)
    word_is word (Rebuild r) e = absurd (omega arith)

    -- the status of this row is written, or it was finished
    written : (at word : ℕ)
        → Has status_in 0 status_rare (changed_at t.pieces at (with_status word)) node
        (finished_word k) → IsFinishedWith t node k ⊎ ((at ≡ node) × (word ≡ finished_word k))
    written at word has = grind (arith, changed_at-some, has_finished, t, word_is)

    at : (event : Event) → Enabled first log event
        → Has status_in 0 status_rare (state first (event ∷ log)).pieces node (finished_word k)
        → FinishedBy t node k event
    at (Mark caller n) h has = grind (arith, written)
    at (Finish caller n keys) h has = ⊎_elim (λ old. inl old)
        (λ new. let e = new.1 in let same : keys ≡ k = omega arith in
        inr (caller, ap (λ m. Finish caller m keys) new.0 ∙ ap (λ m. Finish caller node m) same))
        (written n (finished_word keys) has)
    at (Count caller n) h has = plain (Count caller n) h count_same has
    at (Root caller rebuild word rows) h has =
        plain (Root caller rebuild word rows) h (root_same word) has
    at (Draw caller rebuild part) h has = plain (Draw caller rebuild part) h draw_same has
    at event h has = plain event h tt has

-- a row that is finished after an event was finished before, or may be finished
finished_was : (first : Snapshot) (log : Log) (event : Event) → Enabled first log event
    → HeldLieApart (state first log) → (node k : ℕ) → IsFinishedWith (state first (event ∷ log)) node k
    → IsFinishedWith (state first log) node k ⊎ MayBeFinished (state first log) log node
finished_was first log event h s node k f = grind (arith, finished_by)

-- ---- each slot was passed

-- slot i of the node was passed, with a word that counts for some keys
pub record WasPassed (t : Snapshot) (log : Log) (node i : ℕ) : Type 0 where
  pub word : ℕ
  pub passed : Happened (Passes node i word) log
  pub keys : ℕ
  pub counts : CountsFor t (ref_of word) keys

-- each slot of the row, from `start` on
passed_each : (t : Snapshot) (log : Log) (node start : ℕ) (slots : List ℕ) (k : ℕ)
    → ArePassed t log node start slots k → (i at word : ℕ) → at ≡ start + i
    → slice_get slots i ≡ Some word → WasPassed t log node at
passed_each t log node start _ _ past_end i at word is e = absurd (cc)
passed_each t log node start _ _ (one_passed {here = here} word p c more) zero at w is e =
    let same : start ≡ at = omega arith in subst (λ n. WasPassed t log node n) same record
    { word = word; passed = p; keys = here; counts = c }
passed_each t log node start _ _ (one_passed {rest = rest} {slots = slots} word p c more) (suc i) at
    w is e = passed_each t log node (start + 1) slots rest more i at w (omega arith) e

-- what a reference counts for stays the same
pub counts_grows : (t u : Snapshot) → AllGrow t.pieces u.pieces → (ref : Option Ref) (k : ℕ)
    → CountsFor t ref k → CountsFor u ref k
counts_grows t u g _ _ no_key = no_key
counts_grows t u g _ _ one_key = one_key
counts_grows t u g _ k (of_child {child = child} f) = of_child (finished_grows t u child k g f)
counts_grows t u g _ k (of_target {rebuild = rebuild} {target = target} has f) =
    let it = rebuild_there t.pieces u.pieces g rebuild has.row has.published in
    of_target record { row = it.0; published = it.1; target_is = it.2.target ∙ has.target_is }
    (finished_grows t u target k g f)

passed_grows : (t u : Snapshot) (event : Event) (log : Log) (node i : ℕ)
    → AllGrow t.pieces u.pieces → WasPassed t log node i → WasPassed u (event ∷ log) node i
passed_grows t u event log node i g h = grind (arith, counts_grows)

module _ (pairs : List Pair) (words : ℕ) (opens : CanOpen pairs words) where
  -- a slot of a finished row was passed
  pub finished_passed : (log : Log) → EachEnabled (start pairs words) log → (node k : ℕ)
      → IsFinishedWith (state_of pairs words log) node k → (r : InnerRow)
      → (state_of pairs words log).pieces node ≡ Some (Inner r) → (i word : ℕ)
      → slice_get r.slots i ≡ Some word → WasPassed (state_of pairs words log) log node i
  finished_passed [] h node k f r e i word at =
      let none = each-among (λ row. status_in row.1 ≡ 0) (node, Inner f.row)
      (rows_from first_row pairs) (start_untouched (length pairs) first_row pairs)
      (among-pieces_of (rows_from first_row pairs) node (Inner f.row) f.published) in
      let some = f.status in absurd (omega arith)
  finished_passed (event ∷ log) h node k f r e i word at = let t = state_of pairs words log in
      let u = state_of pairs words (event ∷ log) in let g = grow_after pairs words log event h in
      passed_grows t u event log node i g
      (⊎_elim
      (λ old. before old.row old.published
      (λ w there. finished_passed log h.0 node k old old.row old.published i w there))
      (λ now. before now.2.row now.2.published
      (λ w there. passed_each t log node 0 now.2.row.slots now.1 now.2.passed i i w
      (omega arith) there))
      (finished_was (start pairs words) log event h.1
      (sound (start pairs words) log (sound_start pairs words) h.0) node k f))
    where
      before : (s : InnerRow) → (state_of pairs words log).pieces node ≡ Some (Inner s)
          → ((w : ℕ) → slice_get s.slots i ≡ Some w → WasPassed (state_of pairs words log) log node
          i)
          → WasPassed (state_of pairs words log) log node i
      before s there found =
          let it = inner_there (state_of pairs words log).pieces
          (state_of pairs words (event ∷ log)).pieces (grow_after pairs words log event h) node s there in
          let same = same_inner ((state_of pairs words (event ∷ log)).pieces node) it.0 r it.1 e in
          let long : length r.slots ≡ length s.slots = ap (λ x. length x.slots) (sym same) ∙
          it.2.slots in
          let old = get_alike r.slots s.slots i word (sym long) at in found old.0 old.1
