-- Marks, passes and finishes are found to be enabled by a computation. Serves `examples`.
use Rattle.std.proofs.Common.{◌≡◌, ℕ, ◌+◌, ◌/◌, ◌<◌, ◌==◌, nat_lt, Bool, true, false, List, [], ◌∷◌, ◌++◌, slice_get, Option, Some, None, is_some, refl, inl, inr, subst, ap, ◌∙◌, ◌≢◌, arith}
use Rattle.std.proofs.lemmas.Bool.Decides.{nat_tests}
use Rattle.std.proofs.lemmas.Bool.{eqb-true}
use Rattle.ist_core.specs.declared.events.Event.{Event}
use Rattle.ist_core.specs.declared.events.Event.TheVariants.{Pass, Mark, Finish}
use Rattle.ist_core.specs.WordTerms.{Ref, Empty, LeafAt, InnerAt, ChangeAt, ref_of, unset_word, finished_word, Piece, Inner}
use Rattle.ist_core.specs.LogTerms.{Snapshot, Log, state, Happened, Passes, Enabled, EachEnabled}
use Rattle.ist_core.specs.TreeTerms.{IsFinishedWith, as_child, CanMark, CanPass, CountsFor, no_key, one_key, of_child, ArePassed, past_end, one_passed, CanFinish}

-- ---- numbers

-- a test says that one number is below another
pub less_says : (a b : ℕ) → nat_lt a b ≡ true → a < b
less_says a b e = grind (arith, nat_tests)

-- two numbers are equal, if the test says so
abbrev pub equal_by : (a b : ℕ) (x : Bool) → (a == b) ≡ x → Option (a ≡ b)
equal_by a b true e = Some (eqb-true a b e)
equal_by a b false e = None

-- two numbers are equal, or nothing is said
abbrev pub equal : (a b : ℕ) → Option (a ≡ b)
equal a b = equal_by a b (a == b) refl

-- a number is below another, if the test says so
abbrev pub less_by : (a b : ℕ) (x : Bool) → nat_lt a b ≡ x → Option (a < b)
less_by a b true e = Some (less_says a b e)
less_by a b false e = None

-- a number is below another, or nothing is said
abbrev pub less : (a b : ℕ) → Option (a < b)
less a b = less_by a b (nat_lt a b) refl

-- what the function makes of a known value, or nothing if none is known
abbrev pub then : {A B : Type 0} → Option A → (A → Option B) → Option B
then None f = None
then (Some a) f = f a

-- the first of two that is known
abbrev pub either : {A : Type 0} → Option A → Option A → Option A
either (Some a) o = Some a
either None o = o

-- ---- passes of a log

-- the event passes the slot, with some word
abbrev pub pass_here : (node i : ℕ) (event : Event) → Option ((word : ℕ) × Passes node i word event)
pass_here node i (Pass c n j w) =
    then (equal n node) (λ same. then (equal j i) (λ slot. Some (w, (same, slot, refl))))
pass_here node i _ = None

-- some event of the log does
abbrev pub pass_in : (node i : ℕ) (log : Log)
    → Option ((word : ℕ) × Happened (Passes node i word) log)
pass_in node i [] = None
pass_in node i (event ∷ log) = either (then (pass_here node i event) (λ p. Some (p.0, inl p.1)))
    (then (pass_in node i log) (λ p. Some (p.0, inr p.1)))

-- the reference is the row
abbrev pub is_row : (node : ℕ) (o : Option Ref) → Option (o ≡ Some (InnerAt node))
is_row node (Some (InnerAt base)) =
    then (equal base node) (λ e. Some (ap (λ n. Some (InnerAt n)) e))
is_row node _ = None

-- an event passes the row in some slot
abbrev pub call_here : (node : ℕ) (event : Event)
    → Option ((above : ℕ) × (i : ℕ) × (word : ℕ) × Passes above i word event
    × (ref_of word ≡ Some (InnerAt node)))
call_here node (Pass c n j w) =
    then (is_row node (ref_of w)) (λ e. Some (n, j, w, (refl, refl, refl), e))
call_here node _ = None

-- some event of the log does
abbrev pub call_in : (t : Snapshot) (node : ℕ) (log : Log)
    → Option ((above : ℕ) × (i : ℕ) × (word : ℕ) × Happened (Passes above i word) log
    × (ref_of word ≡ Some (InnerAt node)))
call_in t node [] = None
call_in t node (event ∷ log) =
    either (then (call_here node event) (λ p. Some (p.0, p.1, p.2, inl p.3, p.4)))
    (then (call_in t node log) (λ p. Some (p.0, p.1, p.2, inr p.3, p.4)))

-- ---- Mark

-- the test whether the row at the base may be marked
abbrev pub mark_by : (t : Snapshot) (log : Log) (caller node : ℕ) (o : Option Piece)
    → t.pieces node ≡ o → Option (CanMark t log caller node)
mark_by t log caller node (Some (Inner r)) e =
    then (less caller t.callers) (λ known. then (equal r.status 0) (λ row_open.
    then (call_in t node log) (λ p.
    Some record {
      known = known;
      row = r;
      published = e;
      row_open = row_open;
      called = as_child p.0 p.1 p.2 p.3 p.4;
    })))
mark_by t log caller node _ e = None

-- ---- Pass

-- a word that is neither a change nor Unset
pub record IsNoChangeWord (word : ℕ) : Type 0 where
  -- the word names no change
  pub no_change : (change : ℕ) → ref_of word ≢ Some (ChangeAt change)
  pub set : word ≢ unset_word

-- 7 is Unset, which no reference below is
pub plain_leaf : (word base : ℕ) → ref_of word ≡ Some (LeafAt base) → IsNoChangeWord word
unfolding ref_of
plain_leaf word base e = grind arith

-- the word of an inner row is plain
pub plain_row : (word base : ℕ) → ref_of word ≡ Some (InnerAt base) → IsNoChangeWord word
unfolding ref_of
plain_row word base e = grind arith

-- the word is plain, or nothing is said
abbrev pub plain_by : (word : ℕ) (o : Option Ref) → ref_of word ≡ o → Option (IsNoChangeWord word)
plain_by word (Some (LeafAt base)) e = Some (plain_leaf word base e)
plain_by word (Some (InnerAt base)) e = Some (plain_row word base e)
plain_by word _ e = None

-- the slot holds the word
abbrev pub slot_by : (slots : List ℕ) (i word : ℕ) (o : Option ℕ) → slice_get slots i ≡ o
    → Option (slice_get slots i ≡ Some word)
slot_by slots i word (Some w) e = then (equal w word) (λ k. Some (e ∙ ap (λ n. Some n) k))
slot_by slots i word None e = None

-- the slot may be passed
abbrev pub pass_by : (t : Snapshot) (caller node i word : ℕ) (o : Option Piece) → t.pieces node ≡ o
    → Option (CanPass t caller node i word)
pass_by t caller node i word (Some (Inner r)) e =
    then (less caller t.callers) (λ known. then (equal r.status 1) (λ marked.
    then (slot_by r.slots i word (slice_get r.slots i) refl) (λ in_slot.
    then (plain_by word (ref_of word) refl) (λ plain.
    Some record {
      known = known;
      row = r;
      published = e;
      marked = marked;
      in_slot = in_slot;
      no_change = plain.no_change;
      set = plain.set;
    }))))
pass_by t caller node i word _ e = None

-- ---- Finish

-- the row is finished with some number of keys
abbrev pub finished_by : (t : Snapshot) (node : ℕ) (o : Option Piece) → t.pieces node ≡ o
    → Option ((k : ℕ) × IsFinishedWith t node k)
finished_by t node (Some (Inner r)) e = then (equal r.status (finished_word (r.status / 4)))
    (λ status. Some (r.status / 4, record { row = r; published = e; status = status }))
finished_by t node _ e = None

-- what the reference counts for
abbrev pub count_by : (t : Snapshot) (o : Option Ref) → Option ((k : ℕ) × CountsFor t o k)
count_by t (Some Empty) = Some (0, no_key)
count_by t (Some (LeafAt base)) = Some (1, one_key)
count_by t (Some (InnerAt base)) =
    then (finished_by t base (t.pieces base) refl) (λ p. Some (p.0, of_child p.1))
count_by t _ = None

-- what the slots count for
abbrev pub counts_by : (t : Snapshot) (log : Log) (node i : ℕ) (slots : List ℕ)
    → Option ((k : ℕ) × ArePassed t log node i slots k)
counts_by t log node i [] = Some (0, past_end)
counts_by t log node i (slot ∷ slots) =
    then (pass_in node i log) (λ p. then (count_by t (ref_of p.0)) (λ here.
    then (counts_by t log node (i + 1) slots) (λ rest.
    Some (here.0 + rest.0, one_passed p.0 p.1 here.1 rest.1))))

-- the row may be finished
abbrev pub finish_by : (t : Snapshot) (log : Log) (caller node k : ℕ) (o : Option Piece)
    → t.pieces node ≡ o → Option (CanFinish t log caller node k)
finish_by t log caller node k (Some (Inner r)) e =
    then (less caller t.callers) (λ known. then (equal r.status 1) (λ marked.
    then (counts_by t log node 0 r.slots) (λ p. then (equal p.0 k) (λ same.
    Some record {
      known = known;
      row = r;
      published = e;
      marked = marked;
      passed = subst (λ n. ArePassed t log node 0 r.slots n) same p.1;
    }))))
finish_by t log caller node k _ e = None

-- ---- logs

-- the event is enabled, or nothing is said
abbrev pub enabled_by : (first : Snapshot) (log : Log) (event : Event)
    → Option (Enabled first log event)
enabled_by first log (Mark c n) = let t = state first log in mark_by t log c n (t.pieces n) refl
enabled_by first log (Pass c n i w) = let t = state first log in pass_by t c n i w (t.pieces n) refl
enabled_by first log (Finish c n k) =
    let t = state first log in finish_by t log c n k (t.pieces n) refl
enabled_by first log _ = None

-- the test whether more events after a log are enabled
abbrev pub each_by : (first : Snapshot) (more log : Log) → EachEnabled first log
    → Option (EachEnabled first (more ++ log))
each_by first [] log enabled = Some enabled
each_by first (event ∷ more) log enabled =
    then (each_by first more log enabled) (λ before.
    then (enabled_by first (more ++ log) event) (λ now. Some (before, now)))

-- a test has one outcome
pub clash : {A : Type 0} → false ≡ true → A
clash e = absurd (cc)

-- what is known holds
abbrev pub known : {A : Type 0} (o : Option A) → is_some o ≡ true → A
known (Some a) e = a
known None e = clash e
