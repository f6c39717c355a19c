-- A row counts at most what was decided yes, so no count reaches the end of a word. Serves
-- `laws.counts_are_low`.
use Rattle.std.proofs.Common.{◌≡◌, ◌≢◌, ℕ, ◌+◌, ◌≤◌, ◌⊎◌, ◌==◌, if◌then◌else◌, Bool, true, false, not, List, [], ◌∷◌, ◌++◌, length, filter, Option, Some, None, sym, subst, inl, inr, arith, length-append}
use Rattle.std.proofs.lemmas.Bool.Decides.{nat_tests, eqb_tells}
use Rattle.ist_core.specs.Types.{Pair, ChangeRow, Event, Enter, Reserve, Install, Okay, Decide, Resolve, Count, Mark, Pass, Finish, Root, Draw, Place, Lose}
use Rattle.ist_core.specs.LogTerms.{Among, Snapshot, Log, state, Happened, Counts, GoesOn, same_log, one_event, EachEnabled, state_of}
use Rattle.ist_core.specs.WordTerms.{Piece, Leaf, Inner, Change, Rebuild, start, decided_yes_in}
use Rattle.ist_core.specs.TreeTerms.{CanCount, ChangeGrows}
use Rattle.ist_core.proofs.OptionLemmas.{among_filter, among_left, among_right}
use Rattle.ist_core.proofs.GrowingLemmas.{change_there}
use Rattle.ist_core.proofs.FateLemmas.{enabled_before, grow_between}
use Rattle.ist_core.proofs.PrefixLemmas.{goes_on_more, goes_on-append}

-- ---- counts and what may be counted

-- the list without a number
abbrev pub drop_all : ℕ → List ℕ → List ℕ
drop_all x xs = filter (λ y. not (y == x)) xs

-- the owner of a row, if it is a change
abbrev pub owner_of : Option Piece → List ℕ
owner_of (Some (Change r)) = r.owner ∷ []
owner_of _ = []

-- how many Counts of the node are in the log
unfoldable pub counts : ℕ → Log → ℕ
counts node [] = 0
counts node (Count caller at ∷ log) = if at == node then counts node log + 1 else counts node log
counts node (_ ∷ log) = counts node log

-- the owners of changes that were decided yes and may still be counted at the node, one for each
-- change
unfoldable pub waiting : Snapshot → ℕ → Log → List ℕ
waiting first node [] = []
waiting first node (Decide caller base true ∷ log) = owner_of ((state first log).pieces base) ++
    waiting first node log
waiting first node (Count caller at ∷ log) = if at == node then drop_all caller
    (waiting first node log) else waiting first node log
waiting first node (_ ∷ log) = waiting first node log

-- dropping a number shortens the list, by at least one if the number is in the list
pub drop_shorter : (x : ℕ) (xs : List ℕ) → length (drop_all x xs) ≤ length xs
drop_shorter x [] = omega arith
drop_shorter x (y ∷ ys) = at (drop_shorter x ys) (y == x)
  where
    at : length (drop_all x ys) ≤ length ys → (v : Bool)
        → length (if not v then y ∷ drop_all x ys else drop_all x ys) ≤ length (y ∷ ys)
    at rest true = omega arith
    at rest false = omega arith

-- dropping a number that is in the list shortens it by at least one
pub drop_one : (x : ℕ) (xs : List ℕ) → Among x xs → length (drop_all x xs) + 1 ≤ length xs
drop_one x [] i = absurd i
drop_one x (y ∷ ys) i = at (λ j. drop_one x ys j) (y == x) (eqb_tells y x) i
  where
    at : (Among x ys → length (drop_all x ys) + 1 ≤ length ys) → (v : Bool)
        → (((y == x) ≡ true) × (y ≡ x)) ⊎ (((y == x) ≡ false) × (y ≢ x)) → Among x (y ∷ ys)
        → length (drop_all x (y ∷ ys)) + 1 ≤ length (y ∷ ys)
    at again v (inl k) j = grind (arith, drop_shorter)
    at again v (inr k) (inl e) = absurd (k.1 (sym e))
    at again v (inr k) (inr j) = grind arith

-- another number stays
drop_keeps : (x c : ℕ) (xs : List ℕ) → c ≢ x → Among c xs → Among c (drop_all x xs)
drop_keeps x c xs ne i = grind (arith, among_filter, nat_tests)

-- a change that grew is still the caller's
same_owner : (o : Option Piece) (old r s : ChangeRow) (caller : ℕ) → ChangeGrows old r
    → o ≡ Some (Change r) → o ≡ Some (Change s) → s.owner ≡ caller → old.owner ≡ caller
same_owner o old r s caller grows e f owned = grind arith

-- ---- each Count has a change of its own

module _ (pairs : List Pair) (words : ℕ) (node : ℕ) where
  -- an event that counts nothing for the caller here leaves it waiting
  waiting_on : (log : Log) (event : Event) (caller : ℕ) → ¬ (Counts caller node event)
      → Among caller (waiting (start pairs words) node log)
      → Among caller (waiting (start pairs words) node (event ∷ log))
  unfolding waiting
  waiting_on log (Decide c base true) caller none i = grind (arith, among_right)
  waiting_on log (Count c at) caller none i = grind (arith, eqb_tells, drop_keeps)
  waiting_on log _ caller none i = i

  -- a caller whose last change wasn't counted here is waiting
  waits : (later : Log) (by base : ℕ) (earlier : Log) (caller : ℕ)
      → ¬ (Happened (Counts caller node) later)
      → Among caller (owner_of ((state_of pairs words earlier).pieces base))
      → Among caller (waiting (start pairs words) node (later ++ Decide by base true ∷ earlier))
  unfolding waiting
  waits [] by base earlier caller none i = grind (arith, among_left)
  waits (event ∷ later) by base earlier caller none i =
      waiting_on (later ++ Decide by base true ∷ earlier) event caller (λ k. none (inl k))
      (waits later by base earlier caller (λ k. none (inr k)) i)

  -- the caller of a Count waits
  counter_waits : (log : Log) (caller : ℕ) → EachEnabled (start pairs words) log
      → CanCount (start pairs words) log caller node
      → Among caller (waiting (start pairs words) node log)
  counter_waits log caller h can = let earlier = can.earlier in
      let whole = Decide can.by can.base true ∷ earlier in
      let on : GoesOn whole log = subst (λ l. GoesOn whole l) (sym can.log_is)
      (goes_on-append can.later whole) in
      let before = enabled_before (start pairs words) whole log on h in
      let stood = before.1.pending.published in
      let now = change_there (state_of pairs words earlier).pieces (state_of pairs words log).pieces
      (grow_between pairs words earlier log h
      (goes_on_more (one_event (Decide can.by can.base true) same_log) on))
      can.base before.1.change stood in
      let owner = same_owner ((state_of pairs words log).pieces can.base) before.1.change now.0
      can.update.change caller now.2 now.1 can.update.published can.update.owned in
      subst (λ l. Among caller (waiting (start pairs words) node l)) (sym can.log_is)
      (waits can.later can.by can.base earlier caller can.uncounted
      (subst (λ o. Among caller (owner_of o)) (sym stood) (inl (sym owner))))

  owner_few : (o : Option Piece) → length (owner_of o) ≤ 1
  owner_few (Some (Change r)) = omega arith
  owner_few (Some (Leaf r)) = omega arith
  owner_few (Some (Inner r)) = omega arith
  owner_few (Some (Rebuild r)) = omega arith
  owner_few None = omega arith

  -- counts and waiting owners together are at most what was decided yes
  pub counts_few : (log : Log) → EachEnabled (start pairs words) log
      → counts node log + length (waiting (start pairs words) node log) ≤ length
      (decided_yes_in log)
  unfolding counts waiting
  counts_few [] h = omega arith
  counts_few (Decide c base true ∷ log) h = let before = counts_few log h.0 in
      let few = owner_few ((state_of pairs words log).pieces base) in
      let both = length-append (owner_of ((state_of pairs words log).pieces base))
      (waiting (start pairs words) node log) in
      omega arith
  counts_few (Decide c base false ∷ log) h = counts_few log h.0
  counts_few (Count c at ∷ log) h = here (counts_few log h.0)
      (λ e. drop_one c (waiting (start pairs words) node log)
      (counter_waits log c h.0 (subst (λ n. CanCount (start pairs words) log c n) e h.1)))
      (at == node) (eqb_tells at node)
    where
      here : counts node log + length (waiting (start pairs words) node log) ≤ length
          (decided_yes_in log)
          → (at ≡ node → length (drop_all c (waiting (start pairs words) node log)) + 1 ≤ length
          (waiting (start pairs words) node log))
          → (v : Bool)
          → (((at == node) ≡ true) × (at ≡ node)) ⊎ (((at == node) ≡ false) × (at ≢ node))
          → (if at == node then counts node log + 1 else counts node log)
          + length (if at == node then drop_all c (waiting (start pairs words) node log) else
          waiting (start pairs words) node log)
          ≤ length (decided_yes_in log)
      here before less v (inl k) = grind arith
      here before less v (inr k) = grind arith
  counts_few (Enter c ∷ log) h = counts_few log h.0
  counts_few (Reserve c base size ∷ log) h = counts_few log h.0
  counts_few (Install c change rows ∷ log) h = counts_few log h.0
  counts_few (Okay c change ∷ log) h = counts_few log h.0
  counts_few (Resolve c change ∷ log) h = counts_few log h.0
  counts_few (Mark c at ∷ log) h = counts_few log h.0
  counts_few (Pass c at j word ∷ log) h = counts_few log h.0
  counts_few (Finish c at keys ∷ log) h = counts_few log h.0
  counts_few (Root c rebuild word rows ∷ log) h = counts_few log h.0
  counts_few (Draw c rebuild part ∷ log) h = counts_few log h.0
  counts_few (Place c rebuild j word rows ∷ log) h = counts_few log h.0
  counts_few (Lose c bases ∷ log) h = counts_few log h.0
