-- Two passes that each made a put, and a find that follows the other's put. Serves `exchange`.
use Rattle.std.proofs.Common.{◌≡◌, ◌≢◌, ℕ, ◌<◌, ◌⊎◌, List, [], ◌∷◌, zero, suc, slice_get, take, Some, ◌∙◌, ap, ⊎_elim, arith, ◌+◌, ◌≤◌, true, false, map, Option, refl, sym, subst, inl, inr, if◌then◌else◌, length, ◌++◌}
use Rattle.std.specs.FinMap.{gets}
use Rattle.std.proofs.lemmas.Bool.Decides.{nat_tests, eqb_tells}
use Rattle.ist_core.specs.declared.commands.Command.{Command}
use Rattle.ist_core.specs.declared.commands.Command.TheVariants.{Put, Get}
use Rattle.ist_core.specs.declared.calls.Call.{Call}
use Rattle.ist_core.specs.declared.pairs.Pair.{Pair}
use Rattle.ist_core.specs.TreeTerms.{Map, map_after, Entry, map_after_entries, map_of, reply_to, changes_of, map_at, AllStandIn, is_change, makes_entry, entry_by, entries_by, Follows, StandAmong}
use Rattle.ist_core.specs.LogTerms.{Each, Among}
use Rattle.ist_core.proofs.AllWordLemmas.{each-among, among_filter, each_of}
use Rattle.ist_tree.specs.CallTerms.{ClosesWith, calls_from, PassFace, MakerFace, calls_in, noted}
use Rattle.try_example.specs.Turns.{HasPut, HasFoundNext}
use Rattle.std.specs.FinMap as fin

-- ---- a map after changes none of which puts another value at a key. Serves `exchange`.

module _ (key value other what : ℕ) (apart : other ≢ key) where
  -- the entry puts this value at the key, or that value at the other key
  abbrev pub PutsOneOf : Entry → Type 0
  PutsOneOf e = (e.command ≡ Put key value) ⊎ (e.command ≡ Put other what)

  -- a put of the value leaves it at the key
  pub put_here : (m : Map) (c : Command) → c ≡ Put key value
      → fin.get (map_after m c) key ≡ Some value
  put_here m c is =
      let got : fin.get (fin.insert m key value) key ≡ Some value
      = grind (arith, nat_tests, gets) in
      ap (λ d. fin.get (map_after m d) key) is ∙ got

  -- a put at the other key leaves what the map has at the key
  put_there : (m : Map) (c : Command) → c ≡ Put other what
      → fin.get (map_after m c) key ≡ fin.get m key
  put_there m c is =
      let got : fin.get (fin.insert m other what) key ≡ fin.get m key
      = grind (arith, nat_tests, gets, apart) in
      ap (λ d. fin.get (map_after m d) key) is ∙ got

  -- once the key has the value, it keeps it
  pub stays : (count : ℕ) (m : Map) (es : List Entry) → Each PutsOneOf es
      → fin.get m key ≡ Some value → fin.get (map_after_entries m (take count es)) key ≡ Some value
  stays zero m es each has = has
  stays (suc count) m [] each has = has
  stays (suc count) m (e ∷ es) each has = stays count (map_after m e.command) es each.1
      (⊎_elim (put_here m e.command) (λ there. put_there m e.command there ∙ has) each.0)

  -- after a put of the value the key has it
  pub has_it : (i count : ℕ) (m : Map) (es : List Entry) → Each PutsOneOf es → (e : Entry)
      → slice_get es i ≡ Some e → e.command ≡ Put key value → i < count
      → fin.get (map_after_entries m (take count es)) key ≡ Some value
  has_it i zero m es each e at is below = absurd (omega arith)
  has_it i (suc count) m [] each e at is below = cc
  has_it zero (suc count) m (x ∷ es) each e at is below = grind (arith, stays, put_here)
  has_it (suc i) (suc count) m (x ∷ es) each e at is below =
      has_it i count (map_after m x.command) es each.1 e at is (omega arith)

-- an owner with one entry has only this one
the_one : (owner : ℕ) (only : Entry) (es : List Entry) → entries_by owner es ≡ only ∷ []
    → (e : Entry) → Among e es → e.owner ≡ owner → e ≡ only
the_one owner only es is e among own = grind (arith, among_filter, eqb_tells, each-among)

-- a put, and a find after it
module _ (put find : Call) (p : Pair) (key : ℕ) (put_is : put.command ≡ Put p.key p.value)
    (find_is : find.command ≡ Get key) where
  -- the put changes the map
  pub changes : is_change put ≡ true
  changes = ap (λ c. makes_entry c put.reply) put_is

  -- the find does not change the map
  pub reads : is_change find ≡ false
  reads = ap (λ c. makes_entry c find.reply) find_is

  -- their pass has one entry, which puts the pair
  one_entry : (m : Map) (es : List Entry) (number : ℕ) → StandAmong m es number (put ∷ find ∷ [])
      → entries_by number es ≡ entry_by number put ∷ []
  one_entry m es number s = grind (arith, changes, reads)

  -- each entry of their pass puts the pair
  pub puts_own : (m : Map) (es : List Entry) (number : ℕ) → StandAmong m es number (put ∷ find ∷ [])
      → (e : Entry) → Among e es → e.owner ≡ number → e.command ≡ Put p.key p.value
  puts_own m es number s e among own = grind (arith, the_one, one_entry)

-- if all entries are those of two passes that each put a pair, a find that follows the other's put
-- finds what it put
pub finds_theirs : (m : Map) (es : List Entry) (mine theirs : ℕ) (p q : Pair)
    (put find other late : Call) → ((e : Entry) → Among e es → (e.owner ≡ mine) ⊎ (e.owner ≡ theirs))
    → StandAmong m es mine (put ∷ find ∷ []) → StandAmong m es theirs (other ∷ late ∷ [])
    → put.command ≡ Put p.key p.value → find.command ≡ Get q.key
    → other.command ≡ Put q.key q.value → late.command ≡ Get p.key
    → p.key ≢ q.key → Follows other find → find.reply ≡ Some q.value
finds_theirs m es mine theirs p q put find other late owners ours others put_is find_is other_is
    late_is apart follows =
    let all : Each (PutsOneOf q.key q.value p.key p.value apart) es
    = each_of _ es (λ e among. ⊎_elim
    (λ own. inr (puts_own put find p q.key put_is find_is m es mine ours e among own))
    (λ own. inl (puts_own other late q p.key other_is late_is m es theirs others e among own))
    (owners e among)) in
    let made = others.made other (inl refl) (changes other late q p.key other_is late_is) in
    let read = ours.read find (inr (inl refl)) (reads put find p q.key put_is find_is) in
    let following : other.position + 1 ≤ find.position
    = subst (λ b. (if b then other.position + 1 else other.position) ≤ find.position)
    (changes other late q p.key other_is late_is) follows.position in
    read.reply ∙ ap (reply_to (map_at m es find.position)) find_is
    ∙ has_it q.key q.value p.key p.value apart other.position find.position m es all (entry_by theirs other) made
    other_is (omega arith)

below_two : (n : ℕ) → n < 2 → (n ≡ 0) ⊎ (n ≡ 1)
below_two zero low = inl refl
below_two (suc zero) low = inr refl
below_two (suc (suc n)) low = absurd (omega arith)

-- two passes that were taken back, the one with number 0 first
module _ (one two : PassFace) (first : one.number ≡ 0) (second : two.number ≡ 1) where
  calls_of_both : calls_from 0 2 (calls_in two ∷ calls_in one ∷ []) ≡ one.calls ∷ two.calls ∷ []
  calls_of_both = rw first (rw second refl)

-- a pass that put its pair, and then found a key
module _ (p q r : PassFace) (pair : Pair) (note : PassFace) (key : ℕ) (reply : Option ℕ)
    (put : HasPut p pair q) (found : HasFoundNext q note key reply r) where
  two_calls : r.calls ≡ put.call ∷ found.call ∷ []
  two_calls = found.calls_are ∙ ap (λ calls. calls ++ found.call ∷ []) put.call_is

-- each pass of the closed tree found what the other put
pub both_find : (m : MakerFace) (words : List ℕ) → ClosesWith m words
    → (left right : Pair) → left.key ≢ right.key
    → (one two putter other end last : PassFace) (mine theirs : Option ℕ)
    → HasPut one left putter → HasPut two right other
    → HasFoundNext putter (noted other) right.key mine end
    → HasFoundNext other (noted putter) left.key theirs last
    → one.number ≡ 0 → two.number ≡ 1 → m.made ≡ 2 → m.taken ≡ calls_in last ∷ calls_in end ∷ []
    → (mine ≡ Some right.value) × (theirs ≡ Some left.value)
both_find m words closes left right apart one two putter other end last mine theirs put_one put_two
    found_one found_two first second made taken =
    let pairs = m.tree.start in let log = closes.stands.log in
    let es = changes_of pairs (length words) log in
    let calls : closes.stands.calls
    ≡ (put_one.call ∷ found_one.call ∷ []) ∷ (put_two.call ∷ found_two.call ∷ []) ∷ []
    = closes.calls_are ∙ ap (λ n. calls_from 0 n m.taken) made ∙ ap (calls_from 0 2) taken
    ∙ calls_of_both end last (found_one.number ∙ put_one.number ∙ first)
    (found_two.number ∙ put_two.number ∙ second)
    ∙ ap (λ x. x ∷ last.calls ∷ [])
    (two_calls one putter end left (noted other) right.key mine put_one found_one)
    ∙ ap (λ x. (put_one.call ∷ found_one.call ∷ []) ∷ x ∷ [])
    (two_calls two other last right (noted putter) left.key theirs put_two found_two) in
    let stand = subst (AllStandIn pairs (length words) log 0) calls closes.stands.stand in
    let owned : (e : Entry) → Among e es → (e.owner ≡ 0) ⊎ (e.owner ≡ 1)
    = λ e among. below_two e.owner
    (subst (λ n. e.owner < n) made
    (each-among (λ x. x.owner < m.made) e es closes.owners among)) in
    let after_two = subst (Each (λ known. Follows known found_one.call)) put_two.call_is
    found_one.follows in
    let after_one = subst (Each (λ known. Follows known found_two.call)) put_one.call_is
    found_two.follows in (
      sym found_one.reply_is
          ∙ finds_theirs (map_of pairs) es 0 1 left right put_one.call found_one.call put_two.call
          found_two.call owned stand.0 stand.1.0 put_one.command_is found_one.command_is
          put_two.command_is found_two.command_is apart after_two.0,
      sym found_two.reply_is
          ∙ finds_theirs (map_of pairs) es 1 0 right left put_two.call found_two.call put_one.call
          found_one.call (λ e among. ⊎_elim inr inl (owned e among)) stand.1.0 stand.0
          put_two.command_is found_two.command_is put_one.command_is found_one.command_is
          (λ same. apart (sym same)) after_one.0,
    )
