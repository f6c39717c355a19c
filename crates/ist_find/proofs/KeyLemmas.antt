-- Looks at the keys of a row: one after the other, and by a gallop. Serves `keys`.
use Rattle.std.proofs.Common.{◌≡◌, ◌∙◌, ℕ, suc, ◌+◌, ◌-◌, ◌*◌, ◌<◌, ◌≤◌, nat_le, nat_lt, cond, true, false, List, length, get_or, take, refl, sym, ap, arith}
use Rattle.std.proofs.lemmas.Bool.Decides.{nat_tests}
use Rattle.std.proofs.lemmas.List.Sums.{count_by_more_yes, count_by_more_no}
use Rattle.ist_core.specs.WordTerms.{child_count}
use Rattle.ist_math.specs.declared.gallops.Gallop.{Gallop}
use Rattle.ist_math.specs.Guess.{guess_of, guess_in}
use Rattle.ist_math.specs.Gallops.{Gallops}
use Rattle.ist_math.proofs.GallopLemmas.{guess_of-between, end-near, end-far}
use Rattle.ist_math.proofs.ChildLemmas.{HasGalloped, galloped_on, galloped_to, looks_fit, child_is_first, child_is_last, child_most}
use Rattle.ist_rule.specs.RuleTerms.{IsSound, GoesOnTo}
use Rattle.ist_rule.specs.declared.view.View.{View}
use Rattle.ist_rule.proofs.EventLemmas.{goes_on_same, goes_on_more}
use Rattle.ist_find.specs.Searches.{IsRow, keys_at}
use Rattle.ist_find.specs.Looks.{FindsChild}
use Rattle.ist_find.proofs.LoadLemmas.{row_on, keys_on, keys_rise}

-- this many loads were made, and the row still has its keys
pub record HasLoaded (v w : View) (node loads : ℕ) : Type 0 where
  pub seen : GoesOnTo v w
  pub row : IsRow w node
  pub keys : keys_at w node ≡ keys_at v node
  pub count : w.loaded ≡ v.loaded + loads

-- this many of the keys before `at` are at most the key
pub record HasCountedKeys (v w : View) (node at key found : ℕ) : Type 0 where
  pub loaded : HasLoaded v w node at
  pub within : found ≤ at
  pub found_is : child_count (take at (keys_at v node)) key ≡ found

-- a gallop among the keys made this many looks, and no other load
pub record HasRunGallop (v w : View) (node from key : ℕ) (g : Gallop) (looks : ℕ) : Type 0 where
  pub loaded : HasLoaded v w node looks
  pub galloped : HasGalloped (keys_at v node) key from g looks

-- nothing was loaded yet
pub none_loaded : (v : View) → IsSound v → (node : ℕ) → IsRow v node → HasLoaded v v node 0
none_loaded v s node r =
    record { seen = goes_on_same v s; row = r; keys = refl; count = omega arith }

-- one more
pub one_loaded : (v w u : View) (node loads : ℕ) → HasLoaded v w node loads → GoesOnTo w u
    → u.loaded ≡ w.loaded + 1 → HasLoaded v u node (loads + 1)
one_loaded v w u node loads h g count = let so_far = h.count in record {
  seen = goes_on_more v w u h.seen g;
  row = row_on w u g node h.row;
  keys = keys_on w u g node h.row ∙ h.keys;
  count = omega arith;
}

-- ---- one after the other

-- no key was counted yet
pub none_counted : (v : View) → IsSound v → (node : ℕ) → IsRow v node → (key : ℕ)
    → HasCountedKeys v v node 0 key 0
none_counted v s node r key =
    record { loaded = none_loaded v s node r; within = omega arith; found_is = refl }

-- one more was, which is at most the key, or isn't
module _ (v w u : View) (node at key found word : ℕ) (h : HasCountedKeys v w node at key found)
    (g : GoesOnTo w u) (count : u.loaded ≡ w.loaded + 1) (less : at < length (keys_at v node))
    (is : word ≡ get_or (keys_at w node) at 0) where
  here : word ≡ get_or (keys_at v node) at 0
  here = is ∙ ap (λ ks. get_or ks at 0) h.loaded.keys

  -- a key that is at most the searched one is counted
  pub counted_yes : word ≤ key → HasCountedKeys v u node (at + 1) key (found + 1)
  counted_yes low = let same = here in let so_far = h.found_is in let within = h.within in
      let test : nat_le (get_or (keys_at v node) at 0) key ≡ true = grind (arith, nat_tests) in
      let yes = count_by_more_yes (λ k. nat_le k key) (keys_at v node) at 0 less test in record {
        loaded = one_loaded v w u node at h.loaded g count;
        within = omega arith;
        found_is = omega arith;
      }

  -- a key above the searched one isn't counted
  pub counted_no : key < word → HasCountedKeys v u node (at + 1) key found
  counted_no high = let same = here in let so_far = h.found_is in let within = h.within in
      let test : nat_le (get_or (keys_at v node) at 0) key ≡ false = grind (arith, nat_tests) in
      let no = count_by_more_no (λ k. nat_le k key) (keys_at v node) at 0 less test in record {
        loaded = one_loaded v w u node at h.loaded g count;
        within = omega arith;
        found_is = omega arith;
      }

-- ---- by a gallop

-- a gallop begins at a key that was loaded
pub galloped_first : (keys : List ℕ) (x from : ℕ) (g : Gallop) → from < length keys
    → get_or keys 0 0 ≤ x → x < get_or keys (length keys - 1) 0
    → g.low ≡ cond (nat_lt x (get_or keys from 0)) 0 from
    → g.high ≡ cond (nat_lt x (get_or keys from 0)) from (length keys - 1) → Gallops g from 1
    → HasGalloped keys x from g 1
galloped_first keys x from g less first last = grind (arith, HasGalloped, nat_tests)

-- and the load of that key was its first look
pub run_begins : (v w : View) → IsSound v → (node from key : ℕ) (g : Gallop) (word : ℕ)
    → IsRow v node → GoesOnTo v w → w.loaded ≡ v.loaded + 1
    → word ≡ get_or (keys_at v node) from 0 → from < length (keys_at v node)
    → get_or (keys_at v node) 0 0 ≤ key
    → key < get_or (keys_at v node) (length (keys_at v node) - 1) 0
    → g.low ≡ cond (nat_lt key word) 0 from
    → g.high ≡ cond (nat_lt key word) from (length (keys_at v node) - 1) → Gallops g from 1
    → HasRunGallop v w node from key g 1
run_begins v w s node from key g word r go count is less first last low high gallops =
    let keys = keys_at v node in record {
      loaded = one_loaded v v w node 0 (none_loaded v s node r) go count;
      galloped = galloped_first keys key from g less first last
          (low ∙ ap (λ k. cond (nat_lt key k) 0 from) is)
          (high ∙ ap (λ k. cond (nat_lt key k) from (length keys - 1)) is) gallops;
    }

-- a look of it is one more load
pub run_on : (v w u : View) (node from key : ℕ) (g next : Gallop) (looks at word : ℕ)
    → HasRunGallop v w node from key g looks → GoesOnTo w u → u.loaded ≡ w.loaded + 1
    → word ≡ get_or (keys_at w node) at 0 → g.low < at → at < g.high
    → next.low ≡ cond (nat_lt key word) g.low at → next.high ≡ cond (nat_lt key word) at g.high
    → ((guess looks : ℕ) → Gallops g guess looks → Gallops next guess (suc looks))
    → HasRunGallop v u node from key next (looks + 1)
run_on v w u node from key g next looks at word h go count is up down low high goes =
    let keys = keys_at v node in
    let here : word ≡ get_or keys at 0 = is ∙ ap (λ ks. get_or ks at 0) h.loaded.keys in record {
      loaded = one_loaded v w u node looks h.loaded go count;
      galloped = galloped_on keys key from g next looks at h.galloped up down
          (low ∙ ap (λ k. cond (nat_lt key k) g.low at) here)
          (high ∙ ap (λ k. cond (nat_lt key k) at g.high) here)
          (goes from looks h.galloped.gallops);
    }

-- a gallop makes few looks
pub run_fits : (v w : View) (node from key count : ℕ) (g : Gallop) (looks : ℕ)
    → HasRunGallop v w node from key g looks → count ≡ length (keys_at v node) → from < count → looks ≤ 2 * count + 3
run_fits v w node from key count g looks h long less =
    let fit = looks_fit (keys_at v node) key from g looks h.galloped (omega arith) in omega arith

-- at its end the child is found
pub run_ends : (v w : View) → IsSound v → (node from key count : ℕ) (g : Gallop) (looks : ℕ) → IsRow v node
    → HasRunGallop v w node from key g looks → g.low + 1 ≡ g.high → count ≡ length (keys_at v node) → from < count
    → FindsChild v w node key count from 0 g.high looks
run_ends v w s node from key count g looks r h end long less =
    let fit = run_fits v w node from key count g looks h long less in
    let near = end-near g from looks h.galloped.gallops end in let high = h.galloped.within in
    record {
      seen = h.loaded.seen;
      counted = h.loaded.count;
      few = omega arith;
      far = λ k less. let few = end-far g from looks h.galloped.gallops end k less in omega arith;
      fits = omega arith;
      value = sym (galloped_to (keys_at v node) key from g looks (keys_rise v s node r) h.galloped end);
      within = omega arith;
    }

-- ---- with the keys at both ends

module _ {v u : View} (s : IsSound v) (g : GoesOnTo v u) (two : u.loaded ≡ v.loaded + 2) {node count : ℕ}
    (r : IsRow v node) (long : count ≡ length (keys_at v node)) (key : ℕ) where
  -- a key below the first one has the first child
  pub child_at_start : key < get_or (keys_at v node) 0 0
      → FindsChild v u node key count (guess_in (keys_at v node) key) 2 0 2
  child_at_start low = record {
    seen = g;
    counted = two;
    few = omega arith;
    far = λ k less. omega arith;
    fits = omega arith;
    value = sym (child_is_first (keys_at v node) key (keys_rise v s node r) low);
    within = omega arith;
  }

  -- a key that isn't below the last one has the last child
  pub child_at_end : get_or (keys_at v node) (length (keys_at v node) - 1) 0 ≤ key
      → FindsChild v u node key count (guess_in (keys_at v node) key) 2 count 2
  child_at_end high = record {
    seen = g;
    counted = two;
    few = omega arith;
    far = λ k less. omega arith;
    fits = omega arith;
    value = long ∙ sym (child_is_last (keys_at v node) key (keys_rise v s node r) high);
    within = omega arith;
  }

  -- a gallop for any other key may begin at the guess
  pub guess_between : {first last from : ℕ} → first ≡ get_or (keys_at v node) 0 0
      → last ≡ get_or (keys_at v node) (length (keys_at v node) - 1) 0 → from ≡ guess_of first last count key
      → 2 ≤ count → first ≤ key → key < last
      → (1 ≤ from) × (from < count) × (get_or (keys_at u node) 0 0 ≤ key)
      × (key < get_or (keys_at u node) (length (keys_at u node) - 1) 0)
  guess_between {first = first} {last = last} one other is many low high =
      grind (arith, keys_on, guess_of-between)

  -- any other key has the one that was found from the guess
  pub child_between : {w : View} {from child loads : ℕ} → from ≡ guess_in (keys_at v node) key
      → FindsChild u w node key count from 0 child loads
      → FindsChild v w node key count (guess_in (keys_at v node) key) 2 child (loads + 2)
  child_between {w = w} {child = child} is f = grind (arith, goes_on_more, keys_on)

-- in a row of few keys all of them may be loaded
pub few_counted : (v w : View) (node key count child : ℕ) → GoesOnTo v w → w.loaded ≡ v.loaded + count
    → count ≤ 4 → count ≡ length (keys_at v node) → child ≡ child_count (keys_at v node) key
    → FindsChild v w node key count (guess_in (keys_at v node) key) 2 child count
few_counted v w node key count child g counted four long is =
    let most = child_most (keys_at v node) key in record {
      seen = g;
      counted = counted;
      few = omega arith;
      far = λ k less. omega arith;
      fits = omega arith;
      value = is;
      within = omega arith;
    }
