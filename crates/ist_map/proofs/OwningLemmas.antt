-- A key that one worker alone changes. Serves `laws.owners_read_back`.
use Rattle.std.proofs.Common.{◌≡◌, ◌≢◌, ℕ, ◌==◌, Bool, true, false, List, [], ◌∷◌, map, filter, refl, sym, subst, inl, inr, arith}
use Rattle.std.proofs.lemmas.Bool.Decides.{nat_tests, eqb_tells}
use Rattle.std.specs.FinMap as fin
use Rattle.std.specs.FinMap.{gets}
use Rattle.ist_core.specs.declared.commands.Command.{Command}
use Rattle.ist_core.specs.declared.commands.Command.TheVariants.{Put, Remove, Get}
use Rattle.ist_core.specs.LogTerms.{Among, Each, IsLegal, Answered}
use Rattle.ist_core.specs.TreeTerms.{Map, key_of, map_after}
use Rattle.ist_core.proofs.AllWordLemmas.{each_of}
use Rattle.laws_histories.proofs.MapLemmas.{same_head, same_tail}
use Rattle.ist_reopen.specs.Interleaving.{Owned, IsMadeOf, told_to_pass}
use Rattle.ist_map.specs.Owning.{is_about, value_after, ReadBack, OnlyGets}

-- a command about another key leaves this one's value
get_other : (m : Map) (command : Command) (key : ℕ) → key_of command ≢ key
    → fin.get (map_after m command) key ≡ fin.get m key
get_other m (Put other value) key ne = grind (arith, nat_tests, gets)
get_other m (Remove other) key ne = grind (arith, nat_tests, gets)
get_other m (Get other) key ne = refl

-- a command about the key leaves the value that it says
get_same : (m : Map) (command : Command) (key : ℕ) → key_of command ≡ key
    → fin.get (map_after m command) key ≡ value_after (fin.get m key) command
get_same m (Put other value) key e = grind (arith, nat_tests, gets)
get_same m (Remove other) key e = grind (arith, nat_tests, gets)
get_same m (Get other) key e = refl

module _ (key owner : ℕ) where
  -- a call that may change the key is its owner's
  abbrev pub IsOwnersCall : Owned → Type 0
  IsOwnersCall x = x.owner ≢ owner → key_of x.told.command ≡ key → x.told.command ≡ Get key

  -- a call of another leaves the value
  left_by_other : (m : Map) (x : Owned) → (x.owner == owner) ≡ false → IsOwnersCall x
      → fin.get (map_after m x.told.command) key ≡ fin.get m key
  left_by_other m x other fair = grind (arith, nat_tests, get_other, eqb_tells)

  -- the owner reads back, if each call of another leaves the key
  pub read_back : (m : Map) (owned : List Owned) → IsLegal m (map (λ x. x.told) owned)
      → Each IsOwnersCall owned
      → ReadBack (fin.get m key) (filter (is_about key) (told_to_pass owner owned))
  read_back m [] legal fair = tt
  read_back m (x ∷ owned) legal fair =
      at (read_back (map_after m x.told.command) owned (same_tail _ _ _ _ legal) fair.1)
      (x.owner == owner) refl (is_about key x.told) refl
    where
      at : ReadBack (fin.get (map_after m x.told.command) key)
          (filter (is_about key) (told_to_pass owner owned))
          → (mine : Bool) → (x.owner == owner) ≡ mine → (about : Bool) → is_about key x.told ≡ about
          → ReadBack (fin.get m key) (filter (is_about key) (told_to_pass owner (x ∷ owned)))
      at rest false his about e = grind (arith, left_by_other)
      at rest true mine true e = grind (arith, nat_tests, same_head, get_same)
      at rest true mine false e = grind (arith, nat_tests, get_other)

-- what was told to one of these is among what the pass with its number was told
told_among : (x : Owned) (owned : List Owned) → Among x owned
    → Among x.told (told_to_pass x.owner owned)
told_among x [] h = absurd h
told_among x (y ∷ owned) (inl same) = grind (arith, nat_tests)
told_among x (y ∷ owned) (inr more) = at (told_among x owned more) (y.owner == x.owner) refl
  where
    at : Among x.told (told_to_pass x.owner owned) → (v : Bool) → (y.owner == x.owner) ≡ v
        → Among x.told (told_to_pass x.owner (y ∷ owned))
    at rest true e = rw e (inr rest)
    at rest false e = rw e rest

-- what holds of each holds of one among them
of_each : {A : Type 0} (P : A → Type 0) (x : A) (xs : List A) → Each P xs → Among x xs → P x
of_each P x [] h i = absurd i
of_each P x (y ∷ xs) h (inl same) = subst P (sym same) h.0
of_each P x (y ∷ xs) h (inr i) = of_each P x xs h.1 i

-- if all others only get the key, its owner reads back
pub owner_reads : (m : Map) (lists : ℕ → List Answered) (history : List Answered)
    → IsLegal m history → IsMadeOf lists history → (key owner : ℕ)
    → ((other : ℕ) → other ≢ owner → OnlyGets key (lists other))
    → ReadBack (fin.get m key) (filter (is_about key) (lists owner))
owner_reads m lists history legal made key owner gets_only =
    subst (λ ts. ReadBack (fin.get m key) (filter (is_about key) ts)) (made.each owner)
    (read_back key owner m made.owned
    (subst (IsLegal m) (sym made.told_are) legal)
    (each_of (IsOwnersCall key owner) made.owned (λ x i ne.
    of_each (λ it. key_of it.command ≡ key → it.command ≡ Get key) x.told (lists x.owner)
    (gets_only x.owner ne)
    (subst (λ ts. Among x.told ts) (made.each x.owner) (told_among x made.owned i)))))
