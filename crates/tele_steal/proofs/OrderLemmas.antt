-- Lanes that came back in the order of their numbers. Serves a run of stolen lanes.
use Rattle.std.proofs.Common.{◌≡◌, ◌+◌, ◌<◌, ℕ, List, [], ◌∷◌, ◌++◌, length, map, IsPermutation, eqb, sym, refl, ap, ◌∙◌, subst, arith, length-append}
use Rattle.std.specs.List.{range_with_len}
use Rattle.std.proofs.lemmas.List.FromFn.{length-map-range_with_len, get_or-map-range_with_len, map-range_with_len_more}
use Rattle.std.specs.List.Sorted.{IsNonDecreasingBy, IsNonDecreasing, IsStrictlyIncreasing}
use Rattle.std.proofs.lemmas.Map.Keys.{IsStrictlyIncreasing-from_distinct, IsDistinct-IsPermutation}
use Rattle.tele_lanes.specs.declared.lanes.Lane.{Lane}
use Rattle.tele_lanes.proofs.SplitLemmas.{Climb-from_increasing, same_climbing}
use Rattle.tele_lanes.proofs.DistinctLemmas.{eqb-flip, IsDistinct-from_increasing}
use Rattle.std.proofs.lemmas.List.{map-append, map_push, length_push, length-map, get_or-map}
use Rattle.std.proofs.lemmas.List.Sorted.{IsPermutation-sym, IsPermutation-trans, IsPermutation-map, IsPermutation-append, IsPermutation-append_comm, Contains-permutation, length_permutation}
use Rattle.tele_steal.specs.Runs.{Ticket, ticket}

-- the numbers of elements that are sorted by them don't fall
IsNonDecreasing-map : {A : Type 0} (n : A → ℕ) (xs : List A) → IsNonDecreasingBy n xs
    → IsNonDecreasing (map n xs)
IsNonDecreasing-map n [] up i j d le lt = absurd (omega arith)
IsNonDecreasing-map n (x ∷ xs) up i j d le lt =
    let within : j < length (x ∷ xs) = omega (arith, length-map (x ∷ xs) n, lt) in
    rw (get_or-map n (x ∷ xs) i x d (omega (arith, le, within)), get_or-map n (x ∷ xs) j x d within)
    (up i j x le within)

-- what was put in and what was kept have the tickets of what came back
pub all_home : {X Y : Type 0} (f : X → Y) (all put kept back one last : List X)
    → IsPermutation all (put ++ kept) → IsPermutation (map f kept) (map f one)
    → IsPermutation put back → map f last ≡ map f one ++ map f back
    → IsPermutation (map f all) (map f last)
all_home f all put kept back one last shared ran settled is =
    IsPermutation-trans (map f all) (map f put ++ map f kept) (map f last)
    (subst (λ z. IsPermutation (map f all) z) (map-append f put kept)
    (IsPermutation-map f all (put ++ kept) shared))
    (IsPermutation-trans (map f put ++ map f kept) (map f back ++ map f one) (map f last)
    (IsPermutation-append (map f put) (map f back) (map f kept) (map f one)
    (IsPermutation-map f put back settled) ran)
    (subst (λ z. IsPermutation (map f back ++ map f one) z) (sym is)
    (IsPermutation-append_comm (map f back) (map f one))))

-- what was put in and what was kept are as many as there were
pub as_many : {X : Type 0} (none all put kept : List X) → none ≡ []
    → IsPermutation (none ++ all) (put ++ kept) → length all ≡ length put + length kept
as_many none all put kept is shared =
    sym (length_permutation all (put ++ kept) (subst
    (λ z. IsPermutation (z ++ all) (put ++ kept)) is shared))
    ∙ length-append put kept

-- what was put in, and what was kept and then run, are as many as there were
pub as_many_ran : {X Y : Type 0} (f : X → Y) (none all put kept one : List X) → none ≡ []
    → IsPermutation (none ++ all) (put ++ kept) → IsPermutation (map f kept) (map f one)
    → length all ≡ length put + length one
as_many_ran f none all put kept one is shared ran = as_many none all put kept is shared
    ∙ ap (λ n. length put + n) (sym (length-map kept f)
    ∙ sym (length_permutation (map f kept) (map f one) ran) ∙ length-map one f)

module _ {P T : Type 0} (tie : P → T) where
  -- what is read off the tickets of some lanes
  pub through : {Y : Type 0} (g : Ticket T → Y) (ls : List (Lane P T))
      → map g (map (ticket tie) ls) ≡ map (λ l. g (ticket tie l)) ls
  through g [] = refl
  through g (l ∷ ls) = ap (λ z. g (ticket tie l) ∷ z) (through g ls)

  -- the number on a ticket
  abbrev number_on : Ticket T → ℕ
  number_on k = k.number

  -- lanes with the same tickets in any order, both in increasing order of numbers, have the same
  -- list of tickets
  pub in_place : (old new : List (Lane P T)) → IsStrictlyIncreasing (map (λ l. l.number) old)
      → IsPermutation (map (ticket tie) old) (map (ticket tie) new)
      → IsNonDecreasingBy (λ l. l.number) new → map (ticket tie) new ≡ map (ticket tie) old
  in_place old new up same rising = let xs = map (ticket tie) old in
      let ys = map (ticket tie) new in
      let ups : IsStrictlyIncreasing (map number_on xs) =
      subst IsStrictlyIncreasing (sym (through number_on old)) up in
      let downs : IsNonDecreasing (map number_on ys) =
      subst IsNonDecreasing (sym (through number_on new))
      (IsNonDecreasing-map (λ l. l.number) new rising) in
      let ups' : IsStrictlyIncreasing (map number_on ys) =
      IsStrictlyIncreasing-from_distinct (map number_on ys) downs
      (IsDistinct-IsPermutation eqb eqb-flip (map number_on xs) (map number_on ys)
      (IsPermutation-map number_on xs ys same)
      (IsDistinct-from_increasing (map number_on xs) ups)) in
      same_climbing number_on ys xs (Climb-from_increasing number_on ys ups')
      (Climb-from_increasing number_on xs ups)
      (λ a. Contains-permutation ys xs a (IsPermutation-sym xs ys same))
      (λ a. Contains-permutation xs ys a same)

  -- the tickets of lanes that came back and were put in order are the same
  pub at_home : (old back new : List (Lane P T)) → IsStrictlyIncreasing (map (λ l. l.number) old)
      → IsPermutation (map (ticket tie) old) (map (ticket tie) back) → IsPermutation back new
      → IsNonDecreasingBy (λ l. l.number) new → map (ticket tie) new ≡ map (ticket tie) old
  at_home old back new up came sorted rising = in_place old new up
      (IsPermutation-trans (map (ticket tie) old) (map (ticket tie) back) (map (ticket tie) new)
      came (IsPermutation-map (ticket tie) back new sorted)) rising

  -- all that is read off them is the same
  pub same_on : {Y : Type 0} (g : Ticket T → Y) (old new : List (Lane P T))
      → map (ticket tie) new ≡ map (ticket tie) old
      → map (λ l. g (ticket tie l)) new ≡ map (λ l. g (ticket tie l)) old
  same_on g old new is = sym (through g new) ∙ ap (map g) is ∙ through g old

-- the numbers from 0 on are strictly increasing
pub IsStrictlyIncreasing-from_0 : (n : ℕ) → IsStrictlyIncreasing (map (λ k. k) (range_with_len 0 n))
IsStrictlyIncreasing-from_0 n k h =
    grind (arith, length-map-range_with_len, get_or-map-range_with_len)

-- numbers from 0 on, with the next one
pub counted_more : {X : Type 0} (n : X → ℕ) (xs : List X) (x : X)
    → map n xs ≡ map (λ k. k) (range_with_len 0 (length xs)) → n x ≡ length xs
    → map n (xs ++ x ∷ []) ≡ map (λ k. k) (range_with_len 0 (length (xs ++ x ∷ [])))
counted_more n xs x old is = map_push n xs x ∙ ap (λ z. z ++ n x ∷ []) old
    ∙ sym (map-range_with_len_more (λ k. k) 0 (length xs) (n x) (omega (arith, is)))
    ∙ ap (λ k. map (λ j. j) (range_with_len 0 k)) (sym (length_push xs x))
