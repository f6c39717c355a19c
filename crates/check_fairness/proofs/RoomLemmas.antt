-- Sizes that can be read can also be read with less room, and with more lists. Serves
-- `fairness.rt`.
use Rattle.std.proofs.Common.{◌≡◌, ◌↔◌, ◌+◌, Bool, true, false, nat_lt, ℕ, List, [], ◌∷◌, ◌++◌, refl, sym, subst, arith, append_assoc, append-nil, ◌≤◌, map, take}
use Rattle.std.proofs.lemmas.Bool.Decides.{nat_tests}
use Rattle.ist_core.specs.LogTerms.{Each, Distinct, Snapshot, IsBuilding, IsStuck, AreBuilds, no_build, last_build, stuck_build, IsMerge, at_end, from_left, from_right, IsFair, Among}
use Rattle.check_fairness.specs.declared.spares.Spare.{Spare}
use Rattle.check_fairness.specs.Searching.{IsSpare, AreSpare, without_spare, all_spare, is_full, Goes, all_read, leaves_out, goes_on, begins}
use Rattle.check_fairness.proofs.SpareLemmas.{each_before, each_after, each_in, each_out}
use Rattle.check_fairness.specs.declared.lists.BuildingLists.{BuildingLists}
use Rattle.check_fairness.specs.Keeping.{any_room, GoOnFrom}
use Rattle.check_fairness.specs.Knowing.{KnowsLists}
use Rattle.check_fairness.proofs.AnswerLemmas.{among_first}

-- ---- a search that goes one size at a time finds exactly the fair lists. Serves `fairness.rt`.

module _ (P : List ℕ → Type 0) (room : ℕ) where
  -- ---- what is kept, and what is left out

  -- sizes without spare rows can be read as the rest of the list that was begun, and then further
  -- ones
  pub data ReadsOn : List ℕ → Bool → List ℕ → Type 0 where
    reads_none : {rest : List ℕ} {free : Bool} → ReadsOn rest free []
    reads_on : {rest xs : List ℕ} {free : Bool} {x : ℕ} → ReadsOn rest (is_full room rest) xs
        → ReadsOn (x ∷ rest) free (x ∷ xs)
    reads_first : {old xs : List ℕ} {x : ℕ} (rest : List ℕ) → P (x ∷ rest)
        → ReadsOn rest (is_full room rest) xs → ReadsOn old true (x ∷ xs)

  -- what a search finds
  record Found (may : Spare) (rest : List ℕ) (free : Bool) (xs : List ℕ) : Type 0 where
    building : List ℕ
    spare : List ℕ
    merge : IsMerge xs building spare
    reads : ReadsOn rest free building
    few : Each (IsSpare may) spare
    one_each : Distinct spare

  found : (may : Spare) (rest : List ℕ) (free : Bool) (xs : List ℕ) → Goes P room may rest free xs
      → Found may rest free xs
  found may rest free _ all_read = record {
    building = [];
    spare = [];
    merge = at_end;
    reads = reads_none;
    few = tt;
    one_each = tt;
  }
  found may rest free _ (leaves_out {sizes = xs} x s g) =
      let f = found (without_spare may x) rest free xs g in
      let k = each_before may x f.spare f.few in record {
        building = f.building;
        spare = x ∷ f.spare;
        merge = from_right x f.merge;
        reads = f.reads;
        few = (s, k.0);
        one_each = (k.1, f.one_each);
      }
  found may _ free _ (goes_on {rest = r} {sizes = xs} x g) =
      let f = found may r (is_full room r) xs g in record {
        building = x ∷ f.building;
        spare = f.spare;
        merge = from_left x f.merge;
        reads = reads_on f.reads;
        few = f.few;
        one_each = f.one_each;
      }
  found may old _ _ (begins {sizes = xs} x r p g) = let f = found may r (is_full room r) xs g in
      record {
        building = x ∷ f.building;
        spare = f.spare;
        merge = from_left x f.merge;
        reads = reads_first r p f.reads;
        few = f.few;
        one_each = f.one_each;
      }

  finds : (may : Spare) (rest : List ℕ) (free : Bool) (xs building spare : List ℕ)
      → IsMerge xs building spare → ReadsOn rest free building → Each (IsSpare may) spare
      → Distinct spare → Goes P room may rest free xs
  finds may rest free _ _ _ at_end r few one = all_read
  finds may rest free _ building _ (from_right {sizes = xs} {right = ss} x m) r few one =
      leaves_out x few.0 (finds (without_spare may x) rest free xs building ss m r
      (each_after may x ss one.0 few.1) one.1)
  finds may _ free _ _ spare (from_left {sizes = xs} {left = bs} x m) (reads_on {rest = rest} r) few
      one =
      goes_on x (finds may rest (is_full room rest) xs bs spare m r few one)
  finds may old _ _ _ spare (from_left {sizes = xs} {left = bs} x m) (reads_first rest p r) few
      one =
      begins x rest p (finds may rest (is_full room rest) xs bs spare m r few one)

  -- ---- builds, one after another

  reads_anywhere : (old xs : List ℕ) → ReadsOn [] true xs → ReadsOn old true xs
  reads_anywhere old _ reads_none = reads_none
  reads_anywhere old _ (reads_first rest p r) = reads_first rest p r

  reads_prefix : (xs rest ys : List ℕ) (free : Bool) → ReadsOn rest (is_full room rest) ys
      → ReadsOn (xs ++ rest) (is_full room (xs ++ rest)) (xs ++ ys)
  reads_prefix [] rest ys free r = r
  reads_prefix (x ∷ xs) rest ys free r = reads_on (reads_prefix xs rest ys free r)

  module _ (t : Snapshot) (w : t.words ≡ t.next + room) (p : (l : List ℕ) → IsBuilding t l ↔ P l)
    where
      builds_read : (xs : List ℕ) → AreBuilds t xs → ReadsOn [] true xs
      builds_read _ no_build = reads_none
      builds_read _ (last_build {sizes = xs} rest b) = all xs b
        where
          all : (ys : List ℕ) → IsBuilding t (ys ++ rest) → ReadsOn [] true ys
          all [] i = reads_none
          all (y ∷ ys) i = reads_first (ys ++ rest) ((p (y ∷ (ys ++ rest))).0 i)
              (subst (λ zs. ReadsOn (ys ++ rest) (is_full room (ys ++ rest)) zs) (append-nil ys)
              (reads_prefix ys rest [] true reads_none))
      builds_read _ (stuck_build {sizes = xs} {more = ys} s r) = stuck xs s (builds_read ys r)
        where
          stuck : (xs : List ℕ) → IsStuck t xs → ReadsOn [] true ys → ReadsOn [] true (xs ++ ys)
          stuck [] i h = h
          stuck (z ∷ zs) i h =
              reads_first (zs ++ i.next_size ∷ i.rest) ((p (z ∷ (zs ++ i.next_size ∷ i.rest))).0
              i.building) (reads_prefix zs (i.next_size ∷ i.rest) ys true
              (at (nat_lt room i.next_size) (let f = i.no_room in grind (arith, nat_tests))))
            where
              at : (b : Bool) → b ≡ true → ReadsOn (i.next_size ∷ i.rest) b ys
              at true e = reads_anywhere (i.next_size ∷ i.rest) ys h
              at false e = cc

      cut : (done rest : List ℕ) → is_full room rest ≡ true → IsBuilding t (done ++ rest)
          → IsStuck t done
      cut done [] e i = cc
      cut done (s ∷ rest) e i = grind (arith, nat_tests)

      read_after : (xs done rest : List ℕ) (free : Bool) → is_full room rest ≡ free
          → IsBuilding t (done ++ rest) → ReadsOn rest free xs → AreBuilds t (done ++ xs)
      read_after _ done rest free e i reads_none = subst (AreBuilds t) (sym (append-nil done))
          (last_build rest i)
      read_after _ done _ free e i (reads_on {rest = rest} {xs = xs} {x = x} r) =
          subst (AreBuilds t) (append_assoc done (x ∷ []) xs) (read_after xs (done ++ x ∷ []) rest
          (is_full room rest) refl (subst (IsBuilding t) (sym (append_assoc done (x ∷ []) rest))
          i) r)
      read_after _ done old _ e i (reads_first {xs = xs} {x = x} rest q r) =
          stuck_build (cut done old e i) (read_after xs (x ∷ []) rest (is_full room rest) refl
          ((p (x ∷ rest)).1 q) r)

      read_builds : (xs : List ℕ) → ReadsOn [] true xs → AreBuilds t xs
      read_builds _ reads_none = no_build
      read_builds _ (reads_first {xs = xs} {x = x} rest q r) = read_after xs (x ∷ []) rest
          (is_full room rest) refl ((p (x ∷ rest)).1 q) r

      -- the search finds exactly the fair lists
      pub fair_is : (xs : List ℕ) → Goes P room all_spare [] true xs ↔ IsFair t xs
      fair_is xs = (
        (λ g. let f = found all_spare [] true xs g in record {
          building = f.building;
          spare = f.spare;
          merge = f.merge;
          builds = read_builds f.building f.reads;
          few = each_in f.spare f.few;
          one_each = f.one_each;
        }),
        (λ h. finds all_spare [] true xs h.building h.spare h.merge (builds_read h.building h.builds)
            (each_out h.spare h.few) h.one_each),
      )

-- the sizes of only spare rows are fair, whatever the building lists are
pub spare_is_fair : (t : Snapshot) (xs : List ℕ) → AreSpare all_spare xs → IsFair t xs
spare_is_fair t xs h = record {
  building = [];
  spare = xs;
  merge = all_right xs;
  builds = no_build;
  few = each_in xs h.0;
  one_each = h.1;
}
  where
    all_right : (ys : List ℕ) → IsMerge ys [] ys
    all_right [] = at_end
    all_right (y ∷ ys) = from_right y (all_right ys)

-- if there is less room, a list is left for another at least as often
full_less : (room more : ℕ) → room ≤ more → (rest : List ℕ) → is_full more rest ≡ true
    → is_full room rest ≡ true
full_less room more le [] e = cc
full_less room more le (next ∷ rest) e = grind (arith, nat_tests)

-- so sizes that can be read with more room can be read with less
module _ (P : List ℕ → Type 0) (room more : ℕ) (le : room ≤ more) where
  goes_less : (may : Spare) (rest : List ℕ) (free less : Bool) (xs : List ℕ)
      → (free ≡ true → less ≡ true) → Goes P more may rest free xs → Goes P room may rest less xs
  goes_less may rest free less _ f all_read = all_read
  goes_less may rest free less _ f (leaves_out {sizes = xs} x s g) =
      leaves_out x s (goes_less (without_spare may x) rest free less xs f g)
  goes_less may _ free less _ f (goes_on {rest = r} {sizes = xs} x g) =
      goes_on x (goes_less may r (is_full more r) (is_full room r) xs (full_less room more le r) g)
  goes_less may old _ less _ f (begins {sizes = xs} x r p g) =
      subst (λ b. Goes P room may old b (x ∷ xs)) (sym (f refl))
      (begins x r p (goes_less may r (is_full more r) (is_full room r) xs (full_less room more le r)
      g))

-- with more lists, sizes can be read in at least as many ways
module _ (P Q : List ℕ → Type 0) (room : ℕ) (also : (l : List ℕ) → P l → Q l) where
  goes_more : (may : Spare) (rest : List ℕ) (free : Bool) (xs : List ℕ)
      → Goes P room may rest free xs → Goes Q room may rest free xs
  goes_more may rest free _ all_read = all_read
  goes_more may rest free _ (leaves_out {sizes = xs} x s g) =
      leaves_out x s (goes_more (without_spare may x) rest free xs g)
  goes_more may _ free _ (goes_on {rest = r} {sizes = xs} x g) =
      goes_on x (goes_more may r (is_full room r) xs g)
  goes_more may old _ _ (begins {sizes = xs} x r p g) =
      begins x r (also (x ∷ r) p) (goes_more may r (is_full room r) xs g)

-- sizes that go on from what is kept are fair, whatever room there is
pub go_on_fair : (building : BuildingLists) (t : Snapshot) (room caller : ℕ) (sizes : List ℕ)
    → KnowsLists building t → room ≤ any_room → t.words ≡ t.next + room
    → GoOnFrom building.kept (map (λ v. v.items) building.lists.items) caller sizes → IsFair t sizes
go_on_fair building t room caller sizes k le w g =
    let all = map (λ v. v.items) building.lists.items in
    (fair_is (λ l. Among l all) room t w k.lists sizes).0
    (goes_less (λ l. Among l all) room any_room le all_spare [] true true sizes (λ e. e)
    (goes_more (λ l. Among l (take g.kept.lists all)) (λ l. Among l all) any_room
    (among_first g.kept.lists all) all_spare [] true sizes g.read))
