-- A share of a target, read and then built. Serves `parts`.
use Rattle.std.proofs.Common.{le_refl, ◌≡◌, ℕ, ◌+◌, ◌-◌, ◌≤◌, List, [], ◌++◌, length, map, take, drop, Some, Result, Ok, Err, IfOk, IfErr, sym, ap, ◌∙◌, subst, append-nil, arith}
use Rattle.std.proofs.lemmas.List.{take_all, length-take-le, length-drop, length-map, take-map}
use Rattle.ist_core.specs.declared.ports.Full.{Full}
use Rattle.ist_core.specs.LogTerms.{IsBuild, build_whole, build_part, Snapshot}
use Rattle.ist_core.specs.TreeTerms.{PlacedLeaf, HasLeaves, IsFinishedWith}
use Rattle.ist_core.specs.WordTerms.{Leaf, InnerAt, shape, share_from_is}
use Rattle.ist_core.proofs.AllWordLemmas.{part_end-le, part_len-le}
use Rattle.laws_links.proofs.FinishedLemmas.{leaves_stand}
use Rattle.laws_links.proofs.ContentLemmas.{finished_leaves, finished_few}
use Rattle.ist_rule.specs.RuleTerms.{TokenFace, IsSound, now, GoesOnTo}
use Rattle.ist_rule.specs.declared.view.View.{View}
use Rattle.ist_rows.specs.RowTerms.{IsCaller, IsInBuild, HasTaken, HasRefused, sizes_built}
use Rattle.ist_rows.specs.declared.callers.Caller.{Caller}
use Rattle.ist_rows.proofs.BuildingCallLemmas.{at_goes_on}
use Rattle.ist_build.specs.declared.reading.Cursor.{Cursor}
use Rattle.ist_build.specs.Calls.{IsShare, share_whole, share_part, MayBuild, HasKeys}
use Rattle.ist_build.specs.Laying.{ArePlaced, IsLaid, AreNextRows, IsShort, BuiltOn}
use Rattle.ist_build.specs.Reading.{HasRead, read_all}
use Rattle.ist_build.proofs.BuiltLemmas.{loads_built, built_more, short_for_more}
use Rattle.ist_build.proofs.JoinedSubtreeLemmas.{high_more}
use Rattle.ist_build.proofs.PartLeafLemmas.{each_take, each_drop, published_on}
use Rattle.ist_build.proofs.ReadLemmas.{read_is}
use Rattle.ist_build.proofs.ReadingLemmas.{leaves_number}

-- ---- what was read

-- if there are enough leaves, all the words are bases of leaves
pub read_whole : (old new : List ℕ) (from to : Cursor) (leaves : List PlacedLeaf)
    → from.count ≡ 0 → from.skip + length old ≤ length leaves → HasRead old from leaves new to
    → new ≡ map (λ leaf. leaf.base) (take (length old) (drop from.skip leaves))
read_whole old new from to leaves none enough h = let room = length old in
    let begun : take from.count old ≡ [] = ap (λ n. take n old) none in
    let is = read_is room leaves from.skip [] (omega arith) in
    let got : take to.count new ≡ take room
    (map (λ (leaf : PlacedLeaf). leaf.base) (drop from.skip leaves)) =
    h.got ∙ ap (λ g. (read_all room leaves record { skip = from.skip; got = g }).got) begun
    ∙ is ∙ ap (λ n. take n (map (λ (leaf : PlacedLeaf). leaf.base) (drop from.skip leaves)))
    (let q : room - 0 ≡ room = omega arith in q) in let rest = length-drop from.skip leaves in
    let many = length-map (drop from.skip leaves) (λ (leaf : PlacedLeaf). leaf.base) in
    let full = length-take-le room (map (λ (leaf : PlacedLeaf). leaf.base) (drop from.skip leaves))
    (omega arith) in
    let top = length-take-le to.count new h.within in let same = ap length got in
    let size = h.size in sym (take_all to.count new (omega arith)) ∙ got
    ∙ take-map (λ (leaf : PlacedLeaf). leaf.base) room (drop from.skip leaves)

-- they are published
pub read_placed : (v w : View) → GoesOnTo v w → (target : ℕ) (leaves : List PlacedLeaf)
    → HasLeaves (now v).pieces (Some (InnerAt target)) leaves → (start len : ℕ) (new : List ℕ)
    → new ≡ map (λ leaf. leaf.base) (take len (drop start leaves))
    → ArePlaced (now w) new (take len (drop start leaves))
read_placed v w g target leaves has start len new is = record {
  bases_are = sym is;
  published = published_on v w (loads_built v w g) (take len (drop start leaves))
      (each_take (λ leaf. (now v).pieces leaf.base ≡ Some (Leaf leaf.row)) len
      (drop start leaves)
      (each_drop (λ leaf. (now v).pieces leaf.base ≡ Some (Leaf leaf.row)) start leaves
      (leaves_stand (now v).pieces (Some (InnerAt target)) leaves has)));
}

-- a finished target has leaves, no fewer than it is asked for
pub some_leaves : (v : View) → IsSound v → (target least : ℕ) → HasKeys (now v) target least
    → (leaves : List PlacedLeaf) × HasLeaves (now v).pieces (Some (InnerAt target)) leaves
    × (least ≤ length leaves)
some_leaves v s target least h =
    let it = finished_leaves v.start v.words s.lawful.opens v.log s.lawful.enabled target h.k
    h.finished in
    let enough = h.enough in let many = it.2 in (it.0, it.1, omega arith)

-- a target with that many keys has that many leaves
pub enough_leaves : (v : View) → IsSound v → (target least : ℕ) → HasKeys (now v) target least
    → (leaves : List PlacedLeaf) → HasLeaves (now v).pieces (Some (InnerAt target)) leaves
    → least ≤ length leaves
enough_leaves v s target least h leaves has =
    let many = leaves_number v s target h.k h.finished leaves has in let enough = h.enough in
    omega arith

-- ---- what was built, after loads

-- what is laid from a place on is laid from a lower one on
pub laid_lower : (w : View) (number low high word : ℕ) (leaves : List PlacedLeaf) → low ≤ high
    → IsLaid w number high word leaves → IsLaid w number low word leaves
laid_lower w number low high word leaves le h = grind (arith, high_more)

-- the next rows of a build stay the same after loads
pub due_on : (who : Caller) (token : TokenFace) (keys : ℕ) → IsCaller who
    → GoesOnTo who.token.view token.view → AreNextRows who keys → AreNextRows (record who { token = token }) keys
due_on who token keys c g h = record {
  stuck = h.stuck;
  done = h.done;
  rest = h.rest;
  at = at_goes_on who token h.stuck h.done (shape keys ++ h.rest) c g h.at;
}

-- rows taken after loads were taken
pub taken_on : (who : Caller) (token : TokenFace) (sizes : List ℕ) (new : Caller) → IsCaller who
    → GoesOnTo who.token.view token.view → HasTaken (record who { token = token }) sizes new
    → HasTaken who sizes new
taken_on who token sizes new c g t stuck done rest h =
    t stuck done rest (at_goes_on who token stuck done (sizes ++ rest) c g h)

-- a build that was short of words after loads was short of words
pub short_on : (v w : View) → GoesOnTo v w → (words keys : ℕ) (full : Full) (x : View)
    → IsShort w words keys full x → IsShort v words keys full x
short_on v w g words keys full x h =
    short_for_more BuiltOn BuiltOn v w (λ y. built_more v w y (loads_built v w g)) words keys keys
    full x (le_refl keys) h

-- a row over no more than fewer keys is one over no more than many
pub short_more : (v : View) (words few many : ℕ) (full : Full) (w : View) → few ≤ many
    → IsShort v words few full w → IsShort v words many full w
short_more v words few many full w le h = grind (arith, short_for_more)

-- ---- shares

share_build : (k start len : ℕ) → IsShare k start len → 2 ≤ len → IsBuild k (shape len)
share_build k start len (share_whole few first all) two =
    subst (λ n. IsBuild k (shape n)) (sym all) (build_whole (omega arith) few)
share_build k start len (share_part j many less first all) two =
    subst (λ n. IsBuild k (shape n)) (sym all) (build_part j many less)

-- the rows of a share come next
share_at : (who : Caller) (target start len : ℕ) → HasRefused who
    → MayBuild (now who.token.view) target start len → 2 ≤ len
    → IsInBuild who (sizes_built who) [] (shape len ++ [])
share_at who target start len refused m two = record {
  sizes = sym (append-nil (sizes_built who));
  all_stuck = refused;
  building = record {
    rebuild = m.rebuild;
    row = m.row;
    published = m.published;
    started = m.started;
    k = m.k;
    finished = subst (λ n. IsFinishedWith (now who.token.view) n m.k) (sym m.target_is) m.finished;
    build = subst (IsBuild m.k) (sym (append-nil (shape len)))
        (share_build m.k start len m.share two);
  };
}

-- the rows over a share are the next rows of a build that begins
pub share_due : (who : Caller) (target start len : ℕ) → HasRefused who
    → MayBuild (now who.token.view) target start len → 2 ≤ len → AreNextRows who len
share_due who target start len refused m two = record {
  stuck = sizes_built who;
  done = [];
  rest = [];
  at = share_at who target start len refused m two;
}

-- the target has its keys
pub share_keys : (t : Snapshot) (target start len : ℕ) → MayBuild t target start len
    → HasKeys t target (start + len)
share_keys t target start len m = grind (arith, part_end-le)

-- there are few
pub share_few : (v : View) → IsSound v → (target start len : ℕ) → MayBuild (now v) target start len
    → len ≤ 16388
share_few v s target start len m = at m.k m.finished m.share
  where
    at : (k : ℕ) → IsFinishedWith (now v) target k → IsShare k start len → len ≤ 16388
    at k f (share_whole few first all) = let number = share_from_is in omega arith
    at k f (share_part j many less first all) =
        let low = finished_few v.start v.words s.lawful.opens v.log s.lawful.enabled target k f in
        let number = share_from_is in
        let le = part_len-le k j 16384 (omega arith) (omega arith) (omega arith) in omega arith

-- ---- where the caller is then

-- a caller that took the rows over a share has all of them in its build
pub at_share : (who new : Caller) (len : ℕ) (target start : ℕ) → HasRefused who
    → MayBuild (now who.token.view) target start len → HasTaken who (shape len) new → 2 ≤ len
    → IsInBuild new (sizes_built who) (shape len) []
at_share who new len target start refused m taken two =
    taken (sizes_built who) [] [] (share_at who target start len refused m two)

-- the same, for a result that may be an error
pub at_share_ok : (who new : Caller) (len target start : ℕ) (answer : Result ℕ Full) → HasRefused
    who → MayBuild (now who.token.view) target start len
    → IfOk answer (λ word. HasTaken who (shape len) new)
    → IfOk answer (λ word. 2 ≤ len → IsInBuild new (sizes_built who) (shape len) [])
at_share_ok who new len target start (Ok word) refused m taken =
    λ two. at_share who new len target start refused m taken two
at_share_ok who new len target start (Err full) refused m taken = tt

-- ---- results

-- if P implies Q, and an error has P, it has Q
pub err_map : {A B : Type 0} (P Q : B → Type 0) (answer : Result A B) → ((x : B) → P x → Q x)
    → IfErr answer P → IfErr answer Q
err_map P Q (Ok x) f h = tt
err_map P Q (Err e) f h = f e h
