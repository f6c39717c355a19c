-- Lanes that were run, as the runs of lanes say. Serves the worker.
use Rattle.std.proofs.Common.{◌≡◌, ℕ, ◌+◌, List, [], ◌∷◌, ◌++◌, length, map, drop, All, get_or, sym, refl, ap, ◌∙◌, subst, arith, take, take-append-drop, drop_of_length-le, take_all, append-nil, length-append, append_assoc, IsPermutation}
use Rattle.std.proofs.lemmas.List.Sorted.{IsPermutation-refl}
use Rattle.tele_steal.proofs.ShuffleLemmas.{one_over}
use lib.Seq.{take-append_seam, drop-append_seam}
use Rattle.std.proofs.lemmas.List.{map-append, length-map}
use Rattle.std.proofs.lemmas.List.Elements.{All-append, All-head, All-push, All-take, All-drop}
use Rattle.tele_lanes.specs.declared.lanes.Lane.{Lane}
use Rattle.tele_steal.specs.Runs.{ticket}

module _ {P T : Type 0} (tie : P → T) where
  -- lanes with the same numbers, tasks and ties have the same tickets
  pub same_tickets : (xs ys : List (Lane P T)) → map (λ l. l.number) ys ≡ map (λ l. l.number) xs
      → map (λ l. l.tasks) ys ≡ map (λ l. l.tasks) xs
      → map (λ l. tie l.port) ys ≡ map (λ l. tie l.port) xs
      → map (ticket tie) ys ≡ map (ticket tie) xs
  same_tickets [] [] a b c = refl
  same_tickets [] (y ∷ ys) a b c = absurd (let n = ap length a in omega (arith, n))
  same_tickets (x ∷ xs) [] a b c = absurd (let n = ap length a in omega (arith, n))
  same_tickets (x ∷ xs) (y ∷ ys) a b c =
      let number : y.number ≡ x.number = ap (λ z. get_or z 0 0) a in
      let tasks : y.tasks ≡ x.tasks = ap (λ z. get_or z 0 y.tasks) b in
      let tied : tie y.port ≡ tie x.port = ap (λ z. get_or z 0 (tie y.port)) c in
      let rest = same_tickets xs ys (ap (drop 1) a) (ap (drop 1) b) (ap (drop 1) c) in
      let first : ticket tie y ≡ ticket tie x =
      λ i. record { number = number i; tasks = tasks i; tie = tied i } in (λ i. first i ∷ rest i)

-- a list whose part before a place stayed, and whose part from that place on fits after it replaced
-- the old one
pub put_back : {X : Type 0} (Fits : X → Type 0) (before : List X) (x : X) (old new : List X)
    (at n : ℕ)
    → at ≡ length before → old ≡ before ++ x ∷ [] → length new ≡ length old → n ≡ length old
    → take at new ≡ take at old → All Fits before → All Fits (drop at new)
    → All Fits (take n (new ++ drop (length new) old))
put_back Fits before x old new at n from is long size kept fit rest =
    let front : take at new ≡ before =
    kept ∙ ap (take at) is ∙ ap (λ k. take k (before ++ x ∷ [])) from
    ∙ take-append_seam before (x ∷ []) in
    let all : All Fits new = subst (All Fits) (take-append-drop at new)
    (All-append Fits (take at new) (drop at new) (subst (All Fits) (sym front) fit) rest) in
    let none : drop (length new) old ≡ [] = drop_of_length-le old (omega (arith, long)) in
    let whole : take n (new ++ drop (length new) old) ≡ new =
    ap (λ z. take n (new ++ z)) none ∙ ap (take n) (append-nil new)
    ∙ take_all n new (omega (arith, long, size)) in
    subst (All Fits) (sym whole) all

-- what a vector has after a write to all of it
pub written_back : {X : Type 0} (n : ℕ) (new old : List X) → n ≡ length old
    → length new ≡ length old → take n (new ++ drop (length new) old) ≡ new
written_back n new old long same =
    ap (λ z. take n (new ++ z)) (drop_of_length-le old (omega (arith, same)))
    ∙ ap (take n) (append-nil new) ∙ take_all n new (omega (arith, long, same))

-- what is true of all is true of a first part
pub All-rest : {X : Type 0} (Fits : X → Type 0) (xs ys zs : List X) → xs ≡ ys ++ zs → All Fits xs
    → All Fits ys
All-rest Fits xs ys zs is all =
    subst (All Fits) (take-append_seam ys zs) (All-take Fits (length ys) (ys ++ zs)
    (subst (All Fits) is all))

-- what is true of all is true of the last
pub All-last : {X : Type 0} (Fits : X → Type 0) (xs ys : List X) (x : X) → xs ≡ ys ++ x ∷ []
    → All Fits xs → Fits x
All-last Fits xs ys x is all =
    All-head Fits x [] (subst (All Fits) (drop-append_seam ys (x ∷ []))
    (All-drop Fits (length ys) (ys ++ x ∷ []) (subst (All Fits) is all)))

-- what is true of all and of one more is true of all together
pub All-more : {X : Type 0} (Fits : X → Type 0) (xs ys : List X) (x : X) → ys ≡ xs ++ x ∷ []
    → All Fits xs → Fits x → All Fits ys
All-more Fits xs ys x is all one = subst (All Fits) (sym is) (All-push Fits xs x all one)

-- the length of a list with one more element
pub length_more : {X : Type 0} (xs ys : List X) (x : X) → ys ≡ xs ++ x ∷ []
    → length ys ≡ length xs + 1
length_more xs ys x is = ap length is ∙ length-append xs (x ∷ [])

-- lists of which f makes as many elements are as long
pub same_length : {X Y : Type 0} (f : X → Y) (xs ys : List X) (more : List Y)
    → map f ys ≡ map f xs ++ more → length ys ≡ length xs + length more
same_length f xs ys more is = sym (length-map ys f) ∙ ap length is ∙ length-append (map f xs) more
    ∙ ap (λ n. n + length more) (length-map xs f)

-- the images in a list that grew, after a front, are the images of all that was added
pub following : {X Y Z : Type 0} (f : X → Y) (g : Z → Y) (xs ys : List X) (front : List Y)
    (old more new : List Z)
    → map f ys ≡ map f xs ++ map g more → map f xs ≡ front ++ map g old → new ≡ old ++ more
    → map f ys ≡ front ++ map g new
following f g xs ys front old more new now before is =
    now ∙ ap (λ z. z ++ map g more) before ∙ append_assoc front (map g old) (map g more)
    ∙ ap (λ z. front ++ z) (sym (ap (map g) is ∙ map-append g old more))

-- one more of the kept lanes was run
pub run_step : {X Y : Type 0} (f : X → Y) (all : List Y) (lanes more kept rest : List X) (x : X)
    → IsPermutation all (map f lanes ++ map f kept) → kept ≡ rest ++ x ∷ []
    → map f more ≡ map f lanes ++ f x ∷ [] → IsPermutation all (map f more ++ map f rest)
run_step f all lanes more kept rest x same is now =
    grind (arith, one_over, map-append, IsPermutation-refl)
