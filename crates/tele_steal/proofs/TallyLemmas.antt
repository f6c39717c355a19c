-- Each step of a pass keeps the rule over the deque and all passes. Serves the calls of the deque.
use Rattle.std.proofs.Common.{◌≡◌, ◌≢◌, ℕ, ◌+◌, ◌-◌, ◌<◌, ◌≤◌, true≢false, List, [], ◌∷◌, ◌++◌, length, set, flat_map, All, IsPermutation, sym, refl, ap, ◌∙◌, subst, ⊎_elim, arith, append-nil, length-append}
use mathlib.Core.Option.{some}
use lib.ListN.{get_elem?}
use lib.Seq.{take-append_seam, drop-append_seam}
use Rattle.std.proofs.lemmas.List.Elements.{All-cons, All-set, All-push, All-take, All-drop}
use Rattle.std.proofs.lemmas.List.Sorted.{IsPermutation-refl, IsPermutation-trans, IsPermutation-sym, IsPermutation-append_right, length_permutation}
use Rattle.std.proofs.lemmas.List.Sums.{sum_by_push}
use Rattle.std.proofs.lemmas.List.Concat.{flat_map-append}
use Rattle.std.proofs.lemmas.List.{nil_from_length}
use Rattle.crossbeam_deque.proofs.Lists.{at_set, at_snoc, set_here, set_else, at_longer}
use Rattle.crossbeam_deque.specs.Tasks.{Pushes, Takes, Finds, Forks, Merges, Learns}
use Rattle.tele_steal.specs.declared.tallies.Tally.{Tally}
use Rattle.tele_steal.specs.Tallies.{of_owner, of_worker, of_none, taken_by, busy_of, IdleTookNothing, IsOwners, BalancesAt, Balances, HasTakenLanes, HasDrawn}
use Rattle.tele_steal.proofs.ShuffleLemmas.{joins_first, joins_second, joins_third, third_to_second, moves}
use Rattle.tele_steal.proofs.ViewLemmas.{seat_within, sum_by-seat, flat_map-seat, others, seat_last, flat_map-none}

module _ {X : Type 0} (Fits : X → Type 0) where
  -- the rule, and the owner, if its pass is known
  pub owned : (port : ℕ) (v : Tally X) (items : List X) (views : List (Tally X)) → IsOwners v
      → Balances Fits items views → get_elem? views port ≡ some v
      → BalancesAt Fits port v items views
  owned port v items views is b at = grind arith

  -- what was put in is as much as what is in the deque, what came back and what workers took
  pub counted : (port : ℕ) (v : Tally X) (items : List X) (views : List (Tally X))
      → BalancesAt Fits port v items views → length v.put
      ≡ length items + (length v.back + length (flat_map taken_by views))
  counted port v items views b = let F = flat_map taken_by views in
      sym (length_permutation v.put (items ++ (v.back ++ F)) b.same)
      ∙ length-append items (v.back ++ F) ∙ ap (λ n. length items + n) (length-append v.back F)

  -- the owner's tally changes, and with it what is in the deque
  pub restated : (port : ℕ) (v w : Tally X) (items more : List X) (views : List (Tally X))
      → BalancesAt Fits port v items views → IsOwners w → w.out ≡ v.out
      → IsPermutation w.put (more ++ (w.back ++ flat_map taken_by views)) → length w.put ≤ 64
      → All Fits more → BalancesAt Fits port w more (set views port w)
  restated port v w items more views b is out same few fit =
      let unbusy : busy_of v ≡ 0 = ap (λ (z : Tally X). z.busy) b.owners in
      let unbusy' : busy_of w ≡ 0 = ap (λ (z : Tally X). z.busy) is in
      let took : taken_by v ≡ [] = ap (λ (z : Tally X). z.taken) b.owners in
      let took' : taken_by w ≡ [] = ap (λ (z : Tally X). z.taken) is in
      let sums = sum_by-seat busy_of views port v w b.seated in
      let flat : flat_map taken_by (set views port w) ≡ flat_map taken_by views
      = flat_map-seat taken_by views port v w b.seated (took' ∙ sym took) in
      record {
        seated = set_here views port w (seat_within views port v b.seated);
        owners = is;
        alone = λ j u e boss. ⊎_elim (λ x. x.0) (λ x. b.alone j u x.1 boss)
            (at_set views port j w u e);
        workers = let kept = b.workers in let s = out in omega arith;
        idle = All-set IdleTookNothing views port w (λ _. took') b.idle;
        same = subst (λ z. IsPermutation w.put (more ++ (w.back ++ z))) (sym flat) same;
        few = few;
        fit = fit;
      }

  -- a deque with only its owner
  pub begins : Balances Fits [] (of_owner 0 [] [] ∷ [])
  begins = record {
    port = 0;
    own = of_owner 0 [] [];
    kept = record {
      seated = refl;
      owners = refl;
      alone = λ j u e boss. seat_last (of_owner 0 [] []) u j e;
      workers = refl;
      idle = All-cons IdleTookNothing (of_owner 0 [] []) [] (λ _. refl)
          (λ k d h. absurd (omega arith));
      same = IsPermutation-refl [];
      few = omega arith;
      fit = λ k d h. absurd (omega arith);
    };
  }

  -- the owner puts one in
  pub puts : (port : ℕ) (v : Tally X) (x : X) → IsOwners v → length v.put < 64 → Fits x
      → Pushes (Balances Fits) port v (x ∷ []) (λ w. w ≡ of_owner v.out (v.put ++ x ∷ []) v.back)
  puts port v x is few fit items views b at =
      let w : Tally X = of_owner v.out (v.put ++ x ∷ []) v.back in
      let o = owned port v items views is b at in
      let more : length (v.put ++ x ∷ []) ≤ 64 = let l =
      length-append v.put (x ∷ []) in omega arith in (
        w,
        record {
          port = port;
          own = w;
          kept = restated port v w items (items ++ x ∷ []) views o refl refl
              (joins_first v.put items (v.back ++ flat_map taken_by views) (x ∷ []) o.same) more
              (All-push Fits items x o.fit fit);
        },
        refl,
      )

  -- if all of two lists fit, all of each fit
  fit_left : (xs ys : List X) → All Fits (xs ++ ys) → All Fits xs
  fit_left xs ys h = subst (All Fits) (take-append_seam xs ys)
      (All-take Fits (length xs) (xs ++ ys) h)

  fit_right : (xs ys : List X) → All Fits (xs ++ ys) → All Fits ys
  fit_right xs ys h = subst (All Fits) (drop-append_seam xs ys)
      (All-drop Fits (length xs) (xs ++ ys) h)

  -- the owner takes some back
  pub draws : (port : ℕ) (v : Tally X) → IsOwners v
      → Takes (Balances Fits) port v 1 (HasDrawn Fits v)
  draws port v is xs items views _ _ b at = let w : Tally X = of_owner v.out v.put (v.back ++ xs) in
      let o = owned port v (xs ++ items) views is b at in
      let n = counted port v (xs ++ items) views o in let back = length-append v.back xs in
      let both = length-append xs items in (
        w,
        record {
          port = port;
          own = w;
          kept = restated port v w (xs ++ items) items views o refl refl
              (joins_second v.put xs items v.back (flat_map taken_by views) o.same) o.few
              (fit_right xs items o.fit);
        },
        record { tally = refl; few = omega arith; fit = fit_left xs items o.fit },
      )

  -- if the deque is empty and no worker has a pass, all came back
  pub all_back : (port : ℕ) (v : Tally X) → IsOwners v
      → Finds (Balances Fits) port v (v.out ≡ 0 → IsPermutation v.put v.back)
  all_back port v is views b at none = let o = owned port v [] views is b at in
      let flat : flat_map taken_by views ≡ []
      = flat_map-none taken_by busy_of views (o.workers ∙ none) o.idle in
      subst (λ z. IsPermutation v.put z) (append-nil v.back)
      (subst (λ z. IsPermutation v.put (v.back ++ z)) flat o.same)

  -- at most as much came back as was put in
  pub counts : (port : ℕ) (v : Tally X) → IsOwners v
      → Learns (Balances Fits) port v (λ items. length v.back ≤ length v.put)
  counts port v is items views b at =
      let n = counted port v items views (owned port v items views is b at) in omega arith

  -- the pass of a worker isn't the owner's
  owner_apart : (port : ℕ) (v : Tally X) (items : List X) (views : List (Tally X))
      → v ≡ of_worker v.taken → (b : Balances Fits items views) → get_elem? views port ≡ some v
      → b.port ≢ port
  owner_apart port v items views is b at e = grind arith

  -- a worker takes some
  pub takes : (port : ℕ) (v : Tally X) → v ≡ of_worker v.taken
      → Takes (Balances Fits) port v 1 (HasTakenLanes Fits v)
  takes port v is xs items views _ _ b at = let w : Tally X = of_worker (v.taken ++ xs) in
      let o = b.kept in let mine = others taken_by views port v at in
      let F = flat_map taken_by views in let F' = flat_map taken_by (set views port w) in
      let apart : b.port ≢ port = owner_apart port v (xs ++ items) views is b at in
      let moved : IsPermutation (xs ++ F) F' =
      moves v.taken xs F F' mine.rest mine.before (mine.after w) in
      let sums = sum_by-seat busy_of views port v w at in
      let busy : busy_of v ≡ 1 = ap (λ (z : Tally X). z.busy) is in let all = o.workers in
      let n = counted b.port b.own (xs ++ items) views o in
      let grown = length_permutation (xs ++ F) F' moved in
      let held = length_permutation F' (w.taken ++ mine.rest) (mine.after w) in
      let parts = length-append w.taken mine.rest in let two = length-append xs F in
      let one = length-append xs items in
      let limit = o.few in (
        w,
        record {
          port = b.port;
          own = b.own;
          kept = record {
            seated = set_else views port b.port w apart ∙ o.seated;
            owners = o.owners;
            alone = λ j u e boss. ⊎_elim
                (λ x. absurd (true≢false (sym boss ∙ ap (λ (z : Tally X). z.owner) (sym x.1))))
                (λ x. o.alone j u x.1 boss) (at_set views port j w u e);
            workers = omega arith;
            idle = All-set IdleTookNothing views port w (λ h. absurd (omega arith)) o.idle;
            same = joins_third b.own.put xs items b.own.back F F' moved o.same;
            few = o.few;
            fit = fit_right xs items o.fit;
          };
        },
        record { tally = refl; few = omega arith; fit = fit_left xs items o.fit },
      )

  -- all that was put in came back: nothing is left in the deque or with a worker
  pub settled : (port : ℕ) (v : Tally X) (items : List X) (views : List (Tally X))
      → BalancesAt Fits port v items views → IsPermutation v.put v.back
      → (items ≡ []) × (flat_map taken_by views ≡ [])
  settled port v items views b back = let F = flat_map taken_by views in
      let n = counted port v items views b in let m = length_permutation v.put v.back back in
      (nil_from_length items (omega (arith, n, m)), nil_from_length F (omega (arith, n, m)))

  -- the owner makes the pass of a worker, when all came back
  pub hires : (port : ℕ) (v : Tally X) → IsOwners v → IsPermutation v.put v.back
      → Forks (Balances Fits) port v (of_owner (v.out + 1) [] []) (of_worker [])
  hires port v is back items views b at = let o = owned port v items views is b at in
      let w : Tally X = of_owner (v.out + 1) [] [] in
      let none = settled port v items views o back in let vs = set views port w in
      let long = seat_within views port v at in
      let unbusy : busy_of v ≡ 0 = ap (λ (z : Tally X). z.busy) is in
      let took : taken_by v ≡ [] = ap (λ (z : Tally X). z.taken) is in
      let sums = sum_by-seat busy_of views port v w at in
      let one = sum_by_push busy_of vs (of_worker []) in let all = o.workers in
      let flat : flat_map taken_by (vs ++ of_worker [] ∷ []) ≡ []
      = flat_map-append taken_by vs (of_worker [] ∷ []) ∙ append-nil (flat_map taken_by vs)
      ∙ flat_map-seat taken_by views port v w at (sym took) ∙ none.1 in
      record {
        port = port;
        own = w;
        kept = record {
          seated = at_longer vs (of_worker [] ∷ []) port w (set_here views port w long);
          owners = refl;
          alone = λ j u e boss. ⊎_elim
              (λ x. ⊎_elim (λ y. y.0) (λ y. o.alone j u y.1 boss) (at_set views port j w u x))
              (λ y. absurd (true≢false (sym boss ∙ ap (λ (z : Tally X). z.owner) (sym y))))
              (at_snoc vs (of_worker []) u j e);
          workers = omega (arith, unbusy, sums, one, all);
          idle = All-push IdleTookNothing vs (of_worker [])
              (All-set IdleTookNothing views port w (λ _. refl) o.idle) (λ _. refl);
          same = subst (λ z. IsPermutation [] (z
              ++ ([] ++ flat_map taken_by (vs ++ of_worker [] ∷ [])))) (sym none.0)
              (subst (λ z. IsPermutation [] z) (sym flat) (IsPermutation-refl []));
          few = omega arith;
          fit = o.fit;
        };
      }

  -- the owner takes back the pass of a worker
  pub dismisses : (port : ℕ) (v : Tally X) (other : ℕ) (u : Tally X) → IsOwners v
      → u ≡ of_worker u.taken → Merges (Balances Fits) port v other u
      (of_owner (v.out - 1) v.put (v.back ++ u.taken)) of_none
  dismisses port v other u is worker items views b at apart at' =
      let o = owned port v items views is b at in
      let w : Tally X = of_owner (v.out - 1) v.put (v.back ++ u.taken) in
      let vs = set views port w in
      let there : get_elem? views other ≡ some u = sym (set_else views port other w apart) ∙ at' in
      let long = seat_within views port v at in
      let unbusy : busy_of v ≡ 0 = ap (λ (z : Tally X). z.busy) is in
      let busy : busy_of u ≡ 1 = ap (λ (z : Tally X). z.busy) worker in
      let took : taken_by v ≡ [] = ap (λ (z : Tally X). z.taken) is in
      let sums = sum_by-seat busy_of views port v w at in
      let sums' = sum_by-seat busy_of vs other u of_none at' in let all = o.workers in
      let mine = others taken_by vs other u at' in let F = flat_map taken_by views in
      let F' = flat_map taken_by (set vs other of_none) in
      let flat : flat_map taken_by vs ≡ F = flat_map-seat taken_by views port v w at (sym took) in
      let parts : IsPermutation F (u.taken ++ F') =
      subst (λ z. IsPermutation z (u.taken ++ F')) flat
      (IsPermutation-trans (flat_map taken_by vs) (u.taken ++ mine.rest) (u.taken ++ F') mine.before
      (IsPermutation-append_right u.taken mine.rest F'
      (IsPermutation-sym F' mine.rest (mine.after of_none)))) in
      record {
        port = port;
        own = w;
        kept = record {
          seated = set_else vs other port of_none (λ e. apart (sym e)) ∙ set_here views port w long;
          owners = refl;
          alone = λ j z e boss. ⊎_elim
              (λ x. absurd (true≢false (sym boss ∙ ap (λ (y : Tally X). y.owner) (sym x.1))))
              (λ x. ⊎_elim (λ y. y.0) (λ y. o.alone j z y.1 boss) (at_set views port j w z x.1))
              (at_set vs other j of_none z e);
          workers = omega (arith, unbusy, busy, sums, sums', all);
          idle = All-set IdleTookNothing vs other of_none (λ _. refl)
              (All-set IdleTookNothing views port w (λ _. refl) o.idle);
          same = third_to_second v.put items v.back F F' u.taken parts o.same;
          few = o.few;
          fit = o.fit;
        };
      }
