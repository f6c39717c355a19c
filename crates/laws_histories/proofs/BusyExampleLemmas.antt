-- One put at the start of a log is lawful, each time anew. Serves `examples`.
use Rattle.std.proofs.Common.{◌≡◌, ℕ, ◌+◌, ◌≤◌, ◌<◌, ◌⊎◌, true, List, [], ◌∷◌, ◌++◌, Some, refl, inl, inr, subst, sym, arith, ⊎_elim}
use Rattle.ist_core.specs.declared.lists.HeldRow.{HeldRow}
use Rattle.ist_core.specs.declared.events.Event.TheVariants.{Reserve, Resolve}
use Rattle.ist_core.specs.WordTerms.{LeafAt, ChangeAt, ref_of, word_of, Inner, Change, in_anchor, in_row, row_is, of_anchor, of_row}
use Rattle.ist_core.specs.LogTerms.{Among, Snapshot, Log, state, CanReserve, EachEnabled}
use Rattle.ist_core.specs.TreeTerms.{IsChild, at_anchor, below, Leads, Chain, no_row, one_row, from_anchor, down, CanInstall, same_key, a_put, CanOkay, CanDecide, CanResolve, CanCount}
use Rattle.ist_core.proofs.AllLogLemmas.{NotRefused, NoneDecidedNo}
use Rattle.laws_histories.specs.ExampleRebuilds.{again_rows, again_reserved, again_installed, again_okayed, again_decided, again_resolved, put_again}
use Rattle.laws_histories.proofs.ReadyExampleLemmas.{leaf_fair, put_fair, three, again, ten, left, top, IsBeforePut}

-- the leaf may be reserved
leaf_reserved : (log : Log) (leaf from old count : ℕ)
    → IsBeforePut (state three log) leaf from old count
    → leaf + 11 ≤ 200 → CanReserve (state three log) 0 leaf 2
leaf_reserved log leaf from old count ready room = grind (arith, three, leaf_fair)

-- the change may be reserved
change_reserved : (log : Log) (leaf from old count : ℕ)
    → IsBeforePut (state three log) leaf from old count → leaf + 11 ≤ 200
    → CanReserve (state three (Reserve 0 leaf 2 ∷ log)) 0 (leaf + 2) 9
change_reserved log leaf from old count ready room = grind (arith, three, put_fair)

-- the top row hangs below the anchor
top_hangs : (t : Snapshot) → t.anchor ≡ 34 → IsChild t 2 0 4
unfolding ref_of
top_hangs t anchor = record { word = 34; holds = in_anchor refl refl anchor; reads = refl }

-- the left row hangs below the top row
left_hangs : (t : Snapshot) → t.pieces 4 ≡ Some (Inner (top 0 90)) → IsChild t 4 0 11
unfolding ref_of
left_hangs t top_row = record { word = 90; holds = in_row (top 0 90) top_row refl; reads = refl }

-- the key 10 leads to the left row
leads_left : (t : Snapshot) → t.anchor ≡ 34 → t.pieces 4 ≡ Some (Inner (top 0 90)) → Leads t 10 11
leads_left t anchor top_row = down 0 (down 0 from_anchor (of_anchor refl refl) (top_hangs t anchor))
    (of_row (top 0 90) top_row refl) (left_hangs t top_row)

-- the chain of the left row
left_chain : (t : Snapshot) → t.anchor ≡ 34 → t.pieces 4 ≡ Some (Inner (top 0 90))
    → Chain t 11 (4 ∷ 11 ∷ [])
left_chain t anchor top_row =
    one_row 0 (one_row 0 no_row (top_hangs t anchor)) (left_hangs t top_row)

-- the put may be installed
installed : (log : Log) (leaf from to old count : ℕ)
    → IsBeforePut (state three log) leaf from old count → ref_of to ≡ Some (LeafAt leaf)
    → NoneDecidedNo (state three log).pieces
    → CanInstall three (again_reserved leaf (leaf + 2) log) 0 (leaf + 2)
    (again_rows leaf (leaf + 2) from to)
unfolding NotRefused
installed log leaf from to old count ready to_is none =
    let t = state three (again_reserved leaf (leaf + 2) log) in
    let callers : t.callers ≡ 2 = ready.callers in record {
      known = omega arith;
      change = again from to 0;
      fresh = record { base = leaf; words = 10 ∷ 1 ∷ [] } ∷ [];
      rows_are = refl;
      held = subst (λ held. HoldIn held leaf) (sym ready.held) (inr (inl refl), (inl refl, tt));
      owned = refl;
      unset = refl;
      in_slot = in_row (left 0 count from) ready.left_row refl;
      linked =
          inl (below 0 (below 0 at_anchor (top_hangs t ready.anchor)) (left_hangs t ready.top_row));
      unrefused = λ base earlier e _ _. none base (Change earlier) e;
      fits = a_put record {
        kind = refl;
        by_key = record {
          led = inl (leads_left t ready.anchor ready.top_row);
          index = of_row (left 0 count from) ready.left_row refl;
        };
        from = same_key old ready.old_is record {
          row = ten;
          published = ready.old_leaf;
          key_is = refl;
        };
        leaf = leaf;
        to = to_is;
        fresh_are = refl;
      };
    }
  where
    HoldIn : List HeldRow → ℕ → Type 0
    HoldIn held leaf =
        let all = (held ++ record { caller = 0; base = leaf; size = 2 } ∷ [])
        ++ record { caller = 0; base = leaf + 2; size = 9 } ∷ []
        in
        Among record { caller = 0; base = leaf + 2; size = 9 } all
        × (Among record { caller = 0; base = leaf; size = 2 } all × Unit {0})

-- what the log of a put shows on its way
pub record IsMade (log : Log) (leaf from to count : ℕ) : Type 0 where
  pub change : (state three (again_installed leaf (leaf + 2) from to log)).pieces (leaf + 2)
      ≡ Some (Change (again from to 0))
  pub row : (state three (again_installed leaf (leaf + 2) from to log)).pieces 11
      ≡ Some (Inner (left 0 count (word_of (ChangeAt (leaf + 2)))))
  pub decided : (state three (again_decided leaf (leaf + 2) from to log)).pieces (leaf + 2)
      ≡ Some (Change (again from to 1))
  pub stands : (state three (again_decided leaf (leaf + 2) from to log)).pieces 11
      ≡ Some (Inner (left 0 count (word_of (ChangeAt (leaf + 2)))))
  pub resolved : (state three (again_resolved leaf (leaf + 2) from to log)).pieces (leaf + 2)
      ≡ Some (Change (again from to 1))
  pub callers : (state three (again_resolved leaf (leaf + 2) from to log)).callers ≡ 2

-- what the log of a put shows, part by part
pub put_made : (log : Log) (leaf from to count : ℕ)
    → (state three (again_installed leaf (leaf + 2) from to log)).pieces (leaf + 2) ≡ Some (Change (again from to 0))
    → (state three (again_installed leaf (leaf + 2) from to log)).pieces 11 ≡ Some (Inner (left 0 count (word_of (ChangeAt (leaf + 2)))))
    → (state three (again_decided leaf (leaf + 2) from to log)).pieces (leaf + 2) ≡ Some (Change (again from to 1))
    → (state three (again_decided leaf (leaf + 2) from to log)).pieces 11 ≡ Some (Inner (left 0 count (word_of (ChangeAt (leaf + 2)))))
    → (state three (again_resolved leaf (leaf + 2) from to log)).pieces (leaf + 2) ≡ Some (Change (again from to 1))
    → (state three (again_resolved leaf (leaf + 2) from to log)).callers ≡ 2
    → IsMade log leaf from to count
put_made log leaf from to count a b c d e f = grind arith

-- the left row is seen open
okayed : (log : Log) (leaf from to old count : ℕ)
    → IsBeforePut (state three log) leaf from old count → IsMade log leaf from to count
    → CanOkay (state three (again_installed leaf (leaf + 2) from to log)) 0 (leaf + 2)
okayed log leaf from to old count ready made = record {
  known = subst (λ n. 0 < n) (sym ready.callers) (omega arith);
  change = again from to 0;
  pending = record { published = made.change; unset = refl };
  node_open = row_is (left 0 count (word_of (ChangeAt (leaf + 2)))) made.row refl;
}

-- the put may be decided yes
decided : (log : Log) (leaf from to old count : ℕ)
    → IsBeforePut (state three log) leaf from old count → IsMade log leaf from to count
    → CanDecide (state three (again_okayed leaf (leaf + 2) from to log))
    (again_okayed leaf (leaf + 2) from to log) 0 (leaf + 2) true
decided log leaf from to old count ready made = record {
  known = subst (λ n. 0 < n) (sym ready.callers) (omega arith);
  change = again from to 0;
  pending = record { published = made.change; unset = refl };
  outcome = inl refl;
}

-- the change may leave its slot
resolved : (log : Log) (leaf from to old count : ℕ)
    → IsBeforePut (state three log) leaf from old count → IsMade log leaf from to count
    → CanResolve (state three (again_decided leaf (leaf + 2) from to log)) 0 (leaf + 2)
resolved log leaf from to old count ready made = record {
  known = subst (λ n. 0 < n) (sym ready.callers) (omega arith);
  change = again from to 1;
  published = made.decided;
  decided = λ e. omega arith;
  in_slot = in_row (left 0 count (word_of (ChangeAt (leaf + 2)))) made.stands refl;
}

-- the put may be counted at the left row
counted_once : (log : Log) (leaf from to old count : ℕ)
    → IsBeforePut (state three log) leaf from old count → IsMade log leaf from to count
    → CanCount three (again_resolved leaf (leaf + 2) from to log) 0 11
counted_once log leaf from to old count ready made = record {
  known = subst (λ n. 0 < n) (sym made.callers) (omega arith);
  later = Resolve 0 (leaf + 2) ∷ [];
  by = 0;
  base = leaf + 2;
  earlier = again_okayed leaf (leaf + 2) from to log;
  log_is = refl;
  update = record {
    change = again from to 1;
    published = made.resolved;
    owned = refl;
    update = inl refl;
  };
  last = ⊎_elim (λ k. k) (λ k. k);
  uncounted = ⊎_elim (λ k. k) (λ k. k);
  on_chain = let chain = left_chain _ ready.anchor ready.top_row in
      inr (inr (inr (inr (inl (4 ∷ 11 ∷ [], chain, inr (inl refl))))));
}

-- a put is enabled, event by event
pub put_enabled : (log : Log) (leaf from to old count : ℕ)
    → IsBeforePut (state three log) leaf from old count
    → IsMade log leaf from to count → leaf + 11 ≤ 200 → ref_of to ≡ Some (LeafAt leaf)
    → NoneDecidedNo (state three log).pieces → EachEnabled three log
    → EachEnabled three (put_again leaf (leaf + 2) from to log)
put_enabled log leaf from to old count ready made room to_is none enabled = (
  (
    (
      (
        (
          (
            (enabled, leaf_reserved log leaf from old count ready room),
            change_reserved log leaf from old count ready room,
          ),
          installed log leaf from to old count ready to_is none,
        ),
        okayed log leaf from to old count ready made,
      ),
      decided log leaf from to old count ready made,
    ),
    resolved log leaf from to old count ready made,
  ),
  counted_once log leaf from to old count ready made,
)
