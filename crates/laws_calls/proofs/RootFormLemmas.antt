-- The form of a rebuild's root: over few keys no slot of it is ever Unset, and over many it is a
-- row with one slot for each part. Serves the law on roots.
use Rattle.std.proofs.Common.{List, Some, [], ap, arith, refl, subst, sym, ℕ, ◌<◌, ◌∙◌, ◌∷◌, ◌≡◌, ◌≢◌, ◌≤◌}
use Rattle.std.proofs.lemmas.Option.{same_Some}
use Rattle.ist_core.specs.declared.events.Event.TheVariants.{Draw, Root}
use Rattle.ist_core.specs.declared.events.Event.{Event}
use Rattle.ist_core.specs.declared.lists.Row.{Row}
use Rattle.ist_core.specs.declared.pairs.Pair.{Pair}
use Rattle.ist_core.specs.declared.states.InnerRow.{InnerRow}
use Rattle.ist_core.specs.declared.states.RebuildRow.{RebuildRow}
use Rattle.ist_core.specs.WordTerms.{degree, IsIdeal, of_more, of_none, of_one, Inner, Pieces, Rebuild, with_inners, with_root, InnerAt, Ref, ref_of, unset_word, share_from, in_row, start, finished_word}
use Rattle.ist_core.specs.TreeTerms.{CanRoot, IsRoot, root_top, root_whole, PlacedLeaf, IsFinishedWith}
use Rattle.ist_core.specs.LogTerms.{CanOpen, EachEnabled, state_of, Log, one_event, same_log, Snapshot, bases_of}
use Rattle.ist_core.proofs.AllLogLemmas.{grow_between, inner_there, get_alike}
use Rattle.ist_core.proofs.AllPlaceLemmas.{changed_at-fixed, anchor_free, slot_once}
use Rattle.ist_core.proofs.AllWordLemmas.{same_inner}
use Rattle.laws_links.proofs.ComesLemmas.{rebuild_comes, start_quiet}
use Rattle.laws_links.proofs.FormLemmas.{finished_with_grows}
use Rattle.laws_links.proofs.PassLemmas.{RebuildComes, is_begun, is_drawn, is_rooted, rebuild_was}
use Rattle.laws_links.proofs.NewTreeLemmas.{ideal_whole}
use Rattle.laws_links.proofs.NumberLemmas.{number_is}
use Rattle.laws_stability.proofs.SetLemmas.{set_later}
use Rattle.laws_calls.specs.Rooting.{HasRootForm, IsWholeRow, NamesRowOf}

-- the form of a root, with the keys of its target
record HasForm (t : Snapshot) (r : RebuildRow) : Type 0 where
  k : ℕ
  finished : IsFinishedWith t r.target k
  few : k < share_from → (base : ℕ) → ref_of r.root ≡ Some (InnerAt base) → IsWholeRow t base
  many : share_from ≤ k → NamesRowOf t r.root (degree k)

module _ (pairs : List Pair) (words : ℕ) (opens : CanOpen pairs words) where
  -- a row without an Unset slot never gets one
  row_step : (log : Log) (event : Event) → EachEnabled (start pairs words) (event ∷ log)
      → (base : ℕ)
      → IsWholeRow (state_of pairs words log) base → IsWholeRow (state_of pairs words (event ∷ log))
      base
  row_step log event h base it = let t = state_of pairs words log in
      let u = state_of pairs words (event ∷ log) in
      let on = inner_there t.pieces u.pieces
      (grow_between pairs words log (event ∷ log) h (one_event event same_log)) base it.row
      it.published in
      record {
        row = on.0;
        published = on.1;
        set = λ i e. let was = get_alike on.0.slots it.row.slots i unset_word (sym on.2.slots) e in
            let later = set_later pairs words opens (one_event event same_log) h base i record {
              word = was.0;
              holds = in_row it.row it.published was.1;
              set = λ q. it.set i (was.1 ∙ ap (λ x. Some x) q);
            } in
            later.set (slot_once u base i later.word unset_word
            (anchor_free pairs words (event ∷ log) h)
            later.holds (in_row on.0 on.1 e));
      }

  -- a root keeps its form
  form_step : (log : Log) (event : Event) → EachEnabled (start pairs words) (event ∷ log)
      → (r : RebuildRow) → HasForm (state_of pairs words log) r
      → HasForm (state_of pairs words (event ∷ log)) r
  form_step log event h r f = let t = state_of pairs words log in
      let u = state_of pairs words (event ∷ log) in
      let grow = grow_between pairs words log (event ∷ log) h (one_event event same_log) in record {
        k = f.k;
        finished = finished_with_grows t u grow r.target f.k f.finished;
        few = λ less base e. row_step log event h base (f.few less base e);
        many = λ more. let it = f.many more in
            let on = inner_there t.pieces u.pieces grow it.base it.row it.published in record {
              base = it.base;
              ref_is = it.ref_is;
              row = on.0;
              published = on.1;
              degree_is = on.2.degree ∙ it.degree_is;
            };
      }

  module _ (log : Log) (caller at word : ℕ) (rows : List Row)
      (h : EachEnabled (start pairs words) (Root caller at word rows ∷ log))
      (can : CanRoot (state_of pairs words log) caller at word rows) where
    abbrev u : Snapshot
    u = state_of pairs words (Root caller at word rows ∷ log)

    abbrev qs : Pieces
    qs = with_inners (state_of pairs words log).pieces rows

    -- a row that is put is there after the event
    there : (base : ℕ) (r : InnerRow) → qs base ≡ Some (Inner r) → u.pieces base ≡ Some (Inner r)
    there base r e = changed_at-fixed qs at base (with_root word) (Inner r) e refl

    -- the row of an ideal subtree has no Unset slot
    of_ideal : (ref : Ref) (leaves : List PlacedLeaf) (above : ℕ) (bases : List ℕ)
        → IsIdeal qs ref leaves above bases → (base : ℕ) → ref ≡ InnerAt base → IsWholeRow u base
    of_ideal _ _ _ _ of_none base e = absurd (cc)
    of_ideal _ _ _ _ (of_one same k) base e = absurd (cc)
    of_ideal _ _ _ _ (of_more {base = b} {leaves = leaves} {rows = below} r top under) base e =
        let same : b ≡ base = cc in
        let it = (ideal_whole qs (InnerAt b) leaves _ (b ∷ below)
        (of_more {base = b} {leaves = leaves} {rows = below} r top under)).0 in
        subst (IsWholeRow u) same
        record { row = it.row; published = there b it.row it.published; set = it.set }

    -- a root over few keys is a whole ideal subtree
    by_few : IsRoot qs word can.k can.leaves can.row.target (bases_of rows) → can.k < share_from
        → (base : ℕ) → ref_of word ≡ Some (InnerAt base) → IsWholeRow u base
    by_few (root_whole ref less e ideal) few base f = grind (arith, of_ideal, same_Some)
    by_few (root_top b row all e top unset one) few base f = absurd (omega arith)

    -- a root over many keys is only its top row
    by_many : IsRoot qs word can.k can.leaves can.row.target (bases_of rows) → share_from ≤ can.k
        → NamesRowOf u word (degree can.k)
    by_many (root_whole ref less e ideal) more = absurd (omega arith)
    by_many (root_top b row all e top unset one) more = record {
      base = b;
      ref_is = e;
      row = row;
      published = there b row top.published;
      degree_is = top.degree ∙ ap degree (number_is pairs words opens log h.0 can.row.target
          can.k can.leaves can.finished can.reached);
    }

    -- so the root that the event sets has its form
    form_root : HasForm u (record (can.row) { root = word })
    form_root = record {
      k = can.k;
      finished = finished_with_grows (state_of pairs words log) u
          (grow_between pairs words log (Root caller at word rows ∷ log) h
          (one_event (Root caller at word rows) same_log)) can.row.target can.k can.finished;
      few = λ less base e. by_few can.root less base e;
      many = λ more. by_many can.root more;
    }

  -- each root has it
  root_form : (log : Log) → EachEnabled (start pairs words) log → (at : ℕ) (r : RebuildRow)
      → (state_of pairs words log).pieces at ≡ Some (Rebuild r) → r.root ≢ unset_word
      → HasForm (state_of pairs words log) r
  root_form [] h at r e set = absurd (start_quiet pairs words at (Rebuild r) e)
  root_form (event ∷ log) h at r e set =
      by_origin event h (rebuild_comes pairs words log event h at r e)
      (λ s old has. root_form log h.0 at s old has)
    where
      by_origin : (event : Event) → EachEnabled (start pairs words) (event ∷ log)
          → RebuildComes (start pairs words) log at r event
          → ((s : RebuildRow) → (state_of pairs words log).pieces at ≡ Some (Rebuild s)
          → s.root ≢ unset_word → HasForm (state_of pairs words log) s)
          → HasForm (state_of pairs words (event ∷ log)) r
      by_origin event all (rebuild_was old) before = form_step log event all r (before r old set)
      by_origin _ all (is_begun can s here same) before = absurd (set (ap (λ x. x.root) same))
      by_origin _ all (is_rooted {caller = caller} {word = word} {rows = rows} can same) before =
          subst (λ x. HasForm (state_of pairs words (Root caller at word rows ∷ log)) x) (sym same)
          (form_root log caller at word rows all can)
      by_origin _ all (is_drawn {caller = caller} {part = part} can same) before =
          let has : can.row.root ≢ unset_word = λ none. set (ap (λ x. x.root) same ∙ none) in
          let f = form_step log (Draw caller at part) all can.row
          (before can.row can.published has) in
          subst (λ x. HasForm (state_of pairs words (Draw caller at part ∷ log)) x) (sym same)
          record { k = f.k; finished = f.finished; few = f.few; many = f.many }

  -- each root has its form for the number that its target is finished with
  pub root_has_form : (log : Log) → EachEnabled (start pairs words) log → (at k : ℕ)
      (r : RebuildRow)
      → (state_of pairs words log).pieces at ≡ Some (Rebuild r) → r.root ≢ unset_word
      → IsFinishedWith (state_of pairs words log) r.target k
      → HasRootForm (state_of pairs words log) r.root k
  root_has_form log h at k r e set done = let it = root_form log h at r e set in
      let rows = same_inner ((state_of pairs words log).pieces r.target) it.finished.row done.row
      it.finished.published done.published in
      let same = one_number it.k k (sym it.finished.status ∙ ap (λ x. x.status) rows
      ∙ done.status) in
      subst (λ n. HasRootForm (state_of pairs words log) r.root n) same
      record { few = it.few; many = it.many }
    where
      one_number : (a b : ℕ) → finished_word a ≡ finished_word b → a ≡ b
      one_number a b q = omega arith
