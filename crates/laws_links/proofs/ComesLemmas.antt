-- Where each change, each rebuild and each status after an event comes from, by cases on what the
-- event does. Serves each conjunct on changes and rebuilds.
use Rattle.std.proofs.Common.{List, Some, ap, refl, subst, sym, ℕ, ◌+◌, ◌∙◌, ◌∷◌, ◌≡◌, length, arith}
use Rattle.ist_core.specs.declared.events.Event.{Event}
use Rattle.ist_core.specs.declared.events.Event.TheVariants.{Install}
use Rattle.ist_core.specs.declared.pairs.Pair.{Pair}
use Rattle.ist_core.specs.declared.states.ChangeRow.{ChangeRow}
use Rattle.ist_core.specs.declared.states.InnerRow.{InnerRow}
use Rattle.ist_core.specs.declared.states.RebuildRow.{RebuildRow}
use Rattle.ist_core.specs.LogTerms.{decision_word, side_of, EachEnabled, state_of, Log, Each}
use Rattle.ist_core.specs.WordTerms.{Change, Inner, Leaf, Piece, Rebuild, counted, drawn, with_decision, with_root, with_slot, ChangeAt, word_of, start, finished_word, first_row, rows_from, rows_within, open_word}
use Rattle.ist_core.proofs.AllEventLemmas.{Born}
use Rattle.laws_links.proofs.PassLemmas.{ChangeComes, KeepsStatuses, RebuildComes, StatusComes, change-counted, change-drawn, change-with_root, change-with_slot, change-with_status, change_was, finished_now, is_begun, is_decided, is_drawn, is_installed, is_new, is_rooted, marked_now, rebuild-counted, rebuild-with_decision, rebuild-with_slot, rebuild-with_status, rebuild_was, status-counted, status-drawn, status-with_decision, status-with_root, status-with_slot, status-with_status, status_was}
use Rattle.laws_links.proofs.PublishedLemmas.{born_open, installed_change, installed_rebuild, published_inner}
use Rattle.laws_links.proofs.RowEventLemmas.{RowCame, BecameBy, as_it_was, by_count, by_decide, by_draw, by_finish, by_install, by_mark, by_place, by_resolve, by_root, came, from_new, from_old}
use Rattle.ist_core.proofs.AllWordLemmas.{same_value, each-among, among-pieces_of}
use Rattle.ist_core.proofs.AllPlaceLemmas.{rows_have}
use Rattle.ist_core.proofs.BornLemmas as born

module _ (pairs : List Pair) (words : ℕ) where
  -- how a change that was there before became what it is
  turned_change : (log : Log) (event : Event) (base : ℕ) (x : ChangeRow) (p : Piece)
      → (state_of pairs words log).pieces base ≡ Some p
      → BecameBy (start pairs words) log base p (Change x) event
      → ChangeComes (start pairs words) log base x event
  turned_change log event base x p old (as_it_was is) = change_was (old ∙ ap (λ y. Some y) (sym is))
  turned_change log _ base x p old (by_install {change = change} h here is) = change_was
      (old ∙ ap (λ y. Some y) (change-with_slot h.change.index (word_of (ChangeAt change)) p x (sym is)))
  turned_change log _ base x p old (by_resolve h here is) = change_was
      (old ∙ ap (λ y. Some y) (change-with_slot h.change.index (side_of h.change) p x (sym is)))
  turned_change log _ base x p old (by_place {i = i} {word = word} h here is) =
      change_was (old ∙ ap (λ y. Some y) (change-with_slot i word p x (sym is)))
  turned_change log _ base x p old (by_decide {said = said} h is) = is_decided h
      (decided p (sym is) (same_value ((state_of pairs words log).pieces base) p (Change h.change) old h.pending.published))
    where
      decided : (p : Piece) → with_decision (decision_word said) p ≡ Change x → p ≡ Change h.change
          → x ≡ record (h.change) { decision = decision_word said }
      decided (Change r) e same = grind arith
      decided (Leaf r) e same = absurd (cc)
      decided (Inner r) e same = absurd (cc)
      decided (Rebuild r) e same = absurd (cc)
  turned_change log _ base x p old (by_count h is) = grind (arith, change_was, change-counted)
  turned_change log _ base x p old (by_mark h is) = grind (arith, change_was, change-with_status)
  turned_change log _ base x p old (by_finish {keys = keys} h is) =
      change_was (old ∙ ap (λ y. Some y) (change-with_status (finished_word keys) p x (sym is)))
  turned_change log _ base x p old (by_root {word = word} h is) =
      change_was (old ∙ ap (λ y. Some y) (change-with_root word p x (sym is)))
  turned_change log _ base x p old (by_draw h is) = grind (arith, change_was, change-drawn)

  -- how the event publishes a change
  born_change : (log : Log) (event : Event) (base : ℕ) (x : ChangeRow)
      → Born (start pairs words) log base (Change x) event
      → ChangeComes (start pairs words) log base x event
  born_change log _ base x
      (born.by_install {caller = caller} {change = change} {rows = rows} h new) =
      let it = installed_change (start pairs words) log change h.change h.fresh h.fits base x new in
      subst (λ b. ChangeComes (start pairs words) log b x (Install caller change rows)) (sym it.0)
      (is_installed h it.1)
  born_change log _ base x (born.by_root {rows = rows} i e) =
      grind (arith, change_was, published_inner)
  born_change log _ base x (born.by_place {rows = rows} i e) =
      grind (arith, change_was, published_inner)

  -- where each change after an enabled event comes from
  pub change_comes : (log : Log) (event : Event) → EachEnabled (start pairs words) (event ∷ log)
      → (base : ℕ) (x : ChangeRow)
      → (state_of pairs words (event ∷ log)).pieces base ≡ Some (Change x)
      → ChangeComes (start pairs words) log base x event
  change_comes log event h base x e =
      grind (arith, came, RowCame, ChangeComes, from_old, turned_change, from_new, born_change)

  -- how a rebuild that was there before became what it is
  turned_rebuild : (log : Log) (event : Event) (base : ℕ) (x : RebuildRow) (p : Piece)
      → (state_of pairs words log).pieces base ≡ Some p
      → BecameBy (start pairs words) log base p (Rebuild x) event
      → RebuildComes (start pairs words) log base x event
  turned_rebuild log event base x p old (as_it_was is) = grind (arith, rebuild_was)
  turned_rebuild log _ base x p old (by_install {change = change} h here is) = rebuild_was
      (old ∙ ap (λ y. Some y) (rebuild-with_slot h.change.index (word_of (ChangeAt change)) p x (sym is)))
  turned_rebuild log _ base x p old (by_resolve h here is) = rebuild_was
      (old ∙ ap (λ y. Some y) (rebuild-with_slot h.change.index (side_of h.change) p x (sym is)))
  turned_rebuild log _ base x p old (by_place {i = i} {word = word} h here is) =
      rebuild_was (old ∙ ap (λ y. Some y) (rebuild-with_slot i word p x (sym is)))
  turned_rebuild log _ base x p old (by_decide {said = said} h is) =
      rebuild_was (old ∙ ap (λ y. Some y) (rebuild-with_decision (decision_word said) p x (sym is)))
  turned_rebuild log _ base x p old (by_count h is) = grind (arith, rebuild_was, rebuild-counted)
  turned_rebuild log _ base x p old (by_mark h is) = grind (arith, rebuild_was, rebuild-with_status)
  turned_rebuild log _ base x p old (by_finish {keys = keys} h is) =
      rebuild_was (old ∙ ap (λ y. Some y) (rebuild-with_status (finished_word keys) p x (sym is)))
  turned_rebuild log _ base x p old (by_root {word = word} h is) = is_rooted h
      (rooted p (sym is) (same_value ((state_of pairs words log).pieces base) p (Rebuild h.row) old h.published))
    where
      rooted : (p : Piece) → with_root word p ≡ Rebuild x → p ≡ Rebuild h.row → x ≡ record (h.row) { root = word }
      rooted (Rebuild r) e same = grind arith
      rooted (Leaf r) e same = absurd (cc)
      rooted (Inner r) e same = absurd (cc)
      rooted (Change r) e same = absurd (cc)
  turned_rebuild log _ base x p old (by_draw h is) = is_drawn h
      (drew p (sym is) (same_value ((state_of pairs words log).pieces base) p (Rebuild h.row) old h.published))
    where
      drew : (p : Piece) → drawn p ≡ Rebuild x → p ≡ Rebuild h.row → x ≡ record (h.row) { draw = h.row.draw + 1 }
      drew (Rebuild r) e same = grind arith
      drew (Leaf r) e same = absurd (cc)
      drew (Inner r) e same = absurd (cc)
      drew (Change r) e same = absurd (cc)

  -- how the event publishes a rebuild
  born_rebuild : (log : Log) (event : Event) (base : ℕ) (x : RebuildRow)
      → Born (start pairs words) log base (Rebuild x) event
      → RebuildComes (start pairs words) log base x event
  born_rebuild log _ base x (born.by_install {change = change} h new) =
      let it =
      installed_rebuild (start pairs words) log change h.change h.fresh h.fits base x new in
      is_begun h it.starts it.here (cc (it.is))
  born_rebuild log _ base x (born.by_root {rows = rows} i e) =
      grind (arith, rebuild_was, published_inner)
  born_rebuild log _ base x (born.by_place {rows = rows} i e) =
      grind (arith, rebuild_was, published_inner)

  -- where each rebuild after an enabled event comes from
  pub rebuild_comes : (log : Log) (event : Event) → EachEnabled (start pairs words) (event ∷ log)
      → (base : ℕ) (x : RebuildRow)
      → (state_of pairs words (event ∷ log)).pieces base ≡ Some (Rebuild x)
      → RebuildComes (start pairs words) log base x event
  rebuild_comes log event h base x e =
      grind (arith, came, RowCame, RebuildComes, from_old, turned_rebuild, from_new, born_rebuild)

  -- the status of a row that was there before, if the event that changes the row leaves statuses
  same_status : (log : Log) (event : Event) (base : ℕ) (x : InnerRow) (p : Piece)
      (f : Piece → Piece)
      → KeepsStatuses f → (state_of pairs words log).pieces base ≡ Some p → Inner x ≡ f p
      → StatusComes (start pairs words) log base x.status event
  same_status log event base x p f keeps old is = grind (arith, status_was)

  -- how the status of a row that was there before became what it is
  turned_status : (log : Log) (event : Event) (base : ℕ) (x : InnerRow) (p : Piece)
      → (state_of pairs words log).pieces base ≡ Some p
      → BecameBy (start pairs words) log base p (Inner x) event
      → StatusComes (start pairs words) log base x.status event
  turned_status log event base x p old (as_it_was is) = grind (arith, status_was)
  turned_status log _ base x p old (by_install {change = change} h here is) =
      same_status log _ base x p (with_slot h.change.index (word_of (ChangeAt change)))
      (status-with_slot h.change.index (word_of (ChangeAt change))) old is
  turned_status log _ base x p old (by_resolve h here is) =
      same_status log _ base x p (with_slot h.change.index (side_of h.change))
      (status-with_slot h.change.index (side_of h.change)) old is
  turned_status log _ base x p old (by_place {i = i} {word = word} h here is) =
      same_status log _ base x p (with_slot i word) (status-with_slot i word) old is
  turned_status log _ base x p old (by_decide {said = said} h is) =
      grind (arith, same_status, status-with_decision)
  turned_status log _ base x p old (by_count h is) =
      same_status log _ base x p counted status-counted old is
  turned_status log _ base x p old (by_mark h is) = grind (arith, marked_now, status-with_status)
  turned_status log _ base x p old (by_finish {keys = keys} h is) =
      finished_now h (status-with_status (finished_word keys) p x (sym is))
  turned_status log _ base x p old (by_root {word = word} h is) =
      same_status log _ base x p (with_root word) (status-with_root word) old is
  turned_status log _ base x p old (by_draw h is) = grind (arith, same_status, status-drawn)

  -- where the status of each row after an enabled event comes from
  pub status_comes : (log : Log) (event : Event) → EachEnabled (start pairs words) (event ∷ log)
      → (base : ℕ) (x : InnerRow)
      → (state_of pairs words (event ∷ log)).pieces base ≡ Some (Inner x)
      → StatusComes (start pairs words) log base x.status event
  status_comes log event h base x e = at (came pairs words log event h base (Inner x) e)
    where
      at : RowCame (start pairs words) log event base (Inner x)
          → StatusComes (start pairs words) log base x.status event
      at (from_old p old turned) = turned_status log event base x p old turned
      at (from_new new none) = is_new none (born_open (start pairs words) log event base x h.1 new)

-- ---- the rows of a new table: leaves, and open inner rows. Serves each conjunct on changes, rebuilds and statuses.

-- a leaf, or an open inner row
abbrev pub IsLeafOrOpen : Piece → Type 0
IsLeafOrOpen (Leaf r) = Unit {0}
IsLeafOrOpen (Inner r) = r.status ≡ open_word
IsLeafOrOpen (Change r) = ⊥
IsLeafOrOpen (Rebuild r) = ⊥

rows_quiet : (fuel base : ℕ) (pairs : List Pair)
    → Each (λ row. IsLeafOrOpen row.1) (rows_within fuel base pairs)
rows_quiet = rows_have IsLeafOrOpen (λ r. tt) (λ base all two. refl)

-- each row of a new table is one of the two
pub start_quiet : (pairs : List Pair) (words base : ℕ) (p : Piece)
    → (start pairs words).pieces base ≡ Some p → IsLeafOrOpen p
start_quiet pairs words base p e =
    each-among (λ row. IsLeafOrOpen row.1) (base, p) (rows_from first_row pairs)
    (rows_quiet (length pairs) first_row pairs)
    (among-pieces_of (rows_from first_row pairs) base p e)
