-- The tree gives each key what the map after the changes has, and each change has the reply of the
-- map at its place. Serves the changes law.
use Rattle.std.proofs.Common.{◌≡◌, ◌≢◌, ℕ, true, List, [], ◌∷◌, ◌++◌, Option, Some, None, option_map, refl, sym, ap, ◌∙◌, subst, inl, inr, ⊎_elim, arith}
use Rattle.std.proofs.lemmas.Bool.Decides.{eqb_tells}
use Rattle.std.specs.FinMap as fin
use Rattle.ist_core.specs.declared.pairs.Pair.{Pair}
use Rattle.ist_core.specs.declared.states.ChangeRow.{ChangeRow}
use Rattle.ist_core.specs.declared.events.Event.TheVariants.{Decide}
use Rattle.ist_core.specs.TreeTerms.{Map, map_of, map_after, Leads, Entry, command_of, reply_of, entry_for, entry_of, changes_of, map_after_entries, IsUpdate}
use Rattle.ist_core.specs.WordTerms.{Ref, ChangeAt, ref_of, word_of, decided_yes, Leaf, Inner, Change, with_decision, start, SlotHolds, IsChildFor, past_rebuild, logical}
use Rattle.ist_core.specs.LogTerms.{Snapshot, Log, EachEnabled, CanOpen, state_of}
use Rattle.ist_core.proofs.AllWordLemmas.{changed_at-same, same_change}
use Rattle.ist_core.proofs.AllLogLemmas.{grow_between, grow_after, published_good, change_read, side_not_yes, child_remains}
use Rattle.ist_core.proofs.AllPlaceLemmas.{anchor_free, changed_at-fixed, names, past_rebuild_above, slot_stays}
use Rattle.laws_links.specs.Linking.{IsFinished}
use Rattle.laws_links.proofs.FormLemmas.{finished_grows}
use Rattle.laws_links.proofs.InductionLemmas.{sound_after}
use Rattle.laws_links.proofs.ReadLemmas.{side_yes}
use Rattle.laws_histories.specs.Finding.{Finds, Gives}
use Rattle.laws_histories.specs.Telling.{AreLegal}
use Rattle.laws_histories.proofs.LedLemmas.{HasForm, into_nothing, over_leaf, beside_low, beside_high, takes_out, begins, ends, Needs, AllNeeds, led_step, led_on}
use Rattle.laws_histories.proofs.ReadLemmas.{side_reads, change_logical, Turns}
use Rattle.laws_histories.proofs.DecisionLemmas.{unfinished}
use Rattle.laws_histories.proofs.FindLemmas.{finds_once, finds_above, gives_step, IsHigh, finds_high}
use Rattle.laws_histories.proofs.ReachedByKeyLemmas.{came}
use Rattle.laws_histories.proofs.SideLemmas.{start_commands, finish_commands, Sides, sides}
use Rattle.laws_histories.proofs.MapLemmas.{map_after_entries-append, entries_append}
use Rattle.laws_histories.proofs.RootLemmas.{root_finds}

-- what the tree gives and the changes reply after a log
pub record ToldAfter (pairs : List Pair) (words : ℕ) (log : Log) : Type 0 where
  -- the tree gives each key the value that the map after the changes has for it
  pub gives : (key : ℕ)
      → Gives (state_of pairs words log) key (fin.get (map_after_entries (map_of pairs) (changes_of pairs words log)) key)
  pub legal : AreLegal (map_of pairs) (changes_of pairs words log)

-- ---- a change that is decided yes

module _ (pairs : List Pair) (words : ℕ) (opens : CanOpen pairs words)
    (needs : AllNeeds pairs words) (log : Log) (caller base : ℕ)
    (h : EachEnabled (start pairs words) (Decide caller base true ∷ log)) where
  -- the states before and after, and the change
  abbrev Before : Snapshot
  Before = state_of pairs words log

  abbrev Following : Snapshot
  Following = state_of pairs words (Decide caller base true ∷ log)

  abbrev change : ChangeRow
  change = h.1.change

  abbrev From : Option Ref
  From = past_rebuild Before.pieces (ref_of h.1.change.from)

  abbrev To : Option Ref
  To = past_rebuild Before.pieces (ref_of h.1.change.to)

  -- what is needed of the log
  needed : Needs pairs words log
  unfolding AllNeeds
  needed = needs log h.0

  -- the change has its form
  form : HasForm Before change
  form = needed.form base change h.1.pending

  -- the change that turns is this one
  turned_is : (node i : ℕ) (ref : Option Ref)
      (turn : Turns Before Following (Decide caller base true) node i ref) → turn.change ≡ change
  turned_is node i ref turn = grind (arith, same_change)

  -- if `to` gives what `from` gave, the tree gives what it gave
  alike_gives : (key : ℕ)
      → ((value : Option ℕ) → Finds Before.pieces key From value → Finds Following.pieces key To value)
      → (value : Option ℕ) → Gives Before key value → Gives Following key value
  alike_gives key alike = gives_step pairs words opens log (Decide caller base true) h key
      (λ node i ref value turn f. let same = turned_is node i ref turn in
      subst (λ c. Finds Following.pieces key (past_rebuild Before.pieces (ref_of c.to)) value)
      (sym same)
      (alike value (subst (λ c. Finds Before.pieces key (past_rebuild Before.pieces (ref_of c.from)) value) same (subst (λ x. Finds Before.pieces key x value) (sym turn.from) f))))

  -- the slot of an update; the key of the update leads to it before and after
  record IsLedHere : Type 0 where
    led : Leads Before change.key change.node
    index_is : IsChildFor Before change.node change.key change.index
    slot : SlotHolds Before change.node change.index (word_of (ChangeAt base))
    reads : logical Before.pieces (word_of (ChangeAt base)) ≡ From
    led_after : Leads Following change.key change.node
    index_after : IsChildFor Following change.node change.key change.index
    slot_after : SlotHolds Following change.node change.index (word_of (ChangeAt base))
    reads_after : logical Following.pieces (word_of (ChangeAt base)) ≡ To

  -- the key of the update leads to its slot
  led_here : IsUpdate change.kind → IsLedHere
  led_here update = let pending = h.1.pending in
      let by_key = came pairs words log h.0 base change pending.published update in
      let never : IsFinished Before change.node → ⊥ =
      unfinished pairs words opens log h.0 needed base change pending h.1.outcome in
      let led : Leads Before change.key change.node =
      ⊎_elim (λ x. x)
      (λ w. absurd (never (finished_grows (state_of pairs words w.at) Before (grow_between pairs words w.at log h.0 w.until) change.node w.finished)))
      (led_on pairs words opens needs by_key.at log by_key.until h.0 change.key change.node by_key.led) in
      let slot = needed.in_slot base change pending in
      let turned : ChangeRow = record change { decision = decided_yes } in
      let there : Following.pieces base ≡ Some (Change turned) =
      changed_at-same Before.pieces base (with_decision decided_yes)
      ∙ ap (option_map (with_decision decided_yes)) pending.published in
      let word = change_read pairs words opens log h.0 base change pending.published in
      let none : change.decision ≢ decided_yes = λ e. (let zero = pending.unset in omega arith) in
      let row = (names pairs words opens log h.0).rows base (Change change) pending.published in
      let grows = grow_after pairs words log (Decide caller base true) h in record {
        led = led;
        index_is = by_key.index_is;
        slot = slot;
        reads = change_logical Before.pieces
            (word_of (ChangeAt base)) base change word pending.published
            ∙ ap (λ w. past_rebuild Before.pieces (ref_of w)) (side_not_yes change none);
        led_after = ⊎_elim (λ x. x) (λ f. absurd (never f))
            (led_step pairs words opens log (Decide caller base true) h needed change.key change.node led);
        index_after =
            child_remains Before Following grows change.node change.key change.index by_key.index_is;
        slot_after = slot_stays (start pairs words) log (Decide caller base true) h.1
            (sound_after pairs words log h.0) tt change.node change.index
            (word_of (ChangeAt base)) slot;
        reads_after =
            change_logical Following.pieces (word_of (ChangeAt base)) base turned word there
            ∙ ap (λ w. past_rebuild Following.pieces (ref_of w)) (side_yes turned refl)
            ∙ side_reads Before.pieces Following.pieces grows change.node change.index
            (ref_of change.to) row.1;
      }

  -- the two sides of the update
  its_sides : IsUpdate change.kind → Sides Before Following change
  its_sides update = sides Before Following change
      record {
        leaves =
            λ b r e. changed_at-fixed Before.pieces base b (with_decision decided_yes) (Leaf r) e refl;
        inners =
            λ b r e. changed_at-fixed Before.pieces base b (with_decision decided_yes) (Inner r) e refl;
      }
      (λ b p e. published_good pairs words opens log b p h.0 e) form update

  -- an update is one step of the map
  update_gives : (update : IsUpdate change.kind) (m : Map)
      → ((key : ℕ) → Gives Before key (fin.get m key))
      → (key : ℕ) → Gives Following key (fin.get (map_after m (its_sides update).makes.command) key)
  update_gives update m all key =
      ⊎_elim (λ e. here e.1) (λ e. elsewhere e.1) (eqb_tells key change.key)
    where
      z : Sides Before Following change
      z = its_sides update

      here : key ≡ change.key → Gives Following key (fin.get (map_after m z.makes.command) key)
      here e = let s = led_here update in
          subst (λ k. Gives Following k (fin.get (map_after m z.makes.command) k)) (sym e)
          (subst (λ v. Gives Following change.key v) (sym (z.makes.made m))
          (finds_above Following change.key change.node change.index (word_of (ChangeAt base)) (z.new change.key) (anchor_free pairs words (Decide caller base true ∷ log) h) s.led_after s.index_after s.slot_after
          (subst (λ ref. Finds Following.pieces change.key ref (z.new change.key)) (sym s.reads_after) (z.to_finds change.key))))

      elsewhere : key ≢ change.key → Gives Following key (fin.get (map_after m z.makes.command) key)
      elsewhere ne = subst (λ v. Gives Following key v) (sym (z.makes.others m key ne))
          (alike_gives key
          (λ value f. subst (λ v. Finds Following.pieces key To v) (z.others key ne ∙ finds_once Before.pieces key From (z.old key) value (z.from_finds key) f) (z.to_finds key))
          (fin.get m key) (all key))

  -- its reply is the map's
  update_reply : (update : IsUpdate change.kind) (m : Map)
      → ((key : ℕ) → Gives Before key (fin.get m key))
      → fin.get m change.key ≡ reply_of Before.pieces change
  update_reply update m all = let z = its_sides update in let s = led_here update in
      let here =
      finds_above Before change.key change.node change.index (word_of (ChangeAt base))
      (z.old change.key) (anchor_free pairs words log h.0) s.led s.index_is s.slot
      (subst (λ ref. Finds Before.pieces change.key ref (z.old change.key)) (sym s.reads) (z.from_finds change.key)) in
      finds_once Before.pieces change.key (logical Before.pieces Before.anchor)
      (fin.get m change.key) (z.old change.key) (all change.key) here ∙ z.reply

  -- a start and a finish leave what each key is given
  rebuild_gives : ((key : ℕ) (value : Option ℕ) → Finds Before.pieces key From value → Finds Before.pieces key To value)
      → (key : ℕ) (value : Option ℕ) → Gives Before key value → Gives Following key value
  rebuild_gives same key = alike_gives key
      (λ value f. finds_high pairs words opens log (Decide caller base true) h key change.node
      (λ at i ref turn. sym turn.node_is ∙ ap (λ c. c.node) (turned_is at i ref turn))
      To value high (same key value f))
    where
      high : IsHigh pairs words opens log (Decide caller base true) h change.node To
      high child is = let o = names pairs words opens log h.0 in
          let row = o.rows base (Change change) h.1.pending.published in
          past_rebuild_above Before change.node change.index child (ref_of change.to) o row.1 is

  -- what holds after the Decide, if these entries are new
  told_more : (new : List Entry)
      → changes_of pairs words (Decide caller base true ∷ log) ≡ changes_of pairs words log ++ new
      → ToldAfter pairs words log
      → ((key : ℕ) → Gives Following key (fin.get (map_after_entries (map_after_entries (map_of pairs) (changes_of pairs words log)) new) key))
      → AreLegal (map_after_entries (map_of pairs) (changes_of pairs words log)) new
      → ToldAfter pairs words (Decide caller base true ∷ log)
  told_more new are told gives legal = grind (arith, map_after_entries-append, entries_append)

  -- an update is its new entry
  told_update : IsUpdate change.kind → ToldAfter pairs words log
      → ToldAfter pairs words (Decide caller base true ∷ log)
  told_update update told = let m = map_after_entries (map_of pairs) (changes_of pairs words log) in
      let makes = (its_sides update).makes in
      let entry : Entry =
      record { owner = change.owner; command = makes.command; reply = reply_of Before.pieces change } in
      let made : entry_of Before.pieces (Before.pieces base) ≡ entry ∷ [] =
      ap (entry_of Before.pieces) h.1.pending.published
      ∙ ap (entry_for Before.pieces change) makes.command_is in
      told_more (entry ∷ []) (ap (λ es. changes_of pairs words log ++ es) made) told
      (update_gives update m told.gives)
      (ap (λ r. r ∷ []) (ap (fin.get m) makes.key_is ∙ update_reply update m told.gives))

  -- a start and a finish make no entry
  told_rebuild : ((key : ℕ) (value : Option ℕ) → Finds Before.pieces key From value → Finds Before.pieces key To value)
      → command_of change ≡ None → ToldAfter pairs words log
      → ToldAfter pairs words (Decide caller base true ∷ log)
  told_rebuild same none told = grind (arith, told_more, rebuild_gives)

  -- so what holds of the tree and the changes holds after each Decide with yes
  pub told_yes : ToldAfter pairs words log → ToldAfter pairs words (Decide caller base true ∷ log)
  told_yes told = at form
    where
      at : HasForm Before change → ToldAfter pairs words (Decide caller base true ∷ log)
      at (into_nothing leaf kind from to new) = told_update (inl kind) told
      at (over_leaf old leaf kind from is to new) = told_update (inl kind) told
      at (beside_low other k leaf pair kind from is less to p new) = told_update (inl kind) told
      at (beside_high other k leaf pair kind from is less to p new) = told_update (inl kind) told
      at (takes_out leaf kind from is to) = told_update (inr kind) told
      at (begins target rebuild kind from to has) = grind (arith, told_rebuild, start_commands)
      at (ends rebuild row kind from e f set) =
          let it = needed.same_leaves base change h.1.pending h.1.outcome kind in
          told_rebuild (λ key value g. root_finds pairs words opens log h.0 base rebuild change row h.1.pending.published from e f set it.0 it.1 it.2 key value g) (finish_commands change kind) told
