-- Plans whose change fits its kind. Serves `plan_leaf`, `plan_pair` and `plan_clear`.
use Rattle.std.proofs.Common.{◌≡◌, ℕ, ◌<◌, [], List, Some, refl, sym, ap, ◌∙◌, subst, arith, Result, Ok, Err}
use Rattle.ist_core.specs.declared.events.Event.{Event}
use Rattle.ist_core.specs.declared.lists.Row.{Row}
use Rattle.ist_core.specs.declared.states.ChangeRow.{ChangeRow}
use Rattle.ist_core.specs.declared.ports.Full.{Full}
use Rattle.ist_core.specs.WordTerms.{IsChildFor, Empty, LeafAt, InnerAt, IsGoodBase, ref_of, word_of, start, put_kind, remove_kind}
use Rattle.ist_core.proofs.AllLogLemmas.{child_remains}
use Rattle.ist_core.specs.TreeTerms.{ComesByKey, FitsKind, a_put, a_pair, a_remove, IsLeafOf, HasRoomFor}
use Rattle.ist_core.proofs.AllWordLemmas.{ref_of-word_of}
use Rattle.ist_rule.specs.RuleTerms.{WentOn, now, GoesOnTo, IsNode}
use Rattle.ist_rule.specs.declared.view.View.{View}
use Rattle.ist_rule.proofs.EventLemmas.{goes_on_more}
use Rattle.ist_rule.proofs.WentOnLemmas.{went_lawful, later_by-goes_on, goes_on_grow, went_all, went_more}
use Rattle.ist_rows.specs.RowTerms.{IsCaller, RanShort}
use Rattle.ist_rows.specs.declared.callers.Caller.{Caller}
use Rattle.ist_dcss.proofs.FieldLemmas.{good_base}
use Rattle.ist_dcss.specs.HelpEvents.{IsSlot}
use Rattle.ist_dcss.proofs.SlotPlaceLemmas.{fits_later}
use Rattle.ist_dcss.proofs.InstallLemmas.{slot_on}
use Rattle.ist_find.specs.Searches.{HasCome}
use Rattle.ist_find.proofs.LookLemmas.{come_node, come_later}
use Rattle.laws_histories.specs.Searching.{WasMet}
use Rattle.laws_histories.proofs.PositionLemmas.{node_met}
use Rattle.laws_calls.proofs.WalkLemmas.{meeting_comes}
use Rattle.ist_updates.specs.declared.plans.Aim.{Aim}
use Rattle.ist_updates.specs.declared.plans.Fresh.TheVariants.{Nothing, Leaf, Pair}
use Rattle.ist_updates.specs.Changing.{MayReplace, WasAtSlot, IsPlanned, row_for, Prepares, MayAskFor, IsRowShort}
use Rattle.ist_updates.proofs.PairLemmas.{row_good}
use Rattle.std.specs.Prelude.{IfErr, IsErrAnd}
use Rattle.ist_updates.specs.declared.plans.SlotPlan.{SlotPlan}
use Rattle.ist_rows.proofs.ShortLemmas.{short_from}
use Rattle.ist_core.specs.Pieces as pieces
use Rattle.ist_rows.specs.declared.kinds.Kind.TheVariants as kind
use Rattle.ist_updates.specs.declared.plans.SlotPlan.TheVariants as way

module _ (v : View) (aim : Aim) (at : WasAtSlot v aim) where
  -- the search came to the node
  pub slot_come : HasCome v aim.key aim.node at.at.came.0
  slot_come = come_later at.before v at.seen aim.key aim.node at.at.came.0 at.at.came.1

  -- whose child for the key this is
  pub slot_child : IsChildFor (now v) aim.node aim.key aim.index
  slot_child =
      child_remains (now at.before) (now v) (goes_on_grow at.before v at.seen) aim.node aim.key aim.index
      at.at.child

  -- and was met by it
  pub slot_met : WasMet v.start v.words v.log aim.key slot_come.last aim.node
  slot_met = let s = at.seen.sound in
      node_met v.start v.words s.lawful.opens v.log s.lawful.enabled aim.key v.loads.since
      slot_come.last aim.node
      (meeting_comes v.start v.words v.log aim.key v.loads.since slot_come.last aim.node at.at.came.0
      slot_come.comes)

  -- it is a node
  pub slot_node : IsNode (now v) aim.node
  slot_node = come_node v at.seen.sound aim.key slot_come.last aim.node at.at.came.0 slot_come.comes

  -- the slot holds a word
  pub slot_holds : IsSlot v aim.node aim.index
  slot_holds = slot_on at.before v at.seen aim.node aim.index aim.word at.at.holds

  -- after more loads, the caller has still made only loads since it was at the slot
  pub slot_loads : (w : View) → GoesOnTo v w → WasAtSlot w aim
  slot_loads w g = grind (arith, goes_on_more)

-- a change that fits its kind still does when the caller went on
pub fits_went : (P : Event → Type 0) (v w : View) → WentOn P v w → (row : ChangeRow)
    (fresh : List Row) → FitsKind (start v.start v.words) v.log row fresh
    → FitsKind (start w.start w.words) w.log row fresh
fits_went P v w g row fresh f = grind (arith, went_lawful, fits_later, later_by-goes_on)

module _ (P : Event → Type 0) (old new : Caller)
    (g : WentOn P old.token.view new.token.view) (aim : Aim)
    (at : WasAtSlot old.token.view aim) (base : ℕ) (change : new.change ≡ Some base) where
  abbrev v : View
  v = old.token.view

  -- the change's key leads to its slot
  by_key : (kind value to owner : ℕ)
      → ComesByKey (start v.start v.words) v.log (row_for aim kind value to owner)
  by_key kind value to owner = record { led = (slot_met v aim at).led; index = slot_child v aim at }

  -- a put of a leaf is planned
  pub leaf_planned : (value leaf to : ℕ) → HasRoomFor (now v) aim.key aim.word
      → new.leaf ≡ Some leaf → IsGoodBase leaf → to ≡ word_of (LeafAt leaf) → (row : ChangeRow)
      → row ≡ row_for aim put_kind value to new.number
      → IsPlanned new aim (way.Leaf value) record { base = base; row = row; fresh = Leaf leaf }
  leaf_planned value leaf to room has good to_is row is =
      subst (λ r. IsPlanned new aim (way.Leaf value) record {
        base = base;
        row = r;
        fresh = Leaf leaf;
      }) (sym is) record {
        rows = (change, (has, tt));
        good = tt;
        is_for = grind arith;
        fits = fits_went P v new.token.view g (row_for aim put_kind value to new.number) _
            (a_put record {
              kind = refl;
              by_key = by_key put_kind value to new.number;
              from = room;
              leaf = leaf;
              to = ap ref_of to_is ∙ ref_of-word_of (LeafAt leaf) good;
              fresh_are = refl;
            });
      }

  -- a put of a pair row is planned
  pub pair_planned : {value other other_key leaf pair to : ℕ} → IsCaller new
      → MayReplace v aim.key aim.word (way.Pair value other other_key) → new.leaf ≡ Some leaf
      → new.pair ≡ Some pair → aim.node < pair → to ≡ word_of (InnerAt pair) → {row : ChangeRow}
      → row ≡ row_for aim put_kind value to new.number
      → IsPlanned new aim (way.Pair value other other_key) record {
        base = base;
        row = row;
        fresh = Pair pair leaf other other_key;
      }
  pair_planned {value} {other} {other_key} {leaf} {pair} {to} caller room has_leaf has_pair above to_is
      {row} is =
      let stands = room.1 in
      let leaf_good = row_good new g.sound caller kind.Leaf leaf has_leaf (omega arith) in
      let pair_good = row_good new g.sound caller kind.Pair pair has_pair (omega arith) in
      let other_good = good_base v at.seen.sound other (pieces.Leaf stands.row) stands.published
      (omega arith) in
      subst (λ r. IsPlanned new aim (way.Pair value other other_key) record {
        base = base;
        row = r;
        fresh = Pair pair leaf other other_key;
      }) (sym is) record {
        rows = (change, (has_pair, (has_leaf, tt)));
        good = (leaf_good, other_good);
        is_for = grind arith;
        fits = fits_went P v new.token.view g (row_for aim put_kind value to new.number) _
            (a_pair record {
              kind = refl;
              by_key = by_key put_kind value to new.number;
              other = other;
              other_key = other_key;
              from = room.0;
              stands = stands;
              differs = room.2;
              pair = pair;
              leaf = leaf;
              to = ap ref_of to_is ∙ ref_of-word_of (InnerAt pair) pair_good;
              above = above;
              fresh_are = refl;
            });
      }

  -- a remove is planned
  pub clear_planned : (leaf : ℕ) → ref_of aim.word ≡ Some (LeafAt leaf)
      → IsLeafOf (now v) leaf aim.key → (row : ChangeRow)
      → row ≡ row_for aim remove_kind 0 0 new.number
      → IsPlanned new aim way.Clear record { base = base; row = row; fresh = Nothing }
  clear_planned leaf from stands row is =
      subst (λ r. IsPlanned new aim way.Clear record { base = base; row = r; fresh = Nothing })
      (sym is) record {
        rows = (change, tt);
        good = tt;
        is_for = grind arith;
        fits = fits_went P v new.token.view g (row_for aim remove_kind 0 0 new.number) []
            (a_remove record {
              kind = refl;
              by_key = by_key remove_kind 0 0 new.number;
              leaf = leaf;
              from = from;
              stands = stands;
              to = ref_of-word_of Empty tt;
              value = refl;
              fresh_are = refl;
            });
      }

-- ---- refusals, seen from earlier views. Serves each step of a change.

-- if too few words were left since a later view, too few were left since the earlier view
pub short_after : (P : Event → Type 0) {A : ℕ → Type 0} (u v : View) (words : ℕ) (full : Full)
    (w : View) → WentOn P u v → RanShort (WentOn P) A v words full w
    → RanShort (WentOn P) A u words full w
short_after P u v words full w a s = grind (arith, short_from, went_more)

-- and also for a wider class of events, and for something else that was asked for
pub short_wider : (P Q : Event → Type 0) {A B : ℕ → Type 0}
    → ((event : Event) → P event → Q event) → (u v : View) (words : ℕ) (full : Full) (w : View)
    → WentOn Q u v → RanShort (WentOn P) A v words full w → (A full.asked → B full.asked)
    → RanShort (WentOn Q) B u words full w
short_wider P Q all u v words full w a s to = grind (arith, short_from, went_more, went_all)

-- a row of one size was refused, which is handed on as a refusal of any of several sizes
pub row_refused : {A : Type 0} (For : ℕ → Type 0) {size : ℕ} {u v w : View} {words : ℕ} {full : Full}
    (r : Result A Full) → IsErrAnd r (λ x. x ≡ full) → WentOn Prepares u v
    → IsRowShort (λ asked. asked ≡ size) v words full w → For size
    → IfErr r (λ full. IsRowShort For u words full w)
row_refused For (Ok a) same went s may = absurd same
row_refused {A} For {size} {u} {v} {w} {words} {full} (Err e) same went s may =
    grind (arith, short_wider)

-- a change that was refused since a later view was refused since the earlier view
pub err_refused : {A : Type 0} (u v : View) (x : SlotPlan) (words : ℕ) (w : View) (r : Result A Full)
    → WentOn Prepares u v → IfErr r (λ full. IsRowShort (MayAskFor x) v words full w)
    → IfErr r (λ full. IsRowShort (MayAskFor x) u words full w)
err_refused u v x words w (Ok a) g h = tt
err_refused u v x words w (Err full) g h = short_after Prepares u v words full w g h
