-- What a word reads as, by the loads of its change, its rebuild or its leaf. Serves `reading`.
use Rattle.std.proofs.Common.{◌≡◌, ◌≢◌, ℕ, ◌+◌, ◌≤◌, ◌==◌, length, slice_get, Option, Some, None, refl, sym, ap, ◌∙◌, subst, le_refl, arith}
use Rattle.std.proofs.lemmas.Bool.Decides.{eqb_tells}
use Rattle.std.proofs.Math.Nat.{le_trans}
use Rattle.ist_core.specs.WordTerms.{change_decision_offset, change_from_offset, change_to_offset, rebuild_target_offset, leaf_key_offset, leaf_value_offset, Ref, Empty, Unset, LeafAt, InnerAt, ChangeAt, RebuildAt, ref_of, decided_yes, Change, Rebuild, words_of}
use Rattle.ist_core.proofs.AllLogLemmas.{leaf_there, change_there, rebuild_there}
use Rattle.ist_core.proofs.AllPlaceLemmas.{SideNames, SlotNames, InnerHere, names}
use Rattle.ist_rule.specs.RuleTerms.{IsSound, now, GoesOnTo, Looked}
use Rattle.ist_rule.specs.declared.view.View.{View}
use Rattle.ist_rule.proofs.EventLemmas.{goes_on_same, goes_on_more, looked_goes_on}
use Rattle.ist_dcss.proofs.FieldLemmas.{looked_row}
use Rattle.laws_histories.specs.Loads.{IsLoad}
use Rattle.laws_histories.specs.Searching.{no_change, by_to, by_from, no_rebuild, by_target, of_nothing, of_other, of_key}
use Rattle.ist_rule.proofs.WentOnLemmas.{goes_on_grow}
use Rattle.ist_find.specs.Searches.{IsRow, SeesLeaf, SeesChange, SeesRebuild, Names}
use Rattle.ist_dcss.specs.HelpEvents.{outcome_offset_of}
use Rattle.ist_find.specs.Reads.{IsPlain, IsFoundAs, IsEnd, loaded_in, HasSideRead, TellsSide, TellsTarget, TellsValue}
use Rattle.ist_find.proofs.LoadLemmas.{goes_length, looked_load, load_later}

-- ---- rows stay

-- a published change stays published when the caller goes on by loads
pub change_on : (v w : View) → GoesOnTo v w → (base : ℕ) → SeesChange v base → SeesChange w base
change_on v w g base r =
    let on = change_there (now v).pieces (now w).pieces (goes_on_grow v w g) base r.row r.published in
    record { row = on.0; published = on.1 }

-- a published rebuild stays published
pub rebuild_on : (v w : View) → GoesOnTo v w → (base : ℕ) → SeesRebuild v base → SeesRebuild w base
rebuild_on v w g base r =
    let on = rebuild_there (now v).pieces (now w).pieces (goes_on_grow v w g) base r.row r.published in
    record { row = on.0; published = on.1 }

-- a published leaf stays published
pub leaf_on : (v w : View) → GoesOnTo v w → (base : ℕ) → SeesLeaf v base → SeesLeaf w base
leaf_on v w g base r = record {
  row = r.row;
  published = leaf_there (now v).pieces (now w).pieces (goes_on_grow v w g) base r.row r.published;
}

-- ---- what is named

-- what may be put into a slot names a row, and no change
pub side_named : (v : View) (node i : ℕ) (ref : Option Ref) → SideNames (now v).pieces node i ref
    → Names v ref × IsPlain ref
side_named v node i None h = absurd h
side_named v node i (Some Empty) h = (tt, λ b e. cc)
side_named v node i (Some Unset) h = absurd h
side_named v node i (Some (LeafAt base)) h = (record { row = h.0; published = h.1 }, λ b e. cc)
side_named v node i (Some (InnerAt base)) h = (record { row = h.1.0; published = h.1.1 }, λ b e. cc)
side_named v node i (Some (ChangeAt base)) h = absurd h
side_named v node i (Some (RebuildAt base)) h = grind arith

-- and what a slot may hold names a published row or no row
pub slot_named : (v : View) (node i : ℕ) (ref : Option Ref) → SlotNames (now v).pieces node i ref
    → Names v ref
slot_named v node i None h = absurd h
slot_named v node i (Some Empty) h = tt
slot_named v node i (Some Unset) h = tt
slot_named v node i (Some (LeafAt base)) h = record { row = h.0; published = h.1 }
slot_named v node i (Some (InnerAt base)) h = record { row = h.1.0; published = h.1.1 }
slot_named v node i (Some (ChangeAt base)) h = record { row = h.row; published = h.published }
slot_named v node i (Some (RebuildAt base)) h = record { row = h.row; published = h.published }

-- ---- a change

-- both sides of a published change name rows, and no change
sides_named : (w : View) → IsSound w → (base : ℕ) (r : SeesChange w base)
    → (Names w (ref_of r.row.from) × IsPlain (ref_of r.row.from))
    × (Names w (ref_of r.row.to) × IsPlain (ref_of r.row.to))
sides_named w s base r =
    let o = (names w.start w.words s.lawful.opens w.log s.lawful.enabled).rows base (Change r.row)
    r.published in (
      side_named w r.row.node r.row.index (ref_of r.row.from) o.0,
      side_named w r.row.node r.row.index (ref_of r.row.to) o.1,
    )

-- the decision, and then a side, were loaded
module _ (v u w : View) (word base decision side p q : ℕ) (is : ref_of word ≡ Some (ChangeAt base))
    (r : SeesChange v base) (first : Looked v p decision u) (at : p ≡ base + change_decision_offset)
    (second : Looked u q side w) where
  abbrev g : GoesOnTo v u
  g = looked_goes_on v p decision u first

  abbrev h : GoesOnTo u w
  h = looked_goes_on u q side w second

  abbrev row : SeesChange w base
  row = change_on u w h base (change_on v u g base r)

  -- the load of the decision, in the log after both
  decided : (least : ℕ) → least ≤ length u.log
      → IsLoad w.start w.words w.log (base + change_decision_offset) least
      (loaded_in u (base + change_decision_offset) decision)
  decided least low = load_later u w h (base + change_decision_offset) decision least
      (looked_load v p decision u first (base + change_decision_offset) at least low)

  -- the word of the change, as it was loaded
  got : (k word : ℕ) → slice_get (words_of (Change row.row)) k ≡ Some word → q ≡ base + k
      → side ≡ word
  got k word there place = looked_row u q side w second base (Change row.row) k word row.published there place

  tells : (from : ℕ) → side ≡ from → Names w (ref_of from) × IsPlain (ref_of from)
      → HasSideRead v w word side → TellsSide v w word side
  tells from same named has = record {
    seen = goes_on_more v u w g h;
    has = has;
    names = subst (λ x. Names w (ref_of x)) (sym same) named.0;
    plain = subst (λ x. IsPlain (ref_of x)) (sym same) named.1;
  }

  yes : decision ≡ decided_yes → q ≡ base + change_to_offset → TellsSide v w word side
  yes e place =
      tells row.row.to (got 5 row.row.to refl place) (sides_named w second.sound base row).1
      record {
        last = length u.log;
        until = goes_length u w h;
        side_is = λ x. by_to base (loaded_in u (base + change_decision_offset) decision)
            (loaded_in w (base + change_to_offset) side) is
            (decided (length v.log) (goes_length v u g)) e
            (looked_load u q side w second (base + change_to_offset) place (length v.log)
            (goes_length v w (goes_on_more v u w g h)));
      }

  no : decision ≢ decided_yes → q ≡ base + change_from_offset → TellsSide v w word side
  no e place =
      tells row.row.from (got 4 row.row.from refl place) (sides_named w second.sound base row).0
      record {
        last = length u.log;
        until = goes_length u w h;
        side_is = λ x. by_from base (loaded_in u (base + change_decision_offset) decision)
            (loaded_in w (base + change_from_offset) side) is
            (decided (length v.log) (goes_length v u g)) e
            (looked_load u q side w second (base + change_from_offset) place (length v.log)
            (goes_length v w (goes_on_more v u w g h)));
      }

  -- the word of the change that its decision selects is what the slot reads as
  pub side_told : (offset : ℕ) → q ≡ base + offset → offset ≡ outcome_offset_of (decision == decided_yes)
      → TellsSide v w word side
  side_told offset there which = grind (arith, yes, no, eqb_tells)

-- a word that names no change reads as itself
pub no_change_told : (v : View) → IsSound v → (word : ℕ) → Names v (ref_of word)
    → IsPlain (ref_of word) → TellsSide v v word word
no_change_told v s word named plain = record {
  seen = goes_on_same v s;
  has = record { last = length v.log; until = le_refl (length v.log); side_is = λ at. no_change plain };
  names = named;
  plain = plain;
}

-- ---- a rebuild

-- the target was loaded
pub target_told : (v w : View) (word base target p : ℕ) → ref_of word ≡ Some (RebuildAt base)
    → SeesRebuild v base → Looked v p target w → p ≡ base + rebuild_target_offset
    → TellsTarget v w word (InnerAt target)
target_told v w word base target p is r l at = let g = looked_goes_on v p target w l in
    let row = rebuild_on v w g base r in
    let got : target ≡ row.row.target =
    looked_row v p target w l base (Rebuild row.row) 0 row.row.target row.published refl at in
    let o = (names w.start w.words l.sound.lawful.opens w.log l.sound.lawful.enabled).rows base
    (Rebuild row.row) row.published in
    record {
      seen = g;
      has = λ least low. by_target base (loaded_in w (base + rebuild_target_offset) target) is
          (looked_load v p target w l (base + rebuild_target_offset) at least
          (le_trans low (goes_length v w g)));
      found = subst (IsRow w) (sym got) (here o.1);
    }
  where
    here : {b : ℕ} → InnerHere (now w).pieces b → IsRow w b
    here h = record { row = h.0; published = h.1 }

-- a word that names no rebuild reads as what it names
pub no_rebuild_told : (v : View) → IsSound v → (word : ℕ) (ref : Ref) → ref_of word ≡ Some ref
    → Names v (ref_of word) → IsPlain (ref_of word)
    → ((base : ℕ) → ref_of word ≢ Some (RebuildAt base)) → TellsTarget v v word ref
no_rebuild_told v s word ref is named plain other = record {
  seen = goes_on_same v s;
  has = λ least low. no_rebuild ref is (λ base e. other base (is ∙ ap Some e));
  found = found ref is (subst (Names v) is named);
}
  where
    found : (r : Ref) → ref_of word ≡ Some r → Names v (Some r) → IsFoundAs v r
    found Empty e h = tt
    found Unset e h = tt
    found (LeafAt base) e h = h
    found (InnerAt base) e h = h
    found (ChangeAt base) e h = absurd (plain base e)
    found (RebuildAt base) e h = absurd (other base e)

-- ---- a leaf

-- its key was loaded, and is another
pub other_told : (v w : View) (key base word p : ℕ) → Looked v p word w
    → p ≡ base + leaf_key_offset → word ≢ key → TellsValue v w key (LeafAt base) None
other_told v w key base word p l at ne = let g = looked_goes_on v p word w l in record {
  seen = g;
  has = λ least low. of_other (loaded_in w (base + leaf_key_offset) word)
      (looked_load v p word w l (base + leaf_key_offset) at least
      (le_trans low (goes_length v w g))) ne;
}

-- its key was loaded, which is the key, and then its value
pub value_told : (v u w : View) (key base word value p q : ℕ) → Looked v p word u
    → p ≡ base + leaf_key_offset → word ≡ key → Looked u q value w → q ≡ base + leaf_value_offset
    → TellsValue v w key (LeafAt base) (Some value)
value_told v u w key base word value p q first at is second there =
    let g = looked_goes_on v p word u first in let h = looked_goes_on u q value w second in record {
      seen = goes_on_more v u w g h;
      has = λ least low. of_key (loaded_in u (base + leaf_key_offset) word)
          (loaded_in w (base + leaf_value_offset) value)
          (load_later u w h (base + leaf_key_offset) word least
          (looked_load v p word u first (base + leaf_key_offset) at least
          (le_trans low (goes_length v u g))))
          is
          (looked_load u q value w second (base + leaf_value_offset) there least
          (le_trans low (le_trans (goes_length v u g) (goes_length u w h))));
    }

-- nothing gives no value
pub nothing_told : (v : View) → IsSound v → (key : ℕ) (ref : Ref) → IsEnd v ref
    → ((base : ℕ) → ref ≢ LeafAt base) → TellsValue v v key ref None
nothing_told v s key Empty h other =
    record { seen = goes_on_same v s; has = λ least low. of_nothing }
nothing_told v s key Unset h other = absurd h
nothing_told v s key (LeafAt base) h other = absurd (other base refl)
nothing_told v s key (InnerAt base) h other = absurd h
nothing_told v s key (ChangeAt base) h other = absurd h
nothing_told v s key (RebuildAt base) h other = absurd h
