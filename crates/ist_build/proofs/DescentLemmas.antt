-- The way down to one leaf of a finished node. Serves `descent`.
use Rattle.std.proofs.Common.{◌≡◌, ℕ, ◌+◌, ◌*◌, ◌-◌, ◌^◌, ◌<◌, ◌≤◌, List, [], ◌∷◌, length, map, drop, Some, refl, sym, ap, ◌∙◌, subst, arith}
use Rattle.std.proofs.lemmas.List.{length-take-le, length-drop, length-map}
use Rattle.ist_core.specs.TreeTerms.{PlacedLeaf, HasLeaves, HasTarget, IsFrozen, IsFinishedWith}
use Rattle.ist_core.specs.WordTerms.{place_limit, Ref, Empty, LeafAt, InnerAt, RebuildAt, ref_of, past_rebuild, rebuild_reads}
use Rattle.ist_rule.specs.RuleTerms.{IsSound, now, GoesOnTo}
use Rattle.ist_rule.specs.declared.view.View.{View}
use Rattle.ist_build.specs.declared.below.FinishedChild.{FinishedChild}
use Rattle.ist_build.specs.declared.below.FinishedChild.TheVariants.{Nothing, Leaf, Row}
use Rattle.ist_build.specs.Calls.{HasKeys}
use Rattle.ist_build.specs.Reading.{HasSlots, HasRead, HasReadOne, IsReading, IsUnder, SlotReads, before_one, after_one}
use Rattle.ist_build.proofs.ReadLemmas.{read_is, read_left_out, one_left_out, one_taken}
use Rattle.ist_build.proofs.ReadingLemmas.{reading_more, reading_full, reading_last, under_leaves, leaves_number, nothing_read, leaf_read}
use Rattle.ist_build.proofs.ShareLemmas.{some_leaves}
use Rattle.ist_build.proofs.PlaceLemmas.{few_slots, frozen_slot_reads}
use Rattle.laws_links.proofs.FinishedLemmas.{target_grows}
use Rattle.ist_mark.proofs.BelowLemmas.{row_below, target_below}
use Rattle.ist_rule.proofs.WentOnLemmas.{goes_on_grow}

-- ---- few words are loaded

-- in a row
pub few_loads : (v : View) → IsSound v → (node degree i loads more : ℕ) → HasSlots v node degree
    → i < degree → loads ≤ 4 * i + 1 → more ≤ 4 → loads + more ≤ (place_limit - node) * 2 ^ 31
few_loads v s node degree i loads more h less few two = let it = few_slots v s node degree h in
    let few_slots = it.0 in let low = it.1 in let words = s.lawful.opens.within in omega arith

-- in a row and what is below it
pub few_below : (v w : View) → IsSound v → (node degree i loads more base keys below : ℕ)
    → HasSlots v node degree → i < degree → loads ≤ 4 * i + 1 → more ≤ 4 → (it : FinishedChild)
    → it ≡ Row base keys → IsUnder w node i it → below ≤ (place_limit - base) * 2 ^ 31 → loads + more + below ≤ (place_limit - node) * 2 ^ 31
few_below v w s node degree i loads more base keys below h less few two what is there rest =
    let under : IsUnder w node i (Row base keys) = subst (IsUnder w node i) is there in
    let rise = under.1 in let it = few_slots v s node degree h in let few_slots = it.0 in
    let low = it.1 in let words = s.lawful.opens.within in omega arith

-- ---- the leaf is found

-- if there is a leaf number i, a reading of all leaves finds it
pub not_after : (leaves : List PlacedLeaf) (i skip : ℕ) → i < length leaves
    → HasRead (0 ∷ []) (before_one i) leaves (0 ∷ []) (before_one skip) → ⊥
not_after leaves i skip enough h = let is = read_is 1 leaves i [] (omega arith) in
    let rest = length-drop i leaves in
    let many = length-map (drop i leaves) (λ (leaf : PlacedLeaf). leaf.base) in
    let full = length-take-le 1 (map (λ (leaf : PlacedLeaf). leaf.base) (drop i leaves)) (omega arith) in
    let same = ap length (h.got ∙ is) in omega arith

-- what is left to skip after what hangs below a slot
abbrev pub LeavesToSkip : ℕ → FinishedChild → ℕ → Type 0
LeavesToSkip skip Nothing to = to ≡ skip
LeavesToSkip skip (Leaf base) to = (0 < skip) × (to ≡ skip - 1)
LeavesToSkip skip (Row base keys) to = (keys ≤ skip) × (to ≡ skip - keys)

-- an empty slot leaves the number to skip as it is
pub past_nothing : {skip to : ℕ} {below : FinishedChild} → below ≡ Nothing → to ≡ skip → LeavesToSkip skip below to
past_nothing {skip} {to} is e = subst (λ b. LeavesToSkip skip b to) (sym is) e

-- a leaf that is skipped takes one from the number to skip
pub past_leaf : {skip to : ℕ} {below : FinishedChild} (base : ℕ) → below ≡ Leaf base → 0 < skip
    → to ≡ skip - 1 → LeavesToSkip skip below to
past_leaf {skip} {to} base is some e = subst (λ b. LeavesToSkip skip b to) (sym is) (some, e)

-- a row that is skipped takes its keys from the number to skip
pub past_row : {skip to : ℕ} {below : FinishedChild} (base keys : ℕ) → below ≡ Row base keys → keys ≤ skip
    → to ≡ skip - keys → LeavesToSkip skip below to
past_row {skip} {to} base keys is out e = subst (λ b. LeavesToSkip skip b to) (sym is) (out, e)

module _ (leaves : List PlacedLeaf) (v w : View) (node degree j : ℕ) (s : IsSound v)
    (g : GoesOnTo v w) (h : HasSlots v node degree) (less : j < degree) (i skip : ℕ)
    (r : IsReading leaves (0 ∷ []) (before_one i) v node j (0 ∷ []) (before_one skip)) where
  -- it is this leaf
  pub at_leaf : (below : FinishedChild) (base : ℕ) → below ≡ Leaf base → IsUnder w node j below → skip ≡ 0
      → HasReadOne i leaves base
  at_leaf below base is found none = let under = subst (IsUnder w node j) is found in
      reading_full leaves (0 ∷ []) (before_one i) w node (j + 1) (base ∷ []) after_one
      (reading_more leaves (0 ∷ []) (before_one i) v w node degree j (0 ∷ []) (before_one skip)
      (base ∷ []) after_one s g h less r
      (λ word here slot has. leaf_read w (0 ∷ []) (base ∷ []) (before_one skip) after_one base here
      (λ leaf e. subst (λ b. HasRead (0 ∷ []) (before_one skip) (leaf ∷ []) (b ∷ []) after_one) e
      (one_taken (0 ∷ []) (before_one skip) after_one leaf (omega arith) (omega arith) refl refl))
      (under_leaves v w s g node degree j h less (LeafAt base) under word here slot has)))
      refl

  -- it is below this row
  pub below_row : (below : FinishedChild) (base keys found : ℕ) → below ≡ Row base keys
      → IsUnder w node j below
      → ((here : List PlacedLeaf) → HasLeaves (now w).pieces (Some (InnerAt base)) here
      → HasReadOne skip here found)
      → HasReadOne i leaves found
  below_row below base keys found is there told = let under = subst (IsUnder w node j) is there in
      reading_full leaves (0 ∷ []) (before_one i) w node (j + 1) (found ∷ []) after_one
      (reading_more leaves (0 ∷ []) (before_one i) v w node degree j (0 ∷ []) (before_one skip)
      (found ∷ []) after_one s g h less r
      (λ word here slot has. told here
      (under_leaves v w s g node degree j h less (InnerAt base) under.0 word here slot has)))
      refl

  -- what hangs below the slot is left out
  pub past : (less_to_skip : ℕ) (below : FinishedChild) → IsUnder w node j below → LeavesToSkip skip below less_to_skip
      → IsReading leaves (0 ∷ []) (before_one i) w node (j + 1) (0 ∷ []) (before_one less_to_skip)
  past to below under out =
      reading_more leaves (0 ∷ []) (before_one i) v w node degree j (0 ∷ []) (before_one skip)
      (0 ∷ []) (before_one to) s g h less r
      (λ word here slot has. one_slot below out under
      (λ ref reads. under_leaves v w s g node degree j h less ref reads word here slot has))
    where
      one_slot : (below : FinishedChild) → LeavesToSkip skip below to → IsUnder w node j below
          → {here : List PlacedLeaf}
          → ((ref : Ref) → SlotReads (now w) node j ref → HasLeaves (now w).pieces (Some ref) here)
          → HasRead (0 ∷ []) (before_one skip) here (0 ∷ []) (before_one to)
      one_slot Nothing out under {here} has =
          subst (λ n. HasRead (0 ∷ []) (before_one skip) here (0 ∷ []) (before_one n)) (sym out)
          (nothing_read w (0 ∷ []) (before_one skip) here (omega arith) (has Empty under))
      one_slot (Leaf base) out under {here} has =
          leaf_read w (0 ∷ []) (0 ∷ []) (before_one skip) (before_one to) base here
          (λ leaf e. one_left_out (0 ∷ []) (before_one skip) (before_one to) leaf (omega arith) out.0
          refl out.1)
          (has (LeafAt base) under)
      one_slot (Row base keys) out under {here} has =
          let many = leaves_number w g.sound base keys under.2 here (has (InnerAt base) under.0) in
          let few = out.0 in
          read_left_out (0 ∷ []) (before_one skip) (before_one to) here (omega arith) (omega arith) refl
          (out.1 ∙ ap (λ n. skip - n) (sym many))

-- the slots don't end before it
pub not_past : (u v : View) → IsSound u → IsSound v → (node degree j i skip : ℕ) → HasSlots v node degree
    → degree ≤ j → HasKeys (now u) node (i + 1)
    → ((leaves : List PlacedLeaf) → HasLeaves (now u).pieces (Some (InnerAt node)) leaves
    → IsReading leaves (0 ∷ []) (before_one i) v node j (0 ∷ []) (before_one skip))
    → ⊥
not_past u v s t node degree j i skip h all keys told =
    let it = some_leaves u s node (i + 1) keys in let enough = it.2 in
    not_after it.0 i skip (omega arith)
    (reading_last it.0 (0 ∷ []) (before_one i) v node degree j (0 ∷ []) (before_one skip) t h all
    (told it.0 it.1))

-- ---- what hangs below a slot, by the word that it was passed with. Serves `look_below`.

-- nothing, or a leaf
pub under_nothing : (v : View) → IsSound v → (node i word : ℕ) → IsFrozen v.log node i word
    → ref_of word ≡ Some Empty → IsUnder v node i Nothing
under_nothing v s node i word p is =
    frozen_slot_reads v s node i word Empty p (ap (past_rebuild (now v).pieces) is)

-- below a slot passed with the word of a leaf is this leaf
pub under_leaf : (v : View) → IsSound v → (node i word base : ℕ) → IsFrozen v.log node i word
    → ref_of word ≡ Some (LeafAt base) → IsUnder v node i (Leaf base)
under_leaf v s node i word base p is =
    frozen_slot_reads v s node i word (LeafAt base) p (ap (past_rebuild (now v).pieces) is)

-- an inner row
pub row_reads : (v : View) → IsSound v → (node i word base : ℕ) → IsFrozen v.log node i word
    → ref_of word ≡ Some (InnerAt base) → SlotReads (now v) node i (InnerAt base)
row_reads v s node i word base p is =
    frozen_slot_reads v s node i word (InnerAt base) p (ap (past_rebuild (now v).pieces) is)

-- or the target of a rebuild
pub target_reads : (v : View) → IsSound v → (node i word rebuild target : ℕ)
    → IsFrozen v.log node i word → ref_of word ≡ Some (RebuildAt rebuild)
    → HasTarget (now v) rebuild target → SlotReads (now v) node i (InnerAt target)
target_reads v s node i word rebuild target p is h =
    frozen_slot_reads v s node i word (InnerAt target) p
    (ap (past_rebuild (now v).pieces) is ∙ ap rebuild_reads h.published
    ∙ ap (λ n. Some (InnerAt n)) h.target_is)

-- below a slot passed with the word of a finished row is this row, which lies above the node
pub under_row : (v : View) → IsSound v → (node i word base keys : ℕ) → IsFrozen v.log node i word
    → ref_of word ≡ Some (InnerAt base) → IsFinishedWith (now v) base keys
    → IsUnder v node i (Row base keys)
under_row v s node i word base keys p is f =
    (row_reads v s node i word base p is, (row_below v s node i word base p is).above, f)

-- and below one passed with the word of a rebuild is its finished target
pub under_target : (v : View) → IsSound v → (node i word rebuild target keys : ℕ)
    → IsFrozen v.log node i word → ref_of word ≡ Some (RebuildAt rebuild)
    → HasTarget (now v) rebuild target → IsFinishedWith (now v) target keys
    → IsUnder v node i (Row target keys)
under_target v s node i word rebuild target keys p is h f = (
  target_reads v s node i word rebuild target p is h,
  (target_below v s node i word rebuild target p is h).above,
  f,
)

-- a rebuild keeps its target
pub target_on : (v w : View) → GoesOnTo v w → (rebuild target : ℕ) → HasTarget (now v) rebuild
    target → HasTarget (now w) rebuild target
target_on v w g rebuild target h =
    target_grows (now v) (now w) (goes_on_grow v w g) rebuild target h
