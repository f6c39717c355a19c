-- The conjunct `one_home`: an inner row is named for one slot only, by the slot, a change of it or
-- a rebuild for it.
-- Serves the one-parent law.
use Rattle.std.proofs.Common.{◌≡◌, ℕ, ◌⊎◌, ◌==◌, if◌then◌else◌, slice_get, Option, Some, None, refl, sym, ap, ◌∙◌, subst, inl, inr, ⊎_elim, arith}
use Rattle.std.proofs.lemmas.Bool.Decides.{eqb_tells}
use Rattle.ist_core.specs.Types.{RebuildRow}
use Rattle.ist_core.specs.WordTerms.{anchor, Ref, InnerAt, ref_of, Pieces, Piece, Leaf, Inner, Change, Rebuild, changed_at, with_slot, with_status, counted, with_decision, drawn, SlotHolds, in_anchor, in_row}
use Rattle.ist_core.specs.LogTerms.{Snapshot}
use Rattle.ist_core.proofs.OptionLemmas.{changed_at-some, no_value}
use Rattle.ist_core.proofs.StepLemmas.{Adds}
use Rattle.ist_core.proofs.RoomLemmas.{get-set_some}
use Rattle.ist_core.proofs.NamingLemmas.{InnerHere, SlotNames, RowNames, SideNames, RootNames, WordsName}

-- ---- what is named for a slot

-- the row at the base names the reference for slot i of the node: in this slot, as a side of a
-- change of this slot, or as the
-- target or the root of a rebuild for this slot
abbrev pub Says : ℕ → Piece → ℕ → ℕ → Ref → Type 0
Says base (Leaf r) node i ref = ⊥
Says base (Inner r) node i ref = (node ≡ base) × (word : ℕ) × (slice_get r.slots i ≡ Some word) ×
    (ref_of word ≡ Some ref)
Says base (Change r) node i ref = (node ≡ r.node) × (i ≡ r.index) ×
    ((ref_of r.from ≡ Some ref) ⊎ (ref_of r.to ≡ Some ref))
Says base (Rebuild r) node i ref = (node ≡ r.parent) × (i ≡ r.index) ×
    ((InnerAt r.target ≡ ref) ⊎ (ref_of r.root ≡ Some ref))

-- the reference is named for slot i of the node
abbrev pub Mentions : Snapshot → ℕ → ℕ → Ref → Type 0
Mentions t node i ref = ((node ≡ anchor) × (i ≡ 0) × (ref_of t.anchor ≡ Some ref))
    ⊎ ((base : ℕ) × (p : Piece) × (t.pieces base ≡ Some p) × Says base p node i ref)

-- an inner row is named for one slot only
pub record HasOneHome (t : Snapshot) : Type 0 where
  -- two slots for which the same inner row is named are one slot
  pub one : (n i k j child : ℕ) → Mentions t n i (InnerAt child) → Mentions t k j (InnerAt child)
      → (n ≡ k) × (i ≡ j)

-- what a slot holds is named for it
pub slot_mentions : (t : Snapshot) (node i word : ℕ) (ref : Ref) → SlotHolds t node i word
    → ref_of word ≡ Some ref → Mentions t node i ref
slot_mentions t node i word ref (in_anchor a b e) is = inl (a, b, ap ref_of e ∙ is)
slot_mentions t node i word ref (in_row r p e) is = inr (node, Inner r, p, (refl, word, e, is))

-- an inner row that is named is published
pub mentioned_here : (t : Snapshot) (node i child : ℕ) → WordsName t
    → Mentions t node i (InnerAt child) → InnerHere t.pieces child
mentioned_here t node i child o (inl h) = grind (arith, SlotNames)
mentioned_here t node i child o (inr h) = at h.1 (o.rows h.0 h.1 h.2) h.3
  where
    at : (p : Piece) → RowNames t.pieces h.0 p → Says h.0 p node i (InnerAt child)
        → InnerHere t.pieces child
    at (Leaf r) names says = absurd says
    at (Inner r) names says = grind (arith, SlotNames)
    at (Change r) names says = grind (arith, SideNames)
    at (Rebuild r) names says = grind (arith, InnerHere, RootNames)

-- ---- what an event names

-- what is named was named before the event, or is new
abbrev pub WasNamedOrIsNew : (ℕ → Ref) → Snapshot → (ℕ → ℕ → ℕ → Type 0) → ℕ → ℕ → ℕ → Type 0
WasNamedOrIsNew of t New node i child = Mentions t node i (of child) ⊎ New node i child

-- whatever the row names was named before the event, or is new
unfoldable pub SaysCame : (ℕ → Ref) → Snapshot → (ℕ → ℕ → ℕ → Type 0) → ℕ → Piece → Type 0
SaysCame of t New base p = (node i child : ℕ) → Says base p node i (of child) → WasNamedOrIsNew of t New node i
    child

-- whatever the word names was named before the event, or is new
unfoldable pub WordCame : (ℕ → Ref) → Snapshot → (ℕ → ℕ → ℕ → Type 0) → ℕ → ℕ → Option Ref → Type 0
WordCame of t New node i ref = (child : ℕ) → ref ≡ Some (of child) → WasNamedOrIsNew of t New node i child

-- whatever these rows name was named before the event, or is new
unfoldable pub AllCame : (ℕ → Ref) → Snapshot → (ℕ → ℕ → ℕ → Type 0) → Pieces → Type 0
AllCame of t New ps = (base : ℕ) (p : Piece) → ps base ≡ Some p → SaysCame of t New base p

-- new rows are published now, and named for one slot
pub record AreNew (t : Snapshot) (New : ℕ → ℕ → ℕ → Type 0) : Type 0 where
  -- a new row wasn't published before
  pub unpublished : (node i child : ℕ) → New node i child → t.pieces child ≡ None
  -- two slots for which the same new row is named are one slot
  pub one : (n i k j child : ℕ) → New n i child → New k j child → (n ≡ k) × (i ≡ j)

-- whatever the rows of a state name was named in it
pub came_old : (of : ℕ → Ref) (t : Snapshot) (New : ℕ → ℕ → ℕ → Type 0) → AllCame of t New t.pieces
unfolding AllCame SaysCame
came_old of t New base p e node i child says = inl (inr (base, p, e, says))

-- if the added rows name what was named before or is new, so do all rows
pub came_added : (of : ℕ → Ref) (t : Snapshot) (New : ℕ → ℕ → ℕ → Type 0) (ps qs : Pieces)
    (Born : ℕ → Piece → Type 0) → Adds ps qs Born → AllCame of t New ps
    → ((base : ℕ) (p : Piece) → Born base p → qs base ≡ Some p → SaysCame of t New base p)
    → AllCame of t New qs
unfolding AllCame
came_added of t New ps qs Born adds all born base p e = grind arith

-- if a changed row names what was named before or is new, so do all rows
pub came-changed_at : (of : ℕ → Ref) (t : Snapshot) (New : ℕ → ℕ → ℕ → Type 0) (ps : Pieces)
    (at : ℕ) (f : Piece → Piece) → AllCame of t New ps
    → ((p : Piece) → ps at ≡ Some p → SaysCame of t New at p → SaysCame of t New at (f p))
    → AllCame of t New (changed_at ps at f)
unfolding AllCame
came-changed_at of t New ps at f all keeps base q e = grind (arith, changed_at-some)

-- ---- writes

-- if the written word names what was named before or is new, so does the row with it in a slot
pub came-with_slot : (of : ℕ → Ref) (t : Snapshot) (New : ℕ → ℕ → ℕ → Type 0) (node i word : ℕ)
    (p : Piece) → WordCame of t New node i (ref_of word) → SaysCame of t New node p
    → SaysCame of t New node (with_slot i word p)
unfolding SaysCame WordCame
came-with_slot of t New node i word (Inner r) came old n j child says = ⊎_elim
    (λ w. subst (λ x. WasNamedOrIsNew of t New x j child) (sym says.0)
    (subst (λ x. WasNamedOrIsNew of t New node x child) (sym w.0)
    (came child (ap ref_of (sym w.1) ∙ says.3))))
    (λ w. old n j child (says.0, says.1, w, says.3)) (get-set_some r.slots i j word says.1 says.2)
came-with_slot of t New node i word (Leaf r) came old n j child says = old n j child says
came-with_slot of t New node i word (Change r) came old n j child says = old n j child says
came-with_slot of t New node i word (Rebuild r) came old n j child says = old n j child says

-- if the root's word names what was named before or is new, so does the rebuild with it
pub came-with_root : (of : ℕ → Ref) (t : Snapshot) (New : ℕ → ℕ → ℕ → Type 0) (base word : ℕ)
    (r : RebuildRow)
    → WordCame of t New r.parent r.index (ref_of word) → SaysCame of t New base (Rebuild r)
    → SaysCame of t New base (Rebuild record r { root = word })
unfolding SaysCame WordCame
came-with_root of t New base word r came old node i child says = grind arith

-- a status names nothing
pub came-with_status : (of : ℕ → Ref) (t : Snapshot) (New : ℕ → ℕ → ℕ → Type 0) (base status : ℕ)
    (p : Piece) → SaysCame of t New base p → SaysCame of t New base (with_status status p)
unfolding SaysCame
came-with_status of t New base status (Inner r) h = h
came-with_status of t New base status (Leaf r) h = h
came-with_status of t New base status (Change r) h = h
came-with_status of t New base status (Rebuild r) h = h

-- a count names nothing
pub came-counted : (of : ℕ → Ref) (t : Snapshot) (New : ℕ → ℕ → ℕ → Type 0) (base : ℕ) (p : Piece)
    → SaysCame of t New base p → SaysCame of t New base (counted p)
unfolding SaysCame
came-counted of t New base (Inner r) h = h
came-counted of t New base (Leaf r) h = h
came-counted of t New base (Change r) h = h
came-counted of t New base (Rebuild r) h = h

-- a draw word names nothing
pub came-drawn : (of : ℕ → Ref) (t : Snapshot) (New : ℕ → ℕ → ℕ → Type 0) (base : ℕ) (p : Piece)
    → SaysCame of t New base p → SaysCame of t New base (drawn p)
unfolding SaysCame
came-drawn of t New base (Inner r) h = h
came-drawn of t New base (Leaf r) h = h
came-drawn of t New base (Change r) h = h
came-drawn of t New base (Rebuild r) h = h

-- a decision names nothing
pub came-with_decision : (of : ℕ → Ref) (t : Snapshot) (New : ℕ → ℕ → ℕ → Type 0)
    (base decision : ℕ) (p : Piece)
    → SaysCame of t New base p → SaysCame of t New base (with_decision decision p)
unfolding SaysCame
came-with_decision of t New base decision (Inner r) h = h
came-with_decision of t New base decision (Leaf r) h = h
came-with_decision of t New base decision (Change r) h = h
came-with_decision of t New base decision (Rebuild r) h = h

-- ---- homes after an event

-- if each named row was named before or is new where it is named, each inner row still has one home
pub one_home_from : (t u : Snapshot) (New : ℕ → ℕ → ℕ → Type 0) → HasOneHome t → WordsName t
    → AreNew t New → AllCame InnerAt t New u.pieces → WordCame InnerAt t New anchor 0
    (ref_of u.anchor) → HasOneHome u
unfolding AllCame SaysCame WordCame
one_home_from t u New home names new all word = record {
  one = λ n i k j child x y. both n i k j child (came n i child x) (came k j child y);
}
  where
    came : (node i child : ℕ) → Mentions u node i (InnerAt child) → WasNamedOrIsNew InnerAt t New node i child
    came node i child (inl h) = grind arith
    came node i child (inr h) = all h.0 h.1 h.2 node i child h.3

    both : (n i k j child : ℕ) → WasNamedOrIsNew InnerAt t New n i child → WasNamedOrIsNew InnerAt t New k j child →
        (n ≡ k) × (i ≡ j)
    both n i k j child (inl x) (inl y) = home.one n i k j child x y
    both n i k j child (inl x) (inr y) = let p = mentioned_here t n i child names x in absurd
        (no_value (t.pieces child) (Inner p.0) (new.unpublished k j child y) p.1)
    both n i k j child (inr x) (inl y) = let p = mentioned_here t k j child names y in absurd
        (no_value (t.pieces child) (Inner p.0) (new.unpublished n i child x) p.1)
    both n i k j child (inr x) (inr y) = new.one n i k j child x y

-- an event that leaves the rows and the anchor
pub one_home_same : (t u : Snapshot) → HasOneHome t → u.anchor ≡ t.anchor → u.pieces ≡ t.pieces
    → HasOneHome u
one_home_same t u home word pieces = record
    { one = λ n i k j child x y. home.one n i k j child (back n i child x) (back k j child y) }
  where
    back : (node i child : ℕ) → Mentions u node i (InnerAt child)
        → Mentions t node i (InnerAt child)
    back node i child (inl h) = inl (h.0, h.1, ap ref_of (sym word) ∙ h.2)
    back node i child (inr h) = inr (h.0, h.1, subst (λ ps. ps h.0 ≡ Some h.1) pieces h.2, h.3)

-- what the anchor's word names after a slot is written
pub anchor_came : (of : ℕ → Ref) (t u : Snapshot) (New : ℕ → ℕ → ℕ → Type 0) (node i word : ℕ)
    → u.anchor ≡ (if node == anchor then word else t.anchor) → (node ≡ anchor → i ≡ 0)
    → WordCame of t New node i (ref_of word) → WordCame of t New anchor 0 (ref_of u.anchor)
unfolding WordCame
anchor_came of t u New node i word is zero_there came child e = grind (arith, eqb_tells)

-- what the anchor's word names if it isn't written
pub anchor_old : (of : ℕ → Ref) (t u : Snapshot) (New : ℕ → ℕ → ℕ → Type 0) → u.anchor ≡ t.anchor
    → WordCame of t New anchor 0 (ref_of u.anchor)
unfolding WordCame
anchor_old of t u New word child e = inl (inl (refl, refl, ap ref_of (sym word) ∙ e))
