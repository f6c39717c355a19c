-- What a caller holds while it reserves, and the words that it stored there. Serves the calls that
-- put a build in place.
use Rattle.std.proofs.Common.{◌≡◌, ◌≢◌, ℕ, suc, ◌+◌, ◌<◌, ◌≤◌, ◌==◌, slice_get, true, if◌then◌else◌, List, [], ◌∷◌, ◌++◌, length, map, Some, refl, sym, ap, ap₂, ◌∙◌, subst, inl, inr, ⊎_elim, append-nil, append_assoc, arith, ◌-◌, drop, le_refl}
use Rattle.std.proofs.lemmas.Bool.Decides.{eqb_tells}
use Rattle.std.proofs.lemmas.List.{map-append, length-map}
use Rattle.std.proofs.lemmas.List.Elements.{filter-append}
use Rattle.ist_core.specs.declared.events.Event.{Event}
use Rattle.ist_core.specs.declared.events.Event.TheVariants.{Reserve}
use Rattle.ist_core.specs.declared.lists.HeldRow.{HeldRow}
use Rattle.ist_core.specs.declared.lists.Row.{Row}
use Rattle.ist_core.specs.declared.pairs.Pair.{Pair}
use Rattle.ist_core.specs.declared.events.Who.TheVariants.{Caller as CallerOf}
use Rattle.ist_core.specs.LogTerms.{Among, EachEnabled, state_of, Log, bases_of, HoldsRows, no_more, one_more, LaterBy, Each, HoldsRow}
use Rattle.ist_core.specs.WordTerms.{start, degree, first_keys, InnerAt, ref_of, word_of, inner_words, shape}
use Rattle.ist_core.proofs.AllWordLemmas.{among-append, among_right, among-filter, ref_of-word_of, least_degree-le, shape_many}
use Rattle.ist_core.proofs.AllEventLemmas.{sound, sound_start}
use Rattle.ist_rule.specs.RuleTerms.{StoredAll, IsSound, own_at, now}
use Rattle.ist_rule.specs.declared.view.View.{View}
use Rattle.ist_rule.specs.declared.view.OwnWord.{OwnWord}
use Rattle.ist_rows.specs.RowTerms.{held_by}
use Rattle.ist_rows.specs.declared.callers.Caller.{Caller}
use Rattle.ist_rows.proofs.ShortLemmas.{held_by_step}
use Rattle.ist_build.specs.BuildEvents.{row_stored}
use Rattle.ist_build.specs.Midway.{words_at, AreLaidBelow, IsOpened, IsLaying}
use Rattle.ist_build.specs.Laying.{Rises, IsReservation, ArePlaced, IsLaidBelow}
use Rattle.ist_build.proofs.BuiltLemmas.{next_between}
use Rattle.ist_build.proofs.RisingListLemmas.{of_map, rises_last}
use Rattle.std.specs.List.{sum, flat_map}
use Rattle.std.proofs.lemmas.List.Sums.{sum_by-cons}
use Rattle.ist_core.specs.TreeTerms.{PlacedLeaf}
use Rattle.laws_calls.specs.Dividing.{lens_to, parts_to}
use Rattle.laws_calls.proofs.PartLemmas.{parts_all, lens_all}
use Rattle.ist_build.proofs.BuildingLemmas.{held_good}
use Rattle.ist_build.proofs.LayingLemmas.{length-words_at}
use Rattle.ist_build.proofs.JoinedSubtreeLemmas.{laid_top, top_rows}

-- ---- what a caller holds, while it reserves

-- it holds more rows, which lie from the first free word on
pub record HoldsMore (pairs : List Pair) (words number : ℕ) (old log : Log) : Type 0 where
  pub fresh : List HeldRow
  pub is : held_by (state_of pairs words log) number ≡ held_by (state_of pairs words old) number ++ fresh
  -- they lie at the former first free word or after it
  pub high : (h : HeldRow) → Among h fresh → (state_of pairs words old).next ≤ h.base
  pub rising : Rises (map (λ h. h.base) fresh)

module _ (pairs : List Pair) (words number : ℕ) where
  reserve_more : (old log : Log) (caller base size : ℕ)
      → EachEnabled (start pairs words) (Reserve caller base size ∷ log)
      → (state_of pairs words old).next ≤ base → HoldsMore pairs words number old log
      → HoldsMore pairs words number old (Reserve caller base size ∷ log)
  reserve_more old log caller base size can le rest =
      ⊎_elim (λ k. mine k.0) (λ k. others k.1) (eqb_tells caller number)
    where
      others : caller ≢ number → HoldsMore pairs words number old (Reserve caller base size ∷ log)
      others differ = record {
        fresh = rest.fresh;
        is = held_by_step pairs words log (Reserve caller base size) number can
            (λ e. differ (cc)) ∙ rest.is;
        high = rest.high;
        rising = rest.rising;
      }

      low : (h : HeldRow) → h ≡ record { caller = caller; base = base; size = size }
          → (state_of pairs words old).next ≤ h.base
      low h q = subst (λ b. (state_of pairs words old).next ≤ b) (sym (ap (λ x. x.base) q)) le

      -- all that was held lies below the new row
      below : (b : ℕ) → (h : HeldRow) × Among h rest.fresh × (h.base ≡ b) → b < base
      below b it =
          let there = subst (Among it.0) (sym rest.is)
          (among_right it.0 (held_by (state_of pairs words old) number) rest.fresh it.1) in
          let in_all = (among-filter (λ (x : HeldRow). x.caller == number) it.0
          (state_of pairs words log).held there).0 in
          let low_is = (sound (start pairs words) log (sound_start pairs words) can.0).held_below it.0
          in_all in
          let at_next = can.1.base_is in let same = it.2 in omega arith

      mine : (caller == number) ≡ true
          → HoldsMore pairs words number old (Reserve caller base size ∷ log)
      mine e = let row : HeldRow = record { caller = caller; base = base; size = size } in record {
        fresh = rest.fresh ++ row ∷ [];
        is = filter-append (λ (h : HeldRow). h.caller == number) (state_of pairs words log).held
            (row ∷ [])
            ∙ ap (λ b. held_by (state_of pairs words log) number ++ (if b then row ∷ [] else [])) e
            ∙ ap (λ xs. xs ++ row ∷ []) rest.is
            ∙ append_assoc (held_by (state_of pairs words old) number) rest.fresh (row ∷ []);
        high = λ h i. ⊎_elim (λ j. rest.high h j) (λ j. ⊎_elim (λ q. low h q) (λ q. absurd q) j)
            (among-append h rest.fresh (row ∷ []) i);
        rising = subst Rises (sym (map-append (λ (h : HeldRow). h.base) rest.fresh (row ∷ [])))
            (rises_last (map (λ h. h.base) rest.fresh) base rest.rising
            (λ b i. below b (of_map b rest.fresh i)));
      }

  -- after reservations only, the caller holds what it held and fresh rows above the first free word
  pub holds_more : (old log : Log) → EachEnabled (start pairs words) log
      → LaterBy (CallerOf number) IsReservation old log → HoldsMore pairs words number old log
  holds_more old _ enabled no_more = record {
    fresh = [];
    is = sym (append-nil (held_by (state_of pairs words old) number));
    high = λ h i. absurd i;
    rising = tt;
  }
  holds_more old _ enabled (one_more {log = log} event l (inl other)) =
      let rest = holds_more old log enabled.0 l in record {
        fresh = rest.fresh;
        is = held_by_step pairs words log event number enabled other ∙ rest.is;
        high = rest.high;
        rising = rest.rising;
      }
  holds_more old _ enabled (one_more {log = log} event l (inr own)) =
      by_event event own enabled (holds_more old log enabled.0 l)
    where
      by_event : (e : Event) → IsReservation e → EachEnabled (start pairs words) (e ∷ log)
          → HoldsMore pairs words number old log → HoldsMore pairs words number old (e ∷ log)
      by_event (Reserve caller base size) own can rest =
          let up = next_between pairs words (CallerOf number) IsReservation old log can.0 l in
          let at_next = can.1.base_is in
          reserve_more old log caller base size can (omega arith) rest
      by_event _ own can rest = absurd own

-- ---- what was built is held no more

-- an equal front of two equal lists cancels
pub cancel : (xs ys zs : List ℕ) → xs ++ ys ≡ xs ++ zs → ys ≡ zs
cancel [] ys zs e = e
cancel (x ∷ xs) ys zs e = cancel xs ys zs (cc)

-- words that a caller stored one after another
words_stored : (own : List OwnWord) (place : ℕ) (words : List ℕ)
    → ((k : ℕ) → k < length words → slice_get words k ≡ Some (own_at own (place + k)))
    → words_at own place (length words) ≡ words
words_stored own place [] h = refl
words_stored own place (x ∷ xs) h = ap₂ (λ y ys. y ∷ ys) (first (h 0 (omega arith)))
    (words_stored own (place + 1) xs
    (λ k less. h (suc k) (omega arith)
    ∙ ap (λ p. Some (own_at own p)) (let q : place + suc k ≡ place + 1 + k = omega arith in q)))
  where
    first : Some x ≡ Some (own_at own (place + 0)) → own_at own place ≡ x
    first e = grind arith

-- the rows that a caller stored, by what it holds there
pub stored_rows : (w : View) (number : ℕ) → IsSound w → (rows : List Row) (fresh : List HeldRow)
    → bases_of rows ≡ map (λ h. h.base) fresh → StoredAll w rows → HoldsRows (now w) number rows
    → ((h : HeldRow) → Among h fresh → Among h (now w).held) → map (row_stored w) fresh ≡ rows
stored_rows w number s [] [] e stored held all = refl
stored_rows w number s [] (h ∷ fresh) e stored held all = absurd (let n = ap length e in omega arith)
stored_rows w number s (row ∷ rows) [] e stored held all = grind arith
stored_rows w number s (row ∷ rows) (h ∷ fresh) e stored held all = ap₂ (λ x xs. x ∷ xs) here
    (stored_rows w number s rows fresh rest stored.1 held.1 (λ g i. all g (inr i)))
  where
    base_is : row.base ≡ h.base
    base_is = cc

    rest : bases_of rows ≡ map (λ g. g.base) fresh
    rest = cc

    size_is : h.size ≡ length row.words
    size_is = ap (λ x. x.size)
        ((sound (start w.start w.words) w.log (sound_start w.start w.words) s.lawful.enabled).once h
        record { caller = number; base = row.base; size = length row.words } (all h (inl refl)) held.0
        (sym base_is))

    here : row_stored w h ≡ row
    here = grind (arith, base_is, size_is, words_stored)

-- any event
abbrev pub AnyEvent : Event → Type 0
AnyEvent event = Unit {0}

-- ---- a row that was built only by stores, with all its parts: where its rows end, and what is built.
-- Serves `lay`.

-- the rows of all parts end where the rows of the whole end
pub block_end : (n base d j : ℕ) → 2 ≤ n → d ≡ degree n → j ≡ d
    → base + inner_words d + sum (flat_map shape (lens_to n j)) ≡ base + sum (shape n)
block_end n base d j two d_is all =
    let shape_is = shape_many n two
    ∙ ap (λ xs. inner_words (degree n) ∷ flat_map shape xs) (sym (lens_all n)) in
    let total : sum (shape n) ≡ inner_words (degree n) + sum (flat_map shape (lens_to n (degree n))) =
    ap sum shape_is
    ∙ sum_by-cons (λ x. x) (inner_words (degree n)) (flat_map shape (lens_to n (degree n))) in
    let to = ap (λ i. sum (flat_map shape (lens_to n i))) (all ∙ d_is) in
    let first = ap inner_words d_is in omega arith

-- all parts are laid, by the number of leaves
record Facts (who : Caller) (base high : ℕ) (placed : List PlacedLeaf) (n : ℕ) : Type 0 where
  held : HoldsRow (now who.token.view) who.number base (inner_words (degree n))
  opened : IsOpened who.token.view.own base (degree n) n
  keys : words_at who.token.view.own (base + 4) (degree n - 1)
      ≡ first_keys (λ leaf. leaf.row.key) (drop 1 (parts_to n (degree n) placed))
  laid : AreLaidBelow who.token.view who.number (base + inner_words (degree n)) high base
      (words_at who.token.view.own (base + 3 + degree n) (degree n)) (parts_to n (degree n) placed)
  room : base + inner_words (degree n) ≤ high
  two : 2 ≤ n

module _ (old who : Caller) (leaves : List ℕ) (base d j next : ℕ)
    (m : IsLaying old leaves base d j next who) (d_is : d ≡ degree (length leaves)) (all : j ≡ d)
    (two : 2 ≤ length leaves) where
  abbrev n : ℕ
  n = length leaves

  abbrev w : View
  w = who.token.view

  whole : IsLaying old leaves base (degree n) (degree n) next who
  whole = grind arith

  -- the whole is laid
  pub all_laid_below : (word : ℕ) → word ≡ word_of (InnerAt base) → (placed : List PlacedLeaf)
      → ArePlaced (now old.token.view) leaves placed
      → IsLaidBelow w who.number base next word placed
  all_laid_below word is placed a =
      let k : length placed ≡ n =
      sym (length-map placed (λ (leaf : PlacedLeaf). leaf.base)) ∙ ap length a.bases_are in
      subst (λ i. Facts who base next placed i → IsLaidBelow w who.number base next word placed) k
      by_length
      record {
        held = whole.held;
        opened = whole.opened;
        keys = whole.keys placed a;
        laid = whole.laid placed a;
        room = let at = whole.next_is in omega arith;
        two = two;
      }
    where
      good : ref_of word ≡ Some (InnerAt base)
      good = ap ref_of is ∙ ref_of-word_of (InnerAt base)
          (held_good w m.written.sound who.number base (inner_words d) m.held)

      by_length : Facts who base next placed (length placed)
          → IsLaidBelow w who.number base next word placed
      by_length f = let c = degree (length placed) in
          let keys = f.keys ∙ ap (λ ps. first_keys (λ (leaf : PlacedLeaf). leaf.row.key) (drop 1 ps))
          (parts_all placed) in
          let parts = subst (AreLaidBelow w who.number (base + inner_words c) next base
          (words_at w.own (base + 3 + c) c)) (parts_all placed) f.laid in
          let size = length-words_at w.own base (inner_words c) in let room = f.room in record {
            laid = laid_top w m.written.sound who.number base base word placed f.two (le_refl base)
                f.held f.opened keys parts.laid (least_degree-le (length placed)) good;
            ends = subst (Each (λ row. row.base + length row.words ≤ next))
                (sym (top_rows w m.written.sound who.number base base word placed f.two (le_refl base)
                f.held f.opened keys parts.laid (least_degree-le (length placed)) good))
                (omega arith, parts.ends);
          }
