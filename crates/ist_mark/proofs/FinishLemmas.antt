-- Finishing: when it is allowed, and what is known after it. Serves `finish`.
use Rattle.std.proofs.Common.{◌≡◌, ◌≢◌, ℕ, ◌+◌, ◌≤◌, ◌∷◌, Some, option_map, refl, sym, ap, ◌∙◌, subst, ⊎_elim, arith, ◌^◌, ◌<◌}
use Rattle.std.proofs.lemmas.Bool.Decides.{eqb_tells}
use Rattle.ist_core.specs.declared.events.Event.{Event}
use Rattle.ist_core.specs.declared.events.Event.TheVariants.{Finish}
use Rattle.ist_core.specs.declared.states.InnerRow.{InnerRow}
use Rattle.ist_core.specs.WordTerms.{inner_status_offset, place_limit, marked_word, finished_word, Inner, with_status, changed_at, ref_of}
use Rattle.ist_core.specs.LogTerms.{Snapshot, state_of, Passes}
use Rattle.ist_core.specs.TreeTerms.{ArePassed, CanFinish, IsFinishedWith, CountsFor, of_child, of_target}
use Rattle.ist_core.proofs.AllLogLemmas.{grow_between, inner_there, closed_on}
use Rattle.ist_core.proofs.AllWordLemmas.{changed_at-same}
use Rattle.ist_core.proofs.AllPlaceLemmas.{shaped}
use Rattle.laws_links.proofs.FinishedLemmas.{finished_passed}
use Rattle.laws_links.proofs.ContentLemmas.{finished_few}
use Rattle.ist_rule.specs.RuleTerms.{IsSound, now, Looked, Logged, Exchanged, CanMake, CanExchange, WentOn}
use Rattle.ist_rule.specs.declared.view.View.{View}
use Rattle.ist_rule.proofs.LaterLemmas.{later-goes_on}
use Rattle.ist_dcss.proofs.FieldLemmas.{looked_row}
use Rattle.laws_coming.specs.Coming.{IsGone}
use Rattle.laws_coming.proofs.KnownLemmas.{exchange_comes, gone_missed, mark_gone}
use Rattle.ist_rule.proofs.WentOnLemmas.{logged_went, looked_went, went_who}
use Rattle.ist_mark.specs.Marking.{the_node, Marks, MayMark, LeadsTo, to_row, to_target, LiesUnder, one_lower}
use Rattle.ist_mark.specs.MarkEvents.{finishing}
use Rattle.ist_mark.specs.Passing.{MayFinish, AreCounted, MayPass, MayGoOn, PassedWith, IsSlotCounted, one_slot_more}
use Rattle.ist_mark.proofs.CountLemmas.{counted_all, passed_once, count_few, counted_few}
use Rattle.ist_mark.proofs.KeepingLemmas.{inner_went, counted_went, happened_went, may_mark_went, may_pass_went, closed_status}
use Rattle.ist_mark.proofs.MarkLemmas.{before_enabled, status_known}
use Rattle.ist_mark.specs.declared.below.PassedChild.TheVariants.{Node}
use Rattle.ist_mark.proofs.PassLemmas.{degree_low}
use Rattle.ist_mark.proofs.SubtreeLemmas.{leads_later, under_later}

-- after a Finish the node is finished
finished_after : (t : Snapshot) (node keys : ℕ) (r : InnerRow) → t.pieces node ≡ Some (Inner r)
    → IsFinishedWith (record t {
      pieces = changed_at t.pieces node (with_status (finished_word keys));
    }) node keys
finished_after t node keys r e = record {
  row = record r { status = finished_word keys };
  published = changed_at-same t.pieces node (with_status (finished_word keys))
      ∙ ap (option_map (with_status (finished_word keys))) e;
  status = refl;
}

module _ (v : View) (s : IsSound v) (node keys : ℕ) (m : MayFinish v node keys) where
  -- each slot was passed
  passed : ArePassed (now v) v.log node 0 m.row.slots keys
  passed = counted_all v.start v.words s.lawful.opens v.log s.lawful.enabled node keys m.row.slots
      (subst (λ n. AreCounted (now v) v.log node n keys)
      (sym (shaped v.start v.words v.log s.lawful.enabled node (Inner m.row) m.published).slots)
      m.counted)

  -- a marked node may be finished
  can : m.row.status ≡ marked_word → CanFinish (now v) v.log m.number node keys
  can marked = grind (arith, passed)

  -- a finished one has this number
  same_number : (k : ℕ) → m.row.status ≡ finished_word k → k ≡ keys
  same_number k is =
      passed_once v.start v.words s.lawful.opens v.log s.lawful.enabled node 0 k keys m.row.slots
      (finished_passed v.start v.words v.log s.lawful.enabled node k m.row m.published is) passed

  -- the number fits
  pub keys_few : keys ≤ place_limit
  keys_few = ⊎_elim
      (λ marked. finished_few v.start v.words s.lawful.opens (Finish m.number node keys ∷ v.log)
      (s.lawful.enabled, can marked) node keys (finished_after (now v) node keys m.row m.published))
      (λ f. subst (λ n. n ≤ place_limit) (same_number f.0 f.1)
      (finished_few v.start v.words s.lawful.opens v.log s.lawful.enabled node f.0
      record { row = m.row; published = m.published; status = f.1 }))
      (closed_status v.start v.words v.log s.lawful.enabled node m.row m.published m.closed)

  module _ (place : ℕ) (at : place ≡ node + inner_status_offset) where
    can_finish : CanExchange v place marked_word (finished_word keys) (Finish m.number node keys)
    can_finish =
        let make : CanMake v (Finish m.number node keys) =
        record { mine = sym m.mine; stored = tt; allowed = tt } in
        ⊎_elim
        (λ marked. exchange_comes v s (Finish m.number node keys) tt make place marked_word
        (finished_word keys) record {
          enabled = can marked;
          touches = ap (λ p. Some record {
            place = p;
            found = marked_word;
            left = finished_word keys;
          }) (sym at);
        })
        (λ f. gone_missed v (Finish m.number node keys) make place marked_word (finished_word keys)
        (status_known v s m.number node m.mine m.row m.published place at)
        (subst (λ p. IsGone v p marked_word) (sym at)
        (mark_gone v node f.0 m.row m.published f.1)))
        (closed_status v.start v.words v.log s.lawful.enabled node m.row m.published m.closed)

    finish_hit : (w : View) → Logged v (Finish m.number node keys) w
        → WentOn (Marks w node) v w × IsFinishedWith (now w) node keys
    finish_hit w l = let b = state_of v.start v.words l.before in
        let on = inner_there (now v).pieces b.pieces
        (grow_between v.start v.words v.log l.before
        (before_enabled v (Finish m.number node keys) w l) (later-goes_on l.later)) node m.row
        m.published in (
          logged_went (Marks w node) v (Finish m.number node keys) w l the_node refl,
          subst (λ (x : View). IsFinishedWith (now x) node keys) (sym l.view)
              (finished_after b node keys on.0 on.1),
        )

    finish_miss : (found : ℕ) (w : View) → Looked v place found w → found ≢ marked_word
        → WentOn (Marks w node) v w × IsFinishedWith (now w) node keys
    finish_miss found w l other = let went = looked_went (Marks w node) v place found w l in
        let on = inner_went (Marks w node) v w went node m.row m.published in
        let is : found ≡ on.0.status =
        looked_row v place found w l node (Inner on.0) 0 on.0.status on.1 refl at in
        let enabled = l.sound.lawful.enabled in (
          went,
          ⊎_elim (λ marked. absurd (other (is ∙ marked)))
              (λ f.
              let counted = counted_went (Marks w node) v w went node m.row.degree keys m.counted in
              let all = counted_all w.start w.words l.sound.lawful.opens w.log enabled node keys
              on.0.slots
              (subst (λ n. AreCounted (now w) w.log node n keys)
              (sym on.2.degree
              ∙ sym (shaped w.start w.words w.log enabled node (Inner on.0) on.1).slots) counted) in
              let one = passed_once w.start w.words l.sound.lawful.opens w.log enabled node 0 f.0
              keys on.0.slots (finished_passed w.start w.words w.log enabled node f.0 on.0 on.1 f.1)
              all in
              subst (IsFinishedWith (now w) node) one
              record { row = on.0; published = on.1; status = f.1 })
              (closed_status w.start w.words w.log enabled node on.0 on.1
              (closed_on m.row.status on.0.status on.2.status m.closed)),
        )

    -- the event that the exchange names
    finishing_is : (new : ℕ) → new ≡ finished_word keys
        → finishing v place new ≡ Finish m.number node keys
    finishing_is new is = grind arith

    -- the exchange of the status may be its Finish
    pub may_finish : (old new : ℕ) → old ≡ marked_word → new ≡ finished_word keys
        → CanExchange v place old new (finishing v place new)
    may_finish old new old_is new_is = grind (arith, finishing_is, can_finish)

    -- after it the node is finished with this number, whoever was first
    pub finish_told : (old new found : ℕ) (w : View) → old ≡ marked_word → new ≡ finished_word keys
        → Exchanged v (finishing v place new) place old found w
        → WentOn (Marks w node) v w × IsFinishedWith (now w) node keys
    finish_told old new found w old_is new_is x = ⊎_elim
        (λ hit.
        finish_hit w (subst (λ (e : Event). Logged v e w) (finishing_is new new_is) (x.0 hit.1)))
        (λ miss. finish_miss found w (x.1 miss.1) (λ e. miss.1 (e ∙ sym old_is)))
        (eqb_tells found old)

-- ---- what is put together of marking, passing and finishing. Serves `count_slot` and `mark_and_count`.

-- ---- one slot

-- an inner row below a passed slot has a cause to be marked, and lies above the node
pub below_called : {P : Event → Type 0} (v w : View) (node degree i child : ℕ)
    → MayPass v node degree → WentOn P v w → PassedWith w node i (Node child) → (node < child) × MayMark w child
below_called {P = P} v w node degree i child m g p = (
  p.is.above,
  record { number = m.number; mine = went_who P v w g ∙ m.mine; called = p.is.called },
)

-- a word that leads to a finished row counts for its number
leads_counts : (t : Snapshot) (word child k : ℕ) → LeadsTo t word child → IsFinishedWith t child k
    → CountsFor t (ref_of word) k
leads_counts t word child k (to_row is) f = subst (λ o. CountsFor t o k) (sym is) (of_child f)
leads_counts t word child k (to_target rebuild is h) f =
    subst (λ o. CountsFor t o k) (sym is) (of_target h f)

-- an inner row below a passed slot is a row of the subtree
pub below_under : (v : View) (node i child : ℕ) → PassedWith v node i (Node child)
    → LiesUnder (now v) v.log node child
below_under v node i child p = one_lower i p.word the_node p.frozen p.is.leads

-- so marking may go on with it, after loads too
pub may_go_on : {P : Event → Type 0} (v u w : View) (node degree i child : ℕ) → MayPass v node degree
    → WentOn P v u → PassedWith u node i (Node child) → WentOn (Marks w node) u w
    → MayGoOn w node child
may_go_on v u w node degree i child m first p second =
    let it = below_called v u node degree i child m first p in record {
      above = it.0;
      may_mark = may_mark_went (Marks w node) u w second child it.1;
      under = under_later u w second node child (below_under u node i child p);
    }

-- once the row is finished, the slot is counted
pub row_counted : {P : Event → Type 0} (v w : View) → WentOn P v w → (node i child k : ℕ)
    → PassedWith v node i (Node child) → IsFinishedWith (now w) child k → IsSlotCounted w node i k
row_counted {P = P} v w g node i child k p f = record {
  word = p.word;
  frozen = happened_went P v w g (Passes node i p.word) p.frozen;
  counts = leads_counts (now w) p.word child k (leads_later v w g p.word child p.is.leads) f;
}

-- ---- all slots

-- one slot more is counted
pub slot_counted : {P : Event → Type 0} (v w : View) → WentOn P v w → (node i k here : ℕ)
    → AreCounted (now v) v.log node i k → IsSlotCounted w node i here
    → AreCounted (now w) w.log node (i + 1) (k + here)
slot_counted {P = P} v w g node i k here a c =
    one_slot_more c.word (counted_went P v w g node i k a) c.frozen c.counts

-- the sum of slots that were counted, with one more, is no great number
pub sum_low : (v u w : View) (node degree i k here : ℕ) → AreCounted (now u) u.log node i k
    → IsSlotCounted w node i here → i < degree → MayPass v node degree → WentOn (Marks u node) v u
    → WentOn (Marks w node) u w → k + here < 2 ^ 64
sum_low v u w node degree i k here a c less m g h = let s = g.sound in let r = h.sound in
    let low = degree_low u s node degree (may_pass_went (Marks u node) v u g node degree m) in
    let few = counted_few u.start u.words s.lawful.opens u.log s.lawful.enabled node i k a in
    let more = count_few w.start w.words r.lawful.opens w.log r.lawful.enabled (ref_of c.word) here
    c.counts in
    omega arith

-- a node whose slots were all counted may be finished
pub all_counted : {P : Event → Type 0} (v w : View) (node degree i k : ℕ) → MayPass v node degree
    → AreCounted (now w) w.log node i k → i ≡ degree → WentOn P v w → MayFinish w node k
all_counted {P = P} v w node degree i k m a last g =
    let here = may_pass_went P v w g node degree m in record {
      number = here.number;
      mine = here.mine;
      row = here.row;
      published = here.published;
      closed = here.closed;
      counted = subst (λ n. AreCounted (now w) w.log node n k) (last ∙ sym here.degree_is) a;
    }
