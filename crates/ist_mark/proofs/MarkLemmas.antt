-- Marking: when it is allowed, and what is known after it. Serves `mark` and `degree_of`.
use Rattle.std.proofs.Common.{◌≡◌, ◌≢◌, ℕ, ◌+◌, Some, option_map, refl, sym, ap, ap₂, ◌∙◌, subst, ⊎_elim, arith}
use Rattle.std.proofs.lemmas.Bool.Decides.{eqb_tells}
use Rattle.ist_core.specs.declared.events.Event.{Event}
use Rattle.ist_core.specs.declared.events.Event.TheVariants.{Mark}
use Rattle.ist_core.specs.declared.states.InnerRow.{InnerRow}
use Rattle.ist_core.specs.declared.events.Who.TheVariants.{Caller}
use Rattle.ist_core.specs.WordTerms.{inner_status_offset, Finished, status_of, open_word, marked_word, Inner, with_status, start}
use Rattle.ist_core.specs.TreeTerms.{IsCalled, IsFinishedWith}
use Rattle.ist_core.specs.LogTerms.{Snapshot, EachEnabled, state_of}
use Rattle.ist_core.proofs.AllLogLemmas.{grow_between, inner_there}
use Rattle.ist_core.proofs.AllWordLemmas.{changed_at-same, status_of-open, status_word-status_of}
use Rattle.ist_rule.specs.RuleTerms.{IsSound, now, Looked, Logged, Exchanged, CanMake, IsKnown, CanExchange, number_of, WentOn}
use Rattle.ist_rule.specs.declared.view.View.{View}
use Rattle.ist_rule.proofs.LaterLemmas.{later-goes_on}
use Rattle.ist_dcss.proofs.FieldLemmas.{looked_row}
use Rattle.laws_coming.specs.Coming.{IsGone}
use Rattle.laws_coming.proofs.KnownLemmas.{exchange_comes, in_piece, fast_known, gone_missed, open_gone}
use Rattle.ist_rule.proofs.WentOnLemmas.{logged_went, looked_went, went_who}
use Rattle.ist_mark.specs.Marking.{MayMark, the_node, Marks}
use Rattle.ist_mark.specs.MarkEvents.{marking}
use Rattle.ist_mark.specs.Passing.{IsClosed, MayPass}
use Rattle.ist_mark.proofs.KeepingLemmas.{inner_went, closed_went, called_inner}

-- the log before an event of the caller is lawful
pub before_enabled : (v : View) (event : Event) (w : View) (l : Logged v event w)
    → EachEnabled (start v.start v.words) l.before
before_enabled v event w l = grind arith

-- ---- the exchange

module _ (v : View) (s : IsSound v) (number node : ℕ) (mine : v.who ≡ Caller number)
    (row : InnerRow) (published : (now v).pieces node ≡ Some (Inner row)) (place : ℕ)
    (at : place ≡ node + inner_status_offset) where
  -- the status is known
  pub status_known : IsKnown v place
  status_known = grind (arith, fast_known, in_piece)

  -- a caller may mark a node that has a cause, whoever was first
  pub can_mark : IsCalled (now v) v.log node
      → CanExchange v place open_word marked_word (Mark number node)
  can_mark called =
      let make : CanMake v (Mark number node) =
      record { mine = sym mine; stored = tt; allowed = tt } in
      ⊎_elim
      (λ opened. exchange_comes v s (Mark number node) tt make place open_word marked_word record {
        enabled = record {
          known = s.is_true.low number mine;
          row = row;
          published = published;
          row_open = opened.1;
          called = called;
        };
        touches = ap (λ p. Some record { place = p; found = open_word; left = marked_word })
            (sym at);
      })
      (λ shut. gone_missed v (Mark number node) make place open_word marked_word status_known
      (subst (λ p. IsGone v p open_word) (sym at) (open_gone v node row published shut.1)))
      (eqb_tells row.status open_word)

-- the event that the exchange names
pub marking_is : (v : View) (number node place : ℕ) → v.who ≡ Caller number → place ≡ node
    → marking v place ≡ Mark number node
marking_is v number node place who at = ap₂ Mark (ap number_of who) at

-- ---- what is known after it

-- what is known of the node after a mark, or a try to mark it
pub record MarkTells (v w : View) (node found : ℕ) : Type 0 where
  pub went : WentOn (Marks w node) v w
  pub closed : IsClosed (now w) node
  -- if a finished status was found, the node is finished with its number of keys
  pub finished : (k : ℕ) → status_of found ≡ Some (Finished k) → IsFinishedWith (now w) node k

-- the word of a finished status isn't an open status's word
not_open : (word k : ℕ) → status_of word ≡ Some (Finished k) → word ≢ open_word
not_open word k e is = cc (sym (ap status_of is ∙ status_of-open) ∙ e)

module _ (v : View) (number node place found : ℕ) (w : View) (row : InnerRow)
    (published : (now v).pieces node ≡ Some (Inner row)) (at : place ≡ node + inner_status_offset)
  where
    -- after a Mark the node is marked
    mark_hit : Logged v (Mark number node) w → found ≡ open_word → MarkTells v w node found
    mark_hit l is = let b = state_of v.start v.words l.before in
        let on = inner_there (now v).pieces b.pieces
        (grow_between v.start v.words v.log l.before (before_enabled v (Mark number node) w l)
        (later-goes_on l.later)) node row published in
        let here : (now w).pieces node ≡ Some (with_status marked_word (Inner on.0)) =
        ap (λ x. (now x).pieces node) l.view
        ∙ changed_at-same b.pieces node (with_status marked_word)
        ∙ ap (option_map (with_status marked_word)) on.1 in
        record {
          went = logged_went (Marks w node) v (Mark number node) w l the_node refl;
          closed = record {
            row = record (on.0) { status = marked_word };
            published = here;
            closed = λ e. omega arith;
          };
          finished = λ k e. absurd (not_open found k e is);
        }

    -- and if another word was found, it is the status of a node that isn't open
    mark_miss : Looked v place found w → found ≢ open_word → MarkTells v w node found
    mark_miss l other = let went = looked_went (Marks w node) v place found w l in
        let on = inner_went (Marks w node) v w went node row published in
        let is : found ≡ on.0.status =
        looked_row v place found w l node (Inner on.0) 0 on.0.status on.1 refl at in
        record {
          went = went;
          closed = record { row = on.0; published = on.1; closed = λ e. other (is ∙ e) };
          finished = λ k e. record {
            row = on.0;
            published = on.1;
            status = sym is ∙ sym (status_word-status_of found (Finished k) e);
          };
        }

    -- after an exchange of an open status for a marked one the node isn't open, and a finished
    -- status that was found is the node's
    pub mark_tells : Exchanged v (Mark number node) place open_word found w
        → MarkTells v w node found
    mark_tells x =
        ⊎_elim (λ hit. mark_hit (x.0 hit.1) hit.1) (λ miss. mark_miss (x.1 miss.1) miss.1)
        (eqb_tells found open_word)

-- a load of the degree gives the number of slots that may be passed
pub degree_tells : (v : View) (place degree : ℕ) (w : View) → Looked v place degree w → (node : ℕ)
    → MayMark v node → IsClosed (now v) node → place ≡ node + 2 → MayPass w node degree
degree_tells v place degree w l node m c at =
    let went = looked_went (Marks w node) v place degree w l in
    let now_closed = closed_went (Marks w node) v w went node c in record {
      number = m.number;
      mine = went_who (Marks w node) v w went ∙ m.mine;
      row = now_closed.row;
      published = now_closed.published;
      closed = now_closed.closed;
      degree_is = sym (looked_row v place degree w l node (Inner now_closed.row) 2
          now_closed.row.degree now_closed.published refl at);
    }

-- ---- the two together

-- what a caller knows of a node that it may mark
pub mark_row : (v : View) → IsSound v → (node : ℕ) → MayMark v node
    → (row : InnerRow) × ((now v).pieces node ≡ Some (Inner row))
mark_row v s node m =
    let it = called_inner v.start v.words s.lawful.opens v.log s.lawful.enabled node m.called in
    (it.0, it.1)

-- the exchange of its status may be its Mark
pub may_mark : (v : View) → IsSound v → (node : ℕ) → MayMark v node → (place old new : ℕ)
    → place ≡ node + inner_status_offset → old ≡ open_word → new ≡ marked_word
    → CanExchange v place old new (marking v place)
may_mark v s node m place old new at old_is new_is = let it = mark_row v s node m in
    let base : place ≡ node = omega arith in
    subst (λ n. CanExchange v place n new (marking v place)) (sym old_is)
    (subst (λ n. CanExchange v place open_word n (marking v place)) (sym new_is)
    (subst (λ (e : Event). CanExchange v place open_word marked_word e)
    (sym (marking_is v m.number node place m.mine base))
    (can_mark v s m.number node m.mine it.0 it.1 place at m.called)))

-- after a load that finds a finished status, as much is known as after a try to mark the node
pub finished_told : (v : View) → IsSound v → (node : ℕ) → MayMark v node → (place word k : ℕ) (w : View)
    → place ≡ node + inner_status_offset → Looked v place word w → status_of word ≡ Some (Finished k)
    → MarkTells v w node word
finished_told v s node m place word k w at l is = let it = mark_row v s node m in
    mark_miss v m.number node place word w it.0 it.1 at l (not_open word k is)

-- and this is known after the exchange
pub mark_told : (v : View) → IsSound v → (node : ℕ) → MayMark v node → (place old found : ℕ)
    → (w : View) → place ≡ node + inner_status_offset → old ≡ open_word
    → Exchanged v (marking v place) place old found w → MarkTells v w node found
mark_told v s node m place old found w at old_is x = let it = mark_row v s node m in
    let base : place ≡ node = omega arith in mark_tells v m.number node place found w it.0 it.1 at
    (subst (λ (e : Event). Exchanged v e place open_word found w)
    (marking_is v m.number node place m.mine base)
    (subst (λ n. Exchanged v (marking v place) place n found w) old_is x))

-- a finished node isn't open
pub finished_closed : (t : Snapshot) (node k : ℕ) → IsFinishedWith t node k → IsClosed t node
finished_closed t node k f = grind arith
