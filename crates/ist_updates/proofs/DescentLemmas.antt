-- One step down of a walk, and what the walk from there makes of it. Serves `descend`.
use Rattle.std.proofs.Common.{◌≡◌, ◌≢◌, ℕ, List, [], ◌∷◌, ◌++◌, Option, Some, None, sym, ap, subst, Bool, true, false, refl, ◌∙◌, arith}
use Rattle.std.specs.Prelude.{IfOk, IsErrAnd, Ok, Err, Result}
use Rattle.ist_core.specs.declared.commands.Command.{Command}
use Rattle.ist_core.specs.declared.ports.Full.{Full}
use Rattle.ist_core.specs.declared.events.Event.{Event}
use Rattle.ist_core.specs.declared.events.Event.TheVariants.{Count}
use Rattle.ist_core.specs.TreeTerms.{CanCount}
use Rattle.ist_core.specs.LogTerms.{Log, Lawful}
use Rattle.ist_core.specs.WordTerms.{InnerAt, Unset, ref_of, IsChildFor, SlotHolds, start}
use Rattle.ist_rule.specs.RuleTerms.{TokenFace, now, GoesOnTo, WentOn, number_of}
use Rattle.ist_rule.specs.declared.view.View.{View}
use Rattle.laws_coming.specs.Further.{CameFurther}
use Rattle.ist_rows.specs.RowTerms.{StaysReady, HasRefused, KeepsRows, InstallsNone, IsCaller, IsQuiet}
use Rattle.ist_rows.specs.declared.callers.Caller.{Caller}
use Rattle.ist_rows.proofs.GoneLemmas.{ready_more}
use Rattle.ist_find.specs.Searches.{HasCome, Came, Names}
use Rattle.ist_updates.specs.declared.updates.Applied.{Applied}
use Rattle.ist_updates.specs.declared.updates.When.{When}
use Rattle.ist_updates.specs.declared.updates.Outcome.{Outcome}
use Rattle.ist_updates.specs.declared.updates.Outcome.TheVariants.{Took, Unmet}
use Rattle.ist_updates.specs.Asking.{Updates, command_for, IsAsked}
use Rattle.ist_updates.specs.Ending.{IsWalk}
use Rattle.ist_updates.specs.Further.{IsFreshNode}
use Rattle.ist_updates.specs.Meeting.{HasMissed, IsMetBy, IsTryMet}
use Rattle.ist_updates.specs.Trying.{IsAtSlot}
use Rattle.ist_updates.specs.Walking.{HasCounted, HasStood, HasWalked, IsCountAt, HasCountedAt}
use Rattle.ist_updates.proofs.AfterLemmas.{after_loads}
use Rattle.ist_updates.proofs.FurtherLemmas.{come_linked, down_fresh, fresh_on}
use Rattle.ist_updates.proofs.MissLemmas.{missed_loads}
use Rattle.ist_updates.proofs.ResultLemmas.{err_walked}
use Rattle.ist_updates.proofs.WalkingLemmas.{on_before, walked_here, none_below, may_count_there, stood_there, counted_here}
use Rattle.ist_rule.proofs.WentOnLemmas.{went_all, went_lawful}
use Rattle.ist_rows.proofs.CallerLawLemmas.{caller_went, refused_went, resolved_went}
use Rattle.ist_updates.proofs.NextRowLemmas.{due_before, due_here, counted_more}

-- the caller has gone down by loads to the slot of its key, which holds the word
pub record IsDown (old : Caller) (token : TokenFace) (key : ℕ) (value : Option ℕ) (node index word : ℕ)
    : Type 0 where
  pub asked : IsAsked (record old { token = token }) (command_for key value)
  pub came : Came old.token.view key node
  pub seen : GoesOnTo old.token.view token.view
  pub child : IsChildFor (now token.view) node key index
  pub holds : SlotHolds (now token.view) node index word
  pub names : Names token.view (ref_of word)
  pub set : ref_of word ≢ Some Unset
  pub stays : (rows : List ℕ) → HasCome old.token.view key node rows
      → HasCome token.view key node rows
  pub down : (rows : List ℕ) (child : ℕ) → HasCome old.token.view key node rows
      → ref_of word ≡ Some (InnerAt child) → HasCome token.view key child (rows ++ child ∷ [])

-- the walk from a row below took effect: the caller may count at the row, and with that Count the
-- walk from the node took effect
pub record HasComeBack (old : Caller) (key : ℕ) (value : Option ℕ) (when : When)
    (node index row words : ℕ) (below : Applied) (second : Caller) : Type 0 where
  pub can : let u = second.token.view in CanCount (start u.start u.words) u.log second.number row
  pub stood : let u = second.token.view in HasStood u.start u.words u.log node index row
  pub walk : let u = second.token.view in (done : Applied) (new : Caller)
      → StaysReady Updates second new
      → ((earlier : Log) (command : Command) (rows : List ℕ)
      → HasCounted u.start u.words earlier u.log second.number command (rows ++ row ∷ []) below
      → HasCounted u.start u.words earlier new.token.view.log second.number command rows done)
      → done.reply ≡ below.reply → IsWalk old key value when node words (Ok (Some (Took done))) new

module _ {old : Caller} {token : TokenFace} {key : ℕ} {value : Option ℕ} {node index word : ℕ}
    (s : IsDown old token key value node index word) where
  abbrev there : Caller
  there = record old { token = token }

  -- if it names no inner row, the walk has come to its end
  pub at_slot : ((base : ℕ) → ref_of word ≢ Some (InnerAt base))
      → IsAtSlot token.view key node index word
  at_slot low = record {
    came = (s.came.0, s.stays s.came.0 s.came.1);
    child = s.child;
    holds = s.holds;
    names = s.names;
    set = s.set;
    low = low;
  }

  module _ {when : When} {words : ℕ} where
    -- a walk that ends at the node
    pub here_walk : {r : Result (Option Outcome) Full} {new : Caller} → StaysReady Updates there new
        → HasWalked there key value node words r new
        → (r ≡ Ok None → (first : View) → IsFreshNode first token.view node
        → CameFurther first new.token.view)
        → IfOk r (IsTryMet when) → (r ≡ Ok (Some Unmet) → HasMissed token.view new.token.view key when)
        → IsWalk old key value when node words r new
    here_walk {r} {new} on walked further met missed = record {
      on = on_before old token s.seen Updates new on;
      walked = grind (arith, walked_here);
      further = λ is first fresh. further is first
          (fresh_on first old.token.view token.view node fresh
          (after_loads old.token.view token.view s.seen) s.seen.sound);
      met = met;
      missed = grind (arith, missed_loads);
    }

    module _ {row : ℕ} (is : ref_of word ≡ Some (InnerAt row)) where
      none_walk : (r : Result (Option Outcome) Full) (new : Caller) → ((done : Applied) → r ≢ Ok (Some (Took done)))
          → IsWalk there key value when row words r new → IsWalk old key value when node words r new
      none_walk r new none h = record {
        on = on_before old token s.seen Updates new h.on;
        walked = none_below old token s.seen key value node row words new r none h.walked;
        further = λ again first fresh. h.further again first
            (down_fresh first token.view node index word row
            (fresh_on first old.token.view token.view node fresh
            (after_loads old.token.view token.view s.seen) s.seen.sound) s.seen.sound
            (come_linked token.view s.seen.sound key node s.came.0 (s.stays s.came.0 s.came.1))
            s.holds is);
        met = h.met;
        missed = grind (arith, missed_loads);
      }

      -- a walk that goes on from a row below and takes no effect
      pub below_walk : {x y : Option Outcome} {new : Caller} → x ≡ y
          → ((done : Applied) → y ≢ Some (Took done))
          → IsWalk there key value when row words (Ok x) new
          → IsWalk old key value when node words (Ok y) new
      below_walk {x} {y} {new} is none h = none_walk (Ok y) new (λ done e. none done (cc))
          (subst (λ z. IsWalk there key value when row words (Ok z) new) is h)

      -- a walk that goes on from a row below and is refused
      pub refused_walk : (r : Result (Option Outcome) Full) {full : Full} {new : Caller}
          → IsErrAnd r (λ x. x ≡ full) → IsWalk there key value when row words (Err full) new
          → IsWalk old key value when node words r new
      refused_walk (Ok x) {full} {new} same h = absurd same
      refused_walk (Err e) {full} {new} same h =
          subst (λ x. IsWalk old key value when node words (Err x) new) (sym same)
          (none_walk (Err full) new (λ done e. err_walked full (Some (Took done)) e) h)

      -- a walk that goes on from a row below and takes effect
      pub come_back : {x : Option Outcome} {below : Applied} {second : Caller} → x ≡ Some (Took below)
          → IsWalk there key value when row words (Ok x) second
          → HasComeBack old key value when node index row words below second
      come_back {x} {below} {second} took h =
          let took_is : ◌≡◌ {A = Result (Option Outcome) Full} (Ok x) (Ok (Some (Took below))) = ap Ok took in
          let on = h.on.gone in
          let walked = subst (λ r. IsWalk there key value when row words r second) took_is h in
          record {
            can = may_count_there old token s.seen key value node index word row s.asked s.came
                (λ rows come. s.down rows row come is) s.stays s.holds is words below second on.number
                on.went walked.walked;
            stood = stood_there old token s.seen key value node index word row s.asked s.came
                (λ rows come. s.down rows row come is) s.stays s.holds is words below second on.number
                on.went walked.walked;
            walk = λ done new more counted same. record {
              on = ready_more Updates old second new (on_before old token s.seen Updates second h.on)
                  more;
              walked = counted_here old token s.seen key value node index word row s.asked s.came
                  (λ rows come. s.down rows row come is) s.stays s.holds is words below second
                  on.number on.went walked.walked done new.token.view.log counted;
              further = λ e. absurd (cc);
              met = subst (IsMetBy when) (sym same) walked.met;
              missed = λ e. absurd (cc);
            };
          }

-- ---- a caller that made one Count is still well-formed, and has counted its update at one row more.
-- Serves `count_update`.

module _ (who : Caller) (row : ℕ) (c : IsCaller who) (q : IsQuiet who) where
  abbrev v : View
  v = who.token.view

  module _ (token : TokenFace) (g : WentOn (IsCountAt (number_of v.who) row) v token.view) where
    -- what is true of a Count is true of all own events
    by_count : (P : Event → Type 0) → P (Count (number_of v.who) row) → WentOn P v token.view
    by_count P is = grind (arith, went_all)

    -- the caller went on by steps of an update
    pub counted_went : WentOn Updates v token.view
    counted_went = by_count Updates tt

    -- the caller is still well-formed
    pub counted_caller : IsCaller (record who { token = token })
    counted_caller = caller_went who token c (by_count KeepsRows tt)

    -- the builds of which it holds rows are still refused
    pub counted_refused : HasRefused who → HasRefused (record who { token = token })
    counted_refused r = refused_went who token c r (by_count KeepsRows tt)

    -- the caller is still quiet
    pub counted_quiet : IsQuiet (record who { token = token })
    counted_quiet = record {
      pending = q.pending;
      in_call = ap (λ x. x.pending) g.same ∙ q.in_call;
      resolved = resolved_went v token.view who.number c.mine q.resolved (by_count InstallsNone tt);
    }

    -- so a ready caller stays ready
    pub counted_on : HasRefused who → StaysReady Updates who (record who { token = token })
    counted_on r = grind (arith, counted_caller, counted_refused, counted_went, counted_quiet)

    module _ (reached : Bool)
        (k : HasCountedAt v.start v.words v.log (number_of v.who) row reached token.view.log) where
      its_count : HasCountedAt v.start v.words v.log who.number row reached token.view.log
      its_count = grind arith

      lawful : Lawful v.start v.words token.view.log
      lawful = went_lawful (IsCountAt (number_of v.who) row) v token.view g

      module _ (earlier : Log) (command : Command) (rows : List ℕ) (below : Applied)
          (x : HasCounted v.start v.words earlier v.log who.number command (rows ++ row ∷ []) below)
        where
          -- if the count reached the limit, the row is due
          pub counted_due : reached ≡ true → (parent index : ℕ)
              → HasStood v.start v.words v.log parent index row
              → HasCounted v.start v.words earlier token.view.log who.number command rows record {
                reply = below.reply;
                due = Some record { parent = parent; index = index; target = row };
              }
          counted_due hit parent index stood =
              counted_more v.start v.words lawful.opens earlier v.log token.view.log lawful.enabled
              who.number row reached its_count command rows below x q.resolved
              record {
                reply = below.reply;
                due = Some record { parent = parent; index = index; target = row };
              }
              refl
              (due_here v.start v.words lawful.opens earlier v.log token.view.log lawful.enabled
              who.number row reached its_count command rows below x hit parent index stood)

          -- and else what was due before
          pub counted_as_before : reached ≡ false
              → HasCounted v.start v.words earlier token.view.log who.number command rows below
          counted_as_before miss =
              counted_more v.start v.words lawful.opens earlier v.log token.view.log lawful.enabled
              who.number row reached its_count command rows below x q.resolved below refl
              (due_before v.start v.words lawful.opens earlier v.log token.view.log lawful.enabled
              who.number row reached its_count miss below.due x.due)
