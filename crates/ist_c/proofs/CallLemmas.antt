-- What a pass behind a handle found, and what its updates did.
use Rattle.std.proofs.Common.{◌≡◌, ℕ, Option, Result, Ok, Err, IfOk, IfErr, sym, subst, ◌≢◌, List, length, arith}
use Rattle.std.specs.Arc.{arc_value}
use Rattle.ist_core.specs.declared.commands.Command.TheVariants.{Get}
use Rattle.ist_core.specs.declared.ports.Full.{Full}
use Rattle.ist_core.specs.declared.pairs.Pair.{Pair}
use Rattle.ist_updates.specs.Asking.{command_for}
use Rattle.ist_tree.specs.CallTerms.{HasSeenMore, AddsCall, HasUpdated, IsTurnedAway, HasAnswered, HasStartedNone}
use Rattle.ist_tree.specs.declared.freezing.Frozen.{Frozen}
use Rattle.ist_handles.specs.declared.results.CallResult.{CallResult}
use Rattle.ist_handles.specs.declared.results.Shortage.{Shortage}
use Rattle.ist_handles.specs.declared.held.Held.{Held}
use Rattle.ist_handles.specs.declared.passes.TreePass.{TreePass}
use Rattle.ist_handles.specs.Results.{done, full, value_if, full_of, misuse}
use Rattle.ist_c.specs.Calls.{HasNotCalled, FindsBy, UpdatesBy, pass_finds, pass_updates, pass_refused}
use Rattle.ist_c.specs.Conditions.{UpdatesIf, pass_updates_if, pass_refused_if}
use Rattle.ist_scan.specs.Room.{HadRoom, IsShotRefused}
use Rattle.ist_scan.specs.Shots.{HasTakenShot}
use Rattle.ist_handles.specs.declared.pieces.Piece.{Piece}
use Rattle.ist_handles.specs.ShotPieces.{ShotFace}
use Rattle.ist_c.specs.Kinds.{IsNoPass, IsNoShot}
use Rattle.ist_c.specs.Shots.{HasListedShot, TakesShot, CountsShot, ListsShot, DropsShot, pass_takes, shot_refused, none_takes, counts_shot, lists_shot, drops_shot, drops_no_shot}
use Rattle.ist_handles.specs.declared.held.Held.TheVariants as of

-- ---- one call of a pass

-- a get by a handle of a pass is one call more of this pass, with the reply of the result
pub found : (held : Held) (p q : TreePass) (key : ℕ) (reply : Option ℕ) (said : CallResult)
    → held ≡ of.Pass p → arc_value q.tree ≡ arc_value p.tree → HasSeenMore p.pass q.pass
    → AddsCall p.pass q.pass (Get key) reply → said.status ≡ done
    → value_if said.some said.value ≡ reply → FindsBy held (of.Pass q) key said
found held p q key reply said is tree seen added status says =
    subst (λ (h : Held). FindsBy h (of.Pass q) key said) (sym is)
    (pass_finds p q key said status (record {
      same_tree = tree;
      seen = seen;
      added = subst (λ (r : Option ℕ). AddsCall p.pass q.pass (Get key) r) (sym says) added;
    }))

-- an update by a handle of a pass that returns Ok is one call more, with the reply of the result
pub updated : (held : Held) (p q : TreePass) (key : ℕ) (value : Option ℕ)
    (result : Result (Option ℕ) Full) (reply : Option ℕ) (said : CallResult) (short : Shortage)
    → held ≡ of.Pass p → result ≡ Ok reply → arc_value q.tree ≡ arc_value p.tree
    → HasSeenMore p.pass q.pass
    → IfOk result (HasUpdated p.pass q.pass (command_for key value)) → said.status ≡ done
    → value_if said.some said.value ≡ reply → UpdatesBy held (of.Pass q) key value said short short
updated held p q key value result reply said short is ok tree seen updates status says =
    let command = command_for key value in
    let it = subst (λ (r : Result (Option ℕ) Full). IfOk r (HasUpdated p.pass q.pass command)) ok
    updates in
    subst (λ (h : Held). UpdatesBy h (of.Pass q) key value said short short) (sym is)
    (pass_updates p q key value said short status (record {
      same_tree = tree;
      seen = seen;
      added = subst (λ (r : Option ℕ). AddsCall p.pass q.pass command r) (sym says) it.added;
    }))

-- an update that returns Err made no call, and was refused with the numbers of the shortage
pub not_called : (p q : TreePass) (key : ℕ) (value : Option ℕ) (result : Result (Option ℕ) Full)
    (numbers : Full) (short : Shortage) → result ≡ Err numbers → arc_value q.tree ≡ arc_value p.tree
    → HasSeenMore p.pass q.pass → IfErr result (IsTurnedAway p.pass q.pass key value)
    → full_of short ≡ numbers → HasNotCalled p q key value (full_of short)
not_called p q key value result numbers short err tree seen away says = grind arith

-- an update by a handle of a pass that returns Err leaves the pass's calls, and reports its numbers
pub was_refused : (held : Held) (p q : TreePass) (key : ℕ) (value : Option ℕ)
    (result : Result (Option ℕ) Full) (numbers : Full) (said : CallResult) (before short : Shortage)
    → held ≡ of.Pass p → result ≡ Err numbers → arc_value q.tree ≡ arc_value p.tree
    → HasSeenMore p.pass q.pass → IfErr result (IsTurnedAway p.pass q.pass key value) → said.status ≡ full → full_of short ≡ numbers
    → UpdatesBy held (of.Pass q) key value said before short
was_refused held p q key value result numbers said before short is err tree seen away status says =
    subst (λ (h : Held). UpdatesBy h (of.Pass q) key value said before short) (sym is)
    (pass_refused p q key value said before short status
    (not_called p q key value result numbers short err tree seen away says))

-- ---- what a conditional update by a pass behind a handle did.

-- what a call says of its reply
abbrev Says : (p q : TreePass) (key : ℕ) (expected value reply : Option ℕ) → Type 0
Says p q key expected value reply =
    (reply ≡ expected → AddsCall p.pass q.pass (command_for key value) reply)
    × (reply ≢ expected → AddsCall p.pass q.pass (Get key) reply)

-- a conditional update that returns Ok is one update if the reply is as expected, and else one get
pub updated_if : (held : Held) (p q : TreePass) (key : ℕ) (expected value : Option ℕ)
    (result : Result (Option ℕ) Full) (reply : Option ℕ) (said : CallResult) (short : Shortage)
    → held ≡ of.Pass p → result ≡ Ok reply → arc_value q.tree ≡ arc_value p.tree
    → HasSeenMore p.pass q.pass
    → IfOk result (HasAnswered p.pass q.pass key (command_for key value) expected)
    → said.status ≡ done → value_if said.some said.value ≡ reply
    → UpdatesIf held (of.Pass q) key expected value said short short
updated_if held p q key expected value result reply said short is ok tree seen answered status says =
    let R : Type 0 = Result (Option ℕ) Full in
    let told = subst (λ (r : R). IfOk r (HasAnswered p.pass q.pass key (command_for key value) expected)) ok answered in
    let both : Says p q key expected value (value_if said.some said.value) =
    subst (λ (r : Option ℕ). Says p q key expected value r) (sym says) (told.took, told.got) in
    subst (λ (h : Held). UpdatesIf h (of.Pass q) key expected value said short short) (sym is)
    (pass_updates_if p q key expected value said short status (record {
      same_tree = tree;
      seen = seen;
      updated = both.0;
      got = both.1;
    }))

-- a conditional update that returns Err leaves the pass's calls, and reports its numbers
pub was_refused_if : (held : Held) (p q : TreePass) (key : ℕ) (expected value : Option ℕ)
    (result : Result (Option ℕ) Full) (numbers : Full) (said : CallResult) (before short : Shortage)
    → held ≡ of.Pass p → result ≡ Err numbers → arc_value q.tree ≡ arc_value p.tree
    → HasSeenMore p.pass q.pass → IfErr result (IsTurnedAway p.pass q.pass key value)
    → said.status ≡ full → full_of short ≡ numbers
    → UpdatesIf held (of.Pass q) key expected value said before short
was_refused_if held p q key expected value result numbers said before short is err tree seen away status says =
    subst (λ (h : Held). UpdatesIf h (of.Pass q) key expected value said before short) (sym is)
    (pass_refused_if p q key expected value said before short status
    (not_called p q key value result numbers short err tree seen away says))

-- ---- what a pass behind a handle did with a shot.

-- ---- taking

-- a shot that the pass took is held with the pass
pub shot_taken : (p q : TreePass) (s : ShotFace) (shot : Frozen) (words : ℕ) (short : Shortage)
    → arc_value q.tree ≡ arc_value p.tree → HasSeenMore p.pass q.pass → q.pass.calls ≡ p.pass.calls
    → HasTakenShot p.pass q.pass shot → HadRoom p.pass q.pass words → s.taker ≡ q → s.shot ≡ shot
    → TakesShot (of.Pass p) (of.Shot s) words done short short
shot_taken p q s shot words short tree seen calls taken room its_taker its_shot =
    pass_takes p s words short (record {
      same_tree = subst (λ (t : TreePass). arc_value t.tree ≡ arc_value p.tree) (sym its_taker) tree;
      seen = subst (λ (t : TreePass). HasSeenMore p.pass t.pass) (sym its_taker) seen;
      calls = subst (λ (t : TreePass). t.pass.calls ≡ p.pass.calls) (sym its_taker) calls;
      taken = subst (λ (t : TreePass). HasTakenShot p.pass t.pass s.shot) (sym its_taker)
          (subst (λ (f : Frozen). HasTakenShot p.pass q.pass f) (sym its_shot) taken);
      room = subst (λ (t : TreePass). HadRoom p.pass t.pass words) (sym its_taker) room;
    })

-- one that was refused leaves the pass
pub shot_not : (p q : TreePass) (words status : ℕ) (numbers : Full) (before short : Shortage)
    → arc_value q.tree ≡ arc_value p.tree → HasSeenMore p.pass q.pass → q.pass.calls ≡ p.pass.calls
    → IsShotRefused p.pass q.pass words numbers → HasStartedNone p.pass q.pass → status ≡ full
    → full_of short ≡ numbers → TakesShot (of.Pass p) (of.Pass q) words status before short
shot_not p q words status numbers before short tree seen calls cause unstarted is says =
    subst (λ (n : ℕ). TakesShot (of.Pass p) (of.Pass q) words n before short) (sym is)
    (shot_refused p q words before short (record {
      same_tree = tree;
      seen = seen;
      calls = calls;
      cause = subst (λ (f : Full). IsShotRefused p.pass q.pass words f) (sym says) cause;
      unstarted = unstarted;
    }))

-- ---- by a handle

-- a shot by a handle of a pass is one by this pass
pub took_shot : (held after : Held) (p : TreePass) (words status : ℕ) (before short : Shortage)
    → held ≡ of.Pass p → TakesShot (of.Pass p) after words status before short
    → TakesShot held after words status before short
took_shot held after p words status before short is takes = grind arith

-- a handle of something else is as before
pub took_none : (held other : Held) (words : ℕ) (short : Shortage) → other ≡ held → IsNoPass other
    → TakesShot held other words misuse short short
took_none held other words short is differs =
    subst (λ (h : Held). TakesShot h other words misuse short short) is (none_takes other words short differs)

-- a handle of a shot says how many pairs it has
pub counted_shot : (held : Held) (s : ShotFace) (keys before : ℕ) → held ≡ of.Shot s
    → keys ≡ s.shot.keys → CountsShot held done before keys
counted_shot held s keys before is value =
    subst (λ (h : Held). CountsShot h done before keys) (sym is)
    (subst (λ (n : ℕ). CountsShot (of.Shot s) done before n) (sym value) (counts_shot s before))

-- a handle of a shot lists it, and holds it still
pub listed_shot : (held : Held) (s t : ShotFace) (first last : ℕ) (room after : List Pair)
    (before piece : Piece) → held ≡ of.Shot s → length after ≡ length room
    → HasListedShot s t first last after piece
    → ListsShot held (of.Shot t) first last done room after before piece
listed_shot held s t first last room after before piece is same listed =
    subst (λ (h : Held). ListsShot h (of.Shot t) first last done room after before piece) (sym is)
    (lists_shot s t first last room after before piece same listed)

-- a handle of a shot that was dropped holds its pass
pub dropped_shot : (held : Held) (s : ShotFace) (p : TreePass) → held ≡ of.Shot s → p ≡ s.taker
    → DropsShot held (of.Pass p) done
dropped_shot held s p is its = subst (λ (h : Held). DropsShot h (of.Pass p) done) (sym is)
    (subst (λ (q : TreePass). DropsShot (of.Shot s) (of.Pass q) done) (sym its) (drops_shot s))

-- a handle of something else is as before
pub dropped_none : (held other : Held) → other ≡ held → IsNoShot other → DropsShot held other misuse
dropped_none held other is differs =
    subst (λ (h : Held). DropsShot h other misuse) is (drops_no_shot other differs)
