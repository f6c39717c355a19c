-- A port keeps its last refusal, which is one of its pass. Serves the `call` of a port.
use Rattle.std.proofs.Common.{◌≡◌, ◌≢◌, ℕ, Option, Result, Ok, Err, IfErr, inl, inr, ⊎_elim, arith}
use Rattle.ist_core.specs.declared.commands.Command.{Command}
use Rattle.ist_core.specs.declared.commands.Command.TheVariants.{Get, Put, Remove}
use Rattle.ist_core.specs.declared.ports.Full.{Full}
use Rattle.ist_core.specs.LogTerms.{Log, Refused, refusal}
use Rattle.ist_rule.proofs.LaterLemmas.{goes_on_more}
use Rattle.ist_updates.specs.Asking.{command_for}
use Rattle.ist_tree.proofs.HeardLemmas.{seen_more_then, seen_same}
use Rattle.ist_tree.specs.CallTerms.{HasSeenMore, PassFace, TreeFace, IsPort, IsTurnedAway, IsAskedIn, IsForSomeNode, IsRefused, IsRefusedCall, MayBeAsked, PassWasRefused, for_leaf, for_pair, for_put, for_rebuild, for_remove}
use Rattle.ist_rows.specs.RowTerms.{LeavesTooFew}
use Rattle.ist_tree.proofs.ShortLemmas.{puts_rise, left_same}

-- the size of a node is still one for a pass that has seen more
node_more : (p q : PassFace) (asked : ℕ) → HasSeenMore p q → IsForSomeNode p asked
    → IsForSomeNode q asked
node_more p q asked m n = grind (arith, puts_rise)

-- too few words were left in the table of a pass that has seen more, since it is the same table
left_in : {A B : ℕ → Type 0} (p q : PassFace) {at : Log} (full : Full) → HasSeenMore p q
    → LeavesTooFew A p.tree.start p.tree.words at full → (A full.asked → B full.asked)
    → LeavesTooFew B q.tree.start q.tree.words at full
left_in p q full m l to = grind (arith, left_same)

-- a refusal that was met before was met by a pass that has seen more
pub refused_more : (p q : PassFace) (said : Refused) → HasSeenMore p q → PassWasRefused p said
    → PassWasRefused q said
refused_more p q said m r = record {
  update = r.update;
  at = r.at;
  until = goes_on_more r.until m.seen;
  left = left_in p q said.full m r.left
      (⊎_elim (λ a. inl a)
      (λ b. inr (⊎_elim (λ a. inl a)
      (λ c. inr (⊎_elim (λ a. inl a) (λ n. inr (node_more p q said.full.asked m n)) c)) b)));
  began = r.began;
  ended = r.ended;
  call = r.call;
  later = seen_more_then r.ended p q r.later m;
  cause = r.cause;
}

-- what was asked for in a call
asked_then : (p q : PassFace) (at : Log) (key : ℕ) (value : Option ℕ) (asked : ℕ)
    → IsAskedIn p q at key value asked → MayBeAsked q asked
asked_then p q at key _ asked (for_leaf e lacked) = inl e
asked_then p q at key _ asked (for_pair e lacked met) = inr (inl e)
asked_then p q at key _ asked (for_put e lacked) = inr (inr (inl e))
asked_then p q at key _ asked (for_remove found has e lacked) = inr (inr (inl e))
asked_then p q at key value asked (for_rebuild met way a help) = grind arith

-- a refusal of this call
pub refused_now : (p q : PassFace) (key : ℕ) (value : Option ℕ) (command : Command) (full : Full)
    → HasSeenMore p q → ((k : ℕ) → command ≢ Get k) → command ≡ command_for key value
    → IsRefused p q key value full → PassWasRefused q (refusal command full)
refused_now p q key value command full m update is r = record {
  update = update;
  at = r.at;
  until = r.until;
  left = left_in p q full m r.left (asked_then p q r.at key value full.asked);
  began = p;
  ended = q;
  call = m;
  later = seen_same q;
  cause = record { key = key; value = value; command_is = is; cause = r };
}

-- a put and a remove are no get
pub put_no_get : (key value k : ℕ) → Put key value ≢ Get k
put_no_get key value k e = cc

-- a remove isn't a get
pub remove_no_get : (key k : ℕ) → Remove key ≢ Get k
remove_no_get key k e = cc

-- a port whose pass has seen more is one still
pub port_more : (tree : TreeFace) (p q : PassFace) (said : Option Refused) → HasSeenMore p q
    → IsPort tree p said → IsPort tree q said
port_more tree p q said m i = grind (arith, refused_more)

-- a result that is such a refusal
pub answer_refused : {A : Type 0} (answer : Result A Full) (p q : PassFace) (key : ℕ)
    (value : Option ℕ) (command : Command) → HasSeenMore p q → ((k : ℕ) → command ≢ Get k)
    → command ≡ command_for key value → IfErr answer (IsTurnedAway p q key value)
    → IfErr answer (λ full. PassWasRefused q (refusal command full))
answer_refused (Ok a) p q key value command m update is r = tt
answer_refused (Err full) p q key value command m update is r = grind (arith, refused_now)

-- a refusal of the call with this command
pub answer_cause : {A : Type 0} (answer : Result A Full) (p q : PassFace) (key : ℕ)
    (value : Option ℕ) (command : Command) → command ≡ command_for key value
    → IfErr answer (IsTurnedAway p q key value) → IfErr answer (IsRefusedCall p q command)
answer_cause (Ok a) p q key value command is r = tt
answer_cause (Err full) p q key value command is r = grind arith
