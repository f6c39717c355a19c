-- How few words a freeze takes, from the beginning of its call to its end. Serves `freeze`.
use Rattle.std.proofs.Common.{◌≡◌, Option, refl, subst, arith}
use Rattle.ist_core.specs.declared.ports.Full.{Full}
use Rattle.ist_core.specs.LogTerms.{Later}
use Rattle.ist_rows.specs.RowTerms.{HasRunOut, HasTakenFew, TakesNoWords, ran_out, took_few}
use Rattle.ist_rows.specs.declared.callers.Caller.{Caller}
use Rattle.ist_rows.proofs.FewStepLemmas.{taken_later, few_kept, few_none}
use Rattle.ist_rule.specs.RuleTerms.{TokenFace}
use Rattle.ist_rule.specs.declared.view.View.{View}
use Rattle.ist_rows.proofs.FewLemmas.{later_twice, few_more, few_out_more, out_on}
use Rattle.ist_tree.proofs.FewFreezeLemmas.{after_ready}
use Rattle.ist_tree.specs.CallTerms.{Frozen, FreezesInFew, IsAllRebuilt, froze_few, ran_short, words_of_freeze, face_as, pass_face}
use Rattle.ist_tree.proofs.FreezeCallLemmas.{IsFreezeCall}
use Rattle.ist_tree.proofs.FreezeCallLemmas as way

module _ (who began new : Caller) (token : TokenFace) (it : IsFreezeCall who began new token) where
  -- the view before the call
  abbrev v : View
  v = who.token.view

  -- the view when the call has begun
  abbrev b : View
  b = began.token.view

  -- the view after the work
  abbrev w : View
  w = new.token.view

  -- the view after the call
  abbrev x : View
  x = token.view

  -- the steps by which the call begins and ends take none
  begins_none : TakesNoWords who began
  begins_none = let l = way.b_view who began new token it in record {
    later = record {
      number = it.began_number;
      start = l.start_is;
      words = l.words_is;
      on = way.v_to_b who began new token it;
    };
    none = taken_later who.number
        (subst (λ y. Later y v.log b.log) it.pass.caller.mine it.begun.later);
  }

  ends_none : TakesNoWords new (record new { token = token })
  ends_none = let l = way.x_view who began new token it in record {
    later = record {
      number = refl;
      start = l.start_is;
      words = l.words_is;
      on = way.w_to_x who began new token it;
    };
    none = taken_later new.number
        (subst (λ y. Later y w.log x.log) it.on.gone.caller.mine it.given.later);
  }

  -- few words that the work took are few in the call
  pub few_in_call : (r q : Option Full) (frozen : Frozen)
      → IsAllRebuilt (face_as token new.number q) frozen → q ≡ r
      → HasTakenFew (words_of_freeze frozen.keys) 0 began new
      → FreezesInFew (pass_face who r) (face_as token new.number q) frozen
  few_in_call r q frozen all same f = let n = words_of_freeze frozen.keys in told
      (few_kept n 0 who new (record new { token = token })
      (later_twice who began new begins_none.later (after_ready began new it.on)) ends_none
      (few_more who began new begins_none.later (after_ready began new it.on) n n 0
      (few_none n who began begins_none) f))
    where
      told : HasTakenFew (words_of_freeze frozen.keys) 0 who (record new { token = token })
          → FreezesInFew (pass_face who r) (face_as token new.number q) frozen
      told (took_few took) = froze_few record { rebuilt = all; unrefused = same; few = omega arith }
      told (ran_out r) = ran_short r

  -- and words that ran out in the work ran out in the call
  pub out_in_call : (r q : Option Full) (frozen : Frozen)
      → HasRunOut (words_of_freeze frozen.keys) began new
      → FreezesInFew (pass_face who r) (face_as token new.number q) frozen
  out_in_call r q frozen out = let n = words_of_freeze frozen.keys in
      ran_short (out_on n who new (record new { token = token }) (way.w_to_x who began new token it)
      (few_out_more who began new begins_none.later (after_ready began new it.on) n n 0
      (few_none n who began begins_none) out))
