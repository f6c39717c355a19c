-- Words that aren't Unset. Serves the laws on slots that stay set.
use Rattle.std.proofs.Common.{◌≡◌, ◌≢◌, ℕ, ◌*◌, ◌+◌, Some, sym, ap, ◌∙◌, arith}
use Rattle.std.proofs.lemmas.Option.{same_Some}
use Rattle.ist_core.specs.TreeTerms.{HasRoomFor, nothing, same_key}
use Rattle.ist_core.specs.WordTerms.{ChangeAt, Ref, Unset, ref_of, unset_word, word_of}
use Rattle.ist_core.specs.LogTerms.{Snapshot}
use Rattle.ist_core.proofs.ReferenceLemmas.{ref_of-unset}

-- a word that reads as anything but Unset isn't Unset
pub set_by : (word : ℕ) (ref : Ref) → ref_of word ≡ Some ref → ref ≢ Unset → word ≢ unset_word
set_by word ref is other e = other (same_Some ref Unset (sym is ∙ ap ref_of e ∙ ref_of-unset))

-- the word of a change isn't Unset
pub change_set : (base : ℕ) → word_of (ChangeAt base) ≢ unset_word
change_set base e = let is : base * 8 + 3 ≡ 7 = e in omega arith

-- what a put takes away isn't Unset
pub room_set : (t : Snapshot) (key word : ℕ) → HasRoomFor t key word → word ≢ unset_word
room_set t key word (nothing e) = set_by word _ e (λ q. cc)
room_set t key word (same_key leaf e h) = set_by word _ e (λ q. cc)
