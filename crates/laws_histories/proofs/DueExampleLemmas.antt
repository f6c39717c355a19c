-- A row is due after eight puts. Serves `examples`.
use Rattle.std.proofs.Common.{ℕ, ◌+◌, Option, Some, None, arith, [], ◌∷◌, refl}
use Rattle.ist_core.specs.declared.states.ChangeRow.{ChangeRow}
use Rattle.ist_core.specs.declared.events.Event.TheVariants.{Enter}
use Rattle.ist_core.specs.WordTerms.{degree, square_root, root_up_to, part_len, part_lens, ideal_words, ideal_words_within, ChangeAt, word_of, Piece, Leaf, Inner, Change, Rebuild, as_change, counted, with_slot, with_decision, rows_within, ref_of}
use Rattle.ist_core.specs.LogTerms.{Snapshot, resolved, Log, state, CanEnter, EachEnabled}
use Rattle.ist_core.proofs.AllWordLemmas.{among-pieces_of}
use Rattle.ist_core.proofs.AllLogLemmas.{NotRefused, NoneDecidedNo, none_refused-with_row, none_refused-changed_at, slot_keeps, yes_keeps}
use Rattle.laws_histories.specs.ExampleRebuilds.{again_decided, put_again, both_entered, four_puts, eight_puts}
use Rattle.laws_histories.proofs.ReadyExampleLemmas.{three, ten, again, before_put}
use Rattle.laws_histories.proofs.BusyExampleLemmas.{put_enabled, put_made}

-- ---- the puts of a small log refuse no change. Serves `examples`.

-- a count refuses nothing
count_keeps : (p : Piece) → NotRefused p → NotRefused (counted p)
unfolding NotRefused
count_keeps (Leaf r) h = h
count_keeps (Inner r) h = h
count_keeps (Change r) h = h
count_keeps (Rebuild r) h = h

-- what leaves a slot refuses nothing
resolve_keeps : (t : Snapshot) (o : Option ChangeRow) → NoneDecidedNo t.pieces
    → NoneDecidedNo (resolved t o).pieces
resolve_keeps t None none = none
resolve_keeps t (Some change) none = grind (arith, none_refused-changed_at, slot_keeps)

-- a put refuses nothing
pub put_keeps : (log : Log) (leaf from to : ℕ) → NoneDecidedNo (state three log).pieces
    → NoneDecidedNo (state three (put_again leaf (leaf + 2) from to log)).pieces
unfolding NotRefused
put_keeps log leaf from to none = let change = leaf + 2 in
    let with_leaf = none_refused-with_row _ leaf (Leaf ten) tt none in
    let with_change =
    none_refused-with_row _ change (Change (again from to 0)) (λ e. omega arith) with_leaf
    in
    let word = word_of (ChangeAt change) in
    let standing =
    none_refused-changed_at _ 11 (with_slot 0 word) (slot_keeps 0 word) with_change
    in
    let t = state three (again_decided leaf change from to log) in
    let decided = none_refused-changed_at _ change (with_decision 1) yes_keeps standing in
    let out = resolve_keeps t (as_change (t.pieces change)) decided in
    none_refused-changed_at _ 11 counted count_keeps out

-- no change is refused at the start
pub at_opening : NoneDecidedNo three.pieces
unfolding NotRefused rows_within degree square_root root_up_to part_len part_lens ideal_words ideal_words_within
at_opening base p e = grind (arith, among-pieces_of, NotRefused)

-- caller 0 enters
first_entered : CanEnter three 0
first_entered = record { number = refl; below_limit = omega arith }

-- caller 1 enters
second_entered : CanEnter (state three (Enter 0 ∷ [])) 1
second_entered = record { number = refl; below_limit = omega arith }

-- the log of one put
abbrev one_put : Log
one_put = put_again 24 26 145 193 both_entered

-- the log of two puts
abbrev two_puts : Log
two_puts = put_again 35 37 193 281 one_put

-- the log of three puts
abbrev three_puts : Log
three_puts = put_again 46 48 281 369 two_puts

-- the log of five puts
abbrev five_puts : Log
five_puts = put_again 68 70 457 545 four_puts

-- the log of six puts
abbrev six_puts : Log
six_puts = put_again 79 81 545 633 five_puts

-- the log of seven puts
abbrev seven_puts : Log
seven_puts = put_again 90 92 633 721 six_puts

-- the log is enabled until both callers have entered
entered : EachEnabled three both_entered
entered = ((tt, first_entered), second_entered)

-- put 1 of eight is enabled
one_put_enabled : EachEnabled three one_put
unfolding ref_of rows_within degree square_root root_up_to part_len part_lens ideal_words ideal_words_within
one_put_enabled = put_enabled both_entered 24 145 193 18 0
    (before_put (state three both_entered) 24 145 18 0 refl refl refl refl refl refl refl refl refl)
    (put_made both_entered 24 145 193 0 refl refl refl refl refl refl)
    (omega arith) refl at_opening entered

-- no change is refused in the log up to this put
one_put_refuse : NoneDecidedNo (state three one_put).pieces
one_put_refuse = put_keeps both_entered 24 145 193 at_opening

-- put 2 of eight is enabled
two_puts_enabled : EachEnabled three two_puts
unfolding ref_of rows_within degree square_root root_up_to part_len part_lens ideal_words ideal_words_within
two_puts_enabled = put_enabled one_put 35 193 281 24 1
    (before_put (state three one_put) 35 193 24 1 refl refl refl refl refl refl refl refl refl)
    (put_made one_put 35 193 281 1 refl refl refl refl refl refl)
    (omega arith) refl one_put_refuse one_put_enabled

-- no change is refused in the log up to this put
two_puts_refuse : NoneDecidedNo (state three two_puts).pieces
two_puts_refuse = put_keeps one_put 35 193 281 one_put_refuse

-- put 3 of eight is enabled
three_puts_enabled : EachEnabled three three_puts
unfolding ref_of rows_within degree square_root root_up_to part_len part_lens ideal_words ideal_words_within
three_puts_enabled = put_enabled two_puts 46 281 369 35 2
    (before_put (state three two_puts) 46 281 35 2 refl refl refl refl refl refl refl refl refl)
    (put_made two_puts 46 281 369 2 refl refl refl refl refl refl)
    (omega arith) refl two_puts_refuse two_puts_enabled

-- no change is refused in the log up to this put
three_puts_refuse : NoneDecidedNo (state three three_puts).pieces
three_puts_refuse = put_keeps two_puts 46 281 369 two_puts_refuse

-- put 4 of eight is enabled
four_puts_enabled : EachEnabled three four_puts
unfolding ref_of rows_within degree square_root root_up_to part_len part_lens ideal_words ideal_words_within
four_puts_enabled = put_enabled three_puts 57 369 457 46 3
    (before_put (state three three_puts) 57 369 46 3 refl refl refl refl refl refl refl refl refl)
    (put_made three_puts 57 369 457 3 refl refl refl refl refl refl)
    (omega arith) refl three_puts_refuse three_puts_enabled

-- no change is refused in the log up to this put
four_puts_refuse : NoneDecidedNo (state three four_puts).pieces
four_puts_refuse = put_keeps three_puts 57 369 457 three_puts_refuse

-- put 5 of eight is enabled
five_puts_enabled : EachEnabled three five_puts
unfolding ref_of rows_within degree square_root root_up_to part_len part_lens ideal_words ideal_words_within
five_puts_enabled = put_enabled four_puts 68 457 545 57 4
    (before_put (state three four_puts) 68 457 57 4 refl refl refl refl refl refl refl refl refl)
    (put_made four_puts 68 457 545 4 refl refl refl refl refl refl)
    (omega arith) refl four_puts_refuse four_puts_enabled

-- no change is refused in the log up to this put
five_puts_refuse : NoneDecidedNo (state three five_puts).pieces
five_puts_refuse = put_keeps four_puts 68 457 545 four_puts_refuse

-- put 6 of eight is enabled
six_puts_enabled : EachEnabled three six_puts
unfolding ref_of rows_within degree square_root root_up_to part_len part_lens ideal_words ideal_words_within
six_puts_enabled = put_enabled five_puts 79 545 633 68 5
    (before_put (state three five_puts) 79 545 68 5 refl refl refl refl refl refl refl refl refl)
    (put_made five_puts 79 545 633 5 refl refl refl refl refl refl)
    (omega arith) refl five_puts_refuse five_puts_enabled

-- no change is refused in the log up to this put
six_puts_refuse : NoneDecidedNo (state three six_puts).pieces
six_puts_refuse = put_keeps five_puts 79 545 633 five_puts_refuse

-- put 7 of eight is enabled
seven_puts_enabled : EachEnabled three seven_puts
unfolding ref_of rows_within degree square_root root_up_to part_len part_lens ideal_words ideal_words_within
seven_puts_enabled = put_enabled six_puts 90 633 721 79 6
    (before_put (state three six_puts) 90 633 79 6 refl refl refl refl refl refl refl refl refl)
    (put_made six_puts 90 633 721 6 refl refl refl refl refl refl)
    (omega arith) refl six_puts_refuse six_puts_enabled

-- no change is refused in the log up to this put
seven_puts_refuse : NoneDecidedNo (state three seven_puts).pieces
seven_puts_refuse = put_keeps six_puts 90 633 721 six_puts_refuse

-- put 8 of eight is enabled
pub eight_puts_enabled : EachEnabled three eight_puts
unfolding ref_of rows_within degree square_root root_up_to part_len part_lens ideal_words ideal_words_within
eight_puts_enabled = put_enabled seven_puts 101 721 809 90 7
    (before_put (state three seven_puts) 101 721 90 7 refl refl refl refl refl refl refl refl refl)
    (put_made seven_puts 101 721 809 7 refl refl refl refl refl refl)
    (omega arith) refl seven_puts_refuse seven_puts_enabled

-- no change is refused in the log up to this put
pub eight_puts_refuse : NoneDecidedNo (state three eight_puts).pieces
eight_puts_refuse = put_keeps seven_puts 101 721 809 seven_puts_refuse
