-- A put and a get of two callers, in two orders of their moments.
use Rattle.std.specs.Prelude.{ℕ, [], ◌∷◌, Some, None}
use Rattle.ist_core.specs.declared.calls.Call.{Call}
use Rattle.ist_core.specs.declared.commands.Command.TheVariants.{Put, Get}
use Rattle.laws_real_time.specs.declared.moments.Deed.{Deed}
use Rattle.laws_real_time.specs.declared.moments.Deed.TheVariants.{Begins, Returns}
use Rattle.laws_real_time.specs.declared.moments.Moment.{Moment}
use Rattle.laws_real_time.specs.Moments.{Moments}

-- the put of 5 at key 1, which had no value
abbrev pub put_of_five : Call
put_of_five = record { command = Put 1 5; reply = None; position = 0; stamp = 1 }

-- the get of key 1, which found nothing
abbrev pub the_get : Call
the_get = record { command = Get 1; reply = None; position = 0; stamp = 1 }

-- what a caller did, after this many changes
abbrev pub did : ℕ → ℕ → Deed → Moment
did caller changes deed =
    record { caller = caller; length = changes; changes = changes; deed = deed }

-- the put begins and returns, and then the get begins and returns
abbrev pub stale : Moments
stale =
    did 1 1 (Returns the_get) ∷ did 1 1 (Begins (Some (Get 1))) ∷ did 0 1 (Returns put_of_five)
    ∷ did 0 0 (Begins (Some (Put 1 5))) ∷ []

-- the get begins before the put returns
abbrev pub overlapping : Moments
overlapping =
    did 1 1 (Returns the_get) ∷ did 0 1 (Returns put_of_five) ∷ did 1 0 (Begins (Some (Get 1)))
    ∷ did 0 0 (Begins (Some (Put 1 5))) ∷ []
