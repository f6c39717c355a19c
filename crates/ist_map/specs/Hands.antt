-- Workers with their passes on one tree.
use Rattle.std.specs.Prelude.{◌≡◌, ℕ, List, [], ◌∷◌, ◌++◌, map, Option, Some, None, slice_index_or}
use Rattle.ist_core.specs.declared.calls.Call.{Call}
use Rattle.ist_core.specs.Histories.{PassCalls}
use Rattle.ist_core.specs.Logs.{Log}
use Rattle.ist_core.specs.Replies.{Answered}
use Rattle.ist_core.specs.Resting.{told_by_call}
use Rattle.ist_tree.specs.Faces.{TreeFace, PassFace, calls_in}
use Rattle.ist_map.specs.declared.stops.StopRequest.{StopRequest}

-- there is a pass, and it is on the tree
pub record IsOn (tree : TreeFace) (pass : Option PassFace) : Type 0 where
  pub is : PassFace
  pub is_pass : pass ≡ Some is
  pub same_tree : is.tree ≡ tree

-- there is a pass on the tree, which has made no call and keeps no refusal
pub record IsHired (tree : TreeFace) (pass : Option PassFace) : Type 0 where
  pub is : PassFace
  pub is_pass : pass ≡ Some is
  pub same_tree : is.tree ≡ tree
  pub no_calls : is.calls ≡ []
  pub unrefused : is.refused ≡ None

-- the calls of the pass, with its number
abbrev pub calls_by : Option PassFace → PassCalls
calls_by (Some pass) = calls_in pass
calls_by None = record { number = 0; calls = [] }

-- the number of the pass
abbrev pub pass_number : Option PassFace → ℕ
pass_number pass = (calls_by pass).number

-- what the pass has seen
abbrev pub seen_by : Option PassFace → Log
seen_by (Some pass) = pass.seen
seen_by None = []

-- what each worker was told is what it had been told before, and then what its calls told it
abbrev pub HaveWorked : List (List Answered) → List (List Call) → List (List Answered) → Type 0
HaveWorked before calls after =
    (number : ℕ) → slice_index_or after number []
    ≡ slice_index_or before number [] ++ map told_by_call (slice_index_or calls number [])

-- the request by which the first worker stopped that did so
abbrev pub first_stop : List (Option StopRequest) → Option StopRequest
first_stop [] = None
first_stop (None ∷ more) = first_stop more
first_stop (Some asked ∷ more) = Some asked
