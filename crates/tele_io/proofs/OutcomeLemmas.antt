-- What holds of a call whatever its outcome. Serves the callers of `write_whole` and `pass_on`.
use Rattle.std.proofs.Common.{Result, Ok, Err, OnOk, OnErr}

-- what holds anyway holds if the call succeeds
pub at_ok : {A E P : Type 0} (r : Result A E) → P → OnOk r P
at_ok (Ok a) p = p
at_ok (Err e) p = tt

-- what holds anyway holds if the call fails
pub at_refusal : {A E P : Type 0} (r : Result A E) → P → OnErr r P
at_refusal (Ok a) p = tt
at_refusal (Err e) p = p

-- what follows if a call succeeds
pub on_ok : {A E P Q : Type 0} (r : Result A E) → OnOk r P → (P → Q) → OnOk r Q
on_ok (Ok a) p f = f p
on_ok (Err e) p f = tt

-- what follows if a call fails
pub on_err : {A E P Q : Type 0} (r : Result A E) → OnErr r P → (P → Q) → OnErr r Q
on_err (Ok a) p f = tt
on_err (Err e) p f = f p

-- what follows from two facts if a call succeeds
pub on_ok2 : {A E P Q R : Type 0} (r : Result A E) → OnOk r P → OnOk r Q → (P → Q → R) → OnOk r R
on_ok2 (Ok a) p q f = f p q
on_ok2 (Err e) p q f = tt

-- what follows from three facts if a call succeeds
pub on_ok3 : {A E P Q R S : Type 0} (r : Result A E) → OnOk r P → OnOk r Q → OnOk r R →
    (P → Q → R → S) → OnOk r S
on_ok3 (Ok a) p q r f = f p q r
on_ok3 (Err e) p q r f = tt
