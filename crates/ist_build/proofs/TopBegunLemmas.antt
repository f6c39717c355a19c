-- The top row of a shared root from its first words on. Serves `build_top`.
use Rattle.std.proofs.Common.{◌≡◌, ℕ, ◌+◌, ◌-◌, ◌≤◌, List, [], ◌∷◌, ◌++◌, Some, refl, sym, ap, ◌∙◌, subst, append-nil, arith, length, take, drop, Result, Ok, Err, IfOk, IfErr}
use Rattle.ist_core.specs.declared.ports.Full.{Full}
use Rattle.ist_core.specs.WordTerms.{degree, InnerAt, inner_words, share_from, shape}
use Rattle.ist_core.specs.LogTerms.{build_top, HoldsRow}
use Rattle.ist_core.specs.TreeTerms.{PlacedLeaf, HasLeaves, IsFinishedWith}
use Rattle.ist_core.proofs.AllLogLemmas.{finished_grows, finished_leaves_stay}
use Rattle.ist_rule.specs.RuleTerms.{TokenFace, IsSound, now, GoesOnTo}
use Rattle.ist_rule.specs.declared.view.View.{View}
use Rattle.ist_rows.specs.RowTerms.{spares_of, IsCaller, Reserved, IsInBuild, IsNext, HasTaken, HasRefused, sizes_built}
use Rattle.ist_rows.specs.declared.callers.Caller.{Caller}
use Rattle.ist_rows.proofs.CallerGoingLemmas.{caller_goes_on}
use Rattle.ist_rows.proofs.ShortLemmas.{held_by_later}
use Rattle.ist_rule.proofs.WentOnLemmas.{later_by-goes_on, goes_on_now}
use Rattle.ist_rule.proofs.StoreLemmas.{own_here, own_else}
use Rattle.ist_build.specs.Calls.{HasKeys}
use Rattle.ist_build.specs.Laying.{BuiltOn, IsTarget, ArePlaced, IsLaid, AreNextRows, IsShort}
use Rattle.ist_build.specs.Midway.{words_at, IsOpened, IsTopMidway, opening}
use Rattle.ist_build.proofs.BuiltLemmas.{built_more, built_held, built_grow, built_now, built_lawful, loads_built, reserved_built, rewritten_built, built_next}
use Rattle.ist_build.proofs.RowOpenedLemmas.{LiesFresh, fresh_row}
use Rattle.ist_rule.proofs.EventLemmas.{goes_on_more}
use Rattle.ist_build.specs.declared.reading.Cursor.{Cursor}
use Rattle.ist_build.specs.Reading.{HasRead, HasReadOut}
use Rattle.ist_build.proofs.ShareLemmas.{read_whole, read_placed, some_leaves, enough_leaves, laid_lower, due_on, taken_on, short_on}

-- ---- targets, after a build

-- the leaves of a finished target stay
pub leaves_on : (v w : View) → BuiltOn v w → (target k : ℕ) → IsFinishedWith (now v) target k
    → (leaves : List PlacedLeaf) → HasLeaves (now v).pieces (Some (InnerAt target)) leaves
    → HasLeaves (now w).pieces (Some (InnerAt target)) leaves
leaves_on v w b target k f leaves has =
    grind (arith, built_now, finished_leaves_stay, built_lawful, later_by-goes_on)

-- and it has its keys
pub keys_on : (v w : View) → BuiltOn v w → (target k least : ℕ) → IsFinishedWith (now v) target k
    → least ≤ k → HasKeys (now w) target least
keys_on v w b target k least f le = record {
  k = k;
  finished = finished_grows (now v) (now w) target k (built_grow v w b) f;
  enough = le;
}

-- ---- where the caller is

-- the top row comes next
pub top_at : (who : Caller) (target k : ℕ) → HasRefused who → IsTarget (now who.token.view) target k
    → share_from ≤ k → IsInBuild who (sizes_built who) [] (inner_words (degree k) ∷ [])
top_at who target k refused t many = record {
  sizes = sym (append-nil (sizes_built who));
  all_stuck = refused;
  building = record {
    rebuild = t.rebuild;
    row = t.row;
    published = t.published;
    started = t.started;
    k = k;
    finished = subst (λ n. IsFinishedWith (now who.token.view) n k) (sym t.target_is) t.finished;
    build = build_top many;
  };
}

-- the top row is the next row of a build that begins
pub top_next : (who : Caller) (target k d : ℕ) → HasRefused who → IsTarget (now who.token.view) target k
    → share_from ≤ k → d ≡ degree k → IsNext who (inner_words d)
top_next who target k d refused t many is = subst (λ n. IsNext who (inner_words n)) (sym is)
    record { stuck = sizes_built who; done = []; rest = []; at = top_at who target k refused t many }

-- loads leave the sizes of its builds
pub sizes_on : (who : Caller) (token : TokenFace) → IsCaller who → GoesOnTo who.token.view token.view
    → sizes_built (record who { token = token }) ≡ sizes_built who
sizes_on who token c g = grind (arith, goes_on_now, held_by_later)

-- ---- the row was opened

module _ (old new : Caller) (target k d base : ℕ) (s : IsSound old.token.view)
    (refused : HasRefused old) (t : IsTarget (now old.token.view) target k) (many : share_from ≤ k)
    (d_is : d ≡ degree k) (number : new.number ≡ old.number) (rows : spares_of new ≡ spares_of old)
    (r : Reserved old.token.view old.number base (inner_words d) new.token.view)
    (taken : HasTaken old (inner_words d ∷ []) new) where
  abbrev view : View
  view = opening new.token.view base d k

  abbrev who : Caller
  who = record new { token = record new.token { view = view } }

  fresh : LiesFresh old.token.view old.number base (inner_words d) new.token.view
  fresh = fresh_row old.token.view s old.number base (inner_words d) new.token.view r

  opened : IsOpened view.own base d k
  opened = let o = new.token.view.own in let first = record { place = base + 2; word = d } ∷ o in
      record {
        status = own_else first (base + 3) k base (λ e. omega arith)
            ∙ own_else o (base + 2) d base (λ e. omega arith) ∙ fresh.zero_words base (omega arith);
        count = own_else first (base + 3) k (base + 1) (λ e. omega arith)
            ∙ own_else o (base + 2) d (base + 1) (λ e. omega arith)
            ∙ fresh.zero_words (base + 1) (omega arith);
        degree_is = own_else first (base + 3) k (base + 2) (λ e. omega arith)
            ∙ own_here o (base + 2) d;
        size_is = own_here first (base + 3) k;
      }

  sizes_taken : sizes_built new ≡ sizes_built old ++ inner_words d ∷ []
  sizes_taken =
      (taken (sizes_built old) [] []
      (subst (λ n. IsInBuild old (sizes_built old) [] (inner_words n ∷ [])) (sym d_is)
      (top_at old target k refused t many))).sizes

  top_begun : IsCaller who → IsSound view → IsTopMidway old target k base d 0 who
  top_begun caller sound = let high = fresh.high in record {
    caller = caller;
    number = number;
    rows = rows;
    built = rewritten_built old.token.view new.token.view view.own
        (reserved_built old.token.view old.number base (inner_words d) new.token.view r) sound
        (λ p low. own_else (record { place = base + 2; word = d } ∷ new.token.view.own)
        (base + 3) k p (λ e. omega arith)
        ∙ own_else new.token.view.own (base + 2) d p (λ e. omega arith));
    high = fresh.high;
    held = subst (λ n. HoldsRow (now new.token.view) n base (inner_words d)) (sym number) fresh.held;
    opened = opened;
    slots = refl;
    keys = λ leaves has. refl;
    sizes = sizes_taken;
  }

  -- after the stores of its first words the top row is half-built, with no slot set yet
  pub top_opened : (last : Caller) → last ≡ who → IsCaller last → IsSound last.token.view
      → IsTopMidway old target k base d 0 last
  top_opened last is caller sound = grind (arith, top_begun)

-- ---- after loads

-- a half-built top row is the same after loads
pub top_loaded : (old who : Caller) (token : TokenFace) (target k base d j : ℕ)
    → IsTopMidway old target k base d j who → GoesOnTo who.token.view token.view
    → IsTopMidway old target k base d j (record who { token = token })
top_loaded old who token target k base d j m g = let v = who.token.view in let w = token.view in
    let b = loads_built v w g in let own_is : w.own ≡ v.own = ap (λ x. x.own) g.same in record {
      caller = caller_goes_on who token m.caller g;
      number = m.number;
      rows = m.rows;
      built = built_more old.token.view v w m.built b;
      high = m.high;
      held = built_held v w b who.number base (inner_words d) m.caller.mine m.held;
      opened = subst (λ o. IsOpened o base d k) (sym own_is) m.opened;
      slots = ap (λ o. words_at o (base + 3 + d) j) own_is ∙ m.slots;
      keys = λ leaves has. ap (λ o. words_at o (base + 4) (j - 1)) own_is ∙ m.keys leaves has;
      sizes = sizes_on who token m.caller g ∙ m.sizes;
    }

-- ---- leaves that were read out, and what is built over them. Serves `parts`.

-- what was read of a target with so many keys was read out
pub has_read_out : (v u w : View) → IsSound v → (target : ℕ) (from to : Cursor) (old new : List ℕ)
    → from.count ≡ 0 → HasKeys (now v) target (from.skip + length old) → GoesOnTo v u → GoesOnTo u w
    → ((leaves : List PlacedLeaf) → HasLeaves (now v).pieces (Some (InnerAt target)) leaves
    → HasRead old from leaves new to)
    → HasReadOut v target from.skip (length old) new w
has_read_out v u w s target from to old new none h first second read =
    let it = some_leaves v s target (from.skip + length old) h in
    let on = goes_on_more v u w first second in record {
      seen = on;
      size = (read it.0 it.1).size;
      some = (take (length old) (drop from.skip it.0), placed on it.0 it.1);
      placed = placed on;
    }
  where
    placed : GoesOnTo v w → (all : List PlacedLeaf)
        → HasLeaves (now v).pieces (Some (InnerAt target)) all
        → ArePlaced (now w) new (take (length old) (drop from.skip all))
    placed on all has = read_placed v w on target all has from.skip (length old) new
        (read_whole old new from to all none
        (enough_leaves v s target (from.skip + length old) h all has) (read all has))

-- the rows over what was read out are due
pub out_due : (who : Caller) (token : TokenFace) (target start len : ℕ) (bases : List ℕ)
    → IsCaller who → HasReadOut who.token.view target start len bases token.view
    → (2 ≤ len → AreNextRows who len) → 2 ≤ length bases
    → AreNextRows (record who { token = token }) (length bases)
out_due who token target start len bases c r due two = grind (arith, due_on)

-- what a build over the leaves from number `start` on gives
pub record OutBuilt (old new : Caller) (words target start len : ℕ) (answer : Result ℕ Full) : Type 0 where
  pub built : BuiltOn old.token.view new.token.view
  pub laid : IfOk answer (λ word. (all : List PlacedLeaf)
      → HasLeaves (now old.token.view).pieces (Some (InnerAt target)) all
      → IsLaid new.token.view new.number (now old.token.view).next word (take len (drop start all)))
  pub taken : IfOk answer (λ word. HasTaken old (shape len) new)
  pub full : IfErr answer (λ full. IsShort old.token.view words len full new.token.view)

-- what a build over leaves that were read out gives
pub out_built : (who : Caller) (token : TokenFace) (new : Caller) (words target start len : ℕ)
    (bases : List ℕ) → IsCaller who → HasReadOut who.token.view target start len bases token.view
    → BuiltOn token.view new.token.view → (answer : Result ℕ Full)
    → IfOk answer (λ word. (placed : List PlacedLeaf) → ArePlaced (now token.view) bases placed
    → IsLaid new.token.view new.number (now token.view).next word placed)
    → IfOk answer (λ word. HasTaken (record who { token = token }) (shape (length bases)) new)
    → IfErr answer (λ full. IsShort token.view words (length bases) full new.token.view)
    → OutBuilt who new words target start len answer
out_built who token new words target start len bases c r b (Ok word) laid taken full =
    let v = who.token.view in let on = loads_built v token.view r.seen in record {
      built = built_more v token.view new.token.view on b;
      laid = λ all has. laid_lower new.token.view new.number (now v).next (now token.view).next word
          (take len (drop start all)) (built_next v token.view on)
          (laid (take len (drop start all)) (r.placed all has));
      taken = taken_on who token (shape len) new c r.seen
          (subst (λ n. HasTaken (record who { token = token }) (shape n) new) r.size taken);
      full = tt;
    }
out_built who token new words target start len bases c r b (Err full) laid taken short =
    let v = who.token.view in record {
      built = built_more v token.view new.token.view (loads_built v token.view r.seen) b;
      laid = tt;
      taken = tt;
      full = short_on v token.view r.seen words len full new.token.view
          (subst (λ n. IsShort token.view words n full new.token.view) r.size short);
    }
