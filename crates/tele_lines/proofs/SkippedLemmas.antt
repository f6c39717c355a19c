-- Lines that ask for nothing, skipped one after another. Serves `Lines::next`.
use Rattle.std.proofs.Common.{◌≡◌, ℕ, ◌≤◌, true, List, [], ◌∙◌, ap, arith}
use Rattle.std.specs.Prelude.{Option, None, IfSome, IsSome}
use Rattle.tele_lines.specs.declared.items.Said.{Said}
use Rattle.tele_lines.specs.declared.reader.Lines.{Lines}
use Rattle.tele_lines.specs.Progress.{Place, GoesTo, TakesAsNeeded, TellsEnd, following, kept_of, place_of, unread}
use Rattle.tele_lines.proofs.ModeLemmas.{steady_twice}
use Rattle.tele_lines.proofs.PlaceLemmas.{goes_on_if}
use Rattle.tele_lines.proofs.SparingLemmas.{on_needed_if}

-- the reader went from one place to another over lines that ask for nothing; the source had these
-- bytes left before, and these afterwards
pub record HasSkipped (first last : Lines) (all left : Option (List ℕ)) : Type 0 where
  pub passed : IfSome (unread first all) (λ bytes.
      GoesTo (place_of first) (place_of last) last.ended [] bytes (unread last left))
  pub count : first.count ≤ last.count
  pub limit : last.limit ≡ first.limit
  pub going : last.stop ≡ None
  pub end : TellsEnd first all → TellsEnd last left
  pub ended : first.ended ≡ true → last.ended ≡ true
  pub steady : IsSome first.mode → last.mode ≡ first.mode
  pub sparing : IfSome all (λ bytes.
      TakesAsNeeded (place_of first) (kept_of first) first.ended bytes left)

module _ (first mid : Lines) (all left now : Option (List ℕ)) (h : HasSkipped first mid all left) where
  -- the source was read no more than needed before, and isn't in one more call
  pub skipped_sparing : IfSome left (λ bytes.
      TakesAsNeeded (place_of mid) (kept_of mid) mid.ended bytes now)
      → IfSome all (λ bytes. TakesAsNeeded (place_of first) (kept_of first) first.ended bytes now)
  skipped_sparing sparing =
      on_needed_if (place_of first) (place_of mid) (kept_of first) (kept_of mid) first.ended mid.ended
      all left now h.ended h.passed h.sparing sparing

  -- one more line that asks for nothing is skipped
  pub skipped_more : (last : Lines) (said : Said) → IfSome (unread mid left) (λ bytes.
      GoesTo (place_of mid) (place_of last) last.ended [] bytes (unread last now))
      → place_of last ≡ following (place_of mid) said → last.stop ≡ None
      → (TellsEnd mid left → TellsEnd last now) → (mid.ended ≡ true → last.ended ≡ true)
      → last.limit ≡ mid.limit → (IsSome mid.mode → last.mode ≡ mid.mode)
      → IfSome left (λ bytes. TakesAsNeeded (place_of mid) (kept_of mid) mid.ended bytes now)
      → HasSkipped first last all now
  skipped_more last said line place going end ended limit steady sparing =
      let more = ap (λ (p : Place). p.count) place in let before = h.count in record {
        passed = goes_on_if (place_of first) (place_of mid) (place_of last) mid.ended last.ended []
            (unread first all) (unread mid left) (unread last now) ended h.passed line;
        count = omega arith;
        limit = limit ∙ h.limit;
        going = going;
        end = λ told. end (h.end told);
        ended = λ was. ended (h.ended was);
        steady = steady_twice first.mode mid.mode last.mode h.steady steady;
        sparing = skipped_sparing sparing;
      }
