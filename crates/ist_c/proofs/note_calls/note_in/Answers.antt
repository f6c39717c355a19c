-- A pass has noted this; a handle of something else is as before.
use Rattle.std.proofs.Common.{inl, inr}
use Rattle.ist_c.specs.Notes.{no_pass}
use Rattle.ist_c.proofs.PassLemmas.{noted_one, noted_none}
use Rattle.ist_c.proofs.note_calls.note_in.Goals as goal

pub returns-in-Ok : goal.returns-in-Ok
returns-in-Ok c = let e = c.note.ensures in record {
  notes = noted_one c.args.held.now c.in-Pass.pass c.note.new.self c.in-Ok.note c.args.out.now
      c.keep.new.out c.keep.result c.in-Pass.is (record { same_tree = e.tree; unchanged = e.unchanged })
      c.if-out.false (record { its_tree = c.in-Ok.ensures.its_tree; holds = c.in-Ok.ensures.noted })
      c.keep.ensures.keeps;
}

pub returns-in-Err : goal.returns-in-Err
returns-in-Err c = let e = c.note.ensures in record {
  notes = noted_none c.args.held.now c.in-Pass.pass c.note.new.self c.args.out.now c.in-Pass.is
      (record { same_tree = e.tree; unchanged = e.unchanged }) c.if-out.false;
}

pub returns-in_default : goal.returns-in_default
returns-in_default c = record { notes = no_pass c.args.held.now c.args.out.now (inr c.in_default.not-Pass) }

pub returns-then-out : goal.returns-then-out
returns-then-out c = record { notes = no_pass c.args.held.now c.args.out.now (inl c.if-out.true) }
