use Rattle.std.proofs.Common.{ap, length}
use Rattle.tele_lines.proofs.PlaceLemmas.{line_at, line_last, first_at, first_last, shown_at, shown_last}
use Rattle.tele_lines.specs.Progress.{place_of}
use Rattle.tele_lines.proofs.reader.Lines.cut.Goals as goal

-- the line ends at the newline
pub returns-in-Some-clause-line : goal.returns-in-Some-clause-line
returns-in-Some-clause-line c =
    line_at c.args.self.now c.read.new.self c.in-Some.place c.read.result (rw c.in-Some.is at c.requires.there)
    c.read.ensures.value c.read.ensures.rest c.read.ensures.ended

pub returns-in-Some-clause-first : goal.returns-in-Some-clause-first
returns-in-Some-clause-first c left =
    first_at c.args.self.now c.in-Some.place c.read.result left (rw c.in-Some.is at c.requires.there) c.read.ensures.value

-- the line is all that there is
pub returns-else-len-eq0-clause-line : goal.returns-else-len-eq0-clause-line
returns-else-len-eq0-clause-line c = let read = c.read-else-len-eq0 in
    line_last c.args.self.now read.new.self _ read.result (ap length c.bytes-len.ensures.value) c.if-len-eq0.false
    (rw c.in-None.is at c.requires.there) read.ensures.value read.ensures.rest read.ensures.ended

pub returns-else-len-eq0-clause-first : goal.returns-else-len-eq0-clause-first
returns-else-len-eq0-clause-first c left =
    first_last c.args.self.now _ c.read-else-len-eq0.result left (ap length c.bytes-len.ensures.value) c.if-len-eq0.false
    (rw c.in-None.is at c.requires.there) c.read-else-len-eq0.ensures.value

-- it shows that it is bad
pub returns-in-Some-clause-shown : goal.returns-in-Some-clause-shown
returns-in-Some-clause-shown c cause is =
    shown_at (place_of c.args.self.now) cause c.read.result _ _ c.in-Some.place (rw c.in-Some.is at c.requires.there)
    c.read.ensures.value (cc is)

pub returns-else-len-eq0-clause-shown : goal.returns-else-len-eq0-clause-shown
returns-else-len-eq0-clause-shown c cause is =
    shown_last (place_of c.args.self.now) cause c.read-else-len-eq0.result _ _ _ (ap length c.bytes-len.ensures.value)
    (rw c.in-None.is at c.requires.there) c.read-else-len-eq0.ensures.value (cc is)
