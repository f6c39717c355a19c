use Rattle.std.proofs.Common.{◌≡◌, ◌∙◌, ◌++◌, ◌∷◌, [], List, sym, subst, refl, inl}
use Rattle.ist_core.proofs.AllWordLemmas.{among_right}
use Rattle.check_state.proofs.WaitingLemmas.{Noted, noted_none, noted_all, noted_one, nothing_waits}
use Rattle.check_state.specs.declared.linking.Link.{Link}
use Rattle.check_state.proofs.linking.note_row.Goals as goal

pub loop-init : goal.loop-init
loop-init c = λ t h once child.
    noted_none t c.args.slots.now c.args.node c.args.index c.args.child c.push.new.self.items once child
    (c.in_ok-push.ensures.items
    ∙ (let P : List Link → Type 0 = λ xs. xs ++ record { node = c.args.node; index = c.args.index; child = c.args.child } ∷ []
    ≡ record { node = c.args.node; index = c.args.index; child = c.args.child } ∷ [] in
    subst P (sym c.new-waiting.ensures.items) refl))

pub returns-in-None : goal.returns-in-None
returns-in-None c = record {
  exact = λ t h once child.
      noted_all t c.args.slots.now c.loop.slots c.args.node c.args.index c.loop.waiting.items
      (nothing_waits c.loop.waiting.items c.pop.new.self.items _ c.in-None.ensures.items
      c.in-None.ensures.rest c.in-None.ensures.cases.0)
      (c.loop.invariant t h once child);
}

pub loop-preserved : goal.loop-preserved
loop-preserved c = λ t h once child. let l = c.in-Some.link in
    let noted = subst (λ ls. Noted t c.args.slots.now c.loop.slots c.args.node c.args.index ls)
    c.in-Some.ensures.items (c.loop.invariant t h once child) in
    let is = noted.links l (among_right l c.pop.new.self.items (l ∷ []) (inl refl)) in
    let row = noted.once.rows l.node l.index l.child is in
    noted_one t c.args.slots.now c.loop.slots c.insert.new.self c.args.node c.args.index
    c.pop.new.self.items c.put_links.new.waiting.items l noted c.in_ok-insert-in-Some.ensures.updates
    (c.in_ok-put_links-in-Some.ensures.exact t h noted.once.anchor_free row.0 row.1)
