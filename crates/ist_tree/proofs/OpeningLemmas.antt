-- A new tree, and its first words. Serves `open_over`.
use Rattle.std.proofs.Common.{◌≡◌, ◌≤◌, ℕ, List, false, [], ◌∙◌, refl, sym, ap, subst}
use Rattle.ist_core.specs.declared.pairs.Pair.{Pair}
use Rattle.ist_core.specs.WordTerms.{start}
use Rattle.ist_rule.specs.RuleTerms.{TableFace, TokenFace, opened_view, HasImage, IsNewMaker}
use Rattle.ist_rule.specs.declared.view.View.{View}
use Rattle.ist_tree.specs.CallTerms.{TreeFace, MakerFace, maker_face, HasWords, IsNewTree, words_for}

module _ (law : (v : View) → IsNewMaker v → HasImage v (start v.start v.words)) where
  -- until a maker makes its first pass, the words are the image of the pairs of its tree
  first_words : (maker : MakerFace) → maker.made ≡ 0 → maker.seen ≡ []
      → HasWords maker (start maker.tree.start maker.tree.words)
  first_words maker made seen s who is =
      subst (λ (tree : TreeFace). HasImage s.view (start tree.start tree.words))
      (ap (λ m. m.tree) is)
      (law s.view record {
        maker = who;
        made = ap (λ m. m.made) is ∙ made;
        seen = ap (λ m. m.seen) is ∙ seen;
      })

  -- a table that was opened with these pairs is a new tree, with a new maker
  pub new_tree : (words : ℕ) (pairs : List Pair) (table : TableFace) (token : TokenFace)
      → words_for pairs ≤ words → table.start ≡ pairs → table.table.words ≡ words
      → token.view ≡ opened_view table.table pairs words
      → IsNewTree words pairs
      (record { table = table.table; start = table.start; words = table.table.words })
      (maker_face token false)
  new_tree words pairs table token room start_is words_is view =
      let seat : TokenFace = record { view = opened_view table.table pairs words } in
      let tree : TreeFace =
      record { table = table.table; start = table.start; words = table.table.words } in
      let token_is : token ≡ seat = ap (λ v. record seat { view = v }) view in
      subst (λ s. IsNewTree words pairs tree (maker_face s false)) (sym token_is)
      record {
        room = room;
        start_is = start_is;
        words_is = words_is;
        same_tree = ap (λ ps. record tree { start = ps; words = words }) (sym start_is)
            ∙ ap (λ n. record tree { words = n }) (sym words_is);
        made = refl;
        seen = refl;
        unheard = refl;
        stamp = refl;
        taken = refl;
        unrefused = refl;
        image = first_words (maker_face seat false) refl refl;
      }
