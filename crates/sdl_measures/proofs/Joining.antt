-- The JOINs of a text: from the list of its statements, and by cases on the text.
use Rattle.std.proofs.Common.{◌≡◌, ℕ, ◌+◌, ◌<◌, ◌≤◌, List, ◌∷◌, ◌++◌, length, drop, get_or, refl, sym, ap, ◌∙◌, append_assoc}
use Rattle.std.proofs.lemmas.List.{drop_more, drop_all}
use Rattle.std.specs.List.{flat_map}
use Rattle.std.proofs.lemmas.Grind.{flat_map-append}
use Rattle.sdl_ast.specs.declared.tree.End.{End}
use Rattle.sdl_ast.specs.declared.tree.End.TheVariants.{NextState, Stop, Join}
use Rattle.sdl_ast.specs.declared.tree.Join as the_join
use Rattle.sdl_ast.specs.declared.tree.Statement.{Statement}
use Rattle.sdl_ast.specs.declared.tree.Answer.{Answer}
use Rattle.sdl_ast.specs.Views.{text_of, statement_of, statements_before, answers_before}
use Rattle.sdl_ast.proofs.Views.{answer_of-is}
use Rattle.sdl_ast.specs.Plain.{Tree, Text, falls, ends, does, decides, Choice, nothing_else, otherwise, answer}
use Rattle.sdl_sound.specs.Statements.{end_joins, statement_joins, statements_of, choice_statements, joins_of}
use Rattle.sdl_measures.specs.JoinLists.{text_joins, choice_joins}

end_joins_are : (e : End) → end_joins e ≡ joins_of (ends e)
end_joins_are (NextState n) = refl
end_joins_are (Stop at) = refl
end_joins_are (Join j) = refl

mutual
  pub joins_are : (t : Text) → text_joins t ≡ joins_of t
  joins_are falls = refl
  joins_are (ends e) = end_joins_are e
  joins_are (does a rest) = joins_are rest
  joins_are (decides at q c rest) =
      ap (λ l. l ++ text_joins rest) (choice_joins_are q c) ∙ ap (λ l. flat_map statement_joins (choice_statements q c) ++ l) (joins_are rest)
      ∙ sym (flat_map-append statement_joins (choice_statements q c) (statements_of rest))

  pub choice_joins_are : (q : Tree) (c : Choice) → choice_joins c ≡ flat_map statement_joins (choice_statements q c)
  choice_joins_are q nothing_else = refl
  choice_joins_are q (otherwise body) = joins_are body
  choice_joins_are q (answer at ranges body others) =
      ap (λ l. l ++ choice_joins others) (joins_are body) ∙ ap (λ l. joins_of body ++ l) (choice_joins_are q others)
      ∙ sym (flat_map-append statement_joins (statements_of body) (choice_statements q others))

-- ---- the loop invariants for one more statement and one more answer

pub statements_on : (start old new : List the_join.Join) (ss : List Statement) (i : ℕ) (s : Statement) (last : Text) → i < length ss → s ≡ get_or ss i s
    → ((rest : Text) → new ++ text_joins rest ≡ old ++ text_joins (statement_of s rest)) → old ++ text_joins (statements_before (drop i ss) last) ≡ start
    → new ++ text_joins (statements_before (drop (i + 1) ss) last) ≡ start
statements_on start old new ss i s last lt is step before =
    let first : drop i ss ≡ s ∷ drop (i + 1) ss = drop_more ss i s lt ∙ ap (λ x. x ∷ drop (i + 1) ss) (sym is) in
    step (statements_before (drop (i + 1) ss) last) ∙ (ap (λ l. old ++ text_joins (statements_before l last)) (sym first) ∙ before)

pub answers_on : (start old new : List the_join.Join) (xs : List Answer) (i : ℕ) (x : Answer) (others : Choice) → i < length xs → x ≡ get_or xs i x
    → new ≡ old ++ text_joins (text_of x.body) → old ++ choice_joins (answers_before (drop i xs) others) ≡ start
    → new ++ choice_joins (answers_before (drop (i + 1) xs) others) ≡ start
answers_on start old new xs i x others lt is body before =
    let rest = answers_before (drop (i + 1) xs) others in
    let first : drop i xs ≡ x ∷ drop (i + 1) xs = drop_more xs i x lt ∙ ap (λ y. y ∷ drop (i + 1) xs) (sym is) in
    ap (λ l. l ++ choice_joins rest) body ∙ (append_assoc old (text_joins (text_of x.body)) (choice_joins rest)
    ∙ (ap (λ k. old ++ choice_joins k) (sym (answer_of-is x rest)) ∙ (ap (λ l. old ++ choice_joins (answers_before l others)) (sym first) ∙ before)))

pub statements_past : (start now : List the_join.Join) (ss : List Statement) (i : ℕ) (last : Text) → length ss ≤ i → now ++ text_joins (statements_before (drop i ss) last) ≡ start
    → now ++ text_joins last ≡ start
statements_past start now ss i last past before = ap (λ l. now ++ text_joins (statements_before l last)) (sym (drop_all i ss past)) ∙ before
