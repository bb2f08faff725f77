-- The marks of a text: one more statement, one more answer.
use Rattle.std.proofs.Common.{◌≡◌, ◌∙◌, ℕ, ◌+◌, ◌<◌, ◌≤◌, List, [], ◌∷◌, ◌++◌, append_assoc, length, drop, get_or, Option, sym, ap}
use Rattle.std.proofs.lemmas.List.{drop_more, drop_all}
use Rattle.sdl_ast.specs.declared.tree.Answer.{Answer}
use Rattle.sdl_ast.specs.declared.tree.Statement.{Statement}
use Rattle.sdl_ast.specs.declared.tree.Transition.{Transition}
use Rattle.sdl_ast.specs.Plain.{Text, Choice}
use Rattle.sdl_ast.specs.Views.{text_of, else_choice, statement_of, statements_before, answers_before}
use Rattle.sdl_ast.proofs.Views.{answer_of-is}
use Rattle.script_covered.specs.Lcov.{text_marks, choice_marks}
use Rattle.script_covered.specs.declared.marks.Mark.{Mark}
use Rattle.script_covered.specs.declared.marks.Mark.TheVariants.{Answer as Answered, Else}

pub statements_on : (start old new : List Mark) (ss : List Statement) (i : ℕ) (s : Statement) (last : Text) → i < length ss → s ≡ get_or ss i s
    → ((rest : Text) → new ++ text_marks rest ≡ old ++ text_marks (statement_of s rest)) → old ++ text_marks (statements_before (drop i ss) last) ≡ start
    → new ++ text_marks (statements_before (drop (i + 1) ss) last) ≡ start
statements_on start old new ss i s last lt is step before =
    let first : drop i ss ≡ s ∷ drop (i + 1) ss = drop_more ss i s lt ∙ ap (λ x. x ∷ drop (i + 1) ss) (sym is) in
    step (statements_before (drop (i + 1) ss) last) ∙ (ap (λ l. old ++ text_marks (statements_before l last)) (sym first) ∙ before)

pub statements_past : (start now : List Mark) (ss : List Statement) (i : ℕ) (last : Text) → length ss ≤ i → now ++ text_marks (statements_before (drop i ss) last) ≡ start
    → now ++ text_marks last ≡ start
statements_past start now ss i last past before = ap (λ l. now ++ text_marks (statements_before l last)) (sym (drop_all i ss past)) ∙ before

pub answers_on : (start old mid new : List Mark) (k n : ℕ) (xs : List Answer) (i : ℕ) (x : Answer) (others : Choice) → i < length xs → x ≡ get_or xs i x
    → mid ≡ old ++ Answered x.at k n ∷ [] → new ≡ mid ++ text_marks (text_of x.body) → old ++ choice_marks k n (answers_before (drop i xs) others) ≡ start
    → new ++ choice_marks k (n + 1) (answers_before (drop (i + 1) xs) others) ≡ start
answers_on start old mid new k n xs i x others lt is one body before =
    let rest = answers_before (drop (i + 1) xs) others in
    let more = choice_marks k (n + 1) rest in
    let inside = text_marks (text_of x.body) in
    let first : drop i xs ≡ x ∷ drop (i + 1) xs = drop_more xs i x lt ∙ ap (λ y. y ∷ drop (i + 1) xs) (sym is) in
    ap (λ l. l ++ more) body
    ∙ (append_assoc mid inside more
    ∙ (ap (λ l. l ++ (inside ++ more)) one
    ∙ (append_assoc old (Answered x.at k n ∷ []) (inside ++ more)
    ∙ (ap (λ c. old ++ choice_marks k n c) (sym (answer_of-is x rest)) ∙ (ap (λ l. old ++ choice_marks k n (answers_before l others)) (sym first) ∙ before)))))

pub answers_past : (start now : List Mark) (k n : ℕ) (xs : List Answer) (i : ℕ) (o r : Option Transition) → length xs ≤ i → o ≡ r
    → now ++ choice_marks k n (answers_before (drop i xs) (else_choice o)) ≡ start → now ++ choice_marks k n (else_choice r) ≡ start
answers_past start now k n xs i o r past is before =
    ap (λ p. now ++ choice_marks k n (else_choice p)) (sym is)
    ∙ (ap (λ l. now ++ choice_marks k n (answers_before l (else_choice o))) (sym (drop_all i xs past)) ∙ before)

pub with_else : (start now mid new : List Mark) (k n : ℕ) (t : Transition) → mid ≡ now ++ Else k n ∷ [] → new ≡ mid ++ text_marks (text_of t)
    → now ++ (Else k n ∷ text_marks (text_of t)) ≡ start → new ≡ start
with_else start now mid new k n t one body before =
    body ∙ (ap (λ l. l ++ text_marks (text_of t)) one ∙ (append_assoc now (Else k n ∷ []) (text_marks (text_of t)) ∙ before))
