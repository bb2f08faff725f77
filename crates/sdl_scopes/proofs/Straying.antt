-- The bad ends of a transition, for the lists in which the code keeps it.
use Rattle.std.proofs.Common.{◌≡◌, ℕ, ◌+◌, ◌<◌, List, [], ◌∷◌, ◌++◌, length, drop, get_or, refl, sym, ap, ◌∙◌, subst}
use Rattle.std.specs.List.{flat_map}
use Rattle.std.proofs.lemmas.List.{append_assoc, drop_more}
use Rattle.sdl_ast.specs.declared.expression.Identifier.{Identifier}
use Rattle.sdl_ast.specs.declared.tree.Answer.{Answer}
use Rattle.sdl_ast.specs.declared.tree.Statement.{Statement}
use Rattle.sdl_ast.specs.Plain.{Text, Choice}
use Rattle.sdl_ast.specs.Views.{text_of, statement_of, statements_before, answers_before}
use Rattle.sdl_sound.specs.Ends.{strays, choice_strays}
use Rattle.sdl_scopes.specs.Rests.{IsRest}
use Rattle.sdl_scopes.specs.declared.ends.Rest.{Rest}
use Rattle.sdl_ast.proofs.Views.{answer_of-is}

-- the answers of a DECISION
pub answers_strays : (ids : List Identifier) (xs : List Answer) (others : Choice)
    → choice_strays ids (answers_before xs others) ≡ flat_map (λ (a : Answer). strays ids [] (text_of a.body)) xs ++ choice_strays ids others
answers_strays ids [] others = refl
answers_strays ids (a ∷ xs) others =
    ap (choice_strays ids) (answer_of-is a (answers_before xs others))
    ∙ (ap (λ l. strays ids [] (text_of a.body) ++ l) (answers_strays ids xs others)
    ∙ sym (append_assoc (strays ids [] (text_of a.body)) (flat_map (λ (a : Answer). strays ids [] (text_of a.body)) xs) (choice_strays ids others)))

-- One more statement, before the others.
pub one_more : (ids : List Identifier) (at : ℕ) (ss : List Statement) (i : ℕ) (s : Statement) (t : Text) (rest result : Rest) → i < length ss
    → s ≡ get_or ss i s → IsRest ids at (statements_before (drop (i + 1) ss) t) rest
    → ((u : Text) → IsRest ids at u rest → IsRest ids at (statement_of s u) result)
    → IsRest ids at (statements_before (drop i ss) t) result
one_more ids at ss i s t rest result lt is given more =
    let left : drop i ss ≡ s ∷ drop (i + 1) ss = drop_more ss i s lt ∙ ap (λ x. x ∷ drop (i + 1) ss) (sym is) in
    subst (λ (l : List Statement). IsRest ids at (statements_before l t) result) (sym left) (more (statements_before (drop (i + 1) ss) t) given)
