-- The statements of a text, one statement and one answer further on.
use Rattle.std.proofs.Common.{◌≡◌, ℕ, ◌+◌, ◌<◌, ◌≤◌, List, [], ◌∷◌, ◌++◌, length, drop, get_or, sym, ap, ◌∙◌, append_assoc}
use Rattle.std.proofs.lemmas.List.{drop_more, drop_all}
use Rattle.sdl_ast.specs.declared.tree.Action.{Action}
use Rattle.sdl_ast.specs.declared.tree.Answer.{Answer}
use Rattle.sdl_ast.specs.declared.tree.Decision.{Decision}
use Rattle.sdl_ast.specs.declared.tree.Statement as tree
use Rattle.sdl_ast.specs.declared.tree.Statement.TheVariants.{Act, Decide}
use Rattle.sdl_ast.specs.Plain.{Tree, Text, Choice}
use Rattle.sdl_ast.specs.Views.{action_of, text_of, statement_of, statements_before, answers_before}
use Rattle.sdl_ast.proofs.Views.{answer_of-is, statement_of-act, statement_of-decide}
use Rattle.sdl_sound.specs.Statements.{Statement, acts, covers, statements_of, choice_statements}
use Rattle.sdl_sound.specs.Parts.{decision_parts}

pub statements_on : (start old new : List Statement) (ss : List tree.Statement) (i : ℕ) (s : tree.Statement) (last : Text) → i < length ss → s ≡ get_or ss i s
    → ((rest : Text) → new ++ statements_of rest ≡ old ++ statements_of (statement_of s rest)) → old ++ statements_of (statements_before (drop i ss) last) ≡ start
    → new ++ statements_of (statements_before (drop (i + 1) ss) last) ≡ start
statements_on start old new ss i s last lt is step before =
    let first : drop i ss ≡ s ∷ drop (i + 1) ss = drop_more ss i s lt ∙ ap (λ x. x ∷ drop (i + 1) ss) (sym is) in
    step (statements_before (drop (i + 1) ss) last) ∙ (ap (λ l. old ++ statements_of (statements_before l last)) (sym first) ∙ before)

pub statements_past : (start now : List Statement) (ss : List tree.Statement) (i : ℕ) (last : Text) → length ss ≤ i → now ++ statements_of (statements_before (drop i ss) last) ≡ start
    → now ++ statements_of last ≡ start
statements_past start now ss i last past before = ap (λ l. now ++ statements_of (statements_before l last)) (sym (drop_all i ss past)) ∙ before

pub answers_on : (start old mid new : List Statement) (q : Tree) (xs : List Answer) (i : ℕ) (x : Answer) (others : Choice) → i < length xs → x ≡ get_or xs i x
    → mid ≡ old ++ covers q x.ranges.items ∷ [] → new ≡ mid ++ statements_of (text_of x.body) → old ++ choice_statements q (answers_before (drop i xs) others) ≡ start
    → new ++ choice_statements q (answers_before (drop (i + 1) xs) others) ≡ start
answers_on start old mid new q xs i x others lt is head body before =
    let rest = answers_before (drop (i + 1) xs) others in
    let cover = covers q x.ranges.items in
    let first : drop i xs ≡ x ∷ drop (i + 1) xs = drop_more xs i x lt ∙ ap (λ y. y ∷ drop (i + 1) xs) (sym is) in
    ap (λ l. l ++ choice_statements q rest) (body ∙ ap (λ l. l ++ statements_of (text_of x.body)) head)
    ∙ (append_assoc (old ++ cover ∷ []) (statements_of (text_of x.body)) (choice_statements q rest)
    ∙ (append_assoc old (cover ∷ []) (statements_of (text_of x.body) ++ choice_statements q rest)
    ∙ (ap (λ k. old ++ choice_statements q k) (sym (answer_of-is x rest)) ∙ (ap (λ l. old ++ choice_statements q (answers_before l others)) (sym first) ∙ before))))

pub answers_past : (start now : List Statement) (q : Tree) (xs : List Answer) (i : ℕ) (others : Choice) → length xs ≤ i → now ++ choice_statements q (answers_before (drop i xs) others) ≡ start
    → now ++ choice_statements q others ≡ start
answers_past start now q xs i others past before = ap (λ l. now ++ choice_statements q (answers_before l others)) (sym (drop_all i xs past)) ∙ before

-- a sole action, and a sole DECISION
pub act_on : (old new : List Statement) (a : Action) → new ≡ old ++ acts (action_of a) ∷ [] → (rest : Text) → new ++ statements_of rest ≡ old ++ statements_of (statement_of (Act a) rest)
act_on old new a more rest =
    ap (λ l. l ++ statements_of rest) more ∙ (append_assoc old (acts (action_of a) ∷ []) (statements_of rest) ∙ ap (λ t. old ++ statements_of t) (sym (statement_of-act a rest)))

pub decide_on : (old new : List Statement) (d : Decision) → new ≡ old ++ decision_parts d → (rest : Text) → new ++ statements_of rest ≡ old ++ statements_of (statement_of (Decide d) rest)
decide_on old new d more rest =
    ap (λ l. l ++ statements_of rest) more ∙ (append_assoc old (decision_parts d) (statements_of rest) ∙ ap (λ t. old ++ statements_of t) (sym (statement_of-decide d rest)))
