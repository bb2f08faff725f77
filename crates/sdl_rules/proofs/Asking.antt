-- What a rule checks in the statements of a transition, over the lists in which the code keeps them.
use Rattle.std.proofs.Common.{◌≡◌, ℕ, false, true≢false, List, [], ◌∷◌, ◌++◌, Option, None, Some, refl, sym, ap, ◌∙◌}
use Rattle.std.specs.List.{flat_map}
use Rattle.std.proofs.lemmas.List.{append-nil, append_assoc}
use Rattle.std.proofs.lemmas.Grind.{flat_map-append}
use Rattle.sdl_ast.specs.declared.tree.End.{End}
use Rattle.sdl_ast.specs.declared.tree.Answer.{Answer}
use Rattle.sdl_ast.specs.declared.tree.Transition.{Transition}
use Rattle.sdl_ast.specs.declared.tree.Statement as the_statement
use Rattle.sdl_ast.specs.Plain.{Tree, Text, falls, Choice, PlainStatement, act, decide, before, PlainProcess, PlainBlock}
use Rattle.sdl_ast.specs.Views.{text_of, statements_before, answers_before, end_text, plain_statement}
use Rattle.sdl_sound.specs.Statements.{Statement, asks, statements_of, choice_statements}
use Rattle.sdl_sound.specs.Actions.{Origin}
use Rattle.sdl_rules.specs.Asked.{asked_all, asks_origin}
use Rattle.sdl_rules.specs.declared.statements.StatementRule.{StatementRule}
use Rattle.sdl_rules.specs.declared.statements.StatementRule.TheVariants.{Names, Sorts, Receivers, OneReceiver, Answers, Divisors, NothingBack}
use Rattle.sdl_sound.specs.Parts.{statement_parts, answer_parts, end_parts}
use Rattle.sdl_ast.proofs.Views.{text_of-is, answer_of-is}

-- A statement before the others.
one_before : (s : PlainStatement) (rest : Text) → statements_of (before s rest) ≡ statements_of (before s falls) ++ statements_of rest
one_before (act a) rest = refl
one_before (decide at q c) rest = ap (λ l. asks at q c ∷ (l ++ statements_of rest)) (sym (append-nil (choice_statements q c)))

-- Statements before a text, each checked by itself.
pub all_asked : (ask : Statement → List ℕ) (ss : List the_statement.Statement) (rest : Text)
    → flat_map ask (statements_of (statements_before ss rest)) ≡ flat_map (λ s. flat_map ask (statement_parts s)) ss ++ flat_map ask (statements_of rest)
all_asked ask [] rest = refl
all_asked ask (s ∷ ss) rest =
    ap (flat_map ask) (one_before (plain_statement s) (statements_before ss rest))
    ∙ (flat_map-append ask (statement_parts s) (statements_of (statements_before ss rest))
    ∙ (ap (λ l. flat_map ask (statement_parts s) ++ l) (all_asked ask ss rest)
    ∙ sym (append_assoc (flat_map ask (statement_parts s)) (flat_map (λ s. flat_map ask (statement_parts s)) ss) (flat_map ask (statements_of rest)))))

end_asked : (ask : Statement → List ℕ) (e : Option End) → flat_map ask (statements_of (end_text e)) ≡ flat_map ask (end_parts e)
end_asked ask None = refl
end_asked ask (Some e) = refl

-- A transition.
pub text_asked : (ask : Statement → List ℕ) (t : Transition)
    → flat_map ask (statements_of (text_of t)) ≡ flat_map (λ s. flat_map ask (statement_parts s)) t.statements.items ++ flat_map ask (end_parts t.end)
text_asked ask t =
    ap (λ text. flat_map ask (statements_of text)) (text_of-is t)
    ∙ (all_asked ask t.statements.items (end_text t.end)
    ∙ ap (λ l. flat_map (λ s. flat_map ask (statement_parts s)) t.statements.items ++ l) (end_asked ask t.end))

-- The answers of a DECISION.
pub answers_asked : (ask : Statement → List ℕ) (q : Tree) (xs : List Answer) (others : Choice)
    → flat_map ask (choice_statements q (answers_before xs others)) ≡ flat_map (λ a. flat_map ask (answer_parts q a)) xs ++ flat_map ask (choice_statements q others)
answers_asked ask q [] others = refl
answers_asked ask q (a ∷ xs) others =
    let more = answers_before xs others in
    ap (λ c. flat_map ask (choice_statements q c)) (answer_of-is a more)
    ∙ (flat_map-append ask (answer_parts q a) (choice_statements q more)
    ∙ (ap (λ l. flat_map ask (answer_parts q a) ++ l) (answers_asked ask q xs others)
    ∙ sym (append_assoc (flat_map ask (answer_parts q a)) (flat_map (λ a. flat_map ask (answer_parts q a)) xs) (flat_map ask (choice_statements q others)))))

-- A rule that doesn't depend on what starts the transition.
pub asked_without : (rule : StatementRule) (b : PlainBlock) (p : PlainProcess) (from : List Origin) (xs : List Statement) → asks_origin rule ≡ false
    → asked_all rule b p [] xs ≡ asked_all rule b p from xs
asked_without Names b p from xs h = refl
asked_without Sorts b p from xs h = refl
asked_without Receivers b p from xs h = absurd (true≢false h)
asked_without OneReceiver b p from xs h = refl
asked_without Answers b p from xs h = refl
asked_without Divisors b p from xs h = refl
asked_without NothingBack b p from xs h = refl
