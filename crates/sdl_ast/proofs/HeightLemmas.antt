-- Heights, and the first statement that exceeds the height limit.
use Rattle.std.proofs.Common.{◌≡◌, ℕ, ◌<◌, ◌≤◌, max, Bool, true, false, List, [], ◌∷◌, Option, Some, None, refl, subst, arith}
use Rattle.std.specs.Prelude.{nat_lt, if◌then◌else◌}
use borrow.Author.Tests.{ltb-true, ltb-false}
use Rattle.sdl_ast.specs.Limits.{GREATEST_HEIGHT}
use Rattle.sdl_ast.specs.Plain.{Tree, number, truth, variable, unary, binary, PlainAction, Text, falls, ends, does, decides, Choice, nothing_else, otherwise, answer, PlainClause, input, save, PlainSynonym, PlainDeclaration, variables, timers, own_synonyms, PlainProcess, PlainEntity, signals, route, connect, synonyms, process, PlainBlock}
use Rattle.sdl_ast.specs.Heights.{tree_height, highest, action_height, text_height, choice_height, decision_height, high_in_decision, high_in_choice, clause_height, state_height, connection_height, synonym_height, declaration_height, process_height, entity_height, Height, or_first, first_of, lesser, place_of_action, high_in_action, high_in_text, high_in_clause, high_in_state, high_in_connection, high_in_synonym, high_in_declaration, high_in_process, high_in_entity, first_too_high}

-- A height and the first place that is too high agree: there is a place exactly if the height exceeds the limit.
pub Judged : ℕ → Option ℕ → Type 0
Judged h None = h ≤ GREATEST_HEIGHT
Judged h (Some at) = GREATEST_HEIGHT < h

judged_test : (h at : ℕ) (b : Bool) → nat_lt GREATEST_HEIGHT h ≡ b → Judged h (if b then Some at else None)
unfolding Judged
judged_test h at true e = ltb-true GREATEST_HEIGHT h e
judged_test h at false e = ltb-false GREATEST_HEIGHT h e

judged-max : (h k : ℕ) (p q : Option ℕ) → Judged h p → Judged k q → Judged (max h k) (or_first p q)
unfolding Judged
judged-max h k (Some at) (Some other) a b = omega arith
judged-max h k (Some at) None a b = omega arith
judged-max h k None (Some other) a b = omega arith
judged-max h k None None a b = omega arith

judged_list : {A : Type 0} (h : A → ℕ) (f : A → Option ℕ) → ((x : A) → Judged (h x) (f x)) → (xs : List A) → Judged (highest h xs) (first_of f xs)
unfolding Judged
judged_list h f each [] = omega arith
judged_list h f each (x ∷ xs) = judged-max (h x) (highest h xs) (f x) (first_of f xs) (each x) (judged_list h f each xs)

judged_action : (a : PlainAction) → Judged (action_height a) (high_in_action a)
judged_action a = judged_test (action_height a) (place_of_action a) (nat_lt GREATEST_HEIGHT (action_height a)) refl

judged_decision : (at : ℕ) (question : Tree) (choice : Choice) → Judged (decision_height question choice) (high_in_decision at question choice)
judged_decision at question choice = judged_test (decision_height question choice) at (nat_lt GREATEST_HEIGHT (decision_height question choice)) refl

-- What a DECISION contains is lower than the DECISION, so the DECISION decides first.
judged_inside : (d c h : ℕ) (p i q : Option ℕ) → c < d → Judged d p → Judged c i → Judged h q → Judged (max d h) (or_first p (or_first i q))
unfolding Judged
judged_inside d c h (Some at) i q l a b e = omega arith
judged_inside d c h None (Some other) q l a b e = omega arith
judged_inside d c h None None (Some other) l a b e = omega arith
judged_inside d c h None None None l a b e = omega arith

mutual
  unfolding Judged

  judged_text : (t : Text) → Judged (text_height t) (high_in_text t)
  judged_text falls = omega arith
  judged_text (ends e) = omega arith
  judged_text (does a rest) = judged-max (action_height a) (text_height rest) (high_in_action a) (high_in_text rest) (judged_action a) (judged_text rest)
  judged_text (decides at question choice rest) =
      judged_inside (decision_height question choice) (choice_height choice) (text_height rest) (high_in_decision at question choice) (high_in_choice choice) (high_in_text rest)
      (omega arith) (judged_decision at question choice) (judged_choice choice) (judged_text rest)

  pub judged_choice : (c : Choice) → Judged (choice_height c) (high_in_choice c)
  judged_choice nothing_else = omega arith
  judged_choice (otherwise text) = judged_text text
  judged_choice (answer at ranges text others) =
      judged-max (text_height text) (choice_height others) (high_in_text text) (high_in_choice others) (judged_text text) (judged_choice others)

-- A DECISION within the limit contains nothing that is too high.
low_inside : (d c : ℕ) (i q : Option ℕ) → c < d → d ≤ GREATEST_HEIGHT → Judged c i → or_first i q ≡ q
unfolding Judged
low_inside d c None q l a b = refl
low_inside d c (Some at) q l a b = absurd (omega arith)

pub none_inside : (at : ℕ) (question : Tree) (choice : Choice) (q : Option ℕ)
    → or_first (high_in_decision at question choice) (or_first (high_in_choice choice) q) ≡ or_first (high_in_decision at question choice) q
none_inside at question choice q = by_test at question choice q (nat_lt GREATEST_HEIGHT (decision_height question choice)) refl
  where
    by_test : (at : ℕ) (question : Tree) (choice : Choice) (q : Option ℕ) (b : Bool) → nat_lt GREATEST_HEIGHT (decision_height question choice) ≡ b
        → or_first (if b then Some at else None) (or_first (high_in_choice choice) q) ≡ or_first (if b then Some at else None) q
    by_test at question choice q true e = refl
    by_test at question choice q false e =
        low_inside (decision_height question choice) (choice_height choice) (high_in_choice choice) q (omega arith) (ltb-false GREATEST_HEIGHT (decision_height question choice) e) (judged_choice choice)

judged_clause : (c : PlainClause) → Judged (clause_height c) (high_in_clause c)
unfolding Judged
judged_clause (input i) = judged_text i.text
judged_clause (save names) = omega arith

judged_lesser : (h k : ℕ) (p q : Option ℕ) → Judged h p → Judged k q → Judged (max h k) (lesser p q)
unfolding Judged
judged_lesser h k (Some at) (Some other) a b = omega arith
judged_lesser h k (Some at) None a b = omega arith
judged_lesser h k None (Some other) a b = omega arith
judged_lesser h k None None a b = omega arith

judged_synonym : (s : PlainSynonym) → Judged (synonym_height s) (high_in_synonym s)
judged_synonym s = judged_test (synonym_height s) s.name.at (nat_lt GREATEST_HEIGHT (synonym_height s)) refl

judged_declaration : (d : PlainDeclaration) → Judged (declaration_height d) (high_in_declaration d)
unfolding Judged
judged_declaration (variables groups) = omega arith
judged_declaration (timers names) = omega arith
judged_declaration (own_synonyms list) = judged_list synonym_height high_in_synonym judged_synonym list

judged_body : (p : PlainProcess) → Judged (max (text_height p.start.text) (max (highest state_height p.states) (highest connection_height p.connections)))
    (or_first (high_in_text p.start.text) (lesser (first_of high_in_state p.states) (first_of high_in_connection p.connections)))
judged_body p =
    judged-max (text_height p.start.text) (max (highest state_height p.states) (highest connection_height p.connections)) (high_in_text p.start.text)
    (lesser (first_of high_in_state p.states) (first_of high_in_connection p.connections))
    (judged_text p.start.text)
    (judged_lesser (highest state_height p.states) (highest connection_height p.connections) (first_of high_in_state p.states) (first_of high_in_connection p.connections)
    (judged_list state_height high_in_state (λ s. judged_list clause_height high_in_clause judged_clause s.clauses) p.states)
    (judged_list connection_height high_in_connection (λ c. judged_text c.text) p.connections))

judged_process : (p : PlainProcess) → Judged (process_height p) (high_in_process p)
judged_process p =
    judged-max (highest declaration_height p.declarations) _ (first_of high_in_declaration p.declarations) _
    (judged_list declaration_height high_in_declaration judged_declaration p.declarations) (judged_body p)

judged_entity : (e : PlainEntity) → Judged (entity_height e) (high_in_entity e)
unfolding Judged
judged_entity (signals declared) = omega arith
judged_entity (route r) = omega arith
judged_entity (connect channels routes) = omega arith
judged_entity (synonyms list) = judged_list synonym_height high_in_synonym judged_synonym list
judged_entity (process p) = judged_process p

judged_block : (b : PlainBlock) → Judged (Height b) (first_too_high b)
judged_block b = judged_list entity_height high_in_entity judged_entity b.entities

pub low_where_none : (b : PlainBlock) → first_too_high b ≡ None → Height b ≤ GREATEST_HEIGHT
unfolding Judged
low_where_none b e = subst (Judged (Height b)) e (judged_block b)

pub high_where_some : (b : PlainBlock) (at : ℕ) → first_too_high b ≡ Some at → GREATEST_HEIGHT < Height b
unfolding Judged
high_where_some b at e = subst (Judged (Height b)) e (judged_block b)

-- Every expression has a height of at least 1.
pub above_zero : (x : Tree) → nat_lt 0 (tree_height x) ≡ true
above_zero x = by_test (nat_lt 0 (tree_height x)) refl
  where
    at_least : (x : Tree) → 0 < tree_height x
    at_least (number at k) = omega arith
    at_least (truth at b) = omega arith
    at_least (variable at n) = omega arith
    at_least (unary at o y) = omega arith
    at_least (binary at o y z) = omega arith

    by_test : (b : Bool) → nat_lt 0 (tree_height x) ≡ b → b ≡ true
    by_test true e = refl
    by_test false e = let a = at_least x in let c : tree_height x ≤ 0 = ltb-false 0 (tree_height x) e in absurd (omega arith)
