-- How the code of a text is put together, statement by statement and body by body.
use Rattle.std.proofs.Common.{◌≡◌, ℕ, ◌+◌, ◌<◌, ◌≤◌, Bool, true, false, cond, List, [], ◌∷◌, ◌++◌, length, drop, map, Option, Some, None, refl, sym, ap, ◌∙◌, subst, arith, append_assoc, append-nil, length-append}
use Rattle.std.specs.Prelude.{get_or, slice_get}
use Rattle.std.specs.List.{sum_by}
use Rattle.std.specs.Option.{option_map_or}
use Rattle.std.proofs.lemmas.List.Sums.{sum_by-cons}
use Rattle.std.proofs.lemmas.List.{drop_more}
use Rattle.sdl_ast.specs.declared.tree.Range.{Range}
use Rattle.sdl_ast.specs.declared.tree.Answer.{Answer}
use Rattle.sdl_ast.specs.declared.tree.Statement.{Statement}
use Rattle.sdl_ast.specs.declared.tree.Transition.{Transition}
use Rattle.sdl_ast.specs.Plain.{Tree, Text, falls, decides, Choice, nothing_else, otherwise, answer, PlainStatement, act, decide, before, PlainAnswer, all_answers, PlainConnection}
use Rattle.sdl_ast.specs.Views.{plain_statement, plain_answer, statement_of, statements_before, answers_before, else_choice}
use Rattle.turn_code.specs.declared.instruction.Instruction.{Instruction}
use Rattle.sdl_tables.specs.Names.{Variable, variables_of}
use Rattle.sdl_sound.specs.Longest.{Piece, cost_of, action_cost, size, tests_size, bodies_size}
use Rattle.sdl_meaning.specs.Act.{is_truth}
use Rattle.sdl_meaning.specs.Outcomes.{Scope}
use Rattle.sdl_meaning.specs.Named.{NamedText, NamedChoice, NamedConnections}
use Rattle.sdl_meaning.specs.Code.{tree_code, action_code, leave_code, body_size, else_size, answers_size, tests_code, pick_code, bodies_place, else_place, answers_place, after_choice, text_code, else_code, answers_code, bodies_code, truth_code, integer_code, text_at, size_at, places_code, place_in, connections_code, text_place, connections_place, piece_code}
use Rattle.sdl_meaning.proofs.Sizes.{places_size, tree_size, leave_size, tests_are, text_size_is, answers_size_is, else_size_is}

-- ---- one more item of a list

pub one_statement : (xs : List Statement) (i : ℕ) (s : Statement) (rest : Text) → i < length xs → s ≡ get_or xs i s → statements_before (drop i xs) rest ≡ statement_of s (statements_before (drop (i + 1) xs) rest)
one_statement xs i s rest lt is = ap (λ l. statements_before l rest) (drop_more xs i s lt ∙ ap (λ y. y ∷ drop (i + 1) xs) (sym is))

module _ (c : Scope) (to : ℕ → ℕ) where
  -- ---- a statement, and what follows it

  abbrev vs : List Variable
  vs = variables_of c.process

  -- The code of one statement, with what follows it placed next.
  pub before_code : (p : PlainStatement) (n : ℕ) (rest : Text) → text_code c to n (before p rest) ≡ text_code c to n (before p falls) ++ text_code c to (n + size vs (before p falls)) rest
  before_code (act a) n rest =
      let e : n + (action_cost a + 0) ≡ n + action_cost a = omega arith in
      sym (ap (λ l. l ++ text_code c to (n + (action_cost a + 0)) rest) (append-nil (action_code c a)) ∙ ap (λ k. action_code c a ++ text_code c to k rest) e)
  before_code (decide at q choice) n rest =
      let b = is_truth c q in
      let m = n + cost_of q in
      let x = cond b (truth_code c to m choice) (integer_code c to m choice) in
      let after = after_choice c b m choice in
      let e : n + (cost_of q + cond b 1 (tests_size choice) + bodies_size vs choice + 0) ≡ after = omega arith in
      sym (ap (λ l. (tree_code c q ++ l) ++ text_code c to (n + (cost_of q + cond b 1 (tests_size choice) + bodies_size vs choice + 0)) rest) (append-nil x)
      ∙ ap (λ k. (tree_code c q ++ x) ++ text_code c to k rest) e ∙ append_assoc (tree_code c q) x (text_code c to after rest))

  before_size : (p : PlainStatement) (rest : Text) → size vs (before p rest) ≡ size vs (before p falls) + size vs rest
  before_size (act a) rest = omega arith
  before_size (decide at q choice) rest = omega arith

  pub before_first : (p : PlainStatement) (rest : Text) → NamedText c (before p rest) → NamedText c (before p falls)
  before_first (act a) rest h = (h.0, tt)
  before_first (decide at q choice) rest h = (record { question = h.0.question; answered = h.0.answered; reached = λ e. refl }, h.1, tt)

  pub before_rest : (p : PlainStatement) (rest : Text) → NamedText c (before p rest) → NamedText c rest
  before_rest (act a) rest h = h.1
  before_rest (decide at q choice) rest h = h.2

  module _ (s : Statement) (t rest : Text) (is : t ≡ statement_of s rest) (old : List Instruction) where
    pub statement_named : NamedText c t → NamedText c (statement_of s falls)
    statement_named h = before_first (plain_statement s) rest (subst (NamedText c) is h)

    pub rest_named : NamedText c t → NamedText c rest
    rest_named h = before_rest (plain_statement s) rest (subst (NamedText c) is h)

    pub statement_fits : length old + size vs t ≤ 512 → length old + size vs (statement_of s falls) ≤ 512
    statement_fits h = omega (arith, h, ap (size vs) is, before_size (plain_statement s) rest)

    module _ (new : List Instruction) (made : new ≡ old ++ text_code c to (length old) (statement_of s falls)) where
      new_length : length new ≡ length old + size vs (statement_of s falls)
      new_length = ap length made ∙ length-append old (text_code c to (length old) (statement_of s falls)) ∙ ap (λ n. length old + n) (text_size_is c to (length old) (statement_of s falls))

      pub rest_fits : length old + size vs t ≤ 512 → length new + size vs rest ≤ 512
      rest_fits h = omega (arith, h, ap (size vs) is, before_size (plain_statement s) rest, new_length)

      pub rest_code : (all : List Instruction) → old ++ text_code c to (length old) t ≡ all → new ++ text_code c to (length new) rest ≡ all
      rest_code all e =
          let x = text_code c to (length old) (statement_of s falls) in
          ap (λ l. l ++ text_code c to (length new) rest) made
          ∙ append_assoc old x (text_code c to (length new) rest)
          ∙ ap (λ k. old ++ (x ++ text_code c to k rest)) new_length
          ∙ ap (λ l. old ++ l) (sym (before_code (plain_statement s) (length old) rest))
          ∙ ap (λ t. old ++ text_code c to (length old) t) (sym is) ∙ e

  -- ---- an answer, and the answers after it

  module _ (at : ℕ) (rs : List Range) (body : Text) (choice others : Choice) (is : choice ≡ answer at rs body others) (after : ℕ) (old new : List Instruction)
      (made : new ≡ old ++ (text_code c to (length old) body ++ leave_code after body)) where
    pub body_length : length new ≡ length old + body_size c body
    body_length =
        let x = text_code c to (length old) body in
        omega (arith, ap length made, length-append old (x ++ leave_code after body), length-append x (leave_code after body), text_size_is c to (length old) body, leave_size after body)

    pub others_fit : length old + answers_size c choice ≤ 512 → length new + answers_size c others ≤ 512
    others_fit h = omega (arith, h, ap (answers_size c) is, body_length)

    pub others_code : (all : List Instruction) → old ++ answers_code c to (length old) after choice ≡ all → new ++ answers_code c to (length new) after others ≡ all
    others_code all e =
        let x = text_code c to (length old) body in
        let y = leave_code after body in
        ap (λ l. l ++ answers_code c to (length new) after others) made
        ∙ append_assoc old (x ++ y) (answers_code c to (length new) after others)
        ∙ ap (λ l. old ++ l) (append_assoc x y (answers_code c to (length new) after others))
        ∙ ap (λ k. old ++ (x ++ (y ++ answers_code c to k after others))) body_length
        ∙ ap (λ ch. old ++ answers_code c to (length old) after ch) (sym is) ∙ e

  pub others_named : (q : Tree) (at : ℕ) (rs : List Range) (body : Text) (choice others : Choice) → choice ≡ answer at rs body others → NamedChoice c q choice → NamedChoice c q others
  others_named q at rs body choice others is h = (subst (NamedChoice c q) is h).2

  pub answer_named : (q : Tree) (at : ℕ) (rs : List Range) (body : Text) (choice others : Choice) → choice ≡ answer at rs body others → NamedChoice c q choice → NamedText c body
  answer_named q at rs body choice others is h = (subst (NamedChoice c q) is h).1

  -- ---- ELSE after the answers

  else_alone : (list : List PlainAnswer) (o : Option Transition) → else_size c (all_answers list (else_choice o)) ≡ else_size c (else_choice o)
  else_alone [] o = refl
  else_alone (a ∷ list) o = else_alone list o

  pub else_size_alone : (list : List Answer) (o : Option Transition) → else_size c (answers_before list (else_choice o)) ≡ else_size c (else_choice o)
  else_size_alone list o = else_alone (map plain_answer list) o

  else_code_by : (list : List PlainAnswer) (o : Option Transition) (n after : ℕ) → else_code c to n after (all_answers list (else_choice o)) ≡ else_code c to n after (else_choice o)
  else_code_by [] o n after = refl
  else_code_by (a ∷ list) o n after = else_code_by list o n after

  pub else_code_alone : (list : List Answer) (o : Option Transition) (n after : ℕ) → else_code c to n after (answers_before list (else_choice o)) ≡ else_code c to n after (else_choice o)
  else_code_alone list o n after = else_code_by (map plain_answer list) o n after

  else_named_by : (q : Tree) (list : List PlainAnswer) (o : Option Transition) → NamedChoice c q (all_answers list (else_choice o)) → NamedChoice c q (else_choice o)
  else_named_by q [] o h = h
  else_named_by q (a ∷ list) o h = else_named_by q list o h.2

  pub else_named : (q : Tree) (list : List Answer) (o : Option Transition) → NamedChoice c q (answers_before list (else_choice o)) → NamedChoice c q (else_choice o)
  else_named q list o h = else_named_by q (map plain_answer list) o h

  -- The bodies in the order of the text have the size of those of the answers and of ELSE.
  pub bodies_size_parts : (choice : Choice) → bodies_size vs choice ≡ answers_size c choice + else_size c choice
  bodies_size_parts nothing_else = refl
  bodies_size_parts (otherwise body) = omega arith
  bodies_size_parts (answer at rs body others) = let h = bodies_size_parts others in omega (arith, h)

  pub answers_length : (choice : Choice) (n after : ℕ) → length (answers_code c to n after choice) ≡ answers_size c choice
  answers_length choice n after =
      let h = answers_size_is c to n n after choice in
      let k = else_size_is c to n after choice in
      let l = bodies_size_parts choice in
      omega (arith, h, k, l)

  bodies_parts : (choice : Choice) (n after : ℕ) → bodies_code c to n after choice ≡ answers_code c to n after choice ++ else_code c to (n + answers_size c choice) after choice
  bodies_parts nothing_else n after = refl
  bodies_parts (otherwise body) n after = let e : n ≡ n + 0 = omega arith in ap (λ k. text_code c to k body ++ leave_code after body) e
  bodies_parts (answer at rs body others) n after =
      let x = text_code c to n body in
      let y = leave_code after body in
      let m = n + body_size c body in
      let z = answers_code c to m after others in
      let e : m + answers_size c others ≡ n + (body_size c body + answers_size c others) = omega arith in
      let w = else_code c to (n + (body_size c body + answers_size c others)) after others in
      ap (λ l. x ++ (y ++ l)) (bodies_parts others m after ∙ ap (λ k. z ++ else_code c to k after others) e)
      ∙ ap (λ l. x ++ l) (sym (append_assoc y z w)) ∙ sym (append_assoc x (y ++ z) w)

  -- ---- a DECISION

  module _ (t : Text) (at : ℕ) (q : Tree) (choice : Choice) (is : t ≡ decides at q choice falls) (old new : List Instruction) (made : new ≡ old ++ tree_code c q) where
    question_length : length new ≡ length old + cost_of q
    question_length = omega (arith, ap length made, length-append old (tree_code c q), tree_size c q)

    pub choice_named : NamedText c t → NamedChoice c q choice
    choice_named h = (subst (NamedText c) is h).1

    pub choice_fits : (b : Bool) → is_truth c q ≡ b → length old + size vs t ≤ 512 → after_choice c b (length new) choice ≤ 512
    choice_fits b e h = omega (arith, h, ap (size vs) is, ap (λ b. cond b 1 (tests_size choice)) e, question_length)

    pub decision_code : (b : Bool) (last : List Instruction) → is_truth c q ≡ b → last ≡ new ++ cond b (truth_code c to (length new) choice) (integer_code c to (length new) choice) → last ≡ old ++ text_code c to (length old) t
    decision_code b last e f =
        let m = length old + cost_of q in
        let x = λ (b : Bool). cond b (truth_code c to m choice) (integer_code c to m choice) in
        f ∙ ap (λ n. new ++ cond b (truth_code c to n choice) (integer_code c to n choice)) question_length
        ∙ ap (λ l. l ++ x b) made ∙ append_assoc old (tree_code c q) (x b)
        ∙ ap (λ b. old ++ (tree_code c q ++ x b)) (sym e)
        ∙ ap (λ l. old ++ (tree_code c q ++ l)) (sym (append-nil (x (is_truth c q))))
        ∙ ap (λ t. old ++ text_code c to (length old) t) (sym is)

  -- The parts of a Boolean DECISION.
  module _ (all : Choice) (old : List Instruction) (after : ℕ) where
    module _ (here : after ≡ after_choice c true (length old) all) (fits : after_choice c true (length old) all ≤ 512) (new : List Instruction) (x : Instruction) (made : new ≡ old ++ x ∷ []) where
      picked_length : length new ≡ length old + 1
      picked_length = omega (arith, ap length made, length-append old (x ∷ []))

      module _ (new2 : List Instruction) (made2 : new2 ≡ new ++ answers_code c to (length new) after all) where
        bodies_length : length new2 ≡ length new + answers_size c all
        bodies_length = omega (arith, ap length made2, length-append new (answers_code c to (length new) after all), answers_length all (length new) after)

        pub truth_whole : (last : List Instruction) → x ≡ pick_code c (bodies_place (length old)) all → last ≡ new2 ++ else_code c to (length new2) after all → last ≡ old ++ truth_code c to (length old) all
        truth_whole last e f =
            let n = bodies_place (length old) in
            let y = answers_code c to (length new) after all in
            let z = else_code c to (length new2) after all in
            f ∙ ap (λ l. l ++ z) made2 ∙ append_assoc new y z ∙ ap (λ l. l ++ (y ++ z)) made ∙ append_assoc old (x ∷ []) (y ++ z)
            ∙ ap (λ l. old ++ (x ∷ (y ++ l))) (ap (λ k. else_code c to k after all) bodies_length)
            ∙ ap (λ l. old ++ (x ∷ l)) (sym (bodies_parts all (length new) after))
            ∙ ap (λ k. old ++ (x ∷ bodies_code c to k after all)) picked_length
            ∙ ap (λ k. old ++ (x ∷ bodies_code c to n k all)) here
            ∙ ap (λ x. old ++ (x ∷ bodies_code c to n (after_choice c true (length old) all) all)) e

    -- The parts of an Integer DECISION.
    module _ (here : after ≡ after_choice c false (length old) all) (fits : after_choice c false (length old) all ≤ 512) where
      module _ (first : ℕ) (there : first ≡ answers_place c (length old) all) (new : List Instruction) (made : new ≡ old ++ tests_code c first all) where
        tests_length_is : length new ≡ else_place (length old) all
        tests_length_is = omega (arith, ap length made, length-append old (tests_code c first all), tests_are c first all)

        module _ (new2 : List Instruction) (made2 : new2 ≡ new ++ else_code c to (length new) after all) where
          else_length_is : length new2 ≡ answers_place c (length old) all
          else_length_is =
              let k = else_size_is c to (length new) after all in
              omega (arith, ap length made2, length-append new (else_code c to (length new) after all), k, tests_length_is)

          pub integer_whole : (last : List Instruction) → last ≡ new2 ++ answers_code c to (length new2) after all → last ≡ old ++ integer_code c to (length old) all
          integer_whole last f =
              let x = tests_code c first all in
              let y = else_code c to (length new) after all in
              let z = answers_code c to (length new2) after all in
              let n = length old in
              f ∙ ap (λ l. l ++ z) made2 ∙ append_assoc new y z ∙ ap (λ l. l ++ (y ++ z)) made ∙ append_assoc old x (y ++ z)
              ∙ ap (λ k. old ++ (tests_code c k all ++ (y ++ z))) there
              ∙ ap (λ l. old ++ (tests_code c (answers_place c n all) all ++ (l ++ z))) (ap (λ k. else_code c to k after all) tests_length_is ∙ ap (λ k. else_code c to (else_place n all) k all) here)
              ∙ ap (λ k. old ++ (tests_code c (answers_place c n all) all ++ (else_code c to (else_place n all) (after_choice c false n all) all ++ answers_code c to k after all))) else_length_is
              ∙ ap (λ k. old ++ (tests_code c (answers_place c n all) all ++ (else_code c to (else_place n all) (after_choice c false n all) all ++ answers_code c to (answers_place c n all) k all))) here

-- ---- connections

module _ (c : Scope) (to : ℕ → ℕ) (ns : List ℕ) (i n : ℕ) (lt : i < length ns) (is : n ≡ get_or ns i n) (old new : List Instruction) (made : new ≡ old ++ text_code c to (length old) (text_at c n)) where
  one_number : drop i ns ≡ n ∷ drop (i + 1) ns
  one_number = drop_more ns i n lt ∙ ap (λ y. y ∷ drop (i + 1) ns) (sym is)

  connection_length : length new ≡ length old + size_at c n
  connection_length = omega (arith, ap length made, length-append old (text_code c to (length old) (text_at c n)), text_size_is c to (length old) (text_at c n))

  pub connections_more : (all : List Instruction) → old ++ connections_code c to (length old) (drop i ns) ≡ all → new ++ connections_code c to (length new) (drop (i + 1) ns) ≡ all
  connections_more all e =
      let x = text_code c to (length old) (text_at c n) in
      ap (λ l. l ++ connections_code c to (length new) (drop (i + 1) ns)) made
      ∙ append_assoc old x (connections_code c to (length new) (drop (i + 1) ns))
      ∙ ap (λ k. old ++ (x ++ connections_code c to k (drop (i + 1) ns))) connection_length
      ∙ ap (λ l. old ++ connections_code c to (length old) l) (sym one_number) ∙ e

  pub connections_fit : length old + sum_by (size_at c) (drop i ns) ≤ 512 → length new + sum_by (size_at c) (drop (i + 1) ns) ≤ 512
  connections_fit h = omega (arith, h, connection_length, ap (sum_by (size_at c)) one_number, sum_by-cons (size_at c) n (drop (i + 1) ns))

-- ---- a whole piece

-- The text of each connection is named.
pub each_named : (c : Scope) → NamedConnections c → (n : ℕ) → NamedText c (text_at c n)
each_named c h n = by_place (slice_get c.process.connections n) refl
  where
    by_place : (o : Option PlainConnection) → slice_get c.process.connections n ≡ o → NamedText c (option_map_or (λ (k : PlainConnection). k.text) o falls)
    by_place None e = tt
    by_place (Some k) e = (h.texts n k e).text

module _ (c : Scope) (q : Piece) (to : ℕ → ℕ) (ns : List ℕ) (placed : (n : ℕ) → to n ≡ place_in c (connections_place c q) ns n) (fits : connections_place c q + sum_by (size_at c) ns ≤ 512)
    (a : List Instruction) (first : a ≡ [] ++ places_code c 0 q.places) where
  places_length : length a ≡ text_place q
  places_length = ap length first ∙ places_size c 0 q.places

  pub text_fits : length a + size (variables_of c.process) q.text ≤ 512
  text_fits = omega (arith, fits, places_length)

  module _ (b : List Instruction) (second : b ≡ a ++ text_code c to (length a) q.text) where
    text_length : length b ≡ connections_place c q
    text_length = omega (arith, ap length second, length-append a (text_code c to (length a) q.text), text_size_is c to (length a) q.text, places_length)

    pub connections_follow : length b + sum_by (size_at c) ns ≤ 512
    connections_follow = omega (arith, fits, text_length)

    pub piece_whole : (last : List Instruction) → last ≡ b ++ connections_code c to (length b) ns → last ≡ piece_code c q ns
    piece_whole last e =
        let r = connections_place c q in
        let same : to ≡ place_in c r ns = λ i n. placed n i in
        e ∙ ap (λ k. b ++ connections_code c to k ns) text_length
        ∙ ap (λ l. l ++ connections_code c to r ns) second
        ∙ append_assoc a (text_code c to (length a) q.text) (connections_code c to r ns)
        ∙ ap (λ k. a ++ (text_code c to k q.text ++ connections_code c to r ns)) places_length
        ∙ ap (λ l. l ++ (text_code c to (text_place q) q.text ++ connections_code c to r ns)) first
        ∙ ap (λ to. places_code c 0 q.places ++ (text_code c to (text_place q) q.text ++ connections_code c to r ns)) same
