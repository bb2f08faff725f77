-- The sets of a DECISION are made of those of its answers and of ELSE.
use Rattle.std.proofs.Common.{◌≡◌, ℕ, zero, suc, ◌+◌, ◌<◌, ◌≤◌, true, false, cond, List, [], ◌∷◌, ◌++◌, length, drop, get_or, map, Option, Some, None, refl, sym, ap, ◌∙◌, subst, arith, append_assoc, append-nil}
use Rattle.std.specs.Prelude.{slice_get, option_map}
use Rattle.std.specs.Option.{option_map_or}
use Rattle.std.proofs.lemmas.List.{drop_more}
use Rattle.std.proofs.lemmas.Option.{slice_get-map, slice_get-get_or}
use Rattle.sdl_ast.specs.declared.tree.Connection.{Connection}
use Rattle.sdl_ast.specs.declared.expression.Identifier.{Identifier}
use Rattle.sdl_ast.specs.declared.tree.Answer.{Answer}
use Rattle.sdl_ast.specs.declared.tree.Assignment.{Assignment}
use Rattle.sdl_ast.specs.declared.tree.Range.{Range}
use Rattle.sdl_ast.specs.declared.tree.Transition.{Transition}
use Rattle.sdl_ast.specs.Plain.{Tree, Text, falls, Choice, PlainConnection, PlainAnswer, all_answers}
use Rattle.sdl_ast.specs.Views.{tree_of, text_of, assignment_of, answers_before, else_choice, connection_of}
use Rattle.turn_code.specs.declared.variable_set.VariableSet.{VariableSet}
use Rattle.turn_code.specs.Sets.{with_variable}
use Rattle.sdl_meaning.specs.Act.{is_truth}
use Rattle.sdl_meaning.specs.Outcomes.{Scope, variable_at}
use Rattle.sdl_meaning.specs.Named.{NamedText, NamedTasks, NamedChoice, NamedConnections}
use Rattle.sdl_emit.specs.Scopes.{NamedElse}
use Rattle.sdl_emit.proofs.Picking.{one_answer}
use Rattle.sdl_meaning.specs.Code.{number_or_zero, text_at}
use Rattle.sdl_compile.specs.Reads.{tasks_set, places_set, everything, meet, answers_left, else_left, choice_left}
use Rattle.sdl_compile.specs.Entries.{entry_at, met, connection_met, connections_met, answers_met, else_met, choice_met}
use Rattle.sdl_compile.specs.Facts.{tasks_sets, places_sets, connections_sets, piece_sets, ranges_sets, text_sets, tree_sets, tests_sets, else_sets, answers_sets, decision_sets}

-- ---- one more item

pub ranges_more : (m : VariableSet) (rs : List Range) (i : ℕ) → i < length rs → ranges_sets m (drop i rs) ≡ m ∷ ranges_sets m (drop (i + 1) rs)
ranges_more m [] i lt = absurd (omega (arith, lt))
ranges_more m (r ∷ rs) zero lt = refl
ranges_more m (r ∷ rs) (suc i) lt = let e : suc (i + 1) ≡ suc i + 1 = omega arith in ranges_more m rs i (omega (arith, lt)) ∙ ap (λ n. m ∷ ranges_sets m (drop n (r ∷ rs))) e

pub ranges_loop : (m : VariableSet) (rs : List Range) (i : ℕ) (old new all : List VariableSet) → i < length rs → old ++ ranges_sets m (drop i rs) ≡ all → new ≡ old ++ m ∷ [] → new ++ ranges_sets m (drop (i + 1) rs) ≡ all
ranges_loop m rs i old new all lt e f =
    ap (λ l. l ++ ranges_sets m (drop (i + 1) rs)) f ∙ append_assoc old (m ∷ []) (ranges_sets m (drop (i + 1) rs)) ∙ ap (λ l. old ++ l) (sym (ranges_more m rs i lt)) ∙ e

pub tests_loop : (m : VariableSet) (xs : List Answer) (i : ℕ) (x : Answer) (others : Choice) (old new all : List VariableSet) → i < length xs → x ≡ get_or xs i x
    → old ++ tests_sets m (answers_before (drop i xs) others) ≡ all → new ≡ old ++ ranges_sets m x.ranges.items → new ++ tests_sets m (answers_before (drop (i + 1) xs) others) ≡ all
tests_loop m xs i x others old new all lt is e f =
    let rest = answers_before (drop (i + 1) xs) others in
    ap (λ l. l ++ tests_sets m rest) f ∙ append_assoc old (ranges_sets m x.ranges.items) (tests_sets m rest) ∙ ap (λ k. old ++ tests_sets m k) (sym (one_answer xs i x others lt is)) ∙ e

-- An assignment; `set` is the set after it.
module _ (c : Scope) (m set : VariableSet) (xs : List Assignment) (i : ℕ) (x : Assignment) (lt : i < length xs) (is : x ≡ get_or xs i x)
    (with_it : set ≡ with_variable m (number_or_zero (variable_at c x.variable))) where
  one_task : map assignment_of (drop i xs) ≡ assignment_of x ∷ map assignment_of (drop (i + 1) xs)
  one_task = ap (map assignment_of) (drop_more xs i x lt ∙ ap (λ y. y ∷ drop (i + 1) xs) (sym is))

  pub tasks_loop : (old one two all : List VariableSet) → one ≡ old ++ tree_sets m (tree_of x.value) → two ≡ one ++ m ∷ []
      → old ++ tasks_sets c m (map assignment_of (drop i xs)) ≡ all → two ++ tasks_sets c set (map assignment_of (drop (i + 1) xs)) ≡ all
  tasks_loop old one two all e f h =
      let t = tree_sets m (tree_of x.value) in
      let more = map assignment_of (drop (i + 1) xs) in
      ap (λ l. l ++ tasks_sets c set more) (f ∙ ap (λ l. l ++ m ∷ []) e)
      ∙ append_assoc (old ++ t) (m ∷ []) (tasks_sets c set more)
      ∙ append_assoc old t (m ∷ tasks_sets c set more)
      ∙ ap (λ k. old ++ (t ++ m ∷ tasks_sets c k more)) with_it
      ∙ ap (λ l. old ++ tasks_sets c m l) (sym one_task) ∙ h

  pub behind_loop : (all : VariableSet) → tasks_set c m (map assignment_of (drop i xs)) ≡ all → tasks_set c set (map assignment_of (drop (i + 1) xs)) ≡ all
  behind_loop all h = ap (λ k. tasks_set c k (map assignment_of (drop (i + 1) xs))) with_it ∙ ap (tasks_set c m) (sym one_task) ∙ h

  pub named_loop : NamedTasks c (map assignment_of (drop i xs)) → NamedTasks c (map assignment_of (drop (i + 1) xs))
  named_loop h = (subst (NamedTasks c) one_task h).2

pub found : {A : Type 0} (xs : List A) (n : ℕ) (x : A) → n < length xs → x ≡ get_or xs n x → Some x ≡ slice_get xs n
found xs n x lt e = ap Some e ∙ sym (slice_get-get_or xs n x lt)

pub past : {A : Type 0} (xs : List A) (n : ℕ) → length xs ≤ n → None ≡ slice_get xs n
past [] n le = refl
past (x ∷ xs) zero le = absurd (omega (arith, le))
past (x ∷ xs) (suc n) le = past xs n (omega (arith, le))

-- ---- a connection by its number

module _ (c : Scope) (list : List Connection) (listed : c.process.connections ≡ map connection_of list) (n : ℕ) where
  there : (k : Connection) → Some k ≡ slice_get list n → slice_get c.process.connections n ≡ Some (connection_of k)
  there k e = ap (λ l. slice_get l n) listed ∙ slice_get-map connection_of list n ∙ ap (option_map connection_of) (sym e)

  nowhere : None ≡ slice_get list n → slice_get c.process.connections n ≡ None
  nowhere e = ap (λ l. slice_get l n) listed ∙ slice_get-map connection_of list n ∙ ap (option_map connection_of) (sym e)

  pub connection_named : (k : Connection) → Some k ≡ slice_get list n → NamedConnections c → NamedText c (text_of k.transition)
  connection_named k e named = (named.texts n (connection_of k) (there k e)).text

  pub connection_sets : (k : Connection) → Some k ≡ slice_get list n → (m : VariableSet) (old new : List VariableSet) → new ≡ old ++ text_sets c m (text_of k.transition) → new ≡ old ++ text_sets c m (text_at c n)
  connection_sets k e m old new made = made ∙ ap (λ o. old ++ text_sets c m (option_map_or (λ (k : PlainConnection). k.text) o falls)) (sym (there k e))

  pub no_connection_sets : None ≡ slice_get list n → (m : VariableSet) (old : List VariableSet) → old ≡ old ++ text_sets c m (text_at c n)
  no_connection_sets e m old = sym (append-nil old) ∙ ap (λ o. old ++ text_sets c m (option_map_or (λ (k : PlainConnection). k.text) o falls)) (sym (nowhere e))

  pub connection_joins : (k : Connection) → Some k ≡ slice_get list n → (es new : List VariableSet) → new ≡ met c (entry_at es n) (text_of k.transition) es → new ≡ connection_met c n es
  connection_joins k e es new made = made ∙ ap (λ o. option_map_or (λ (x : PlainConnection). met c (entry_at es n) x.text es) o es) (sym (there k e))

  pub no_connection_joins : None ≡ slice_get list n → (es : List VariableSet) → es ≡ connection_met c n es
  no_connection_joins e es = ap (λ o. option_map_or (λ (x : PlainConnection). met c (entry_at es n) x.text es) o es) (sym (nowhere e))

-- ---- a piece

pub piece_whole : (c : Scope) (m m2 : VariableSet) (places : List (Option Identifier)) (text : Text) (order numbers : List ℕ) (e0 e1 e2 e3 s0 s1 s2 s3 : List VariableSet)
    → e0 ≡ map (λ (x : PlainConnection). everything) c.process.connections → s0 ≡ [] → s1 ≡ s0 ++ places_sets c m places → m2 ≡ places_set c m places
    → s2 ≡ s1 ++ text_sets c m2 text → e1 ≡ met c m2 text e0 → e2 ≡ connections_met c order e1 → e3 ≡ e2 → s3 ≡ s2 ++ connections_sets c e3 numbers → s3 ≡ piece_sets c m (record { places = places; text = text }) order numbers
piece_whole c m m2 places text order numbers e0 e1 e2 e3 s0 s1 s2 s3 start none first behind second joins others same third =
    let here = places_set c m places in
    let begin = map (λ (x : PlainConnection). everything) c.process.connections in
    let met_all : e3 ≡ connections_met c order (met c here text begin) =
    same ∙ others ∙ ap (connections_met c order) (joins ∙ ap (λ n. met c n text e0) behind ∙ ap (met c here text) start) in
    let sets : s2 ≡ places_sets c m places ++ text_sets c here text =
    second ∙ ap (λ l. l ++ text_sets c m2 text) (first ∙ ap (λ l. l ++ places_sets c m places) none) ∙ ap (λ n. places_sets c m places ++ text_sets c n text) behind in
    third ∙ ap (λ l. l ++ connections_sets c e3 numbers) sets ∙ ap (λ e. (places_sets c m places ++ text_sets c here text) ++ connections_sets c e numbers) met_all
    ∙ append_assoc (places_sets c m places) (text_sets c here text) (connections_sets c (connections_met c order (met c here text begin)) numbers)

module _ (c : Scope) (q : Tree) (m : VariableSet) (answers : List PlainAnswer) (o : Option Transition) where
  abbrev choice : Choice
  choice = all_answers answers (else_choice o)

  pub else_named : NamedChoice c q (all_answers answers (else_choice o)) → NamedElse c o
  else_named h = without answers h
    where
      alone : (o : Option Transition) → NamedChoice c q (else_choice o) → NamedElse c o
      alone None h = tt
      alone (Some body) h = h

      without : (answers : List PlainAnswer) → NamedChoice c q (all_answers answers (else_choice o)) → NamedElse c o
      without [] h = alone o h
      without (a ∷ answers) h = without answers h.2

  others_sets : (answers : List PlainAnswer) (others : Choice) → else_sets c m (all_answers answers others) ≡ else_sets c m others
  others_sets [] others = refl
  others_sets (a ∷ answers) others = others_sets answers others

  others_met : (answers : List PlainAnswer) (others : Choice) (es : List VariableSet) → else_met c m (all_answers answers others) es ≡ else_met c m others es
  others_met [] others es = refl
  others_met (a ∷ answers) others es = others_met answers others es

  others_left : (answers : List PlainAnswer) (others : Choice) → else_left c m (all_answers answers others) ≡ else_left c m others
  others_left [] others = refl
  others_left (a ∷ answers) others = others_left answers others

  module _ (s0 s1 s2 s3 s4 : List VariableSet) (question : s1 ≡ s0 ++ tree_sets m q) where
    pub truth_sets : is_truth c q ≡ true → s2 ≡ s1 ++ m ∷ [] → s3 ≡ s2 ++ answers_sets c m (all_answers answers (else_choice o)) → s4 ≡ s3 ++ else_sets c m (else_choice o) → s4 ≡ s0 ++ decision_sets c m q (all_answers answers (else_choice o))
    truth_sets b e f g =
        let t = tree_sets m q in
        let a = answers_sets c m choice in
        let x = else_sets c m choice in
        let y = tests_sets m choice ++ (x ++ a) in
        let h : else_sets c m (else_choice o) ≡ x = sym (others_sets answers (else_choice o)) in
        g ∙ ap (λ l. s3 ++ l) h ∙ ap (λ l. l ++ x) f ∙ ap (λ l. (l ++ a) ++ x) e ∙ ap (λ l. ((l ++ m ∷ []) ++ a) ++ x) question
        ∙ append_assoc ((s0 ++ t) ++ m ∷ []) a x ∙ append_assoc (s0 ++ t) (m ∷ []) (a ++ x) ∙ append_assoc s0 t (m ∷ (a ++ x))
        ∙ ap (λ b. s0 ++ (t ++ cond b (m ∷ (a ++ x)) y)) (sym b)

    pub integer_sets : is_truth c q ≡ false → s2 ≡ s1 ++ tests_sets m (all_answers answers (else_choice o)) → s3 ≡ s2 ++ else_sets c m (else_choice o) → s4 ≡ s3 ++ answers_sets c m (all_answers answers (else_choice o)) → s4 ≡ s0 ++ decision_sets c m q (all_answers answers (else_choice o))
    integer_sets b e f g =
        let t = tree_sets m q in
        let a = answers_sets c m choice in
        let x = else_sets c m choice in
        let y = tests_sets m choice in
        let h : else_sets c m (else_choice o) ≡ x = sym (others_sets answers (else_choice o)) in
        g ∙ ap (λ l. l ++ a) (f ∙ ap (λ l. s2 ++ l) h) ∙ ap (λ l. (l ++ x) ++ a) e ∙ ap (λ l. ((l ++ y) ++ x) ++ a) question
        ∙ append_assoc ((s0 ++ t) ++ y) x a ∙ append_assoc (s0 ++ t) y (x ++ a) ∙ append_assoc s0 t (y ++ (x ++ a))
        ∙ ap (λ b. s0 ++ (t ++ cond b (m ∷ (a ++ x)) (y ++ (x ++ a)))) (sym b)

  module _ (es fs gs : List VariableSet) where
    pub truth_met : is_truth c q ≡ true → fs ≡ answers_met c m (all_answers answers (else_choice o)) es → gs ≡ else_met c m (else_choice o) fs → gs ≡ choice_met c (is_truth c q) m (all_answers answers (else_choice o)) es
    truth_met b e f =
        f ∙ sym (others_met answers (else_choice o) fs) ∙ ap (else_met c m choice) e
        ∙ ap (λ b. cond b (else_met c m choice (answers_met c m choice es)) (answers_met c m choice (else_met c m choice es))) (sym b)

    pub integer_met : is_truth c q ≡ false → fs ≡ else_met c m (else_choice o) es → gs ≡ answers_met c m (all_answers answers (else_choice o)) fs → gs ≡ choice_met c (is_truth c q) m (all_answers answers (else_choice o)) es
    integer_met b e f =
        f ∙ ap (answers_met c m choice) (e ∙ sym (others_met answers (else_choice o) es))
        ∙ ap (λ b. cond b (else_met c m choice (answers_met c m choice es)) (answers_met c m choice (else_met c m choice es))) (sym b)

  pub behind : (all rest : VariableSet) → all ≡ answers_left c m everything (all_answers answers (else_choice o)) → rest ≡ else_left c m (else_choice o) → meet all rest ≡ choice_left c m (all_answers answers (else_choice o))
  behind all rest e f = ap (λ x. meet x rest) e ∙ ap (meet (answers_left c m everything choice)) (f ∙ sym (others_left answers (else_choice o)))
