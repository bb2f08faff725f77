-- Places of faults: of one list after another, and of an item after others.
use Rattle.std.proofs.Common.{◌≡◌, ℕ, ◌+◌, ◌<◌, List, [], ◌∷◌, ◌++◌, Option, None, Some, length, take, map, get_or, refl, sym, ap, ◌∙◌, subst, append_assoc}
use Rattle.std.specs.List.{flat_map}
use Rattle.std.proofs.lemmas.List.{append-nil}
use Rattle.std.proofs.lemmas.Grind.{flat_map-append}
use Rattle.plain_laws.proofs.Lists.{mapped_more}
use Rattle.sdl_tables.specs.Scopes.{Marks}
use Rattle.sdl_tables.proofs.Growing.{taken_more}
use Rattle.sdl_tables.proofs.Numbers.{joined_push}
use Rattle.sdl_ast.specs.declared.tree.Constant.{Constant}
use Rattle.sdl_ast.specs.declared.tree.End.{End}
use Rattle.sdl_ast.specs.declared.tree.Action.{Action}
use Rattle.sdl_ast.specs.declared.tree.Statement.{Statement}
use Rattle.sdl_ast.specs.declared.tree.Statement.TheVariants.{Act, Decide}
use Rattle.sdl_ast.specs.declared.tree.Answer.{Answer}
use Rattle.sdl_ast.specs.declared.tree.Transition.{Transition}
use Rattle.sdl_ast.specs.declared.tree.Decision.{Decision, out-Decision}
use Rattle.sdl_ast.specs.Plain.{Text, Choice, PlainStatement, act, decide, PlainAnswer, all_before, all_answers}
use Rattle.sdl_ast.specs.Views.{plain_statement, plain_answer, plain_decision, text_of, end_text, else_choice}
use Rattle.sdl_ast.proofs.Views.{text_of-is, plain_act, plain_decides, plain_decision-is}
use Rattle.sdl_rules.specs.Synonyms.{Sight}
use Rattle.sdl_rules.specs.Faults.{Places, no_places, both, all_places, AreOf, constant_places, constants_places, range_constants, text_constants, choice_constants, statement_constants, answer_constants}
use Rattle.sdl_rules.specs.declared.strays.Strays.{Strays}

pub places_are : (a b : List ℕ) (c d : List ℕ) (e f : List ℕ) → a ≡ b → c ≡ d → e ≡ f
    → (let p : Places = record { unknown = a; wrong = c; divisors = e } in p) ≡ record { unknown = b; wrong = d; divisors = f }
places_are a b c d e f h k l =
    let first : List ℕ → Places = λ x. record { unknown = x; wrong = c; divisors = e } in
    let second : List ℕ → Places = λ x. record { unknown = b; wrong = x; divisors = e } in
    let third : List ℕ → Places = λ x. record { unknown = b; wrong = d; divisors = x } in
    ap first h ∙ ap second k ∙ ap third l

pub beside_nothing : (p : Places) → both p no_places ≡ p
beside_nothing p =
    places_are (p.unknown ++ []) p.unknown (p.wrong ++ []) p.wrong (p.divisors ++ []) p.divisors (append-nil p.unknown) (append-nil p.wrong) (append-nil p.divisors)

pub all_three : (p q r : Places) → both (both p q) r ≡ both p (both q r)
all_three p q r =
    places_are _ _ _ _ _ _ (append_assoc p.unknown q.unknown r.unknown) (append_assoc p.wrong q.wrong r.wrong) (append_assoc p.divisors q.divisors r.divisors)

-- the places of one list after another
pub all_places-append : {A : Type 0} (f : A → Places) (xs ys : List A) → all_places f (xs ++ ys) ≡ both (all_places f xs) (all_places f ys)
all_places-append f xs ys =
    places_are _ _ _ _ _ _ (flat_map-append (λ x. (f x).unknown) xs ys) (flat_map-append (λ x. (f x).wrong) xs ys)
    (flat_map-append (λ x. (f x).divisors) xs ys)

-- the places of an item after others
pub all_places-more : {A : Type 0} (f : A → Places) (xs : List A) (x : A) → all_places f (xs ++ x ∷ []) ≡ both (all_places f xs) (f x)
all_places-more f xs x =
    places_are _ _ _ _ _ _ (joined_push (λ y. (f y).unknown) xs x) (joined_push (λ y. (f y).wrong) xs x) (joined_push (λ y. (f y).divisors) xs x)

pub one_place : {A : Type 0} (f : A → Places) (x : A) → all_places f (x ∷ []) ≡ f x
one_place f x = beside_nothing (f x)

module _ (s : Sight) where
  pub constants_one : (c : Constant) (found : Strays) → AreOf (constant_places s c) found → AreOf (constants_places s (c ∷ [])) found
  constants_one c found is = subst (λ (p : Places). AreOf p found) (sym (one_place (constant_places s) c)) is

  pub constants_both : (cs ds : List Constant) (one other found : Strays) → AreOf (constants_places s cs) one → AreOf (constants_places s ds) other
      → ((p q : Places) → AreOf p one → AreOf q other → AreOf (both p q) found) → AreOf (constants_places s (cs ++ ds)) found
  constants_both cs ds one other found first second joins =
      subst (λ (p : Places). AreOf p found) (sym (all_places-append (constant_places s) cs ds)) (joins (constants_places s cs) (constants_places s ds) first second)

  -- One more item of a list of which each item has constants.
  pub constants_next : {A : Type 0} (g : A → List Constant) (xs : List A) (i : ℕ) (x : A) (before here found : Strays) → i < length xs → x ≡ get_or xs i x
      → AreOf (constants_places s (flat_map g (take i xs))) before → AreOf (constants_places s (g x)) here
      → ((p q : Places) → AreOf p before → AreOf q here → AreOf (both p q) found) → AreOf (constants_places s (flat_map g (take (i + 1) xs))) found
  constants_next g xs i x before here found within is so_far one joins =
      subst (λ (cs : List Constant). AreOf (constants_places s cs) found)
      (sym (ap (flat_map g) (taken_more xs i x within is) ∙ joined_push g (take i xs) x))
      (constants_both (flat_map g (take i xs)) (g x) before here found so_far one joins)

  pub constants_more : {A B : Type 0} (view : A → B) (g : B → List Constant) (xs : List A) (i : ℕ) (x : A) (before here found : Strays) → i < length xs → x ≡ get_or xs i x
      → AreOf (constants_places s (flat_map g (map view (take i xs)))) before → AreOf (constants_places s (g (view x))) here
      → ((p q : Places) → AreOf p before → AreOf q here → AreOf (both p q) found) → AreOf (constants_places s (flat_map g (map view (take (i + 1) xs)))) found
  constants_more view g xs i x before here found within is so_far one joins =
      subst (λ (cs : List Constant). AreOf (constants_places s cs) found)
      (sym (ap (flat_map g) (mapped_more view xs i x within is) ∙ joined_push g (map view (take i xs)) (view x)))
      (constants_both (flat_map g (map view (take i xs))) (g (view x)) before here found so_far one joins)

-- ---- the constants of a transition and of a DECISION

end_constants : (e : Option End) → text_constants (end_text e) ≡ []
end_constants None = refl
end_constants (Some e) = refl

all_constants : (ss : List PlainStatement) (rest : Text) → text_constants (all_before ss rest) ≡ flat_map statement_constants ss ++ text_constants rest
all_constants [] rest = refl
all_constants (act a ∷ ss) rest = all_constants ss rest
all_constants (decide at q choice ∷ ss) rest =
    ap (λ l. choice_constants choice ++ l) (all_constants ss rest)
    ∙ sym (append_assoc (choice_constants choice) (flat_map statement_constants ss) (text_constants rest))

answers_constants : (xs : List PlainAnswer) (others : Choice) → choice_constants (all_answers xs others) ≡ flat_map answer_constants xs ++ choice_constants others
answers_constants [] others = refl
answers_constants (x ∷ xs) others =
    ap (λ l. flat_map range_constants x.ranges ++ (text_constants x.text ++ l)) (answers_constants xs others)
    ∙ (ap (λ l. flat_map range_constants x.ranges ++ l) (sym (append_assoc (text_constants x.text) (flat_map answer_constants xs) (choice_constants others)))
    ∙ (sym (append_assoc (flat_map range_constants x.ranges) (text_constants x.text ++ flat_map answer_constants xs) (choice_constants others))
    ∙ ap (λ l. l ++ choice_constants others) (sym (append_assoc (flat_map range_constants x.ranges) (text_constants x.text) (flat_map answer_constants xs)))))

pub transition_constants : (t : Transition) (list : List Statement) → t.statements.items ≡ list → text_constants (text_of t) ≡ flat_map statement_constants (map plain_statement list)
transition_constants t list is =
    ap text_constants (text_of-is t)
    ∙ (all_constants (map plain_statement t.statements.items) (end_text t.end)
    ∙ (ap (λ l. flat_map statement_constants (map plain_statement t.statements.items) ++ l) (end_constants t.end)
    ∙ (append-nil (flat_map statement_constants (map plain_statement t.statements.items))
    ∙ ap (λ l. flat_map statement_constants (map plain_statement l)) is)))

pub decision_constants : (d : Decision) (list : List Answer) → (out-Decision d).answers.items ≡ list
    → statement_constants (plain_decision d) ≡ flat_map answer_constants (map plain_answer list) ++ choice_constants (else_choice (out-Decision d).otherwise)
decision_constants d list is =
    ap statement_constants (plain_decision-is d)
    ∙ (answers_constants (map plain_answer (out-Decision d).answers.items) (else_choice (out-Decision d).otherwise)
    ∙ ap (λ l. flat_map answer_constants (map plain_answer l) ++ choice_constants (else_choice (out-Decision d).otherwise)) is)

-- ---- the constants of a single statement

pub act_constants : (s : Statement) (a : Action) → s ≡ Act a → statement_constants (plain_statement s) ≡ []
act_constants s a is = ap (λ (x : Statement). statement_constants (plain_statement x)) is ∙ ap statement_constants (plain_act a)

pub decide_constants : (s : Statement) (d : Decision) → s ≡ Decide d → statement_constants (plain_statement s) ≡ statement_constants (plain_decision d)
decide_constants s d is = ap (λ (x : Statement). statement_constants (plain_statement x)) is ∙ ap statement_constants (plain_decides d)
