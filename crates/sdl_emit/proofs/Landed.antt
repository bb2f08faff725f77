-- The code of a DECISION, once its jumps lead to what follows it and its choice or tests are in their places.
use Rattle.std.proofs.Common.{◌≡◌, ℕ, ◌+◌, ◌≤◌, Bool, true, false, cond, ◌&&◌, ◌||◌, List, [], ◌∷◌, ◌++◌, length, map, replicate, Option, refl, sym, ap, ◌∙◌, arith, append_assoc, append-nil, length-append}
use Rattle.std.specs.Prelude.{slice_set}
use Rattle.std.specs.List.{list_any}
use Rattle.std.proofs.lemmas.List.{length-replicate}
use Rattle.sdl_ast.specs.declared.tree.Range.{Range}
use Rattle.sdl_ast.specs.declared.tree.Answer.{Answer}
use Rattle.sdl_ast.specs.declared.tree.Statement.{Statement}
use Rattle.sdl_ast.specs.declared.tree.Transition.{Transition}
use Rattle.sdl_ast.specs.Plain.{Text, Choice, nothing_else, otherwise, answer, PlainAnswer, all_answers}
use Rattle.sdl_ast.specs.Views.{plain_answer, statement_of, answers_before, else_choice}
use Rattle.turn_code.specs.declared.numbers.CodePlace.{CodePlace}
use Rattle.turn_code.specs.declared.instruction.Instruction.{Instruction}
use Rattle.turn_code.specs.declared.instruction.Instruction.TheVariants as i
use Rattle.sdl_sound.specs.Going.{goes_on, choice_goes_on}
use Rattle.sdl_sound.specs.Longest.{tests_size}
use Rattle.sdl_meaning.specs.Outcomes.{Scope}
use Rattle.sdl_meaning.specs.Code.{jump, leave_code, body_size, else_size, answers_size, names_truth, picked, ranges_code, tests_code, bodies_place, answers_place, after_choice, text_code, else_code, answers_code, truth_code, integer_code}
use Rattle.sdl_emit.specs.Landing.{code_place, starts_from, leave_place, answers_leave, else_leave, landed, filled, has_any, picked_by, tests_by}
use Rattle.sdl_meaning.proofs.Sizes.{leave_size, tests_are, text_size_is, else_size_is}
use Rattle.sdl_emit.proofs.Emitting.{bodies_size_parts, answers_length, body_length, truth_whole, integer_whole}
use Rattle.std.proofs.Math.Bool.{or-false as or_false, and_assoc as and_three}

-- ---- one instruction in place of another

set_seam : (xs : List Instruction) (x y : Instruction) (ys : List Instruction) → slice_set (xs ++ x ∷ ys) (length xs) y ≡ xs ++ y ∷ ys
set_seam [] x y ys = refl
set_seam (z ∷ xs) x y ys = ap (λ l. z ∷ l) (set_seam xs x y ys)

set_behind : (xs : List Instruction) (x y : Instruction) (ys : List Instruction) (n : ℕ) → n ≡ length xs → slice_set (xs ++ x ∷ ys) n y ≡ xs ++ y ∷ ys
set_behind xs x y ys n e = ap (λ k. slice_set (xs ++ x ∷ ys) k y) e ∙ set_seam xs x y ys

-- Instructions in place of the same number of others.
filled_whole : (ys xs pre post : List Instruction) (n : ℕ) → n ≡ length pre → length xs ≡ length ys → filled (pre ++ (xs ++ post)) n ys ≡ pre ++ (ys ++ post)
filled_whole [] [] pre post n e h = refl
filled_whole [] (x ∷ xs) pre post n e h = absurd (omega (arith, h))
filled_whole (y ∷ ys) [] pre post n e h = absurd (omega (arith, h))
filled_whole (y ∷ ys) (x ∷ xs) pre post n e h =
    let more : n + 1 ≡ length (pre ++ y ∷ []) = omega (arith, e, length-append pre (y ∷ [])) in
    ap (λ l. filled l (n + 1) ys) (set_behind pre x y (xs ++ post) n e ∙ sym (append_assoc pre (y ∷ []) (xs ++ post)))
    ∙ filled_whole ys xs (pre ++ y ∷ []) post (n + 1) more (omega (arith, h))
    ∙ append_assoc pre (y ∷ []) (ys ++ post)

-- ---- the places where bodies begin

pub place_is : (p : CodePlace) (n : ℕ) → p.0 ≡ n → p ≡ code_place n
place_is p n e = ap code_place e

pub tests_is : (c : Scope) (n : ℕ) (choice : Choice) → tests_by (starts_from c n choice) choice ≡ tests_code c n choice
tests_is c n nothing_else = refl
tests_is c n (otherwise body) = refl
tests_is c n (answer at rs body others) = ap (λ l. ranges_code n rs ++ l) (tests_is c (n + body_size c body) others)

pub picked_is : (c : Scope) (n m : ℕ) (choice : Choice) (v : Bool) → m ≡ n + answers_size c choice → picked_by (code_place m) (starts_from c n choice) choice v ≡ code_place (picked c n choice v)
picked_is c n m nothing_else v e = let f : m ≡ n = omega (arith, e) in ap code_place f
picked_is c n m (otherwise body) v e = let f : m ≡ n = omega (arith, e) in ap code_place f
picked_is c n m (answer at rs body others) v e = by_test (list_any (names_truth v) rs) (picked_is c (n + body_size c body) m others v (omega (arith, e)))
  where
    by_test : (b : Bool) → picked_by (code_place m) (starts_from c (n + body_size c body) others) others v ≡ code_place (picked c (n + body_size c body) others v) → cond b (code_place n) (picked_by (code_place m) (starts_from c (n + body_size c body) others) others v) ≡ code_place (cond b n (picked c (n + body_size c body) others v))
    by_test true h = refl
    by_test false h = h

-- ---- jumps

landed-append : (p : CodePlace) (code : List Instruction) (ps qs : List ℕ) → landed p code (ps ++ qs) ≡ landed p (landed p code ps) qs
landed-append p code [] qs = refl
landed-append p code (q ∷ ps) qs = landed-append p (slice_set code q (i.Jump p)) ps qs

module _ (c : Scope) (to : ℕ → ℕ) (after : ℕ) where
  abbrev p : CodePlace
  p = code_place after

  leave_lands : (pre post : List Instruction) (body : Text) (n : ℕ) → n ≡ length pre → landed p (pre ++ (leave_code 0 body ++ post)) (cond (goes_on body) (n ∷ []) []) ≡ pre ++ (leave_code after body ++ post)
  leave_lands pre post body n e = by_test (goes_on body)
    where
      by_test : (b : Bool) → landed p (pre ++ (cond b (jump 0 ∷ []) [] ++ post)) (cond b (n ∷ []) []) ≡ pre ++ (cond b (jump after ∷ []) [] ++ post)
      by_test true = set_behind pre (jump 0) (jump after) post n e
      by_test false = refl

  body_lands : (pre post : List Instruction) (body : Text) (n : ℕ) → n ≡ length pre
      → landed p (pre ++ ((text_code c to n body ++ leave_code 0 body) ++ post)) (leave_place c to n body) ≡ pre ++ ((text_code c to n body ++ leave_code after body) ++ post)
  body_lands pre post body n e =
      let x = text_code c to n body in
      let there : n + length x ≡ length (pre ++ x) = omega (arith, e, length-append pre x) in
      let parts = λ (l : List Instruction). ap (λ k. pre ++ k) (append_assoc x l post) ∙ sym (append_assoc pre x (l ++ post)) in
      ap (λ k. landed p k (leave_place c to n body)) (parts (leave_code 0 body))
      ∙ leave_lands (pre ++ x) post body (n + length x) there
      ∙ sym (parts (leave_code after body))

  answers_land : (choice : Choice) (pre post : List Instruction) (n : ℕ) → n ≡ length pre
      → landed p (pre ++ (answers_code c to n 0 choice ++ post)) (answers_leave c to n choice) ≡ pre ++ (answers_code c to n after choice ++ post)
  answers_land nothing_else pre post n e = refl
  answers_land (otherwise body) pre post n e = refl
  answers_land (answer at rs body others) pre post n e =
      let x = text_code c to n body in
      let m = n + body_size c body in
      let done = x ++ leave_code after body in
      let there : m ≡ length (pre ++ done) = omega (arith, e, length-append pre done, length-append x (leave_code after body), leave_size after body, text_size_is c to n body) in
      let parts = λ (l r : List Instruction). ap (λ k. pre ++ (k ++ post)) (sym (append_assoc x l r)) ∙ ap (λ k. pre ++ k) (append_assoc (x ++ l) r post) in
      ap (λ k. landed p k (leave_place c to n body ++ answers_leave c to m others)) (parts (leave_code 0 body) (answers_code c to m 0 others))
      ∙ landed-append p (pre ++ ((x ++ leave_code 0 body) ++ (answers_code c to m 0 others ++ post))) (leave_place c to n body) (answers_leave c to m others)
      ∙ ap (λ k. landed p k (answers_leave c to m others)) (body_lands pre (answers_code c to m 0 others ++ post) body n e ∙ sym (append_assoc pre done (answers_code c to m 0 others ++ post)))
      ∙ answers_land others (pre ++ done) post m there
      ∙ append_assoc pre done (answers_code c to m after others ++ post)
      ∙ sym (parts (leave_code after body) (answers_code c to m after others))

  else_lands : (choice : Choice) (pre post : List Instruction) (n : ℕ) → n ≡ length pre
      → landed p (pre ++ (else_code c to n 0 choice ++ post)) (else_leave c to n choice) ≡ pre ++ (else_code c to n after choice ++ post)
  else_lands nothing_else pre post n e = refl
  else_lands (otherwise body) pre post n e = body_lands pre post body n e
  else_lands (answer at rs body others) pre post n e = else_lands others pre post n e

module _ (c : Scope) (to : ℕ → ℕ) (all : Choice) (old : List Instruction) where
  -- ---- a Boolean DECISION
  module _ (fits : after_choice c true (length old) all ≤ 512) (x : Instruction) (code1 : List Instruction) (made1 : code1 ≡ old ++ x ∷ []) where
    first_length : length code1 ≡ length old + 1
    first_length = omega (arith, ap length made1, length-append old (x ∷ []))

    pub truth_answers_fit : length code1 + answers_size c all ≤ 512
    truth_answers_fit = omega (arith, fits, first_length, bodies_size_parts c to all)

    module _ (code2 : List Instruction) (made2 : code2 ≡ code1 ++ answers_code c to (length code1) 0 all) where
      second_length : length code2 ≡ length code1 + answers_size c all
      second_length = omega (arith, ap length made2, length-append code1 (answers_code c to (length code1) 0 all), answers_length c to all (length code1) 0)

      pub truth_else_low : length code2 ≤ 512
      truth_else_low = omega (arith, fits, first_length, second_length, bodies_size_parts c to all)

      pub truth_else_fits : length code2 + else_size c all ≤ 512
      truth_else_fits = omega (arith, fits, first_length, second_length, bodies_size_parts c to all)

      module _ (code3 : List Instruction) (made3 : code3 ≡ code2 ++ else_code c to (length code2) 0 all) where
        third_length : length code3 ≡ after_choice c true (length old) all
        third_length =
            let k = else_size_is c to (length code2) 0 all in
            omega (arith, ap length made3, length-append code2 (else_code c to (length code2) 0 all), k, first_length, second_length, bodies_size_parts c to all)

        pub truth_low : length code3 ≤ 512
        truth_low = omega (arith, fits, third_length)

        module _ (jumps : List ℕ) (are : jumps ≡ answers_leave c to (length code1) all ++ else_leave c to (length code2) all)
            (starts : List CodePlace) (begin : starts ≡ starts_from c (length code1) all) (falsity truth : CodePlace)
            (false_is : falsity ≡ picked_by (code_place (length code2)) starts all false) (true_is : truth ≡ picked_by (code_place (length code2)) starts all true) where
          abbrev pick : Instruction
          pick = i.Pick falsity truth

          abbrev one : List Instruction
          one = old ++ pick ∷ []

          same : length code1 ≡ length one
          same = omega (arith, first_length, length-append old (pick ∷ []))

          abbrev bodies : List Instruction
          bodies = answers_code c to (length code1) (length code3) all

          placed : length code2 ≡ length (code1 ++ bodies)
          placed = omega (arith, second_length, length-append code1 bodies, answers_length c to all (length code1) (length code3))

          abbrev last : List Instruction
          last = else_code c to (length code2) (length code3) all

          jumps_land : landed (code_place (length code3)) code3 jumps ≡ code1 ++ (bodies ++ last)
          jumps_land =
              let to_place = code_place (length code3) in
              let a = answers_leave c to (length code1) all in
              let b = else_leave c to (length code2) all in
              let l = else_code c to (length code2) 0 all in
              ap (landed to_place code3) are ∙ landed-append to_place code3 a b
              ∙ ap (λ k. landed to_place (landed to_place k a) b) (made3 ∙ ap (λ k. k ++ l) made2 ∙ append_assoc code1 (answers_code c to (length code1) 0 all) l)
              ∙ ap (λ k. landed to_place k b) (answers_land c to (length code3) all code1 l (length code1) refl ∙ sym (append_assoc code1 bodies l) ∙ ap (λ k. (code1 ++ bodies) ++ k) (sym (append-nil l)))
              ∙ else_lands c to (length code3) all (code1 ++ bodies) [] (length code2) placed
              ∙ ap (λ k. (code1 ++ bodies) ++ k) (append-nil last) ∙ append_assoc code1 bodies last

          picks : pick ≡ i.Pick (code_place (picked c (bodies_place (length old)) all false)) (code_place (picked c (bodies_place (length old)) all true))
          picks =
              let is = λ (v : Bool). ap (λ l. picked_by (code_place (length code2)) l all v) begin ∙ picked_is c (length code1) (length code2) all v second_length ∙ ap (λ n. code_place (picked c n all v)) first_length in
              ap (λ q. i.Pick q truth) (false_is ∙ is false) ∙ ap (λ q. i.Pick (code_place (picked c (bodies_place (length old)) all false)) q) (true_is ∙ is true)

          pub truth_lands : slice_set (landed (code_place (length code3)) code3 jumps) (length old) pick ≡ old ++ truth_code c to (length old) all
          truth_lands =
              let two = one ++ answers_code c to (length one) (length code3) all in
              let two_length : length code2 ≡ length two =
              omega (arith, second_length, same, length-append one (answers_code c to (length one) (length code3) all), answers_length c to all (length one) (length code3)) in
              ap (λ k. slice_set k (length old) pick) (jumps_land ∙ ap (λ k. k ++ (bodies ++ last)) made1 ∙ append_assoc old (x ∷ []) (bodies ++ last))
              ∙ set_seam old x pick (bodies ++ last)
              ∙ truth_whole c to all old (length code3) third_length fits one pick refl two refl (old ++ pick ∷ (bodies ++ last)) picks
              (sym (append_assoc old (pick ∷ []) (bodies ++ last)) ∙ sym (append_assoc one bodies last)
              ∙ ap (λ n. (one ++ answers_code c to n (length code3) all) ++ last) same
              ∙ ap (λ n. two ++ else_code c to n (length code3) all) two_length)

  -- ---- an Integer DECISION
  module _ (fits : after_choice c false (length old) all ≤ 512) where
    pub tests_fit : tests_size all ≤ 512
    tests_fit = omega (arith, fits)

    module _ (x : Instruction) (count : ℕ) (counted : count ≡ tests_size all) (code1 : List Instruction) (made1 : code1 ≡ old ++ replicate count x) where
      kept_length : length code1 ≡ length old + tests_size all
      kept_length = omega (arith, ap length made1, length-append old (replicate count x), length-replicate count x, counted)

      pub integer_else_fits : length code1 + else_size c all ≤ 512
      integer_else_fits = omega (arith, fits, kept_length, bodies_size_parts c to all)

      module _ (code2 : List Instruction) (made2 : code2 ≡ code1 ++ else_code c to (length code1) 0 all) where
        else_length : length code2 ≡ length code1 + else_size c all
        else_length = let k = else_size_is c to (length code1) 0 all in omega (arith, ap length made2, length-append code1 (else_code c to (length code1) 0 all), k)

        pub integer_answers_fit : length code2 + answers_size c all ≤ 512
        integer_answers_fit = omega (arith, fits, kept_length, else_length, bodies_size_parts c to all)

        module _ (code3 : List Instruction) (made3 : code3 ≡ code2 ++ answers_code c to (length code2) 0 all) where
          whole_length : length code3 ≡ after_choice c false (length old) all
          whole_length =
              omega (arith, ap length made3, length-append code2 (answers_code c to (length code2) 0 all), answers_length c to all (length code2) 0, kept_length, else_length, bodies_size_parts c to all)

          pub integer_low : length code3 ≤ 512
          integer_low = omega (arith, fits, whole_length)

          module _ (starts : List CodePlace) (begin : starts ≡ starts_from c (length code2) all) (tests : List Instruction) (tests_are_by : tests ≡ tests_by starts all) where
            tests_are_code : tests ≡ tests_code c (length code2) all
            tests_are_code = tests_are_by ∙ ap (λ l. tests_by l all) begin ∙ tests_is c (length code2) all

            tests_count : length tests ≡ tests_size all
            tests_count = ap length tests_are_code ∙ tests_are c (length code2) all

            pub integer_tests_fit : length old + length tests ≤ 512
            integer_tests_fit = omega (arith, fits, tests_count)

            module _ (jumps : List ℕ) (are : jumps ≡ else_leave c to (length code1) all ++ answers_leave c to (length code2) all) where
              abbrev last2 : List Instruction
              last2 = else_code c to (length code1) (length code3) all

              abbrev bodies2 : List Instruction
              bodies2 = answers_code c to (length code2) (length code3) all

              there : length code2 ≡ length (code1 ++ last2)
              there = let k = else_size_is c to (length code1) (length code3) all in omega (arith, else_length, length-append code1 last2, k)

              jumps_land2 : landed (code_place (length code3)) code3 jumps ≡ code1 ++ (last2 ++ bodies2)
              jumps_land2 =
                  let to_place = code_place (length code3) in
                  let a = else_leave c to (length code1) all in
                  let b = answers_leave c to (length code2) all in
                  let l = answers_code c to (length code2) 0 all in
                  ap (landed to_place code3) are ∙ landed-append to_place code3 a b
                  ∙ ap (λ k. landed to_place (landed to_place k a) b) (made3 ∙ ap (λ k. k ++ l) made2 ∙ append_assoc code1 (else_code c to (length code1) 0 all) l)
                  ∙ ap (λ k. landed to_place k b) (else_lands c to (length code3) all code1 l (length code1) refl ∙ sym (append_assoc code1 last2 l) ∙ ap (λ k. (code1 ++ last2) ++ k) (sym (append-nil l)))
                  ∙ answers_land c to (length code3) all (code1 ++ last2) [] (length code2) there
                  ∙ ap (λ k. (code1 ++ last2) ++ k) (append-nil bodies2) ∙ append_assoc code1 last2 bodies2

              pub integer_lands : filled (landed (code_place (length code3)) code3 jumps) (length old) tests ≡ old ++ integer_code c to (length old) all
              integer_lands =
                  let kept = replicate count x in
                  let ts = tests_code c (length code2) all in
                  let one = old ++ ts in
                  let one_length : length code1 ≡ length one = omega (arith, kept_length, length-append old ts, tests_are c (length code2) all) in
                  let two = one ++ else_code c to (length one) (length code3) all in
                  let k = else_size_is c to (length one) (length code3) all in
                  let two_length : length code2 ≡ length two = omega (arith, else_length, one_length, length-append one (else_code c to (length one) (length code3) all), k) in
                  let many : length kept ≡ length tests = omega (arith, length-replicate count x, counted, tests_count) in
                  let first : length code2 ≡ answers_place c (length old) all = omega (arith, else_length, kept_length) in
                  ap (λ k. filled k (length old) tests) (jumps_land2 ∙ ap (λ k. k ++ (last2 ++ bodies2)) made1 ∙ append_assoc old kept (last2 ++ bodies2))
                  ∙ filled_whole tests kept old (last2 ++ bodies2) (length old) refl many
                  ∙ ap (λ k. old ++ (k ++ (last2 ++ bodies2))) tests_are_code
                  ∙ integer_whole c to all old (length code3) whole_length fits (length code2) first one refl two refl (old ++ (ts ++ (last2 ++ bodies2)))
                  (sym (append_assoc old ts (last2 ++ bodies2)) ∙ sym (append_assoc one last2 bodies2)
                  ∙ ap (λ n. (one ++ else_code c to n (length code3) all) ++ bodies2) one_length
                  ∙ ap (λ n. two ++ answers_code c to n (length code3) all) two_length)

-- ---- one more body

module _ (c : Scope) (to : ℕ → ℕ) (at : ℕ) (rs : List Range) (body : Text) (choice others : Choice) (is : choice ≡ answer at rs body others) (old new : List Instruction)
    (made : new ≡ old ++ (text_code c to (length old) body ++ leave_code 0 body)) where
  pub jumps_more : (js ks all : List ℕ) → ks ≡ js ++ leave_place c to (length old) body → js ++ answers_leave c to (length old) choice ≡ all → ks ++ answers_leave c to (length new) others ≡ all
  jumps_more js ks all h e =
      let l = leave_place c to (length old) body in
      ap (λ k. k ++ answers_leave c to (length new) others) h ∙ append_assoc js l (answers_leave c to (length new) others)
      ∙ ap (λ n. js ++ (l ++ answers_leave c to n others)) (body_length c to at rs body choice others is 0 old new made)
      ∙ ap (λ ch. js ++ answers_leave c to (length old) ch) (sym is) ∙ e

  pub starts_more : (ss ts all : List CodePlace) → ts ≡ ss ++ code_place (length old) ∷ [] → ss ++ starts_from c (length old) choice ≡ all → ts ++ starts_from c (length new) others ≡ all
  starts_more ss ts all h e =
      let l = code_place (length old) ∷ [] in
      ap (λ k. k ++ starts_from c (length new) others) h ∙ append_assoc ss l (starts_from c (length new) others)
      ∙ ap (λ n. ss ++ (l ++ starts_from c n others)) (body_length c to at rs body choice others is 0 old new made)
      ∙ ap (λ ch. ss ++ starts_from c (length old) ch) (sym is) ∙ e

-- ---- ELSE after the answers

else_leave_by : (c : Scope) (to : ℕ → ℕ) (list : List PlainAnswer) (o : Option Transition) (n : ℕ) → else_leave c to n (all_answers list (else_choice o)) ≡ else_leave c to n (else_choice o)
else_leave_by c to [] o n = refl
else_leave_by c to (a ∷ list) o n = else_leave_by c to list o n

pub else_leave_alone : (c : Scope) (to : ℕ → ℕ) (list : List Answer) (o : Option Transition) (n : ℕ) → else_leave c to n (answers_before list (else_choice o)) ≡ else_leave c to n (else_choice o)
else_leave_alone c to list o n = else_leave_by c to (map plain_answer list) o n

-- ---- whether a text goes on

pub rest_goes : (s : Statement) (t rest : Text) → t ≡ statement_of s rest → (goes passes behind : Bool) → behind ≡ (goes && passes) → goes_on (statement_of s rest) ≡ (passes && goes_on rest) → (all : Bool) → (goes && goes_on t) ≡ all
    → (behind && goes_on rest) ≡ all
rest_goes s t rest is goes passes behind e f all h =
    ap (λ b. b && goes_on rest) e ∙ and_three goes passes (goes_on rest) ∙ ap (λ b. goes && b) (sym f) ∙ ap (λ t. goes && goes_on t) (sym is) ∙ h

any_swap : (ps qs : List ℕ) → has_any (ps ++ qs) ≡ has_any (qs ++ ps)
any_swap [] qs = ap has_any (sym (append-nil qs))
any_swap (p ∷ ps) [] = refl
any_swap (p ∷ ps) (q ∷ qs) = refl

any_leaves : (c : Scope) (to : ℕ → ℕ) (n : ℕ) (body : Text) (qs : List ℕ) → has_any (leave_place c to n body ++ qs) ≡ (goes_on body || has_any qs)
any_leaves c to n body qs = by_test (goes_on body)
  where
    by_test : (b : Bool) → has_any (cond b ((n + length (text_code c to n body)) ∷ []) [] ++ qs) ≡ (b || has_any qs)
    by_test true = refl
    by_test false = refl

-- A DECISION goes on if one of its bodies has a jump.
pub truth_goes : (c : Scope) (to : ℕ → ℕ) (n m : ℕ) (choice : Choice) → has_any (answers_leave c to n choice ++ else_leave c to m choice) ≡ choice_goes_on choice
truth_goes c to n m nothing_else = refl
truth_goes c to n m (otherwise body) = ap has_any (sym (append-nil (leave_place c to m body))) ∙ any_leaves c to m body [] ∙ or_false (goes_on body)
truth_goes c to n m (answer at rs body others) =
    ap has_any (append_assoc (leave_place c to n body) (answers_leave c to (n + body_size c body) others) (else_leave c to m others))
    ∙ any_leaves c to n body (answers_leave c to (n + body_size c body) others ++ else_leave c to m others)
    ∙ ap (λ b. goes_on body || b) (truth_goes c to (n + body_size c body) m others)

pub integer_goes : (c : Scope) (to : ℕ → ℕ) (n m : ℕ) (choice : Choice) → has_any (else_leave c to m choice ++ answers_leave c to n choice) ≡ choice_goes_on choice
integer_goes c to n m choice = any_swap (else_leave c to m choice) (answers_leave c to n choice) ∙ truth_goes c to n m choice
