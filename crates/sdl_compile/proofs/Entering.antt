-- The sets with which connections begin are within the sets at all JOINs to them.
use Rattle.std.proofs.Common.{◌≡◌, ℕ, zero, suc, ◌<◌, Bool, true, false, cond, List, [], ◌∷◌, length, Option, Some, None, refl, sym, ap, ◌∙◌, subst, arith}
use Rattle.std.specs.Prelude.{slice_get, slice_set}
use Rattle.std.specs.Option.{option_map_or}
use Rattle.sdl_ast.specs.declared.expression.Identifier.{Identifier}
use Rattle.sdl_ast.specs.declared.tree.Join as tree_join
use Rattle.sdl_ast.specs.declared.tree.End.{End}
use Rattle.sdl_ast.specs.declared.tree.End.TheVariants.{NextState, Stop, Join}
use Rattle.sdl_ast.specs.Plain.{Text, falls, ends, does, decides, Choice, nothing_else, otherwise, answer, PlainConnection}
use Rattle.turn_code.specs.declared.variable_set.VariableSet.{VariableSet}
use Rattle.turn_code.specs.Sets.{Has, IsWithin}
use Rattle.sdl_meaning.specs.Act.{is_truth}
use Rattle.sdl_meaning.specs.Outcomes.{Scope, connector_at}
use Rattle.sdl_meaning.specs.Code.{number_or_zero}
use Rattle.sdl_compile.specs.Reads.{action_set, meet, choice_left}
use Rattle.sdl_compile.specs.Entries.{entry_at, end_met, met, answers_met, else_met, connection_met, connections_met}
use Rattle.sdl_meaning.proofs.Branches.{EachEnd, EachJoin, ChoiceJoin}
use Rattle.sdl_compile.proofs.UnsetLaws.{meet_front, meet_back}

-- Each set is within the one at the same place.
abbrev pub Shrinks : List VariableSet → List VariableSet → Type 0
Shrinks es fs = (k : ℕ) → IsWithin (entry_at fs k) (entry_at es k)

set_shrinks : (es : List VariableSet) (n : ℕ) (e : VariableSet) → IsWithin e (entry_at es n) → Shrinks es (slice_set es n e)
set_shrinks [] n e h k v has = has
set_shrinks (x ∷ es) zero e h zero v has = h v has
set_shrinks (x ∷ es) zero e h (suc k) v has = has
set_shrinks (x ∷ es) (suc n) e h zero v has = has
set_shrinks (x ∷ es) (suc n) e h (suc k) v has = set_shrinks es n e h k v has

set_here : (es : List VariableSet) (n : ℕ) (e : VariableSet) → n < length es → entry_at (slice_set es n e) n ≡ e
set_here [] n e lt = absurd (omega (arith, lt))
set_here (x ∷ es) zero e lt = refl
set_here (x ∷ es) (suc n) e lt = set_here es n e (omega (arith, lt))

set_other : (es : List VariableSet) (n k : ℕ) (e : VariableSet) → (n ≡ k → ⊥) → entry_at (slice_set es n e) k ≡ entry_at es k
set_other [] n k e h = refl
set_other (x ∷ es) zero zero e h = absurd (h refl)
set_other (x ∷ es) zero (suc k) e h = refl
set_other (x ∷ es) (suc n) zero e h = refl
set_other (x ∷ es) (suc n) (suc k) e h = set_other es n k e (λ f. h (ap suc f))

set_length : (es : List VariableSet) (n : ℕ) (e : VariableSet) → length (slice_set es n e) ≡ length es
set_length [] n e = refl
set_length (x ∷ es) zero e = refl
set_length (x ∷ es) (suc n) e = ap suc (set_length es n e)

module _ (c : Scope) where
  abbrev pub number_at : Identifier → ℕ
  number_at id = number_or_zero (connector_at c id)

  -- ---- the set at each JOIN includes that of its connection

  abbrev pub EndFits : List VariableSet → VariableSet → End → Type 0
  EndFits es m (NextState n) = Unit {0}
  EndFits es m (Stop at) = Unit {0}
  EndFits es m (Join j) = IsWithin (entry_at es (number_at j.connector)) m

  abbrev mutual
    pub TextFits : List VariableSet → VariableSet → Text → Type 0
    TextFits es m falls = Unit {0}
    TextFits es m (ends e) = EndFits es m e
    TextFits es m (does a rest) = TextFits es (action_set c m a) rest
    TextFits es m (decides at q choice rest) = ChoiceFits es m choice × TextFits es (choice_left c m choice) rest

    pub ChoiceFits : List VariableSet → VariableSet → Choice → Type 0
    ChoiceFits es m nothing_else = Unit {0}
    ChoiceFits es m (otherwise body) = TextFits es m body
    ChoiceFits es m (answer at ranges body others) = TextFits es m body × ChoiceFits es m others

  -- The sets at the JOINs of the answers, and of ELSE.
  abbrev AnswersFits : List VariableSet → VariableSet → Choice → Type 0
  AnswersFits es m nothing_else = Unit {0}
  AnswersFits es m (otherwise body) = Unit {0}
  AnswersFits es m (answer at ranges body others) = TextFits es m body × AnswersFits es m others

  abbrev ElseFits : List VariableSet → VariableSet → Choice → Type 0
  ElseFits es m nothing_else = Unit {0}
  ElseFits es m (otherwise body) = TextFits es m body
  ElseFits es m (answer at ranges body others) = ElseFits es m others

  joined_fits : (es : List VariableSet) (m : VariableSet) (choice : Choice) → AnswersFits es m choice → ElseFits es m choice → ChoiceFits es m choice
  joined_fits es m nothing_else h k = tt
  joined_fits es m (otherwise body) h k = k
  joined_fits es m (answer at ranges body others) h k = (h.0, joined_fits es m others h.1 k)

  module _ (es fs : List VariableSet) (less : Shrinks es fs) where
    end_fits_less : (m : VariableSet) (e : End) → EndFits es m e → EndFits fs m e
    end_fits_less m (NextState n) h = tt
    end_fits_less m (Stop at) h = tt
    end_fits_less m (Join j) h = λ v has. h v (less (number_at j.connector) v has)

    mutual
      pub fits_less : (m : VariableSet) (t : Text) → TextFits es m t → TextFits fs m t
      fits_less m falls h = tt
      fits_less m (ends e) h = end_fits_less m e h
      fits_less m (does a rest) h = fits_less (action_set c m a) rest h
      fits_less m (decides at q choice rest) h = (choice_fits_less m choice h.0, fits_less (choice_left c m choice) rest h.1)

      choice_fits_less : (m : VariableSet) (choice : Choice) → ChoiceFits es m choice → ChoiceFits fs m choice
      choice_fits_less m nothing_else h = tt
      choice_fits_less m (otherwise body) h = fits_less m body h
      choice_fits_less m (answer at ranges body others) h = (fits_less m body h.0, choice_fits_less m others h.1)

    answers_less : (m : VariableSet) (choice : Choice) → AnswersFits es m choice → AnswersFits fs m choice
    answers_less m nothing_else h = tt
    answers_less m (otherwise body) h = tt
    answers_less m (answer at ranges body others) h = (fits_less m body h.0, answers_less m others h.1)

    else_less : (m : VariableSet) (choice : Choice) → ElseFits es m choice → ElseFits fs m choice
    else_less m nothing_else h = tt
    else_less m (otherwise body) h = fits_less m body h
    else_less m (answer at ranges body others) h = else_less m others h

  -- ---- one text makes the sets smaller

  by_sort : (P : List VariableSet → Type 0) (b : Bool) (es fs : List VariableSet) → P es → P fs → P (cond b es fs)
  by_sort P true es fs h k = h
  by_sort P false es fs h k = k

  end_shrinks : (m : VariableSet) (e : End) (es : List VariableSet) → Shrinks es (end_met c m e es)
  end_shrinks m (NextState n) es k v has = has
  end_shrinks m (Stop at) es k v has = has
  end_shrinks m (Join j) es k v has = set_shrinks es (number_at j.connector) (meet (entry_at es (number_at j.connector)) m) (meet_front (entry_at es (number_at j.connector)) m) k v has

  mutual
    pub met_shrinks : (m : VariableSet) (t : Text) (es : List VariableSet) → Shrinks es (met c m t es)
    met_shrinks m falls es k v has = has
    met_shrinks m (ends e) es k v has = end_shrinks m e es k v has
    met_shrinks m (does a rest) es k v has = met_shrinks (action_set c m a) rest es k v has
    met_shrinks m (decides at q choice rest) es k v has =
        by_sort (Shrinks es) (is_truth c q) (else_met c m choice (answers_met c m choice es)) (answers_met c m choice (else_met c m choice es))
        (λ k v has. answers_shrinks m choice es k v (else_shrinks m choice (answers_met c m choice es) k v has))
        (λ k v has. else_shrinks m choice es k v (answers_shrinks m choice (else_met c m choice es) k v has)) k v
        (met_shrinks (choice_left c m choice) rest (cond (is_truth c q) (else_met c m choice (answers_met c m choice es)) (answers_met c m choice (else_met c m choice es))) k v has)

    answers_shrinks : (m : VariableSet) (choice : Choice) (es : List VariableSet) → Shrinks es (answers_met c m choice es)
    answers_shrinks m nothing_else es k v has = has
    answers_shrinks m (otherwise body) es k v has = has
    answers_shrinks m (answer at ranges body others) es k v has = met_shrinks m body es k v (answers_shrinks m others (met c m body es) k v has)

    else_shrinks : (m : VariableSet) (choice : Choice) (es : List VariableSet) → Shrinks es (else_met c m choice es)
    else_shrinks m nothing_else es k v has = has
    else_shrinks m (otherwise body) es k v has = met_shrinks m body es k v has
    else_shrinks m (answer at ranges body others) es k v has = else_shrinks m others es k v has

  -- ---- and changes only the sets of the connections to which it has a JOIN

  abbrev pub IsOther : ℕ → tree_join.Join → Type 0
  IsOther k j = number_at j.connector ≡ k → ⊥

  module _ (k : ℕ) where
    end_apart : (m : VariableSet) (e : End) (es : List VariableSet) → EachEnd (IsOther k) e → entry_at (end_met c m e es) k ≡ entry_at es k
    end_apart m (NextState n) es h = refl
    end_apart m (Stop at) es h = refl
    end_apart m (Join j) es h = set_other es (number_at j.connector) k (meet (entry_at es (number_at j.connector)) m) h

    mutual
      pub met_apart : (m : VariableSet) (t : Text) (es : List VariableSet) → EachJoin (IsOther k) t → entry_at (met c m t es) k ≡ entry_at es k
      met_apart m falls es h = refl
      met_apart m (ends e) es h = end_apart m e es h
      met_apart m (does a rest) es h = met_apart (action_set c m a) rest es h
      met_apart m (decides at q choice rest) es h =
          met_apart (choice_left c m choice) rest (cond (is_truth c q) (else_met c m choice (answers_met c m choice es)) (answers_met c m choice (else_met c m choice es))) h.1
          ∙ by_sort (λ fs. entry_at fs k ≡ entry_at es k) (is_truth c q) (else_met c m choice (answers_met c m choice es)) (answers_met c m choice (else_met c m choice es))
          (else_apart m choice (answers_met c m choice es) h.0 ∙ answers_apart m choice es h.0)
          (answers_apart m choice (else_met c m choice es) h.0 ∙ else_apart m choice es h.0)

      answers_apart : (m : VariableSet) (choice : Choice) (es : List VariableSet) → ChoiceJoin (IsOther k) choice → entry_at (answers_met c m choice es) k ≡ entry_at es k
      answers_apart m nothing_else es h = refl
      answers_apart m (otherwise body) es h = refl
      answers_apart m (answer at ranges body others) es h = answers_apart m others (met c m body es) h.1 ∙ met_apart m body es h.0

      else_apart : (m : VariableSet) (choice : Choice) (es : List VariableSet) → ChoiceJoin (IsOther k) choice → entry_at (else_met c m choice es) k ≡ entry_at es k
      else_apart m nothing_else es h = refl
      else_apart m (otherwise body) es h = met_apart m body es h
      else_apart m (answer at ranges body others) es h = else_apart m others es h.1

  -- ---- the JOINs of a text fit

  end_length : (m : VariableSet) (e : End) (es : List VariableSet) → length (end_met c m e es) ≡ length es
  end_length m (NextState n) es = refl
  end_length m (Stop at) es = refl
  end_length m (Join j) es = set_length es (number_at j.connector) (meet (entry_at es (number_at j.connector)) m)

  mutual
    pub met_length : (m : VariableSet) (t : Text) (es : List VariableSet) → length (met c m t es) ≡ length es
    met_length m falls es = refl
    met_length m (ends e) es = end_length m e es
    met_length m (does a rest) es = met_length (action_set c m a) rest es
    met_length m (decides at q choice rest) es =
        met_length (choice_left c m choice) rest (cond (is_truth c q) (else_met c m choice (answers_met c m choice es)) (answers_met c m choice (else_met c m choice es)))
        ∙ by_sort (λ fs. length fs ≡ length es) (is_truth c q) (else_met c m choice (answers_met c m choice es)) (answers_met c m choice (else_met c m choice es))
        (else_length m choice (answers_met c m choice es) ∙ answers_length m choice es)
        (answers_length m choice (else_met c m choice es) ∙ else_length m choice es)

    answers_length : (m : VariableSet) (choice : Choice) (es : List VariableSet) → length (answers_met c m choice es) ≡ length es
    answers_length m nothing_else es = refl
    answers_length m (otherwise body) es = refl
    answers_length m (answer at ranges body others) es = answers_length m others (met c m body es) ∙ met_length m body es

    else_length : (m : VariableSet) (choice : Choice) (es : List VariableSet) → length (else_met c m choice es) ≡ length es
    else_length m nothing_else es = refl
    else_length m (otherwise body) es = met_length m body es
    else_length m (answer at ranges body others) es = else_length m others es

  -- The connection of a JOIN has a set.
  abbrev pub IsIn : ℕ → tree_join.Join → Type 0
  IsIn n j = number_at j.connector < n

  end_fits : (m : VariableSet) (e : End) (es : List VariableSet) → EachEnd (IsIn (length es)) e → EndFits (end_met c m e es) m e
  end_fits m (NextState n) es h = tt
  end_fits m (Stop at) es h = tt
  end_fits m (Join j) es h = λ v has.
      let n = number_at j.connector in
      meet_back (entry_at es n) m v (subst (λ e. Has e v) (set_here es n (meet (entry_at es n) m) h) has)

  mutual
    pub met_fits : (m : VariableSet) (t : Text) (es : List VariableSet) (size : ℕ) → length es ≡ size → EachJoin (IsIn size) t → TextFits (met c m t es) m t
    met_fits m falls es size e h = tt
    met_fits m (ends end) es size e h = end_fits m end es (subst (λ n. EachEnd (IsIn n) end) (sym e) h)
    met_fits m (does a rest) es size e h = met_fits (action_set c m a) rest es size e h
    met_fits m (decides at q choice rest) es size e h =
        let first = else_met c m choice (answers_met c m choice es) in
        let second = answers_met c m choice (else_met c m choice es) in
        let between = cond (is_truth c q) first second in
        let more = met_shrinks (choice_left c m choice) rest between in
        let l : length between ≡ size =
        by_sort (λ fs. length fs ≡ size) (is_truth c q) first second
        (else_length m choice (answers_met c m choice es) ∙ answers_length m choice es ∙ e)
        (answers_length m choice (else_met c m choice es) ∙ else_length m choice es ∙ e) in
        let inner : ChoiceFits between m choice =
        by_sort (λ fs. ChoiceFits fs m choice) (is_truth c q) first second
        (joined_fits first m choice (answers_less (answers_met c m choice es) first (else_shrinks m choice (answers_met c m choice es)) m choice (answers_fits m choice es size e h.0))
        (else_fits m choice (answers_met c m choice es) size (answers_length m choice es ∙ e) h.0))
        (joined_fits second m choice (answers_fits m choice (else_met c m choice es) size (else_length m choice es ∙ e) h.0)
        (else_less (else_met c m choice es) second (answers_shrinks m choice (else_met c m choice es)) m choice (else_fits m choice es size e h.0))) in
        (choice_fits_less between (met c (choice_left c m choice) rest between) more m choice inner, met_fits (choice_left c m choice) rest between size l h.1)

    answers_fits : (m : VariableSet) (choice : Choice) (es : List VariableSet) (size : ℕ) → length es ≡ size → ChoiceJoin (IsIn size) choice → AnswersFits (answers_met c m choice es) m choice
    answers_fits m nothing_else es size e h = tt
    answers_fits m (otherwise body) es size e h = tt
    answers_fits m (answer at ranges body others) es size e h =
        let one = met c m body es in (
          fits_less one (answers_met c m others one) (answers_shrinks m others one) m body (met_fits m body es size e h.0),
          answers_fits m others one size (met_length m body es ∙ e) h.1,
        )

    else_fits : (m : VariableSet) (choice : Choice) (es : List VariableSet) (size : ℕ) → length es ≡ size → ChoiceJoin (IsIn size) choice → ElseFits (else_met c m choice es) m choice
    else_fits m nothing_else es size e h = tt
    else_fits m (otherwise body) es size e h = met_fits m body es size e h
    else_fits m (answer at ranges body others) es size e h = else_fits m others es size e h.1

  -- ---- one connection after another

  -- No connection has a JOIN to connection n, if each comes before those that join it.
  abbrev pub JoinsNone : List ℕ → ℕ → Type 0
  JoinsNone [] n = Unit {0}
  JoinsNone (m ∷ ms) n = ((k : PlainConnection) → slice_get c.process.connections n ≡ Some k → EachJoin (IsOther m) k.text) × JoinsNone ms n

  abbrev pub AreApart : List ℕ → Type 0
  AreApart [] = Unit {0}
  AreApart (n ∷ ns) = JoinsNone (n ∷ ns) n × AreApart ns

  -- The connection with this number fits.
  abbrev pub Fits : List VariableSet → ℕ → Type 0
  Fits es n = (k : PlainConnection) → slice_get c.process.connections n ≡ Some k → TextFits es (entry_at es n) k.text

  abbrev pub AllFit : List VariableSet → List ℕ → Type 0
  AllFit es [] = Unit {0}
  AllFit es (n ∷ ns) = Fits es n × AllFit es ns

  connection_shrinks : (n : ℕ) (es : List VariableSet) → Shrinks es (connection_met c n es)
  connection_shrinks n es = by_found (slice_get c.process.connections n)
    where
      by_found : (o : Option PlainConnection) → Shrinks es (option_map_or (λ (x : PlainConnection). met c (entry_at es n) x.text es) o es)
      by_found None k v has = has
      by_found (Some x) k v has = met_shrinks (entry_at es n) x.text es k v has

  connection_length : (n : ℕ) (es : List VariableSet) → length (connection_met c n es) ≡ length es
  connection_length n es = by_found (slice_get c.process.connections n)
    where
      by_found : (o : Option PlainConnection) → length (option_map_or (λ (x : PlainConnection). met c (entry_at es n) x.text es) o es) ≡ length es
      by_found None = refl
      by_found (Some x) = met_length (entry_at es n) x.text es

  connection_apart : (n m : ℕ) (es : List VariableSet) → ((k : PlainConnection) → slice_get c.process.connections n ≡ Some k → EachJoin (IsOther m) k.text) → entry_at (connection_met c n es) m ≡ entry_at es m
  connection_apart n m es h = by_found (slice_get c.process.connections n) refl
    where
      by_found : (o : Option PlainConnection) → slice_get c.process.connections n ≡ o → entry_at (option_map_or (λ (x : PlainConnection). met c (entry_at es n) x.text es) o es) m ≡ entry_at es m
      by_found None e = refl
      by_found (Some x) e = met_apart m (entry_at es n) x.text es (h x e)

  pub connections_shrink : (ns : List ℕ) (es : List VariableSet) → Shrinks es (connections_met c ns es)
  connections_shrink [] es k v has = has
  connections_shrink (n ∷ ns) es k v has = connections_shrink ns es k v (connection_shrinks n (connections_met c ns es) k v has)

  pub connections_length : (ns : List ℕ) (es : List VariableSet) → length (connections_met c ns es) ≡ length es
  connections_length [] es = refl
  connections_length (n ∷ ns) es = connection_length n (connections_met c ns es) ∙ connections_length ns es

  -- The connections that come later keep their sets.
  still_fit : (n : ℕ) (es : List VariableSet) (ns : List ℕ) → JoinsNone ns n → AllFit es ns → AllFit (connection_met c n es) ns
  still_fit n es [] apart h = tt
  still_fit n es (m ∷ ns) apart h = (
    λ k at. subst (λ e. TextFits (connection_met c n es) e k.text) (sym (connection_apart n m es apart.0)) (fits_less es (connection_met c n es) (connection_shrinks n es) (entry_at es m) k.text (h.0 k at)),
    still_fit n es ns apart.1 h.1,
  )

  -- The JOINs of the connection itself fit.
  connection_fits : (n : ℕ) (es : List VariableSet) → ((k : PlainConnection) → slice_get c.process.connections n ≡ Some k → EachJoin (IsOther n) k.text × EachJoin (IsIn (length es)) k.text) → Fits (connection_met c n es) n
  connection_fits n es h k at =
      let own : connection_met c n es ≡ met c (entry_at es n) k.text es = ap (λ o. option_map_or (λ (x : PlainConnection). met c (entry_at es n) x.text es) o es) at in
      subst (λ e. TextFits (connection_met c n es) e k.text) (sym (connection_apart n n es (λ x there. (h x there).0)))
      (subst (λ fs. TextFits fs (entry_at es n) k.text) (sym own) (met_fits (entry_at es n) k.text es (length es) refl (h k at).1))

  pub connections_fit : (ns : List ℕ) (es : List VariableSet) → AreApart ns → ((n : ℕ) (k : PlainConnection) → slice_get c.process.connections n ≡ Some k → EachJoin (IsIn (length es)) k.text) → AllFit (connections_met c ns es) ns
  connections_fit [] es apart inside = tt
  connections_fit (n ∷ ns) es apart inside =
      let before = connections_met c ns es in (
        connection_fits n before (λ k at. (apart.0.0 k at, subst (λ l. EachJoin (IsIn l) k.text) (sym (connections_length ns es)) (inside n k at))),
        still_fit n before ns apart.0.1 (connections_fit ns es apart.1 inside),
      )
