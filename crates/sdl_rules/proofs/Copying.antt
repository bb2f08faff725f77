-- Copies of the parts of a text, with values in place of synonyms or without a change.
use Rattle.std.proofs.Common.{◌≡◌, ℕ, ◌+◌, ◌<◌, List, [], ◌∷◌, ◌++◌, Option, length, take, map, get_or, sym, ap, ◌∙◌}
use Rattle.std.proofs.lemmas.List.{map_push}
use Rattle.plain_laws.proofs.Lists.{mapped_more}
use Rattle.sdl_ast.specs.declared.expression.Identifier.{Identifier}
use Rattle.sdl_ast.specs.declared.tree.Constant.{Constant}
use Rattle.sdl_ast.specs.declared.tree.Sort.{Sort}
use Rattle.sdl_ast.specs.Plain.{Text, PlainStimulus, PlainInput, PlainClause, PlainState, PlainStart, PlainConnection, PlainGroup, PlainDeclaration, PlainProcess}

-- one more copy of a list
pub one_more : {X P : Type 0} (of : X → P) (f : P → P) (given copies new : List X) (i : ℕ) (x y : X) → i < length given → x ≡ get_or given i x
    → map of copies ≡ map f (map of (take i given)) → new ≡ copies ++ y ∷ [] → of y ≡ f (of x) → map of new ≡ map f (map of (take (i + 1) given))
one_more of f given copies new i x y within is before more one =
    ap (map of) more ∙ map_push of copies y
    ∙ (ap (λ l. l ++ of y ∷ []) before
    ∙ (ap (λ p. map f (map of (take i given)) ++ p ∷ []) one
    ∙ (sym (map_push f (map of (take i given)) (of x)) ∙ ap (map f) (sym (mapped_more of given i x within is)))))

pub one_more_same : {X P : Type 0} (of : X → P) (given copies new : List X) (i : ℕ) (x y : X) → i < length given → x ≡ get_or given i x
    → map of copies ≡ map of (take i given) → new ≡ copies ++ y ∷ [] → of y ≡ of x → map of new ≡ map of (take (i + 1) given)
one_more_same of given copies new i x y within is before more one =
    ap (map of) more ∙ map_push of copies y
    ∙ (ap (λ l. l ++ of y ∷ []) before ∙ (ap (λ p. map of (take i given) ++ p ∷ []) one ∙ sym (mapped_more of given i x within is)))

-- ---- equal parts make equal wholes

pub input_is : (at : ℕ) (xs ys : List PlainStimulus) (t u : Text) → xs ≡ ys → t ≡ u
    → (let i : PlainInput = record { at = at; stimuli = xs; text = t } in i) ≡ record { at = at; stimuli = ys; text = u }
input_is at xs ys t u stimuli text =
    let first : List PlainStimulus → PlainInput = λ l. record { at = at; stimuli = l; text = t } in
    let second : Text → PlainInput = λ x. record { at = at; stimuli = ys; text = x } in
    ap first stimuli ∙ ap second text

pub state_is : (ns ms : List Identifier) (cs ds : List PlainClause) → ns ≡ ms → cs ≡ ds → (let p : PlainState = record { names = ns; clauses = cs } in p) ≡ record { names = ms; clauses = ds }
state_is ns ms cs ds names clauses =
    let first : List Identifier → PlainState = λ l. record { names = l; clauses = cs } in
    let second : List PlainClause → PlainState = λ l. record { names = ms; clauses = l } in
    ap first names ∙ ap second clauses

pub group_is : (sort : Sort) (ns ms : List Identifier) (a b : Option Constant) → ns ≡ ms → a ≡ b
    → (let g : PlainGroup = record { names = ns; sort = sort; initial = a } in g) ≡ record { names = ms; sort = sort; initial = b }
group_is sort ns ms a b names initial =
    let first : List Identifier → PlainGroup = λ l. record { names = l; sort = sort; initial = a } in
    let second : Option Constant → PlainGroup = λ o. record { names = ms; sort = sort; initial = o } in
    ap first names ∙ ap second initial

pub process_is : (name : Identifier) (n : ℕ) (ds es : List PlainDeclaration) (a b : PlainStart) (ps qs : List PlainState) (cs us : List PlainConnection) → ds ≡ es → a ≡ b → ps ≡ qs → cs ≡ us
    → (let p : PlainProcess = record { name = name; instances = n; declarations = ds; start = a; states = ps; connections = cs } in p)
    ≡ record { name = name; instances = n; declarations = es; start = b; states = qs; connections = us }
process_is name n ds es a b ps qs cs us declarations start states connections =
    let make : List PlainDeclaration → PlainStart → List PlainState → List PlainConnection → PlainProcess =
    λ w x y z. record { name = name; instances = n; declarations = w; start = x; states = y; connections = z } in
    ap (λ w. make w a ps cs) declarations ∙ (ap (λ x. make es x ps cs) start ∙ (ap (λ y. make es b y cs) states ∙ ap (λ z. make es b qs z) connections))
