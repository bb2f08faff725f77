-- The code of a copy without quoted TASKs is that of the text; and the copies of connections by their numbers.
use Rattle.std.proofs.Common.{◌≡◌, ℕ, ◌<◌, ◌≤◌, List, length, map, Option, Some, None, refl, sym, ap, ◌∙◌, subst, get_or}
use Rattle.std.specs.Prelude.{slice_get, option_map}
use Rattle.std.specs.Option.{option_map_or}
use Rattle.std.proofs.lemmas.List.{length-map}
use Rattle.std.proofs.lemmas.Option.{slice_get-map, slice_get-get_or}
use Rattle.sdl_ast.specs.declared.tree.Transition.{Transition}
use Rattle.sdl_ast.specs.declared.tree.Join.{Join}
use Rattle.sdl_ast.specs.Plain.{Text, falls, PlainConnection}
use Rattle.sdl_ast.specs.Views.{text_of}
use Rattle.sdl_tables.specs.Names.{variables_of}
use Rattle.sdl_sound.specs.Longest.{size}
use Rattle.sdl_emit.specs.Trimmed.{trimmed, AreTrimmed}
use Rattle.sdl_meaning.specs.Outcomes.{Scope, connector_at}
use Rattle.sdl_meaning.specs.Named.{NamedText}
use Rattle.sdl_meaning.specs.Code.{number_or_zero, joined, text_at, text_code}
use Rattle.sdl_meaning.proofs.Sorting.{none_past as beyond}
use Rattle.sdl_emit.proofs.Trimming.{size_same, joins_same, code_same, named_same}

module _ (c : Scope) (t : Transition) (whole : Text) (is : text_of t ≡ trimmed whole) where
  pub named_so : NamedText c whole → NamedText c (text_of t)
  named_so h = subst (NamedText c) (sym is) (named_same c whole h)

  pub size_so : size (variables_of c.process) (text_of t) ≡ size (variables_of c.process) whole
  size_so = ap (size (variables_of c.process)) is ∙ size_same (variables_of c.process) whole

  pub joined_so : joined c (text_of t) ≡ joined c whole
  joined_so = ap (joined c) is ∙ ap (map (λ (j : Join). number_or_zero (connector_at c j.connector))) (joins_same c whole)

  pub code_so : (to : ℕ → ℕ) (n : ℕ) → text_code c to n (text_of t) ≡ text_code c to n whole
  code_so to n = ap (text_code c to n) is ∙ code_same c to whole n

-- ---- connections

text_found : (o : Option PlainConnection) (x : Text) → option_map (λ (k : PlainConnection). trimmed k.text) o ≡ Some x → x ≡ trimmed (option_map_or (λ (k : PlainConnection). k.text) o falls)
text_found None x e = absurd (let k : ⊥ = cc in k)
text_found (Some k) x e = let g : trimmed k.text ≡ x = cc in sym g

none_found : (o : Option PlainConnection) → option_map (λ (k : PlainConnection). trimmed k.text) o ≡ None → o ≡ None
none_found None e = refl
none_found (Some k) e = absurd (let k : ⊥ = cc in k)

module _ (c : Scope) (ts : List Transition) (copied : AreTrimmed c.process.connections ts) where
  abbrev pub cut : PlainConnection → Text
  cut k = trimmed k.text

  pub copies_length : length ts ≡ length c.process.connections
  copies_length = sym (length-map ts text_of) ∙ ap length copied ∙ length-map c.process.connections cut

  module _ (n : ℕ) where
    seen : option_map cut (slice_get c.process.connections n) ≡ option_map text_of (slice_get ts n)
    seen = sym (slice_get-map cut c.process.connections n) ∙ ap (λ l. slice_get l n) (sym copied) ∙ slice_get-map text_of ts n

    pub there : (t : Transition) → n < length ts → t ≡ get_or ts n t → option_map cut (slice_get c.process.connections n) ≡ Some (text_of t)
    there t lt is = seen ∙ ap (option_map text_of) (slice_get-get_or ts n t lt ∙ ap Some (sym is))

    pub copy_is : (t : Transition) → n < length ts → t ≡ get_or ts n t → text_of t ≡ trimmed (text_at c n)
    copy_is t lt is = text_found (slice_get c.process.connections n) (text_of t) (there t lt is)

    pub nowhere : length ts ≤ n → slice_get c.process.connections n ≡ None
    nowhere le = none_found (slice_get c.process.connections n) (seen ∙ ap (option_map text_of) (beyond ts n le))

    pub no_text : length ts ≤ n → text_at c n ≡ falls
    no_text le = ap (λ o. option_map_or (λ (k : PlainConnection). k.text) o falls) (nowhere le)
