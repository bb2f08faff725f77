-- The sets of variables in a copy without quoted TASKs are those of the text.
use Rattle.std.proofs.Common.{◌≡◌, ℕ, ◌<◌, ◌≤◌, List, length, Option, Some, None, refl, sym, ap, ◌∙◌, get_or}
use Rattle.std.specs.Prelude.{slice_get, option_map}
use Rattle.std.specs.Option.{option_map_or}
use Rattle.sdl_ast.specs.declared.tree.Transition.{Transition}
use Rattle.sdl_ast.specs.Plain.{Text, falls, PlainConnection}
use Rattle.sdl_ast.specs.Views.{text_of}
use Rattle.turn_code.specs.declared.variable_set.VariableSet.{VariableSet}
use Rattle.sdl_emit.specs.Trimmed.{trimmed, AreTrimmed}
use Rattle.sdl_meaning.specs.Outcomes.{Scope}
use Rattle.sdl_meaning.specs.Code.{text_at}
use Rattle.sdl_compile.specs.Entries.{entry_at, met, connection_met}
use Rattle.sdl_compile.specs.Facts.{text_sets}
use Rattle.sdl_emit.proofs.CopiedCode.{there, nowhere, copy_is}
use Rattle.sdl_compile.proofs.TrimmedSets.{met_same, sets_same}

module _ (c : Scope) (t : Transition) (whole : Text) (is : text_of t ≡ trimmed whole) where
  pub sets_so : (m : VariableSet) → text_sets c m (text_of t) ≡ text_sets c m whole
  sets_so m = ap (text_sets c m) is ∙ sets_same c whole m

  pub met_so : (m : VariableSet) (es : List VariableSet) → met c m (text_of t) es ≡ met c m whole es
  met_so m es = ap (λ x. met c m x es) is ∙ met_same c whole m es

met_found : (c : Scope) (m : VariableSet) (es : List VariableSet) (o : Option PlainConnection) (x : Text) → option_map (λ (k : PlainConnection). trimmed k.text) o ≡ Some x
    → met c m (option_map_or (λ (k : PlainConnection). k.text) o falls) es ≡ option_map_or (λ (x : PlainConnection). met c m x.text es) o es
met_found c m es None x e = absurd (let k : ⊥ = cc in k)
met_found c m es (Some k) x e = refl

module _ (c : Scope) (ts : List Transition) (copied : AreTrimmed c.process.connections ts) (n : ℕ) where
  pub copy_met : (t : Transition) → n < length ts → t ≡ get_or ts n t → (es new : List VariableSet) → new ≡ met c (entry_at es n) (text_of t) es → new ≡ connection_met c n es
  copy_met t lt is es new made =
      made ∙ met_so c t (text_at c n) (copy_is c ts copied n t lt is) (entry_at es n) es
      ∙ met_found c (entry_at es n) es (slice_get c.process.connections n) (text_of t) (there c ts copied n t lt is)

  pub no_met : length ts ≤ n → (es : List VariableSet) → es ≡ connection_met c n es
  no_met le es = sym (ap (λ o. option_map_or (λ (x : PlainConnection). met c (entry_at es n) x.text es) o es) (nowhere c ts copied n le))
