-- One more turn of a text, and its report.
use Rattle.std.proofs.Common.{◌≡◌, ◌∙◌, ℕ, List, [], ◌∷◌, ◌++◌, map, Some, sym, ap, subst}
use Rattle.std.specs.Prelude.{slice_get}
use Rattle.std.specs.Option.{option_map}
use Rattle.std.proofs.lemmas.Option.{slice_get-map, same_Some}
use Rattle.sdl_ast.specs.Plain.{PlainBlock, PlainProcess}
use Rattle.sdl_ast.specs.Views.{block_of}
use Rattle.sdl_tables.specs.Names.{Input, inputs_by_state, processes_of}
use Rattle.turn_machine.specs.Turn.{Turn}
use Rattle.script_covered.specs.Covered.{Covers}
use Rattle.script_covered.specs.Lcov.{lcov_text}
use Rattle.script_covered.specs.Texts.{IsTextOf, inputs_in, IsCovering, IsLcov}
use Rattle.script_covered.specs.declared.coverage.Coverage.{Coverage}
use Rattle.script_covered.specs.declared.text_coverage.TextCoverage.{TextCoverage}

-- a turn is counted with its process and the inputs of its states
pub turn_taken : (ts : List Turn) (t : Turn) (c : TextCoverage) (after : Coverage) (all : List PlainProcess) (rows : List (List (List Input))) (n : ℕ) (p : PlainProcess) (is : List (List Input))
    → all ≡ processes_of (block_of c.block.now) → rows ≡ map inputs_in c.inputs.items → Some p ≡ slice_get all n → Some is ≡ slice_get rows n → n ≡ t.process.0
    → ((b : PlainBlock) (us : List Turn) → slice_get (processes_of b) t.process.0 ≡ Some p → is ≡ inputs_by_state p → Covers b us c.coverage → Covers b (us ++ t ∷ []) after)
    → IsCovering ts c → IsCovering (ts ++ t ∷ []) (record c { coverage = after })
turn_taken ts t c after all rows n p is are those there at same step known =
    let ps = processes_of (block_of c.block.now) in
    let place : slice_get ps n ≡ Some p = ap (λ (l : List PlainProcess). slice_get l n) (sym are) ∙ sym there in
    let inputs : is ≡ inputs_by_state p =
    same_Some is (inputs_by_state p)
    (at ∙ (ap (λ (l : List (List (List Input))). slice_get l n) (those ∙ known.inputs) ∙ (slice_get-map inputs_by_state ps n ∙ ap (option_map inputs_by_state) place))) in
    record {
      is_text = known.is_text;
      covers = step (block_of c.block.now) ts (ap (slice_get ps) (sym same) ∙ place) inputs known.covers;
      inputs = known.inputs;
    }

pub told_of_text : (name text was : List ℕ) (ts : List Turn) (b : PlainBlock) (out : List ℕ) → was ≡ text → IsTextOf was b → out ≡ lcov_text name text b ts → IsLcov name text ts out
told_of_text name text was ts b out same is told = record { block = b; is_block = subst (λ (t : List ℕ). IsTextOf t b) same is; told = told }
