-- The chances of a variable in a transition of a sound process with settled sets.
use Rattle.std.proofs.Common.{ℕ, List, inl, inr, refl, sym, ap, subst}
use Rattle.std.specs.Prelude.{Contains}
use Rattle.std.specs.List.{enumerate_from}
use Rattle.sdl_ast.specs.declared.expression.Identifier.{Identifier}
use Rattle.sdl_ast.specs.Plain.{PlainProcess, PlainBlock}
use Rattle.sdl_tables.specs.Names.{processes_of, states_of, part_inputs, of_state, inputs_by_state}
use Rattle.sdl_sound.specs.Orders.{IsOrder}
use Rattle.sdl_sound.specs.Paths.{Transition}
use Rattle.sdl_sound.specs.Settled.{IsSettled}
use Rattle.sdl_sound.specs.Sound.{Sound}
use Rattle.sdl_sound.specs.Laws.{IsTextOf, ChancesLaw}
use Rattle.sdl_meaning.specs.Act.{scope_of}
use Rattle.sdl_compile.proofs.Validity.{item_of}
use Rattle.sdl_compile.proofs.Placed.{IsInProcess, Tells}
use Rattle.turn_code.proofs.Lists.{at_place as contains_at}

text_of_it : (p : PlainProcess) (t : Transition) → IsInProcess p t → IsTextOf p t.text
text_of_it p t (inl e) = inl (ap (λ (t : Transition). t.text) e)
text_of_it p t (inr h) =
    let x = item_of (λ (s : ℕ × Identifier). of_state part_inputs p s.0) (enumerate_from 0 (states_of p)) (inputs_by_state p) h.0 h.1 refl h.4 in
    inr (inl (x.0.0, h.3, subst (λ is. Contains is h.3) (sym x.2) (contains_at h.1 h.2 h.3 h.5), ap (λ (t : Transition). t.text) h.6))

pub lawful : (b : PlainBlock) (p : PlainProcess) → ChancesLaw → Sound b → Contains (processes_of b) p → (ranges : List ℕ) (order : List ℕ) → IsOrder p order → (t : Transition) (before : ℕ) → IsInProcess p t → IsSettled p ranges before t → Tells (scope_of b p) ranges before t
lawful b p law sound inside ranges order ordered t before here settled = record {
  reads = λ v q id at none e. let r = (law b p order t id.name q sound inside ordered (text_of_it p t here) none).0 e in settled.reads r.events r.end v id r.walk at r.first;
  enters = λ v q set id at none e is has. let k = (law b p order t id.name q sound inside ordered (text_of_it p t here) none).1 e in settled.states k.events k.state q set v id k.walk k.number is at has k.keeps;
}
