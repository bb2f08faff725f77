use Rattle.std.proofs.Common.{◌≡◌, ◌++◌, [], drop, map}
use Rattle.turn_code.specs.declared.draft.PlaceFacts.{PlaceFacts}
use Rattle.sdl_compile.specs.Facts.{shapes_from}
use Rattle.sdl_compile.proofs.facts.place_facts.Given as goal

abbrev pub invariant-loop-k : goal.invariant-loop-k
invariant-loop-k l = record {
  shaped : map (λ (f : PlaceFacts). f.shape) l.facts.items ++ shapes_from l.setting.signals.now l.setting.variables.now l.setting.parameters.now l.shape.items (drop l.k l.code) ≡ shapes_from l.setting.signals.now l.setting.variables.now l.setting.parameters.now [] l.code;
  settled : map (λ (f : PlaceFacts). f.set) l.facts.items ++ drop l.k l.marks.sets.now ≡ l.marks.sets.now;
  counted : map (λ (f : PlaceFacts). f.count) l.facts.items ++ drop l.k l.marks.counts.now ≡ l.marks.counts.now;
  effected : map (λ (f : PlaceFacts). f.effects) l.facts.items ++ drop l.k l.marks.effects.now ≡ l.marks.effects.now;
}
