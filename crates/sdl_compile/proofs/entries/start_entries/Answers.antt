use Rattle.std.proofs.Common.{rules, ◌≡◌, ◌∙◌, List, [], ◌∷◌, map, replicate, length, ap, refl}
use Rattle.std.proofs.lemmas.List.{length-map}
use Rattle.sdl_ast.specs.Plain.{PlainConnection}
use Rattle.sdl_ast.specs.Views.{connection_of}
use Rattle.turn_code.specs.declared.variable_set.VariableSet.{VariableSet}
use Rattle.sdl_compile.specs.Reads.{everything}
use Rattle.sdl_compile.proofs.entries.start_entries.Goals as goal

each_everything : (xs : List PlainConnection) → replicate {A = VariableSet} (length xs) everything ≡ map (λ x. everything) xs
each_everything [] = refl
each_everything (x ∷ xs) = ap (λ l. everything ∷ l) (each_everything xs)

pub returns : goal.returns
returns c =
    let xs = map connection_of c.args.connections.now in
    let blank : c.in_ok-entries.entries.items ≡ replicate {A = VariableSet} (length xs) everything = search (rules, length-map c.args.connections.now connection_of) in
    blank ∙ each_everything xs
