-- The connections that transitions join, one INPUT more.
use Rattle.std.proofs.Common.{◌≡◌, ℕ, List, [], ◌∷◌, ◌++◌, sym, ap, ◌∙◌, append_assoc}
use Rattle.std.specs.List.{flat_map}
use Rattle.std.specs.Prelude.{option_to_list}
use Rattle.std.proofs.lemmas.Grind.{flat_map-append}
use Rattle.sdl_ast.specs.declared.tree.Join.{Join}
use Rattle.sdl_ast.specs.Plain.{PlainInput, PlainProcess}
use Rattle.sdl_tables.specs.Names.{number_of, connector_names}
use Rattle.sdl_sound.specs.Orders.{targets_of}
use Rattle.sdl_sound.specs.Statements.{joins_of}
use Rattle.sdl_tables.proofs.Numbers.{joined_push}

pub targets_on : (p : PlainProcess) (start now next : List ℕ) (xs ys : List PlainInput) (x : PlainInput) (part : List ℕ) → ys ≡ xs ++ x ∷ []
    → now ≡ start ++ targets_of p (flat_map (λ i. joins_of i.text) xs) → next ≡ now ++ part → part ≡ targets_of p (joins_of x.text)
    → next ≡ start ++ targets_of p (flat_map (λ i. joins_of i.text) ys)
targets_on p start now next xs ys x part last before grows told =
    let name : Join → List ℕ = λ j. option_to_list (number_of (connector_names p) j.connector.name) in
    let joins : PlainInput → List Join = λ i. joins_of i.text in
    grows ∙ (ap (λ l. now ++ l) told ∙ (ap (λ l. l ++ targets_of p (joins x)) before
    ∙ (append_assoc start (targets_of p (flat_map joins xs)) (targets_of p (joins x))
    ∙ ap (λ l. start ++ l) (sym (flat_map-append name (flat_map joins xs) (joins x)) ∙ ap (targets_of p) (sym (joined_push joins xs x) ∙ ap (flat_map joins) (sym last))))))
