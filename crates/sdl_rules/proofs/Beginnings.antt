-- The synonyms that are visible at the beginning of a block and of a process.
use Rattle.std.proofs.Common.{◌≡◌, List, ap, ◌∙◌}
use Rattle.sdl_ast.specs.declared.expression.Identifier.{Identifier}
use Rattle.sdl_rules.specs.Synonyms.{Known, Sight}

pub sight_is : (own own' : Known) (hidden hidden' : List Identifier) (outer outer' : Known) → own ≡ own' → hidden ≡ hidden' → outer ≡ outer'
    → (let s : Sight = record { own = own; hidden = hidden; outer = outer } in s) ≡ record { own = own'; hidden = hidden'; outer = outer' }
sight_is own own' hidden hidden' outer outer' a b c =
    let first : Known → Sight = λ k. record { own = k; hidden = hidden; outer = outer } in
    let second : List Identifier → Sight = λ l. record { own = own'; hidden = l; outer = outer } in
    let third : Known → Sight = λ k. record { own = own'; hidden = hidden'; outer = k } in
    ap first a ∙ ap second b ∙ ap third c
