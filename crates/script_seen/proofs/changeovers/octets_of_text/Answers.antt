use Rattle.std.proofs.Common.{List, ℕ, [], Option, option_map, sym, ap, ◌∙◌}
use Rattle.std.specs.Prelude.{unwrap_or}
use Rattle.script_seen.proofs.changeovers.octets_of_text.Goals as goal

pub returns-in-Some : goal.returns-in-Some
returns-in-Some c =
    ap (λ (o : Option (List ℕ)). unwrap_or o []) (ap (option_map (λ v. v.items)) (sym c.in-Some.is) ∙ c.in_ok-read.ensures)

pub returns-in-None : goal.returns-in-None
returns-in-None c =
    c.new.ensures.items ∙ ap (λ (o : Option (List ℕ)). unwrap_or o []) (ap (option_map (λ v. v.items)) (sym c.in-None.is) ∙ c.in_ok-read.ensures)
