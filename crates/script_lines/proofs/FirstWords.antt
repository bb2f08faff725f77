-- The words of a line without the first one.
use Rattle.std.proofs.Common.{◌≡◌, ℕ, ◌-◌, ◌≤◌, List, [], ◌∷◌, length, take, drop, Bor, ap, arith}
use Rattle.std.specs.Prelude.{get_or}
use Rattle.std.proofs.lemmas.List.{take_all}
use Rattle.script_lines.specs.Lines.{texts}

pub first_off : (ws : List (Bor (List ℕ))) (d : Bor (List ℕ)) → 1 ≤ length ws
    → (get_or ws 0 d).now ∷ texts (take (length ws - 1) (drop 1 ws)) ≡ texts ws
first_off [] d h = absurd (omega (arith, h))
first_off (w ∷ ws) d h =
    let few : length ws ≤ length (w ∷ ws) - 1 = omega arith in
    ap (λ xs. w.now ∷ texts xs) (take_all (length (w ∷ ws) - 1) ws few)
