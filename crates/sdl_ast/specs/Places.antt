-- The place of an expression, and the same expression moved to another place.
use Rattle.std.specs.Prelude.{ℕ}
use Rattle.sdl_ast.specs.Plain.{Tree, number, truth, variable, unary, binary}

abbrev pub place_of : Tree → ℕ
place_of (number at k) = at
place_of (truth at b) = at
place_of (variable at n) = at
place_of (unary at o x) = at
place_of (binary at o x y) = at

abbrev pub placed : ℕ → Tree → Tree
placed p (number at k) = number p k
placed p (truth at b) = truth p b
placed p (variable at n) = variable p n
placed p (unary at o x) = unary p o x
placed p (binary at o x y) = binary p o x y
