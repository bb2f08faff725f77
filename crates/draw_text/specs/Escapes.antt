-- Characters with a special meaning in Graphviz or XML, as entities (XML 1.0, 2.4 and 4.6).
use Rattle.std.specs.Prelude.{ℕ, List, [], ◌∷◌, codes, ◌==◌, if◌then◌else◌}
use Rattle.std.specs.List.{flat_map}

-- a byte as it is written: `&`, `<`, `>` and `"` as entities, every other byte unchanged
abbrev pub entity : ℕ → List ℕ
entity b =
    if b == 38 then codes "&amp;" else
    if b == 60 then codes "&lt;" else
    if b == 62 then codes "&gt;" else
    if b == 34 then codes "&quot;" else b ∷ []

abbrev pub escaped : List ℕ → List ℕ
escaped bytes = flat_map entity bytes
