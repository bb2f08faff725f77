-- Zero insertion (Q.703, 3.2). A history is a list of bits with the newest one first.
use Rattle.std.specs.Prelude.{ℕ, suc, ◌==◌, Bool, true, false, if◌then◌else◌, List, [], ◌∷◌}
use Rattle.std.specs.Prelude.{reverse}

-- the number of 1s in a row among the newest bits
unfoldable pub trailing : List Bool → ℕ
trailing [] = 0
trailing (true ∷ h) = suc (trailing h)
trailing (false ∷ h) = 0

-- a 0 is inserted after five 1s in a row
unfoldable pub with_zero : List Bool → List Bool
with_zero h = if trailing h == 5 then false ∷ h else h

-- the line bits of these bits, both as histories
unfoldable pub stuffed : List Bool → List Bool
stuffed [] = []
stuffed (b ∷ h) = with_zero (b ∷ stuffed h)

-- the line bits of these bits, both in order of sending
abbrev pub stuffing_of : List Bool → List Bool
stuffing_of bits = reverse (stuffed (reverse bits))

-- a history of line bits without each 0 after five 1s in a row
unfoldable pub taken_out : List Bool → List Bool
taken_out [] = []
taken_out (true ∷ h) = true ∷ taken_out h
taken_out (false ∷ h) = if trailing h == 5 then taken_out h else false ∷ taken_out h
