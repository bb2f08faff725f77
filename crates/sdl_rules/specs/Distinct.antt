-- Senders, with each party only once.
use Rattle.std.specs.Prelude.{◌≡◌, ℕ, Bool, true, false, List, [], ◌∷◌, ◌++◌, Option, None, Some}
use Rattle.std.specs.Prelude.{if◌then◌else◌, nat_eq, fold}
use Rattle.std.specs.List.{list_any}
use Rattle.std.specs.Option.{option_map_or}
use Rattle.std.specs.Global.{Vec}
use Rattle.sdl_tables.specs.Routes.{same_party}
use Rattle.sdl_scopes.specs.Reaches.{is_marked}
use Rattle.sdl_scopes.specs.declared.sender.Sender.{Sender}
use Rattle.sdl_scopes.specs.declared.sender.Sender.TheVariants.{Nobody, Party}

-- Whether two parties have the same number, or neither has one and they have the same name.
abbrev pub same_numbers : Option ℕ → Option ℕ → Bool → Bool
same_numbers (Some m) (Some n) named = nat_eq m n
same_numbers (Some m) None named = false
same_numbers None (Some n) named = false
same_numbers None None named = named

abbrev pub same_sender : Sender → Sender → Bool
same_sender Nobody Nobody = true
same_sender Nobody (Party y) = false
same_sender (Party x) Nobody = false
same_sender (Party x) (Party y) = same_numbers x.number y.number (same_party x.party y.party)

abbrev pub has_sender : List Sender → Sender → Bool
has_sender xs y = list_any (λ x. same_sender x y) xs

-- the number of a sender, if it is a party that has one
abbrev pub sender_number : Sender → Option ℕ
sender_number Nobody = None
sender_number (Party x) = x.number

-- whether a sender has this number
abbrev pub has_number : ℕ → Sender → Bool
has_number n x = option_map_or (λ m. nat_eq m n) (sender_number x) false

-- Exactly the numbers of these senders have a mark.
abbrev pub HaveMarks : List Sender → List Bool → Type 0
HaveMarks xs marks = (n : ℕ) → is_marked marks n ≡ list_any (has_number n) xs

-- Adds a sender, unless it is there.
abbrev pub add_sender : List Sender → Sender → List Sender
add_sender xs y = if has_sender xs y then xs else xs ++ y ∷ []

-- The senders of some rows, each only once.
abbrev pub distinct : List (Vec Sender) → List Sender
distinct rows = fold (λ xs (row : Vec Sender). fold add_sender xs row.items) [] rows
