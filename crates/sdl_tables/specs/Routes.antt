-- The receivers and the possible senders of a signal: the parties to which, and from which, paths
-- of routes carry it. A path carries its signals only in the direction in which it is written.
-- (Z.100: signal routes, output.)
use Rattle.std.specs.Prelude.{ℕ, Bool, true, false, ◌&&◌, List, [], ◌∷◌, ◌++◌, if◌then◌else◌, fold}
use Rattle.std.specs.List.{list_any, flat_map}
use Rattle.sdl_ast.specs.declared.tree.Party.{Party}
use Rattle.sdl_ast.specs.declared.tree.Party.TheVariants.{Environment, Process}
use Rattle.sdl_ast.specs.Plain.{PlainPath, PlainBlock}
use Rattle.sdl_tables.specs.Names.{same_name, is_in, routes_of}

-- two spellings of one party
abbrev pub same_party : Party → Party → Bool
same_party Environment Environment = true
same_party Environment (Process y) = false
same_party (Process x) Environment = false
same_party (Process x) (Process y) = same_name x.name y.name

-- every path of every route, in the order of the text
abbrev pub paths_of : PlainBlock → List PlainPath
paths_of b = flat_map (λ r. r.paths) (routes_of b)

-- the path carries signal s from one party to another
abbrev pub brings : Party → Party → List ℕ → PlainPath → Bool
brings from to s path = same_party from path.from && (same_party to path.to && is_in path.signals s)

-- some path carries signal s from one party to another
abbrev pub carries : PlainBlock → Party → Party → List ℕ → Bool
carries b from to s = list_any (brings from to s) (paths_of b)

-- the party to which a path carries signal s from a party, if it does
abbrev pub path_receivers : Party → List ℕ → PlainPath → List Party
path_receivers from s path =
    if same_party from path.from && is_in path.signals s then path.to ∷ [] else []

-- the party from which a path carries signal s to a party, if it does
abbrev pub path_senders : Party → List ℕ → PlainPath → List Party
path_senders to s path =
    if same_party to path.to && is_in path.signals s then path.from ∷ [] else []

-- appends a party, unless it is in the list
abbrev pub add_party : List Party → Party → List Party
add_party parties q = if list_any (same_party q) parties then parties else parties ++ q ∷ []

-- the parties without duplicates
abbrev pub parties_once : List Party → List Party
parties_once parties = fold add_party [] parties

-- the parties to which some path carries signal s from a party, without duplicates
abbrev pub receivers : PlainBlock → Party → List ℕ → List Party
receivers b from s = parties_once (flat_map (path_receivers from s) (paths_of b))

-- the parties from which some path carries signal s to a party, once for each such path
abbrev pub senders : PlainBlock → Party → List ℕ → List Party
senders b to s = flat_map (path_senders to s) (paths_of b)
