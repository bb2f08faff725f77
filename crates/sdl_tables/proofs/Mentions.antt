-- The contents of the index after the signals of paths were added one by one.
use Rattle.std.proofs.Common.{◌≡◌, ℕ, Bool, true, false, cond, ◌&&◌, ◌||◌, List, [], ◌∷◌, ◌++◌, if◌then◌else◌, fold, map, bytes_eq, refl, sym, ap, ◌∙◌}
use Rattle.std.specs.List.{list_any, flat_map}
use Rattle.std.proofs.lemmas.List.{append-nil, map-append}
use Rattle.std.proofs.lemmas.List.Folds.{list_any-append}
use Rattle.std.proofs.lemmas.List.Sums.{fold-append}
use Rattle.std.proofs.lemmas.Grind.{flat_map-append}
use Rattle.std.proofs.lemmas.Slice.Eq.{bytes_eq-Decides}
use Rattle.std.proofs.Math.Bool.{or-true, or-false, and-true, and-false, or_assoc}
use Rattle.std.specs.Cmp.Lexicographic.{nat_list_eq_equiv}
use Rattle.sdl_ast.specs.Spelling.{folded}
use Rattle.sdl_ast.specs.declared.expression.Identifier.{Identifier}
use Rattle.sdl_ast.specs.declared.tree.Party.{Party}
use Rattle.sdl_ast.specs.declared.tree.Route.{Route}
use Rattle.sdl_ast.specs.Plain.{PlainPath, PlainRoute}
use Rattle.sdl_ast.specs.Views.{route_of}
use denote.Ref.{Bor}
use Rattle.sdl_tables.specs.Names.{same_name, is_in}
use Rattle.sdl_tables.specs.Routes.{same_party, brings, path_receivers, path_senders, add_party, parties_once}
use Rattle.sdl_tables.specs.declared.route_index.Side.{Side}
use Rattle.sdl_tables.specs.declared.route_index.Side.TheVariants as sides
use Rattle.sdl_tables.specs.RouteIndexes.{Mention, mentions_of, turned, is_mention, mention_receivers, receivers_in, same_side, same_end, same_passage, side_of, end_of, passage_of}
use Rattle.sdl_tables.proofs.RouteKeys.{side_same, party_side}

-- ---- truth values

swapped : (a b c : Bool) → (a && (b && c)) ≡ (b && (a && c))
swapped true b c = refl
swapped false true c = refl
swapped false false c = refl

-- ---- sides and parties

same_sides : (x y : Side) → same_side x y ≡ same_side y x
same_sides sides.Environment sides.Environment = refl
same_sides sides.Environment (sides.Process y) = refl
same_sides (sides.Process x) sides.Environment = refl
same_sides (sides.Process x) (sides.Process y) = nat_list_eq_equiv.symm x y

pub side_self : (x : Side) → same_side x x ≡ true
side_self sides.Environment = refl
side_self (sides.Process x) = (bytes_eq-Decides x x).1 refl

sides_of : (p q : Party) → same_party p q ≡ true → side_of p ≡ side_of q
sides_of p q h = side_same (side_of p) (side_of q) (sym (party_side p q) ∙ h)

-- A party has the same relation to two equal parties.
pub party_same : (x p q : Party) → same_party p q ≡ true → same_party x p ≡ same_party x q
party_same x p q h = party_side x p ∙ (ap (λ s. same_side (side_of x) s) (sides_of p q h) ∙ sym (party_side x q))

pub party_self : (p : Party) → same_party p p ≡ true
party_self p = party_side p p ∙ side_self (side_of p)

pub party_turned : (p q : Party) → same_party p q ≡ same_party q p
party_turned p q = party_side p q ∙ (same_sides (side_of p) (side_of q) ∙ sym (party_side q p))

name_same : (x s t : List ℕ) → same_name s t ≡ true → same_name s x ≡ same_name t x
name_same x s t h = ap (λ k. bytes_eq k (folded x)) ((bytes_eq-Decides (folded s) (folded t)).0 h)

-- Two keys of the index are equal exactly if the parties and the signal are the same.
pub passage_mention : (from to p q : Party) (signal s : List ℕ)
    → same_passage (passage_of from to signal) (passage_of p q s) ≡ is_mention p q s (record { from = from; to = to; signal = signal })
passage_mention from to p q signal s =
    let a = same_sides (side_of from) (side_of p) ∙ sym (party_side p from) in
    let b = same_sides (side_of to) (side_of q) ∙ sym (party_side q to) in
    let c = nat_list_eq_equiv.symm (folded signal) (folded s) in
    λ i. a i && (b i && c i)

pub end_mention : (own p : Party) (signal s : List ℕ) → same_end (end_of own signal) (end_of p s) ≡ (same_party p own && same_name s signal)
end_mention own p signal s =
    let a = same_sides (side_of own) (side_of p) ∙ sym (party_side p own) in
    let b = nat_list_eq_equiv.symm (folded signal) (folded s) in
    λ i. a i && b i

-- ---- lists of parties without duplicates

same_among : (ps : List Party) (p q : Party) → same_party p q ≡ true → list_any (same_party p) ps ≡ list_any (same_party q) ps
same_among [] p q h = refl
same_among (x ∷ xs) p q h =
    let one : same_party p x ≡ same_party q x = party_turned p x ∙ (party_same x p q h ∙ party_turned x q) in
    let rest = same_among xs p q h in
    λ i. one i || rest i

covered : (ps : List Party) (q x : Party) → list_any (same_party x) ps ≡ true → (t : Bool) → same_party q x ≡ t
    → list_any (same_party q) ps ≡ (list_any (same_party q) ps || t)
covered ps q x h true e = same_among ps q x e ∙ (h ∙ sym (or-true (list_any (same_party q) ps)))
covered ps q x h false e = sym (or-false (list_any (same_party q) ps))

one_more : (ps : List Party) (x q : Party) (t : Bool) → list_any (same_party x) ps ≡ t
    → list_any (same_party q) (if t then ps else ps ++ x ∷ []) ≡ (list_any (same_party q) ps || same_party q x)
one_more ps x q true h = covered ps q x h (same_party q x) refl
one_more ps x q false h =
    list_any-append (same_party q) ps (x ∷ []) ∙ ap (λ r. list_any (same_party q) ps || r) (or-false (same_party q x))

among_fold : (ps xs : List Party) (q : Party) → list_any (same_party q) (fold add_party ps xs) ≡ (list_any (same_party q) ps || list_any (same_party q) xs)
among_fold ps [] q = sym (or-false (list_any (same_party q) ps))
among_fold ps (x ∷ xs) q =
    among_fold (add_party ps x) xs q
    ∙ (ap (λ r. r || list_any (same_party q) xs) (one_more ps x q (list_any (same_party x) ps) refl)
    ∙ or_assoc (list_any (same_party q) ps) (same_party q x) (list_any (same_party q) xs))

pub add_there : (ps : List Party) (q : Party) → list_any (same_party q) ps ≡ true → add_party ps q ≡ ps
add_there ps q h = ap (λ b. if b then ps else ps ++ q ∷ []) h

pub add_new : (ps : List Party) (q : Party) → list_any (same_party q) ps ≡ false → add_party ps q ≡ ps ++ q ∷ []
add_new ps q h = ap (λ b. if b then ps else ps ++ q ∷ []) h

added_there : (ps : List Party) (q : Party) → list_any (same_party q) (add_party ps q) ≡ true
added_there ps q = one_more ps q q (list_any (same_party q) ps) refl ∙ (ap (λ r. list_any (same_party q) ps || r) (party_self q) ∙ or-true (list_any (same_party q) ps))

add_twice : (ps : List Party) (q : Party) → add_party (add_party ps q) q ≡ add_party ps q
add_twice ps q = add_there (add_party ps q) q (added_there ps q)

-- ---- passages of signals

one_among : (p q to : Party) (a c : Bool) → list_any (same_party q) (if a && c then to ∷ [] else []) ≡ (a && (same_party q to && c))
one_among p q to true true = or-false (same_party q to) ∙ sym (and-true (same_party q to))
one_among p q to true false = sym (and-false (same_party q to))
one_among p q to false c = refl

reached : (ms : List Mention) (p q : Party) (s : List ℕ) → list_any (same_party q) (flat_map (mention_receivers p s) ms) ≡ list_any (is_mention p q s) ms
reached [] p q s = refl
reached (m ∷ ms) p q s =
    list_any-append (same_party q) (mention_receivers p s m) (flat_map (mention_receivers p s) ms)
    ∙ (λ i. one_among p q m.to (same_party p m.from) (same_name s m.signal) i || reached ms p q s i)

-- A party is among the receivers exactly if a path carries the signal to it.
pub is_received : (ms : List Mention) (p q : Party) (s : List ℕ) → list_any (same_party q) (receivers_in ms p s) ≡ list_any (is_mention p q s) ms
is_received ms p q s = among_fold [] (flat_map (mention_receivers p s) ms) q ∙ reached ms p q s

alike : (m : Mention) (p r q : Party) (s t : List ℕ) → same_party p r ≡ true → same_name s t ≡ true → is_mention p q s m ≡ is_mention r q t m
alike m p r q s t e f =
    let one : same_party p m.from ≡ same_party r m.from = party_turned p m.from ∙ (party_same m.from p r e ∙ party_turned m.from r) in
    let last = name_same m.signal s t f in
    λ i. one i && (same_party q m.to && last i)

all_alike : (ms : List Mention) (p r q : Party) (s t : List ℕ) → same_party p r ≡ true → same_name s t ≡ true
    → list_any (is_mention p q s) ms ≡ list_any (is_mention r q t) ms
all_alike [] p r q s t e f = refl
all_alike (m ∷ ms) p r q s t e f = λ i. alike m p r q s t e f i || all_alike ms p r q s t e f i

receivers_push : (ms : List Mention) (m : Mention) (p : Party) (s : List ℕ) → receivers_in (ms ++ m ∷ []) p s ≡ fold add_party (receivers_in ms p s) (mention_receivers p s m)
receivers_push ms m p s =
    ap (λ l. fold add_party [] l) (flat_map-append (mention_receivers p s) ms (m ∷ []) ∙ ap (λ r. flat_map (mention_receivers p s) ms ++ r) (append-nil (mention_receivers p s m)))
    ∙ fold-append add_party [] (flat_map (mention_receivers p s) ms) (mention_receivers p s m)

-- Adds a signal whose passage is new.
pub receivers_new : (ms : List Mention) (m : Mention) (p : Party) (s : List ℕ) → list_any (is_mention m.from m.to m.signal) ms ≡ false
    → receivers_in (ms ++ m ∷ []) p s ≡ receivers_in ms p s ++ (if same_party p m.from && same_name s m.signal then m.to ∷ [] else [])
receivers_new ms m p s h = receivers_push ms m p s ∙ by_test (same_party p m.from) (same_name s m.signal) refl refl
  where
    by_test : (a c : Bool) → same_party p m.from ≡ a → same_name s m.signal ≡ c
        → fold add_party (receivers_in ms p s) (if a && c then m.to ∷ [] else []) ≡ receivers_in ms p s ++ (if a && c then m.to ∷ [] else [])
    by_test true true e f = add_new (receivers_in ms p s) m.to (is_received ms p m.to s ∙ (all_alike ms p m.from m.to s m.signal e f ∙ h))
    by_test true false e f = sym (append-nil (receivers_in ms p s))
    by_test false c e f = sym (append-nil (receivers_in ms p s))

-- Adds a signal whose passage is already known.
pub receivers_known : (ms : List Mention) (m : Mention) (p : Party) (s : List ℕ) → list_any (is_mention m.from m.to m.signal) ms ≡ true
    → receivers_in (ms ++ m ∷ []) p s ≡ receivers_in ms p s
receivers_known ms m p s h = receivers_push ms m p s ∙ by_test (same_party p m.from) (same_name s m.signal) refl refl
  where
    by_test : (a c : Bool) → same_party p m.from ≡ a → same_name s m.signal ≡ c
        → fold add_party (receivers_in ms p s) (if a && c then m.to ∷ [] else []) ≡ receivers_in ms p s
    by_test true true e f = add_there (receivers_in ms p s) m.to (is_received ms p m.to s ∙ (all_alike ms p m.from m.to s m.signal e f ∙ h))
    by_test true false e f = refl
    by_test false c e f = refl

-- Reversed mentions.
pub turned_any : (ms : List Mention) (p q : Party) (s : List ℕ) → list_any (is_mention q p s) (map turned ms) ≡ list_any (is_mention p q s) ms
turned_any [] p q s = refl
turned_any (m ∷ ms) p q s = λ i. swapped (same_party q m.to) (same_party p m.from) (same_name s m.signal) i || turned_any ms p q s i

pub carried_push : (ms : List Mention) (m : Mention) (p q : Party) (s : List ℕ) (old new : Bool) → old ≡ list_any (is_mention p q s) ms
    → new ≡ cond (same_passage (passage_of m.from m.to m.signal) (passage_of p q s)) true old → new ≡ list_any (is_mention p q s) (ms ++ m ∷ [])
carried_push ms m p q s old new h e =
    e
    ∙ (ap (λ t. cond t true old) (passage_mention m.from m.to p q m.signal s)
    ∙ (either (is_mention p q s m) old
    ∙ (ap (λ r. r || is_mention p q s m) h
    ∙ (ap (λ r. list_any (is_mention p q s) ms || r) (sym (or-false (is_mention p q s m)))
    ∙ sym (list_any-append (is_mention p q s) ms (m ∷ []))))))
  where
    either : (t old : Bool) → cond t true old ≡ (old || t)
    either true old = sym (or-true old)
    either false old = sym (or-false old)

-- ---- the paths

any_signal : (ids : List Identifier) (p q from to : Party) (s : List ℕ)
    → list_any (is_mention p q s) (map (λ (id : Identifier). record { from = from; to = to; signal = id.name }) ids) ≡ (same_party p from && (same_party q to && is_in ids s))
any_signal [] p q from to s = by_test (same_party p from) (same_party q to)
  where
    by_test : (a b : Bool) → false ≡ (a && (b && false))
    by_test true true = refl
    by_test true false = refl
    by_test false b = refl
any_signal (id ∷ ids) p q from to s =
    ap (λ r. is_mention p q s (record { from = from; to = to; signal = id.name }) || r) (any_signal ids p q from to s)
    ∙ by_test (same_party p from) (same_party q to) (same_name s id.name) (is_in ids s)
  where
    by_test : (a b c d : Bool) → ((a && (b && c)) || (a && (b && d))) ≡ (a && (b && (c || d)))
    by_test true true c d = refl
    by_test true false c d = refl
    by_test false b c d = refl

pub any_path : (paths : List PlainPath) (p q : Party) (s : List ℕ) → list_any (is_mention p q s) (flat_map mentions_of paths) ≡ list_any (brings p q s) paths
any_path [] p q s = refl
any_path (path ∷ paths) p q s =
    list_any-append (is_mention p q s) (mentions_of path) (flat_map mentions_of paths)
    ∙ (λ i. any_signal path.signals p q path.from path.to s i || any_path paths p q s i)

signal_receivers : (ids : List Identifier) (ps : List Party) (p from to : Party) (s : List ℕ)
    → fold add_party ps (flat_map (mention_receivers p s) (map (λ (id : Identifier). record { from = from; to = to; signal = id.name }) ids))
    ≡ fold add_party ps (if same_party p from && is_in ids s then to ∷ [] else [])
signal_receivers [] ps p from to s = by_test (same_party p from)
  where
    by_test : (a : Bool) → ps ≡ fold add_party ps (if a && false then to ∷ [] else [])
    by_test true = refl
    by_test false = refl
signal_receivers (id ∷ ids) ps p from to s =
    let m : Mention = record { from = from; to = to; signal = id.name } in
    fold-append add_party ps (mention_receivers p s m) (flat_map (mention_receivers p s) (map (λ (id : Identifier). record { from = from; to = to; signal = id.name }) ids))
    ∙ (signal_receivers ids (fold add_party ps (mention_receivers p s m)) p from to s
    ∙ by_test (same_party p from) (same_name s id.name) (is_in ids s))
  where
    by_test : (a c d : Bool) → fold add_party (fold add_party ps (if a && c then to ∷ [] else [])) (if a && d then to ∷ [] else [])
        ≡ fold add_party ps (if a && (c || d) then to ∷ [] else [])
    by_test true true true = add_twice ps to
    by_test true true false = refl
    by_test true false d = refl
    by_test false c d = refl

paths_receivers : (paths : List PlainPath) (ps : List Party) (p : Party) (s : List ℕ)
    → fold add_party ps (flat_map (mention_receivers p s) (flat_map mentions_of paths)) ≡ fold add_party ps (flat_map (path_receivers p s) paths)
paths_receivers [] ps p s = refl
paths_receivers (path ∷ paths) ps p s =
    ap (fold add_party ps) (flat_map-append (mention_receivers p s) (mentions_of path) (flat_map mentions_of paths))
    ∙ (fold-append add_party ps (flat_map (mention_receivers p s) (mentions_of path)) (flat_map (mention_receivers p s) (flat_map mentions_of paths))
    ∙ (ap (λ l. fold add_party l (flat_map (mention_receivers p s) (flat_map mentions_of paths))) (signal_receivers path.signals ps p path.from path.to s)
    ∙ (paths_receivers paths (fold add_party ps (path_receivers p s path)) p s
    ∙ sym (fold-append add_party ps (path_receivers p s path) (flat_map (path_receivers p s) paths)))))

-- The parties in the index are those of the block's paths.
pub path_parties : (paths : List PlainPath) (p : Party) (s : List ℕ) → receivers_in (flat_map mentions_of paths) p s ≡ parties_once (flat_map (path_receivers p s) paths)
path_parties paths p s = paths_receivers paths [] p s

abbrev turned_path : PlainPath → PlainPath
turned_path path = record { from = path.to; to = path.from; signals = path.signals }

turned_signals : (ids : List Identifier) (from to : Party) → map turned (map (λ (id : Identifier). record { from = from; to = to; signal = id.name }) ids)
    ≡ map (λ (id : Identifier). record { from = to; to = from; signal = id.name }) ids
turned_signals [] from to = refl
turned_signals (id ∷ ids) from to = ap (λ l. record { from = to; to = from; signal = id.name } ∷ l) (turned_signals ids from to)

turned_mentions : (paths : List PlainPath) → map turned (flat_map mentions_of paths) ≡ flat_map mentions_of (map turned_path paths)
turned_mentions [] = refl
turned_mentions (path ∷ paths) =
    map-append turned (mentions_of path) (flat_map mentions_of paths)
    ∙ (λ i. turned_signals path.signals path.from path.to i ++ turned_mentions paths i)

turned_senders : (paths : List PlainPath) (p : Party) (s : List ℕ) → flat_map (path_receivers p s) (map turned_path paths) ≡ flat_map (path_senders p s) paths
turned_senders [] p s = refl
turned_senders (path ∷ paths) p s = ap (λ l. path_senders p s path ++ l) (turned_senders paths p s)

pub path_sources : (paths : List PlainPath) (p : Party) (s : List ℕ) → receivers_in (map turned (flat_map mentions_of paths)) p s ≡ parties_once (flat_map (path_senders p s) paths)
path_sources paths p s =
    ap (λ ms. receivers_in ms p s) (turned_mentions paths)
    ∙ (path_parties (map turned_path paths) p s ∙ ap parties_once (turned_senders paths p s))

-- The mentions of one more route.
pub routes_more : (rs : List (Bor Route)) (r : Bor Route)
    → flat_map mentions_of (flat_map (λ x. x.paths) (map (λ x. route_of x.now) (rs ++ r ∷ [])))
    ≡ flat_map mentions_of (flat_map (λ x. x.paths) (map (λ x. route_of x.now) rs)) ++ flat_map mentions_of (route_of r.now).paths
routes_more rs r =
    let old = map (λ (x : Bor Route). route_of x.now) rs in
    ap (λ l. flat_map mentions_of (flat_map (λ x. x.paths) l)) (map-append (λ (x : Bor Route). route_of x.now) rs (r ∷ []))
    ∙ (ap (flat_map mentions_of) (flat_map-append (λ (x : PlainRoute). x.paths) old (route_of r.now ∷ []))
    ∙ (flat_map-append mentions_of (flat_map (λ x. x.paths) old) (flat_map (λ x. x.paths) (route_of r.now ∷ []))
    ∙ ap (λ l. flat_map mentions_of (flat_map (λ x. x.paths) old) ++ flat_map mentions_of l) (append-nil (route_of r.now).paths)))
