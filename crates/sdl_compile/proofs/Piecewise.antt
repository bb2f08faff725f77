-- The counts at the places of a whole piece: each place counts its own instruction and the greatest count where the
-- code goes on, and the first place counts the longest path.
use Rattle.std.proofs.Common.{◌≡◌, ℕ, zero, suc, ◌+◌, ◌<◌, ◌≤◌, ⊎_elim, false, List, [], ◌∷◌, ◌++◌, length, map, Option, Some, None, IsSome, refl, sym, ap, ◌∙◌, subst, arith}
use Rattle.std.specs.Prelude.{slice_get, Contains}
use Rattle.std.specs.List.{sum_by}
use Rattle.std.proofs.lemmas.Bool.{cases_lt}
use Rattle.sdl_ast.specs.declared.expression.Identifier.{Identifier}
use Rattle.sdl_ast.specs.declared.tree.Join as tree_join
use Rattle.sdl_ast.specs.Plain.{Tree, number, truth, variable, unary, binary, Text, falls, ends, does, decides, PlainConnection}
use Rattle.sdl_ast.specs.declared.tree.End.{End}
use Rattle.sdl_ast.specs.declared.tree.End.TheVariants.{NextState, Stop, Join}
use Rattle.turn_code.specs.declared.instruction.Instruction.{Instruction}
use Rattle.turn_code.specs.Code.{successors}
use Rattle.turn_code.specs.Rules.{greatest}
use Rattle.sdl_tables.specs.Names.{Variable, variables_of}
use Rattle.sdl_sound.specs.Going.{goes_on as may_go_on}
use Rattle.sdl_sound.specs.Statements.{joins_of}
use Rattle.sdl_sound.specs.Longest.{cost_of, end_cost, Piece, size, joined as measure_joined}
use Rattle.sdl_meaning.specs.Outcomes.{Scope, connector_at}
use Rattle.sdl_meaning.specs.Named.{NamedText, NamedConnections, NamedPiece}
use Rattle.sdl_meaning.specs.Code.{number_or_zero, text_code, places_code, text_at, size_at, code_joins, joined, ArePlaced, place_in, connections_code, text_place, connections_place, piece_code}
use Rattle.sdl_compile.specs.PlaceCounts.{number_at, read_at, AreCounts, AreCountsFrom}
use Rattle.sdl_compile.proofs.Straight.{AreSteps}
use Rattle.sdl_meaning.proofs.Sizes.{places_size, text_size_is}
use Rattle.sdl_meaning.proofs.RunParts.{HasAt, has_front, has_back, has_all}
use Rattle.sdl_meaning.proofs.Branches.{EachJoin}
use Rattle.sdl_meaning.proofs.Joining.{HasConnection, contains_map, has_connection, each_join}
use Rattle.turn_code.proofs.Lists.{first_of as contains_first, within as none_past}
use Rattle.sdl_meaning.proofs.Acts.{joined_placed, placed_closed, connection_stands}
use Rattle.sdl_compile.proofs.Counting.{IsWeight, tally, tally_over}
use Rattle.sdl_compile.proofs.Tallies.{steps_count, text_count}
use Rattle.sdl_compile.proofs.Ahead.{Goes, AllOf, goes_append, steps_go, text_goes, at_place}
use Rattle.sdl_compile.proofs.Passes.{read_ahead, read_back}
use Rattle.sdl_meaning.proofs.Measured.{all_placed, fixed, each_of, each_named}
use Rattle.sdl_emit.proofs.Gathering.{text_there}

pub places_steps : (c : Scope) (j : ℕ) (places : List (Option Identifier)) → AreSteps (places_code c j places)
places_steps c j [] = tt
places_steps c j (None ∷ rest) = places_steps c (j + 1) rest
places_steps c j (Some n ∷ rest) =
    (record { jumping = refl; going = λ k. refl }, (record { jumping = refl; going = λ k. refl }, places_steps c (j + 1) rest))

-- A text that doesn't run off its end has some code.
pub cost_some : (t : Tree) → 1 ≤ cost_of t
cost_some (number at k) = omega arith
cost_some (truth at b) = omega arith
cost_some (variable at n) = omega arith
cost_some (unary at op t) = omega arith
cost_some (binary at op t u) = omega arith

end_some : (e : End) → 1 ≤ end_cost e
end_some (NextState n) = omega arith
end_some (Stop at) = omega arith
end_some (Join j) = omega arith

pub size_some : (c : Scope) (t : Text) → may_go_on t ≡ false → 1 ≤ size (variables_of c.process) t
size_some c falls e = absurd (let k : ⊥ = cc in k)
size_some c (ends t) e = end_some t
size_some c (does a rest) e = let h = size_some c rest e in omega (arith, h)
size_some c (decides at q choice rest) e = let h = cost_some q in omega (arith, h)

has_within : (code : List Instruction) (pc : ℕ) (l : List Instruction) → HasAt code pc l → 1 ≤ length l → pc < length code
has_within code pc [] h le = absurd (omega (arith, le))
has_within code pc (x ∷ l) h le = none_past code pc x h.0

-- A count, with its value for a text that nothing follows.
module _ (c : Scope) (w : Instruction → ℕ) (a : ℕ) (weighs : IsWeight c w a) (measure : List Variable → (List ℕ → ℕ) → Text → ℕ)
    (same : (f g : List ℕ → ℕ) (t : Text) → EachJoin (λ (j : tree_join.Join). f j.connector.name ≡ g j.connector.name) t → measure (variables_of c.process) f t ≡ measure (variables_of c.process) g t)
    (tallies : (join : List ℕ → ℕ) (t : Text) → NamedText c t → tally c w a join t 0 ≡ measure (variables_of c.process) join t) where
  abbrev join : List ℕ → ℕ
  join = measure_joined measure c.process

  -- The count of the connection with this number.
  abbrev pub counts_of : ℕ → ℕ
  counts_of n = measure (variables_of c.process) join (text_at c n)

  pub join_is : (connections : NamedConnections c) (id : Identifier) (h : HasConnection c id) → join id.name ≡ counts_of (number_or_zero (connector_at c id))
  join_is connections id h =
      fixed c connections measure same (number_or_zero (connector_at c id)) id.name h.connection h.there h.named
      ∙ ap (measure (variables_of c.process) join) (sym (text_there c (number_or_zero (connector_at c id)) h.connection h.there))

  module _ (q : Piece) (ns : List ℕ) (placed : ArePlaced c q.text ns) (named : NamedPiece c q) (code known counts : List _) (is : code ≡ piece_code c q ns) (from : AreCountsFrom w known code counts)
      (at : (n : ℕ) → Contains ns n → number_at known (place_in c (connections_place c q) ns n) ≡ counts_of n) where
    abbrev to : ℕ → ℕ
    to = place_in c (connections_place c q) ns

    abbrev v : ℕ → ℕ
    v = number_at counts

    abbrev r : ℕ → ℕ → ℕ
    r = read_at known counts

    abbrev head : List Instruction
    head = places_code c 0 q.places

    abbrev body : List Instruction
    body = text_code c to (text_place q) q.text

    abbrev others : List Instruction
    others = connections_code c to (connections_place c q) ns

    stands : HasAt code 0 (head ++ (body ++ others))
    stands = subst (λ l. HasAt l 0 (head ++ (body ++ others))) (sym is) (has_all (head ++ (body ++ others)) [])

    stands_text : HasAt code (text_place q) (body ++ others)
    stands_text = has_back code 0 head (body ++ others) (text_place q) (omega (arith, places_size c 0 q.places)) stands

    stands_others : HasAt code (connections_place c q) others
    stands_others = has_back code (text_place q) body others (connections_place c q) (omega (arith, text_size_is c to (text_place q) q.text)) stands_text

    connection_has : (n : ℕ) → Contains ns n → HasAt code (to n) (text_code c to (to n) (text_at c n))
    connection_has n h = connection_stands c code to ns (connections_place c q) n stands_others h

    -- each placed number has a connection
    record HasText (n : ℕ) : Type 0 where
      connection : PlainConnection
      there : slice_get c.process.connections n ≡ Some connection

    has_text : (n : ℕ) → Contains ns n → HasText n
    has_text n h = all_placed c q.text ns placed HasText
        (λ j at. let w = has_connection c j.connector (each_of c (λ (j : tree_join.Join). IsSome (connector_at c j.connector)) q.text j (each_named c q.text named.text.text) at) in record { connection = w.connection; there = w.there })
        (λ n h j at.
        let k = h.connection in
        let e = text_there c n k h.there in
        let x = (named.connections.texts n k h.there).text in
        let w = has_connection c j.connector (each_of c (λ (j : tree_join.Join). IsSome (connector_at c j.connector)) k.text j (each_named c k.text x) (subst (λ t. Contains (code_joins c t) j) e at)) in
        record { connection = w.connection; there = w.there }) n h

    named_at : (n : ℕ) → Contains ns n → NamedText c (text_at c n)
    named_at n h = let w = has_text n h in subst (NamedText c) (sym (text_there c n w.connection w.there)) (named.connections.texts n w.connection w.there).text

    ended_at : (n : ℕ) → Contains ns n → may_go_on (text_at c n) ≡ false
    ended_at n h = let w = has_text n h in subst (λ t. may_go_on t ≡ false) (sym (text_there c n w.connection w.there)) (named.connections.texts n w.connection w.there).ended

    -- The count of a text, if its JOINs read the counts of the places to which they lead.
    text_counts : (t : Text) (pc end : ℕ) → HasAt code pc (text_code c to pc t) → pc + size (variables_of c.process) t ≡ end → NamedText c t → may_go_on t ≡ false
        → ((j : tree_join.Join) → Contains (joins_of t) j → Contains (code_joins c t) j → IsSome (connector_at c j.connector) → (k : ℕ) → pc ≤ k → r k (to (number_or_zero (connector_at c j.connector))) ≡ join j.connector.name)
        → v pc ≡ measure (variables_of c.process) join t
    text_counts t pc end has e named_t ended lands =
        text_count code w v r (λ k j lt. read_ahead known counts k j lt) (λ k x here. from.each k x here) c a weighs to join pc t pc end has e (omega arith) named_t
        (each_join c (λ (j : tree_join.Join). (k : ℕ) → pc ≤ k → r k (to (number_or_zero (connector_at c j.connector))) ≡ join j.connector.name) t named_t lands)
        ∙ tally_over c w a join t (v end) 0 ended ∙ tallies join t named_t

    -- A connection's count at its place is its measure. The proof goes from the end of the code back.
    counted_at : (b n : ℕ) → Contains ns n → length code ≤ to n + b → v (to n) ≡ counts_of n
    counted_at zero n h far = absurd (let e = ended_at n h in inside n h e far)
      where
        inside : (n : ℕ) → Contains ns n → may_go_on (text_at c n) ≡ false → length code ≤ to n + 0 → ⊥
        inside n h e far =
            let has = connection_has n h in
            let s = size_some c (text_at c n) e in
            let l = text_size_is c to (to n) (text_at c n) in
            let f = has_within code (to n) (text_code c to (to n) (text_at c n)) has (omega (arith, s, l)) in
            omega (arith, f, far)
    counted_at (suc b) n h far =
        text_counts (text_at c n) (to n) (to n + size (variables_of c.process) (text_at c n)) (connection_has n h) refl (named_at n h) (ended_at n h)
        (λ j x y some k le.
        let m = number_or_zero (connector_at c j.connector) in
        let there = placed_closed c q.text ns placed n m h (contains_map (λ (j : tree_join.Join). number_or_zero (connector_at c j.connector)) (code_joins c (text_at c n)) j y) in
        let is = join_is named.connections j.connector (has_connection c j.connector some) in
        ⊎_elim (λ (lt : k < to m). read_ahead known counts k (to m) lt ∙ counted_at b m there (omega (arith, lt, le, far)) ∙ sym is)
        (λ ge. read_back known counts k (to m) (let f : to m ≤ k = omega (arith, ge) in f) ∙ at m there ∙ sym is)
        (cases_lt k (to m)))

    pub connection_counts : (n : ℕ) → Contains ns n → v (to n) ≡ counts_of n
    connection_counts n h = counted_at (length code) n h (omega arith)

    reads_join : (j : tree_join.Join) (m : ℕ) → m ≡ number_or_zero (connector_at c j.connector) → Contains ns m → (k : ℕ) → r k (to m) ≡ v (to m)
    reads_join j m e there k =
        ⊎_elim (λ (lt : k < to m). read_ahead known counts k (to m) lt)
        (λ ge. read_back known counts k (to m) (let f : to m ≤ k = omega (arith, ge) in f) ∙ at m there ∙ sym (connection_counts m there))
        (cases_lt k (to m))

    -- The first place counts the whole piece.
    pub first_counts : v 0 ≡ sum_by w head + measure (variables_of c.process) join q.text
    first_counts =
        let start = steps_count code w v r (λ k j lt. read_ahead known counts k j lt) (λ k x here. from.each k x here) head 0 (text_place q) (has_front code 0 head (body ++ others) stands) (places_steps c 0 q.places) (omega (arith, places_size c 0 q.places)) in
        let text = text_counts q.text (text_place q) (connections_place c q) (has_front code (text_place q) body others stands_text) refl named.text.text named.text.ended
        (λ j x y some k le.
        let m = number_or_zero (connector_at c j.connector) in
        let there = joined_placed c q.text ns placed m (contains_map (λ (j : tree_join.Join). number_or_zero (connector_at c j.connector)) (code_joins c q.text) j y) in
        reads_join j m refl there k ∙ connection_counts m there ∙ sym (join_is named.connections j.connector (has_connection c j.connector some))) in
        start ∙ ap (λ n. sum_by w head + n) text

    -- Each place reads the count of the place where it goes on.
    abbrev Reads : ℕ → ℕ → Type 0
    Reads k j = r k j ≡ v j

    ahead : (k j : ℕ) → k < j → Reads k j
    ahead k j lt = read_ahead known counts k j lt

    text_reads : (t : Text) (pc : ℕ) → NamedText c t → ((m : ℕ) → Contains (joined c t) m → Contains ns m) → Goes Reads ahead pc (text_code c to pc t)
    text_reads t pc named_t there =
        text_goes Reads ahead c to pc t pc (omega arith)
        (each_join c (λ (j : tree_join.Join). (k : ℕ) → pc ≤ k → Reads k (to (number_or_zero (connector_at c j.connector)))) t named_t
        (λ j x y some k le. let m = number_or_zero (connector_at c j.connector) in
        reads_join j m refl (there m (contains_map (λ (j : tree_join.Join). number_or_zero (connector_at c j.connector)) (code_joins c t) j y)) k))

    others_read : (ms : List ℕ) (pc : ℕ) → ((m : ℕ) → Contains ms m → Contains ns m) → Goes Reads ahead pc (connections_code c to pc ms)
    others_read [] pc among = tt
    others_read (m ∷ ms) pc among =
        let here = among m (contains_first m ms) in
        goes_append Reads ahead (text_code c to pc (text_at c m)) (connections_code c to (pc + size_at c m) ms) pc (pc + size_at c m) (omega (arith, text_size_is c to pc (text_at c m)))
        (text_reads (text_at c m) pc (named_at m here) (λ k h. placed_closed c q.text ns placed m k here h))
        (others_read ms (pc + size_at c m) (λ k h. among k (suc h.0, omega (arith, h.1), h.2)))

    all_read : Goes Reads ahead 0 code
    all_read =
        subst (Goes Reads ahead 0) (sym is)
        (goes_append Reads ahead head (body ++ others) 0 (text_place q) (omega (arith, places_size c 0 q.places)) (steps_go Reads ahead head 0 (places_steps c 0 q.places))
        (goes_append Reads ahead body others (text_place q) (connections_place c q) (omega (arith, text_size_is c to (text_place q) q.text))
        (text_reads q.text (text_place q) named.text.text (λ m h. joined_placed c q.text ns placed m h))
        (others_read ns (connections_place c q) (λ m h. h))))

    reads_same : (k : ℕ) (js : List ℕ) → AllOf Reads ahead k js → greatest (map (r k) js) ≡ greatest (map v js)
    reads_same k [] h = refl
    reads_same k (j ∷ js) h = let e = h.0 in let f = reads_same k js h.1 in omega (arith, e, f)

    pub are_counts : AreCounts w code counts
    are_counts = record {
      length = from.length;
      each = λ k x here. from.each k x here ∙ ap (λ n. w x + n) (reads_same k (successors x k) (let z : 0 + k ≡ k = omega arith in subst (λ k. AllOf Reads ahead k (successors x k)) z (at_place Reads ahead code 0 k x all_read here)));
    }
