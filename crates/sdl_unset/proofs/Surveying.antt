-- What is known of all processes, one after another.
use Rattle.std.proofs.Common.{◌≡◌, ℕ, zero, suc, ◌+◌, ◌<◌, ◌≤◌, Bool, true, false, nat_lt, cond, List, [], ◌∷◌, ◌++◌, map, length, take, Option, None, Some, find, refl, sym, ap, ◌∙◌, subst, arith, get_or, inl, inr, ◌⊎◌}
use Rattle.std.specs.Prelude.{slice_get, Contains, All, IfSome}
use Rattle.std.specs.List.{AllZip, flat_map, list_any}
use Rattle.std.specs.Global.{Vec}
use Rattle.std.specs.Option.{option_map, option_map_or}
use Rattle.std.proofs.lemmas.List.{length-map, take_more, map-append, append_assoc}
use Rattle.std.proofs.lemmas.List.Elements.{All-contains, All-push}
use Rattle.std.proofs.lemmas.Bool.Decides.{leb_tells}
use Rattle.std.proofs.lemmas.Option.{slice_get-get_or, slice_get_within, slice_get-map}
use Rattle.sdl_ast.specs.declared.tree.Process as the_process
use Rattle.sdl_ast.specs.Plain.{PlainProcess, PlainBlock}
use Rattle.sdl_ast.specs.Views.{process_of}
use Rattle.sdl_tables.specs.Names.{processes_of, variables_of, variable_names, routes_of}
use Rattle.sdl_sound.specs.Limits.{exceeds, later_limits, first_limit}
use Rattle.sdl_sound.specs.Names.{process_unknown, unknown_names, route_unknown}
use Rattle.sdl_sound.specs.Actions.{in_statements}
use Rattle.sdl_sound.specs.Decisions.{statement_unanswered, unanswered}
use Rattle.sdl_sound.specs.Orders.{IsOrder, AreOrders}
use Rattle.sdl_sound.specs.Refusals.{IsWithin}
use Rattle.sdl_sound.specs.Paths.{ReadsUnset, IsShortest, AreLonger, IsFirstWith, NeverReadsUnset}
use Rattle.sdl_unset.specs.Surveys.{IsUnset}
use Rattle.sdl_unset.specs.declared.settled.Unset.{Unset}
use Rattle.sdl_sound.specs.declared.fault.Limit.TheVariants.{Processes, States, Variables, Timers, Signals, Params, Pieces}
use Rattle.plain_laws.proofs.Lists.{append-nil_right}
use Rattle.sdl_unset.proofs.Numbers.{none_at, numbered_path}
use Rattle.sdl_unset.proofs.TextOrder.{all_named, not_after_names}
use Rattle.sdl_unset.specs.Order.{NotAfter}
use Rattle.sdl_unset.proofs.Orders.{no_longer, not_after_trans}
use Rattle.sdl_sound.specs.PathOrder.{IsFirst}
use Rattle.sdl_unset.proofs.PathNames.{named_reads, steps_there}
use Rattle.sdl_unset.proofs.Spelling.{spelling_at, declared_steps}
use Rattle.sdl_unset.specs.Fates.{IsFate, AreFates, IsUnsetAt, path_of, fate_path, HasFirst, IsStep, IsNamed, IsSpelled}
use Rattle.sdl_sound.specs.Spellings.{AreDeclared}
use Rattle.sdl_sound.specs.declared.fault.Step.{Step}
use Rattle.sdl_ast.specs.declared.expression.Identifier.{Identifier}
use Rattle.sdl_unset.specs.declared.paths.Fate.{Fate}
use Rattle.sdl_unset.specs.declared.paths.Fate.TheVariants.{Unset as Path, Set as Marks}
use Rattle.sdl_unset.specs.declared.paths.Graph as graphs
use Rattle.sdl_unset.specs.declared.paths.Step as number
use Rattle.sdl_unset.specs.Graph as graph
use Rattle.std.proofs.lemmas.Bool.{or_parts as or_false}
use Rattle.plain_laws.proofs.Pairwise.{zip_at as all_zip_at, zip_length}
use Rattle.plain_laws.proofs.Places.{there_is, among_at}
use Rattle.plain_laws.proofs.Options.{some_none}

-- ---- what the limits state

none_before : {A : Type 0} (b : Bool) (x : A) (o : Option A) → cond b (Some x) o ≡ None → (b ≡ false) × (o ≡ None)
none_before true x o e = absurd (some_none e)
none_before false x o e = (refl, e)

few_of : (n : ℕ) → nat_lt 32 n ≡ false → n ≤ 32
few_of n e = grind (arith, leb_tells, e)

none_many : (ps : List PlainProcess) (k : ℕ) (p : PlainProcess) → list_any (λ p. nat_lt 32 (length (variables_of p))) ps ≡ false → slice_get ps k ≡ Some p
    → length (variables_of p) ≤ 32
none_many [] k p none e = let bad : None ≡ Some p = e in absurd (cc)
none_many (q ∷ ps) zero p none e =
    let same : q ≡ p = let h : Some q ≡ Some p = e in cc in
    subst (λ (r : PlainProcess). length (variables_of r) ≤ 32) same (few_of (length (variables_of q)) (or_false _ _ none).0)
none_many (q ∷ ps) (suc k) p none e = none_many ps k p (or_false _ _ none).1 e

-- No process has more than 32 variables.
pub few_variables : (b : PlainBlock) → first_limit b ≡ None → All (λ p. length (variables_of p) ≤ 32) (processes_of b)
few_variables b none k d within =
    let after_one = States ∷ Variables ∷ Timers ∷ Signals ∷ Params ∷ Pieces ∷ later_limits in
    let after_two = Variables ∷ Timers ∷ Signals ∷ Params ∷ Pieces ∷ later_limits in
    let after_three = Timers ∷ Signals ∷ Params ∷ Pieces ∷ later_limits in
    let one : find (exceeds b) after_one ≡ None = (none_before (exceeds b Processes) Processes (find (exceeds b) after_one) none).1 in
    let two : find (exceeds b) after_two ≡ None = (none_before (exceeds b States) States (find (exceeds b) after_two) one).1 in
    let three : exceeds b Variables ≡ false = (none_before (exceeds b Variables) Variables (find (exceeds b) after_three) two).0 in
    none_many (processes_of b) k (get_or (processes_of b) k d) three (slice_get-get_or (processes_of b) k d within)

-- Each process has only known names.
pub known_names : (b : PlainBlock) → unknown_names b ≡ [] → All (λ p. process_unknown b p ≡ []) (processes_of b)
known_names b none k d within =
    none_at (process_unknown b) (processes_of b) k (get_or (processes_of b) k d)
    (append-nil_right (flat_map (route_unknown b) (routes_of b)) _ none) (slice_get-get_or (processes_of b) k d within)

-- Each process has answers for every value.
pub answered_names : (b : PlainBlock) → unanswered b ≡ [] → All (λ p. in_statements (λ from. statement_unanswered (variables_of p)) p ≡ []) (processes_of b)
answered_names b none k d within =
    none_at (λ p. in_statements (λ from. statement_unanswered (variables_of p)) p) (processes_of b) k (get_or (processes_of b) k d) none (slice_get-get_or (processes_of b) k d within)

pub within_few : (b : PlainBlock) → IsWithin b → All (λ p. length (variables_of p) ≤ 32) (processes_of b)
within_few b w = few_variables b w.1

pub within_known : (b : PlainBlock) → IsWithin b → All (λ p. process_unknown b p ≡ []) (processes_of b)
within_known b w = known_names b w.0.0.0.0.0.0.0.0.1

pub within_answered : (b : PlainBlock) → IsWithin b → All (λ p. in_statements (λ from. statement_unanswered (variables_of p)) p ≡ []) (processes_of b)
within_answered b w = answered_names b w.0.0.1

pub order_within : (ts : List the_process.Process) (ps : List PlainProcess) (orders : List (Vec ℕ)) (i : ℕ) → map process_of ts ≡ ps → AreOrders ps orders → i < length ts → i < length orders
order_within ts ps orders i same are within =
    let count : length ts ≡ length orders = sym (length-map ts process_of) ∙ (ap length same ∙ zip_length (λ p (v : Vec ℕ). IsOrder p v.items) ps orders are) in
    omega (arith, within, count)

pub order_at : (ts : List the_process.Process) (ps : List PlainProcess) (orders : List (Vec ℕ)) (i : ℕ) (t : the_process.Process) (order : Vec ℕ) → map process_of ts ≡ ps → AreOrders ps orders
    → i < length ts → t ≡ get_or ts i t → order ≡ get_or orders i order → IsOrder (process_of t) order.items
order_at ts ps orders i t order same are within read has =
    all_zip_at (λ p (v : Vec ℕ). IsOrder p v.items) ps orders i (process_of t) order are
    (ap (λ (l : List PlainProcess). slice_get l i) (sym same) ∙ (slice_get-map process_of ts i ∙ ap (option_map process_of) (slice_get-get_or ts i t within ∙ ap Some (sym read))))
    (slice_get-get_or orders i order (order_within ts ps orders i same are within) ∙ ap Some (sym has))

-- ---- the processes surveyed so far

abbrev pub plain : List the_process.Process → List PlainProcess
plain ts = map process_of ts

pub plain_more : (ts : List the_process.Process) (i : ℕ) (t : the_process.Process) → i < length ts → t ≡ get_or ts i t
    → plain (take (i + 1) ts) ≡ plain (take i ts) ++ process_of t ∷ []
plain_more ts i t within read =
    ap plain (take_more ts i t within) ∙ (map-append process_of (take i ts) (get_or ts i t ∷ [])
    ∙ ap (λ (u : the_process.Process). plain (take i ts) ++ process_of u ∷ []) (sym read))

-- The first of the processes so far with a path as short as this.
abbrev pub IsUnsetAmong : PlainBlock → List PlainProcess → List PlainProcess → Unset → Type 0
IsUnsetAmong b ps far u = (p : PlainProcess) × Contains ps p × IsUnset b p u × IsFirstWith far p u.path.steps.items × IsFirst p u.path.steps.items

pub contains_process : (ts : List the_process.Process) (i : ℕ) (t : the_process.Process) → i < length ts → t ≡ get_or ts i t → Contains (plain ts) (process_of t)
contains_process ts i t within read =
    among_at (plain ts) i (process_of t)
    (slice_get-map process_of ts i ∙ ap (option_map process_of) (slice_get-get_or ts i t within ∙ ap Some (sym read)))

first_more : (far : List PlainProcess) (p q : PlainProcess) (path : List Step) → IsFirstWith far p path → IsFirstWith (far ++ q ∷ []) p path
first_more far p q path h = record {
  before = h.before;
  after = h.after ++ q ∷ [];
  all = ap (λ l. l ++ q ∷ []) h.all ∙ append_assoc h.before (p ∷ h.after) (q ∷ []);
  longer = h.longer;
}

among_more : (b : PlainBlock) (ps far : List PlainProcess) (q : PlainProcess) (u : Unset) → IsUnsetAmong b ps far u → IsUnsetAmong b ps (far ++ q ∷ []) u
among_more b ps far q u (p, among, is, first, whole) = (p, among, is, first_more far p q u.path.steps.items first, whole)

-- One more process, of which no path reads a variable unset.
pub among_past : (b : PlainBlock) (ps far : List PlainProcess) (q : PlainProcess) (best : Option Unset) → IfSome best (IsUnsetAmong b ps far)
    → IfSome best (IsUnsetAmong b ps (far ++ q ∷ []))
among_past b ps far q None h = tt
among_past b ps far q (Some u) h = among_more b ps far q u h

-- No path of the processes so far is shorter.
abbrev pub AreShortest : List PlainProcess → Unset → Type 0
AreShortest ps u = All (λ q. IsShortest q u.path.steps.items) ps

-- What holds of the best one so far holds of all processes at the end.
pub found_of_all : (b : PlainBlock) (ps far all : List PlainProcess) (u : Unset) → ps ≡ all → far ≡ all → IsUnsetAmong b ps far u → AreShortest far u
    → (p : PlainProcess) × Contains all p × IsUnset b p u × All (λ q. IsShortest q u.path.steps.items) all × IsFirstWith all p u.path.steps.items × IsFirst p u.path.steps.items
found_of_all b ps far all u same whole (p, among, is, first, least) short = (
  p,
  subst (λ (l : List PlainProcess). Contains l p) same among,
  is,
  subst (λ (l : List PlainProcess). All (λ q. IsShortest q u.path.steps.items) l) whole short,
  subst (λ (l : List PlainProcess). IsFirstWith l p u.path.steps.items) whole first,
  least,
)

-- A path that is no longer than a shortest one is a shortest one.
shortest_for : (q : PlainProcess) (short long : List Step) → length short ≤ length long → IsShortest q long → IsShortest q short
shortest_for q short long le h other x reads = omega (arith, le, h other x reads)

never_shortest : (q : PlainProcess) (path : List Step) → NeverReadsUnset q → IsShortest q path
never_shortest q path never other x reads = absurd (never other x reads)

-- One more process, of which no path reads a variable unset.
pub shortest_past : (ps : List PlainProcess) (q : PlainProcess) (best : Option Unset) → NeverReadsUnset q → IfSome best (AreShortest ps)
    → IfSome best (AreShortest (ps ++ q ∷ []))
shortest_past ps q None never before = tt
shortest_past ps q (Some u) never before =
    All-push (λ z. IsShortest z u.path.steps.items) ps q before (never_shortest q u.path.steps.items never)

-- The named path is no longer than those before, by comparison with the best one before.
shortest_before : (ps : List PlainProcess) (best : Option Unset) (r : Unset)
    → IfSome best (λ one. length r.path.steps.items ≤ length one.path.steps.items) → (best ≡ None → All NeverReadsUnset ps)
    → IfSome best (AreShortest ps) → AreShortest ps r
shortest_before ps None r than none before = λ k d within. never_shortest (get_or ps k d) r.path.steps.items (none refl k d within)
shortest_before ps (Some one) r than none before = λ k d within. shortest_for (get_or ps k d) r.path.steps.items one.path.steps.items than (before k d within)

-- One more process, with a path that reads a variable unset.
pub shortest_more : (ps : List PlainProcess) (q : PlainProcess) (best : Option Unset) (other r : Unset)
    → length r.path.steps.items ≤ length other.path.steps.items
    → IfSome best (λ one. length r.path.steps.items ≤ length one.path.steps.items) → (best ≡ None → All NeverReadsUnset ps)
    → IfSome best (AreShortest ps) → IsShortest q other.path.steps.items → AreShortest (ps ++ q ∷ []) r
shortest_more ps q best other r fewer than none before last =
    All-push (λ z. IsShortest z r.path.steps.items) ps q (shortest_before ps best r than none before)
    (shortest_for q r.path.steps.items other.path.steps.items fewer last)

-- If a path is shorter than the best one before, all those before are longer.
longer_before : (ps : List PlainProcess) (best : Option Unset) (other : Unset)
    → IfSome best (λ one. length other.path.steps.items < length one.path.steps.items) → (best ≡ None → All NeverReadsUnset ps)
    → IfSome best (AreShortest ps) → All (AreLonger other.path.steps.items) ps
longer_before ps None other less none before = λ k d within path x reads. absurd (none refl k d within path x reads)
longer_before ps (Some one) other less none before = λ k d within path x reads. omega (arith, less, before k d within path x reads)

-- The named path is that of the first process with a path as short as this.
pub shorter_is : (b : PlainBlock) (ps far : List PlainProcess) (q : PlainProcess) (best : Option Unset) (other r : Unset)
    → ((r ≡ other) × IfSome best (λ one. length other.path.steps.items < length one.path.steps.items)) ⊎ (best ≡ Some r)
    → IfSome best (IsUnsetAmong b ps far) → (best ≡ None → All NeverReadsUnset far) → IfSome best (AreShortest far)
    → Contains ps q → IsUnset b q other → IsFirst q other.path.steps.items → IsUnsetAmong b ps (far ++ q ∷ []) r
shorter_is b ps far q best other r one found none before among last whole = elim one [
  | inl e ↦ subst (IsUnsetAmong b ps (far ++ q ∷ [])) (sym e.0)
      (q, among, last, record { before = far; after = []; all = refl; longer = longer_before far best other e.1 none before }, whole)
  | inr e ↦ among_more b ps far q r (subst (λ (o : Option Unset). IfSome o (IsUnsetAmong b ps far)) e found)
]

-- What holds of each process holds of the process at a place.
pub all_at_table : (P : PlainProcess → Type 0) (ts : List the_process.Process) (ps : List PlainProcess) (i : ℕ) (t : the_process.Process)
    → map process_of ts ≡ ps → All P ps → i < length ts → t ≡ get_or ts i t → P (process_of t)
all_at_table P ts ps i t same all within read =
    All-contains P ps (process_of t) all (subst (λ (l : List PlainProcess). Contains l (process_of t)) same (contains_process ts i t within read))

-- ---- one process

-- The fate of a variable that is read unset.
pub unset_fate : (p : PlainProcess) (fates : List Fate) (n : ℕ) (a : AreFates p fates) (u : IsUnsetAt fates n) (shown : List number.Step)
    → shown ≡ fate_path fates n → graph.ReadsUnset a.graph n shown
unset_fate p fates n a u shown is =
    let path : shown ≡ u.0.items = is ∙ ap (λ (o : Option Fate). option_map_or path_of o []) u.1 in
    subst (graph.ReadsUnset a.graph n) (sym path) (a.each n (Path u.0) u.1).0

-- A path that reads a variable unset is no shorter than the path of its fate.
fate_fewest : (g : graphs.Graph) (fates : List Fate) (v : ℕ) (f : Fate) (path : List number.Step) → slice_get fates v ≡ Some f → IsFate g v f
    → graph.ReadsUnset g v path → IsUnsetAt fates v × (length (fate_path fates v) ≤ length path)
fate_fewest g fates v (Marks marks) path there fate reads = absurd (fate.0 path reads)
fate_fewest g fates v (Path found) path there fate reads =
    let long : length (fate_path fates v) ≡ length found.items = ap (λ (o : Option Fate). length (option_map_or path_of o [])) there in
    ((found, there), omega (arith, long, fate.1 path reads))

-- No path of the process is shorter than that of the named variable.
pub survey_shortest : (b : PlainBlock) (p : PlainProcess) (fates : List Fate) (n : ℕ) → process_unknown b p ≡ [] → AreFates p fates → HasFirst fates n
    → (shown : List number.Step) → shown ≡ fate_path fates n → (steps : List Step) → AllZip (IsNamed p) shown steps → IsShortest p steps
survey_shortest b p fates n known a fewest shown is steps named other x reads =
    let path = numbered_path b p a.graph known a.is other x reads in
    let names : length (variable_names p) ≡ length (variables_of p) = length-map (variables_of p) (λ y. y.name) in
    let within : path.0 < length fates = omega (arith, slice_get_within (variable_names p) path.0 path.1 path.2, names, a.count) in
    let fate = there_is fates path.0 within in
    let told = fate_fewest a.graph fates path.0 fate.0 path.3 fate.1 (a.each path.0 fate.0 fate.1) path.4 in
    let long : length shown ≡ length steps = zip_length (IsNamed p) shown steps named in
    let same : length shown ≡ length (fate_path fates n) = ap length is in
    omega (arith, told.1, no_longer (fate_path fates n) (fate_path fates path.0) (fewest path.0 told.0), long, same, path.5)

-- The path of a variable's fate comes first.
fate_first : (g : graphs.Graph) (fates : List Fate) (v : ℕ) (f : Fate) (path : List number.Step) → slice_get fates v ≡ Some f → IsFate g v f
    → graph.ReadsUnset g v path → IsUnsetAt fates v × NotAfter (fate_path fates v) path
fate_first g fates v (Marks marks) path there fate reads = absurd (fate.0 path reads)
fate_first g fates v (Path found) path there fate reads =
    let is : fate_path fates v ≡ found.items = ap (λ (o : Option Fate). option_map_or path_of o []) there in
    ((found, there), subst (λ (l : List number.Step). NotAfter l path) (sym is) (fate.2 path reads))

-- No path of the process comes before that of the named variable.
pub survey_first : (b : PlainBlock) (p : PlainProcess) (fates : List Fate) (n : ℕ) → process_unknown b p ≡ [] → AreFates p fates → HasFirst fates n
    → (shown : List number.Step) → shown ≡ fate_path fates n → (steps : List Step) → AllZip (IsNamed p) shown steps → IsFirst p steps
survey_first b p fates n known a first shown is steps named other x reads =
    let path = numbered_path b p a.graph known a.is other x reads in
    let names : length (variable_names p) ≡ length (variables_of p) = length-map (variables_of p) (λ y. y.name) in
    let within : path.0 < length fates = omega (arith, slice_get_within (variable_names p) path.0 path.1 path.2, names, a.count) in
    let fate = there_is fates path.0 within in
    let told = fate_first a.graph fates path.0 fate.0 path.3 fate.1 (a.each path.0 fate.0 fate.1) path.4 in
    let before : NotAfter shown path.3 =
    subst (λ (l : List number.Step). NotAfter l path.3) (sym is) (not_after_trans (fate_path fates n) (fate_path fates path.0) path.3 (first path.0 told.0) told.1) in
    not_after_names p shown path.3 steps other before (all_named p shown steps named) path.6

pub survey_steps : (p : PlainProcess) (fates : List Fate) (n : ℕ) → AreFates p fates → IsUnsetAt fates n → (shown : List number.Step)
    → shown ≡ fate_path fates n → All (IsStep p) shown
survey_steps p fates n a u shown is k d within =
    steps_there p a.graph n a.is shown (unset_fate p fates n a u shown is) k (get_or shown k d) (slice_get-get_or shown k d within)

pub survey_reads : (p : PlainProcess) (fates : List Fate) (n : ℕ) → AreFates p fates → IsUnsetAt fates n → (shown : List number.Step)
    → shown ≡ fate_path fates n → (id : Identifier) → slice_get (variable_names p) n ≡ Some id
    → (steps : List Step) → AllZip (IsNamed p) shown steps → ReadsUnset p steps id.name
survey_reads p fates n a u shown is id var steps named =
    named_reads p a.graph n id a.is var shown steps (unset_fate p fates n a u shown is) named

-- The names of the path are spelled as they are declared.
pub survey_names : (b : PlainBlock) (p : PlainProcess) (n : ℕ) (id : Identifier) (shown : List number.Step) (steps : List Step) → process_unknown b p ≡ []
    → slice_get (variable_names p) n ≡ Some id → AllZip (IsNamed p) shown steps → AllZip (IsSpelled b p) shown steps → AreDeclared b p id.name steps
survey_names b p n id shown steps known var named spelled =
    (spelling_at (variable_names p) n id var, declared_steps b p shown steps known named spelled)

pub number_within : (p : PlainProcess) (fates : List Fate) (n : ℕ) → AreFates p fates → IsUnsetAt fates n → n < length (variable_names p)
number_within p fates n a u =
    let names : length (variable_names p) ≡ length (variables_of p) = length-map (variables_of p) (λ x. x.name) in
    omega (arith, slice_get_within fates n (Path u.0) u.1, names, a.count)

pub some_unset : (u : Unset) → Some u ≡ None → ⊥
some_unset u e = cc
