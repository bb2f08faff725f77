-- How far JOINs are followed doesn't change the counts of connections, and measuring in order returns these counts.
use Rattle.std.proofs.Common.{◌≡◌, ℕ, zero, suc, ◌+◌, ◌-◌, ◌<◌, ◌≤◌, Bool, true, false, List, [], ◌∷◌, ◌++◌, length, get_or, refl, ap, sym, ◌∙◌, subst, arith, if◌then◌else◌, inl, inr, Option, Some, None}
use Rattle.std.specs.Prelude.{slice_get, slice_set, Contains}
use Rattle.std.specs.Option.{option_map_or}
use Rattle.std.proofs.lemmas.Bool.{cases_eq}
use Rattle.std.proofs.lemmas.List.Elements.{Contains-append_left, Contains-append_right}
use Rattle.std.proofs.lemmas.Option.{slice_get_within, slice_get-get_or}
use Rattle.sdl_ast.specs.declared.tree.Range.{Range}
use Rattle.sdl_ast.specs.declared.tree.Join.{Join}
use Rattle.sdl_ast.specs.declared.tree.End.{End}
use Rattle.sdl_ast.specs.declared.tree.End.TheVariants as how
use Rattle.sdl_ast.specs.Plain.{Text, falls, ends, does, decides, Choice, nothing_else, otherwise, answer, PlainConnection, PlainProcess}
use Rattle.sdl_tables.specs.Names.{Variable, variables_of, number_of, connector_names, connection_named}
use Rattle.sdl_tables.specs.Scopes.{repeats}
use Rattle.sdl_measures.specs.JoinLists.{text_joins, choice_joins}
use Rattle.sdl_sound.specs.Longest.{cost_of, end_count, tests_budget, budget, case_budget, pick_budget, depth, choice_depth, effects, choice_effects, size, joined_by, joined, text_depth, text_effects}
use Rattle.sdl_sound.specs.Sorts.{is_truth}
use Rattle.sdl_sound.specs.Orders.{IsOrder}
use Rattle.sdl_measures.specs.Measures.{capped, IsMeasureOf, AreMeasures}
use Rattle.sdl_measures.specs.Counting.{IsMeasured, measure_at, measure_named, depth_named, effects_named, no_measure}
use Rattle.sdl_measures.specs.declared.measures.Measure.{Measure}
use Rattle.sdl_sound.proofs.Lists.{get_one}
use Rattle.sdl_measures.proofs.Joining.{joins_are}
use Rattle.sdl_measures.proofs.Connectors.{numbered, own_number}
use Rattle.sdl_sound.proofs.Numbered.{unnumbered}
use Rattle.plain_laws.proofs.Places.{get_set_same, get_set_other}
use Rattle.plain_laws.proofs.Pairwise.{zip_by, zip_at, zip_length}

-- ---- counts that are alike up to the greatest

abbrev Alike : ℕ → ℕ → Type 0
Alike a b = capped a ≡ capped b

-- Two functions count the connections of these JOINs alike.
abbrev pub AreAlike : List Join → (List ℕ → ℕ) → (List ℕ → ℕ) → Type 0
AreAlike joins f g = (j : Join) → Contains joins j → capped (f j.connector.name) ≡ capped (g j.connector.name)

left_alike : (xs ys : List Join) (f g : List ℕ → ℕ) → AreAlike (xs ++ ys) f g → AreAlike xs f g
left_alike xs ys f g h j among = h j (Contains-append_left xs ys j among)

right_alike : (xs ys : List Join) (f g : List ℕ → ℕ) → AreAlike (xs ++ ys) f g → AreAlike ys f g
right_alike xs ys f g h j among = h j (Contains-append_right xs ys j among)

end_alike : (e : End) (f g : List ℕ → ℕ) → AreAlike (text_joins (ends e)) f g → Alike (end_count f e) (end_count g e)
end_alike (how.NextState n) f g h = refl
end_alike (how.Stop at) f g h = refl
end_alike (how.Join j) f g h = h j (0, omega arith, refl)

tests_alike : (ranges : List Range) (a b c d : ℕ) → Alike a b → Alike c d → Alike (tests_budget ranges a c) (tests_budget ranges b d)
tests_alike [] a b c d h k = k
tests_alike (r ∷ ranges) a b c d h k = omega (arith, h, tests_alike ranges a b c d h k)

decide_alike : (truth : Bool) (n a b c d : ℕ) → Alike a b → Alike c d → Alike (n + (if truth then 1 + a else c)) (n + (if truth then 1 + b else d))
decide_alike true n a b c d h k = omega (arith, h)
decide_alike false n a b c d h k = omega (arith, k)

mutual
  pub budget_alike : (vs : List Variable) (f g : List ℕ → ℕ) (t : Text) (a b : ℕ) → AreAlike (text_joins t) f g → Alike a b → Alike (budget vs f t a) (budget vs g t b)
  budget_alike vs f g falls a b h k = k
  budget_alike vs f g (ends e) a b h k = omega (arith, end_alike e f g h)
  budget_alike vs f g (does x rest) a b h k = omega (arith, budget_alike vs f g rest a b h k)
  budget_alike vs f g (decides at q c rest) a b h k =
      let later = budget_alike vs f g rest a b (right_alike (choice_joins c) (text_joins rest) f g h) k in
      let inner = left_alike (choice_joins c) (text_joins rest) f g h in
      let pick = pick_alike vs f g c (budget vs f rest a) (budget vs g rest b) inner later in
      let case = case_alike vs f g c (budget vs f rest a) (budget vs g rest b) inner later in
      decide_alike (is_truth vs q) (cost_of q) _ _ _ _ pick case

  pub case_alike : (vs : List Variable) (f g : List ℕ → ℕ) (c : Choice) (a b : ℕ) → AreAlike (choice_joins c) f g → Alike a b → Alike (case_budget vs f c a) (case_budget vs g c b)
  case_alike vs f g nothing_else a b h k = refl
  case_alike vs f g (otherwise body) a b h k = omega (arith, budget_alike vs f g body (1 + a) (1 + b) h (omega (arith, k)))
  case_alike vs f g (answer at ranges body others) a b h k =
      tests_alike ranges _ _ _ _ (budget_alike vs f g body (1 + a) (1 + b) (left_alike (text_joins body) (choice_joins others) f g h) (omega (arith, k)))
      (case_alike vs f g others a b (right_alike (text_joins body) (choice_joins others) f g h) k)

  pub pick_alike : (vs : List Variable) (f g : List ℕ → ℕ) (c : Choice) (a b : ℕ) → AreAlike (choice_joins c) f g → Alike a b → Alike (pick_budget vs f c a) (pick_budget vs g c b)
  pick_alike vs f g nothing_else a b h k = refl
  pick_alike vs f g (otherwise body) a b h k = budget_alike vs f g body (1 + a) (1 + b) h (omega (arith, k))
  pick_alike vs f g (answer at ranges body others) a b h k =
      omega (
        arith,
        budget_alike vs f g body (1 + a) (1 + b) (left_alike (text_joins body) (choice_joins others) f g h) (omega (arith, k)),
        pick_alike vs f g others a b (right_alike (text_joins body) (choice_joins others) f g h) k,
      )

mutual
  pub depth_alike : (f g : List ℕ → ℕ) (t : Text) → AreAlike (text_joins t) f g → Alike (depth f t) (depth g t)
  depth_alike f g falls h = refl
  depth_alike f g (ends e) h = end_alike e f g h
  depth_alike f g (does x rest) h = omega (arith, depth_alike f g rest h)
  depth_alike f g (decides at q c rest) h =
      omega (arith, choice_depth_alike f g c (left_alike (choice_joins c) (text_joins rest) f g h), depth_alike f g rest (right_alike (choice_joins c) (text_joins rest) f g h))

  choice_depth_alike : (f g : List ℕ → ℕ) (c : Choice) → AreAlike (choice_joins c) f g → Alike (choice_depth f c) (choice_depth g c)
  choice_depth_alike f g nothing_else h = refl
  choice_depth_alike f g (otherwise body) h = depth_alike f g body h
  choice_depth_alike f g (answer at ranges body others) h =
      omega (arith, depth_alike f g body (left_alike (text_joins body) (choice_joins others) f g h), choice_depth_alike f g others (right_alike (text_joins body) (choice_joins others) f g h))

mutual
  pub effects_alike : (f g : List ℕ → ℕ) (t : Text) (a b : ℕ) → AreAlike (text_joins t) f g → Alike a b → Alike (effects f t a) (effects g t b)
  effects_alike f g falls a b h k = k
  effects_alike f g (ends e) a b h k = end_alike e f g h
  effects_alike f g (does x rest) a b h k = omega (arith, effects_alike f g rest a b h k)
  effects_alike f g (decides at q c rest) a b h k =
      choice_effects_alike f g c (effects f rest a) (effects g rest b) (left_alike (choice_joins c) (text_joins rest) f g h)
      (effects_alike f g rest a b (right_alike (choice_joins c) (text_joins rest) f g h) k)

  choice_effects_alike : (f g : List ℕ → ℕ) (c : Choice) (a b : ℕ) → AreAlike (choice_joins c) f g → Alike a b → Alike (choice_effects f c a) (choice_effects g c b)
  choice_effects_alike f g nothing_else a b h k = refl
  choice_effects_alike f g (otherwise body) a b h k = effects_alike f g body a b h k
  choice_effects_alike f g (answer at ranges body others) a b h k =
      omega (arith, effects_alike f g body a b (left_alike (text_joins body) (choice_joins others) f g h) k, choice_effects_alike f g others a b (right_alike (text_joins body) (choice_joins others) f g h) k)

-- ---- connections

abbrev pub Counted : Type 0
Counted = List Variable → (List ℕ → ℕ) → Text → ℕ

-- A count of a text that depends only on the counts of its JOINs.
abbrev pub IsLocal : Counted → Type 0
IsLocal count = (vs : List Variable) (f g : List ℕ → ℕ) (t : Text) → AreAlike (text_joins t) f g → capped (count vs f t) ≡ capped (count vs g t)

abbrev pub count_budget : Counted
count_budget vs join text = budget vs join text 0

abbrev pub count_depth : Counted
count_depth vs join text = depth join text

abbrev pub count_effects : Counted
count_effects vs join text = effects join text 0

budget_local : IsLocal count_budget
budget_local vs f g t h = budget_alike vs f g t 0 0 h refl

depth_local : IsLocal count_depth
depth_local vs f g t h = depth_alike f g t h

effects_local : IsLocal count_effects
effects_local vs f g t h = effects_alike f g t 0 0 h refl

pub joined_none : (count : Counted) (p : PlainProcess) (a : ℕ) (x : List ℕ) → number_of (connector_names p) x ≡ None → joined_by count p a x ≡ 0
joined_none count p zero x none = refl
joined_none count p (suc a) x none = ap (λ o. option_map_or (λ (c : PlainConnection). count (variables_of p) (joined_by count p a) c.text) o 0) (unnumbered p x none)

pub joined_some : (count : Counted) (p : PlainProcess) (a : ℕ) (x : List ℕ) (c : PlainConnection) → connection_named p x ≡ Some c
    → joined_by count p (suc a) x ≡ count (variables_of p) (joined_by count p a) c.text
joined_some count p a x c named = ap (λ o. option_map_or (λ (c : PlainConnection). count (variables_of p) (joined_by count p a) c.text) o 0) named

-- The counts are alike for all connections before place k of the order, if more JOINs are followed than their place.
abbrev AlikeBelow : Counted → PlainProcess → List ℕ → ℕ → Type 0
AlikeBelow count p order k = (i n a b : ℕ) (x y : List ℕ) → i < k → slice_get order i ≡ Some n → number_of (connector_names p) x ≡ Some n
    → number_of (connector_names p) y ≡ Some n → i < a → i < b → capped (joined_by count p a x) ≡ capped (joined_by count p b y)

joins_alike : (count : Counted) (p : PlainProcess) (order : List ℕ) → IsOrder p order → (k i n a b : ℕ) (c : PlainConnection) (j : Join) (o : Option ℕ) → AlikeBelow count p order k
    → number_of (connector_names p) j.connector.name ≡ o → i < suc k → slice_get order i ≡ Some n → slice_get p.connections n ≡ Some c → Contains (text_joins c.text) j
    → i < suc a → i < suc b → capped (joined_by count p a j.connector.name) ≡ capped (joined_by count p b j.connector.name)
joins_alike count p order is k i n a b c j None below number less at there among la lb =
    ap capped (joined_none count p a j.connector.name number ∙ sym (joined_none count p b j.connector.name number))
joins_alike count p order is k i n a b c j (Some m) below number less at there among la lb =
    let before = is.behind i n m c j at there (subst (λ (l : List Join). Contains l j) (joins_are c.text) among) number in
    below before.0 m a b j.connector.name j.connector.name (omega (arith, before.1, less)) before.2 number number (omega (arith, before.1, la)) (omega (arith, before.1, lb))

-- The count of a connection is settled once more JOINs are followed than its place in the order.
joined_same : (count : Counted) (p : PlainProcess) (order : List ℕ) → IsLocal count → IsOrder p order → (k : ℕ) → AlikeBelow count p order k
joined_same count p order local is zero i n a b x y less at nx ny la lb = absurd (omega (arith, less))
joined_same count p order local is (suc k) i n zero b x y less at nx ny la lb = absurd (omega (arith, la))
joined_same count p order local is (suc k) i n (suc a) zero x y less at nx ny la lb = absurd (omega (arith, lb))
joined_same count p order local is (suc k) i n (suc a) (suc b) x y less at nx ny la lb =
    let c = numbered p x n nx in
    let d = numbered p y n ny in
    let same : c.connection ≡ d.connection = get_one (slice_get p.connections n) c.connection d.connection c.there d.there in
    let one = ap capped (joined_some count p a x c.connection c.named) in
    let other = ap capped (joined_some count p b y d.connection d.named ∙ ap (λ (e : PlainConnection). count (variables_of p) (joined_by count p b) e.text) (sym same)) in
    let alike : AreAlike (text_joins c.connection.text) (joined_by count p a) (joined_by count p b) = λ j among.
    joins_alike count p order is k i n a b c.connection j (number_of (connector_names p) j.connector.name) (joined_same count p order local is k) refl less at c.there among la lb in
    one ∙ local (variables_of p) (joined_by count p a) (joined_by count p b) c.connection.text alike ∙ sym other

-- ---- what is measured in order

-- The connections at the first i places of the order are measured.
abbrev pub MeasuredTo : PlainProcess → List ℕ → List Measure → ℕ → Type 0
MeasuredTo p order ms i = (k n : ℕ) (c : PlainConnection) → k < i → slice_get order k ≡ Some n → slice_get p.connections n ≡ Some c → IsMeasureOf p c (measure_at ms n)

-- A field of the measure of a JOIN's connection.
named_none : (field : Measure → ℕ) (p : PlainProcess) (ms : List Measure) (x : List ℕ) → number_of (connector_names p) x ≡ None → field (measure_named p ms x) ≡ field no_measure
named_none field p ms x none = ap (λ o. field (option_map_or (measure_at ms) o no_measure)) none

named_some : (field : Measure → ℕ) (p : PlainProcess) (ms : List Measure) (x : List ℕ) (n : ℕ) → number_of (connector_names p) x ≡ Some n → field (measure_named p ms x) ≡ field (measure_at ms n)
named_some field p ms x n number = ap (λ o. field (option_map_or (measure_at ms) o no_measure)) number

capped_capped : (a b : ℕ) → a ≡ capped b → capped a ≡ capped b
capped_capped a b h = omega (arith, h)

field_alike : (count : Counted) (field : Measure → ℕ) (p : PlainProcess) (order : List ℕ) (ms : List Measure) (i n : ℕ) (c : PlainConnection) (j : Join) (o : Option ℕ)
    → IsLocal count → IsOrder p order → repeats [] (connector_names p) ≡ [] → field no_measure ≡ 0
    → ((n : ℕ) (d : PlainConnection) → IsMeasureOf p d (measure_at ms n) → field (measure_at ms n) ≡ capped (joined count p d.name.name))
    → number_of (connector_names p) j.connector.name ≡ o → slice_get order i ≡ Some n → slice_get p.connections n ≡ Some c → Contains (text_joins c.text) j
    → MeasuredTo p order ms i → Alike (field (measure_named p ms j.connector.name)) (joined_by count p (length p.connections - 1) j.connector.name)
field_alike count field p order ms i n c j None local is distinct zero_is told number at there among done =
    ap capped (named_none field p ms j.connector.name number ∙ zero_is ∙ sym (joined_none count p (length p.connections - 1) j.connector.name number))
field_alike count field p order ms i n c j (Some m) local is distinct zero_is told number at there among done =
    let before = is.behind i n m c j at there (subst (λ (l : List Join). Contains l j) (joins_are c.text) among) number in
    let d = numbered p j.connector.name m number in
    let measured = done before.0 m d.connection before.1 before.2 d.there in
    let own = own_number p m d.connection distinct d.there in
    let last : i < length p.connections = omega (arith, slice_get_within order i n at, is.count) in
    ap capped (named_some field p ms j.connector.name m number)
    ∙ capped_capped (field (measure_at ms m)) (joined count p d.connection.name.name) (told m d.connection measured)
    ∙ joined_same count p order local is (suc before.0) before.0 m (length p.connections) (length p.connections - 1) d.connection.name.name j.connector.name (omega arith) before.2 own number
    (omega (arith, before.1, last)) (omega (arith, before.1, last))

-- The count of the connection at a place of the order.
counted_is : (count : Counted) (field : Measure → ℕ) (p : PlainProcess) (order : List ℕ) (ms : List Measure) (i n : ℕ) (c : PlainConnection)
    → IsLocal count → IsOrder p order → repeats [] (connector_names p) ≡ [] → field no_measure ≡ 0
    → ((n : ℕ) (d : PlainConnection) → IsMeasureOf p d (measure_at ms n) → field (measure_at ms n) ≡ capped (joined count p d.name.name))
    → slice_get order i ≡ Some n → slice_get p.connections n ≡ Some c → MeasuredTo p order ms i
    → capped (count (variables_of p) (λ x. field (measure_named p ms x)) c.text) ≡ capped (joined count p c.name.name)
counted_is count field p order ms i n c local is distinct zero_is told at there done =
    let last : i < length p.connections = omega (arith, slice_get_within order i n at, is.count) in
    let fuel : length p.connections ≡ suc (length p.connections - 1) = omega (arith, last) in
    let own = numbered p c.name.name n (own_number p n c distinct there) in
    let same : own.connection ≡ c = get_one (slice_get p.connections n) own.connection c own.there there in
    let opened : joined count p c.name.name ≡ count (variables_of p) (joined_by count p (length p.connections - 1)) c.text =
    ap (λ k. joined_by count p k c.name.name) fuel
    ∙ joined_some count p (length p.connections - 1) c.name.name c (own.named ∙ ap Some same) in
    local (variables_of p) (λ x. field (measure_named p ms x)) (joined_by count p (length p.connections - 1)) c.text
    (λ j among. field_alike count field p order ms i n c j (number_of (connector_names p) j.connector.name) local is distinct zero_is told refl at there among done)
    ∙ ap capped (sym opened)

pub measured_is : (p : PlainProcess) (order : List ℕ) (ms : List Measure) (i n : ℕ) (c : PlainConnection) (m : Measure) → IsOrder p order → repeats [] (connector_names p) ≡ []
    → slice_get order i ≡ Some n → slice_get p.connections n ≡ Some c → MeasuredTo p order ms i → IsMeasured p ms c.text 0 0 m → IsMeasureOf p c m
measured_is p order ms i n c m is distinct at there done h = record {
  budget = h.budget ∙ counted_is count_budget (λ m. m.budget) p order ms i n c budget_local is distinct refl (λ n d told. told.budget) at there done;
  depth = h.depth ∙ counted_is count_depth (λ m. m.depth) p order ms i n c depth_local is distinct refl (λ n d told. told.depth) at there done;
  effects = h.effects ∙ counted_is count_effects (λ m. m.effects) p order ms i n c effects_local is distinct refl (λ n d told. told.effects) at there done;
  size = h.size;
  goes_on = h.goes_on;
}

measure_set_same : (ms : List Measure) (n : ℕ) (m : Measure) → n < length ms → measure_at (slice_set ms n m) n ≡ m
measure_set_same ms n m within = ap (λ (o : Option Measure). option_map_or (λ m. m) o no_measure) (get_set_same ms n m within)

measure_set_other : (ms : List Measure) (n k : ℕ) (m : Measure) → (k ≡ n → ⊥) → measure_at (slice_set ms n m) k ≡ measure_at ms k
measure_set_other ms n k m other = ap (λ (o : Option Measure). option_map_or (λ m. m) o no_measure) (get_set_other ms n k m other)

-- One more connection is measured.
pub measured_more : (p : PlainProcess) (order : List ℕ) (ms : List Measure) (i n : ℕ) (c : PlainConnection) (m : Measure) → IsOrder p order → repeats [] (connector_names p) ≡ []
    → slice_get order i ≡ Some n → slice_get p.connections n ≡ Some c → n < length ms → MeasuredTo p order ms i → IsMeasured p ms c.text 0 0 m
    → MeasuredTo p order (slice_set ms n m) (i + 1)
measured_more p order ms i n c m is distinct at there within done h k k_n d less at_k there_k = elim (cases_eq k i) [
  | inl same ↦
      let n_is : k_n ≡ n = get_one (slice_get order k) k_n n at_k (ap (slice_get order) same ∙ at) in
      let c_is : c ≡ d = get_one (slice_get p.connections n) c d there (ap (slice_get p.connections) (sym n_is) ∙ there_k) in
      let own : IsMeasureOf p c (measure_at (slice_set ms n m) n) =
      subst (λ (x : Measure). IsMeasureOf p c x) (sym (measure_set_same ms n m within)) (measured_is p order ms i n c m is distinct at there done h) in
      subst (λ x. IsMeasureOf p d (measure_at (slice_set ms n m) x)) (sym n_is) (subst (λ (x : PlainConnection). IsMeasureOf p x (measure_at (slice_set ms n m) n)) c_is own)
  | inr other ↦
      let differs : k_n ≡ n → ⊥ = λ e. other (is.once k i n (at_k ∙ ap Some e) at) in
      subst (λ (x : Measure). IsMeasureOf p d x) (sym (measure_set_other ms n k_n m differs)) (done k k_n d (omega (arith, less, other)) at_k there_k)
]

pub all_measured : (p : PlainProcess) (order : List ℕ) (ms : List Measure) (i : ℕ) → IsOrder p order → length order ≤ i → length ms ≡ length p.connections → MeasuredTo p order ms i
    → AreMeasures p ms
all_measured p order ms i is past long done = zip_by (IsMeasureOf p) p.connections ms (sym long) (λ n c m there at.
    let place = is.each n (slice_get_within p.connections n c there) in
    let told = done place.0 n c (omega (arith, slice_get_within order place.0 n place.1, past)) place.1 there in
    let m_is : measure_at ms n ≡ m = ap (λ (o : Option Measure). option_map_or (λ m. m) o no_measure) at in
    subst (λ (x : Measure). IsMeasureOf p c x) m_is told)

-- ---- the counts of a transition

joined_renamed : (count : Counted) (p : PlainProcess) (a : ℕ) (x y : List ℕ) → connection_named p x ≡ connection_named p y → joined_by count p a x ≡ joined_by count p a y
joined_renamed count p zero x y e = refl
joined_renamed count p (suc a) x y e = ap (λ o. option_map_or (λ (c : PlainConnection). count (variables_of p) (joined_by count p a) c.text) o 0) e

named_alike : (count : Counted) (field : Measure → ℕ) (p : PlainProcess) (ms : List Measure) (x : List ℕ) (o : Option ℕ) → repeats [] (connector_names p) ≡ []
    → field no_measure ≡ 0 → ((d : PlainConnection) (m : Measure) → IsMeasureOf p d m → field m ≡ capped (joined count p d.name.name))
    → AreMeasures p ms → number_of (connector_names p) x ≡ o → Alike (field (measure_named p ms x)) (joined count p x)
named_alike count field p ms x None distinct zero_is told are number =
    ap capped (named_none field p ms x number ∙ zero_is ∙ sym (joined_none count p (length p.connections) x number))
named_alike count field p ms x (Some n) distinct zero_is told are number =
    let c = numbered p x n number in
    let within : n < length ms = omega (arith, slice_get_within p.connections n c.connection c.there, zip_length (IsMeasureOf p) p.connections ms are) in
    let m = get_or ms n no_measure in
    let at : slice_get ms n ≡ Some m = slice_get-get_or ms n no_measure within in
    let m_is : measure_at ms n ≡ m = ap (λ (o : Option Measure). option_map_or (λ m. m) o no_measure) at in
    let is = zip_at (IsMeasureOf p) p.connections ms n c.connection m are c.there at in
    let own = numbered p c.connection.name.name n (own_number p n c.connection distinct c.there) in
    let same : own.connection ≡ c.connection = get_one (slice_get p.connections n) own.connection c.connection own.there c.there in
    let names : connection_named p c.connection.name.name ≡ connection_named p x = own.named ∙ ap Some same ∙ sym c.named in
    ap capped (named_some field p ms x n number ∙ ap field m_is)
    ∙ capped_capped (field m) (joined count p c.connection.name.name) (told c.connection m is)
    ∙ ap capped (joined_renamed count p (length p.connections) c.connection.name.name x names)

pub depth_is : (p : PlainProcess) (ms : List Measure) (t : Text) → repeats [] (connector_names p) ≡ [] → AreMeasures p ms
    → capped (depth (depth_named p ms) t) ≡ capped (text_depth p t)
depth_is p ms t distinct are = depth_local (variables_of p) (depth_named p ms) (joined count_depth p) t
    (λ j among. named_alike count_depth (λ m. m.depth) p ms j.connector.name (number_of (connector_names p) j.connector.name) distinct refl (λ d m is. is.depth) are refl)

pub effects_is : (p : PlainProcess) (ms : List Measure) (t : Text) → repeats [] (connector_names p) ≡ [] → AreMeasures p ms
    → capped (effects (effects_named p ms) t 0) ≡ capped (text_effects p t)
effects_is p ms t distinct are = effects_local (variables_of p) (effects_named p ms) (joined count_effects p) t
    (λ j among. named_alike count_effects (λ m. m.effects) p ms j.connector.name (number_of (connector_names p) j.connector.name) distinct refl (λ d m is. is.effects) are refl)

pub size_at : (p : PlainProcess) (ms : List Measure) (n : ℕ) (c : PlainConnection) → AreMeasures p ms → slice_get p.connections n ≡ Some c
    → (measure_at ms n).size ≡ capped (size (variables_of p) c.text)
size_at p ms n c are there =
    let within : n < length ms = omega (arith, slice_get_within p.connections n c there, zip_length (IsMeasureOf p) p.connections ms are) in
    let m = get_or ms n no_measure in
    let at : slice_get ms n ≡ Some m = slice_get-get_or ms n no_measure within in
    let m_is : measure_at ms n ≡ m = ap (λ (o : Option Measure). option_map_or (λ m. m) o no_measure) at in
    ap (λ (x : Measure). x.size) m_is ∙ (zip_at (IsMeasureOf p) p.connections ms n c m are there at).size
