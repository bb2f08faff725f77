-- The parts of a word before and after its first dot, and the actors that they name.
use Rattle.std.proofs.Common.{◌≡◌, ℕ, ◌<◌, Bool, true, false, if◌then◌else◌, List, length, Option, None, Some, sym, ap, ◌∙◌, subst, arith}
use Rattle.std.specs.Prelude.{option_map}
use Rattle.std.specs.Borrow.{Bor}
use Rattle.std.specs.List.{position_or_len, before_first, after_first}
use Rattle.std.proofs.lemmas.Bool.{lt-ltb, le-ltb}
use Rattle.std.proofs.lemmas.Str.Pattern.{IsSplitOnceResult, split_once_first}
use Rattle.turn_code.specs.declared.draft.Draft.{Draft}
use Rattle.turn_check.specs.Named.{instances_at, process_names}
use Rattle.script_lines.specs.Numbers.{count_of}
use Rattle.actor_machine.specs.Names.{named, actors_of, place_of}
use Rattle.actor_machine.proofs.Counting.{above_all}
use Rattle.script_lines.specs.ActorWords.{number_of, is_dot, has_dot, process_part, instance_part, actor_at, called_by, actor_called}
use Rattle.script_lines.specs.declared.word.Called.{Called}

-- ---- the first dot

record Parted (word process instance : List ℕ) : Type 0 where
  dotted : has_dot word ≡ true
  before : process ≡ before_first is_dot word
  behind : instance ≡ after_first is_dot word

parted : (word : List ℕ) (x : Bor (List ℕ) × Bor (List ℕ)) → IsSplitOnceResult 46 word (Some x) → Parted word x.0.now x.1.now
parted word x h =
    let parts = split_once_first 46 word (Some x) h (omega arith) in
    record { dotted = lt-ltb (position_or_len is_dot word) (length word) parts.0; before = parts.1; behind = parts.2 }

undotted : (word : List ℕ) → IsSplitOnceResult 46 word None → has_dot word ≡ false
undotted word h =
    let all : position_or_len is_dot word ≡ length word = split_once_first 46 word None h (omega arith) in
    le-ltb (position_or_len is_dot word) (length word) (omega (arith, all))

pub process_before : (word : List ℕ) (r : Option (Bor (List ℕ) × Bor (List ℕ))) (x : Bor (List ℕ) × Bor (List ℕ)) → IsSplitOnceResult 46 word r → r ≡ Some x
    → x.0.now ≡ process_part word
process_before word r x h e =
    let parts = parted word x (subst (IsSplitOnceResult 46 word) e h) in
    parts.before ∙ ap (λ (b : Bool). if b then before_first is_dot word else word) (sym parts.dotted)

pub process_alone : (word : List ℕ) (r : Option (Bor (List ℕ) × Bor (List ℕ))) → IsSplitOnceResult 46 word r → r ≡ None → word ≡ process_part word
process_alone word r h e =
    ap (λ (b : Bool). if b then before_first is_dot word else word) (sym (undotted word (subst (IsSplitOnceResult 46 word) e h)))

pub instance_behind : (word : List ℕ) (r : Option (Bor (List ℕ) × Bor (List ℕ))) (x : Bor (List ℕ) × Bor (List ℕ)) (k : Option ℕ) → IsSplitOnceResult 46 word r → r ≡ Some x
    → k ≡ count_of x.1.now → k ≡ instance_part word
instance_behind word r x k h e count =
    let parts = parted word x (subst (IsSplitOnceResult 46 word) e h) in
    let chosen : Bool → Option ℕ = λ b. if b then count_of (after_first is_dot word) else Some 1 in
    count ∙ ap count_of parts.behind ∙ ap chosen (sym parts.dotted)

pub first_instance : (word : List ℕ) (r : Option (Bor (List ℕ) × Bor (List ℕ))) → IsSplitOnceResult 46 word r → r ≡ None → Some 1 ≡ instance_part word
first_instance word r h e =
    let chosen : Bool → Option ℕ = λ b. if b then count_of (after_first is_dot word) else Some 1 in
    ap chosen (sym (undotted word (subst (IsSplitOnceResult 46 word) e h)))

-- ---- actors

abbrev called : ℕ → ℕ → Option ℕ → Option Called
called p k o = option_map (λ n. let c : Called = record { name = named p k; number = n } in c) o

pub found_there : (d : Draft) (p k : ℕ) (o : Option ℕ) (n : ℕ) (r : Called) → o ≡ place_of (named p k) (actors_of d.processes) → o ≡ Some n
    → r ≡ record { name = named p k; number = n } → Some r ≡ actor_at d p k
found_there d p k o n r e f g = ap (λ (c : Called). Some c) g ∙ ap (called p k) (sym f ∙ e)

pub none_there : (d : Draft) (p k : ℕ) (o : Option ℕ) → o ≡ place_of (named p k) (actors_of d.processes) → o ≡ None → None ≡ actor_at d p k
none_there d p k o e f = ap (called p k) (sym f ∙ e)

pub past_last : (d : Draft) (p k : ℕ) → instances_at d p < k → None ≡ actor_at d p k
past_last d p k high = ap (called p k) (sym (above_all d (named p k) high))

pub called_word : (d : Draft) (word name : List ℕ) (q k : Option ℕ) (r : Option Called) → name ≡ process_part word → q ≡ number_of (process_names d) name
    → k ≡ instance_part word → r ≡ called_by d q k → r ≡ actor_called d word
unfolding actor_called
called_word d word name q k r e f g h =
    h
    ∙ ap (λ (o : Option ℕ). called_by d o k) (f ∙ ap (number_of (process_names d)) e)
    ∙ ap (λ (o : Option ℕ). called_by d (number_of (process_names d) (process_part word)) o) g
