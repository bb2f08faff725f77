-- Octets of which only the last causes an event.
use Rattle.std.proofs.Common.{◌≡◌, ℕ, ◌+◌, ◌-◌, ◌<◌, ◌≤◌, Bool, true, false, ◌&&◌, ◌⊎◌, inl, inr, is_some, Option, List, [], ◌∷◌, ◌++◌, length, reverse, take, get_or, refl, sym, ap, ◌∙◌, subst, append-nil, append_assoc, length-append, arith}
use Rattle.std.specs.Prelude.{if◌then◌else◌, ◌≢◌}
use Rattle.std.proofs.lemmas.Bool.{true≢false}
use Rattle.std.proofs.lemmas.List.{take_more, take-take, length-take, reverse-append}
use Rattle.su_octets.specs.Bits.{low_bits, bits_of}
use Rattle.su_octets.proofs.BitLists.{bits_of-append}
use Rattle.bit_line.specs.Deframing.{Stands}
use Rattle.bit_line.specs.Events.{AreEvents, IsCounting, Runs, reports}
use Rattle.bit_line.specs.declared.events.LineEvent.{LineEvent}
use Rattle.bit_line.specs.declared.deframer.Deframer.{Deframer}
use Rattle.bit_line.proofs.EventLaws.{one_events, stands_events}
use Rattle.actor_machine.specs.Ledger.{Ledger, rebased, next}
use Rattle.link_transceiver.specs.TransceiverState.{TransceiverState}
use Rattle.link_transceiver.specs.Limits.{KEPT_MESSAGES}
use Rattle.link_processes.specs.declared.processes.Processes.{Processes}
use Rattle.link_transceiver.specs.Offers.{counting_offers}
use Rattle.link_processes.specs.Known.{is_there}
use Rattle.link_processes.specs.Machine.{with_book, all_offered, differs, counting_told, tidied, is_low}
use Rattle.link_processes.specs.declared.names.Names.{Names}
use Rattle.link_term.specs.Term.{Term}
use Rattle.link_term.specs.Hearing.{AreTaken, nothing, Hears, silent, octet, Heard}
use Rattle.link_term.proofs.Cutting.{no_bits, next_bits, one_bits}
use Rattle.link_term.proofs.Delivering.{tidied_transceiver}

-- ---- room that was made stays

abbrev ledger_from : Ledger → ℕ → Ledger
ledger_from b n = record (rebased b) { first = n }

rebased_twice : (b : Ledger) → rebased (rebased b) ≡ rebased b
unfolding rebased
rebased_twice b = let e : next (rebased b) ≡ next b = omega arith in ap (λ (n : ℕ). ledger_from b n) e

either_way : (c : Bool) (x y : Processes) → x ≡ y → (if c then x else y) ≡ y
either_way true x y h = h
either_way false x y h = refl

-- rebasing the book a second time changes nothing
rebased_stays : (t : Processes) → tidied (with_book t (rebased t.book)) ≡ with_book t (rebased t.book)
unfolding tidied
rebased_stays t =
    let u : Processes = with_book t (rebased t.book) in
    either_way (is_low u) (with_book u (rebased u.book)) u (ap (λ (b : Ledger). with_book t b) (rebased_twice t.book))

abbrev tidied_by : Bool → Processes → Processes
tidied_by c t = if c then with_book t (rebased t.book) else t

made_twice : (c : Bool) (t : Processes) → c ≡ is_low t → tidied (tidied_by c t) ≡ tidied_by c t
unfolding tidied
made_twice true t h = rebased_stays t
made_twice false t h = ap (λ (c : Bool). tidied_by c t) (sym h)

pub tidied_twice : (t : Processes) → tidied (tidied t) ≡ tidied t
unfolding tidied
tidied_twice t = made_twice (is_low t) t refl

-- ---- no events in all means none on the way

runs_before : (k h : List Bool) (m : Option ℕ) (all : List LineEvent) → Runs (k ++ h) m all
    → (n : Option ℕ) × (first more : List LineEvent) × Runs h n first × (all ≡ first ++ more)
unfolding Runs
runs_before [] h m all runs = (m, all, [], runs, sym (append-nil all))
runs_before (b ∷ k) h m all runs =
    let r = runs_before k h runs.0 runs.1 runs.2 in
    let given : List LineEvent = reports runs.3.verdict runs.0 in
    (r.0, r.1, r.2 ++ given, r.3, runs.3.all ∙ ap (λ (l : List LineEvent). l ++ given) r.4 ∙ append_assoc r.1 r.2 given)

none_more : (all more rest : List LineEvent) → all ≡ (all ++ more) ++ rest → more ≡ []
none_more all [] rest h = refl
none_more all (e ∷ more) rest h =
    let f : ⊥ = omega (arith, ap length h, length-append (all ++ e ∷ more) rest, length-append all (e ∷ more)) in absurd f

nothing_between : (all mid first more rest : List LineEvent) → first ≡ all → mid ≡ first ++ more → all ≡ mid ++ rest → mid ≡ all
nothing_between all mid first more rest same longer whole =
    let is : mid ≡ all ++ more = longer ∙ ap (λ (l : List LineEvent). l ++ more) same in
    let none : more ≡ [] = none_more all more rest (whole ∙ ap (λ (l : List LineEvent). l ++ rest) is) in
    is ∙ ap (λ (l : List LineEvent). all ++ l) none ∙ append-nil all

quiet_first : (bits x y : List Bool) (all : List LineEvent) → AreEvents bits all → AreEvents ((bits ++ x) ++ y) all → AreEvents (bits ++ x) all
quiet_first bits x y all before after =
    let P : List Bool → Type 0 = λ h. Runs h after.0 all in
    let a = runs_before (reverse y) (reverse (bits ++ x)) after.0 all (subst P (reverse-append (bits ++ x) y) after.1) in
    let Q : List Bool → Type 0 = λ h. Runs h a.0 a.1 in
    let b = runs_before (reverse x) (reverse bits) a.0 a.1 (subst Q (reverse-append bits x) a.3) in
    let R : List LineEvent → Type 0 = λ l. Runs (reverse (bits ++ x)) a.0 l in
    (a.0, subst R (nothing_between all a.1 b.1 b.2 a.2 (one_events bits b.1 all (b.0, b.3) before) b.4 a.4) a.3)

-- ---- a set without Counting

abbrev Deaf : Processes → Type 0
Deaf t = is_there t.names.options.counting ≡ false

never : (b c : Bool) (x y : Processes) → b ≡ false → (if b && c then x else y) ≡ y
never true c x y h = absurd (true≢false h)
never false c x y h = refl

deaf_told : (on : Bool) (t : Processes) → Deaf t → counting_told on t ≡ t
unfolding counting_told
deaf_told on t deaf =
    never (is_there t.names.options.counting) (differs on t.counting) (all_offered (counting_offers on) (record t { counting = on })) t deaf

names_if : (b : Bool) (x y : Processes) (n : Names) → x.names ≡ n → y.names ≡ n → (if b then x else y).names ≡ n
names_if true x y n p q = p
names_if false x y n p q = q

tidied_names : (t : Processes) → (tidied t).names ≡ t.names
unfolding tidied
tidied_names t = names_if (is_low t) (with_book t (rebased t.book)) t t.names refl refl

deaf_tidied : (t : Processes) → Deaf t → Deaf (tidied t)
deaf_tidied t deaf = ap (λ (n : Names). is_there n.options.counting) (tidied_names t) ∙ deaf

-- there is one octet, or the set has no Counting
abbrev IsHushed : List ℕ → Processes → Type 0
IsHushed xs t = (xs ≡ []) ⊎ Deaf t

hushed_more : (y : ℕ) (ys : List ℕ) (t : Processes) → IsHushed (y ∷ ys) t → Deaf t
hushed_more y ys t (inl none) = let f : ⊥ = omega (arith, ap length none) in absurd f
hushed_more y ys t (inr deaf) = deaf

counted_by : (bits : List Bool) (all : List LineEvent) → AreEvents bits all → (on : Bool) × IsCounting bits on
counted_by bits all are = (is_some are.0, (are.0, all, are.1, refl))

-- ---- octets in order

-- room is made before the first octet, and is still there before each other one
hears_run : (bits : List Bool) (all given : List LineEvent) (t m : Processes) (xs : List ℕ) (x : ℕ) (on : Bool) → length t.transceiver.messages < KEPT_MESSAGES
    → AreEvents bits all → AreEvents (bits ++ bits_of xs) all → AreEvents ((bits ++ bits_of xs) ++ low_bits 8 x) (all ++ given)
    → IsCounting ((bits ++ bits_of xs) ++ low_bits 8 x) on → IsHushed xs t → AreTaken given (tidied t) m
    → Hears bits all t (xs ++ x ∷ []) (all ++ given) (counting_told on m)
hears_run bits all given t m [] x on room quiet before after counts hushed taken =
    let P : List Bool → Type 0 = λ b. AreEvents (b ++ low_bits 8 x) (all ++ given) in
    let Q : List Bool → Type 0 = λ b. IsCounting (b ++ low_bits 8 x) on in
    octet bits all given t m (counting_told on m) x [] (all ++ given) on room (subst P (no_bits bits) after) taken (subst Q (no_bits bits) counts)
    (silent (bits ++ low_bits 8 x) (all ++ given) (counting_told on m))
hears_run bits all given t m (y ∷ ys) x on room quiet before after counts hushed taken =
    let next : List Bool = bits ++ low_bits 8 y in
    let u : Processes = counting_told on m in
    let P : List Bool → Type 0 = λ b. AreEvents b all in
    let Q : List Bool → Type 0 = λ b. AreEvents (b ++ low_bits 8 x) (all ++ given) in
    let O : List Bool → Type 0 = λ b. IsCounting (b ++ low_bits 8 x) on in
    let R : List LineEvent → Type 0 = λ l. AreEvents next l in
    let S : List LineEvent → Type 0 = λ l. Hears next l (tidied t) (ys ++ x ∷ []) (all ++ given) u in
    let T : Processes → Type 0 = λ h. AreTaken given h m in
    let U : Processes → Type 0 = λ h. Hears next (all ++ []) h (ys ++ x ∷ []) (all ++ given) u in
    let M : TransceiverState → Type 0 = λ h. length h.messages < KEPT_MESSAGES in
    let deaf : Deaf (tidied t) = deaf_tidied t (hushed_more y ys t hushed) in
    let behind : AreEvents (next ++ bits_of ys) all = subst P (next_bits bits y ys) before in
    let still : AreEvents next all = quiet_first bits (low_bits 8 y) (bits_of ys) all quiet behind in
    let now = counted_by next all still in
    octet bits all [] t (tidied t) u y (ys ++ x ∷ []) (all ++ given) now.0 room (subst R (sym (append-nil all)) still) (nothing (tidied t)) now.1
    (subst U (sym (deaf_told now.0 (tidied t) deaf))
    (subst S (sym (append-nil all))
    (hears_run next all given (tidied t) m ys x on (subst M (sym (tidied_transceiver t)) room) still behind (subst Q (next_bits bits y ys) after)
    (subst O (next_bits bits y ys) counts) (inr deaf) (subst T (sym (tidied_twice t)) taken))))

last_bits : (bits : List Bool) (xs : List ℕ) (x : ℕ) → bits ++ bits_of (xs ++ x ∷ []) ≡ (bits ++ bits_of xs) ++ low_bits 8 x
last_bits bits xs x =
    ap (λ (b : List Bool). bits ++ b) (bits_of-append xs (x ∷ [])) ∙ sym (append_assoc bits (bits_of xs) (bits_of (x ∷ []))) ∙ one_bits (bits ++ bits_of xs) x

last_taken : (octets : List ℕ) (n : ℕ) → 0 < n → n ≤ length octets → take n octets ≡ take (n - 1) octets ++ get_or octets (n - 1) 0 ∷ []
last_taken octets n least within =
    let whole : n ≡ n - 1 + 1 = omega (arith, least) in
    ap (λ (k : ℕ). take k octets) whole ∙ take_more octets (n - 1) 0 (omega (arith, least, within))

-- at least one octet of a slice: those before the last cause no event
before_last : (bits : List Bool) (all given : List LineEvent) (octets : List ℕ) (n : ℕ) → 0 < length octets → (given ≡ [] → n ≡ length octets)
    → AreEvents bits all → AreEvents (bits ++ bits_of (take n octets)) (all ++ given)
    → (given ≢ [] → (0 < n) × AreEvents (bits ++ bits_of (take (n - 1) octets)) all)
    → (0 < n) × AreEvents (bits ++ bits_of (take (n - 1) octets)) all
before_last bits all (e ∷ given) octets n some whole quiet after before = before (λ h. let f : ⊥ = omega (arith, ap length h) in f)
before_last bits all [] octets n some whole quiet after before =
    let least : 0 < n = omega (arith, some, whole refl) in
    let is : take n octets ≡ take (n - 1) octets ++ get_or octets (n - 1) 0 ∷ [] = last_taken octets n least (omega (arith, whole refl)) in
    let P : List Bool → Type 0 = λ b. AreEvents b (all ++ []) in
    let Q : List LineEvent → Type 0 = λ l. AreEvents ((bits ++ bits_of (take (n - 1) octets)) ++ low_bits 8 (get_or octets (n - 1) 0)) l in
    let behind = subst P (ap (λ (xs : List ℕ). bits ++ bits_of xs) is ∙ last_bits bits (take (n - 1) octets) (get_or octets (n - 1) 0)) after in
    (least, quiet_first bits (bits_of (take (n - 1) octets)) (low_bits 8 (get_or octets (n - 1) 0)) all quiet (subst Q (append-nil all) behind))

take_less : (octets : List ℕ) (n : ℕ) → n ≤ 1 → take (n - 1) octets ≡ []
take_less octets n less = let none : n - 1 ≡ 0 = omega (arith, less) in ap (λ (k : ℕ). take k octets) none

hushed_by : (octets : List ℕ) (n : ℕ) (t : Processes) (b : Bool) → is_there t.names.options.counting ≡ b → (b ≡ true → n ≤ 1) → IsHushed (take (n - 1) octets) t
hushed_by octets n t true h one = inl (take_less octets n (one refl))
hushed_by octets n t false h one = inr h

hears_part : (bits : List Bool) (all given : List LineEvent) (t m : Processes) (octets : List ℕ) (n : ℕ) (on : Bool) → n ≤ length octets
    → (is_there t.names.options.counting ≡ true → n ≤ 1)
    → length t.transceiver.messages < KEPT_MESSAGES → AreEvents bits all → AreEvents (bits ++ bits_of (take n octets)) (all ++ given)
    → (0 < n) × AreEvents (bits ++ bits_of (take (n - 1) octets)) all → IsCounting (bits ++ bits_of (take n octets)) on → AreTaken given (tidied t) m
    → Hears bits all t (take n octets) (all ++ given) (counting_told on m)
hears_part bits all given t m octets n on within one room quiet after before counts taken =
    let x : ℕ = get_or octets (n - 1) 0 in
    let xs : List ℕ = take (n - 1) octets in
    let is : take n octets ≡ xs ++ x ∷ [] = last_taken octets n before.0 within in
    let bits_are : bits ++ bits_of (take n octets) ≡ (bits ++ bits_of xs) ++ low_bits 8 x =
    ap (λ (ys : List ℕ). bits ++ bits_of ys) is ∙ last_bits bits xs x in
    let P : List Bool → Type 0 = λ b. AreEvents b (all ++ given) in
    let O : List Bool → Type 0 = λ b. IsCounting b on in
    let Q : List ℕ → Type 0 = λ ys. Hears bits all t ys (all ++ given) (counting_told on m) in
    subst Q (sym is)
    (hears_run bits all given t m xs x on room quiet before.1 (subst P bits_are after) (subst O bits_are counts)
    (hushed_by octets n t (is_there t.names.options.counting) refl one) taken)

-- one call of a deframer, with room made before it and Counting told after it
pub heard_part : (t u : Term) (m : Processes) (octets : List ℕ) (n : ℕ) (given : List LineEvent) (on : Bool) → 0 < length octets → n ≤ length octets
    → (is_there t.processes.names.options.counting ≡ true → n ≤ 1)
    → (given ≡ [] → n ≡ length octets)
    → ((bits : List Bool) → Stands bits t.line → Stands (bits ++ bits_of (take n octets)) u.line)
    → ((bits : List Bool) (all : List LineEvent) → Stands bits t.line → AreEvents bits all → AreEvents (bits ++ bits_of (take n octets)) (all ++ given))
    → (given ≢ [] → (bits : List Bool) (all : List LineEvent) → Stands bits t.line → AreEvents bits all
    → (0 < n) × AreEvents (bits ++ bits_of (take (n - 1) octets)) all)
    → ((bits : List Bool) → Stands bits u.line → IsCounting bits on)
    → length t.processes.transceiver.messages < KEPT_MESSAGES → AreTaken given (tidied t.processes) m → u.processes ≡ counting_told on m → u.sending ≡ t.sending
    → Heard t (take n octets) u
heard_part t u m octets n given on some within one whole stands events before counts room taken told sending = record {
  stands = stands;
  hears = λ bits all s are.
      let after : AreEvents (bits ++ bits_of (take n octets)) (all ++ given) = events bits all s are in
      let near : (0 < n) × AreEvents (bits ++ bits_of (take (n - 1) octets)) all =
      before_last bits all given octets n some whole are after (λ more. before more bits all s are) in
      let P : Processes → Type 0 = λ h. Hears bits all t.processes (take n octets) (all ++ given) h in
      let on_now : IsCounting (bits ++ bits_of (take n octets)) on = counts (bits ++ bits_of (take n octets)) (stands bits s) in
      (all ++ given, after, subst P (sym told) (hears_part bits all given t.processes m octets n on within one room are after near on_now taken));
  sending = sending;
}

-- ---- a part of the octets

pub part_within : (octets part : List ℕ) (n : ℕ) → part ≡ take (length part) octets → n ≤ length part → n ≤ length octets
part_within octets part n is few = omega (arith, few, ap length is, length-take (length part) octets)

pub one_of : (t m : Processes) (part : List ℕ) (n : ℕ) → m ≡ tidied t → n ≤ length part → (is_there m.names.options.counting ≡ true → length part ≡ 1)
    → is_there t.names.options.counting ≡ true → n ≤ 1
one_of t m part n is few one there =
    let names : m.names ≡ t.names = ap (λ (x : Processes). x.names) is ∙ tidied_names t in
    let here : is_there m.names.options.counting ≡ true = ap (λ (x : Names). is_there x.options.counting) names ∙ there in
    omega (arith, few, one here)

-- octets taken from a part are taken from the whole
pub heard_of : (t u : Term) (octets part : List ℕ) (n : ℕ) → part ≡ take (length part) octets → n ≤ length part → Heard t (take n part) u → Heard t (take n octets) u
heard_of t u octets part n is few heard =
    let P : List ℕ → Type 0 = λ xs. Heard t xs u in
    subst P (ap (take n) is ∙ take-take n (length part) octets few) heard

-- at least one octet is taken
pub some_taken : (d : Deframer) (bits : List Bool) (octets : List ℕ) (n : ℕ) (given : List LineEvent) → Stands bits d → 0 < length octets
    → (given ≡ [] → n ≡ length octets)
    → (given ≢ [] → (bits : List Bool) (all : List LineEvent) → Stands bits d → AreEvents bits all
    → (0 < n) × AreEvents (bits ++ bits_of (take (n - 1) octets)) all)
    → 0 < n
some_taken d bits octets n [] stands some whole before = omega (arith, some, whole refl)
some_taken d bits octets n (e ∷ given) stands some whole before =
    let are = stands_events bits d stands in (before (λ h. let f : ⊥ = omega (arith, ap length h) in f) bits are.0 stands are.1).0
