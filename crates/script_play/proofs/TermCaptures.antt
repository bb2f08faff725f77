-- The capture of a terminal's run: one more command.
use Rattle.std.proofs.Common.{◌≡◌, ◌∙◌, ℕ, ◌+◌, ◌<◌, ◌≤◌, Bool, true, false, List, [], ◌∷◌, ◌++◌, append-nil, length, map, take, drop, get_or, Option, None, sym, subst}
use Rattle.std.specs.List.{flat_map}
use Rattle.std.specs.Io.KnownBytes.{Appends}
use Rattle.std.proofs.KnownBytes.{Appends-nil, Appends-trans}
use Rattle.std.proofs.lemmas.Grind.{flat_map-append}
use Rattle.line_streams.specs.Capturing.{capture_of}
use Rattle.line_streams.specs.Records.{HEADER}
use Rattle.line_streams.specs.declared.seen.Seen.{Seen}
use Rattle.script_links.specs.TermCommands.{PlainTermCommand, out, expected}
use Rattle.script_links.specs.TermScripts.{PlainTermSaid, plain_term_said}
use Rattle.script_links.specs.declared.script.TermSaid.{TermSaid}
use Rattle.plain_text.specs.Lines.{line_of}
use Rattle.link_term.specs.Term.{Term}
use Rattle.script_seen.specs.TermAnswers.{Obeys}
use Rattle.script_seen.specs.TermRuns.{prints, begins as run_begins_by, IsTermRun, IsTermMissed, IsTermMissedBy, HasPrinted, HasObeyed, was_met, was_done, HasGivenOut}
use Rattle.script_seen.proofs.Showings.{one_more, parts_at, all_taken}
use Rattle.script_play.specs.Captured.{time_of, IsComing, is_noted, Hears, Sends, Goes, begins, goes_out, comes_in, holds, IsHeard, IsCapturing, IsTermCapturing, IsCaptured, IsCapturedInPart}
use Rattle.script_play.specs.declared.capturing.LinkSeen.{LinkSeen}

-- ---- one command

-- a command printed these lines
pub printed_more : (keeps : Bool) (first : Term) (before : List PlainTermSaid) (said : PlainTermSaid) (begun old new : Option (List ℕ)) (now next : Term)
    (last printed : Option (List ℕ)) (lines : List (List ℕ)) → IsTermRun keeps first before begun old now last → Obeys keeps said.command now lines next
    → HasPrinted old new last printed lines → IsTermRun keeps first (before ++ said ∷ []) begun new next printed
printed_more keeps first before said begun old new now next last printed lines run obeys has =
    let L : Option (List ℕ) → Type 0 = λ l. IsTermRun keeps first (before ++ said ∷ []) begun new next l in
    let A : List ℕ → Type 0 = λ bs. Appends begun new bs in
    subst L (sym has.latest_is) (record {
      lines = run.lines ++ lines;
      goes = prints said lines next obeys run.goes;
      written = subst A (sym (flat_map-append line_of run.lines lines)) (Appends-trans begun old new (flat_map line_of run.lines) (flat_map line_of lines) run.written has.written);
    })

-- signal units were requested
pub gone_out : (keeps : Bool) (first : Term) (before : List PlainTermSaid) (said : PlainTermSaid) (n : ℕ) (begun old new : Option (List ℕ)) (now next : Term)
    (last printed : Option (List ℕ)) → said.command ≡ out n → IsTermRun keeps first before begun old now last → HasGivenOut n old new last printed now next
    → IsTermRun keeps first (before ++ said ∷ []) begun new next printed
gone_out keeps first before said n begun old new now next last printed is run given =
    let C : PlainTermCommand → Type 0 = λ c. Obeys keeps c now given.lines next in
    printed_more keeps first before said begun old new now next last printed given.lines run (subst C (sym is) given.out) given.printed

pub out_captured : (every keeps : Bool) (first : Term) (before : List PlainTermSaid) (said : PlainTermSaid) (n : ℕ) (begun old new from to : Option (List ℕ))
    (now next : Term) (last printed : Option (List ℕ)) (at : ℕ) (l m : LinkSeen) → said.command ≡ out n → at ≡ time_of now
    → HasGivenOut n from to last printed now next
    → ((came : List ℕ) (ss : List Seen) → IsCapturing 0 every came ss begun old l
    → (more : List Seen) × Sends 0 at n now ss next more × IsCapturing 0 every came more begun new m)
    → IsTermCapturing every keeps first before begun old now last l → IsTermCapturing every keeps first (before ++ said ∷ []) begun new next printed m
out_captured every keeps first before said n begun old new from to now next last printed at l m is time given step so_far =
    let s = step so_far.came so_far.seen so_far.capturing in
    let S : ℕ → Type 0 = λ k. Sends 0 k n now so_far.seen next s.0 in
    let C : PlainTermCommand → Type 0 = λ c. Obeys keeps c now given.lines next in
    let G : Option (List ℕ) → Type 0 = λ x. Goes keeps first (before ++ said ∷ []) next x so_far.came s.0 in
    record {
      came = so_far.came;
      seen = s.0;
      goes = subst G (sym given.printed.latest_is) (goes_out said n given.lines next s.0 is so_far.goes (subst C (sym is) given.out) (subst S time s.1));
      capturing = s.2;
    }

-- the octets that a command delivers, if the command is replaced by an equal one
pub comes_as : (c d : PlainTermCommand) (come : List ℕ) → c ≡ d → IsComing d come → IsComing c come
comes_as c d come same coming = let P : PlainTermCommand → Type 0 = λ k. IsComing k come in subst P (sym same) coming

no_out : (c : PlainTermCommand) (n : ℕ) → is_noted c ≡ true → c ≡ out n → ⊥
no_out c n noted is =
    let P : PlainTermCommand → Type 0 = λ x. is_noted x ≡ true in
    let contrary : false ≡ true = subst P is noted in cc

pub no_expectation : (c : PlainTermCommand) (text : List ℕ) → is_noted c ≡ true → c ≡ expected text → ⊥
no_expectation c text noted is =
    let P : PlainTermCommand → Type 0 = λ x. is_noted x ≡ true in
    let contrary : false ≡ true = subst P is noted in cc

-- another command was obeyed, which delivered octets, or none
pub come_captured : (every keeps : Bool) (first : Term) (before : List PlainTermSaid) (said : PlainTermSaid) (come : List ℕ) (begun old new from to : Option (List ℕ))
    (now next : Term) (last printed : Option (List ℕ)) (at : ℕ) (l m : LinkSeen) → is_noted said.command ≡ true → at ≡ time_of now
    → IsComing said.command come → HasObeyed keeps said.command from to last printed now next
    → ((came : List ℕ) (ss : List Seen) → IsCapturing 0 every came ss begun old l
    → (more : List Seen) × Hears 0 at came come ss more × IsCapturing 0 every (came ++ come) more begun new m)
    → IsTermCapturing every keeps first before begun old now last l → IsTermCapturing every keeps first (before ++ said ∷ []) begun new next printed m
come_captured every keeps first before said come begun old new from to now next last printed at l m noted time coming (was_met text is met same kept stays) step so_far =
    absurd (no_expectation said.command text noted is)
come_captured every keeps first before said come begun old new from to now next last printed at l m noted time coming (was_done lines obeys has) step so_far =
    let s = step so_far.came so_far.seen so_far.capturing in
    let H : ℕ → Type 0 = λ k. Hears 0 k so_far.came come so_far.seen s.0 in
    let G : Option (List ℕ) → Type 0 = λ x. Goes keeps first (before ++ said ∷ []) next x (so_far.came ++ come) s.0 in
    record {
      came = so_far.came ++ come;
      seen = s.0;
      goes = subst G (sym has.latest_is) (comes_in said come lines next s.0 (λ n is. no_out said.command n noted is) coming so_far.goes obeys (subst H time s.1));
      capturing = s.2;
    }

-- an expectation holds
pub met_captured : (every keeps : Bool) (first : Term) (before : List PlainTermSaid) (said : PlainTermSaid) (text : List ℕ) (begun old from to : Option (List ℕ))
    (now next : Term) (last printed : Option (List ℕ)) (l : LinkSeen) → said.command ≡ expected text → HasObeyed keeps said.command from to last printed now next
    → IsTermCapturing every keeps first before begun old now last l → IsTermCapturing every keeps first (before ++ said ∷ []) begun old next printed l
met_captured every keeps first before said text begun old from to now next last printed l expects (was_met other is met same kept stays) so_far =
    let M : Option (List ℕ) → Type 0 = λ x. Goes keeps first before now x so_far.came so_far.seen in
    let N : Option (List ℕ) → Type 0 = λ x. Goes keeps first (before ++ said ∷ []) now x so_far.came so_far.seen in
    let T : Term → Type 0 = λ t. Goes keeps first (before ++ said ∷ []) t printed so_far.came so_far.seen in
    record {
      came = so_far.came;
      seen = so_far.seen;
      goes = subst T (sym stays) (subst N (sym (same ∙ met)) (holds said is (subst M met so_far.goes)));
      capturing = so_far.capturing;
    }
met_captured every keeps first before said text begun old from to now next last printed l expects (was_done lines obeys has) so_far =
    let C : PlainTermCommand → Type 0 = λ c. Obeys keeps c now lines next in
    absurd (subst C expects obeys)

-- ---- a list of commands

-- the state of a run after some commands of a list
pub record TermGoing (keeps : Bool) (first : Term) (commands : List PlainTermSaid) (last from to begun now : Option (List ℕ)) (term : Term)
    (printed : Option (List ℕ)) (l m : LinkSeen) : Type 0 where
  pub run : last ≡ None → IsTermRun keeps first commands from to term printed
  pub captured : last ≡ None → (every : Bool) (start : Option (List ℕ)) → IsCapturing 0 every [] [] start begun l
      → IsTermCapturing every keeps first commands start now term printed m

run_begins : (keeps : Bool) (first : Term) (old last : Option (List ℕ)) → last ≡ None → IsTermRun keeps first [] old old first last
run_begins keeps first old last none =
    let P : Option (List ℕ) → Type 0 = λ l. IsTermRun keeps first [] old old first l in
    subst P (sym none) (record { lines = []; goes = run_begins_by; written = Appends-nil old })

capture_begins : (every keeps : Bool) (first : Term) (start old last : Option (List ℕ)) (l : LinkSeen) → last ≡ None → IsCapturing 0 every [] [] start old l
    → IsTermCapturing every keeps first [] start old first last l
capture_begins every keeps first start old last l none c =
    let P : Option (List ℕ) → Type 0 = λ x. IsTermCapturing every keeps first [] start old first x l in
    subst P (sym none) (record { came = []; seen = []; goes = begins; capturing = c })

pub term_begins : (keeps : Bool) (first : Term) (last from begun : Option (List ℕ)) (l : LinkSeen) → TermGoing keeps first [] last from from begun begun first last l l
term_begins keeps first last from begun l = record {
  run = λ none. run_begins keeps first from last none;
  captured = λ none every start c. capture_begins every keeps first start begun last l none c;
}

-- one more command of a list
pub term_goes_on : (keeps : Bool) (first : Term) (items : List TermSaid) (i : ℕ) (x : TermSaid) (last from to begun now : Option (List ℕ)) (term : Term)
    (printed : Option (List ℕ)) (l m : LinkSeen) → i < length items → x ≡ get_or items i x
    → TermGoing keeps first (map plain_term_said (take i items) ++ plain_term_said x ∷ []) last from to begun now term printed l m
    → TermGoing keeps first (map plain_term_said (take (i + 1) items)) last from to begun now term printed l m
term_goes_on keeps first items i x last from to begun now term printed l m within is s =
    let P : List PlainTermSaid → Type 0 = λ commands. TermGoing keeps first commands last from to begun now term printed l m in
    subst P (one_more plain_term_said items i x within is) s

-- all commands of a list
pub term_gone : (keeps : Bool) (first : Term) (items : List TermSaid) (i : ℕ) (last from to begun now : Option (List ℕ)) (term : Term)
    (printed : Option (List ℕ)) (l m : LinkSeen) → length items ≤ i
    → TermGoing keeps first (map plain_term_said (take i items)) last from to begun now term printed l m
    → TermGoing keeps first (map plain_term_said items) last from to begun now term printed l m
term_gone keeps first items i last from to begun now term printed l m over s =
    let P : List PlainTermSaid → Type 0 = λ commands. TermGoing keeps first commands last from to begun now term printed l m in
    subst P (all_taken plain_term_said items i over) s

pub term_captured_all : (every keeps : Bool) (first : Term) (commands : List PlainTermSaid) (start new : Option (List ℕ)) (term : Term) (printed : Option (List ℕ))
    (l : LinkSeen) → IsTermCapturing every keeps first commands start new term printed l → IsCaptured every keeps first commands start new
term_captured_all every keeps first commands start new term printed l c =
    record { now = term; printed = printed; came = c.came; seen = c.seen; goes = c.goes; written = c.capturing.written }

-- an expectation in a list that fails
pub term_missed_at : (keeps : Bool) (first : Term) (items : List TermSaid) (i : ℕ) (x : TermSaid) (from middle to : Option (List ℕ)) (term : Term)
    (last : Option (List ℕ)) → i < length items → x ≡ get_or items i x → IsTermRun keeps first (map plain_term_said (take i items)) from middle term last
    → IsTermMissedBy (plain_term_said x) last middle to → IsTermMissed keeps (map plain_term_said items) from to first
term_missed_at keeps first items i x from middle to term last within is run missed = record {
  before = map plain_term_said (take i items);
  said = plain_term_said x;
  after = map plain_term_said (drop (i + 1) items);
  stands = parts_at plain_term_said items i x within is;
  middle = middle;
  now = term;
  last = last;
  run = run;
  missed = missed;
}

pub term_captured_part : (every keeps : Bool) (first : Term) (items : List TermSaid) (i : ℕ) (x : TermSaid) (start now new : Option (List ℕ)) (term : Term)
    (last middle to : Option (List ℕ)) (l : LinkSeen) → i < length items → x ≡ get_or items i x → new ≡ now → IsTermMissedBy (plain_term_said x) last middle to
    → IsTermCapturing every keeps first (map plain_term_said (take i items)) start now term last l
    → IsCapturedInPart every keeps first (map plain_term_said items) start new
term_captured_part every keeps first items i x start now new term last middle to l within is same missed c =
    let W : Option (List ℕ) → Type 0 = λ w. Appends start w (capture_of every c.seen) in
    record {
      before = map plain_term_said (take i items);
      said = plain_term_said x;
      after = map plain_term_said (drop (i + 1) items);
      stands = parts_at plain_term_said items i x within is;
      now = term;
      printed = last;
      came = c.came;
      seen = c.seen;
      goes = c.goes;
      written = subst W (sym same) c.capturing.written;
      text = missed.text;
      expects = missed.expects;
      other = missed.other;
    }

-- the beginning of a capture
pub nothing_seen : (every : Bool) (old new : Option (List ℕ)) (l : LinkSeen) → IsHeard 0 every [] [] l → Appends old new HEADER → IsCapturing 0 every [] [] old new l
nothing_seen every old new l heard header =
    let A : List ℕ → Type 0 = λ bs. Appends old new bs in
    record { heard = heard; written = subst A (sym (append-nil HEADER)) header }
