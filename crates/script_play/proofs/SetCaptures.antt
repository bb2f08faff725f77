-- The capture of a link set's run: one more command.
use Rattle.std.proofs.Common.{◌≡◌, ◌∙◌, ℕ, zero, suc, ◌+◌, ◌<◌, ◌≤◌, Bool, List, [], ◌∷◌, ◌++◌, append-nil, length, length-append, map, take, drop, get_or, slice_set, Option, None, Some, arith, refl, sym, ap, subst}
use Rattle.std.specs.Prelude.{slice_get}
use Rattle.std.specs.Io.KnownBytes.{Appends}
use Rattle.std.proofs.KnownBytes.{Appends-nil}
use Rattle.std.proofs.lemmas.Option.{none-some, same_Some}
use Rattle.actor_machine.specs.Ledger.{Ledger}
use Rattle.line_streams.specs.Capturing.{capture_of}
use Rattle.line_streams.specs.Records.{HEADER}
use Rattle.line_streams.specs.Repeats.{kept}
use Rattle.line_streams.specs.declared.seen.Seen.{Seen}
use Rattle.script_links.specs.GroupCommands as group
use Rattle.script_links.specs.GroupScripts.{PlainGroupSaid, plain_group_said}
use Rattle.script_links.specs.declared.group_script.GroupSaid.{GroupSaid}
use Rattle.script_seen.specs.GroupAnswers.{Playing}
use Rattle.script_seen.specs.GroupRuns.{begins as group_begins, IsGroupRun, IsGroupWritten, IsGroupMissed, IsGroupMissedBy, HasObeyed, was_met, was_done}
use Rattle.script_seen.proofs.Showings.{one_more, parts_at, all_taken}
use Rattle.script_play.specs.Captured.{IsHeard, IsCapturing}
use Rattle.script_seen.specs.TracedGroups.{books_of}
use Rattle.script_play.specs.CapturedSets.{Goes, begins, is_nowhere, holds, AreHeard, none, more, IsCapturedThere, IsSetCapturing, IsSetCaptured, IsSetCapturedInPart}
use Rattle.script_play.specs.declared.capturing.LinkSeen.{LinkSeen}
use Rattle.script_play.proofs.OtherLinks.{known_still, one_known}

-- ---- one of the links

-- the octets received on a link, and the link's state
pub record IsThere (every : Bool) (seen : List Seen) (link : ℕ) (n : ℕ) (cs : List (List ℕ)) (k : LinkSeen) : Type 0 where
  pub came : List ℕ
  pub there : slice_get cs n ≡ Some came
  pub heard : IsHeard link every came seen k

there_at : (every : Bool) (seen : List Seen) (l n : ℕ) (cs : List (List ℕ)) (ks : List LinkSeen) (k : LinkSeen) → AreHeard every seen l cs ks → slice_get ks n ≡ Some k
    → IsThere every seen (l + n) n cs k
there_at every seen _ n _ _ k (none l) is = absurd (none-some k is)
there_at every seen _ zero _ _ k (more l c cs m ks h rest) is =
    let K : LinkSeen → Type 0 = λ x. IsHeard l every c seen x in
    let H : ℕ → Type 0 = λ x. IsHeard x every c seen k in
    let same : l ≡ l + zero = omega arith in
    record { came = c; there = refl; heard = subst H same (subst K (same_Some m k is) h) }
there_at every seen _ (suc n) _ _ k (more l c cs m ks h rest) is =
    let w = there_at every seen (suc l) n cs ks k rest is in
    let H : ℕ → Type 0 = λ x. IsHeard x every w.came seen k in
    let same : suc l + n ≡ l + suc n = omega arith in
    record { came = w.came; there = w.there; heard = subst H same w.heard }

many : (every : Bool) (seen : List Seen) (l : ℕ) (cs : List (List ℕ)) (ks : List LinkSeen) → AreHeard every seen l cs ks → length cs ≡ length ks
many every seen _ _ _ (none l) = refl
many every seen _ _ _ (more l c cs k ks h rest) = let e = many every seen (suc l) cs ks rest in omega (arith, e)

-- a command was obeyed on a link, and captured
pub set_captured : (every : Bool) (first : Playing) (before : List PlainGroupSaid) (said : PlainGroupSaid) (begun old new : Option (List ℕ)) (now next : Playing)
    (last printed : Option (List ℕ)) (on : ℕ) (links : List LinkSeen) (l m : LinkSeen) → slice_get links on ≡ Some l → on < length links
    → ((all : List (List ℕ)) (came : List ℕ) (seen : List Seen) → Goes first before now last all seen → slice_get all on ≡ Some came
    → IsCapturing on every came seen begun old l → IsCapturedThere every first (before ++ said ∷ []) next printed all on seen begun new m)
    → IsSetCapturing every first before begun old now last links
    → IsSetCapturing every first (before ++ said ∷ []) begun new next printed (slice_set links on m)
set_captured every first before said begun old new now next last printed on links l m is within step so_far =
    let w = there_at every so_far.seen zero on so_far.came links l so_far.heard is in
    let H : ℕ → Type 0 = λ x. IsHeard x every w.came so_far.seen l in
    let zero_on : zero + on ≡ on = omega arith in
    let s = step so_far.came w.came so_far.seen so_far.goes w.there (record { heard = subst H zero_on w.heard; written = so_far.written }) in
    let N : ℕ → Type 0 = λ x. IsHeard x every s.came s.last m in
    let as_many = many every so_far.seen zero so_far.came links so_far.heard in
    record {
      came = slice_set so_far.came on s.came;
      seen = s.last;
      goes = s.goes;
      heard = one_known every so_far.seen s.last zero on so_far.came links s.came m (omega (arith, within, as_many))
          (λ other apart c k h. known_still every other c so_far.seen s.last k (λ x. s.apart other (λ same. apart (zero_on ∙ same)) k.repeats x) h)
          (subst N (sym zero_on) s.capturing.heard) so_far.heard;
      written = s.capturing.written;
    }

-- there is no such link
pub nowhere_captured : (every : Bool) (first : Playing) (before : List PlainGroupSaid) (said : PlainGroupSaid) (begun old from to : Option (List ℕ)) (now next : Playing)
    (last printed : Option (List ℕ)) (links : List LinkSeen) → length links ≤ now.on → HasObeyed said.command from to last printed now next
    → IsSetCapturing every first before begun old now last links → IsSetCapturing every first (before ++ said ∷ []) begun old next printed links
nowhere_captured every first before said begun old from to now next last printed links beyond (was_met text is met same kept stays) so_far =
    let M : Option (List ℕ) → Type 0 = λ x. Goes first before now x so_far.came so_far.seen in
    let N : Option (List ℕ) → Type 0 = λ x. Goes first (before ++ said ∷ []) now x so_far.came so_far.seen in
    let T : Playing → Type 0 = λ t. Goes first (before ++ said ∷ []) t printed so_far.came so_far.seen in
    record {
      came = so_far.came;
      seen = so_far.seen;
      goes = subst T (sym stays) (subst N (sym (same ∙ met)) (holds said is (subst M met so_far.goes)));
      heard = so_far.heard;
      written = so_far.written;
    }
nowhere_captured every first before said begun old from to now next last printed links beyond (was_done lines obeys has) so_far =
    let G : Option (List ℕ) → Type 0 = λ x. Goes first (before ++ said ∷ []) next x so_far.came so_far.seen in
    let as_many = many every so_far.seen zero so_far.came links so_far.heard in
    record {
      came = so_far.came;
      seen = so_far.seen;
      goes = subst G (sym has.latest_is) (is_nowhere said lines next (omega (arith, beyond, as_many)) so_far.goes obeys);
      heard = so_far.heard;
      written = so_far.written;
    }

-- ---- links of which no unit was seen

pub data AreUnseen (every : Bool) : List LinkSeen → Type 0 where
  none_seen : AreUnseen every []
  one_unseen : (k : LinkSeen) (ks : List LinkSeen) → ((link : ℕ) → IsHeard link every [] [] k) → AreUnseen every ks → AreUnseen every (k ∷ ks)

unseen_more : (every : Bool) (ks : List LinkSeen) (k : LinkSeen) → AreUnseen every ks → ((link : ℕ) → IsHeard link every [] [] k) → AreUnseen every (ks ++ k ∷ [])
unseen_more every _ k none_seen one = one_unseen k [] one none_seen
unseen_more every _ k (one_unseen j js first others) one = one_unseen j (js ++ k ∷ []) first (unseen_more every js k others one)

all_unseen : (every : Bool) (l : ℕ) (bs : List Ledger) (ks : List LinkSeen) → length bs ≡ length ks → AreUnseen every ks
    → AreHeard every [] l (map {B = List ℕ} (λ b. []) bs) ks
all_unseen every l [] _ same none_seen = none l
all_unseen every l [] _ same (one_unseen k ks first others) = absurd (omega (arith, same))
all_unseen every l (b ∷ bs) _ same none_seen = absurd (omega (arith, same))
all_unseen every l (b ∷ bs) _ same (one_unseen k ks first others) =
    more l [] (map (λ x. []) bs) k ks (first l) (all_unseen every (suc l) bs ks (omega (arith, same)) others)

-- this many of them so far
pub record UnseenSoFar (every : Bool) (n : ℕ) (ks : List LinkSeen) : Type 0 where
  pub unseen : AreUnseen every ks
  pub number : length ks ≡ n

pub unseen_begins : (every : Bool) (ks : List LinkSeen) → ks ≡ [] → UnseenSoFar every 0 ks
unseen_begins every ks is =
    let P : List LinkSeen → Type 0 = λ ls. UnseenSoFar every 0 ls in
    subst P (sym is) (record { unseen = none_seen; number = refl })

pub unseen_goes_on : (every : Bool) (n : ℕ) (ks ls : List LinkSeen) (k : LinkSeen) → ls ≡ ks ++ k ∷ [] → UnseenSoFar every n ks
    → ((link : ℕ) → IsHeard link every [] [] k) → UnseenSoFar every (n + 1) ls
unseen_goes_on every n ks ls k is so_far one =
    let P : List LinkSeen → Type 0 = λ xs. UnseenSoFar every (n + 1) xs in
    subst P (sym is) (record {
      unseen = unseen_more every ks k so_far.unseen one;
      number = length-append ks (k ∷ []) ∙ ap (λ (m : ℕ). m + 1) so_far.number;
    })

pub unseen_heard : (every : Bool) (n : ℕ) (bs : List Ledger) (ks : List LinkSeen) → length bs ≡ n → UnseenSoFar every n ks
    → AreHeard every [] 0 (map {B = List ℕ} (λ b. []) bs) ks
unseen_heard every n bs ks many so_far = all_unseen every 0 bs ks (many ∙ sym so_far.number) so_far.unseen

-- ---- a list of commands

-- the state of a run after some commands of a list
pub record SetGoing (p : Playing) (commands : List PlainGroupSaid) (last from to begun now : Option (List ℕ)) (q : Playing) (printed : Option (List ℕ))
    (ks ms : List LinkSeen) : Type 0 where
  pub run : last ≡ None → IsGroupRun p commands from to q printed
  pub captured : last ≡ None → (every : Bool) (start : Option (List ℕ)) → AreHeard every [] 0 (map (λ b. []) (books_of p)) ks → Appends start begun HEADER
      → IsSetCapturing every p commands start now q printed ms

run_begins : (p : Playing) (old last : Option (List ℕ)) → last ≡ None → IsGroupRun p [] old old p last
run_begins p old last none_is =
    let P : Option (List ℕ) → Type 0 = λ l. IsGroupRun p [] old old p l in
    subst P (sym none_is) (record { lines = []; goes = group_begins; written = Appends-nil old })

capture_begins : (every : Bool) (p : Playing) (start old last : Option (List ℕ)) (ks : List LinkSeen) → last ≡ None → AreHeard every [] 0 (map (λ b. []) (books_of p)) ks
    → Appends start old HEADER → IsSetCapturing every p [] start old p last ks
capture_begins every p start old last ks none_is heard header =
    let A : List ℕ → Type 0 = λ bs. Appends start old bs in
    let P : Option (List ℕ) → Type 0 = λ x. IsSetCapturing every p [] start old p x ks in
    subst P (sym none_is) (record {
      came = map (λ b. []) (books_of p);
      seen = [];
      goes = begins;
      heard = heard;
      written = subst A (sym (append-nil HEADER)) header;
    })

pub set_begins : (p : Playing) (last from begun : Option (List ℕ)) (ks : List LinkSeen) → SetGoing p [] last from from begun begun p last ks ks
set_begins p last from begun ks = record {
  run = λ none_is. run_begins p from last none_is;
  captured = λ none_is every start heard header. capture_begins every p start begun last ks none_is heard header;
}

-- one more command of a list
pub set_goes_on : (p : Playing) (items : List GroupSaid) (i : ℕ) (x : GroupSaid) (last from to begun now : Option (List ℕ)) (q : Playing) (printed : Option (List ℕ))
    (ks ms : List LinkSeen) → i < length items → x ≡ get_or items i x
    → SetGoing p (map plain_group_said (take i items) ++ plain_group_said x ∷ []) last from to begun now q printed ks ms
    → SetGoing p (map plain_group_said (take (i + 1) items)) last from to begun now q printed ks ms
set_goes_on p items i x last from to begun now q printed ks ms within is s =
    let P : List PlainGroupSaid → Type 0 = λ commands. SetGoing p commands last from to begun now q printed ks ms in
    subst P (one_more plain_group_said items i x within is) s

-- all commands of a list
pub set_gone : (p : Playing) (items : List GroupSaid) (i : ℕ) (last from to begun now : Option (List ℕ)) (q : Playing) (printed : Option (List ℕ))
    (ks ms : List LinkSeen) → length items ≤ i → SetGoing p (map plain_group_said (take i items)) last from to begun now q printed ks ms
    → SetGoing p (map plain_group_said items) last from to begun now q printed ks ms
set_gone p items i last from to begun now q printed ks ms over s =
    let P : List PlainGroupSaid → Type 0 = λ commands. SetGoing p commands last from to begun now q printed ks ms in
    subst P (all_taken plain_group_said items i over) s

pub set_captured_all : (every : Bool) (p : Playing) (commands : List PlainGroupSaid) (start new : Option (List ℕ)) (q : Playing) (printed : Option (List ℕ))
    (ms : List LinkSeen) → IsSetCapturing every p commands start new q printed ms → IsSetCaptured every commands start new p
set_captured_all every p commands start new q printed ms c =
    record { now = q; printed = printed; came = c.came; seen = c.seen; goes = c.goes; written = c.written }

-- an expectation in a list that fails
pub set_captured_part : (every : Bool) (p : Playing) (items : List GroupSaid) (i : ℕ) (x : GroupSaid) (start now new : Option (List ℕ)) (q : Playing)
    (last middle to : Option (List ℕ)) (ms : List LinkSeen) → i < length items → x ≡ get_or items i x → new ≡ now → IsGroupMissedBy (plain_group_said x) last middle to
    → IsSetCapturing every p (map plain_group_said (take i items)) start now q last ms → IsSetCapturedInPart every (map plain_group_said items) start new p
set_captured_part every p items i x start now new q last middle to ms within is same missed c =
    let W : Option (List ℕ) → Type 0 = λ w. Appends start w (capture_of every c.seen) in
    record {
      before = map plain_group_said (take i items);
      said = plain_group_said x;
      after = map plain_group_said (drop (i + 1) items);
      stands = parts_at plain_group_said items i x within is;
      now = q;
      printed = last;
      came = c.came;
      seen = c.seen;
      goes = c.goes;
      written = subst W (sym same) c.written;
      text = missed.text;
      expects = missed.expects;
      other = missed.other;
    }

-- ---- printed lines

pub set_written : (p : Playing) (commands : List PlainGroupSaid) (first now : Option (List ℕ)) (q : Playing) (printed : Option (List ℕ)) → IsGroupRun p commands first now q printed
    → IsGroupWritten commands first now p
set_written p commands first now q printed run = record { now = q; last = printed; run = run }

pub set_missed_at : (p : Playing) (items : List GroupSaid) (i : ℕ) (x : GroupSaid) (first middle now : Option (List ℕ)) (q : Playing) (last : Option (List ℕ)) → i < length items
    → x ≡ get_or items i x → IsGroupRun p (map plain_group_said (take i items)) first middle q last → IsGroupMissedBy (plain_group_said x) last middle now
    → IsGroupMissed (map plain_group_said items) first now p
set_missed_at p items i x first middle now q last within is run missed = record {
  before = map plain_group_said (take i items);
  said = plain_group_said x;
  after = map plain_group_said (drop (i + 1) items);
  stands = parts_at plain_group_said items i x within is;
  middle = middle;
  now = q;
  last = last;
  run = run;
  missed = missed;
}
