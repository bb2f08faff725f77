-- The trace of a link set's run: one more command.
use Rattle.std.proofs.Common.{◌≡◌, ◌∙◌, ℕ, suc, ◌+◌, ◌<◌, ◌≤◌, ◌==◌, Bool, true, false, List, [], ◌∷◌, ◌++◌, length, map, take, drop, get_or, Option, None, Some, codes, eqb-true, arith, refl, sym, ap, subst}
use Rattle.std.specs.Prelude.{All, slice_get, option_map}
use Rattle.std.specs.Fmt.{decimal}
use Rattle.std.specs.Io.KnownBytes.{Appends}
use Rattle.std.proofs.KnownBytes.{Appends-nil, Appends-trans}
use Rattle.std.proofs.lemmas.Bool.{false≢true}
use Rattle.std.proofs.lemmas.List.{length-map}
use Rattle.std.proofs.lemmas.List.Elements.{All-nil, All-cons, All-head, All-tail}
use Rattle.std.proofs.lemmas.Option.{slice_get-map, none-some, same_Some}
use Rattle.turn_code.specs.declared.draft.Draft.{Draft}
use Rattle.actor_machine.specs.Core.{Core}
use Rattle.actor_machine.specs.Ledger.{Ledger, next, state_of}
use Rattle.script_lines.specs.Lines.{PlainLine}
use Rattle.script_links.specs.GroupCommands.{PlainGroupCommand}
use Rattle.script_links.specs.GroupCommands as group
use Rattle.script_links.specs.GroupScripts.{PlainGroupSaid, plain_group_said}
use Rattle.script_links.specs.declared.group_script.GroupSaid.{GroupSaid}
use Rattle.script_links.specs.declared.heads.GroupHead.{GroupHead}
use Rattle.script_links.specs.resend_store_types.messages.Mode.{Mode}
use Rattle.script_links.specs.resend_store_types.messages.RoundLimits.{RoundLimits}
use Rattle.link_group.specs.Links.{read_at}
use Rattle.link_group.specs.New.{new_set}
use Rattle.link_group.specs.Reading.{book_of}
use Rattle.script_ends.specs.Term.{Term}
use Rattle.link_group.specs.declared.link.Link.{Link}
use Rattle.script_ends.specs.TermRuns.{latest, IsNewWithin}
use Rattle.script_ends.specs.GroupAnswers.{Playing, Obeys}
use Rattle.script_ends.specs.GroupRuns.{OWN_POINT, OTHER_POINT, begun as begun_set, AreNew, begins as group_begins, IsGroupRun, IsGroupWritten, IsGroupMissed, IsGroupMissedBy, HasObeyed, was_met, was_done}
use Rattle.plain_text.specs.Lines.{line_of}
use Rattle.script_seen.specs.Kinds.{group_line}
use Rattle.script_seen.specs.Traced.{since, told_text, are_in_step, IsFront}
use Rattle.script_seen.specs.Following.{Agree, IsFollowed}
use Rattle.script_seen.specs.TracedGroups.{group_only_asks, Reached, reach, under_name, links_text, all_reach, AreReached, reached_at, books_of, clock_in, IsNewBook, AreNewLinks, Traces, begins, more, holds, IsGroupTraced, IsGroupTracedInPart}
use Rattle.script_seen.specs.TracingGroups.{is_expectation, IsToldBy, IsAtLink, AreAtLinks, IsToldBehind, IsGroupTracing}
use Rattle.script_seen.specs.declared.tracing.Tracer.{Tracer}
use Rattle.script_seen.proofs.Showings.{one_more, parts_at, all_taken}
use Rattle.script_seen.proofs.Tracings.{came_to}
use Rattle.script_seen.proofs.LinkTraces.{TracedOne}
use Rattle.script_seen.proofs.SetMessages.{told_so}

-- ---- links

read_in : (o : Option Link) → option_map book_of o ≡ read_at book_of o
read_in None = refl
read_in (Some k) = refl

first_clock : (bs : List Ledger) (b : Ledger) → slice_get bs 0 ≡ Some b → (state_of b).timers.clock ≡ clock_in bs
first_clock [] b is = absurd (none-some b is)
first_clock (c ∷ bs) b is = ap (λ (x : Ledger). (state_of x).timers.clock) (sym (same_Some c b is))

no_clock : (bs : List Ledger) → slice_get bs 0 ≡ None → 0 ≡ clock_in bs
no_clock [] none = refl
no_clock (b ∷ bs) none = absurd (none-some b (sym none))

pub book_there : (p : Playing) (n : ℕ) (b : Ledger) → Some b ≡ read_at book_of (slice_get p.set.links n) → slice_get (books_of p) n ≡ Some b
book_there p n b is = slice_get-map book_of p.set.links n ∙ (read_in (slice_get p.set.links n) ∙ sym is)

-- the ticks of the link set are those of its first link
pub clock_first : (p : Playing) (b : Ledger) (time : ℕ) → Some b ≡ read_at book_of (slice_get p.set.links 0) → time ≡ (state_of b).timers.clock
    → time ≡ clock_in (books_of p)
clock_first p b time is ran = ran ∙ first_clock (books_of p) b (book_there p 0 b is)

pub clock_nowhere : (p : Playing) → None ≡ read_at book_of (slice_get p.set.links 0) → 0 ≡ clock_in (books_of p)
clock_nowhere p is = no_clock (books_of p) (slice_get-map book_of p.set.links 0 ∙ (read_in (slice_get p.set.links 0) ∙ sym is))

-- the line that names a link is written only if text follows it
pub under_none : (link : ℕ) (text : List ℕ) (old : Option (List ℕ)) → (length text == 0) ≡ true → Appends old old (under_name link text)
under_none link [] old is = Appends-nil old
under_none link (x ∷ text) old is = absurd (let e : suc (length text) ≡ 0 = eqb-true (length (x ∷ text)) 0 is in omega (arith, e))

pub under_some : (link : ℕ) (text name : List ℕ) (old mid new : Option (List ℕ)) → (length text == 0) ≡ false → name ≡ line_of (codes "on " ++ decimal link)
    → Appends old mid name → Appends mid new text → Appends old new (under_name link text)
under_some link [] name old mid new is same named behind = absurd (false≢true (sym is))
under_some link (x ∷ text) name old mid new is same named behind =
    let N : List ℕ → Type 0 = λ bs. Appends old mid bs in
    Appends-trans old mid new (line_of (codes "on " ++ decimal link)) (x ∷ text) (subst N same named) behind

-- the text from the tracer of a link
pub followed_one : (d : Draft) (r : Reached) (bs : List Ledger) (n : ℕ) (b : Ledger) (t u : Tracer) (before text shown : List ℕ) (old new : Option (List ℕ)) → before ≡ []
    → slice_get bs n ≡ Some b → IsAtLink d r t → b.first ≤ next t.again → IsFollowed t (since (next t.again) b) u (Some before) (Some text)
    → are_in_step (state_of u.again) (state_of b) ≡ true → shown ≡ text → Appends old new (under_name n shown) → TracedOne d r bs n t.every u old new
followed_one d r bs n b t u before text shown old new empty there at within followed in_step is written =
    let came = came_to d r.place r.core b t u (Some before) (Some text) at followed in
    let told = told_text t.every d r.core (since r.place b) in
    let agree : Agree t = at.timers ∙ ap (λ (x : Core). x.timers) (sym at.state) in
    let F : ℕ → Type 0 = λ m. b.first ≤ m in
    let S : Core → Type 0 = λ w. are_in_step w (state_of b) ≡ true in
    let W : List ℕ → Type 0 = λ ts. Appends old new (under_name n ts) in (
      b,
      there,
      (subst F at.place_is within, subst S came.state in_step),
      record {
        set = followed.set ∙ at.set;
        place_is = came.place_is;
        state = came.state;
        timers = followed.agree agree ∙ ap (λ (x : Core). x.timers) came.state;
      },
      subst W (is ∙ (came.told ∙ ap (λ (bs : List ℕ). bs ++ told) empty)) written,
    )

-- ---- one command

pub told_behind : (every : Bool) (lines : List PlainLine) (d : Draft) (said : PlainGroupSaid) (q : Playing) (last : Option (List ℕ)) (rs : List Reached)
    (old mid later new : Option (List ℕ)) (tracers : List Tracer) (clock : ℕ) (told : List ℕ) → clock ≡ clock_in (books_of q)
    → ((front : List ℕ) × IsFront (group_only_asks said.command) lines (group_line said) front × Appends old mid front)
    → IsToldBy clock said.command last told → Appends mid later told
    → AreReached d rs (books_of q) × AreAtLinks every d (all_reach d rs (books_of q)) tracers × Appends later new (links_text every d 0 rs (books_of q))
    → IsToldBehind every lines d said q last rs old new tracers
told_behind every lines d said q last rs old mid later new tracers clock told now f is grew l =
    let K : ℕ → Type 0 = λ k. IsToldBy k said.command last told in
    let text = links_text every d 0 rs (books_of q) in
    record {
      front = f.0;
      told = told;
      is_front = f.1;
      is_told = subst K now is;
      reached = l.0;
      are_at = l.1;
      written = Appends-trans old mid new f.0 (told ++ text) f.2 (Appends-trans mid later new told text grew l.2);
    }

no_expectation : (c : PlainGroupCommand) (text : List ℕ) → c ≡ group.expected text → is_expectation c ≡ false → ⊥
no_expectation c text is not =
    let P : PlainGroupCommand → Type 0 = λ x. is_expectation x ≡ false in
    absurd (false≢true (sym (subst P is not)))

expects_nothing : (c : PlainGroupCommand) (p : Playing) (printed : List (List ℕ)) (q : Playing) → is_expectation c ≡ true → Obeys c p printed q → ⊥
expects_nothing (group.expected text) p printed q is obeys = obeys
expects_nothing (group.order o) p printed q is obeys = absurd (false≢true is)
expects_nothing (group.unit octets) p printed q is obeys = absurd (false≢true is)
expects_nothing (group.line octets) p printed q is obeys = absurd (false≢true is)
expects_nothing (group.out n) p printed q is obeys = absurd (false≢true is)
expects_nothing (group.ticks n) p printed q is obeys = absurd (false≢true is)
expects_nothing (group.state process) p printed q is obeys = absurd (false≢true is)
expects_nothing (group.shown process variable) p printed q is obeys = absurd (false≢true is)
expects_nothing (group.on link) p printed q is obeys = absurd (false≢true is)
expects_nothing (group.sending octets) p printed q is obeys = absurd (false≢true is)
expects_nothing (group.bound octets) p printed q is obeys = absurd (false≢true is)
expects_nothing (group.message octets) p printed q is obeys = absurd (false≢true is)
expects_nothing (group.admitting way) p printed q is obeys = absurd (false≢true is)
expects_nothing (group.own word) p printed q is obeys = absurd (false≢true is)

-- a command other than `expect` was obeyed and traced
pub set_traced : (every : Bool) (lines : List PlainLine) (d : Draft) (first : Playing) (before : List PlainGroupSaid) (said : PlainGroupSaid)
    (begun old new from to last printed : Option (List ℕ)) (p q : Playing) (ts us : List Tracer)
    → is_expectation said.command ≡ false → HasObeyed said.command from to last printed p q
    → IsGroupTracing every lines d first before begun old p last ts
    → ((rs : List Reached) → AreAtLinks every d rs ts → IsToldBehind every lines d said q printed rs old new us)
    → IsGroupTracing every lines d first (before ++ said ∷ []) begun new q printed us
set_traced every lines d first before said begun old new from to last printed p q ts us not (was_met text is met same kept stays) so_far behind =
    absurd (no_expectation said.command text is not)
set_traced every lines d first before said begun old new from to last printed p q ts us not (was_done given obeys has) so_far behind =
    let b = behind so_far.reached so_far.are_at in
    let text = links_text every d 0 so_far.reached (books_of q) in
    let L : Option (List ℕ) → Type 0 = λ l. IsToldBy (clock_in (books_of q)) said.command l b.told in
    let told = told_so (clock_in (books_of q)) said.command p q given last b.told obeys (subst L has.latest_is b.is_told) in
    let T : Option (List ℕ) → Type 0 =
    λ l. Traces every lines d first (before ++ said ∷ []) q l (all_reach d so_far.reached (books_of q)) (so_far.text ++ (b.front ++ (b.told ++ text))) in
    record {
      reached = all_reach d so_far.reached (books_of q);
      text = so_far.text ++ (b.front ++ (b.told ++ text));
      traces = subst T (sym has.latest_is) (more said b.front b.told given q so_far.traces b.is_front obeys told b.reached);
      are_at = b.are_at;
      written = Appends-trans begun old new so_far.text (b.front ++ (b.told ++ text)) so_far.written b.written;
    }

-- an expectation holds
pub set_met : (every : Bool) (lines : List PlainLine) (d : Draft) (first : Playing) (before : List PlainGroupSaid) (said : PlainGroupSaid)
    (begun old from to last printed : Option (List ℕ)) (p q : Playing) (ts : List Tracer)
    → is_expectation said.command ≡ true → HasObeyed said.command from to last printed p q
    → IsGroupTracing every lines d first before begun old p last ts
    → IsGroupTracing every lines d first (before ++ said ∷ []) begun old q printed ts
set_met every lines d first before said begun old from to last printed p q ts expects (was_met text is met same kept stays) so_far =
    let M : Option (List ℕ) → Type 0 = λ l. Traces every lines d first before p l so_far.reached so_far.text in
    let N : Option (List ℕ) → Type 0 = λ l. Traces every lines d first (before ++ said ∷ []) p l so_far.reached so_far.text in
    let Q : Playing → Type 0 = λ x. Traces every lines d first (before ++ said ∷ []) x printed so_far.reached so_far.text in
    record {
      reached = so_far.reached;
      text = so_far.text;
      traces = subst Q (sym stays) (subst N (sym (same ∙ met)) (holds said is (subst M met so_far.traces)));
      are_at = so_far.are_at;
      written = so_far.written;
    }
set_met every lines d first before said begun old from to last printed p q ts expects (was_done given obeys has) so_far =
    absurd (expects_nothing said.command p given q expects obeys)

-- ---- a list of commands

-- the state of a run after some commands of a list
pub record SetGoing (lines : List PlainLine) (p : Playing) (commands : List PlainGroupSaid) (last first now begun told : Option (List ℕ)) (q : Playing)
    (printed : Option (List ℕ)) (ts us : List Tracer) : Type 0 where
  pub run : last ≡ None → IsGroupRun p commands first now q printed
  pub traced : last ≡ None → (every : Bool) (d : Draft) → AreAtLinks every d (map reached_at (books_of p)) ts
      → IsGroupTracing every lines d p commands begun told q printed us

run_begins : (p : Playing) (old last : Option (List ℕ)) → last ≡ None → IsGroupRun p [] old old p last
run_begins p old last none =
    let P : Option (List ℕ) → Type 0 = λ l. IsGroupRun p [] old old p l in
    subst P (sym none) (record { lines = []; goes = group_begins; written = Appends-nil old })

tracing_begins : (every : Bool) (lines : List PlainLine) (d : Draft) (p : Playing) (begun last : Option (List ℕ)) (ts : List Tracer) → last ≡ None
    → AreAtLinks every d (map reached_at (books_of p)) ts → IsGroupTracing every lines d p [] begun begun p last ts
tracing_begins every lines d p begun last ts none at =
    let P : Option (List ℕ) → Type 0 = λ l. IsGroupTracing every lines d p [] begun begun p l ts in
    subst P (sym none) (record { reached = map reached_at (books_of p); text = []; traces = begins; are_at = at; written = Appends-nil begun })

pub set_begins : (lines : List PlainLine) (p : Playing) (last old begun : Option (List ℕ)) (ts : List Tracer) → SetGoing lines p [] last old old begun begun p last ts ts
set_begins lines p last old begun ts = record {
  run = λ none. run_begins p old last none;
  traced = λ none every d at. tracing_begins every lines d p begun last ts none at;
}

-- one more command of a list
pub set_goes_on : (lines : List PlainLine) (p : Playing) (items : List GroupSaid) (i : ℕ) (x : GroupSaid) (last first now begun traced : Option (List ℕ)) (q : Playing)
    (printed : Option (List ℕ)) (ts us : List Tracer) → i < length items → x ≡ get_or items i x
    → SetGoing lines p (map plain_group_said (take i items) ++ plain_group_said x ∷ []) last first now begun traced q printed ts us
    → SetGoing lines p (map plain_group_said (take (i + 1) items)) last first now begun traced q printed ts us
set_goes_on lines p items i x last first now begun traced q printed ts us within is s =
    let P : List PlainGroupSaid → Type 0 = λ commands. SetGoing lines p commands last first now begun traced q printed ts us in
    subst P (one_more plain_group_said items i x within is) s

-- all commands of a list
pub set_gone : (lines : List PlainLine) (p : Playing) (items : List GroupSaid) (i : ℕ) (last first now begun traced : Option (List ℕ)) (q : Playing)
    (printed : Option (List ℕ)) (ts us : List Tracer) → length items ≤ i
    → SetGoing lines p (map plain_group_said (take i items)) last first now begun traced q printed ts us
    → SetGoing lines p (map plain_group_said items) last first now begun traced q printed ts us
set_gone lines p items i last first now begun traced q printed ts us over s =
    let P : List PlainGroupSaid → Type 0 = λ commands. SetGoing lines p commands last first now begun traced q printed ts us in
    subst P (all_taken plain_group_said items i over) s

pub set_written : (p : Playing) (commands : List PlainGroupSaid) (first now : Option (List ℕ)) (q : Playing) (printed : Option (List ℕ)) → IsGroupRun p commands first now q printed
    → IsGroupWritten commands first now p
set_written p commands first now q printed run = record { now = q; last = printed; run = run }

pub set_traced_all : (every : Bool) (lines : List PlainLine) (d : Draft) (p : Playing) (commands : List PlainGroupSaid) (begun now : Option (List ℕ)) (q : Playing)
    (printed : Option (List ℕ)) (us : List Tracer) → IsGroupTracing every lines d p commands begun now q printed us → IsGroupTraced every lines d commands begun now p
set_traced_all every lines d p commands begun now q printed us s =
    record { now = q; last = printed; reached = s.reached; text = s.text; traces = s.traces; written = s.written }

-- an expectation in a list that fails
pub set_missed_at : (p : Playing) (items : List GroupSaid) (i : ℕ) (x : GroupSaid) (first middle now : Option (List ℕ)) (q : Playing) (last : Option (List ℕ)) → i < length items
    → x ≡ get_or items i x → IsGroupRun p (map plain_group_said (take i items)) first middle q last → IsGroupMissedBy (plain_group_said x) last middle now
    → IsGroupMissed (map plain_group_said items) first now p
set_missed_at p items i x first middle now q last within is run missed = record {
  before = map plain_group_said (take i items);
  said = plain_group_said x;
  after = map plain_group_said (drop (i + 1) items);
  stands = parts_at plain_group_said items i x within is;
  middle = middle;
  now = q;
  last = last;
  run = run;
  missed = missed;
}

pub set_traced_part : (every : Bool) (lines : List PlainLine) (d : Draft) (p : Playing) (items : List GroupSaid) (i : ℕ) (x : GroupSaid) (begun now new : Option (List ℕ))
    (q : Playing) (last middle later : Option (List ℕ)) (us : List Tracer) → i < length items → x ≡ get_or items i x → new ≡ now
    → IsGroupMissedBy (plain_group_said x) last middle later → IsGroupTracing every lines d p (map plain_group_said (take i items)) begun now q last us
    → IsGroupTracedInPart every lines d (map plain_group_said items) begun new p
set_traced_part every lines d p items i x begun now new q last middle later us within is same missed s =
    let W : Option (List ℕ) → Type 0 = λ w. Appends begun w s.text in
    record {
      before = map plain_group_said (take i items);
      said = plain_group_said x;
      after = map plain_group_said (drop (i + 1) items);
      stands = parts_at plain_group_said items i x within is;
      now = q;
      last = last;
      reached = s.reached;
      text = s.text;
      traces = s.traces;
      written = subst W (sym same) s.written;
      expectation = missed.text;
      expects = missed.expects;
      other = missed.other;
    }

-- ---- a new link set

new_books : (d : Draft) (limits : RoundLimits) (mode : Mode) (f : Term → Link) (ts : List Term) → ((t : Term) → book_of (f t) ≡ t.processes.book)
    → All (λ t. IsNewWithin d mode t limits) ts → All (IsNewBook d) (map book_of (map f ts))
new_books d limits mode f [] kept new = All-nil (IsNewBook d)
new_books d limits mode f (t ∷ ts) kept new =
    let P : Term → Type 0 = λ x. IsNewWithin d mode x limits in
    let first : P t = All-head P t ts new in
    All-cons (IsNewBook d) (book_of (f t)) (map book_of (map f ts)) (kept t ∙ first.book) (new_books d limits mode f ts kept (All-tail P t ts new))

pub new_links : (d : Draft) (limits : RoundLimits) (head : GroupHead) (ts : List Term) → AreNew d limits head ts
    → AreNewLinks d head (begun_set (new_set OWN_POINT OTHER_POINT ts))
unfolding new_set
new_links d limits head ts new =
    record { number = length-map _ book_of ∙ (length-map ts _ ∙ new.number); new = new_books d limits head.mode _ ts (λ t. refl) new.are_new }
