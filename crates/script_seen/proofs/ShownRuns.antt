-- The echo of a run of each kind of script: one more command.
use Rattle.std.proofs.Common.{◌≡◌, ℕ, Bool, ◌+◌, ◌<◌, ◌≤◌, List, [], ◌∷◌, ◌++◌, length, map, take, drop, get_or, Option, None, Some, refl, sym, ap, subst}
use Rattle.std.specs.Io.KnownBytes.{Appends}
use Rattle.std.proofs.KnownBytes.{Appends-nil}
use Rattle.actor_machine.specs.Ledger.{Ledger}
use Rattle.script_lines.specs.Lines.{PlainLine}
use Rattle.script_lines.specs.Scripts.{PlainSaid, plain_said}
use Rattle.script_lines.specs.declared.script.Said.{Said}
use Rattle.script_links.specs.TermScripts.{PlainTermSaid, plain_term_said}
use Rattle.script_links.specs.declared.script.TermSaid.{TermSaid}
use Rattle.script_links.specs.GroupScripts.{PlainGroupSaid, plain_group_said}
use Rattle.script_links.specs.declared.group_script.GroupSaid.{GroupSaid}
use Rattle.script_ends.specs.Term.{Term}
use Rattle.script_ends.specs.Played.{begins as book_begins, IsRun, IsMissedBy}
use Rattle.script_ends.specs.TermRuns.{begins as term_begins, IsTermRun, IsTermMissedBy}
use Rattle.script_ends.specs.GroupAnswers.{Playing}
use Rattle.script_ends.specs.GroupRuns.{begins as group_begins, IsGroupRun, IsGroupMissedBy}
use Rattle.script_seen.specs.Kinds.{book_line, Prints, PrintsMissed, BookShowing, BookMissing, IsBookShown, IsBookShownMissed, term_line, TermPrints, TermPrintsMissed, TermShowing, TermMissing, IsTermShownBy, IsTermShownMissedBy, group_line, GroupPrints, GroupPrintsMissed, GroupShowing, GroupMissing, IsGroupShown, IsGroupShownMissed}
use Rattle.script_seen.proofs.Showings.{HasFront, showing_begins, showing_more, missing_is, behind_is, one_more, parts_at, all_taken}

-- ---- books

-- no command was obeyed yet
pub book_starts : (lines : List PlainLine) (b : Ledger) (old last : Option (List ℕ)) (printed : List ℕ) → printed ≡ [] → last ≡ None
    → BookShowing lines b [] old old printed b last
book_starts lines b old last printed empty none =
    let P : Option (List ℕ) → Type 0 = λ l. IsRun b [] (Some []) (Some []) b l in
    let Q : List ℕ → Type 0 = λ bs. BookShowing lines b [] old old bs b last in
    subst Q (sym empty) (
      showing_begins lines book_line (Prints b) old,
      subst P (sym none) (record { lines = []; goes = book_begins; written = Appends-nil (Some []) }),
    )

pub book_goes : (lines : List PlainLine) (b : Ledger) (before : List PlainSaid) (said : PlainSaid) (first old mid new : Option (List ℕ)) (printed next : List ℕ)
    (now after : Ledger) (last latest : Option (List ℕ)) → BookShowing lines b before first old printed now last → HasFront lines said.line old mid
    → (n : ℕ) (part : List ℕ) → n ≡ length printed → part ≡ next → Appends mid new (drop n part) → IsRun b (before ++ said ∷ []) (Some []) (Some next) after latest
    → BookShowing lines b (before ++ said ∷ []) first new next after latest
book_goes lines b before said first old mid new printed next now after last latest s f n part e g behind run = (
  showing_more lines book_line (Prints b) before said first old mid new printed next s.0 f (behind_is n part printed next mid new e g behind) (record { now = after; last = latest; run = run }),
  run,
)

pub book_misses : (lines : List PlainLine) (b : Ledger) (before : List PlainSaid) (said : PlainSaid) (first old mid new : Option (List ℕ)) (printed next : List ℕ)
    (now : Ledger) (last : Option (List ℕ)) → BookShowing lines b before first old printed now last → HasFront lines said.line old mid
    → (n : ℕ) (part : List ℕ) → n ≡ length printed → part ≡ next → Appends mid new (drop n part) → IsMissedBy said last (Some printed) (Some next) → BookMissing lines b before said first new
book_misses lines b before said first old mid new printed next now last s f n part e g behind m =
    missing_is lines book_line (Prints b) (PrintsMissed b) before said first old mid new printed next s.0 f m.printed (behind_is n part printed next mid new e g behind)
    (record { before = before; said = said; after = []; stands = refl; middle = Some printed; now = now; last = last; run = s.1; missed = m })

-- one more command of a list
pub book_one_more : (lines : List PlainLine) (b : Ledger) (items : List Said) (i : ℕ) (x : Said) (first now : Option (List ℕ)) (printed : List ℕ)
    (state : Ledger) (last : Option (List ℕ)) → i < length items → x ≡ get_or items i x
    → BookShowing lines b (map plain_said (take i items) ++ plain_said x ∷ []) first now printed state last
    → BookShowing lines b (map plain_said (take (i + 1) items)) first now printed state last
book_one_more lines b items i x first now printed state last within is s =
    let P : List PlainSaid → Type 0 = λ commands. BookShowing lines b commands first now printed state last in subst P (one_more plain_said items i x within is) s

-- all commands of a list
pub book_shown : (lines : List PlainLine) (b : Ledger) (items : List Said) (i : ℕ) (first now : Option (List ℕ)) (printed : List ℕ)
    (state : Ledger) (last : Option (List ℕ)) → length items ≤ i → BookShowing lines b (map plain_said (take i items)) first now printed state last
    → IsBookShown lines b (map plain_said items) first now
book_shown lines b items i first now printed state last over s =
    let P : List PlainSaid → Type 0 = λ commands. BookShowing lines b commands first now printed state last in
    record { printed = printed; showing = (subst P (all_taken plain_said items i over) s).0 }

-- an expectation in a list that fails
pub book_missed : (lines : List PlainLine) (b : Ledger) (items : List Said) (i : ℕ) (x : Said) (first now : Option (List ℕ)) → i < length items
    → x ≡ get_or items i x → BookMissing lines b (map plain_said (take i items)) (plain_said x) first now → IsBookShownMissed lines b (map plain_said items) first now
book_missed lines b items i x first now within is m = record {
  before = map plain_said (take i items);
  said = plain_said x;
  after = map plain_said (drop (i + 1) items);
  stands = parts_at plain_said items i x within is;
  missing = m;
}

-- ---- terminals

-- no command was obeyed yet
pub term_starts : (keeps : Bool) (lines : List PlainLine) (b : Term) (old last : Option (List ℕ)) (printed : List ℕ) → printed ≡ [] → last ≡ None
    → TermShowing keeps lines b [] old old printed b last
term_starts keeps lines b old last printed empty none =
    let P : Option (List ℕ) → Type 0 = λ l. IsTermRun keeps b [] (Some []) (Some []) b l in
    let Q : List ℕ → Type 0 = λ bs. TermShowing keeps lines b [] old old bs b last in
    subst Q (sym empty) (
      showing_begins lines term_line (TermPrints keeps b) old,
      subst P (sym none) (record { lines = []; goes = term_begins; written = Appends-nil (Some []) }),
    )

pub term_goes : (keeps : Bool) (lines : List PlainLine) (b : Term) (before : List PlainTermSaid) (said : PlainTermSaid) (first old mid new : Option (List ℕ)) (printed next : List ℕ)
    (now after : Term) (last latest : Option (List ℕ)) → TermShowing keeps lines b before first old printed now last → HasFront lines said.line old mid
    → (n : ℕ) (part : List ℕ) → n ≡ length printed → part ≡ next → Appends mid new (drop n part) → IsTermRun keeps b (before ++ said ∷ []) (Some []) (Some next) after latest
    → TermShowing keeps lines b (before ++ said ∷ []) first new next after latest
term_goes keeps lines b before said first old mid new printed next now after last latest s f n part e g behind run = (
  showing_more lines term_line (TermPrints keeps b) before said first old mid new printed next s.0 f (behind_is n part printed next mid new e g behind) (record { now = after; last = latest; run = run }),
  run,
)

pub term_misses : (keeps : Bool) (lines : List PlainLine) (b : Term) (before : List PlainTermSaid) (said : PlainTermSaid) (first old mid new : Option (List ℕ)) (printed next : List ℕ)
    (now : Term) (last : Option (List ℕ)) → TermShowing keeps lines b before first old printed now last → HasFront lines said.line old mid
    → (n : ℕ) (part : List ℕ) → n ≡ length printed → part ≡ next → Appends mid new (drop n part) → IsTermMissedBy said last (Some printed) (Some next) → TermMissing keeps lines b before said first new
term_misses keeps lines b before said first old mid new printed next now last s f n part e g behind m =
    missing_is lines term_line (TermPrints keeps b) (TermPrintsMissed keeps b) before said first old mid new printed next s.0 f m.printed (behind_is n part printed next mid new e g behind)
    (record { before = before; said = said; after = []; stands = refl; middle = Some printed; now = now; last = last; run = s.1; missed = m })

-- one more command of a list
pub term_one_more : (keeps : Bool) (lines : List PlainLine) (b : Term) (items : List TermSaid) (i : ℕ) (x : TermSaid) (first now : Option (List ℕ)) (printed : List ℕ)
    (state : Term) (last : Option (List ℕ)) → i < length items → x ≡ get_or items i x
    → TermShowing keeps lines b (map plain_term_said (take i items) ++ plain_term_said x ∷ []) first now printed state last
    → TermShowing keeps lines b (map plain_term_said (take (i + 1) items)) first now printed state last
term_one_more keeps lines b items i x first now printed state last within is s =
    let P : List PlainTermSaid → Type 0 = λ commands. TermShowing keeps lines b commands first now printed state last in subst P (one_more plain_term_said items i x within is) s

-- all commands of a list
pub term_shown : (keeps : Bool) (lines : List PlainLine) (b : Term) (items : List TermSaid) (i : ℕ) (first now : Option (List ℕ)) (printed : List ℕ)
    (state : Term) (last : Option (List ℕ)) → length items ≤ i → TermShowing keeps lines b (map plain_term_said (take i items)) first now printed state last
    → IsTermShownBy keeps lines (map plain_term_said items) first now b
term_shown keeps lines b items i first now printed state last over s =
    let P : List PlainTermSaid → Type 0 = λ commands. TermShowing keeps lines b commands first now printed state last in
    record { printed = printed; showing = (subst P (all_taken plain_term_said items i over) s).0 }

-- an expectation in a list that fails
pub term_missed : (keeps : Bool) (lines : List PlainLine) (b : Term) (items : List TermSaid) (i : ℕ) (x : TermSaid) (first now : Option (List ℕ)) → i < length items
    → x ≡ get_or items i x → TermMissing keeps lines b (map plain_term_said (take i items)) (plain_term_said x) first now → IsTermShownMissedBy keeps lines (map plain_term_said items) first now b
term_missed keeps lines b items i x first now within is m = record {
  before = map plain_term_said (take i items);
  said = plain_term_said x;
  after = map plain_term_said (drop (i + 1) items);
  stands = parts_at plain_term_said items i x within is;
  missing = m;
}

-- ---- link sets

-- no command was obeyed yet
pub group_starts : (lines : List PlainLine) (b : Playing) (old last : Option (List ℕ)) (printed : List ℕ) → printed ≡ [] → last ≡ None
    → GroupShowing lines b [] old old printed b last
group_starts lines b old last printed empty none =
    let P : Option (List ℕ) → Type 0 = λ l. IsGroupRun b [] (Some []) (Some []) b l in
    let Q : List ℕ → Type 0 = λ bs. GroupShowing lines b [] old old bs b last in
    subst Q (sym empty) (
      showing_begins lines group_line (GroupPrints b) old,
      subst P (sym none) (record { lines = []; goes = group_begins; written = Appends-nil (Some []) }),
    )

pub group_goes : (lines : List PlainLine) (b : Playing) (before : List PlainGroupSaid) (said : PlainGroupSaid) (first old mid new : Option (List ℕ)) (printed next : List ℕ)
    (now after : Playing) (last latest : Option (List ℕ)) → GroupShowing lines b before first old printed now last → HasFront lines said.line old mid
    → (n : ℕ) (part : List ℕ) → n ≡ length printed → part ≡ next → Appends mid new (drop n part) → IsGroupRun b (before ++ said ∷ []) (Some []) (Some next) after latest
    → GroupShowing lines b (before ++ said ∷ []) first new next after latest
group_goes lines b before said first old mid new printed next now after last latest s f n part e g behind run = (
  showing_more lines group_line (GroupPrints b) before said first old mid new printed next s.0 f (behind_is n part printed next mid new e g behind) (record { now = after; last = latest; run = run }),
  run,
)

pub group_misses : (lines : List PlainLine) (b : Playing) (before : List PlainGroupSaid) (said : PlainGroupSaid) (first old mid new : Option (List ℕ)) (printed next : List ℕ)
    (now : Playing) (last : Option (List ℕ)) → GroupShowing lines b before first old printed now last → HasFront lines said.line old mid
    → (n : ℕ) (part : List ℕ) → n ≡ length printed → part ≡ next → Appends mid new (drop n part) → IsGroupMissedBy said last (Some printed) (Some next) → GroupMissing lines b before said first new
group_misses lines b before said first old mid new printed next now last s f n part e g behind m =
    missing_is lines group_line (GroupPrints b) (GroupPrintsMissed b) before said first old mid new printed next s.0 f m.printed (behind_is n part printed next mid new e g behind)
    (record { before = before; said = said; after = []; stands = refl; middle = Some printed; now = now; last = last; run = s.1; missed = m })

-- one more command of a list
pub group_one_more : (lines : List PlainLine) (b : Playing) (items : List GroupSaid) (i : ℕ) (x : GroupSaid) (first now : Option (List ℕ)) (printed : List ℕ)
    (state : Playing) (last : Option (List ℕ)) → i < length items → x ≡ get_or items i x
    → GroupShowing lines b (map plain_group_said (take i items) ++ plain_group_said x ∷ []) first now printed state last
    → GroupShowing lines b (map plain_group_said (take (i + 1) items)) first now printed state last
group_one_more lines b items i x first now printed state last within is s =
    let P : List PlainGroupSaid → Type 0 = λ commands. GroupShowing lines b commands first now printed state last in subst P (one_more plain_group_said items i x within is) s

-- all commands of a list
pub group_shown : (lines : List PlainLine) (b : Playing) (items : List GroupSaid) (i : ℕ) (first now : Option (List ℕ)) (printed : List ℕ)
    (state : Playing) (last : Option (List ℕ)) → length items ≤ i → GroupShowing lines b (map plain_group_said (take i items)) first now printed state last
    → IsGroupShown lines (map plain_group_said items) first now b
group_shown lines b items i first now printed state last over s =
    let P : List PlainGroupSaid → Type 0 = λ commands. GroupShowing lines b commands first now printed state last in
    record { printed = printed; showing = (subst P (all_taken plain_group_said items i over) s).0 }

-- an expectation in a list that fails
pub group_missed : (lines : List PlainLine) (b : Playing) (items : List GroupSaid) (i : ℕ) (x : GroupSaid) (first now : Option (List ℕ)) → i < length items
    → x ≡ get_or items i x → GroupMissing lines b (map plain_group_said (take i items)) (plain_group_said x) first now → IsGroupShownMissed lines (map plain_group_said items) first now b
group_missed lines b items i x first now within is m = record {
  before = map plain_group_said (take i items);
  said = plain_group_said x;
  after = map plain_group_said (drop (i + 1) items);
  stands = parts_at plain_group_said items i x within is;
  missing = m;
}
