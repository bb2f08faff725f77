-- Lines that show the state of a set.
use Rattle.std.proofs.Common.{◌≡◌, ℕ, suc, ◌+◌, List, ◌++◌, Option, None, Some, sym, ap, arith, ◌∙◌}
use Rattle.std.specs.Prelude.{codes}
use Rattle.std.specs.Fmt.{decimal}
use Rattle.actor_machine.specs.Ledger.{Ledger}
use Rattle.link_group.specs.declared.link.Link.{Link}
use Rattle.link_group.specs.Links.{read_at}
use Rattle.link_group.specs.Reading.{held_count, sent_count, book_of}
use Rattle.script_book.specs.Answers.{actor_named, state_line}
use Rattle.script_ends.specs.Shown.{entry_at, entries_to, waited_text}
use Rattle.script_ends.specs.GroupAnswers.{NO_LINK, held_line, state_at, value_at}

pub entries_more : (ts : List (Option ℕ)) (n : ℕ) (old new : List ℕ) → old ≡ entries_to ts n → new ≡ old ++ codes ", " ++ entry_at ts (n + 1)
    → new ≡ entries_to ts (n + 1)
unfolding entries_to
entries_more ts n old new is more =
    let number : suc n ≡ n + 1 = omega arith in
    more
    ∙ (ap (λ t. t ++ codes ", " ++ entry_at ts (n + 1)) is
    ∙ (ap (λ k. entries_to ts n ++ codes ", " ++ entry_at ts k) (sym number) ∙ ap (entries_to ts) number))

pub entries_first : (ts : List (Option ℕ)) (old : List ℕ) → old ≡ entry_at ts 0 → old ≡ entries_to ts 0
unfolding entries_to
entries_first ts old is = is

pub held_is : (o : Option Link) (n m : ℕ) (text : List ℕ) → Some n ≡ read_at held_count o → Some m ≡ read_at sent_count o
    → text ≡ decimal n ++ codes " sent " ++ decimal m → text ≡ held_line o
held_is None n m text held sent is = absurd (cc)
held_is (Some k) n m text held sent is =
    let a : n ≡ held_count k = cc in
    let b : m ≡ sent_count k = cc in
    is ∙ (ap (λ x. decimal x ++ codes " sent " ++ decimal m) a ∙ ap (λ x. decimal (held_count k) ++ codes " sent " ++ decimal x) b)

pub state_is : (o : Option Link) (b : Ledger) (process text : List ℕ) → Some b ≡ read_at book_of o → text ≡ state_line b (actor_named b process)
    → text ≡ state_at process o
state_is None b process text is shown = absurd (cc)
state_is (Some k) b process text is shown = let same : b ≡ book_of k = cc in shown ∙ ap (λ x. state_line x (actor_named x process)) same

pub state_nowhere : (o : Option Link) (process text : List ℕ) → None ≡ read_at book_of o → text ≡ NO_LINK → text ≡ state_at process o
state_nowhere None process text none is = is
state_nowhere (Some k) process text none is = absurd (cc)

pub value_nowhere : (o : Option Link) (process variable text : List ℕ) → None ≡ read_at book_of o → text ≡ NO_LINK → text ≡ value_at process variable o
value_nowhere None process variable text none is = is
value_nowhere (Some k) process variable text none is = absurd (cc)

pub waited_is : (waited : Option ℕ) (n : ℕ) (old new : List ℕ) → waited ≡ Some n → new ≡ waited_text (Some n) old → new ≡ waited_text waited old
waited_is waited n old new is grown = grown ∙ ap (λ (o : Option ℕ). waited_text o old) (sym is)
