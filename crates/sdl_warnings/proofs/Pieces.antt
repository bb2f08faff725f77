-- Lists that grow by one piece after another.
use Rattle.std.proofs.Common.{◌≡◌, List, ◌++◌, ap, ◌∙◌, append_assoc}

pub then_more : {A : Type 0} (old mid new a b : List A) → mid ≡ old ++ a → new ≡ mid ++ b → new ≡ old ++ (a ++ b)
then_more old mid new a b first second = second ∙ (ap (λ l. l ++ b) first ∙ append_assoc old a b)

-- seven pieces, in groups of two, three and two
pub in_groups : {A : Type 0} (old one two new a b c d e f g : List A) → one ≡ old ++ (a ++ b) → two ≡ one ++ (c ++ (d ++ e)) → new ≡ two ++ (f ++ g)
    → new ≡ old ++ (a ++ (b ++ (c ++ (d ++ (e ++ (f ++ g))))))
in_groups old one two new a b c d e f g first second third =
    let last = f ++ g in
    then_more old one new (a ++ b) ((c ++ (d ++ e)) ++ last) first (then_more one two new (c ++ (d ++ e)) last second third)
    ∙ ap (λ l. old ++ l)
    (append_assoc a b ((c ++ (d ++ e)) ++ last) ∙ ap (λ l. a ++ (b ++ l)) (append_assoc c (d ++ e) last ∙ ap (λ l. c ++ l) (append_assoc d e last)))
