-- Opening the actors of a set, process by process and instance by instance.
use Rattle.std.proofs.Common.{◌≡◌, ℕ, suc, ◌+◌, ◌-◌, ◌*◌, ◌<◌, ◌≤◌, List, [], ◌∷◌, ◌++◌, length, map, drop, get_or, take, sum_by, sym, ap, subst, ◌∙◌, append_assoc, append-nil, arith}
use Rattle.std.specs.List.{AllByRecursion}
use Rattle.std.proofs.lemmas.List.{length-append, length-map, drop_more, drop_all, take_all}
use Rattle.std.proofs.lemmas.List.Sums.{sum_by_more}
use Rattle.turn_code.specs.declared.draft.DraftProcess.{DraftProcess}
use Rattle.actor_machine.specs.Names.{named, instances_from}
use Rattle.actor_machine.proofs.Numbering.{instances_count}
use Rattle.actor_machine.specs.Kept.{opened_actor, opened_from}
use Rattle.actor_machine.specs.declared.actor.Actor.{Actor}
use Rattle.actor_state.specs.Opening.{HasFew}

-- the instances of a process that are still to be opened once `done` of them are open
pub left_of : ℕ → DraftProcess → ℕ → ℕ → List Actor
left_of port p n done = map (opened_actor port p) (instances_from n (done + 1) (p.instances - done))

pub all_left : (port : ℕ) (p : DraftProcess) (n : ℕ) → left_of port p n 0 ≡ map (opened_actor port p) (instances_from n 1 p.instances)
unfolding left_of
all_left port p n =
    ap (λ (k : ℕ). map (opened_actor port p) (instances_from n 1 k)) (let e : p.instances - 0 ≡ p.instances = omega arith in e)

pub none_left : (port : ℕ) (p : DraftProcess) (n done : ℕ) → p.instances ≤ done → left_of port p n done ≡ []
unfolding left_of
none_left port p n done h =
    ap (λ (k : ℕ). map (opened_actor port p) (instances_from n (done + 1) k)) (let e : p.instances - done ≡ 0 = omega arith in e)

pub one_less : (port : ℕ) (p : DraftProcess) (n done : ℕ) → done < p.instances
    → left_of port p n done ≡ opened_actor port p (named n (done + 1)) ∷ left_of port p n (done + 1)
unfolding left_of
one_less port p n done h =
    ap (λ (k : ℕ). map (opened_actor port p) (instances_from n (done + 1) k)) (let e : p.instances - done ≡ suc (p.instances - (done + 1)) = omega arith in e)
    ∙ ap (λ (k : ℕ). opened_actor port p (named n (done + 1)) ∷ map (opened_actor port p) (instances_from n k (p.instances - (done + 1))))
    (let e : suc (done + 1) ≡ done + 1 + 1 = omega arith in e)

-- one more actor is opened
pub instance_more : (port : ℕ) (p : DraftProcess) (n done : ℕ) (before now all : List Actor) (a : Actor) → done < p.instances → before ++ left_of port p n done ≡ all
    → now ≡ before ++ a ∷ [] → a ≡ opened_actor port p (named n (done + 1)) → now ++ left_of port p n (done + 1) ≡ all
instance_more port p n done before now all a less so h e =
    let rest = left_of port p n (done + 1) in
    ap (λ (xs : List Actor). xs ++ rest) h
    ∙ append_assoc before (a ∷ []) rest
    ∙ ap (λ (x : Actor). before ++ x ∷ rest) e
    ∙ ap (λ (xs : List Actor). before ++ xs) (sym (one_less port p n done less))
    ∙ so

-- one more process is opened
pub process_more : (port : ℕ) (n : ℕ) (p : DraftProcess) (ps : List DraftProcess) (before now all : List Actor) → before ++ opened_from port n (p ∷ ps) ≡ all
    → now ≡ before ++ map (opened_actor port p) (instances_from n 1 p.instances) → now ++ opened_from port (suc n) ps ≡ all
process_more port n p ps before now all so h =
    ap (λ (xs : List Actor). xs ++ opened_from port (suc n) ps) h
    ∙ append_assoc before (map (opened_actor port p) (instances_from n 1 p.instances)) (opened_from port (suc n) ps)
    ∙ so

pub processes_more : (port n m : ℕ) (ps : List DraftProcess) (p : DraftProcess) (before now all : List Actor) → n < length ps → p ≡ get_or ps n p → m ≡ n
    → before ++ opened_from port n (drop n ps) ≡ all → now ≡ before ++ map (opened_actor port p) (instances_from m 1 p.instances)
    → now ++ opened_from port (n + 1) (drop (n + 1) ps) ≡ all
processes_more port n m ps p before now all less is same so h =
    let cut : drop n ps ≡ p ∷ drop (n + 1) ps = drop_more ps n p less ∙ ap (λ (x : DraftProcess). x ∷ drop (n + 1) ps) (sym is) in
    let Before : List DraftProcess → Type 0 = λ xs. before ++ opened_from port n xs ≡ all in
    let After : ℕ → Type 0 = λ k. now ++ opened_from port k (drop (n + 1) ps) ≡ all in
    let made : now ≡ before ++ map (opened_actor port p) (instances_from n 1 p.instances) =
    h ∙ ap (λ (k : ℕ). before ++ map (opened_actor port p) (instances_from k 1 p.instances)) same in
    subst After (let e : suc n ≡ n + 1 = omega arith in e) (process_more port n p (drop (n + 1) ps) before now all (subst Before cut so) made)

pub few_more : (n : ℕ) (ps : List DraftProcess) (p : DraftProcess) → n < length ps → AllByRecursion HasFew (drop n ps) → AllByRecursion HasFew (drop (n + 1) ps)
few_more n ps p less few = (subst (AllByRecursion HasFew) (drop_more ps n p less) few).1

pub few_here : (n : ℕ) (ps : List DraftProcess) (p : DraftProcess) → n < length ps → p ≡ get_or ps n p → AllByRecursion HasFew (drop n ps) → HasFew p
few_here n ps p less is few = subst HasFew (sym is) (subst (AllByRecursion HasFew) (drop_more ps n p less) few).0

pub processes_done : (port n : ℕ) (ps : List DraftProcess) (now all : List Actor) → length ps ≤ n → now ++ opened_from port n (drop n ps) ≡ all → now ≡ all
processes_done port n ps now all over so =
    sym (append-nil now) ∙ ap (λ (xs : List DraftProcess). now ++ opened_from port n xs) (sym (drop_all n ps over)) ∙ so

-- there are at most 8 actors for each process
pub opened_few : (port n : ℕ) (ps : List DraftProcess) → AllByRecursion HasFew ps → length (opened_from port n ps) ≤ 8 * length ps
opened_few port n [] all = omega arith
opened_few port n (p ∷ ps) all =
    let first = map (opened_actor port p) (instances_from n 1 p.instances) in
    let both = length-append first (opened_from port (suc n) ps) in
    let mapped = length-map (instances_from n 1 p.instances) (opened_actor port p) in
    let count = instances_count n 1 p.instances in
    let few = all.0.instances in
    let rest = opened_few port (suc n) ps all.1 in
    omega (arith, both, mapped, count, few, rest)

pub actors_few : (port : ℕ) (ps : List DraftProcess) (now : List Actor) → AllByRecursion HasFew ps → length ps ≤ 16 → now ≡ opened_from port 0 ps → length now ≤ 128
actors_few port ps now all few is =
    let count = opened_few port 0 ps all in
    let same = ap length is in
    omega (arith, count, few, same)

-- ---- the number of actors

pub count_more : (n k : ℕ) (ps : List DraftProcess) (p : DraftProcess) → n < length ps → p ≡ get_or ps n p → k ≡ sum_by (λ (x : DraftProcess). x.instances) (take n ps)
    → k + p.instances ≡ sum_by (λ (x : DraftProcess). x.instances) (take (n + 1) ps)
count_more n k ps p less is so =
    let more = sum_by_more (λ (x : DraftProcess). x.instances) ps n p less in
    let same = ap (λ (x : DraftProcess). x.instances) is in
    omega (arith, more, same, so)

pub count_done : (n k : ℕ) (ps : List DraftProcess) → length ps ≤ n → k ≡ sum_by (λ (x : DraftProcess). x.instances) (take n ps)
    → k ≡ sum_by (λ (x : DraftProcess). x.instances) ps
count_done n k ps over so = so ∙ ap (sum_by (λ (x : DraftProcess). x.instances)) (take_all n ps over)
