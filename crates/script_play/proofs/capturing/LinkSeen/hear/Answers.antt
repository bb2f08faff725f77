use Rattle.std.proofs.Common.{take, get_or, ◌++◌, ◌∷◌, [], List, ℕ, subst}
use Rattle.std.proofs.lemmas.List.{take_all}
use Rattle.script_play.proofs.Capturings.{HeardSoFar, none_heard, more_heard, one_more_heard}
use Rattle.script_play.proofs.capturing.LinkSeen.hear.Goals as goal

pub loop-octet-init : goal.loop-octet-init
loop-octet-init g c every came ss begun so_far = none_heard c.args.link c.args.at every came ss begun _ c.args.self.now so_far

pub loop-octet-preserved : goal.loop-octet-preserved
loop-octet-preserved g c every came ss begun so_far =
    let i : ℕ = c.loop-octet.octet-index in
    let octets : List ℕ = c.args.octets.now in
    one_more_heard c.args.link c.args.at every came octets i ss begun _ _ c.loop-octet-test.true
    (more_heard c.args.link c.args.at every came (take i octets) (get_or octets i 0 ∷ []) ss begun _ _ _ _ (c.loop-octet.invariant every came ss begun so_far)
    (λ seen now. c.in_ok-hear_one.ensures every (came ++ take i octets) seen begun now))

pub returns : goal.returns
returns g c every came ss begun so_far =
    let octets : List ℕ = c.args.octets.now in
    let h = c.loop-octet.invariant every came ss begun so_far in
    let P : List ℕ → Type 0 = λ xs. HeardSoFar c.args.link c.args.at every came xs ss begun (g.T.Write.contents c.loop-octet.out) c.loop-octet.self in
    let all = subst P (take_all c.loop-octet.octet-index octets c.loop-octet-test.false) h in
    (all.last, all.hears, all.capturing)
