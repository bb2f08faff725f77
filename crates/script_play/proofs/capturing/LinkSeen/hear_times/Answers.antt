use Rattle.std.proofs.Common.{◌≡◌, ◌++◌, ℕ, rules, subst}
use Rattle.script_play.specs.Captured.{repeated}
use Rattle.script_play.proofs.Capturings.{HeardSoFar, none_heard, more_heard, once_more}
use Rattle.script_play.proofs.capturing.LinkSeen.hear_times.Goals as goal

pub loop-time-init : goal.loop-time-init
loop-time-init g c every came ss begun so_far = none_heard c.args.link c.args.at every came ss begun _ c.args.self.now so_far

pub loop-time-preserved : goal.loop-time-preserved
loop-time-preserved g c every came ss begun so_far =
    let n = c.loop-time._time in
    let octets = c.args.octets.now in
    once_more c.args.link c.args.at every came octets n ss begun _ _
    (more_heard c.args.link c.args.at every came (repeated n octets) octets ss begun _ _ _ _ (c.loop-time.invariant every came ss begun so_far)
    (λ seen now. c.in_ok-hear.ensures every (came ++ repeated n octets) seen begun now))

pub returns : goal.returns
returns g c every came ss begun so_far =
    let h = c.loop-time.invariant every came ss begun so_far in
    let P : ℕ → Type 0 = λ n. HeardSoFar c.args.link c.args.at every came (repeated n c.args.octets.now) ss begun (g.T.Write.contents c.loop-time.out) c.loop-time.self in
    let end : c.loop-time._time ≡ c.args.times = search rules in
    let all = subst P end h in
    (all.last, all.hears, all.capturing)
