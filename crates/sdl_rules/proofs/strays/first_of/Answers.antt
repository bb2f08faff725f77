use Rattle.sdl_rules.proofs.strays.first_of.Goals as goal

pub returns : goal.returns
returns c = λ p q one other. record {
  unknown = c.earlier.ensures p.unknown q.unknown one.unknown other.unknown;
  wrong = c.earlier-2.ensures p.wrong q.wrong one.wrong other.wrong;
  divisor = c.earlier-3.ensures p.divisors q.divisors one.divisor other.divisor;
}
