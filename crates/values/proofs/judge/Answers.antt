-- By what the two searches find.
use Rattle.values.specs.Values.{verdict}
use Rattle.values.proofs.judge.Goals as goal

pub returns-in-Some : goal.returns-in-Some
unfolding verdict
returns-in-Some c = simp (← c.find_circular.ensures, c.in-Some.is)

pub returns-in-Some-find_beyond : goal.returns-in-Some-find_beyond
unfolding verdict
returns-in-Some-find_beyond c = rw (← c.find_circular.ensures, c.in_default.is, ← c.find_beyond.ensures, c.in-Some-find_beyond.is)

pub returns-in-None : goal.returns-in-None
unfolding verdict
returns-in-None c = rw (← c.find_circular.ensures, c.in_default.is, ← c.find_beyond.ensures, c.in-None.is)
