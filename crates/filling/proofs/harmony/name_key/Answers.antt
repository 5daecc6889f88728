-- By the star: the key is among those named, and without a star among those needed.
use Rattle.filling.proofs.harmony.name_key.Goals as goal

pub returns-then-starred : goal.returns-then-starred
returns-then-starred c = rw (c.with-named.ensures, c.if-starred.true)

pub returns : goal.returns
returns c = rw (c.with.ensures, c.with-named.ensures, c.if-starred.false)
